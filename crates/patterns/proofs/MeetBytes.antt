-- The bytes of what two patterns meet in: at most twice those of the patterns, and every code is a 32-bit number.
use Prim.Native.Nat.{ℕ, zero, suc, ◌+◌, ◌*◌, ◌<◌, ◌≤◌}
use native.Mathlib.Omega.{arith}
use mathlib.Core.Path.{◌≡◌, refl, ap, ◌∙◌}
use mathlib.Core.Bool.{Bool, true, false, not}
use mathlib.Core.List.{List, [], ◌∷◌}
use lib.ListN.{length, length-append}
use Rattle.program.specs.Syntax.{Span, Symbol, character, identifier, number, s_kind, t_kind, e_kind, Terms, nil, symbol, variable, bracket, call, block}
use Rattle.program.specs.Bytes.{put32, put_span, put_name}
use Rattle.program.specs.Encode.{put_symbol, put_terms, put_sentences}
use Rattle.program.specs.Limits.{Mode, ValidSymbol, ValidTerms}
use Rattle.program.proofs.Complete.{scalar_fits}
use Rattle.program.proofs.Lengths.{span-length, code-length, name-length, terms-length, sentences-length}
use Rattle.program.proofs.Splits.{terms-splits}
use Rattle.patterns.specs.declared.Verdict.{Verdict}
use Rattle.patterns.specs.declared.Verdict.TheVariants.{Disjoint, Overlap, Unknown}
use Rattle.patterns.specs.Expression.{Expression, void, atom, group, ◌⧺◌}
use Rattle.patterns.specs.Marks.{zero_span, put_expression}
use Rattle.patterns.specs.Search.{One, View, view, ends, start, size, sequence}
use Rattle.patterns.specs.Meet.{letter, free, free_one, before, if_overlap, meet_splits, of_first, meet_of_terms, meet_entered, meet_enter, meet_sequence}
use Rattle.patterns.proofs.Size.{one_size, Below, view-below, by_size}
use Rattle.patterns.proofs.Marks.{bytes_of, CodeFits, Coded, joined_length, group-bytes}
use Rattle.patterns.proofs.Meet.{unfold_meet}

-- ---- patterns: their bytes, and their codes

abbrev pub terms_bytes : Terms → ℕ
terms_bytes a = length (put_terms a [])

abbrev symbol_bytes : Symbol → ℕ
symbol_bytes x = length (put_symbol zero_span x [])

symbol-bytes : (s : Span) (x : Symbol) (k : List ℕ) → length (put_symbol s x k) ≡ symbol_bytes x + length k
unfolding put_symbol
symbol-bytes s (character c) k = omega (arith, span-length s (put32 c k), code-length c k, span-length zero_span (put32 c []), code-length c [])
symbol-bytes s (identifier n) k = omega (arith, span-length s (put_name n k), name-length n k, span-length zero_span (put_name n []), name-length n [])
symbol-bytes s (number n) k = omega (arith, span-length s (put_name n k), name-length n k, span-length zero_span (put_name n []), name-length n [])

terms-bytes : (t : Terms) (k : List ℕ) → length (put_terms t k) ≡ terms_bytes t + length k
terms-bytes t k = ap length (terms-splits t k) ∙ length-append (put_terms t []) k

abbrev one_bytes : One → ℕ
one_bytes (One.literal x) = symbol_bytes x
one_bytes One.any-symbol = 10
one_bytes One.any_term = 10
one_bytes One.no-pattern = 0
one_bytes (One.brackets i) = 9 + terms_bytes i

-- A sequence has the bytes of its first term and of the rest.
abbrev BytesIn : ℕ → View → Type 0
BytesIn n View.nothing = Unit {0}
BytesIn n (View.absorbing r) = terms_bytes r ≤ n
BytesIn n (View.one x r) = one_bytes x + terms_bytes r ≤ n

view-bytes : (a : Terms) → BytesIn (terms_bytes a) (view a)
unfolding view put_terms
view-bytes nil = tt
view-bytes (symbol s x r) = omega (arith, symbol-bytes s x (put_terms r []))
view-bytes (variable s s_kind n r) = omega (arith, span-length s (put_name n (put_terms r [])), name-length n (put_terms r []))
view-bytes (variable s t_kind n r) = omega (arith, span-length s (put_name n (put_terms r [])), name-length n (put_terms r []))
view-bytes (variable s e_kind n r) = omega (arith, span-length s (put_name n (put_terms r [])), name-length n (put_terms r []))
view-bytes (bracket s i r) = omega (arith, span-length s (put_terms i (put_terms r [])), terms-bytes i (put_terms r []))
view-bytes (call s f a r) = omega (arith, span-length s (put_name f (put_terms a (put_terms r []))), name-length f (put_terms a (put_terms r [])), terms-length a (put_terms r []))
view-bytes (block s a b r) = omega (arith, span-length s (put_terms a (put_sentences b (put_terms r []))), terms-length a (put_sentences b (put_terms r [])), sentences-length b (put_terms r []))

abbrev pub CodedTerms : Terms → Type 0
CodedTerms nil = Unit {0}
CodedTerms (symbol s x r) = CodeFits x × CodedTerms r
CodedTerms (variable s k n r) = CodedTerms r
CodedTerms (bracket s i r) = CodedTerms i × CodedTerms r
CodedTerms (call s f a r) = CodedTerms r
CodedTerms (block s a b r) = CodedTerms r

valid-code : (x : Symbol) → ValidSymbol x → CodeFits x
valid-code (character c) h = scalar_fits c h
valid-code (identifier n) h = tt
valid-code (number n) h = tt

pub valid_coded : (a : Terms) (d : ℕ) → ValidTerms a Mode.pattern d → CodedTerms a
valid_coded nil d h = tt
valid_coded (symbol s x r) d h = (valid-code x h.1, valid_coded r d h.2)
valid_coded (variable s k n r) d h = valid_coded r d h.2
valid_coded (bracket s i r) d h = (valid_coded i (suc d) h.2, valid_coded r d h.3)
valid_coded (call s f a r) d h = absurd h.2
valid_coded (block s a b r) d h = absurd h.2

abbrev CodedOne : One → Type 0
CodedOne (One.literal x) = CodeFits x
CodedOne One.any-symbol = Unit {0}
CodedOne One.any_term = Unit {0}
CodedOne One.no-pattern = Unit {0}
CodedOne (One.brackets i) = CodedTerms i

abbrev CodedView : View → Type 0
CodedView View.nothing = Unit {0}
CodedView (View.absorbing r) = CodedTerms r
CodedView (View.one x r) = CodedOne x × CodedTerms r

view_coded : (a : Terms) → CodedTerms a → CodedView (view a)
unfolding view
view_coded nil h = tt
view_coded (symbol s x r) h = h
view_coded (variable s s_kind n r) h = (tt, h)
view_coded (variable s t_kind n r) h = (tt, h)
view_coded (variable s e_kind n r) h = h
view_coded (bracket s i r) h = h
view_coded (call s f a r) h = (tt, h)
view_coded (block s a b r) h = (tt, h)

-- ---- expressions of so many bytes

pub record Within (n : ℕ) (v : Expression) : Type 0 where
  pub short : length (bytes_of v) ≤ n
  pub coded : Coded v

within_more : {n m : ℕ} {v : Expression} → Within n v → n ≤ m → Within m v
within_more w l = record { short = omega (arith, w.short, l); coded = w.coded }

within-nothing : (n : ℕ) → Within n void
unfolding put_expression
within-nothing n = record { short = omega arith; coded = tt }

coded_joins : (u v : Expression) → Coded u → Coded v → Coded (u ⧺ v)
unfolding ◌⧺◌
coded_joins void v h k = k
coded_joins (atom x u) v h k = (h.0, coded_joins u v h.1 k)
coded_joins (group i u) v h k = (h.0, coded_joins u v h.1 k)

within_joins : {n m : ℕ} (u v : Expression) → Within n u → Within m v → Within (n + m) (u ⧺ v)
within_joins u v h k = record { short = omega (arith, joined_length u v, h.short, k.short); coded = coded_joins u v h.coded k.coded }

within-symbol : (x : Symbol) → CodeFits x → Within (2 * symbol_bytes x) (atom x void)
unfolding put_expression
within-symbol x h = record { short = omega arith; coded = (h, tt) }

within-letter : Within 20 (atom letter void)
unfolding put_expression letter put_symbol put_span put32
within-letter = record { short = omega arith; coded = (omega arith, tt) }

within-group : {n : ℕ} (u : Expression) → Within n u → Within (10 + n) (group u void)
unfolding put_span put32
within-group u h = record { short = omega (arith, ap length (group-bytes u), length-append (bytes_of u) (15 ∷ []), h.short); coded = (h.coded, tt) }

-- ---- free patterns

free-within : (a : Terms) → CodedTerms a → Within (2 * terms_bytes a) (free a)
unfolding free ◌⧺◌ put_terms
free-within nil h = within-nothing _
free-within (symbol s x r) h = within_more (within_joins (atom x void) (free r) (within-symbol x h.0) (free-within r h.1)) (omega (arith, symbol-bytes s x (put_terms r [])))
free-within (variable s s_kind n r) h = within_more (within_joins (atom letter void) (free r) within-letter (free-within r h)) (omega (arith, span-length s (put_name n (put_terms r [])), name-length n (put_terms r [])))
free-within (variable s t_kind n r) h = within_more (within_joins (atom letter void) (free r) within-letter (free-within r h)) (omega (arith, span-length s (put_name n (put_terms r [])), name-length n (put_terms r [])))
free-within (variable s e_kind n r) h = within_more (free-within r h) (omega (arith, span-length s (put_name n (put_terms r [])), name-length n (put_terms r [])))
free-within (bracket s i r) h =
    within_more (within_joins (group (free i) void) (free r) (within-group (free i) (free-within i h.0)) (free-within r h.1)) (omega (arith, span-length s (put_terms i (put_terms r [])), terms-bytes i (put_terms r [])))
free-within (call s f a r) h =
    within_more (free-within r h) (omega (arith, span-length s (put_name f (put_terms a (put_terms r []))), name-length f (put_terms a (put_terms r [])), terms-length a (put_terms r [])))
free-within (block s a b r) h =
    within_more (free-within r h) (omega (arith, span-length s (put_terms a (put_sentences b (put_terms r []))), terms-length a (put_sentences b (put_terms r [])), sentences-length b (put_terms r [])))

one-within : (x : One) → CodedOne x → Within (2 * one_bytes x) (free_one x)
unfolding free_one
one-within (One.literal x) h = within-symbol x h
one-within One.any-symbol h = within-letter
one-within One.any_term h = within-letter
one-within One.no-pattern h = within-nothing _
one-within (One.brackets i) h = within_more (within-group (free i) (free-within i h)) (omega arith)

-- ---- the meeting

if_within : {n : ℕ} (w : Verdict) (u v : Expression) → Within n u → Within n v → Within n (if_overlap w u v)
if_within Disjoint u v h k = k
if_within Overlap u v h k = h
if_within Unknown u v h k = k

-- The calls on smaller sequences.
abbrev Met : Terms → Terms → Type 0
Met a b = (c : Bool) (f : ℕ) → CodedTerms a → CodedTerms b → Within (2 * (terms_bytes a + terms_bytes b)) (meet_sequence c f a b)

module _ (n : ℕ) (met : (a b : Terms) → size a + size b < n → Met a b) where
  -- One split, and then those after it, which take the first term of o.
  split_within : (c : Bool) (r o p : Terms) (x : One) (os : List Terms) (f : ℕ) → size r + size o < n → CodedTerms r → CodedTerms o → view o ≡ View.one x p → CodedOne x → one_bytes x + terms_bytes p ≤ terms_bytes o
      → ((g : ℕ) → Within (2 * (terms_bytes r + terms_bytes p)) (meet_splits meet_sequence c r os g)) → Within (2 * (terms_bytes r + terms_bytes o)) (meet_splits meet_sequence c r (o ∷ os) f)
  unfolding meet_splits before
  split_within c r o p x os f l hr ho e hx k later =
      let g = (sequence f r o).fuel in
      if_within (sequence f r o).verdict (meet_sequence c f r o) (before (view o) (meet_splits meet_sequence c r os g)) (met r o l c f hr ho)
      (rw e (within_more (within_joins (free_one x) (meet_splits meet_sequence c r os g) (one-within x hx) (later g)) (omega (arith, k))))

  splits-within : (b r : Terms) (c : Bool) (f : ℕ) → size r + size b < n → CodedTerms r → CodedTerms b → Within (2 * (terms_bytes r + terms_bytes b)) (meet_splits meet_sequence c r (ends b) f)
  unfolding ends size view put_terms meet_splits before
  splits-within nil r c f l hr hb = if_within (sequence f r nil).verdict (meet_sequence c f r nil) void (met r nil l c f hr hb) (within-nothing _)
  splits-within (symbol s x b) r c f l hr hb =
      split_within c r (symbol s x b) b (One.literal x) (ends b) f l hr hb refl hb.0 (omega (arith, symbol-bytes s x (put_terms b []))) (λ g. splits-within b r c g (omega arith) hr hb.1)
  splits-within (variable s s_kind m b) r c f l hr hb =
      split_within c r (variable s s_kind m b) b One.any-symbol (ends b) f l hr hb refl tt (omega (arith, span-length s (put_name m (put_terms b [])), name-length m (put_terms b []))) (λ g. splits-within b r c g (omega arith) hr hb)
  splits-within (variable s t_kind m b) r c f l hr hb =
      split_within c r (variable s t_kind m b) b One.any_term (ends b) f l hr hb refl tt (omega (arith, span-length s (put_name m (put_terms b [])), name-length m (put_terms b []))) (λ g. splits-within b r c g (omega arith) hr hb)
  splits-within (variable s e_kind m b) r c f l hr hb =
      let g = (sequence f r (variable s e_kind m b)).fuel in
      if_within (sequence f r (variable s e_kind m b)).verdict (meet_sequence c f r (variable s e_kind m b)) (meet_splits meet_sequence c r (ends b) g) (met r (variable s e_kind m b) l c f hr hb)
      (within_more (splits-within b r c g (omega arith) hr hb) (omega (arith, span-length s (put_name m (put_terms b [])), name-length m (put_terms b []))))
  splits-within (bracket s i b) r c f l hr hb =
      split_within c r (bracket s i b) b (One.brackets i) (ends b) f l hr hb refl hb.0 (omega (arith, span-length s (put_terms i (put_terms b [])), terms-bytes i (put_terms b []))) (λ g. splits-within b r c g (omega arith) hr hb.1)
  splits-within (call s h a b) r c f l hr hb =
      split_within c r (call s h a b) b One.no-pattern (ends b) f l hr hb refl tt (omega (arith, span-length s (put_name h (put_terms a (put_terms b []))), name-length h (put_terms a (put_terms b [])), terms-length a (put_terms b []))) (λ g. splits-within b r c g (omega arith) hr hb)
  splits-within (block s a q b) r c f l hr hb =
      split_within c r (block s a q b) b One.no-pattern (ends b) f l hr hb refl tt (omega (arith, span-length s (put_terms a (put_sentences q (put_terms b []))), terms-length a (put_sentences q (put_terms b [])), sentences-length q (put_terms b []))) (λ g. splits-within b r c g (omega arith) hr hb)

  of_first_lem : (c : Bool) (x y : Symbol) → CodeFits x → CodeFits y → Within (2 * (symbol_bytes x + symbol_bytes y)) (atom (of_first c x y) void)
  of_first_lem false x y h k = within_more (within-symbol x h) (omega arith)
  of_first_lem true x y h k = within_more (within-symbol y k) (omega arith)

  terms-within : (c : Bool) (x y : One) → one_size x + one_size y < n → CodedOne x → CodedOne y → Within (2 * (one_bytes x + one_bytes y)) (meet_of_terms meet_sequence c x y)
  unfolding meet_of_terms
  terms-within c (One.literal x) (One.literal y) l h k = of_first_lem c x y h k
  terms-within c (One.literal x) One.any-symbol l h k = within_more (within-symbol x h) (omega arith)
  terms-within c (One.literal x) One.any_term l h k = within_more (within-symbol x h) (omega arith)
  terms-within c (One.literal x) One.no-pattern l h k = within-nothing _
  terms-within c (One.literal x) (One.brackets j) l h k = within-nothing _
  terms-within c One.any-symbol y l h k = within_more (one-within y k) (omega arith)
  terms-within c One.any_term y l h k = within_more (one-within y k) (omega arith)
  terms-within c One.no-pattern y l h k = within-nothing _
  terms-within c (One.brackets i) (One.literal y) l h k = within-nothing _
  terms-within c (One.brackets i) One.any-symbol l h k = within-nothing _
  terms-within c (One.brackets i) One.any_term l h k = within_more (within-group (free i) (free-within i h)) (omega arith)
  terms-within c (One.brackets i) One.no-pattern l h k = within-nothing _
  terms-within c (One.brackets i) (One.brackets j) l h k = within_more (within-group (meet_sequence c start i j) (met i j l c start h k)) (omega arith)

  entered-within : (c : Bool) (x y : View) (a b : Terms) (f : ℕ) → size a + size b < suc n → Below (size a) x → Below (size b) y → BytesIn (terms_bytes a) x → BytesIn (terms_bytes b) y
      → CodedTerms a → CodedTerms b → CodedView x → CodedView y → Within (2 * (terms_bytes a + terms_bytes b)) (meet_entered meet_sequence c x y a b f)
  unfolding meet_entered
  entered-within c View.nothing y a b f l k m p q ha hb hx hy = within-nothing _
  entered-within c (View.absorbing r) View.nothing a b f l k m p q ha hb hx hy = within-nothing _
  entered-within c (View.absorbing r) (View.absorbing s) a b f l k m p q ha hb hx hy = within_more (splits-within b r c f (omega arith) hx hb) (omega arith)
  entered-within c (View.absorbing r) (View.one y s) a b f l k m p q ha hb hx hy = within_more (splits-within b r c f (omega arith) hx hb) (omega arith)
  entered-within c (View.one x r) View.nothing a b f l k m p q ha hb hx hy = within-nothing _
  entered-within c (View.one x r) (View.absorbing s) a b f l k m p q ha hb hx hy = within_more (splits-within a s (not c) f (omega arith) hy ha) (omega arith)
  entered-within c (View.one x r) (View.one y s) a b f l k m p q ha hb hx hy =
      within_more (within_joins (meet_of_terms meet_sequence c x y) (meet_sequence c f r s) (terms-within c x y (omega arith) hx.0 hy.0) (met r s (omega arith) c f hx.1 hy.1)) (omega arith)

  enter-within : (c : Bool) (f : ℕ) (a b : Terms) → size a + size b < suc n → CodedTerms a → CodedTerms b → Within (2 * (terms_bytes a + terms_bytes b)) (meet_enter meet_sequence c f a b)
  unfolding meet_enter
  enter-within c zero a b l ha hb = within-nothing _
  enter-within c (suc f) a b l ha hb = entered-within c (view a) (view b) a b f l (view-below a) (view-below b) (view-bytes a) (view-bytes b) ha hb (view_coded a ha) (view_coded b hb)

-- With any fuel, and whichever of the two came first.
pub meet_within : (a b : Terms) → Met a b
meet_within = by_size Met step
  where
    step : (n : ℕ) → ((a b : Terms) → size a + size b < n → Met a b) → (a b : Terms) → size a + size b < suc n → Met a b
    step n met a b l c f ha hb = rw (unfold_meet c f a b) (enter-within n met c f a b l ha hb)
