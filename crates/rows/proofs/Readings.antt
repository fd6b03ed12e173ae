-- Patterns in an image by their first mark, and the pattern after the first term.
use Prim.Native.Nat.{ℕ, ◌+◌, ◌-◌, ◌<◌, ◌≤◌}
use native.Mathlib.Omega.{arith}
use mathlib.Core.Path.{◌≡◌, refl, sym, ap, ◌∙◌}
use mathlib.Core.List.{List}
use lib.ListN.{length, take, drop, get_or, length-drop}
use lib.Seq.{drop-drop, get_or-drop}
use Rattle.program.specs.Syntax.{character, identifier, number, s_kind, t_kind, e_kind, Terms, nil, symbol, variable, bracket, call, block}
use Rattle.program.specs.Bytes.{put_name}
use Rattle.program.specs.Encode.{put_symbol, kind_mark, put_terms}
use Rattle.program.specs.Limits.{Mode, ValidTerms}
use Rattle.image.specs.Parts.{Passes, TermsAt, tail}
use Rattle.program.proofs.Lengths.{span-length, name-length, symbol-length, terms-length}
use Rattle.symbols.proofs.Parts.{part_rest}
use Rattle.patterns.specs.Search.{One, View, view}
use Rattle.rows.specs.Parts.{TailOf, place_of, HeadAt, PatternIn}

-- What the part `&s[i..]` holds.
abbrev pub part : List ℕ → ℕ → List ℕ
part s i = take (length s - i) (drop i s)

pub part_length : (s : List ℕ) (i : ℕ) → length (part s i) ≡ length s - i
part_length s i = ap length (part_rest s i) ∙ length-drop i s

pub part_part : (s : List ℕ) (i n : ℕ) → drop n (part s i) ≡ part s (i + n)
part_part s i n = ap (drop n) (part_rest s i) ∙ drop-drop n i s ∙ sym (part_rest s (i + n))

-- The mark of what a pattern begins with.
abbrev pub head_mark : One → ℕ
head_mark (One.literal (character c)) = 1
head_mark (One.literal (identifier n)) = 2
head_mark (One.literal (number n)) = 3
head_mark One.any-symbol = 4
head_mark One.any_term = 5
head_mark One.no-pattern = 8
head_mark (One.brackets i) = 7

abbrev pub view_mark : View → ℕ
view_mark View.nothing = 15
view_mark (View.absorbing r) = 6
view_mark (View.one x r) = head_mark x

first-mark : (a : Terms) (k : List ℕ) (d : ℕ) → ValidTerms a Mode.pattern d → get_or (put_terms a k) 0 0 ≡ view_mark (view a)
unfolding put_terms put_symbol kind_mark view
first-mark nil k d h = refl
first-mark (symbol s (character c) r) k d h = refl
first-mark (symbol s (identifier n) r) k d h = refl
first-mark (symbol s (number n) r) k d h = refl
first-mark (variable s s_kind n r) k d h = refl
first-mark (variable s t_kind n r) k d h = refl
first-mark (variable s e_kind n r) k d h = refl
first-mark (bracket s i r) k d h = refl
first-mark (call s f a r) k d h = absurd h.2
first-mark (block s a b r) k d h = absurd h.2

pub pattern-mark : {s : List ℕ} (p : TermsAt Mode.pattern s) → get_or s 0 0 ≡ view_mark (view p.terms)
pattern-mark p = ap (λ (l : List ℕ). get_or l 0 0) p.is ∙ first-mark p.terms p.rest 0 p.valid

-- The mark of a head is none of those of an `e.` variable and the close.
head_mark_low : (x : One) → (head_mark x ≤ 8) × (head_mark x ≡ 6 → ⊥)
head_mark_low (One.literal (character c)) = (omega arith, λ e. omega arith)
head_mark_low (One.literal (identifier n)) = (omega arith, λ e. omega arith)
head_mark_low (One.literal (number n)) = (omega arith, λ e. omega arith)
head_mark_low One.any-symbol = (omega arith, λ e. omega arith)
head_mark_low One.any_term = (omega arith, λ e. omega arith)
head_mark_low One.no-pattern = (omega arith, λ e. omega arith)
head_mark_low (One.brackets i) = (omega arith, λ e. omega arith)

-- The rest in a view is the sequence without its first term.
abbrev RestIs : View → Terms → Type 0
RestIs View.nothing t = Unit {0}
RestIs (View.absorbing r) t = r ≡ t
RestIs (View.one x r) t = r ≡ t

view-rest : (a : Terms) → RestIs (view a) (tail a)
unfolding view tail
view-rest nil = tt
view-rest (symbol s x r) = refl
view-rest (variable s s_kind n r) = refl
view-rest (variable s t_kind n r) = refl
view-rest (variable s e_kind n r) = refl
view-rest (bracket s i r) = refl
view-rest (call s f a r) = refl
view-rest (block s a b r) = refl

-- A pattern at its close, at an `e.` variable, at any other term.
module _ {s : List ℕ} (p : TermsAt Mode.pattern s) where
  pub is-empty : get_or s 0 0 ≡ 15 → view p.terms ≡ View.nothing
  is-empty m = go (view p.terms) (sym (pattern-mark p) ∙ m)
    where
      go : (x : View) → view_mark x ≡ 15 → x ≡ View.nothing
      go View.nothing e = refl
      go (View.absorbing r) e = absurd (omega arith)
      go (View.one x r) e = absurd (omega (arith, (head_mark_low x).0))

  pub is_not_empty : (get_or s 0 0 ≡ 15 → ⊥) → view p.terms ≡ View.nothing → ⊥
  is_not_empty m e = m (pattern-mark p ∙ ap view_mark e)

  pub is-absorbing : get_or s 0 0 ≡ 6 → view p.terms ≡ View.absorbing (tail p.terms)
  is-absorbing m = go (view p.terms) (sym (pattern-mark p) ∙ m) (view-rest p.terms)
    where
      go : (x : View) → view_mark x ≡ 6 → RestIs x (tail p.terms) → x ≡ View.absorbing (tail p.terms)
      go View.nothing e h = absurd (omega arith)
      go (View.absorbing r) e h = ap View.absorbing h
      go (View.one x r) e h = absurd ((head_mark_low x).1 e)

  pub one-head : (get_or s 0 0 ≡ 15 → ⊥) → (get_or s 0 0 ≡ 6 → ⊥) → (x : One) × (view p.terms ≡ View.one x (tail p.terms))
  one-head m n = go (view p.terms) refl (view-rest p.terms)
    where
      go : (x : View) → view p.terms ≡ x → RestIs x (tail p.terms) → (y : One) × (view p.terms ≡ View.one y (tail p.terms))
      go View.nothing e h = absurd (m (pattern-mark p ∙ ap view_mark e))
      go (View.absorbing r) e h = absurd (n (pattern-mark p ∙ ap view_mark e))
      go (View.one x r) e h = (x, e ∙ ap (View.one x) h)

  abbrev pub head_at : (get_or s 0 0 ≡ 15 → ⊥) → (get_or s 0 0 ≡ 6 → ⊥) → HeadAt s
  head_at m n = record { pattern = p; head = (one-head m n).0; rest = tail p.terms; is = (one-head m n).1 }

-- After the first term, which n bytes hold.
pub tail-valid : (a : Terms) (m : Mode) (d : ℕ) → ValidTerms a m d → ValidTerms (tail a) m d
unfolding tail
tail-valid nil m d h = tt
tail-valid (symbol s x r) m d h = h.2
tail-valid (variable s k n r) m d h = h.2
tail-valid (bracket s i r) m d h = h.3
tail-valid (call s f a r) m d h = h.5
tail-valid (block s a b r) m d h = h.5

abbrev pub rest_at : {s : List ℕ} (p : TermsAt Mode.pattern s) (n : ℕ) → Passes s n (put_terms (tail p.terms) p.rest) → TermsAt Mode.pattern (part s n)
rest_at {s} p n h = record { terms = tail p.terms; rest = p.rest; is = part_rest s n ∙ h.left; valid = tail-valid p.terms Mode.pattern 0 p.valid }

abbrev pub next-at : (s : List ℕ) (i : ℕ) (p : TermsAt Mode.pattern (part s i)) (n : ℕ) → Passes (part s i) n (put_terms (tail p.terms) p.rest) → TermsAt Mode.pattern (part s (i + n))
next-at s i p n h = record { terms = tail p.terms; rest = p.rest; is = sym (part_part s i n) ∙ h.left; valid = tail-valid p.terms Mode.pattern 0 p.valid }

abbrev pub first-at : {s : List ℕ} → TermsAt Mode.pattern s → TermsAt Mode.pattern (part s 0)
first-at {s} p = record { terms = p.terms; rest = p.rest; is = part_rest s 0 ∙ p.is; valid = p.valid }

tail_shorter : (a : Terms) (k : List ℕ) (d : ℕ) → ValidTerms a Mode.pattern d → (view_mark (view a) ≡ 15 → ⊥) → 9 + length (put_terms (tail a) k) < length (put_terms a k)
unfolding tail put_terms view
tail_shorter nil k d h m = absurd (m refl)
tail_shorter (symbol s x r) k d h m = omega (arith, symbol-length s x (put_terms r k))
tail_shorter (variable s v n r) k d h m = omega (arith, span-length s (put_name n (put_terms r k)), name-length n (put_terms r k))
tail_shorter (bracket s i r) k d h m = omega (arith, span-length s (put_terms i (put_terms r k)), terms-length i (put_terms r k))
tail_shorter (call s f a r) k d h m = absurd h.2
tail_shorter (block s a b r) k d h m = absurd h.2

module _ {s : List ℕ} (p : TermsAt Mode.pattern s) where
  pub pattern-room : 0 < length s
  pattern-room = omega (arith, ap length p.is, terms-length p.terms p.rest)

  module _ (m : get_or s 0 0 ≡ 15 → ⊥) where
    longer : 9 + length (put_terms (tail p.terms) p.rest) < length s
    longer = rw (ap length p.is) (tail_shorter p.terms p.rest 0 p.valid (λ e. m (pattern-mark p ∙ e)))

    pub term_room : 9 < length s
    term_room = omega (arith, longer)

    pub term_long : (n : ℕ) → Passes s n (put_terms (tail p.terms) p.rest) → 0 < n
    term_long n h = omega (arith, longer, h.fits, length-drop n s, ap length h.left)

-- The place after the first term of the part at i.
pub next_fits : (s : List ℕ) (i : ℕ) (p : TermsAt Mode.pattern (part s i)) → (get_or (part s i) 0 0 ≡ 15 → ⊥) → i ≤ length s → (n : ℕ) → Passes (part s i) n (put_terms (tail p.terms) p.rest)
    → (i + n ≤ length s) × (0 < n) × (n ≤ length (part s i))
next_fits s i p m l n h = (omega (arith, h.fits, part_length s i), term_long p m n h, h.fits)

-- A place with a pattern is in the body, and the pattern is at the start of the part from there.
pub inside : (b : List ℕ) (p : ℕ) → TermsAt Mode.pattern (drop p b) → p < length b
inside b p x = omega (arith, pattern-room x, length-drop p b)

abbrev pub at_part : (b : List ℕ) (p : ℕ) → TermsAt Mode.pattern (drop p b) → TermsAt Mode.pattern (part b p)
at_part b p x = record { terms = x.terms; rest = x.rest; is = part_rest b p ∙ x.is; valid = x.valid }

-- The part of the body from a place on is a tail of it.
pub tail_at : (b : List ℕ) (p : ℕ) → p ≤ length b → TailOf b (part b p)
tail_at b p l =
    let e : p ≡ place_of b (part b p) = omega (arith, part_length b p) in
    record { fits = omega (arith, part_length b p); is = part_rest b p ∙ ap (λ (n : ℕ). drop n b) e }

abbrev pub pattern-at : (b : List ℕ) (p : ℕ) → TermsAt Mode.pattern (drop p b) → PatternIn b (part b p)
pattern-at b p x = record { tail = tail_at b p (omega (arith, inside b p x)); pattern = at_part b p x }

-- What stands at the start of a tail stands at its place.
abbrev pub in_body : {b s : List ℕ} → TailOf b s → TermsAt Mode.pattern s → TermsAt Mode.pattern (drop (place_of b s) b)
in_body t x = record { terms = x.terms; rest = x.rest; is = sym t.is ∙ x.is; valid = x.valid }

-- The length of a term in the part from a place gives the place after it.
pub place_after : (b : List ℕ) (i n : ℕ) (p : TermsAt Mode.pattern (drop i b)) → Passes (part b i) n (put_terms (tail p.terms) p.rest) → drop (i + n) b ≡ put_terms (tail p.terms) p.rest
place_after b i n p h = sym (drop-drop n i b) ∙ sym (ap (drop n) (part_rest b i)) ∙ h.left

abbrev pub after_term : (b : List ℕ) (i n : ℕ) (p : TermsAt Mode.pattern (drop i b)) → Passes (part b i) n (put_terms (tail p.terms) p.rest) → TermsAt Mode.pattern (drop (i + n) b)
after_term b i n p h = record { terms = tail p.terms; rest = p.rest; is = place_after b i n p h; valid = tail-valid p.terms Mode.pattern 0 p.valid }

-- The first mark of what stands at a place.
pub mark_in : (b : List ℕ) (i : ℕ) → get_or (part b i) 0 0 ≡ get_or b i 0
mark_in b i = ap (λ (l : List ℕ). get_or l 0 0) (part_rest b i) ∙ get_or-drop i b 0 0 ∙ ap (λ (k : ℕ). get_or b k 0) (omega arith)
