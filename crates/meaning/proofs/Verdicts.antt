-- Repeats get the same verdict from every pattern: the search never reads a variable's name.
use Prim.Native.Nat.{ℕ, zero, suc, ◌+◌}
use mathlib.Core.Path.{◌≡◌, refl, sym, ap, ap₂, fun_ext, ◌∙◌}
use mathlib.Core.Bool.{true}
use mathlib.Core.List.{List, [], ◌∷◌, map}
use Rattle.program.specs.Syntax.{Name, s_kind, t_kind, e_kind, Terms, nil, symbol, variable, bracket, call, block}
use Rattle.patterns.specs.Names.{caseless}
use Rattle.patterns.specs.declared.Verdict.{Verdict}
use Rattle.patterns.specs.declared.Verdict.TheVariants.{Disjoint}
use Rattle.patterns.specs.declared.Found.{Found}
use Rattle.patterns.specs.Search.{found, Searching, One, View, view, leftover_overlap, ends, after_split, splits_from, absorbing_split, overlap_of_terms, start, after_heads, entered, enter, size, search_to, sequence, patterns_overlap}
use Rattle.patterns.specs.Configuration.{seen_with, names_after, canonical_from, canonical_configuration, same_configuration}
use Rattle.patterns.proofs.Configuration.{same_configuration_true}

-- Every variable loses its name; a call or a block is no pattern, so what stands in it may stay.
unfoldable anonymous : Terms → Terms
anonymous nil = nil
anonymous (symbol s x r) = symbol s x (anonymous r)
anonymous (variable s k n r) = variable s k [] (anonymous r)
anonymous (bracket s i r) = bracket s (anonymous i) (anonymous r)
anonymous (call s f a r) = call s f a (anonymous r)
anonymous (block s a b r) = block s a b (anonymous r)

abbrev anonymous_one : One → One
anonymous_one (One.literal x) = One.literal x
anonymous_one One.any-symbol = One.any-symbol
anonymous_one One.any_term = One.any_term
anonymous_one One.no-pattern = One.no-pattern
anonymous_one (One.brackets i) = One.brackets (anonymous i)

abbrev anonymous_view : View → View
anonymous_view View.nothing = View.nothing
anonymous_view (View.absorbing r) = View.absorbing (anonymous r)
anonymous_view (View.one x r) = View.one (anonymous_one x) (anonymous r)

-- What the search reads of a sequence is the same without names.
view_anonymous : (a : Terms) → view (anonymous a) ≡ anonymous_view (view a)
unfolding view anonymous
view_anonymous nil = refl
view_anonymous (symbol s x r) = refl
view_anonymous (variable s s_kind n r) = refl
view_anonymous (variable s t_kind n r) = refl
view_anonymous (variable s e_kind n r) = refl
view_anonymous (bracket s i r) = refl
view_anonymous (call s f a r) = refl
view_anonymous (block s a b r) = refl

leftover_anonymous : (a : Terms) → leftover_overlap (anonymous a) ≡ leftover_overlap a
unfolding leftover_overlap anonymous
leftover_anonymous nil = refl
leftover_anonymous (symbol s x r) = refl
leftover_anonymous (variable s s_kind n r) = refl
leftover_anonymous (variable s t_kind n r) = refl
leftover_anonymous (variable s e_kind n r) = leftover_anonymous r
leftover_anonymous (bracket s i r) = refl
leftover_anonymous (call s f a r) = refl
leftover_anonymous (block s a b r) = refl

ends_anonymous : (a : Terms) → ends (anonymous a) ≡ map anonymous (ends a)
unfolding ends anonymous
ends_anonymous nil = refl
ends_anonymous (symbol s x r) = ap (λ (l : List Terms). symbol s x (anonymous r) ∷ l) (ends_anonymous r)
ends_anonymous (variable s k n r) = ap (λ (l : List Terms). variable s k [] (anonymous r) ∷ l) (ends_anonymous r)
ends_anonymous (bracket s i r) = ap (λ (l : List Terms). bracket s (anonymous i) (anonymous r) ∷ l) (ends_anonymous r)
ends_anonymous (call s f a r) = ap (λ (l : List Terms). call s f a (anonymous r) ∷ l) (ends_anonymous r)
ends_anonymous (block s a b r) = ap (λ (l : List Terms). block s a b (anonymous r) ∷ l) (ends_anonymous r)

size_anonymous : (a : Terms) → size (anonymous a) ≡ size a
unfolding size anonymous
size_anonymous nil = refl
size_anonymous (symbol s x r) = ap suc (size_anonymous r)
size_anonymous (variable s k n r) = ap suc (size_anonymous r)
size_anonymous (bracket s i r) = ap₂ (λ (n m : ℕ). suc (n + m)) (size_anonymous i) (size_anonymous r)
size_anonymous (call s f a r) = ap suc (size_anonymous r)
size_anonymous (block s a b r) = ap suc (size_anonymous r)

-- A search that answers the same without names.
abbrev Nameless : Searching → Type 0
Nameless search = (f : ℕ) (a b : Terms) → search f (anonymous a) (anonymous b) ≡ search f a b

module _ (search : Searching) (same : Nameless search) where
  splits_nameless : (os : List Terms) (r : Terms) (v : Verdict) (f : ℕ) → splits_from search (anonymous r) (map anonymous os) v f ≡ splits_from search r os v f
  unfolding splits_from
  splits_nameless [] r v f = refl
  splits_nameless (o ∷ os) r v f =
      ap₂ (λ (q : Found) (next : Verdict → ℕ → Found). after_split q.verdict q.fuel v next) (same f r o) (fun_ext (λ w. fun_ext (λ g. splits_nameless os r w g)))

  split_nameless : (f : ℕ) (r b : Terms) → absorbing_split search f (anonymous r) (anonymous b) ≡ absorbing_split search f r b
  unfolding absorbing_split
  split_nameless f r b = ap (λ (l : List Terms). splits_from search (anonymous r) l Disjoint f) (ends_anonymous b) ∙ splits_nameless (ends b) r Disjoint f

  terms_nameless : (x y : One) → overlap_of_terms search (anonymous_one x) (anonymous_one y) ≡ overlap_of_terms search x y
  unfolding overlap_of_terms
  terms_nameless (One.literal x) (One.literal y) = refl
  terms_nameless (One.literal x) One.any-symbol = refl
  terms_nameless (One.literal x) One.any_term = refl
  terms_nameless (One.literal x) One.no-pattern = refl
  terms_nameless (One.literal x) (One.brackets j) = refl
  terms_nameless One.any-symbol (One.literal y) = refl
  terms_nameless One.any-symbol One.any-symbol = refl
  terms_nameless One.any-symbol One.any_term = refl
  terms_nameless One.any-symbol One.no-pattern = refl
  terms_nameless One.any-symbol (One.brackets j) = refl
  terms_nameless One.any_term (One.literal y) = refl
  terms_nameless One.any_term One.any-symbol = refl
  terms_nameless One.any_term One.any_term = refl
  terms_nameless One.any_term One.no-pattern = refl
  terms_nameless One.any_term (One.brackets j) = refl
  terms_nameless One.no-pattern y = refl
  terms_nameless (One.brackets i) (One.literal y) = refl
  terms_nameless (One.brackets i) One.any-symbol = refl
  terms_nameless (One.brackets i) One.any_term = refl
  terms_nameless (One.brackets i) One.no-pattern = refl
  terms_nameless (One.brackets i) (One.brackets j) = ap (λ (q : Found). q.verdict) (same start i j)

  entered_nameless : (x y : View) (a b : Terms) (f : ℕ) → entered search (anonymous_view x) (anonymous_view y) (anonymous a) (anonymous b) f ≡ entered search x y a b f
  unfolding entered
  entered_nameless View.nothing View.nothing a b f = refl
  entered_nameless View.nothing (View.absorbing s) a b f = ap (λ (v : Verdict). found v f) (leftover_anonymous b)
  entered_nameless View.nothing (View.one y s) a b f = ap (λ (v : Verdict). found v f) (leftover_anonymous b)
  entered_nameless (View.absorbing r) View.nothing a b f = ap (λ (v : Verdict). found v f) (leftover_anonymous a)
  entered_nameless (View.absorbing r) (View.absorbing s) a b f = split_nameless f r b
  entered_nameless (View.absorbing r) (View.one y s) a b f = split_nameless f r b
  entered_nameless (View.one x r) View.nothing a b f = ap (λ (v : Verdict). found v f) (leftover_anonymous a)
  entered_nameless (View.one x r) (View.absorbing s) a b f = split_nameless f s a
  entered_nameless (View.one x r) (View.one y s) a b f =
      ap₂ (λ (w : Verdict) (tails : ℕ → Found). after_heads w f tails) (terms_nameless x y) (fun_ext (λ g. same g r s))

  enter_nameless : Nameless (enter search)
  unfolding enter
  enter_nameless zero a b = refl
  enter_nameless (suc f) a b =
      ap₂ (λ (x y : View). entered search x y (anonymous a) (anonymous b) f) (view_anonymous a) (view_anonymous b) ∙ entered_nameless (view a) (view b) a b f

to_nameless : (d : ℕ) → Nameless (search_to d)
unfolding search_to
to_nameless zero f a b = refl
to_nameless (suc d) f a b = enter_nameless (search_to d) (to_nameless d) f a b

nameless_verdict : (a b : Terms) → patterns_overlap (anonymous a) (anonymous b) ≡ patterns_overlap a b
unfolding patterns_overlap sequence
nameless_verdict a b =
    ap (λ (q : Found). q.verdict)
    (ap₂ (λ (n m : ℕ). search_to (suc (n + m)) start (anonymous a) (anonymous b)) (size_anonymous a) (size_anonymous b) ∙ to_nameless (suc (size a + size b)) start a b)

-- Numbers for names change nothing but names.
canonical_anonymous : (a : Terms) (l : List Name) → anonymous (canonical_from a l) ≡ anonymous a
unfolding canonical_from anonymous
canonical_anonymous nil l = refl
canonical_anonymous (symbol s x r) l = ap (symbol s x) (canonical_anonymous r l)
canonical_anonymous (variable s k n r) l = ap (variable s k []) (canonical_anonymous r (seen_with (caseless n) l))
canonical_anonymous (bracket s i r) l = ap₂ (bracket s) (canonical_anonymous i l) (canonical_anonymous r (names_after i l))
canonical_anonymous (call s f a r) l = refl
canonical_anonymous (block s a b r) l = refl

same_anonymous : (a b : Terms) → same_configuration a b ≡ true → anonymous a ≡ anonymous b
unfolding canonical_configuration
same_anonymous a b e = sym (canonical_anonymous a []) ∙ ap anonymous (same_configuration_true a b e) ∙ canonical_anonymous b []

pub same-verdict : (p a b : Terms) → same_configuration a b ≡ true → patterns_overlap p a ≡ patterns_overlap p b
same-verdict p a b e = sym (nameless_verdict p a) ∙ ap (patterns_overlap (anonymous p)) (same_anonymous a b e) ∙ nameless_verdict p b
