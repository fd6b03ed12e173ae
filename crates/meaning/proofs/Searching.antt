-- The search for the next match, in small steps. What is still to be tried is not listed: it follows from the `e.` variables bound, each of which may take more.
use Prim.Native.Nat.{ℕ, zero, suc, ◌+◌, ◌*◌, ◌<◌, ◌≤◌}
use native.Mathlib.Omega.{arith}
use native.Mathlib.Nat.{suc-mul, mul-le-mul_right, mul-lt-mul_of_pos_right}
use mathlib.Core.Path.{◌≡◌, refl, sym, ap, ap₂, subst, ◌∙◌}
use mathlib.Core.Bool.{Bool, true, false, cond}
use mathlib.Core.List.{List, [], ◌∷◌, ◌++◌, flat_map, append-nil, append_assoc}
use mathlib.Core.Option.{Option, none, some}
use Rattle.program.specs.Syntax.{Span, Name, Kind, s_kind, t_kind, e_kind, Terms, nil, symbol, variable, bracket, call, block}
use Rattle.patterns.specs.Symbols.{same_symbol}
use Rattle.patterns.specs.Expression.{Expression, void, atom, group, ◌⧺◌}
use Rattle.patterns.proofs.Expression.{⧺_void, ⧺_assoc}
use Rattle.meaning.specs.Match.{Bindings, value_of, same_expression, bind, Split, splits, matches}
use Rattle.meaning.proofs.Fronts.{rest_after}
use Rattle.meaning.proofs.Matching.{Pair, pair, bound, matches_all, all_one, flat_map_map, flat_map_alike, all-ended, ended-atom, ended-group, symbol-void, symbol-atom, symbol-group, s_void, s_atom, s_group, t_void, t_atom, t_group, bracket-void, bracket-atom, bracket-group, no_call, no_block, bind_new, bind_known, if_left, e_known, e_new, e_last}

-- ---- what is still to come

-- Where an `e.` variable was bound anew: its name, the pattern behind it, the pairs that follow, and the bindings before it.
pub record Site : Type 0 where
  pub name : Name
  pub behind : Terms
  pub pending : List Pair
  pub before : Bindings

-- The variable there, with what it has taken and what it may still take of.
pub record Choice : Type 0 where
  pub site : Site
  pub taken : Expression
  pub left : Expression

abbrev pub choice : Site → Expression → Expression → Choice
choice c t v = record { site = c; taken = t; left = v }

abbrev pub pairs_at : Site → Expression → List Pair
pairs_at c v = pair c.behind v ∷ c.pending

abbrev pub bindings_at : Site → Expression → Bindings
bindings_at c t = bound e_kind c.name t ∷ c.before

abbrev tries : Site → Expression → Split → List Bindings
tries c t x = matches_all (pairs_at c x.rest) (bindings_at c (t ⧺ x.front))

-- The matches in which it takes t, or t and more.
unfoldable pub onward : Site → Expression → Expression → List Bindings
onward c t v = flat_map (tries c t) (splits v)

-- Those in which it takes more than t.
unfoldable pub further : Site → Expression → Expression → List Bindings
further c t void = []
further c t (atom x w) = onward c (t ⧺ atom x void) w
further c t (group u w) = onward c (t ⧺ group u void) w

unfoldable pub remaining : List Choice → List Bindings
remaining [] = []
remaining (c ∷ cs) = further c.site c.taken c.left ++ remaining cs

-- It takes t first, and then more.
first_try : (c : Site) (t v : Expression) → tries c t (record { front = void; rest = v }) ≡ matches_all (pairs_at c v) (bindings_at c t)
first_try c t v = ap (λ (y : Expression). matches_all (pairs_at c v) (bindings_at c y)) (⧺_void t)

pub onward_first : (c : Site) (t v : Expression) → onward c t v ≡ matches_all (pairs_at c v) (bindings_at c t) ++ further c t v
unfolding onward further splits flat_map ◌⧺◌
onward_first c t void = ap (λ (y : List Bindings). y ++ []) (first_try c t void)
onward_first c t (atom x w) =
    ap₂ (λ (y z : List Bindings). y ++ z) (first_try c t (atom x w))
    (flat_map_map (tries c t) _ (splits w) ∙ flat_map_alike _ _ (splits w) (λ z. ap (λ (y : Expression). matches_all (pairs_at c z.rest) (bindings_at c y)) (sym (⧺_assoc t (atom x void) z.front))))
onward_first c t (group u w) =
    ap₂ (λ (y z : List Bindings). y ++ z) (first_try c t (group u w))
    (flat_map_map (tries c t) _ (splits w) ∙ flat_map_alike _ _ (splits w) (λ z. ap (λ (y : Expression). matches_all (pairs_at c z.rest) (bindings_at c y)) (sym (⧺_assoc t (group u void) z.front))))

-- ---- the search

pub data Search : Type 0 where
  going : List Pair → Bindings → List Choice → Search
  found : Bindings → List Choice → Search
  failed : Search

-- The matches of a search: the one it is at, if any, and those still to come.
unfoldable pub told : Search → List Bindings
told (going l b cs) = matches_all l b ++ remaining cs
told (found b cs) = b ∷ remaining cs
told failed = []

-- The newest variable that can take one term more takes it.
unfoldable pub retry : Expression → Choice → List Choice → Search → Search
retry void c cs next = next
retry (atom x w) c cs next = going (pairs_at c.site w) (bindings_at c.site (c.taken ⧺ atom x void)) (choice c.site (c.taken ⧺ atom x void) w ∷ cs)
retry (group u w) c cs next = going (pairs_at c.site w) (bindings_at c.site (c.taken ⧺ group u void)) (choice c.site (c.taken ⧺ group u void) w ∷ cs)

unfoldable pub back : List Choice → Search
back [] = failed
back (c ∷ cs) = retry c.left c cs (back cs)

-- What a new variable takes first: nothing, or all before its sequence's close.
unfoldable pub first_taken : Terms → Expression → Split
first_taken nil v = record { front = v; rest = void }
first_taken (symbol s a p) v = record { front = void; rest = v }
first_taken (variable s k n p) v = record { front = void; rest = v }
first_taken (bracket s i p) v = record { front = void; rest = v }
first_taken (call s f a p) v = record { front = void; rest = v }
first_taken (block s a c p) v = record { front = void; rest = v }

abbrev pub site : Name → Terms → List Pair → Bindings → Site
site n p l b = record { name = n; behind = p; pending = l; before = b }

unfoldable pub begin : Site → Split → List Choice → Search
begin c x cs = going (pairs_at c x.rest) (bindings_at c x.front) (choice c x.front x.rest ∷ cs)

unfoldable pub go_on : Option Expression → Terms → List Pair → Bindings → List Choice → Search
go_on none p l b cs = back cs
go_on (some r) p l b cs = going (pair p r ∷ l) b cs

unfoldable pub take_one : Option Expression → Kind → Name → Expression → Terms → Expression → List Pair → Bindings → List Choice → Search
take_one none k n v p w l b cs = going (pair p w ∷ l) (bound k n v ∷ b) cs
take_one (some u) k n v p w l b cs = cond (same_expression u v) (going (pair p w ∷ l) b cs) (back cs)

unfoldable pub take_any : Option Expression → Name → Terms → Expression → List Pair → Bindings → List Choice → Search
take_any none n p v l b cs = begin (site n p l b) (first_taken p v) cs
take_any (some u) n p v l b cs = go_on (rest_after u v) p l b cs

-- One term of the first pattern.
unfoldable pub meet : Terms → Expression → List Pair → Bindings → List Choice → Search
meet nil void l b cs = going l b cs
meet nil (atom x w) l b cs = back cs
meet nil (group u w) l b cs = back cs
meet (symbol s a p) void l b cs = back cs
meet (symbol s a p) (atom x w) l b cs = cond (same_symbol a x) (going (pair p w ∷ l) b cs) (back cs)
meet (symbol s a p) (group u w) l b cs = back cs
meet (variable s s_kind n p) void l b cs = back cs
meet (variable s s_kind n p) (atom x w) l b cs = take_one (value_of s_kind n b) s_kind n (atom x void) p w l b cs
meet (variable s s_kind n p) (group u w) l b cs = back cs
meet (variable s t_kind n p) void l b cs = back cs
meet (variable s t_kind n p) (atom x w) l b cs = take_one (value_of t_kind n b) t_kind n (atom x void) p w l b cs
meet (variable s t_kind n p) (group u w) l b cs = take_one (value_of t_kind n b) t_kind n (group u void) p w l b cs
meet (variable s e_kind n p) v l b cs = take_any (value_of e_kind n b) n p v l b cs
meet (bracket s i p) void l b cs = back cs
meet (bracket s i p) (atom x w) l b cs = back cs
meet (bracket s i p) (group u w) l b cs = going (pair i u ∷ pair p w ∷ l) b cs
meet (call s f a p) v l b cs = back cs
meet (block s a c p) v l b cs = back cs

unfoldable pub step : Search → Search
step (going [] b cs) = found b cs
step (going (x ∷ l) b cs) = meet x.pattern x.value l b cs
step (found b cs) = found b cs
step failed = failed

-- ---- a step keeps the matches

retried : (v : Expression) (c : Site) (t : Expression) (r : Expression) (cs : List Choice) (next : Search) → told next ≡ remaining cs → told (retry v (choice c t r) cs next) ≡ further c t v ++ remaining cs
unfolding told retry remaining further
retried void c t r cs next e = e
retried (atom x w) c t r cs next e = sym (append_assoc (matches_all (pairs_at c w) (bindings_at c (t ⧺ atom x void))) (further c (t ⧺ atom x void) w) (remaining cs)) ∙ ap (λ (y : List Bindings). y ++ remaining cs) (sym (onward_first c (t ⧺ atom x void) w))
retried (group u w) c t r cs next e = sym (append_assoc (matches_all (pairs_at c w) (bindings_at c (t ⧺ group u void))) (further c (t ⧺ group u void) w) (remaining cs)) ∙ ap (λ (y : List Bindings). y ++ remaining cs) (sym (onward_first c (t ⧺ group u void) w))

pub back_told : (cs : List Choice) → told (back cs) ≡ remaining cs
unfolding told back remaining
back_told [] = refl
back_told (c ∷ cs) = retried c.left c.site c.taken c.left cs (back cs) (back_told cs)

-- Where nothing is met, what remains is all.
fails : (m : List Bindings) (cs : List Choice) → m ≡ [] → told (back cs) ≡ m ++ remaining cs
fails m cs e = back_told cs ∙ ap (λ (y : List Bindings). y ++ remaining cs) (sym e)

if_told : (t : Bool) (l : List Pair) (b : Bindings) (cs : List Choice) (m : List Bindings) → m ≡ cond t (matches_all l b) [] → told (cond t (going l b cs) (back cs)) ≡ m ++ remaining cs
unfolding told
if_told true l b cs m e = ap (λ (y : List Bindings). y ++ remaining cs) (sym e)
if_told false l b cs m e = fails m cs e

goes : (l k : List Pair) (b d : Bindings) (cs : List Choice) → matches_all l b ≡ matches_all k d → told (going k d cs) ≡ matches_all l b ++ remaining cs
unfolding told
goes l k b d cs e = ap (λ (y : List Bindings). y ++ remaining cs) (sym e)

one_told : (o : Option Expression) (k : Kind) (n : Name) (v : Expression) (p : Terms) (w : Expression) (l : List Pair) (b : Bindings) (cs : List Choice) (m : List Bindings) → value_of k n b ≡ o → m ≡ flat_map (λ c. matches_all (pair p w ∷ l) c) (bind k n v b) → told (take_one o k n v p w l b cs) ≡ m ++ remaining cs
unfolding take_one told
one_told none k n v p w l b cs m e q = ap (λ (y : List Bindings). y ++ remaining cs) (sym (q ∙ bind_new (λ c. matches_all (pair p w ∷ l) c) k n v b e))
one_told (some u) k n v p w l b cs m e q = if_told (same_expression u v) (pair p w ∷ l) b cs m (q ∙ bind_known (λ c. matches_all (pair p w ∷ l) c) k n v b u e)

on-told : (o : Option Expression) (p : Terms) (l : List Pair) (b : Bindings) (cs : List Choice) (m : List Bindings) → m ≡ if_left o (λ r. matches_all (pair p r ∷ l) b) → told (go_on o p l b cs) ≡ m ++ remaining cs
unfolding go_on told if_left
on-told none p l b cs m e = fails m cs e
on-told (some r) p l b cs m e = ap (λ (y : List Bindings). y ++ remaining cs) (sym e)

begin_told : (c : Site) (x : Split) (cs : List Choice) → told (begin c x cs) ≡ onward c x.front x.rest ++ remaining cs
unfolding begin told remaining
begin_told c x cs = sym (append_assoc (matches_all (pairs_at c x.rest) (bindings_at c x.front)) (further c x.front x.rest) (remaining cs)) ∙ ap (λ (y : List Bindings). y ++ remaining cs) (sym (onward_first c x.front x.rest))

-- From nothing on, a new variable takes every front.
from_nothing : (n : Name) (p : Terms) (v : Expression) (l : List Pair) (b : Bindings) (s : Span) → value_of e_kind n b ≡ none → onward (site n p l b) void v ≡ matches_all (pair (variable s e_kind n p) v ∷ l) b
unfolding onward ◌⧺◌
from_nothing n p v l b s e = sym (e_new l b s n p v e)

pub first_taken_lem : (n : Name) (p : Terms) (v : Expression) (l : List Pair) (b : Bindings) (s : Span) → value_of e_kind n b ≡ none → onward (site n p l b) (first_taken p v).front (first_taken p v).rest ≡ matches_all (pair (variable s e_kind n p) v ∷ l) b
unfolding first_taken further
first_taken_lem n nil v l b s e = onward_first (site n nil l b) v void ∙ (append-nil (matches_all (pair nil void ∷ l) (bound e_kind n v ∷ b)) ∙ (all-ended l (bound e_kind n v ∷ b) ∙ sym (e_last l b s n v e)))
first_taken_lem n (symbol t a p) v l b s e = from_nothing n (symbol t a p) v l b s e
first_taken_lem n (variable t k m p) v l b s e = from_nothing n (variable t k m p) v l b s e
first_taken_lem n (bracket t i p) v l b s e = from_nothing n (bracket t i p) v l b s e
first_taken_lem n (call t f a p) v l b s e = from_nothing n (call t f a p) v l b s e
first_taken_lem n (block t a c p) v l b s e = from_nothing n (block t a c p) v l b s e

any_told : (o : Option Expression) (n : Name) (p : Terms) (v : Expression) (l : List Pair) (b : Bindings) (cs : List Choice) (s : Span) → value_of e_kind n b ≡ o → told (take_any o n p v l b cs) ≡ matches_all (pair (variable s e_kind n p) v ∷ l) b ++ remaining cs
unfolding take_any
any_told none n p v l b cs s e = begin_told (site n p l b) (first_taken p v) cs ∙ ap (λ (y : List Bindings). y ++ remaining cs) (first_taken_lem n p v l b s e)
any_told (some u) n p v l b cs s e = on-told (rest_after u v) p l b cs (matches_all (pair (variable s e_kind n p) v ∷ l) b) (e_known l b s n p v u e)

meet-told : (p : Terms) (v : Expression) (l : List Pair) (b : Bindings) (cs : List Choice) → told (meet p v l b cs) ≡ matches_all (pair p v ∷ l) b ++ remaining cs
unfolding meet
meet-told nil void l b cs = goes (pair nil void ∷ l) l b b cs (all-ended l b)
meet-told nil (atom x w) l b cs = fails _ cs (ended-atom l b x w)
meet-told nil (group u w) l b cs = fails _ cs (ended-group l b u w)
meet-told (symbol s a p) void l b cs = fails _ cs (symbol-void l b s a p)
meet-told (symbol s a p) (atom x w) l b cs = if_told (same_symbol a x) (pair p w ∷ l) b cs _ (symbol-atom l b s a p x w)
meet-told (symbol s a p) (group u w) l b cs = fails _ cs (symbol-group l b s a p u w)
meet-told (variable s s_kind n p) void l b cs = fails _ cs (s_void l b s n p)
meet-told (variable s s_kind n p) (atom x w) l b cs = one_told (value_of s_kind n b) s_kind n (atom x void) p w l b cs _ refl (s_atom l b s n p x w)
meet-told (variable s s_kind n p) (group u w) l b cs = fails _ cs (s_group l b s n p u w)
meet-told (variable s t_kind n p) void l b cs = fails _ cs (t_void l b s n p)
meet-told (variable s t_kind n p) (atom x w) l b cs = one_told (value_of t_kind n b) t_kind n (atom x void) p w l b cs _ refl (t_atom l b s n p x w)
meet-told (variable s t_kind n p) (group u w) l b cs = one_told (value_of t_kind n b) t_kind n (group u void) p w l b cs _ refl (t_group l b s n p u w)
meet-told (variable s e_kind n p) v l b cs = any_told (value_of e_kind n b) n p v l b cs s refl
meet-told (bracket s i p) void l b cs = fails _ cs (bracket-void l b s i p)
meet-told (bracket s i p) (atom x w) l b cs = fails _ cs (bracket-atom l b s i p x w)
meet-told (bracket s i p) (group u w) l b cs = goes (pair (bracket s i p) (group u w) ∷ l) (pair i u ∷ pair p w ∷ l) b b cs (bracket-group l b s i p u w)
meet-told (call s f a p) v l b cs = fails _ cs (no_call l b s f a p v)
meet-told (block s a c p) v l b cs = fails _ cs (no_block l b s a c p v)

pub step_told : (s : Search) → told (step s) ≡ told s
unfolding step told matches_all
step_told (going [] b cs) = refl
step_told (going (x ∷ l) b cs) = meet-told x.pattern x.value l b cs
step_told (found b cs) = refl
step_told failed = refl

-- ---- a search ends

unfoldable pub power : ℕ → ℕ → ℕ
power n zero = 1
power n (suc k) = n * power n k

-- The terms of patterns, their closes counted.
unfoldable pub sized : Terms → ℕ → ℕ
sized nil k = suc k
sized (symbol s a p) k = suc (sized p k)
sized (variable s i n p) k = suc (sized p k)
sized (bracket s i p) k = suc (sized i (sized p k))
sized (call s f a p) k = suc k
sized (block s a c p) k = suc k

unfoldable pub pairs_size : List Pair → ℕ
pairs_size [] = 0
pairs_size (x ∷ l) = sized x.pattern (pairs_size l)

unfoldable pub extent : Expression → ℕ
extent void = 0
extent (atom x v) = suc (extent v)
extent (group u v) = suc (extent u + extent v)

rest-small : (u v r : Expression) → rest_after u v ≡ some r → extent r ≤ extent v
unfolding rest_after extent
rest-small void v r e = let q : v ≡ r = cc in let z = ap extent q in omega (arith, z)
rest-small (atom x u) void r e = absurd (let z : ◌≡◌ {A = ℕ} 0 1 = cc in omega arith)
rest-small (atom x u) (atom y v) r e = by (same_symbol x y) (rest-small u v r) e
  where
    by : (t : Bool) → (rest_after u v ≡ some r → extent r ≤ extent v) → cond t (rest_after u v) none ≡ some r → extent r ≤ suc (extent v)
    by true h e = let k = h e in omega arith
    by false h e = absurd (let z : ◌≡◌ {A = ℕ} 0 1 = cc in omega arith)
rest-small (atom x u) (group j v) r e = absurd (let z : ◌≡◌ {A = ℕ} 0 1 = cc in omega arith)
rest-small (group i u) void r e = absurd (let z : ◌≡◌ {A = ℕ} 0 1 = cc in omega arith)
rest-small (group i u) (atom y v) r e = absurd (let z : ◌≡◌ {A = ℕ} 0 1 = cc in omega arith)
rest-small (group i u) (group j v) r e = by (same_expression i j) (rest-small u v r) e
  where
    by : (t : Bool) → (rest_after u v ≡ some r → extent r ≤ extent v) → cond t (rest_after u v) none ≡ some r → extent r ≤ suc (extent j + extent v)
    by true h e = let k = h e in omega arith
    by false h e = absurd (let z : ◌≡◌ {A = ℕ} 0 1 = cc in omega arith)

-- So many steps.
unfoldable pub search : ℕ → Search → Search
search zero s = s
search (suc n) s = search n (step s)

pub search_told : (n : ℕ) (s : Search) → told (search n s) ≡ told s
unfolding search
search_told zero s = refl
search_told (suc n) s = search_told n (step s) ∙ step_told s

abbrev pub Ended : Search → Type 0
Ended (going l b cs) = ⊥
Ended (found b cs) = Unit {0}
Ended failed = Unit {0}

stays : (n : ℕ) (s : Search) → Ended s → Ended (search n s)
unfolding search step
stays n (going l b cs) h = absurd h
stays zero (found b cs) h = tt
stays (suc n) (found b cs) h = stays n (found b cs) h
stays zero failed h = tt
stays (suc n) failed h = stays n failed h

-- A match found is the first of all, and those that remain are the others; a search that failed had none.
pub first_found : (n : ℕ) (s : Search) (b : Bindings) (cs : List Choice) → search n s ≡ found b cs → told s ≡ b ∷ remaining cs
unfolding told
first_found n s b cs e = sym (search_told n s) ∙ ap told e

pub none_found : (n : ℕ) (s : Search) → search n s ≡ failed → told s ≡ []
unfolding told
none_found n s e = sym (search_told n s) ∙ ap told e

-- A pattern's own search has its matches.
pub matches-told : (p : Terms) (v : Expression) (b : Bindings) → told (going (pair p v ∷ []) b []) ≡ matches p v b
unfolding told remaining
matches-told p v b = append-nil (matches_all (pair p v ∷ []) b) ∙ all_one p v b

module _ (most : ℕ) where
  unfoldable pub owed : List Choice → ℕ
  owed [] = 0
  owed (c ∷ cs) = extent c.left * power most (pairs_size (pairs_at c.site c.left)) + owed cs

  -- How many steps a search has left at most.
  unfoldable pub weight : Search → ℕ
  weight (going l b cs) = power most (pairs_size l) + owed cs
  weight (found b cs) = owed cs
  weight failed = 0

  abbrev pub SmallPairs : List Pair → Type 0
  SmallPairs [] = Unit {0}
  SmallPairs (x ∷ l) = (extent x.value + 2 ≤ most) × SmallPairs l

  abbrev pub SmallChoices : List Choice → Type 0
  SmallChoices [] = Unit {0}
  SmallChoices (c ∷ cs) = (extent c.left + 2 ≤ most) × SmallPairs c.site.pending × SmallChoices cs

  -- All expressions that a search holds are smaller than `most`.
  abbrev pub Small : Search → Type 0
  Small (going l b cs) = SmallPairs l × SmallChoices cs
  Small (found b cs) = SmallChoices cs
  Small failed = Unit {0}

  abbrev Falls : ℕ → Search → Type 0
  Falls w s = (weight s < w) × Small s

  module _ (two : 2 ≤ most) where
    power_some : (k : ℕ) → 1 ≤ power most k
    unfolding power
    power_some zero = omega arith
    power_some (suc k) = let h = power_some k in let m = mul-le-mul_right (power most k) two in omega (arith, h, m)

    power_less : (k : ℕ) → power most k < power most (suc k)
    unfolding power
    power_less k = let h = power_some k in let m = mul-le-mul_right (power most k) two in omega (arith, h, m)

    retry_falls : (v : Expression) (c : Choice) (cs : List Choice) (next : Search) → extent v + 2 ≤ most → SmallPairs c.site.pending → SmallChoices cs → (weight next ≤ owed cs) × Small next → (weight (retry v c cs next) ≤ extent v * power most (pairs_size (pairs_at c.site v)) + owed cs) × Small (retry v c cs next)
    unfolding retry weight owed extent pairs_size
    retry_falls void c cs next h p q r = (omega (arith, r.0), r.1)
    retry_falls (atom x w) c cs next h p q r =
        let k = power most (sized c.site.behind (pairs_size c.site.pending)) in
        (omega (arith, suc-mul (extent w) k), ((omega arith, p), (omega arith, p, q)))
    retry_falls (group u w) c cs next h p q r =
        let k = power most (sized c.site.behind (pairs_size c.site.pending)) in
        let m : suc (extent w) * k ≤ suc (extent u + extent w) * k = mul-le-mul_right k (omega arith) in
        (omega (arith, suc-mul (extent w) k, m), ((omega arith, p), (omega arith, p, q)))

    back_falls : (cs : List Choice) → SmallChoices cs → (weight (back cs) ≤ owed cs) × Small (back cs)
    unfolding back owed weight
    back_falls [] h = (omega arith, tt)
    back_falls (c ∷ cs) h = retry_falls c.left c cs (back cs) h.0 h.1 h.2 (back_falls cs h.2)

    off : (l : List Pair) (b : Bindings) (cs : List Choice) → SmallChoices cs → Falls (weight (going l b cs)) (back cs)
    unfolding weight
    off l b cs h = let r = back_falls cs h in let k = power_some (pairs_size l) in (omega (arith, r.0, k), r.1)

    on : (p : Terms) (v w : Expression) (l k : List Pair) (b d : Bindings) (cs : List Choice) → sized p (pairs_size l) ≡ suc (pairs_size k) → SmallPairs k → SmallChoices cs → Falls (weight (going (pair p v ∷ l) b cs)) (going k d cs)
    unfolding weight pairs_size
    on p v w l k b d cs e h q = (subst (λ (i : ℕ). power most (pairs_size k) + owed cs < power most i + owed cs) (sym e) (let r = power_less (pairs_size k) in omega (arith, r)), (h, q))

    if_falls : (t : Bool) (l k : List Pair) (b d : Bindings) (cs : List Choice) → Falls (weight (going k b cs)) (going l d cs) → SmallChoices cs → Falls (weight (going k b cs)) (cond t (going l d cs) (back cs))
    if_falls true l k b d cs h q = h
    if_falls false l k b d cs h q = off k b cs q

    one-falls : (o : Option Expression) (i : Kind) (n : Name) (v : Expression) (p : Terms) (w : Expression) (l : List Pair) (b : Bindings) (cs : List Choice) (k : List Pair) → Falls (weight (going k b cs)) (going (pair p w ∷ l) (bound i n v ∷ b) cs) → Falls (weight (going k b cs)) (going (pair p w ∷ l) b cs) → SmallChoices cs → Falls (weight (going k b cs)) (take_one o i n v p w l b cs)
    unfolding take_one
    one-falls none i n v p w l b cs k h g q = h
    one-falls (some u) i n v p w l b cs k h g q = if_falls (same_expression u v) (pair p w ∷ l) k b b cs g q

    go_on-falls : (o : Option Expression) (p : Terms) (l : List Pair) (b : Bindings) (cs : List Choice) (k : List Pair) → ((r : Expression) → o ≡ some r → Falls (weight (going k b cs)) (going (pair p r ∷ l) b cs)) → SmallChoices cs → Falls (weight (going k b cs)) (go_on o p l b cs)
    unfolding go_on
    go_on-falls none p l b cs k h q = off k b cs q
    go_on-falls (some r) p l b cs k h q = h r refl

    begin_falls : (c : Site) (x : Split) (s : Span) (v : Expression) (cs : List Choice) → extent x.rest + 2 ≤ most → SmallPairs c.pending → SmallChoices cs → Falls (weight (going (pair (variable s e_kind c.name c.behind) v ∷ c.pending) c.before cs)) (begin c x cs)
    unfolding begin weight owed pairs_size sized power
    begin_falls c x s v cs h p q =
        let k = power most (sized c.behind (pairs_size c.pending)) in
        let m : suc (extent x.rest) * k < most * k = mul-lt-mul_of_pos_right (omega arith) (power_some (sized c.behind (pairs_size c.pending))) in
        (omega (arith, suc-mul (extent x.rest) k, m), ((h, p), (h, p, q)))

    first_small : (p : Terms) (v : Expression) → extent v + 2 ≤ most → extent (first_taken p v).rest + 2 ≤ most
    unfolding first_taken extent
    first_small nil v h = two
    first_small (symbol s a p) v h = h
    first_small (variable s k n p) v h = h
    first_small (bracket s i p) v h = h
    first_small (call s f a p) v h = h
    first_small (block s a c p) v h = h

    any-falls : (o : Option Expression) (n : Name) (p : Terms) (v : Expression) (l : List Pair) (b : Bindings) (cs : List Choice) (s : Span) → extent v + 2 ≤ most → SmallPairs l → SmallChoices cs → Falls (weight (going (pair (variable s e_kind n p) v ∷ l) b cs)) (take_any o n p v l b cs)
    unfolding take_any pairs_size sized
    any-falls none n p v l b cs s h g q = begin_falls (site n p l b) (first_taken p v) s v cs (first_small p v h) g q
    any-falls (some u) n p v l b cs s h g q = go_on-falls (rest_after u v) p l b cs (pair (variable s e_kind n p) v ∷ l) (λ r e. on (variable s e_kind n p) v r l (pair p r ∷ l) b b cs refl (let z = rest-small u v r e in omega (arith, z, h), g) q) q

    meet-falls : (p : Terms) (v : Expression) (l : List Pair) (b : Bindings) (cs : List Choice) → extent v + 2 ≤ most → SmallPairs l → SmallChoices cs → Falls (weight (going (pair p v ∷ l) b cs)) (meet p v l b cs)
    unfolding meet pairs_size sized extent
    meet-falls nil void l b cs h g q = on nil void void l l b b cs refl g q
    meet-falls nil (atom x w) l b cs h g q = off (pair nil (atom x w) ∷ l) b cs q
    meet-falls nil (group u w) l b cs h g q = off (pair nil (group u w) ∷ l) b cs q
    meet-falls (symbol s a p) void l b cs h g q = off (pair (symbol s a p) void ∷ l) b cs q
    meet-falls (symbol s a p) (atom x w) l b cs h g q = if_falls (same_symbol a x) (pair p w ∷ l) (pair (symbol s a p) (atom x w) ∷ l) b b cs (on (symbol s a p) (atom x w) w l (pair p w ∷ l) b b cs refl (omega arith, g) q) q
    meet-falls (symbol s a p) (group u w) l b cs h g q = off (pair (symbol s a p) (group u w) ∷ l) b cs q
    meet-falls (variable s s_kind n p) void l b cs h g q = off (pair (variable s s_kind n p) void ∷ l) b cs q
    meet-falls (variable s s_kind n p) (atom x w) l b cs h g q = one-falls (value_of s_kind n b) s_kind n (atom x void) p w l b cs (pair (variable s s_kind n p) (atom x w) ∷ l) (on (variable s s_kind n p) (atom x w) w l (pair p w ∷ l) b _ cs refl (omega arith, g) q) (on (variable s s_kind n p) (atom x w) w l (pair p w ∷ l) b b cs refl (omega arith, g) q) q
    meet-falls (variable s s_kind n p) (group u w) l b cs h g q = off (pair (variable s s_kind n p) (group u w) ∷ l) b cs q
    meet-falls (variable s t_kind n p) void l b cs h g q = off (pair (variable s t_kind n p) void ∷ l) b cs q
    meet-falls (variable s t_kind n p) (atom x w) l b cs h g q = one-falls (value_of t_kind n b) t_kind n (atom x void) p w l b cs (pair (variable s t_kind n p) (atom x w) ∷ l) (on (variable s t_kind n p) (atom x w) w l (pair p w ∷ l) b _ cs refl (omega arith, g) q) (on (variable s t_kind n p) (atom x w) w l (pair p w ∷ l) b b cs refl (omega arith, g) q) q
    meet-falls (variable s t_kind n p) (group u w) l b cs h g q = one-falls (value_of t_kind n b) t_kind n (group u void) p w l b cs (pair (variable s t_kind n p) (group u w) ∷ l) (on (variable s t_kind n p) (group u w) w l (pair p w ∷ l) b _ cs refl (omega arith, g) q) (on (variable s t_kind n p) (group u w) w l (pair p w ∷ l) b b cs refl (omega arith, g) q) q
    meet-falls (variable s e_kind n p) v l b cs h g q = any-falls (value_of e_kind n b) n p v l b cs s h g q
    meet-falls (bracket s i p) void l b cs h g q = off (pair (bracket s i p) void ∷ l) b cs q
    meet-falls (bracket s i p) (atom x w) l b cs h g q = off (pair (bracket s i p) (atom x w) ∷ l) b cs q
    meet-falls (bracket s i p) (group u w) l b cs h g q = on (bracket s i p) (group u w) w l (pair i u ∷ pair p w ∷ l) b b cs refl (omega arith, (omega arith, g)) q
    meet-falls (call s f a p) v l b cs h g q = off (pair (call s f a p) v ∷ l) b cs q
    meet-falls (block s a c p) v l b cs h g q = off (pair (block s a c p) v ∷ l) b cs q

    -- A step on takes weight away, and keeps expressions small.
    pub step_falls : (l : List Pair) (b : Bindings) (cs : List Choice) → Small (going l b cs) → Falls (weight (going l b cs)) (step (going l b cs))
    unfolding step weight pairs_size power
    step_falls [] b cs h = (omega arith, h.1)
    step_falls (x ∷ l) b cs h = meet-falls x.pattern x.value l b cs h.0.0 h.0.1 h.1

    -- As many steps as its weight are enough.
    pub search_ends : (n : ℕ) (s : Search) → Small s → weight s ≤ n → Ended (search n s)
    unfolding search weight
    search_ends zero (going l b cs) h w = absurd (let k = power_some (pairs_size l) in omega (arith, k, w))
    search_ends zero (found b cs) h w = tt
    search_ends zero failed h w = tt
    search_ends (suc n) (going l b cs) h w = let r = step_falls l b cs h in search_ends n (step (going l b cs)) r.1 (omega (arith, r.0, w))
    search_ends (suc n) (found b cs) h w = stays (suc n) (found b cs) tt
    search_ends (suc n) failed h w = stays (suc n) failed tt
