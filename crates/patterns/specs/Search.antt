-- The overlap verdict: "Heads, splits and leftovers follow `OverlapSearch`." Fuel goes in and comes back.
use Rattle.std.specs.Prelude.{ℕ, zero, suc, ◌+◌, ◌-◌, Bool, true, false, List, [], ◌∷◌}
use Rattle.program.specs.Syntax.{Symbol, s_kind, t_kind, e_kind, Terms, nil, symbol, variable, bracket, call, block}
use Rattle.patterns.specs.Symbols.{same_symbol}
use Rattle.patterns.specs.declared.Verdict.{Verdict}
use Rattle.patterns.specs.declared.Verdict.TheVariants.{Disjoint, Overlap, Unknown}
use Rattle.patterns.specs.declared.Found.{Found}

abbrev pub found : Verdict → ℕ → Found
found v f = record { verdict = v; fuel = f }

-- A search for an expression that matches two sequences: fuel in, verdict and fuel out.
abbrev pub Searching : Type 0
Searching = ℕ → Terms → Terms → Found

-- A term that stands for exactly one term. A call or a block is no pattern.
pub data One : Type 0 where
  literal : Symbol → One
  any-symbol any_term no-pattern : One
  brackets : Terms → One

-- What a sequence begins with, and the rest.
pub data View : Type 0 where
  nothing : View
  absorbing : Terms → View
  one : One → Terms → View

unfoldable pub view : Terms → View
view nil = View.nothing
view (symbol s x r) = View.one (One.literal x) r
view (variable s s_kind n r) = View.one One.any-symbol r
view (variable s t_kind n r) = View.one One.any_term r
view (variable s e_kind n r) = View.absorbing r
view (bracket s i r) = View.one (One.brackets i) r
view (call s f a r) = View.one One.no-pattern r
view (block s a b r) = View.one One.no-pattern r

-- The Rust's `leftover_overlap`: only `e.` variables can stand for nothing.
unfoldable pub leftover_overlap : Terms → Verdict
leftover_overlap nil = Overlap
leftover_overlap (symbol s x r) = Disjoint
leftover_overlap (variable s s_kind n r) = Disjoint
leftover_overlap (variable s t_kind n r) = Disjoint
leftover_overlap (variable s e_kind n r) = leftover_overlap r
leftover_overlap (bracket s i r) = Disjoint
leftover_overlap (call s f a r) = Disjoint
leftover_overlap (block s a b r) = Disjoint

-- The Rust's `&other[take..]` for each `take` from 0 on.
unfoldable pub ends : Terms → List Terms
ends nil = nil ∷ []
ends (symbol s x r) = symbol s x r ∷ ends r
ends (variable s k n r) = variable s k n r ∷ ends r
ends (bracket s i r) = bracket s i r ∷ ends r
ends (call s f a r) = call s f a r ∷ ends r
ends (block s a b r) = block s a b r ∷ ends r

-- After one split: Overlap ends the loop, Unknown is remembered, Disjoint changes nothing.
abbrev pub after_split : Verdict → ℕ → Verdict → (Verdict → ℕ → Found) → Found
after_split Disjoint f v next = next v f
after_split Overlap f v next = found Overlap f
after_split Unknown f v next = next Unknown f

-- The loop of the Rust's `absorbing_split`, with its `verdict` so far.
unfoldable pub splits_from : Searching → Terms → List Terms → Verdict → ℕ → Found
splits_from search rest [] v f = found v f
splits_from search rest (o ∷ os) v f = let q = search f rest o in after_split q.verdict q.fuel v (λ w g. splits_from search rest os w g)

-- The Rust's `absorbing_split`.
unfoldable pub absorbing_split : Searching → ℕ → Terms → Terms → Found
absorbing_split search f rest other = splits_from search rest (ends other) Disjoint f

unfoldable pub literal_overlap : Bool → Verdict
literal_overlap true = Overlap
literal_overlap false = Disjoint

-- "Each pair of sequences starts with fuel 4,096."
abbrev pub start : ℕ
start = 4096

-- The Rust's `overlap_of_terms`: "A bracket pair starts a fresh 4,096."
unfoldable pub overlap_of_terms : Searching → One → One → Verdict
overlap_of_terms search (One.literal x) (One.literal y) = literal_overlap (same_symbol x y)
overlap_of_terms search (One.literal x) One.any-symbol = Overlap
overlap_of_terms search (One.literal x) One.any_term = Overlap
overlap_of_terms search (One.literal x) One.no-pattern = Unknown
overlap_of_terms search (One.literal x) (One.brackets j) = Disjoint
overlap_of_terms search One.any-symbol (One.literal y) = Overlap
overlap_of_terms search One.any-symbol One.any-symbol = Overlap
overlap_of_terms search One.any-symbol One.any_term = Overlap
overlap_of_terms search One.any-symbol One.no-pattern = Unknown
overlap_of_terms search One.any-symbol (One.brackets j) = Disjoint
overlap_of_terms search One.any_term (One.literal y) = Overlap
overlap_of_terms search One.any_term One.any-symbol = Overlap
overlap_of_terms search One.any_term One.any_term = Overlap
overlap_of_terms search One.any_term One.no-pattern = Unknown
overlap_of_terms search One.any_term (One.brackets j) = Overlap
overlap_of_terms search One.no-pattern y = Unknown
overlap_of_terms search (One.brackets i) (One.literal y) = Disjoint
overlap_of_terms search (One.brackets i) One.any-symbol = Disjoint
overlap_of_terms search (One.brackets i) One.any_term = Overlap
overlap_of_terms search (One.brackets i) One.no-pattern = Unknown
overlap_of_terms search (One.brackets i) (One.brackets j) = (search start i j).verdict

-- The tails' verdict where the heads' is Unknown.
abbrev pub after_unknown : Verdict → Verdict
after_unknown Disjoint = Disjoint
after_unknown Overlap = Unknown
after_unknown Unknown = Unknown

-- The heads' verdict, and then the tails'; heads that are Disjoint leave the tails unread.
abbrev pub after_heads : Verdict → ℕ → (ℕ → Found) → Found
after_heads Disjoint f tails = found Disjoint f
after_heads Overlap f tails = tails f
after_heads Unknown f tails = let q = tails f in found (after_unknown q.verdict) q.fuel

-- The Rust's `sequence` once it has spent its 1.
unfoldable pub entered : Searching → View → View → Terms → Terms → ℕ → Found
entered search View.nothing View.nothing a b f = found Overlap f
entered search View.nothing (View.absorbing s) a b f = found (leftover_overlap b) f
entered search View.nothing (View.one y s) a b f = found (leftover_overlap b) f
entered search (View.absorbing r) View.nothing a b f = found (leftover_overlap a) f
entered search (View.absorbing r) (View.absorbing s) a b f = absorbing_split search f r b
entered search (View.absorbing r) (View.one y s) a b f = absorbing_split search f r b
entered search (View.one x r) View.nothing a b f = found (leftover_overlap a) f
entered search (View.one x r) (View.absorbing s) a b f = absorbing_split search f s a
entered search (View.one x r) (View.one y s) a b f = after_heads (overlap_of_terms search x y) f (λ g. search g r s)

-- "An entry with fuel 0 answers Unknown; otherwise it spends 1."
unfoldable pub enter : Searching → Searching
enter search zero a b = found Unknown zero
enter search (suc f) a b = entered search (view a) (view b) a b f

-- Terms, those in brackets too.
unfoldable pub size : Terms → ℕ
size nil = 0
size (symbol s x r) = suc (size r)
size (variable s k n r) = suc (size r)
size (bracket s i r) = suc (size i + size r)
size (call s f a r) = suc (size r)
size (block s a b r) = suc (size r)

-- The search with its calls nested to a depth; `sequence` starts deep enough, so that the bound is never met (proofs/Unfold.antt).
unfoldable pub search_to : ℕ → Searching
search_to zero f a b = found Unknown f
search_to (suc d) f a b = enter (search_to d) f a b

-- The Rust's `sequence`.
unfoldable pub sequence : Searching
sequence f a b = search_to (suc (size a + size b)) f a b

-- The Rust's `patterns_overlap`.
unfoldable pub patterns_overlap : Terms → Terms → Verdict
patterns_overlap a b = (sequence start a b).verdict

-- "the entries spent by the outermost pair"
unfoldable pub spent : Terms → Terms → ℕ
spent a b = start - (sequence start a b).fuel
