-- What the loops over a function's sites, and over functions, keep.
use Rattle.std.specs.Prelude.{Option, None}
use Rattle.report.specs.declared.listing.Candidate.{Candidate}
use Prim.Native.Nat.{ℕ, suc, ◌+◌, ◌*◌, ◌≤◌}
use native.Mathlib.Omega.{arith}
use mathlib.Core.Path.{◌≡◌, refl, sym, ap, ◌∙◌}
use mathlib.Core.Bool.{Bool, true}
use mathlib.Core.List.{List, [], ◌++◌}
use mathlib.Core.Option.{some}
use lib.ListN.{length, get_elem?, take}
use Rattle.program.specs.Syntax.{Function, Program}
use Rattle.told.specs.Numbered.{Held, sentences_before, sites_of}
use Rattle.index.specs.First.{First}
use Rattle.told.specs.Calls.{is_listed}
use Rattle.meaning.specs.CleanReport.{UncoveredRestriction}
use Rattle.told.specs.ToldReport.{uncovered_in, uncovered_told}
use Rattle.text.specs.declared.writer.Writer.{Writer}
use Rattle.report.specs.Listing.{each_from}
use Rattle.report.specs.Uncovered.{uncovered_named, uncovered_at, Uncovered}
use Rattle.report.proofs.Telling.{listing-nothing, listing-append, listing-same, each_next, each_all, each_over}
use Rattle.report.proofs.UncoveredLists.{not_listed, uncovered_each, of_function, told_each}

-- The sites before i are told, and i is one of the list of x, or its end.
pub record OnSites (keep : ℕ → Bool) (b : List ℕ) (w : Program) (x : Function) (k : ℕ) (out₀ : Writer) (count₀ : ℕ) (last₀ : Option Candidate) (i : ℕ) (out : Writer) (count : ℕ) (last : Option Candidate) : Type 0 where
  pub within : i ≤ length (sites_of w)
  pub listed : (y : Held) → get_elem? (sites_of w) i ≡ some y → is_listed true x.name y ≡ true
  pub told : Uncovered b w (each_from (uncovered_at keep (sites_of w) x k) 0 (take i (sites_of w))) out₀ count₀ last₀ out count last
  pub short : out.filled ≤ out₀.filled + 80000 * i

module _ (keep : ℕ → Bool) (b : List ℕ) (w : Program) (x : Function) (k : ℕ) where
  abbrev each : ℕ → Held → List UncoveredRestriction
  each = uncovered_at keep (sites_of w) x k

  none_yet : [] ≡ each_from each 0 (take 0 (sites_of w))
  unfolding each_from
  none_yet = refl

  -- Sites that are not listed give nothing.
  over : (t n : ℕ) → First (is_listed true x.name) t (sites_of w) n → each_from each 0 (take n (sites_of w)) ≡ each_from each 0 (take t (sites_of w))
  over t n h = each_over each (sites_of w) t n 0 h.later (λ q y a b g. not_listed keep (sites_of w) x k (0 + q) y (h.none q y a b g))

  pub sites-first : (i : ℕ) → First (is_listed true x.name) 0 (sites_of w) i → (out : Writer) (count : ℕ) (last : Option Candidate) → OnSites keep b w x k out count last i out count last
  sites-first i h out count last = record {
    within = h.within;
    listed = h.found;
    told = listing-same uncovered_named (none_yet ∙ sym (over 0 i h)) (listing-nothing last out count);
    short = omega arith;
  }

  module _ {out₀ : Writer} {count₀ : ℕ} {last₀ : Option Candidate} {i : ℕ} {out : Writer} {count : ℕ} {last : Option Candidate} (a : OnSites keep b w x k out₀ count₀ last₀ i out count last) where
    pub sites-next : (y : Held) → get_elem? (sites_of w) i ≡ some y → {out₁ : Writer} {count₁ : ℕ} {last₁ : Option Candidate} → Uncovered b w (uncovered_at keep (sites_of w) x k i y) out count last out₁ count₁ last₁ → out₁.filled ≤ out.filled + 80000
        → (n : ℕ) → First (is_listed true x.name) (suc i) (sites_of w) n → OnSites keep b w x k out₀ count₀ last₀ n out₁ count₁ last₁
    sites-next y e t b n h =
        let u : i ≡ 0 + i = omega arith in
        let z : each_from each 0 (take i (sites_of w)) ++ each i y ≡ each_from each 0 (take n (sites_of w))
        = ap (λ (q : ℕ). each_from each 0 (take i (sites_of w)) ++ each q y) u ∙ (sym (each_next each (sites_of w) i 0 y e) ∙ sym (over (suc i) n h)) in
        record {
          within = h.within;
          listed = h.found;
          told = listing-same uncovered_named z (listing-append uncovered_named (each_from each 0 (take i (sites_of w))) (each i y) a.told t);
          short = omega (arith, a.short, h.later);
        }

    pub sites-end : length (sites_of w) ≤ i → Uncovered b w (uncovered_in keep (sites_of w) k x) out₀ count₀ last₀ out count last
    sites-end h = listing-same uncovered_named (each_all each (sites_of w) i 0 h ∙ uncovered_each keep (sites_of w) x k) a.told

-- The functions before f are told.
pub record OverFunctions (keep : ℕ → Bool) (b : List ℕ) (w : Program) (out₀ : Writer) (f : ℕ) (out : Writer) (count : ℕ) (last : Option Candidate) : Type 0 where
  pub told : Uncovered b w (each_from (of_function keep (sites_of w) (λ k. sentences_before k w.functions)) 0 (take f w.functions)) out₀ 0 None out count last

module _ (keep : ℕ → Bool) (b : List ℕ) (w : Program) (out₀ : Writer) where
  abbrev all_of : ℕ → Function → List UncoveredRestriction
  all_of = of_function keep (sites_of w) (λ k. sentences_before k w.functions)

  none_told : [] ≡ each_from all_of 0 (take 0 w.functions)
  unfolding each_from
  none_told = refl

  pub over_first : OverFunctions keep b w out₀ 0 out₀ 0 None
  over_first = record { told = listing-same uncovered_named none_told (listing-nothing None out₀ 0) }

  module _ {f : ℕ} {out : Writer} {count : ℕ} {last : Option Candidate} (a : OverFunctions keep b w out₀ f out count last) where
    pub over_next : (x : Function) → get_elem? w.functions f ≡ some x → {out₁ : Writer} {count₁ : ℕ} {last₁ : Option Candidate}
        → Uncovered b w (of_function keep (sites_of w) (λ k. sentences_before k w.functions) f x) out count last out₁ count₁ last₁ → OverFunctions keep b w out₀ (f + 1) out₁ count₁ last₁
    over_next x e t =
        let q : suc f ≡ f + 1 = omega arith in
        let u : f ≡ 0 + f = omega arith in
        let z : each_from all_of 0 (take f w.functions) ++ all_of f x ≡ each_from all_of 0 (take (f + 1) w.functions)
        = ap (λ (j : ℕ). each_from all_of 0 (take f w.functions) ++ all_of j x) u ∙ (sym (each_next all_of w.functions f 0 x e) ∙ ap (λ (j : ℕ). each_from all_of 0 (take j w.functions)) q) in
        record { told = listing-same uncovered_named z (listing-append uncovered_named (each_from all_of 0 (take f w.functions)) (all_of f x) a.told t) }

    pub over_end : length w.functions ≤ f → Uncovered b w (uncovered_told keep (sites_of w) 0 w.functions) out₀ 0 None out count last
    over_end h = listing-same uncovered_named (each_all all_of w.functions f 0 h ∙ told_each keep (sites_of w) w.functions) a.told
