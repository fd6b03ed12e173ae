-- A list told candidate by candidate.
use Rattle.std.specs.Prelude.{Option, None, Some}
use Rattle.std.proofs.lemmas.Option.{none-some, same_Some}
use Rattle.report.specs.declared.listing.Candidate.{Candidate}
use Prim.Native.Nat.{ℕ, zero, suc, ◌+◌, ◌<◌, ◌≤◌}
use native.Mathlib.Omega.{arith}
use mathlib.Core.Path.{◌≡◌, refl, sym, ap, ap₂, subst, ◌∙◌}
use mathlib.Core.Bool.{Bool, true, false, ◌&&◌, ◌||◌, cond, or-false}
use mathlib.Core.List.{List, [], ◌∷◌, ◌++◌, map, flat_map, append_assoc, append-nil}
use mathlib.Core.Option.{some}
use lib.ListN.{length, get_elem?, take, length-append}
use Rattle.meaning.specs.Lists.{any}
use Rattle.index.proofs.First.{element_same}
use Rattle.program.specs.Syntax.{Terms, Function, Program}
use Rattle.patterns.specs.Names.{eq_bytes}
use Rattle.meaning.specs.Text.{Text, format_terms}
use Rattle.told.specs.ToldReport.{judged_only, runs_after}
use Rattle.text.specs.declared.writer.Writer.{Writer}
use Rattle.text.specs.Written.{written}
use Rattle.text.proofs.Written.{written-nothing, both, same as of_same}
use Rattle.report.specs.Listing.{last_of, each_from, Named, named, same_named, named_line, Stands, StandsFor, nothing, candidate, Listing}

-- ---- runs

module _ {A : Type 0} (same : A → A → Bool) where
  pub runs_append : (l m last : List A) → runs_after same last (l ++ m) ≡ runs_after same last l ++ runs_after same (last_of last l) m
  unfolding runs_after last_of
  runs_append [] m last = refl
  runs_append (x ∷ l) m last = by (any (λ y. same y x) last) (runs_after same (x ∷ []) l) (runs_after same (last_of (x ∷ []) l) m) (runs_append l m (x ∷ []))
    where
      by : (t : Bool) (b c : List A) {a : List A} → a ≡ b ++ c → cond t a (x ∷ a) ≡ cond t b (x ∷ b) ++ c
      by true b c e = e
      by false b c e = ap (λ (k : List A). x ∷ k) e

last-append : {A : Type 0} (l m last : List A) → last_of last (l ++ m) ≡ last_of (last_of last l) m
unfolding last_of
last-append [] m last = refl
last-append (x ∷ l) m last = last-append l m (x ∷ [])

flat_append : {A B : Type 0} (f : A → List B) (l m : List A) → flat_map f (l ++ m) ≡ flat_map f l ++ flat_map f m
unfolding flat_map
flat_append f [] m = refl
flat_append f (x ∷ l) m = ap (λ (k : List _). f x ++ k) (flat_append f l m) ∙ sym (append_assoc (f x) (flat_map f l) (flat_map f m))

map_append : {A B : Type 0} (f : A → B) (l m : List A) → map f (l ++ m) ≡ map f l ++ map f m
map_append f [] m = refl
map_append f (x ∷ l) m = ap (λ (k : List _). f x ∷ k) (map_append f l m)

pub listing-nothing : {before after : Text} {b : List ℕ} {w : Program} (last : Option Candidate) (v : Writer) (count : ℕ) → Listing before after b w [] v count last v count last
unfolding runs_after last_of flat_map
listing-nothing last v count = record { text = λ z h. written-nothing v; told = λ z h. omega arith; is = λ z h. h }

-- Of what elements of some list tell.
module _ {A : Type 0} (of : A → Named) where
  pub listing-append : (l m : List A) {before after : Text} {b : List ℕ} {w : Program} {s : Writer} {count : ℕ} {last : Option Candidate} {c : Writer} {n : ℕ} {next : Option Candidate} {d : Writer} {k : ℕ} {final : Option Candidate}
      → Listing before after b w (map of l) s count last c n next → Listing before after b w (map of m) c n next d k final → Listing before after b w (map of (l ++ m)) s count last d k final
  listing-append l m {before} {after} {b} {w} {s} {count} {last} {c} {n} {next} {d} {k} {final} x y = subst (λ (q : List Named). Listing before after b w q s count last d k final) (sym (map_append of l m)) (record {
    text = λ z h.
        of_same s (sym (ap (flat_map (named_line before after)) (runs_append same_named (map of l) (map of m) z) ∙ flat_append (named_line before after) (runs_after same_named z (map of l)) (runs_after same_named (last_of z (map of l)) (map of m))))
        (both s (flat_map (named_line before after) (runs_after same_named z (map of l))) (flat_map (named_line before after) (runs_after same_named (last_of z (map of l)) (map of m))) (x.text z h) (y.text (last_of z (map of l)) (x.is z h)));
    told = λ z h. omega (arith, x.told z h, y.told (last_of z (map of l)) (x.is z h), ap length (runs_append same_named (map of l) (map of m) z), length-append (runs_after same_named z (map of l)) (runs_after same_named (last_of z (map of l)) (map of m)));
    is = λ z h. subst (StandsFor b w final) (sym (last-append (map of l) (map of m) z)) (y.is (last_of z (map of l)) (x.is z h));
  })

  pub listing-same : {l m : List A} {before after : Text} {b : List ℕ} {w : Program} {s : Writer} {count : ℕ} {last : Option Candidate} {c : Writer} {n : ℕ} {next : Option Candidate}
      → l ≡ m → Listing before after b w (map of l) s count last c n next → Listing before after b w (map of m) s count last c n next
  listing-same {before} {after} {b} {w} {s} {count} {last} {c} {n} {next} e x = subst (λ (k : List A). Listing before after b w (map of k) s count last c n next) e x

  -- A list of its own elements, whose lines and repeats are those of what they tell.
  module _ (before after : Text) (line : A → Text) (same : A → A → Bool) (g : (x : A) → named_line before after (of x) ≡ line x) (h : (x y : A) → same_named (of x) (of y) ≡ same x y) where
    lines_are : (l : List A) → flat_map (named_line before after) (map of l) ≡ flat_map line l
    unfolding flat_map
    lines_are [] = refl
    lines_are (x ∷ l) = ap₂ (λ (a b : Text). a ++ b) (g x) (lines_are l)

    any_are : (x : A) (z : List A) → any (λ v. same_named v (of x)) (map of z) ≡ any (λ v. same v x) z
    unfolding any
    any_are x [] = refl
    any_are x (y ∷ z) = ap₂ (λ (a b : Bool). a || b) (h y x) (any_are x z)

    runs_are : (l z : List A) → runs_after same_named (map of z) (map of l) ≡ map of (runs_after same z l)
    unfolding runs_after
    runs_are [] z = refl
    runs_are (x ∷ l) z = by (any (λ v. same v x) z) (any_are x z) (runs_are l (x ∷ []))
      where
        by : (t : Bool) {u : Bool} → u ≡ t → {m : List Named} → m ≡ map of (runs_after same (x ∷ []) l) → cond u m (of x ∷ m) ≡ map of (cond t (runs_after same (x ∷ []) l) (x ∷ runs_after same (x ∷ []) l))
        by true e {m} f = ap (λ (u : Bool). cond u m (of x ∷ m)) e ∙ f
        by false e {m} f = ap (λ (u : Bool). cond u m (of x ∷ m)) e ∙ ap (λ (k : List Named). of x ∷ k) f

    map_length : (l : List A) → length (map of l) ≡ length l
    map_length [] = refl
    map_length (x ∷ l) = ap suc (map_length l)

    module _ (l : List A) {b : List ℕ} {w : Program} {v : Writer} {count : ℕ} {u : Writer} {counted : ℕ} {next : Option Candidate} (x : Listing before after b w (map of l) v count None u counted next) where
      pub listing_text : u ≡ written v (flat_map line (runs_after same [] l))
      listing_text = of_same v (ap (flat_map (named_line before after)) (runs_are l []) ∙ lines_are (runs_after same [] l)) (x.text [] nothing)

      pub listing_told : counted ≡ count + length (runs_after same [] l)
      listing_told = omega (arith, x.told [] nothing, ap length (runs_are l []), map_length (runs_after same [] l))

-- One candidate, which repeats the last or does not.
module _ {b : List ℕ} {w : Program} {next : Candidate} {x : Function} {r : Terms} (e : Stands b w next x r) (before after : Text) (last : Option Candidate) where
  pub listing-repeat : ((z : List Named) → StandsFor b w last z → any (λ y. same_named y (named x r)) z ≡ true) → (v : Writer) (count : ℕ) → Listing before after b w (named x r ∷ []) v count last v count (Some next)
  unfolding runs_after last_of flat_map
  listing-repeat h v count =
      let f : (z : List Named) → StandsFor b w last z → runs_after same_named z (named x r ∷ []) ≡ [] = λ z g. ap (λ (t : Bool). cond t [] (named x r ∷ [])) (h z g) in
      record {
        text = λ z g. of_same v (sym (ap (flat_map (named_line before after)) (f z g))) (written-nothing v);
        told = λ z g. omega (arith, ap length (f z g));
        is = λ z g. candidate e;
      }

  pub listing_new : ((z : List Named) → StandsFor b w last z → any (λ y. same_named y (named x r)) z ≡ false) → (v u : Writer) (count : ℕ) → u ≡ written v (named_line before after (named x r)) → Listing before after b w (named x r ∷ []) v count last u (count + 1) (Some next)
  unfolding runs_after last_of flat_map
  listing_new h v u count t =
      let f : (z : List Named) → StandsFor b w last z → runs_after same_named z (named x r ∷ []) ≡ named x r ∷ [] = λ z g. ap (λ (t : Bool). cond t [] (named x r ∷ [])) (h z g) in
      record {
        text = λ z g. of_same v (sym (ap (flat_map (named_line before after)) (f z g) ∙ append-nil (named_line before after (named x r)))) t;
        told = λ z g. omega (arith, ap length (f z g));
        is = λ z g. candidate e;
      }

-- ---- what each element gives

module _ {A C : Type 0} (each : ℕ → A → List C) where
  pub each_next : (l : List A) (t i : ℕ) (x : A) → get_elem? l t ≡ some x → each_from each i (take (suc t) l) ≡ each_from each i (take t l) ++ each (i + t) x
  unfolding each_from
  each_next [] t i x e = let z : ◌≡◌ {A = ℕ} 0 1 = cc in absurd (omega arith)
  each_next (y ∷ l) zero i x e =
      let k : i ≡ i + 0 = omega arith in
      append-nil (each i y) ∙ ap₂ each k (element_same (y ∷ l) 0 y x refl e)
  each_next (y ∷ l) (suc t) i x e =
      let k : suc i + t ≡ i + suc t = omega arith in
      ap (λ (m : List C). each i y ++ m) (each_next l t (suc i) x e)
      ∙ (sym (append_assoc (each i y) (each_from each (suc i) (take t l)) (each (suc i + t) x))
      ∙ ap (λ (n : ℕ). (each i y ++ each_from each (suc i) (take t l)) ++ each n x) k)

  pub each_all : (l : List A) (t i : ℕ) → length l ≤ t → each_from each i (take t l) ≡ each_from each i l
  unfolding each_from
  each_all [] zero i h = refl
  each_all [] (suc t) i h = refl
  each_all (y ∷ l) zero i h = absurd (omega arith)
  each_all (y ∷ l) (suc t) i h = ap (λ (m : List C). each i y ++ m) (each_all l t (suc i) (omega arith))

  -- Elements that give nothing are stepped over.
  pub each_over : (l : List A) (t n i : ℕ) → t ≤ n → ((k : ℕ) (x : A) → t ≤ k → k < n → get_elem? l k ≡ some x → each (i + k) x ≡ []) → each_from each i (take n l) ≡ each_from each i (take t l)
  unfolding each_from
  each_over [] zero zero i h f = refl
  each_over [] zero (suc n) i h f = refl
  each_over [] (suc t) zero i h f = refl
  each_over [] (suc t) (suc n) i h f = refl
  each_over (y ∷ l) zero zero i h f = refl
  each_over (y ∷ l) zero (suc n) i h f =
      let k : i + 0 ≡ i = omega arith in
      let a : each i y ≡ [] = ap (λ (q : ℕ). each q y) (sym k) ∙ f 0 y (omega arith) (omega arith) refl in
      ap (λ (m : List C). m ++ each_from each (suc i) (take n l)) a
      ∙ each_over l zero n (suc i) (omega arith) (λ j x a b e. let z : suc i + j ≡ i + suc j = omega arith in ap (λ (q : ℕ). each q x) z ∙ f (suc j) x (omega arith) (omega arith) e)
  each_over (y ∷ l) (suc t) zero i h f = absurd (omega arith)
  each_over (y ∷ l) (suc t) (suc n) i h f =
      ap (λ (m : List C). each i y ++ m) (each_over l t n (suc i) (omega arith) (λ j x a b e. let z : suc i + j ≡ i + suc j = omega arith in ap (λ (q : ℕ). each q x) z ∙ f (suc j) x (omega arith) (omega arith) e))

-- Functions that are not judged give nothing.
pub only_judged : {A : Type 0} (l : List A) {t : Bool} → t ≡ true → l ≡ judged_only t l
unfolding judged_only
only_judged l e = sym (ap (λ (u : Bool). judged_only u l) e)

pub none_judged : {A : Type 0} (l : List A) {t : Bool} → t ≡ false → [] ≡ judged_only t l
unfolding judged_only
none_judged l e = sym (ap (λ (u : Bool). judged_only u l) e)

-- ---- the candidate that was told last

-- What it is, if there is one.
pub record Found (b : List ℕ) (w : Program) (c : Candidate) (z : List Named) : Type 0 where
  pub function : Function
  pub terms : Terms
  pub stands : Stands b w c function terms
  pub is : z ≡ named function terms ∷ []

pub found : {b : List ℕ} {w : Program} {last : Option Candidate} {z : List Named} → StandsFor b w last z → (c : Candidate) → last ≡ Some c → Found b w c z
found nothing c e = absurd (none-some c e)
found {b} {w} (candidate {c = d} {x} {r} h) c e = record { function = x; terms = r; stands = subst (λ (k : Candidate). Stands b w k x r) (same_Some d c e) h; is = refl }

pub repeats_none : {b : List ℕ} {w : Program} {last : Option Candidate} {z : List Named} (y : Named) → StandsFor b w last z → last ≡ None → false ≡ any (λ v. same_named v y) z
unfolding any
repeats_none y nothing e = refl
repeats_none y (candidate {c = d} h) e = absurd (none-some d (sym e))

pub repeats_is : {b : List ℕ} {w : Program} {c : Candidate} {z : List Named} (x : Function) (r : Terms) → (h : Found b w c z) → any (λ v. same_named v (named x r)) z ≡ (eq_bytes h.function.name x.name && eq_bytes (format_terms h.terms) (format_terms r))
unfolding any same_named
repeats_is x r h =
    ap (any (λ v. same_named v (named x r))) h.is ∙ or-false (eq_bytes h.function.name x.name && eq_bytes (format_terms h.terms) (format_terms r))
