-- Rounds that leave the root alone leave the root, and its place.
use Prim.Native.Nat.{ℕ, zero, suc, ◌+◌}
use mathlib.Core.Path.{◌≡◌, refl, ◌∙◌, ap}
use mathlib.Core.Bool.{Bool, true, false, false≢true}
use mathlib.Core.List.{List, [], ◌∷◌, map}
use mathlib.Core.Option.{Option, some, get_or}
use lib.ListN.{get_elem?}
use native.Mathlib.Omega.{arith}
use borrow.Author.Tests.{eq-eqb}
use Rattle.program.specs.Syntax.{Sentences, empty, sentence, Visibility, Function, Program}
use Rattle.meaning.specs.Sites.{Site, program_sites}
use Rattle.meaning.specs.Restrictions.{EnteringRestrictions, entering_restrictions}
use Rattle.meaning.specs.Root.{entry_place, root_place, root}
use Rattle.meaning.specs.Cleaning.{Standing, standing, rejected, accepted, kept_of, change, LeftAlone, changes, round, changed, left_by, is_root}

-- A function that is passed over stays.
passed_accepted : (b : Sentences) → accepted Standing.passed_over b ≡ b
unfolding accepted rejected
passed_accepted empty = refl
passed_accepted (sentence h p c r b) = ap (sentence h p c r) (passed_accepted b)

kept-all : (b own : Sentences) → b ≡ own → kept_of b own ≡ own
unfolding kept_of
kept-all empty own e = refl
kept-all (sentence h p c r b) own e = e

alone_stays : (alone : Bool) (e : EnteringRestrictions) (f : Function) → alone ≡ true → changed (change (standing alone e) f) ≡ f
unfolding standing change changed
alone_stays true e f h =
    let k = kept-all (accepted Standing.passed_over f.sentences) f.sentences (passed_accepted f.sentences) in
    λ i. record { span = f.span; visibility = f.visibility; name = f.name; sentences = k i }
alone_stays false e f h = absurd (false≢true h)

-- `sites` are those at the round's start.
module _ (alone : LeftAlone) (sites : List Site) where
  visibilities_stay : (i : ℕ) (fs : List Function) → map (λ f. f.visibility) (map changed (changes alone sites i fs)) ≡ map (λ f. f.visibility) fs
  unfolding changes changed change
  visibilities_stay i [] = refl
  visibilities_stay i (f ∷ fs) = ap (λ (l : List Visibility). f.visibility ∷ l) (visibilities_stay (suc i) fs)

  -- The function at a place that is left alone.
  place_stays : (n m i : ℕ) (fs : List Function) → i + n ≡ m → ((f : Function) → alone m f ≡ true) → get_elem? (map changed (changes alone sites i fs)) n ≡ get_elem? fs n
  unfolding changes
  place_stays n m i [] e h = refl
  place_stays zero m i (f ∷ fs) e h = ap {B = Option Function} some (alone_stays (alone i f) (entering_restrictions f.name sites) f (ap (λ (k : ℕ). alone k f) (omega arith) ∙ h f))
  place_stays (suc n) m i (f ∷ fs) e h = place_stays n m (suc i) fs (omega arith) h

-- Rounds that leave the root alone.
abbrev pub SparesRoot : LeftAlone → Program → Type 0
SparesRoot alone p = (f : Function) → alone (root_place p) f ≡ true

pub root_place_stays : (alone : LeftAlone) (p : Program) → root_place (left_by (round alone p)) ≡ root_place p
unfolding root_place left_by round
root_place_stays alone p = ap (λ (l : List Visibility). get_or (entry_place l) zero) (visibilities_stay alone (program_sites p) 0 p.functions)

pub root_stays : (alone : LeftAlone) (p : Program) → SparesRoot alone p → root (left_by (round alone p)) ≡ root p
unfolding root left_by round
root_stays alone p h = ap (λ (i : ℕ). get_elem? (map changed (changes alone (program_sites p) 0 p.functions)) i) (root_place_stays alone p) ∙ place_stays alone (program_sites p) (root_place p) (root_place p) 0 p.functions (omega arith) h

-- Rounds that leave alone what stands at the root's place do.
pub root_spares : (p : Program) → SparesRoot (is_root p) p
unfolding is_root
root_spares p f = eq-eqb (root_place p) (root_place p) refl
