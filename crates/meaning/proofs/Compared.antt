-- The pairs that cleaning compares, and that both of a pair are patterns proper: no call and no block.
use Prim.Native.Nat.{ℕ, suc}
use mathlib.Core.Path.{◌≡◌, refl, sym}
use mathlib.Core.Bool.{Bool, true, false}
use mathlib.Core.List.Memᴰ
use mathlib.Core.List.{List, [], ◌∷◌, Memᴰ}
use Rattle.program.specs.Syntax.{Terms, Sentences, empty, sentence, Function, Program}
use Rattle.program.specs.Limits.{Mode, ValidTerms, ValidSentences, ValidFunctions, Valid}
use Rattle.program.specs.Sentences.{Sentence, sentence_list}
use Rattle.patterns.proofs.Plain.{Plain, valid-plain}
use Rattle.meaning.specs.Sites.{Site, program_sites}
use Rattle.meaning.specs.Restrictions.{EnteringRestrictions, entering_restrictions}
use Rattle.meaning.specs.Cleaning.{restricted, standing, Change, change, LeftAlone, changes, Round, is_root, rounds, clean_residual_program}
use Rattle.meaning.specs.CleanReport.{restrictions_of, final_standing}
use Rattle.meaning.proofs.Plain.{restrictions-plain}
use Rattle.meaning.proofs.Fewer.{cleaned_valid, round_of}

-- A sentence's pattern and a restriction of its function are compared: in a round, or for the final lists.
pub data Compares (w : Program) : Terms → Terms → Type 0 where
  in_round : {r : Round} {c : Change} {x : Sentence} {t : Terms} → Memᴰ r (rounds w) → Memᴰ c r.changes → Memᴰ x (sentence_list c.function.sentences) → Memᴰ t (restrictions_of c.standing)
      → Compares w x.pattern t
  in_the_end : {f : Function} {x : Sentence} {t : Terms} → Memᴰ f (clean_residual_program w).functions → Memᴰ x (sentence_list f.sentences) → Memᴰ t (restrictions_of (final_standing (program_sites (clean_residual_program w)) f))
      → Compares w x.pattern t

-- ---- the sentence

sentence-valid : (b : Sentences) (x : Sentence) → ValidSentences b 0 → Memᴰ x (sentence_list b) → ValidTerms x.pattern Mode.pattern 0
unfolding sentence_list
sentence-valid empty x v m = absurd (Memᴰ.not-nil m)
sentence-valid (sentence h p c r b) x v (Memᴰ.head e) = rw e v.1
sentence-valid (sentence h p c r b) x v (Memᴰ.tail m) = sentence-valid b x v.4 m

function-valid : (fs : List Function) (f : Function) → ValidFunctions fs → Memᴰ f fs → ValidSentences f.sentences 0
function-valid [] f v m = absurd (Memᴰ.not-nil m)
function-valid (g ∷ fs) f v (Memᴰ.head e) = rw e v.2
function-valid (g ∷ fs) f v (Memᴰ.tail m) = function-valid fs f v.3 m

-- ---- the restriction

restricted_in : (l : List Terms) (t : Terms) → Memᴰ t (restrictions_of (restricted l)) → Memᴰ t l
unfolding restrictions_of restricted
restricted_in [] t m = m
restricted_in (r ∷ l) t m = m

characterised_in : (b : Bool) (l : List Terms) (t : Terms) → Memᴰ t (restrictions_of (standing false (record { restrictions = l; characterised = b }))) → Memᴰ t l
unfolding standing restrictions_of
characterised_in true l t m = restricted_in l t m
characterised_in false l t m = absurd (Memᴰ.not-nil m)

standing_in : (alone : Bool) (e : EnteringRestrictions) (t : Terms) → Memᴰ t (restrictions_of (standing alone e)) → Memᴰ t e.restrictions
unfolding standing restrictions_of
standing_in true e t m = absurd (Memᴰ.not-nil m)
standing_in false e t m = characterised_in e.characterised e.restrictions t m

standing-plain : (alone : Bool) (f : Function) (sites : List Site) (t : Terms) → Memᴰ t (restrictions_of (standing alone (entering_restrictions f.name sites))) → Plain t
standing-plain alone f sites t m = restrictions-plain f.name sites t (standing_in alone (entering_restrictions f.name sites) t m)

-- ---- a change

record ChangeOf (sites : List Site) (fs : List Function) (c : Change) : Type 0 where
  within : Memᴰ c.function fs
  alone : Bool
  stands : c.standing ≡ standing alone (entering_restrictions c.function.name sites)

change_of : (left : LeftAlone) (sites : List Site) (i : ℕ) (fs : List Function) (c : Change) → Memᴰ c (changes left sites i fs) → ChangeOf sites fs c
unfolding changes change
change_of left sites i [] c m = absurd (Memᴰ.not-nil m)
change_of left sites i (f ∷ fs) c (Memᴰ.head e) = rw e (record { within = Memᴰ.head refl; alone = left i f; stands = refl })
change_of left sites i (f ∷ fs) c (Memᴰ.tail m) =
    let h = change_of left sites (suc i) fs c m in
    record { within = Memᴰ.tail h.within; alone = h.alone; stands = h.stands }

-- ---- both

pub compares_plain : (w : Program) → Valid w → (p t : Terms) → Compares w p t → Plain p × Plain t
unfolding final_standing
compares_plain w v _ _ (Compares.in_round {r} {c} {x} {t} m n s q) =
    let h = round_of w v r m in
    let k = change_of (is_root w) (program_sites r.start) 0 r.start.functions c (rw (sym h.is) n) in
    (valid-plain x.pattern 0 (sentence-valid c.function.sentences x (function-valid r.start.functions c.function h.valid.0.1 k.within) s), standing-plain k.alone c.function (program_sites r.start) t (rw (sym k.stands) q))
compares_plain w v _ _ (Compares.in_the_end {f} {x} {t} m s q) =
    let u : Valid (clean_residual_program w) = cleaned_valid w v in
    (valid-plain x.pattern 0 (sentence-valid f.sentences x (function-valid (clean_residual_program w).functions f u.0.1 m) s), standing-plain false f (program_sites (clean_residual_program w)) t q)
