-- The rounds make a cleaned form of the program, if they leave the root alone.
use Prim.Native.Nat.{ℕ, zero, suc}
use mathlib.Core.Path.{◌≡◌, refl, ◌∙◌, ap}
use mathlib.Core.Bool.{Bool, true, false, cond}
use mathlib.Core.List.{List, [], ◌∷◌, ◌++◌, map, Memᴰ}
use mathlib.Core.Option.{Option, some}
use Rattle.program.specs.Syntax.{Head, Terms, Conditions, Sentences, empty, sentence, Function, Program}
use Rattle.program.specs.Encode.{own_sentence_count}
use Rattle.patterns.specs.Names.{same_name}
use Rattle.patterns.proofs.Tests.{holds}
use Rattle.patterns.specs.Expression.{Expression}
use Rattle.patterns.specs.Fresh.{Fresh}
use Rattle.patterns.proofs.Disjoint.{disjoint_sound}
use Rattle.meaning.specs.Sites.{Site, collect_call_sites, condition_sites, sentence_sites, function_sites, program_sites, restriction_is_characterisable}
use Rattle.meaning.specs.Restrictions.{EnteringRestrictions, entering_restrictions}
use Rattle.meaning.specs.Dispatch.{residual_dispatches_dynamically}
use Rattle.meaning.proofs.Lists.{Some}
use Rattle.meaning.proofs.Covered.{covered}
use Rattle.meaning.specs.Cleaning.{Standing, standing, rejected, accepted, kept_of, change, LeftAlone, changes, Round, round, changed, left_by, drops_nothing, rounds_up_to, rounds_of, is_root, rounds, after, clean_residual_program}
use Rattle.meaning.proofs.Rejected.{rejected-only}
use Rattle.meaning.proofs.RootStays.{SparesRoot, root_place_stays, root_stays, root_spares}
use Rattle.meaning.specs.Run.{sentences_of}
use Rattle.meaning.proofs.Cleaned.{Hands, Lacks, Finds, Cleaned, lacks_same, cleaned_same, cleaned_trans}
use Rattle.meaning.proofs.Every.{Every, every_left, every_right, every_append}

-- ---- a rejected sentence matches nothing that a call can hand over

-- The expressions of which nothing rejected is a match.
abbrev Spared : Standing → Expression → Type 0
Spared j v = (p : Terms) → rejected j p ≡ true → Fresh p v → ⊥

standing_spares : (alone : Bool) (e : EnteringRestrictions) (v : Expression) → (e.characterised ≡ true → Some (λ (r : Terms). Fresh r v) e.restrictions) → Spared (standing alone e) v
standing_spares alone e v s p h f =
    let k = rejected-only alone e p h in let t = s k.1 in
    disjoint_sound p t.0 (k.2 t.0 t.1) v f t.2

-- ---- what a round leaves of a function

lacks_cond : (v : Expression) (t : Bool) (h : Head) (p : Terms) (c : Conditions) (r : Terms) (b d : Sentences) → (t ≡ true → Fresh p v → ⊥) → Lacks v b d → Lacks v (sentence h p c r b) (cond t d (sentence h p c r d))
lacks_cond v true h p c r b d n l = Lacks.drops (n refl) l
lacks_cond v false h p c r b d n l = Lacks.keeps l

accepted_lacks : (j : Standing) (v : Expression) → Spared j v → (b : Sentences) → Lacks v b (accepted j b)
unfolding accepted
accepted_lacks j v s empty = Lacks.nothing
accepted_lacks j v s (sentence h p c r b) = lacks_cond v (rejected j p) h p c r b (accepted j b) (s p) (accepted_lacks j v s b)

kept_lacks : (v : Expression) (b own : Sentences) → Lacks v own b → Lacks v own (kept_of b own)
unfolding kept_of
kept_lacks v empty own l = lacks_same v own
kept_lacks v (sentence h p c r b) own l = l

change_lacks : (j : Standing) (f : Function) (v : Expression) → Spared j v → Lacks v f.sentences (change j f).kept
unfolding change
change_lacks j f v s = kept_lacks v (accepted j f.sentences) f.sentences (accepted_lacks j v s f.sentences)

-- Its sites are sites that it had.
module _ (P : Site → Type 0) where
  cond_sites : (t : Bool) (b d : Sentences) → Every P (sentence_sites b) → Every P (sentence_sites d) → Every P (sentence_sites (cond t b d))
  cond_sites true b d h k = h
  cond_sites false b d h k = k

  accepted-sites : (j : Standing) (b : Sentences) → Every P (sentence_sites b) → Every P (sentence_sites (accepted j b))
  unfolding accepted sentence_sites
  accepted-sites j empty h = h
  accepted-sites j (sentence t p c r b) h =
      let h₁ : Every P (collect_call_sites r ++ (condition_sites c ++ sentence_sites b)) = every_right P (collect_call_sites p) (collect_call_sites r ++ (condition_sites c ++ sentence_sites b)) h in
      let h₂ : Every P (condition_sites c ++ sentence_sites b) = every_right P (collect_call_sites r) (condition_sites c ++ sentence_sites b) h₁ in
      let k : Every P (sentence_sites (accepted j b)) = accepted-sites j b (every_right P (condition_sites c) (sentence_sites b) h₂) in
      cond_sites (rejected j p) (accepted j b) (sentence t p c r (accepted j b)) k
      (every_append P (collect_call_sites p) (collect_call_sites r ++ (condition_sites c ++ sentence_sites (accepted j b))) (every_left P (collect_call_sites p) (collect_call_sites r ++ (condition_sites c ++ sentence_sites b)) h)
      (every_append P (collect_call_sites r) (condition_sites c ++ sentence_sites (accepted j b)) (every_left P (collect_call_sites r) (condition_sites c ++ sentence_sites b) h₁)
      (every_append P (condition_sites c) (sentence_sites (accepted j b)) (every_left P (condition_sites c) (sentence_sites b) h₂) k)))

  kept-sites : (b own : Sentences) → Every P (sentence_sites own) → Every P (sentence_sites b) → Every P (sentence_sites (kept_of b own))
  unfolding kept_of
  kept-sites empty own h k = h
  kept-sites (sentence t p c r b) own h k = k

  change-sites : (j : Standing) (f : Function) → Every P (sentence_sites f.sentences) → Every P (sentence_sites (change j f).kept)
  unfolding change
  change-sites j f h = kept-sites (accepted j f.sentences) f.sentences h (accepted-sites j f.sentences h)

-- ---- what a round leaves of a program

-- `sites` are those at the round's start.
module _ (alone : LeftAlone) (sites : List Site) where
  functions-sites : (P : Site → Type 0) (i : ℕ) (fs : List Function) → Every P (function_sites fs) → Every P (function_sites (map changed (changes alone sites i fs)))
  unfolding function_sites changes change changed
  functions-sites P i [] h = h
  functions-sites P i (f ∷ fs) h =
      every_append P (sentence_sites (change (standing (alone i f) (entering_restrictions f.name sites)) f).kept) (function_sites (map changed (changes alone sites (suc i) fs)))
      (change-sites P (standing (alone i f) (entering_restrictions f.name sites)) f (every_left P (sentence_sites f.sentences) (function_sites fs) h))
      (functions-sites P (suc i) fs (every_right P (sentence_sites f.sentences) (function_sites fs) h))

  finds_cond : (v : Expression) (t : Bool) (b d : Sentences) (o q : Option Sentences) → (t ≡ true → Lacks v b d) → Finds v o q → Finds v (cond t (some b) o) (cond t (some d) q)
  finds_cond v true b d o q h k = h refl
  finds_cond v false b d o q h k = k

  functions_find : (x : Site) (v : Expression) → Memᴰ x sites → Hands x v → (i : ℕ) (fs : List Function) → Finds v (sentences_of x.callee fs) (sentences_of x.callee (map changed (changes alone sites i fs)))
  unfolding sentences_of changes changed change
  functions_find x v m h i [] = tt
  functions_find x v m h i (f ∷ fs) =
      finds_cond v (same_name x.callee f.name) f.sentences (change (standing (alone i f) (entering_restrictions f.name sites)) f).kept (sentences_of x.callee fs) (sentences_of x.callee (map changed (changes alone sites (suc i) fs)))
      (λ e. change_lacks (standing (alone i f) (entering_restrictions f.name sites)) f v
      (standing_spares (alone i f) (entering_restrictions f.name sites) v (λ c. covered f.name sites x v m e c (λ k. h (holds (restriction_is_characterisable x.argument) k)))))
      (functions_find x v m h (suc i) fs)

pub cleaned_round : (alone : LeftAlone) (p : Program) → SparesRoot alone p → Cleaned p (left_by (round alone p))
unfolding left_by round program_sites
cleaned_round alone p h =
    let fewer : Every (λ (x : Site). Memᴰ x (program_sites p)) (function_sites (map changed (changes alone (program_sites p) 0 p.functions))) =
    functions-sites alone (program_sites p) (λ x. Memᴰ x (program_sites p)) 0 p.functions (λ x m. m) in
    record { sites = fewer; finds = λ x m v k. functions_find alone (program_sites p) x v (fewer x m) k 0 p.functions; same-root = root_stays alone p h }

-- ---- the rounds

after_cond : (P : Program → Type 0) (t : Bool) (p : Program) (l : List Round) → P p → P (after p l) → P (after p (cond t [] l))
unfolding after
after_cond P true p l h k = h
after_cond P false p l h k = k

cleaned_up_to : (n : ℕ) (alone : LeftAlone) (p : Program) → SparesRoot alone p → Cleaned p (after p (rounds_up_to n alone p))
unfolding rounds_up_to after
cleaned_up_to zero alone p h = cleaned_same p
cleaned_up_to (suc n) alone p h =
    let r = round alone p in
    let c : Cleaned p (left_by r) = cleaned_round alone p h in
    let k : SparesRoot alone (left_by r) = λ f. ap (λ (i : ℕ). alone i f) (root_place_stays alone p) ∙ h f in
    after_cond (Cleaned p) (drops_nothing r) (left_by r) (rounds_up_to n alone (left_by r)) c (cleaned_trans p (left_by r) (after (left_by r) (rounds_up_to n alone (left_by r))) c (cleaned_up_to n alone (left_by r) k))

-- Whatever else rounds leave alone.
pub cleaned_rounds : (alone : LeftAlone) (p : Program) → SparesRoot alone p → Cleaned p (after p (rounds_of alone p))
unfolding rounds_of
cleaned_rounds alone p h = cleaned_up_to (suc (own_sentence_count p.functions)) alone p h

pub cleaned_program : (p : Program) → Cleaned p (clean_residual_program p)
unfolding clean_residual_program rounds
cleaned_program p =
    after_cond (Cleaned p) (residual_dispatches_dynamically p) p (rounds_of (is_root p) p) (cleaned_same p) (cleaned_rounds (is_root p) p (root_spares p))
