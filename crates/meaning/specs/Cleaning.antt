-- Cleaning: document 01, "Restrictions, rounds, report", and the Rust's `clean_residual_program`.
-- The rounds are one list. The cleaned program is what the last of them leaves, their number is the list's length, and the report's removed sentences are their drops.
use Rattle.std.specs.Prelude.{ℕ, zero, suc, Bool, true, false, cond, List, [], ◌∷◌, map, eqb}
use Rattle.program.specs.Syntax.{Terms, Sentences, empty, sentence, Function, Program}
use Rattle.program.specs.Encode.{own_sentence_count}
use Rattle.program.specs.Sentences.{Sentence, sentence_list}
use Rattle.patterns.specs.declared.Verdict.{Verdict}
use Rattle.patterns.specs.declared.Verdict.TheVariants.{Disjoint, Overlap, Unknown}
use Rattle.patterns.specs.Search.{patterns_overlap}
use Rattle.meaning.specs.Lists.{all, select}
use Rattle.meaning.specs.Sites.{Site, program_sites}
use Rattle.meaning.specs.Restrictions.{EnteringRestrictions, entering_restrictions}
use Rattle.meaning.specs.Dispatch.{residual_dispatches_dynamically}
use Rattle.meaning.specs.Root.{root_place}

unfoldable pub is_disjoint : Verdict → Bool
is_disjoint Disjoint = true
is_disjoint Overlap = false
is_disjoint Unknown = false

-- How a round stands to a function.
pub data Standing : Type 0 where
  passed_over uncharacterised : Standing
  judged_by : List Terms → Standing

unfoldable pub restricted : List Terms → Standing
restricted [] = Standing.passed_over
restricted (r ∷ rs) = Standing.judged_by (r ∷ rs)

-- "It passes over the root, uncharacterised functions and functions without a restriction".
unfoldable pub standing : Bool → EnteringRestrictions → Standing
standing true e = Standing.passed_over
standing false e = cond e.characterised (restricted e.restrictions) Standing.uncharacterised

-- "Disjoint from every restriction of its function": a sentence by its pattern.
unfoldable pub rejected : Standing → Terms → Bool
rejected Standing.passed_over p = false
rejected Standing.uncharacterised p = false
rejected (Standing.judged_by rs) p = all (λ r. is_disjoint (patterns_overlap p r)) rs

-- The sentences that a round does not reject.
unfoldable pub accepted : Standing → Sentences → Sentences
accepted j empty = empty
accepted j (sentence h p c r b) = cond (rejected j p) (accepted j b) (sentence h p c r (accepted j b))

-- What a round does to a function: the function at the round's start, how the round stands to it, what it keeps, what it drops.
pub record Change : Type 0 where
  pub function : Function
  pub standing : Standing
  pub kept : Sentences
  pub dropped : List Sentence

-- "A function whose sentences are all rejected keeps all of them": where none is accepted, all are kept and none is dropped.
unfoldable pub kept_of : Sentences → Sentences → Sentences
kept_of empty own = own
kept_of (sentence h p c r b) own = sentence h p c r b

unfoldable pub dropped_of : Sentences → List Sentence → List Sentence
dropped_of empty l = []
dropped_of (sentence h p c r b) l = l

-- "drops each sentence that is Disjoint from every restriction of its function"
unfoldable pub change : Standing → Function → Change
change j f = record {
  function = f;
  standing = j;
  kept = kept_of (accepted j f.sentences) f.sentences;
  dropped = dropped_of (accepted j f.sentences) (select (λ x. rejected j x.pattern) (sentence_list f.sentences));
}

-- The functions that rounds leave alone, by place and function.
abbrev pub LeftAlone : Type 0
LeftAlone = ℕ → Function → Bool

-- Functions in file order, the first of them at place i.
unfoldable pub changes : LeftAlone → List Site → ℕ → List Function → List Change
changes alone sites i [] = []
changes alone sites i (f ∷ fs) = change (standing (alone i f) (entering_restrictions f.name sites)) f ∷ changes alone sites (suc i) fs

-- A round: the program at its start, and what it does to each function.
pub record Round : Type 0 where
  pub start : Program
  pub changes : List Change

-- "A round takes the restrictions afresh from the show as it is at the round's start."
unfoldable pub round : LeftAlone → Program → Round
round alone p = record { start = p; changes = changes alone (program_sites p) 0 p.functions }

unfoldable pub changed : Change → Function
changed c = record {
  span = c.function.span;
  visibility = c.function.visibility;
  name = c.function.name;
  sentences = c.kept;
}

-- The program that a round leaves.
unfoldable pub left_by : Round → Program
left_by r = record { declarations = r.start.declarations; functions = map changed r.changes }

unfoldable pub is_none : List Sentence → Bool
is_none [] = true
is_none (x ∷ l) = false

unfoldable pub drops_nothing : Round → Bool
drops_nothing r = all (λ c. is_none c.dropped) r.changes

-- "Rounds end with the first that drops nothing, which is counted": at most n of them.
unfoldable pub rounds_up_to : ℕ → LeftAlone → Program → List Round
rounds_up_to zero alone p = []
rounds_up_to (suc n) alone p = round alone p ∷ cond (drops_nothing (round alone p)) [] (rounds_up_to n alone (left_by (round alone p)))

-- A round that is not the last drops a sentence, so that the bound is never met (proofs/Bound.antt).
unfoldable pub rounds_of : LeftAlone → Program → List Round
rounds_of alone p = rounds_up_to (suc (own_sentence_count p.functions)) alone p

-- "Rounds leave it alone": the root, by place.
unfoldable pub is_root : Program → LeftAlone
is_root p i f = eqb i (root_place p)

-- "Any `Mu` or `Up` call: same bytes out, rounds 0".
unfoldable pub rounds : Program → List Round
rounds p = cond (residual_dispatches_dynamically p) [] (rounds_of (is_root p) p)

-- A program after some rounds: what the last of them leaves.
unfoldable pub after : Program → List Round → Program
after p [] = p
after p (r ∷ rs) = after (left_by r) rs

-- The program of the Rust's `clean_residual_program`.
unfoldable pub clean_residual_program : Program → Program
clean_residual_program p = after p (rounds p)
