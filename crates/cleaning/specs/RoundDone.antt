-- A round by the numbers, function by function.
use Rattle.std.specs.Prelude.{ℕ, suc, ◌+◌, ◌-◌, ◌%◌, ◌<◌, ◌≤◌, ◌≡◌, Bool, true, false, ◌&&◌, not, cond, List, eqb, get_or}
use Rattle.std.proofs.Math.Option.{some}
use Rattle.std.proofs.Math.ListN.{get_elem?}
use Rattle.program.specs.Syntax.{Terms, Function, Program}
use Rattle.program.specs.Sentences.{Sentence}
use Rattle.meaning.specs.Lists.{any}
use Rattle.index.specs.declared.Plan.{Plan}
use Rattle.index.specs.Layout.{lines, witnesses}
use Rattle.told.specs.Numbered.{sentences_before, sites_of}
use Rattle.index.specs.Tables.{Apart}
use Rattle.meaning.specs.Root.{root_place}
use Rattle.told.specs.Asked.{meets}
use Rattle.told.specs.History.{is_there, after_all, some_accepted, rejects, RoundTold, some_number, some_fell, Told}
use Rattle.cleaning.specs.Indexed.{Indexed, fell_of, OnlyRounds}
use Rattle.cleaning.specs.Walks.{Owns, OneEntry, WitnessOf, Witnessed}

-- Which patterns the round rejects of the g-th function x, and whether one of its sentences is not rejected.
abbrev pub rejects_in : Program → (ℕ → Bool) → ℕ → Function → Terms → Bool
rejects_in w keep g x = rejects (root_place w) keep (sites_of w) g x.name

abbrev pub some_in : Program → (ℕ → Bool) → ℕ → Function → Bool
some_in w keep g x = some_accepted (rejects_in w keep g x) keep (sentences_before g w.functions) x.sentences

-- Round r is done with the g-th function x: `old` says where sentences fell before the round, `new` where now.
pub record FunctionDone (w : Program) (old new : ℕ → ℕ) (r g : ℕ) (x : Function) : Type 0 where
  pub fell : (s : ℕ) (y : Sentence) → Owns w g x s y
      → new s ≡ cond (is_there old r s && (rejects_in w (is_there old r) g x y.pattern && some_in w (is_there old r) g x)) r (old s)

-- It is done with the functions before the f-th, and has touched no later sentence.
pub record RoundSoFar (w : Program) (old new : ℕ → ℕ) (r f : ℕ) : Type 0 where
  pub done : (g : ℕ) (x : Function) → g < f → get_elem? w.functions g ≡ some x → FunctionDone w old new r g x
  pub later : (s : ℕ) → sentences_before f w.functions ≤ s → new s ≡ old s

-- ---- what the code of a round knows

-- A sentence has been judged: its witness is past all sites exactly if none meets it.
abbrev pub is_spent : List ℕ → Plan → ℕ → Bool
is_spent m p s = eqb (get_or m (witnesses p + s) 0) (suc p.sites)

abbrev pub is_met_by : Program → (ℕ → Bool) → Function → Sentence → Bool
is_met_by w keep x y = any (meets keep x.name y.pattern) (sites_of w)

-- One of its sentences is there and is met.
pub record OneMet (w : Program) (keep : ℕ → Bool) (f : ℕ) (x : Function) : Type 0 where
  pub number : ℕ
  pub sentence : Sentence
  pub owns : Owns w f x number sentence
  pub there : keep number ≡ true
  pub met : is_met_by w keep x sentence ≡ true

-- The sentences of the f-th function x below `upto` are judged, and r says whether one of them is met.
pub record JudgedUpto (w : Program) (keep : ℕ → Bool) (m : List ℕ) (p : Plan) (f : ℕ) (x : Function) (upto : ℕ) (r : Bool) : Type 0 where
  pub spent : (s : ℕ) (y : Sentence) → Owns w f x s y → s < upto → keep s ≡ true → is_spent m p s ≡ not (is_met_by w keep x y)
  pub none : r ≡ false → (s : ℕ) (y : Sentence) → Owns w f x s y → s < upto → keep s ≡ true → is_met_by w keep x y ≡ false
  pub one : r ≡ true → OneMet w keep f x

-- A sentence falls if it is there and no site is left for it.
abbrev pub falls_now : List ℕ → Plan → ℕ → Bool
falls_now m p s = eqb (fell_of p m s) 0 && is_spent m p s

-- A sentence fell in round r.
pub record OneFell (count : ℕ) (new : ℕ → ℕ) (r : ℕ) : Type 0 where
  pub number : ℕ
  pub below : number < count
  pub fell : new number ≡ r

-- Whether something fell so far: `old` where sentences fell before the round, `new` where now.
pub record Changed (count : ℕ) (old new : ℕ → ℕ) (r : ℕ) (changed : Bool) : Type 0 where
  pub none : changed ≡ false → (s : ℕ) → new s ≡ old s
  pub one : changed ≡ true → OneFell count new r

-- The sentence s, which is y of the function x, has been judged; r says whether it is met.
pub record SentenceJudged (w : Program) (keep : ℕ → Bool) (m : List ℕ) (p : Plan) (x : Function) (s : ℕ) (y : Sentence) (r : Bool) : Type 0 where
  pub witness : WitnessOf keep x.name y.pattern (sites_of w) (get_or m (witnesses p + s) 0)
  pub spent : keep s ≡ true → is_spent m p s ≡ not (is_met_by w keep x y)
  pub answer : r ≡ (keep s && is_met_by w keep x y)

-- The f-th function of w has the sentences from `first` up to `end`, and witnesses for them.
pub record SomeFunction (b m : List ℕ) (p : Plan) (f first end round : ℕ) : Type 0 where
  pub program : Program
  pub function : Function
  pub indexed : Indexed b program m p
  pub is : get_elem? program.functions f ≡ some function
  pub witnessed : Witnessed (is_there (fell_of p m) round) program m p
  pub from : first ≡ sentences_before f program.functions
  pub upto : end ≡ sentences_before (suc f) program.functions

-- The sentence s has fallen if it was to fall, and `dropped` says whether it has.
pub record SentenceDropped (old new : List ℕ) (p : Plan) (s r : ℕ) (dropped : Bool) : Type 0 where
  pub fell : fell_of p new s ≡ cond (falls_now old p s) r (fell_of p old s)
  pub place : get_or new (lines p + s) 0 % 32768 ≡ get_or old (lines p + s) 0 % 32768
  pub others : OneEntry old new (lines p + s)
  pub answer : dropped ≡ falls_now old p s

-- The same of the sentences from `first` up to `end`.
pub record SentencesDropped (old new : List ℕ) (p : Plan) (first end r : ℕ) (dropped : Bool) : Type 0 where
  pub fell : (s : ℕ) → first ≤ s → s < end → fell_of p new s ≡ cond (falls_now old p s) r (fell_of p old s)
  pub place : (s : ℕ) → first ≤ s → s < end → get_or new (lines p + s) 0 % 32768 ≡ get_or old (lines p + s) 0 % 32768
  pub others : Apart old new (lines p + first) (lines p + end)
  pub answer : dropped ≡ some_number (falls_now old p) first (end - first)

-- What the code of a round begins with: the entries of w, witnesses, all falls before this round.
pub record RoundReady (b : List ℕ) (w : Program) (m : List ℕ) (p : Plan) (root r : ℕ) : Type 0 where
  pub indexed : Indexed b w m p
  pub witnessed : Witnessed (is_there (fell_of p m) r) w m p
  pub below : (s : ℕ) → fell_of p m s < r
  pub positive : 0 < r
  pub few : r < 4096
  pub root_is : root ≡ root_place w

pub record SomeRoundReady (b m : List ℕ) (p : Plan) (root r : ℕ) : Type 0 where
  pub program : Program
  pub ready : RoundReady b program m p root r

-- The round is done with the functions before the f-th; `old` is work when it began.
pub record RoundAt (b : List ℕ) (w : Program) (old new : List ℕ) (p : Plan) (r f : ℕ) (changed : Bool) : Type 0 where
  pub only : OnlyRounds p old new
  pub witnessed : Witnessed (is_there (fell_of p old) r) w new p
  pub so_far : RoundSoFar w (fell_of p old) (fell_of p new) r f
  pub changed-is : Changed p.sentences (fell_of p old) (fell_of p new) r changed

pub record SomeRoundAt (b m : List ℕ) (p : Plan) (root r f : ℕ) : Type 0 where
  pub program : Program
  pub old : List ℕ
  pub changed : Bool
  pub ready : RoundReady b program old p root r
  pub at : RoundAt b program old m p r f changed

-- What it leaves.
pub record RoundMade (b : List ℕ) (w : Program) (old new : List ℕ) (p : Plan) (r : ℕ) (changed : Bool) : Type 0 where
  pub only : OnlyRounds p old new
  pub told : RoundTold w (fell_of p new) r
  pub below : (s : ℕ) → fell_of p new s < suc r
  pub same : (q : ℕ) → q ≤ r → is_there (fell_of p new) q ≡ is_there (fell_of p old) q
  pub witnessed : Witnessed (is_there (fell_of p new) (suc r)) w new p
  pub falls : changed ≡ some_fell w (fell_of p new) r

-- What all rounds begin with: nothing fell, nothing was asked.
pub record RoundsReady (b : List ℕ) (w : Program) (m : List ℕ) (p : Plan) (root : ℕ) : Type 0 where
  pub indexed : Indexed b w m p
  pub fell : (s : ℕ) → fell_of p m s ≡ 0
  pub asked : (s : ℕ) → s < p.sentences → get_or m (witnesses p + s) 0 ≡ 0
  pub root_is : root ≡ root_place w

pub record SomeRoundsReady (b m : List ℕ) (p : Plan) (root : ℕ) : Type 0 where
  pub program : Program
  pub ready : RoundsReady b program m p root

-- What they leave: the numbers tell them all.
pub record RoundsMade (w : Program) (old new : List ℕ) (p : Plan) (n : ℕ) : Type 0 where
  pub only : OnlyRounds p old new
  pub told : Told w (fell_of p new) n
  pub below : (s : ℕ) → fell_of p new s < suc n
  pub few : n < after_all
  pub witnessed : Witnessed (is_there (fell_of p new) after_all) w new p
