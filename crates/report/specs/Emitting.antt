-- What the emission of the report's lists reads, and what it counts.
use Rattle.std.specs.Prelude.{ℕ, ◌≤◌, ◌≡◌, true, List, length}
use Rattle.std.proofs.Math.Option.{some}
use Rattle.std.proofs.Math.ListN.{get_elem?}
use Rattle.program.specs.Syntax.{Function, Program}
use Rattle.program.specs.Sentences.{Sentence}
use Rattle.index.specs.declared.Plan.{Plan}
use Rattle.told.specs.Asked.{is_judged}
use Rattle.told.specs.History.{is_there, after_all}
use Rattle.told.specs.Numbered.{sites_of}
use Rattle.cleaning.specs.Indexed.{Indexed, fell_of}
use Rattle.cleaning.specs.Walks.{Owns, Witnessed}
use Rattle.report.specs.Notes.{Noted, is_open, open_at}

-- The entries of w, whose body b is that of an image, with the witnesses that the rounds have left and the notes of sites.
pub record Readable (b : List ℕ) (w : Program) (m : List ℕ) (p : Plan) : Type 0 where
  pub indexed : Indexed b w m p
  pub short : length b ≤ 32768
  pub witnessed : Witnessed (is_there (fell_of p m) after_all) w m p
  pub noted : Noted w m p

pub record SomeReadable (b m : List ℕ) (p : Plan) : Type 0 where
  pub program : Program
  pub readable : Readable b program m p

-- The sentence s of the f-th function.
pub record SomeSentence (b m : List ℕ) (p : Plan) (f s : ℕ) : Type 0 where
  pub program : Program
  pub readable : Readable b program m p
  pub function : Function
  pub sentence : Sentence
  pub owns : Owns program f function s sentence

-- The entries say of the sentences whose function a round would judge whether they are undecided.
pub record Decided (b m : List ℕ) (p : Plan) : Type 0 where
  pub told : (w : Program) (f : ℕ) (x : Function) (s : ℕ) (y : Sentence) → Readable b w m p → Owns w f x s y → is_judged (is_there (fell_of p m) after_all) x.name (sites_of w) ≡ true → is_open p m s ≡ open_at (is_there (fell_of p m) after_all) (sites_of w) x s y

-- A round would judge the f-th function.
pub record Judged (b m : List ℕ) (p : Plan) (f : ℕ) : Type 0 where
  pub is : (w : Program) (x : Function) → Readable b w m p → get_elem? w.functions f ≡ some x → is_judged (is_there (fell_of p m) after_all) x.name (sites_of w) ≡ true
