-- A program as the entries of work: what rounds and report read, and the round in which each sentence fell.
use Rattle.std.specs.Prelude.{ℕ, ◌+◌, ◌/◌, ◌%◌, ◌<◌, ◌≤◌, ◌≡◌, cond, List, Option, None, Some, ltb, length, get_or}
use Rattle.std.proofs.Math.Option.{some}
use Rattle.std.proofs.Math.ListN.{get_elem?}
use Rattle.program.specs.Syntax.{Function, Program}
use Rattle.program.specs.Sentences.{own_sentences}
use Rattle.told.specs.Numbered.{sites_of}
use Rattle.index.specs.declared.Plan.{Plan}
use Rattle.index.specs.Layout.{heads, lines, marks, calls, links, notes, room}
use Rattle.index.specs.Tables.{FunctionsIn, SentencesIn, SitesAt}
use Rattle.index.specs.Links.{Headed, Chained, Classed}

-- The columns of m hold the functions, the sentences, the sites and the lists of the sites of w, whose body is b.
pub record Indexed (b : List ℕ) (w : Program) (m : List ℕ) (p : Plan) : Type 0 where
  pub functions : length w.functions ≡ p.functions
  pub sentences : length (own_sentences w.functions) ≡ p.sentences
  pub sites : length (sites_of w) ≡ p.sites
  pub fits : room p ≤ length m
  pub small : length m ≤ 8192
  pub function : FunctionsIn b w.functions m 0
  pub sentence : SentencesIn b (own_sentences w.functions) m (lines p)
  pub site : SitesAt b (sites_of w) m (calls p)
  pub headed : Headed w.functions (sites_of w) m (heads p)
  pub chained : Chained w.functions (sites_of w) m (links p) 0
  pub classed : (f : ℕ) (x : Function) → get_elem? w.functions f ≡ some x → Classed x.name (sites_of w) m (links p)

pub record SomeIndexed (b m : List ℕ) (p : Plan) : Type 0 where
  pub program : Program
  pub indexed : Indexed b program m p

-- The same of some body: for who does not read it.
pub record SomeBody (m : List ℕ) (p : Plan) : Type 0 where
  pub body : List ℕ
  pub program : Program
  pub indexed : Indexed body program m p

-- The round in which the sentence s fell, 12 bits above its place.
unfoldable pub fell_of : Plan → List ℕ → ℕ → ℕ
fell_of p m s = cond (ltb s p.sentences) (get_or m (lines p + s) 0 / 32768 % 4096) 0

-- The number n of a round as an answer: none, if the sentence never fell.
abbrev pub FellIn : ℕ → Option ℕ → Type 0
FellIn n None = n ≡ 0
FellIn n (Some r) = (n ≡ r) × (0 < r) × (r < 4096)

-- Only rounds, witnesses and notes have been written, and the room: places of sentences, and all other columns, are as they were.
pub record OnlyRounds (p : Plan) (old new : List ℕ) : Type 0 where
  pub length : length new ≡ length old
  pub before : (k : ℕ) → k < lines p → get_or new k 0 ≡ get_or old k 0
  pub after : (k : ℕ) → marks p ≤ k → k < notes p → get_or new k 0 ≡ get_or old k 0
  pub place : (s : ℕ) → s < p.sentences → get_or new (lines p + s) 0 % 32768 ≡ get_or old (lines p + s) 0 % 32768
