-- Work when it has been filled from a body: first the lists, then the links.
use Rattle.std.specs.Prelude.{ℕ, ◌+◌, ◌-◌, ◌*◌, ◌<◌, ◌≤◌, ◌≡◌, true, List, length, get_or, drop}
use Rattle.std.proofs.Math.Option.{some}
use Rattle.std.proofs.Math.ListN.{get_elem?}
use Rattle.program.specs.Syntax.{Function, Program}
use Rattle.program.specs.Sentences.{own_sentences}
use Rattle.image.specs.Parts.{FunctionsAt}
use Rattle.patterns.specs.Names.{same_name}
use Rattle.index.specs.declared.Plan.{Plan}
use Rattle.index.specs.Bucket.{Filed}
use Rattle.index.specs.Tabled.{Tabled}
use Rattle.index.specs.Layout.{heads, lines, witnesses, calls, links, notes, room}
use Rattle.index.specs.Tables.{FunctionsIn, SentencesIn, SitesAt}
use Rattle.index.specs.Links.{entry_next, Headed, Chained, Classed}
use Rattle.told.specs.Numbered.{sites_of}
use Rattle.cleaning.specs.Indexed.{Indexed, fell_of}

-- The functions of w stand from `from` to the end of the body b of an image.
pub record BodyOf (b : List ℕ) (from : ℕ) (w : Program) : Type 0 where
  pub within : from ≤ length b
  pub reading : FunctionsAt (drop from b)
  pub is : reading.functions ≡ w.functions
  pub short : length b + 12 ≤ 32768

-- Work with an entry for each four bytes of the image: "the image length divided by 4, rounded up".
pub record Enough (b m : List ℕ) : Type 0 where
  pub enough : length b + 12 ≤ 4 * length m
  pub small : length m ≤ 8192

pub record SomeProgram (b : List ℕ) (from : ℕ) (m : List ℕ) (functions sentences : ℕ) : Type 0 where
  pub program : Program
  pub body : BodyOf b from program
  pub functions_are : length program.functions ≡ functions
  pub sentences_are : length (own_sentences program.functions) ≡ sentences
  pub enough : Enough b m

-- Functions, sentences and sites are listed, and there is room behind them to file the functions.
pub record ProgramListed (b : List ℕ) (w : Program) (m : List ℕ) (p : Plan) : Type 0 where
  pub functions : length w.functions ≡ p.functions
  pub sentences : length (own_sentences w.functions) ≡ p.sentences
  pub sites : length (sites_of w) ≡ p.sites
  pub fits : room p + p.functions < length m
  pub small : length m ≤ 8192
  pub function : FunctionsIn b w.functions m 0
  pub sentence : SentencesIn b (own_sentences w.functions) m (lines p)
  pub site : SitesAt b (sites_of w) m (calls p)
  pub fresh : (s : ℕ) → s < p.sentences → get_or m (lines p + s) 0 < 32768
  pub asked : (s : ℕ) → s < p.sentences → get_or m (witnesses p + s) 0 ≡ 0

pub record SomeListing (b m : List ℕ) (p : Plan) : Type 0 where
  pub program : Program
  pub listed : ProgramListed b program m p

-- The lists of every function's sites stand, without classes, and the functions are filed still.
pub record Chains (b : List ℕ) (w : Program) (m : List ℕ) (p : Plan) : Type 0 where
  pub functions : length w.functions ≡ p.functions
  pub sites : length (sites_of w) ≡ p.sites
  pub fits : room p + p.functions < length m
  pub small : length m ≤ 8192
  pub function : Tabled b m p.functions w.functions
  pub filed : Filed w.functions m (notes p) (notes p + p.functions) (length m - notes p - p.functions) 0
  pub site : SitesAt b (sites_of w) m (calls p)
  pub headed : Headed w.functions (sites_of w) m (heads p)
  pub chained : Chained w.functions (sites_of w) m (links p) 0

pub record SomeChains (b m : List ℕ) (p : Plan) : Type 0 where
  pub program : Program
  pub chains : Chains b program m p

-- Functions, sentences and sites are listed as they were.
pub record ListsKept (old new : List ℕ) (p : Plan) : Type 0 where
  pub length : length new ≡ length old
  pub functions : (k : ℕ) → k < p.functions → get_or new k 0 ≡ get_or old k 0
  pub columns : (k : ℕ) → lines p ≤ k → k < links p → get_or new k 0 ≡ get_or old k 0

-- The sites of the first `count` functions have their classes; nothing before the links or behind them has changed, and no list.
pub record ClassesWritten (w : Program) (old new : List ℕ) (p : Plan) (count : ℕ) : Type 0 where
  pub length : length new ≡ length old
  pub before : (k : ℕ) → k < links p → get_or new k 0 ≡ get_or old k 0
  pub behind : (k : ℕ) → notes p ≤ k → get_or new k 0 ≡ get_or old k 0
  pub nexts : (i : ℕ) → entry_next (get_or new (links p + i) 0) ≡ entry_next (get_or old (links p + i) 0)
  pub classed : (f : ℕ) (x : Function) → f < count → get_elem? w.functions f ≡ some x → Classed x.name (sites_of w) new (links p)

-- An earlier function has the name of x, the f-th.
pub record Earlier (fs : List Function) (f : ℕ) (x : Function) : Type 0 where
  pub place : ℕ
  pub function : Function
  pub below : place < f
  pub is : get_elem? fs place ≡ some function
  pub named : same_name function.name x.name ≡ true

pub record SomeClassing (b m : List ℕ) (p : Plan) (f : ℕ) : Type 0 where
  pub program : Program
  pub old : List ℕ
  pub chains : Chains b program old p
  pub written : ClassesWritten program old m p f
  pub below : f < p.functions

-- The sites are linked too: nothing fell, nothing was asked.
pub record ProgramLinked (b : List ℕ) (w : Program) (m : List ℕ) (p : Plan) : Type 0 where
  pub indexed : Indexed b w m p
  pub fell : (s : ℕ) → fell_of p m s ≡ 0
  pub asked : (s : ℕ) → s < p.sentences → get_or m (witnesses p + s) 0 ≡ 0
