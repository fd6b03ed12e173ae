-- What a round learns from a walk along a function's list of sites.
use Rattle.std.specs.Prelude.{ℕ, zero, suc, ◌+◌, ◌<◌, ◌≤◌, ◌≡◌, Bool, true, false, ◌&&◌, not, List, eqb, length, get_or, drop}
use Rattle.std.proofs.Math.Option.{some}
use Rattle.std.proofs.Math.ListN.{get_elem?}
use Rattle.program.specs.Syntax.{Name, Terms, Function, Program}
use Rattle.program.specs.Limits.{Mode}
use Rattle.image.specs.Parts.{TermsAt}
use Rattle.program.specs.Sentences.{Sentence, own_sentences}
use Rattle.meaning.specs.Lists.{any}
use Rattle.told.specs.Numbered.{Held, sentences_before, sites_of}
use Rattle.restrictions.specs.Entries.{entry_sentence}
use Rattle.index.specs.declared.Plan.{Plan}
use Rattle.index.specs.Layout.{witnesses, calls, links, room}
use Rattle.index.specs.First.{First}
use Rattle.told.specs.Calls.{is_listed}
use Rattle.index.specs.Links.{Chain}
use Rattle.told.specs.Asked.{is_met, meets}
use Rattle.cleaning.specs.Indexed.{Indexed}

-- The entries say in which sentence each site is, and which comes next in its list.
pub record Walkable (kind : Bool) (f : Name) (sites : List Held) (m : List ℕ) (p : Plan) : Type 0 where
  pub count : length sites ≡ p.sites
  pub fits : room p ≤ length m
  pub small : length m ≤ 8192
  pub number : (i : ℕ) (x : Held) → get_elem? sites i ≡ some x → (entry_sentence (get_or m (calls p + i) 0) ≡ x.sentence) × (x.sentence < p.sentences)
  pub chain : Chain kind f sites m (links p) 0

-- A walk from the place i on, which is the first of the list from q on.
pub record SomeWalk (m : List ℕ) (p : Plan) (i : ℕ) : Type 0 where
  pub kind : Bool
  pub name : Name
  pub sites : List Held
  pub from : ℕ
  pub walkable : Walkable kind name sites m p
  pub begins : First (is_listed kind name) from sites i

-- A site that is there.
abbrev pub is_there_listed : (ℕ → Bool) → Bool → Name → Held → Bool
is_there_listed keep kind f x = keep x.sentence && is_listed kind f x

-- The place i is one of the list of f, or its end.
pub record OnList (f : Name) (sites : List Held) (i : ℕ) : Type 0 where
  pub within : i ≤ length sites
  pub listed : (x : Held) → get_elem? sites i ≡ some x → is_listed true f x ≡ true

-- No site before i meets the pattern p.
abbrev pub NoneMet : (ℕ → Bool) → Name → Terms → List Held → ℕ → Type 0
NoneMet keep f p sites i = (j : ℕ) (x : Held) → j < i → get_elem? sites j ≡ some x → meets keep f p x ≡ false

-- The answer r for the site y at i, whose verdict need not be asked if it repeats an earlier one that is there.
pub record MetAt (keep : ℕ → Bool) (f : Name) (p : Terms) (sites : List Held) (i : ℕ) (y : Held) (r : Bool) : Type 0 where
  pub yes : r ≡ true → meets keep f p y ≡ true
  pub no : r ≡ false → NoneMet keep f p sites i → meets keep f p y ≡ false

-- A site y of the list of f, and a pattern at a place of b, that can be asked.
pub record SomeAsked (b m : List ℕ) (p : Plan) (pattern i : ℕ) : Type 0 where
  pub program : Program
  pub indexed : Indexed b program m p
  pub place : ℕ
  pub function : Function
  pub is : get_elem? program.functions place ≡ some function
  pub site : Held
  pub at : get_elem? (sites_of program) i ≡ some site
  pub listed : is_listed true function.name site ≡ true
  pub reading : TermsAt Mode.pattern (drop pattern b)

-- A place of the list of f, or its end, and a pattern.
pub record SomeMeeting (b m : List ℕ) (p : Plan) (pattern i : ℕ) : Type 0 where
  pub program : Program
  pub indexed : Indexed b program m p
  pub place : ℕ
  pub function : Function
  pub is : get_elem? program.functions place ≡ some function
  pub listed : OnList function.name (sites_of program) i
  pub reading : TermsAt Mode.pattern (drop pattern b)

-- The f-th function is x, and the sentence s is y, one of its own.
pub record Owns (w : Program) (f : ℕ) (x : Function) (s : ℕ) (y : Sentence) : Type 0 where
  pub function : get_elem? w.functions f ≡ some x
  pub sentence : get_elem? (own_sentences w.functions) s ≡ some y
  pub from : sentences_before f w.functions ≤ s
  pub upto : s < sentences_before (suc f) w.functions

-- A sentence's witness: 0 before anything is asked, else 1 more than the first site that may meet its pattern.
pub record WitnessOf (keep : ℕ → Bool) (f : Name) (p : Terms) (sites : List Held) (d : ℕ) : Type 0 where
  pub within : (k : ℕ) → d ≡ suc k → k ≤ length sites
  pub before : (k : ℕ) → d ≡ suc k → NoneMet keep f p sites k
  pub itself : (k : ℕ) (x : Held) → d ≡ suc k → get_elem? sites k ≡ some x → (is_listed true f x ≡ true) × (is_met p x ≡ true)

pub record Witnessed (keep : ℕ → Bool) (w : Program) (m : List ℕ) (p : Plan) : Type 0 where
  pub witness : (f : ℕ) (x : Function) (s : ℕ) (y : Sentence) → Owns w f x s y → WitnessOf keep x.name y.pattern (sites_of w) (get_or m (witnesses p + s) 0)

-- A sentence s of the f-th function that can be asked.
pub record SomeOwned (b m : List ℕ) (p : Plan) (keep : ℕ → Bool) (f s : ℕ) : Type 0 where
  pub program : Program
  pub indexed : Indexed b program m p
  pub function : Function
  pub sentence : Sentence
  pub owns : Owns program f function s sentence
  pub witnessed : WitnessOf keep function.name sentence.pattern (sites_of program) (get_or m (witnesses p + s) 0)

-- Where the search begins for a sentence with the witness d in a list that begins at `head`.
unfoldable pub witness_from : ℕ → ℕ → ℕ
witness_from zero head = head
witness_from (suc k) head = k

-- The answer r for a pattern, with the witness d after it: past all sites exactly if none meets it.
pub record StillMet (keep : ℕ → Bool) (f : Name) (p : Terms) (sites : List Held) (d : ℕ) (r : Bool) : Type 0 where
  pub answer : r ≡ any (meets keep f p) sites
  pub witness : WitnessOf keep f p sites d
  pub spent : eqb d (suc (length sites)) ≡ not r

-- Entries are the same but for one.
pub record OneEntry (old new : List ℕ) (at : ℕ) : Type 0 where
  pub length : length new ≡ length old
  pub others : (k : ℕ) → (k ≡ at → ⊥) → get_or new k 0 ≡ get_or old k 0

-- The same of the columns alone, and of all columns but those from `from` up to `end`.
pub record OneColumn (p : Plan) (old new : List ℕ) (at : ℕ) : Type 0 where
  pub length : length new ≡ length old
  pub others : (k : ℕ) → k < room p → (k ≡ at → ⊥) → get_or new k 0 ≡ get_or old k 0

pub record ColumnsApart (p : Plan) (old new : List ℕ) (from end : ℕ) : Type 0 where
  pub length : length new ≡ length old
  pub before : (k : ℕ) → k < room p → k < from → get_or new k 0 ≡ get_or old k 0
  pub after : (k : ℕ) → k < room p → (k < end → ⊥) → get_or new k 0 ≡ get_or old k 0
