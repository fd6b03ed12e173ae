-- What is noted once the rounds are done: of a site, as long as one that it repeats is there; of a sentence, whether it is undecided.
use Rattle.std.specs.Prelude.{ℕ, ◌+◌, ◌/◌, ◌%◌, ◌<◌, ◌≤◌, ◌≡◌, Bool, true, ◌&&◌, ◌||◌, not, List, eqb, leb, length, get_or, take}
use Rattle.std.proofs.Math.Option.{some}
use Rattle.std.proofs.Math.ListN.{get_elem?}
use Rattle.program.specs.Syntax.{Name, Function, Program}
use Rattle.program.specs.Sentences.{Sentence}
use Rattle.patterns.specs.Configuration.{same_configuration}
use Rattle.meaning.specs.Lists.{any}
use Rattle.told.specs.Numbered.{Held, sentences_before, sites_of}
use Rattle.told.specs.Asked.{restricts, is_judged}
use Rattle.told.specs.History.{is_there, after_all}
use Rattle.told.specs.ToldReport.{overlaps}
use Rattle.index.specs.declared.Plan.{Plan}
use Rattle.index.specs.Layout.{lines, witnesses, links, notes, room}
use Rattle.index.specs.Links.{entry_class}
use Rattle.index.specs.Lists.{Among}
use Rattle.cleaning.specs.Indexed.{fell_of}
use Rattle.cleaning.specs.Walks.{OnList, Owns}

-- Whether what fell in round v, or never if v is 0, is there when round r begins.
unfoldable pub stands_in : ℕ → ℕ → Bool
stands_in v r = eqb v 0 || leb r v

-- The site z is there, and its argument is the same as that of y.
abbrev pub blocks : (ℕ → Bool) → Name → Held → Held → Bool
blocks keep f y z = restricts keep f z && same_configuration z.site.argument y.site.argument

-- The note of a site of f that repeats an earlier one: the round in which the last of those fell.
pub record NotedList (f : Name) (sites : List Held) (m : List ℕ) (p : Plan) : Type 0 where
  pub earlier : (i : ℕ) (y : Held) → Among f sites i y → entry_class (get_or m (links p + i) 0) < i → (r : ℕ) → stands_in (get_or m (notes p + i) 0) r ≡ any (blocks (is_there (fell_of p m) r) f y) (take i sites)

pub record Noted (w : Program) (m : List ℕ) (p : Plan) : Type 0 where
  pub list : (f : ℕ) (x : Function) → get_elem? w.functions f ≡ some x → NotedList x.name (sites_of w) m p

-- ---- how the notes are written

-- The site i, of the class c and of a sentence that fell in round k, is noted; a class's first site holds what its members so far have.
pub record NotedSite (p : Plan) (old new : List ℕ) (i c k : ℕ) : Type 0 where
  pub length : length new ≡ length old
  pub others : (a : ℕ) → (a ≡ notes p + i → ⊥) → (a ≡ notes p + c → ⊥) → get_or new a 0 ≡ get_or old a 0
  pub first : i ≤ c → get_or new (notes p + i) 0 ≡ k
  pub repeat : c < i → get_or new (notes p + i) 0 ≡ get_or old (notes p + c) 0
  pub joined : c < i → (r : ℕ) → stands_in (get_or new (notes p + c) 0) r ≡ (stands_in (get_or old (notes p + c) 0) r || stands_in k r)

-- Only the notes of the sites of f have changed.
pub record OnlyNotes (f : Name) (sites : List Held) (old new : List ℕ) (p : Plan) : Type 0 where
  pub length : length new ≡ length old
  pub others : (k : ℕ) → ((i : ℕ) (y : Held) → Among f sites i y → k ≡ notes p + i → ⊥) → get_or new k 0 ≡ get_or old k 0

-- The sites of f before j are noted, j is one of them or the end.
pub record Noting (f : Name) (sites : List Held) (old new : List ℕ) (p : Plan) (j : ℕ) : Type 0 where
  pub on : OnList f sites j
  pub only : OnlyNotes f sites old new p
  pub earlier : (i : ℕ) (y : Held) → i < j → Among f sites i y → entry_class (get_or old (links p + i) 0) < i → (r : ℕ) → stands_in (get_or new (notes p + i) 0) r ≡ any (blocks (is_there (fell_of p old) r) f y) (take i sites)
  pub first : (i : ℕ) (y : Held) → i < j → Among f sites i y → entry_class (get_or old (links p + i) 0) ≡ i → (r : ℕ) → stands_in (get_or new (notes p + i) 0) r ≡ any (blocks (is_there (fell_of p old) r) f y) (take j sites)

-- The sites of the first `count` functions are noted.
pub record NotesWritten (w : Program) (old new : List ℕ) (p : Plan) (count : ℕ) : Type 0 where
  pub length : length new ≡ length old
  pub before : (k : ℕ) → k < notes p → get_or new k 0 ≡ get_or old k 0
  pub noted : (f : ℕ) (x : Function) → f < count → get_elem? w.functions f ≡ some x → NotedList x.name (sites_of w) new p

-- ---- sentences

-- The entry of the sentence s says that it is undecided: the bit above its round.
unfoldable pub is_open : Plan → List ℕ → ℕ → Bool
is_open p m s = eqb (get_or m (lines p + s) 0 / 134217728) 1

-- The sentence s with the pattern of y is left, and no restriction of x gives it Overlap.
unfoldable pub open_at : (ℕ → Bool) → List Held → Function → ℕ → Sentence → Bool
open_at keep sites x s y = keep s && not (any (overlaps keep x.name y.pattern) sites)

-- ---- how that is written

-- The bit of the sentence s is set to r.
pub record OpenSet (p : Plan) (old new : List ℕ) (s : ℕ) (r : Bool) : Type 0 where
  pub length : length new ≡ length old
  pub others : (k : ℕ) → (k ≡ lines p + s → ⊥) → get_or new k 0 ≡ get_or old k 0
  pub entry : get_or new (lines p + s) 0 % 134217728 ≡ get_or old (lines p + s) 0 % 134217728
  pub is : is_open p new s ≡ r

-- Only such bits have changed, and the room.
pub record OnlyOpen (p : Plan) (old new : List ℕ) : Type 0 where
  pub length : length new ≡ length old
  pub before : (k : ℕ) → k < lines p → get_or new k 0 ≡ get_or old k 0
  pub after : (k : ℕ) → witnesses p ≤ k → k < room p → get_or new k 0 ≡ get_or old k 0
  pub entry : (s : ℕ) → s < p.sentences → get_or new (lines p + s) 0 % 134217728 ≡ get_or old (lines p + s) 0 % 134217728

-- The sentences of the f-th function x before s have been asked.
pub record OpenUpto (w : Program) (old new : List ℕ) (p : Plan) (f : ℕ) (x : Function) (s : ℕ) : Type 0 where
  pub from : sentences_before f w.functions ≤ s
  pub only : OnlyOpen p old new
  pub kept : (t : ℕ) → t < sentences_before f w.functions → is_open p new t ≡ is_open p old t
  pub told : (t : ℕ) (y : Sentence) → t < s → Owns w f x t y → is_open p new t ≡ open_at (is_there (fell_of p old) after_all) (sites_of w) x t y

-- All of them, if a round would judge it.
pub record FunctionOpen (w : Program) (old new : List ℕ) (p : Plan) (f : ℕ) (x : Function) : Type 0 where
  pub only : OnlyOpen p old new
  pub kept : (t : ℕ) → t < sentences_before f w.functions → is_open p new t ≡ is_open p old t
  pub told : (t : ℕ) (y : Sentence) → Owns w f x t y → is_judged (is_there (fell_of p old) after_all) x.name (sites_of w) ≡ true → is_open p new t ≡ open_at (is_there (fell_of p old) after_all) (sites_of w) x t y

-- Those of the first `count` functions.
pub record DecidedUpto (w : Program) (old new : List ℕ) (p : Plan) (count : ℕ) : Type 0 where
  pub only : OnlyOpen p old new
  pub told : (f : ℕ) (x : Function) (s : ℕ) (y : Sentence) → f < count → Owns w f x s y → is_judged (is_there (fell_of p old) after_all) x.name (sites_of w) ≡ true → is_open p new s ≡ open_at (is_there (fell_of p old) after_all) (sites_of w) x s y
