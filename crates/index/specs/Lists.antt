-- What a walk along the list of a function's plain sites needs, and what classing them leaves.
use Rattle.std.specs.Prelude.{ℕ, ◌+◌, ◌≤◌, ◌≡◌, true, List, length, get_or}
use Rattle.std.proofs.Math.Option.{some}
use Rattle.std.proofs.Math.ListN.{get_elem?}
use Rattle.program.specs.Syntax.{Name}
use Rattle.told.specs.Numbered.{Held}
use Rattle.index.specs.First.{First}
use Rattle.index.specs.Tables.{SitesAt}
use Rattle.told.specs.Calls.{is_listed}
use Rattle.index.specs.Links.{entry_next, Chain}

-- The sites of b have their entries at `calls` and their links at `links`, n of each; the list of f begins at `head`.
pub record ListAt (b m : List ℕ) (calls links n head : ℕ) (f : Name) (sites : List Held) : Type 0 where
  pub entries : SitesAt b sites m calls
  pub count : length sites ≡ n
  pub calls_fit : calls + n ≤ length m
  pub links_fit : links + n ≤ length m
  pub chain : Chain true f sites m links 0
  pub begins : First (is_listed true f) 0 sites head

pub record SomeListAt (b m : List ℕ) (calls links n head : ℕ) : Type 0 where
  pub name : Name
  pub sites : List Held
  pub list : ListAt b m calls links n head name sites

-- The site i is one of the list.
pub record Among (f : Name) (sites : List Held) (i : ℕ) (y : Held) : Type 0 where
  pub is : get_elem? sites i ≡ some y
  pub listed : is_listed true f y ≡ true

pub record SomeAmong (b m : List ℕ) (calls links n head i : ℕ) : Type 0 where
  pub name : Name
  pub sites : List Held
  pub list : ListAt b m calls links n head name sites
  pub site : Held
  pub among : Among name sites i site

-- Only the classes of the list's own sites have changed.
pub record OnlyClasses (f : Name) (sites : List Held) (old new : List ℕ) (links : ℕ) : Type 0 where
  pub length : length new ≡ length old
  pub others : (k : ℕ) → ((i : ℕ) (y : Held) → Among f sites i y → k ≡ links + i → ⊥) → get_or new k 0 ≡ get_or old k 0
  pub nexts : (i : ℕ) → entry_next (get_or new (links + i) 0) ≡ entry_next (get_or old (links + i) 0)
