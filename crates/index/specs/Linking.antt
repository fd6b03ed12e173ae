-- What linking the sites needs, and what it does to work.
use Rattle.std.specs.Prelude.{ℕ, ◌+◌, ◌*◌, ◌<◌, ◌≤◌, ◌≡◌, Bool, not, List, length, get_or}
use Rattle.program.specs.Syntax.{Function}
use Rattle.told.specs.Numbered.{Held}
use Rattle.index.specs.Tables.{SitesAt}
use Rattle.index.specs.Bucket.{Filed}
use Rattle.index.specs.Tabled.{Tabled}
use Rattle.index.specs.Links.{list_head}

-- The columns of work, one after another: functions, heads, others, sites, links, then the filed functions' room.
pub record Columns (m : List ℕ) (functions calls links sites at n : ℕ) : Type 0 where
  pub heads_fit : 2 * functions ≤ calls
  pub calls_fit : calls + sites ≤ links
  pub links_fit : links + sites ≤ at
  pub fits : at + functions + n ≤ length m
  pub small : length m ≤ 32768
  pub few : sites ≤ 8191

pub record SomeSites (b m : List ℕ) (calls sites : ℕ) : Type 0 where
  pub held : List Held
  pub entries : SitesAt b held m calls
  pub count : length held ≡ sites

-- The entries of work are those of the functions and sites of b, and the functions are filed.
pub record Indexed (b m : List ℕ) (functions calls sites at n : ℕ) (fs : List Function) (held : List Held) : Type 0 where
  pub tabled : Tabled b m functions fs
  pub filed : Filed fs m at (at + functions) n 0
  pub entries : SitesAt b held m calls
  pub count : length held ≡ sites

-- Only heads and links have changed.
pub record LinksOnly (old new : List ℕ) (functions links sites : ℕ) : Type 0 where
  pub length : length new ≡ length old
  pub entries : (k : ℕ) → k < functions → get_or new k 0 ≡ get_or old k 0
  pub columns : (k : ℕ) → 2 * functions ≤ k → k < links → get_or new k 0 ≡ get_or old k 0
  pub room : (k : ℕ) → links + sites ≤ k → get_or new k 0 ≡ get_or old k 0

-- The site i is put before one of the lists whose heads stand at `head`; its link stands at `link`.
pub record Pushed (kind : Bool) (old new : List ℕ) (head link i : ℕ) : Type 0 where
  pub length : length new ≡ length old
  pub next : get_or new link 0 ≡ list_head kind (get_or old head 0)
  pub first : list_head kind (get_or new head 0) ≡ i
  pub other : list_head (not kind) (get_or new head 0) ≡ list_head (not kind) (get_or old head 0)
  pub others : (k : ℕ) → (k ≡ head → ⊥) → (k ≡ link → ⊥) → get_or new k 0 ≡ get_or old k 0
