-- The lists of each function's call sites, and the classes of repeats among the plain ones, as entries of work.
use Rattle.std.specs.Prelude.{ℕ, suc, ◌+◌, ◌/◌, ◌%◌, ◌≤◌, ◌≡◌, Bool, true, false, ◌&&◌, List, get_or}
use Rattle.std.proofs.Math.Option.{some}
use Rattle.std.proofs.Math.ListN.{get_elem?}
use Rattle.program.specs.Syntax.{Name, Function}
use Rattle.patterns.specs.Configuration.{same_configuration}
use Rattle.told.specs.Numbered.{Held}
use Rattle.index.specs.First.{First}
use Rattle.index.specs.Bucket.{is_named}
use Rattle.told.specs.Calls.{is_listed}
use Rattle.index.specs.declared.table.Kind.{Kind}
use Rattle.index.specs.declared.table.Kind.TheVariants.{Plain, Other}
use Rattle.index.specs.declared.table.Heads.{Heads}

-- A function's entry holds the heads of its two lists, 13 bits each.
unfoldable pub list_head : Bool → ℕ → ℕ
list_head true e = e % 8192
list_head false e = e / 8192

-- Which of the two a list is.
abbrev pub is_plain_list : Kind → Bool
is_plain_list Plain = true
is_plain_list Other = false

abbrev pub first_of : Kind → Heads → ℕ
first_of Plain h = h.plain
first_of Other h = h.other

abbrev pub with_first : Kind → Heads → ℕ → Heads
with_first Plain h i = record { plain = i; other = h.other }
with_first Other h i = record { plain = h.plain; other = i }

-- A site's entry holds the next of its list, 13 bits, and the first of its class above.
abbrev pub entry_next : ℕ → ℕ
entry_next e = e % 8192

abbrev pub entry_class : ℕ → ℕ
entry_class e = e / 8192

-- The entries from `at` on hold the heads of the lists, of sites from `from` on: for the first function of each name.
pub record FirstsHeaded (fs : List Function) (sites : List Held) (m : List ℕ) (at from : ℕ) : Type 0 where
  pub head : (kind : Bool) (f : ℕ) (x : Function) → get_elem? fs f ≡ some x → First (is_named x.name) 0 fs f → First (is_listed kind x.name) from sites (list_head kind (get_or m (at + f) 0))

-- The same for every function, and all sites.
pub record Headed (fs : List Function) (sites : List Held) (m : List ℕ) (at : ℕ) : Type 0 where
  pub head : (kind : Bool) (f : ℕ) (x : Function) → get_elem? fs f ≡ some x → First (is_listed kind x.name) 0 sites (list_head kind (get_or m (at + f) 0))

-- The entries from `at` on, those of the sites of f from `from` on, hold the next site of the same list.
pub record Chain (kind : Bool) (f : Name) (sites : List Held) (m : List ℕ) (at from : ℕ) : Type 0 where
  pub next : (i : ℕ) (y : Held) → from ≤ i → get_elem? sites i ≡ some y → is_listed kind f y ≡ true → First (is_listed kind f) (suc i) sites (entry_next (get_or m (at + i) 0))

-- The same for every function.
pub record Chained (fs : List Function) (sites : List Held) (m : List ℕ) (at from : ℕ) : Type 0 where
  pub chain : (kind : Bool) (f : ℕ) (x : Function) → get_elem? fs f ≡ some x → Chain kind x.name sites m at from

-- A plain site of the function f that repeats y, y itself among them.
unfoldable pub is_repeat : Name → Held → Held → Bool
is_repeat f y x = is_listed true f x && same_configuration x.site.argument y.site.argument

-- The entry of a plain site of f holds the first that it repeats.
pub record Classed (f : Name) (sites : List Held) (m : List ℕ) (at : ℕ) : Type 0 where
  pub class : (i : ℕ) (y : Held) → get_elem? sites i ≡ some y → is_listed true f y ≡ true → First (is_repeat f y) 0 sites (entry_class (get_or m (at + i) 0))
