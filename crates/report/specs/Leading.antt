-- The restrictions of a function as sites: the first of each class that is there.
use Rattle.std.specs.Prelude.{ℕ, suc, ◌≡◌, Bool, true, false, ◌&&◌, not, cond, List, [], ◌∷◌, ◌++◌, take}
use Rattle.std.proofs.Math.Option.{some}
use Rattle.std.proofs.Math.ListN.{get_elem?}
use Rattle.program.specs.Syntax.{Name, Terms, Function, Program}
use Rattle.patterns.specs.Ascii.{ascii}
use Rattle.patterns.specs.Configuration.{same_configuration}
use Rattle.meaning.specs.Lists.{any}
use Rattle.told.specs.Numbered.{Held, sites_of}
use Rattle.meaning.specs.Text.{Text, format_terms}
use Rattle.index.specs.declared.Plan.{Plan}
use Rattle.told.specs.Calls.{is_listed}
use Rattle.told.specs.Asked.{restricts}
use Rattle.cleaning.specs.Indexed.{Indexed}
use Rattle.report.specs.Emitting.{Readable}

-- "A restriction is dropped as a repeat exactly if it equals an earlier one of its function": the site y at i is there, and repeats none before it that is.
unfoldable pub is_leading : (ℕ → Bool) → Name → List Held → ℕ → Held → Bool
is_leading keep f sites i y = restricts keep f y && not (any (λ z. restricts keep f z && same_configuration z.site.argument y.site.argument) (take i sites))

-- A site of some function's list of plain sites.
pub record SomeListed (m : List ℕ) (p : Plan) (i : ℕ) : Type 0 where
  pub body : List ℕ
  pub program : Program
  pub indexed : Indexed body program m p
  pub place : ℕ
  pub function : Function
  pub is : get_elem? program.functions place ≡ some function
  pub site : Held
  pub at : get_elem? (sites_of program) i ≡ some site
  pub listed : is_listed true function.name site ≡ true

-- The same in a body that is read.
pub record SomeSite (b m : List ℕ) (p : Plan) (i : ℕ) : Type 0 where
  pub program : Program
  pub readable : Readable b program m p
  pub place : ℕ
  pub function : Function
  pub is : get_elem? program.functions place ≡ some function
  pub site : Held
  pub at : get_elem? (sites_of program) i ≡ some site
  pub listed : is_listed true function.name site ≡ true

-- One restriction of a removed line, with the space before it.
unfoldable pub angled_after : Terms → Text
angled_after r = ascii " <" ++ (format_terms r ++ ascii ">")

unfoldable pub angled_if : Bool → Terms → Text
angled_if true r = angled_after r
angled_if false r = []

-- The arguments of the sites that lead, from `rest` on, which is the part of `sites` from i on.
unfoldable pub leading_from : (ℕ → Bool) → Name → List Held → ℕ → List Held → List Terms
leading_from keep f sites i [] = []
leading_from keep f sites i (y ∷ rest) = cond (is_leading keep f sites i y) (y.site.argument ∷ leading_from keep f sites (suc i) rest) (leading_from keep f sites (suc i) rest)
