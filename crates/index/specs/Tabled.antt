-- What a walk over the functions' entries needs.
use Rattle.std.specs.Prelude.{ℕ, ◌+◌, ◌≤◌, ◌<◌, ◌≡◌, List, length}
use Rattle.program.specs.Syntax.{Function}
use Rattle.index.specs.Tables.{FunctionsIn}
use Rattle.index.specs.Bucket.{Filed}
use Rattle.index.specs.declared.names.Filing.{Filing}

-- The first entries of m are those of so many functions of b.
pub record Tabled (b m : List ℕ) (n : ℕ) (fs : List Function) : Type 0 where
  pub entries : FunctionsIn b fs m 0
  pub count : length fs ≡ n
  pub fits : n ≤ length m

pub record SomeTabled (b m : List ℕ) (count : ℕ) : Type 0 where
  pub functions : List Function
  pub tabled : Tabled b m count functions

-- All functions are filed: links at a place, buckets behind them.
abbrev pub FiledAs : List Function → List ℕ → Filing → Type 0
FiledAs fs m f = Filed fs m f.at (f.at + f.functions) f.buckets 0

-- The entries are those of functions of b, which are filed.
pub record SomeFiled (b m : List ℕ) (f : Filing) : Type 0 where
  pub functions : List Function
  pub tabled : Tabled b m f.functions functions
  pub filed : FiledAs functions m f
  pub fits : f.at + f.functions + f.buckets ≤ length m
  pub some : 0 < f.buckets
