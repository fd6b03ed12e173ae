-- "An expression holds symbols and brackets." (document 01, "A run"): what a pattern is matched against, and what a run computes.
use Rattle.program.specs.Syntax.{Symbol}

pub data Expression : Type 0 where
  void : Expression
  atom : Symbol → Expression → Expression
  group : Expression → Expression → Expression

infixr 65 ◌⧺◌
-- One expression after another.
unfoldable pub ◌⧺◌ : Expression → Expression → Expression
void ⧺ w = w
atom x v ⧺ w = atom x (v ⧺ w)
group u v ⧺ w = group u (v ⧺ w)
