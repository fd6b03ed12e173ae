-- What makes a program q a cleaned form of a program p, however its sentences were chosen: q lacks only sentences of p that no call site of q can choose, and its root is the same.
-- The call sites of q are some of p's, so that a cleaned form of a cleaned form is one.
use mathlib.Core.Path.{◌≡◌, refl, ◌∙◌}
use mathlib.Core.List.{Memᴰ}
use mathlib.Core.Option.{Option, none, some}
use lib.Dec.{T}
use Rattle.program.specs.Syntax.{Head, Terms, Conditions, Sentences, empty, sentence, Program}
use Rattle.patterns.specs.Expression.{Expression}
use Rattle.patterns.specs.Fresh.{Fresh}
use Rattle.meaning.specs.Sites.{Site, program_sites, restriction_is_characterisable}
use Rattle.meaning.specs.Root.{root}
use Rattle.meaning.specs.Run.{sentences_of}

-- What a call site can hand to its callee: a fresh instance of its argument, if that has no calls and blocks; else anything.
abbrev pub Hands : Site → Expression → Type 0
Hands x v = T (restriction_is_characterisable x.argument) → Fresh x.argument v

-- The second sentences are the first without some whose patterns v does not match.
pub data Lacks (v : Expression) : Sentences → Sentences → Type 0 where
  nothing : Lacks v empty empty
  keeps : {h : Head} {p : Terms} {c : Conditions} {r : Terms} {b d : Sentences} → Lacks v b d → Lacks v (sentence h p c r b) (sentence h p c r d)
  drops : {h : Head} {p : Terms} {c : Conditions} {r : Terms} {b d : Sentences} → (Fresh p v → ⊥) → Lacks v b d → Lacks v (sentence h p c r b) d

-- The same of what a call finds: the sentences of a function, or no function.
abbrev pub Finds : Expression → Option Sentences → Option Sentences → Type 0
Finds v none none = Unit {0}
Finds v none (some d) = ⊥
Finds v (some b) none = ⊥
Finds v (some b) (some d) = Lacks v b d

pub record Cleaned (p q : Program) : Type 0 where
  pub sites : (x : Site) → Memᴰ x (program_sites q) → Memᴰ x (program_sites p)
  pub finds : (x : Site) → Memᴰ x (program_sites q) → (v : Expression) → Hands x v → Finds v (sentences_of x.callee p.functions) (sentences_of x.callee q.functions)
  pub same-root : root q ≡ root p

pub lacks_same : (v : Expression) (b : Sentences) → Lacks v b b
lacks_same v empty = Lacks.nothing
lacks_same v (sentence h p c r b) = Lacks.keeps (lacks_same v b)

pub lacks_trans : {v : Expression} {x y z : Sentences} → Lacks v x y → Lacks v y z → Lacks v x z
lacks_trans Lacks.nothing e = e
lacks_trans (Lacks.keeps d) (Lacks.keeps e) = Lacks.keeps (lacks_trans d e)
lacks_trans (Lacks.keeps d) (Lacks.drops n e) = Lacks.drops n (lacks_trans d e)
lacks_trans (Lacks.drops n d) e = Lacks.drops n (lacks_trans d e)

pub finds_same : (v : Expression) (o : Option Sentences) → Finds v o o
finds_same v none = tt
finds_same v (some b) = lacks_same v b

pub finds_trans : (v : Expression) (x y z : Option Sentences) → Finds v x y → Finds v y z → Finds v x z
finds_trans v none none none h k = tt
finds_trans v none none (some c) h k = k
finds_trans v none (some b) z h k = absurd h
finds_trans v (some a) none z h k = absurd h
finds_trans v (some a) (some b) none h k = k
finds_trans v (some a) (some b) (some c) h k = lacks_trans h k

pub cleaned_same : (p : Program) → Cleaned p p
cleaned_same p = record { sites = λ x m. m; finds = λ x m v h. finds_same v (sentences_of x.callee p.functions); same-root = refl }

pub cleaned_trans : (p q r : Program) → Cleaned p q → Cleaned q r → Cleaned p r
cleaned_trans p q r c d = record {
  sites = λ x m. c.sites x (d.sites x m);
  finds = λ x m v h. finds_trans v (sentences_of x.callee p.functions) (sentences_of x.callee q.functions) (sentences_of x.callee r.functions) (c.finds x (d.sites x m) v h) (d.finds x m v h);
  same-root = d.same-root ∙ c.same-root;
}
