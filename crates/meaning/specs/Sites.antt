-- Call sites: "Sites per sentence: pattern, result, then each condition's result and pattern; an outer call before those in its argument."
-- "A call in a block's argument, or anywhere in a block's sentences, is a site of the function's sentence that holds the block, in the Rust's order."
use Rattle.std.specs.Prelude.{Bool, true, false, ◌&&◌, List, [], ◌∷◌, ◌++◌}
use Rattle.program.specs.Syntax.{Name, Terms, nil, symbol, variable, bracket, call, block, Conditions, none, condition, Sentences, empty, sentence, Function, Program}

-- A call: the callee's name and the argument.
pub record Site : Type 0 where
  pub callee : Name
  pub argument : Terms

abbrev pub site : Name → Terms → Site
site f a = record { callee = f; argument = a }

-- The Rust's `collect_call_sites`, and its loops over conditions and sentences.
unfoldable mutual
  pub collect_call_sites : Terms → List Site
  collect_call_sites nil = []
  collect_call_sites (symbol s x r) = collect_call_sites r
  collect_call_sites (variable s k n r) = collect_call_sites r
  collect_call_sites (bracket s i r) = collect_call_sites i ++ collect_call_sites r
  collect_call_sites (call s f a r) = site f a ∷ (collect_call_sites a ++ collect_call_sites r)
  collect_call_sites (block s a b r) = collect_call_sites a ++ (sentence_sites b ++ collect_call_sites r)

  pub condition_sites : Conditions → List Site
  condition_sites none = []
  condition_sites (condition s r p c) = collect_call_sites r ++ (collect_call_sites p ++ condition_sites c)

  pub sentence_sites : Sentences → List Site
  sentence_sites empty = []
  sentence_sites (sentence h p c r b) = collect_call_sites p ++ (collect_call_sites r ++ (condition_sites c ++ sentence_sites b))

-- Functions in file order.
unfoldable pub function_sites : List Function → List Site
function_sites [] = []
function_sites (f ∷ fs) = sentence_sites f.sentences ++ function_sites fs

unfoldable pub program_sites : Program → List Site
program_sites p = function_sites p.functions

-- The Rust's `restriction_is_characterisable`: "A call or block in any argument makes the callee uncharacterised".
unfoldable pub restriction_is_characterisable : Terms → Bool
restriction_is_characterisable nil = true
restriction_is_characterisable (symbol s x r) = restriction_is_characterisable r
restriction_is_characterisable (variable s k n r) = restriction_is_characterisable r
restriction_is_characterisable (bracket s i r) = restriction_is_characterisable i && restriction_is_characterisable r
restriction_is_characterisable (call s f a r) = false
restriction_is_characterisable (block s a b r) = false
