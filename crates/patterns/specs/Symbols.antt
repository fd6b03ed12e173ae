-- When two symbols are equal: "Characters are equal by code, identifiers by ASCII without regard to case, [..]; symbols of two sorts are never equal."
-- Document 02, 3, on numbers: "two numbers are equal if they are the same whole number, of any length up to 63 digits".
use Rattle.std.specs.Prelude.{Bool, false, cond, [], ◌∷◌, eqb}
use Rattle.program.specs.Syntax.{Name, Symbol, character, identifier, number}
use Rattle.patterns.specs.Names.{caseless, eq_bytes}

-- A number's digits after its leading zeros, which say which whole number it is: none of 0, 00 and 000.
unfoldable pub significant : Name → Name
significant [] = []
significant (d ∷ n) = cond (eqb d 48) (significant n) (d ∷ n)

-- Two symbols are equal exactly if their keys are.
unfoldable pub key : Symbol → Symbol
key (character c) = character c
key (identifier n) = identifier (caseless n)
key (number n) = number (significant n)

-- The same sort and the same spelling.
unfoldable pub eq_symbol : Symbol → Symbol → Bool
eq_symbol (character c) (character d) = eqb c d
eq_symbol (character c) (identifier m) = false
eq_symbol (character c) (number m) = false
eq_symbol (identifier n) (character d) = false
eq_symbol (identifier n) (identifier m) = eq_bytes n m
eq_symbol (identifier n) (number m) = false
eq_symbol (number n) (character d) = false
eq_symbol (number n) (identifier m) = false
eq_symbol (number n) (number m) = eq_bytes n m

unfoldable pub same_symbol : Symbol → Symbol → Bool
same_symbol x y = eq_symbol (key x) (key y)
