-- An input and a list of answers, read from bytes: document 02, request 1. "Refusal 14 is an input or answer that is no sequence of characters, identifiers, numbers and brackets free of 5 to 8, nested to any depth".
use Rattle.std.specs.Prelude.{ℕ, zero, suc, ◌+◌, Bool, true, false, ◌&&◌, cond, List, [], ◌∷◌, eqb, leb, length, get_or, take, drop}
use Rattle.std.proofs.Math.Option.{Option, none, some}
use Rattle.program.specs.Syntax.{Name, Symbol, character, identifier, number}
use Rattle.program.specs.Bytes.{get32}
use Rattle.program.specs.Limits.{allowed, scalar}
use Rattle.patterns.specs.Expression.{Expression, void, atom, group}
use Rattle.meaning.specs.Lists.{all}

-- A symbol, the opening of a bracket, a close.
pub data Token : Type 0 where
  symbol : Symbol → Token
  opening closing : Token

-- A token at the start of some bytes, and how many of them it has.
pub record Reading : Type 0 where
  pub token : Token
  pub size : ℕ

abbrev pub reading : Token → ℕ → Option Reading
reading t n = some (record { token = t; size = n })

-- "5 to 8" of document 01: the span behind a mark is there, and its start is not above its end.
unfoldable pub span_fits : List ℕ → Bool
span_fits s = leb 9 (length s) && leb (get32 s 1) (get32 s 5)

-- "a name or number with length 0 or above 63, or a byte outside 33 to 126 (number: outside '0' to '9')", behind the span.
unfoldable pub name_fits : Bool → List ℕ → Bool
name_fits digits s = leb 1 (get_or s 9 0) && (leb (get_or s 9 0) 63 && (leb (10 + get_or s 9 0) (length s) && all (allowed digits) (take (get_or s 9 0) (drop 10 s))))

-- "character code above 1,114,111 or in 55,296 to 57,343"
unfoldable pub code_fits : List ℕ → Bool
code_fits s = leb 13 (length s) && scalar (get32 s 9)

unfoldable pub named : List ℕ → Name
named s = take (get_or s 9 0) (drop 10 s)

-- The first token: marks 1, 2, 3 and 7 with what they hold, and 15; all other bytes begin none.
unfoldable pub first_token : List ℕ → Option Reading
first_token s =
    let m = get_or s 0 0 in
    cond (eqb m 15) (reading Token.closing 1)
    (cond (span_fits s)
    (cond (eqb m 7) (reading Token.opening 9)
    (cond (eqb m 1) (cond (code_fits s) (reading (Token.symbol (character (get32 s 9))) 13) none)
    (cond (eqb m 2) (cond (name_fits false s) (reading (Token.symbol (identifier (named s))) (10 + get_or s 9 0)) none)
    (cond (eqb m 3) (cond (name_fits true s) (reading (Token.symbol (number (named s))) (10 + get_or s 9 0)) none) none))))
    none)

unfoldable pub if_read : {A B : Type 0} → Option A → (A → Option B) → Option B
if_read none next = none
if_read (some a) next = next a

-- All tokens, at most n of them; a token has a byte at least, so that there are no more than bytes.
unfoldable pub tokens_up_to : ℕ → List ℕ → Option (List Token)
tokens_up_to zero s = some []
tokens_up_to (suc n) s = cond (eqb (length s) 0) (some []) (if_read (first_token s) (λ r. if_read (tokens_up_to n (drop r.size s)) (λ l. some (r.token ∷ l))))

unfoldable pub tokens : List ℕ → Option (List Token)
tokens s = tokens_up_to (length s) s

-- A token before expressions, the first of which it belongs to: a close ends an expression of its own, and an opening makes that the inside of a bracket.
unfoldable pub before_all : Token → List Expression → Option (List Expression)
before_all (Token.symbol x) [] = none
before_all (Token.symbol x) (v ∷ l) = some (atom x v ∷ l)
before_all Token.closing l = some (void ∷ l)
before_all Token.opening [] = none
before_all Token.opening (u ∷ []) = none
before_all Token.opening (u ∷ (v ∷ l)) = some (group u v ∷ l)

unfoldable pub expressions : List Token → List Expression → Option (List Expression)
expressions [] l = some l
expressions (t ∷ ts) l = if_read (expressions ts l) (before_all t)

unfoldable pub single : List Expression → Option Expression
single [] = none
single (v ∷ []) = some v
single (v ∷ (w ∷ l)) = none

-- "an input expression written in image marks": its whole slice, without a close at its end; none where 14 is met.
unfoldable pub input_of : List ℕ → Option Expression
input_of s = if_read (tokens s) (λ l. if_read (expressions l (void ∷ [])) single)

-- "Each answer ends with a close": a close that no bracket opened ends one, and nothing stands behind the last.
unfoldable pub answers_of : List ℕ → Option (List Expression)
answers_of s = if_read (tokens s) (λ l. expressions l [])
