-- Numbers, spans and names as bytes: "Numbers are little-endian." Each writer takes the bytes that follow.
use Rattle.std.specs.Prelude.{ℕ, ◌+◌, ◌*◌, ◌/◌, ◌%◌, ◌<◌, List, [], ◌∷◌, ◌++◌, length, get_or}
use Rattle.program.specs.Syntax.{Name, Span}

unfoldable pub put16 : ℕ → List ℕ → List ℕ
put16 n k = n % 256 ∷ n / 256 % 256 ∷ k

unfoldable pub put32 : ℕ → List ℕ → List ℕ
put32 n k = n % 256 ∷ n / 256 % 256 ∷ n / 256 / 256 % 256 ∷ n / 256 / 256 / 256 % 256 ∷ k

-- "A span is two 32-bit numbers, start and end."
unfoldable pub put_span : Span → List ℕ → List ℕ
put_span s k = put32 s.start (put32 s.end k)

-- "A name is a length byte and its bytes."
unfoldable pub put_name : Name → List ℕ → List ℕ
put_name n k = length n ∷ (n ++ k)

-- The number, or the span, that starts at a place.
unfoldable pub get16 : List ℕ → ℕ → ℕ
get16 s i = get_or s i 0 + 256 * get_or s (i + 1) 0

unfoldable pub get32 : List ℕ → ℕ → ℕ
get32 s i = get_or s i 0 + 256 * (get_or s (i + 1) 0 + 256 * (get_or s (i + 2) 0 + 256 * get_or s (i + 3) 0))

unfoldable pub get_span : List ℕ → ℕ → Span
get_span s i = record { start = get32 s i; end = get32 s (i + 4) }

-- Every element is a byte.
abbrev pub Bytes : List ℕ → Type 0
Bytes [] = Unit {0}
Bytes (b ∷ s) = (b < 256) × Bytes s
