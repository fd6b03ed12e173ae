-- Numbers, spans and names: written and read back.
use Prim.Native.Nat.{ℕ, zero, suc, ◌+◌, ◌*◌, ◌/◌, ◌%◌, ◌≤◌, ◌<◌}
use native.Mathlib.Omega.{arith}
use mathlib.Core.Path.{◌≡◌, sym, ap, ◌∙◌}
use mathlib.Core.List.{List, [], ◌∷◌, ◌++◌}
use native.Mathlib.Nat.{add_assoc}
use lib.ListN.{length, get_or, take, drop}
use lib.Seq.{get_or-drop}
use Rattle.program.specs.Syntax.{Span}
use Rattle.program.specs.Bytes.{Bytes, put16, put32, put_span, get16, get32, get_span}
use Rattle.program.specs.Limits.{ValidSpan}

-- A byte and what stands above it.
low : (a q : ℕ) → a < 256 → (a + 256 * q) % 256 ≡ a
low a q h = omega arith

high : (a q : ℕ) → a < 256 → (a + 256 * q) / 256 ≡ q
high a q h = omega arith

whole : (n : ℕ) → n % 256 + 256 * (n / 256) ≡ n
whole n = omega arith

top : (n : ℕ) → n < 4294967296 → n / 256 / 256 / 256 % 256 ≡ n / 256 / 256 / 256
top n h = omega arith

pub get32-put32 : (n : ℕ) (k : List ℕ) → n < 4294967296 → get32 (put32 n k) 0 ≡ n
unfolding get32 put32
get32-put32 n k h = simp (top n h, whole (n / 256 / 256), whole (n / 256), whole n)

pub get16-put16 : (n : ℕ) (k : List ℕ) → n < 65536 → get16 (put16 n k) 0 ≡ n
unfolding get16 put16
get16-put16 n k h = omega arith

-- Four bytes are those of their number.
pub put32_four : (a b c d : ℕ) (k : List ℕ) → a < 256 → b < 256 → c < 256 → d < 256 → put32 (a + 256 * (b + 256 * (c + 256 * d))) k ≡ a ∷ b ∷ c ∷ d ∷ k
unfolding put32
put32_four a b c d k ha hb hc hd =
    let e3 : d % 256 ≡ d = omega arith in
    rw (low a (b + 256 * (c + 256 * d)) ha, high a (b + 256 * (c + 256 * d)) ha, low b (c + 256 * d) hb, high b (c + 256 * d) hb, low c d hc, high c d hc, e3)

pub put16-two : (a b : ℕ) (k : List ℕ) → a < 256 → b < 256 → put16 (a + 256 * b) k ≡ a ∷ b ∷ k
unfolding put16
put16-two a b k ha hb =
    let e1 : b % 256 ≡ b = omega arith in
    rw (low a b ha, high a b ha, e1)

pub put32_back : (s k : List ℕ) → Bytes s → 4 ≤ length s → s ≡ take 4 s ++ k → s ≡ put32 (get32 s 0) k
unfolding get32
put32_back [] k h l e = absurd (omega arith)
put32_back (a ∷ []) k h l e = absurd (omega arith)
put32_back (a ∷ b ∷ []) k h l e = absurd (omega arith)
put32_back (a ∷ b ∷ c ∷ []) k h l e = absurd (omega arith)
put32_back (a ∷ b ∷ c ∷ d ∷ s) k h l e = e ∙ sym (put32_four a b c d k h.0 h.1.0 h.1.1.0 h.1.1.1.0)

four_bytes : (s k : List ℕ) → Bytes s → 8 ≤ length s → s ≡ take 8 s ++ k → (r : List ℕ) × (s ≡ put32 (get32 s 0) r) × (r ≡ put32 (get32 s 4) k)
unfolding get32
four_bytes [] k h l e = absurd (omega arith)
four_bytes (a ∷ []) k h l e = absurd (omega arith)
four_bytes (a ∷ b ∷ []) k h l e = absurd (omega arith)
four_bytes (a ∷ b ∷ c ∷ []) k h l e = absurd (omega arith)
four_bytes (a ∷ b ∷ c ∷ d ∷ []) k h l e = absurd (omega arith)
four_bytes (a ∷ b ∷ c ∷ d ∷ a2 ∷ []) k h l e = absurd (omega arith)
four_bytes (a ∷ b ∷ c ∷ d ∷ a2 ∷ b2 ∷ []) k h l e = absurd (omega arith)
four_bytes (a ∷ b ∷ c ∷ d ∷ a2 ∷ b2 ∷ c2 ∷ []) k h l e = absurd (omega arith)
four_bytes (a ∷ b ∷ c ∷ d ∷ a2 ∷ b2 ∷ c2 ∷ d2 ∷ s) k h l e = (
  a2 ∷ b2 ∷ c2 ∷ d2 ∷ k,
  e ∙ sym (put32_four a b c d (a2 ∷ b2 ∷ c2 ∷ d2 ∷ k) h.0 h.1.0 h.1.1.0 h.1.1.1.0),
  sym (put32_four a2 b2 c2 d2 k h.1.1.1.1.0 h.1.1.1.1.1.0 h.1.1.1.1.1.1.0 h.1.1.1.1.1.1.1.0),
)

-- A span's bytes are those of the span that is read there.
pub span_back : (s k : List ℕ) → Bytes s → 8 ≤ length s → s ≡ take 8 s ++ k → s ≡ put_span (get_span s 0) k
unfolding put_span get_span
span_back s k h l e =
    let q = four_bytes s k h l e in
    q.1 ∙ ap (put32 (get32 s 0)) q.2

pub get_span_put : (p : Span) (k : List ℕ) → ValidSpan p → get_span (put_span p k) 0 ≡ p
unfolding put_span get_span put32 get32
get_span_put p k h = λ i. record { start = get32-put32 p.start (put32 p.end k) (omega arith) i; end = get32-put32 p.end k h.1 i }

get_d_byte : (s : List ℕ) (i : ℕ) → Bytes s → get_or s i 0 < 256
get_d_byte [] i h = omega arith
get_d_byte (b ∷ s) zero h = h.0
get_d_byte (b ∷ s) (suc i) h = get_d_byte s i h.1

pub get32-fits : (s : List ℕ) (i : ℕ) → Bytes s → get32 s i < 4294967296
unfolding get32
get32-fits s i h = omega (arith, get_d_byte s i h, get_d_byte s (i + 1) h, get_d_byte s (i + 2) h, get_d_byte s (i + 3) h)

-- A number that stands from n on.
pub get32-drop : (s : List ℕ) (n i : ℕ) → get32 s (n + i) ≡ get32 (drop n s) i
unfolding get32
get32-drop s n i = simp (add_assoc n i 1, add_assoc n i 2, add_assoc n i 3, get_or-drop)

pub get16-drop : (s : List ℕ) (n i : ℕ) → get16 s (n + i) ≡ get16 (drop n s) i
unfolding get16
get16-drop s n i = simp (add_assoc n i 1, get_or-drop)

-- A list whose every element is below 256.
pub bytes_of : (s : List ℕ) → ((i : ℕ) → get_or s i 0 < 256) → Bytes s
bytes_of [] h = tt
bytes_of (b ∷ s) h = (h 0, bytes_of s (λ i. h (suc i)))
