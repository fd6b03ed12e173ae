-- What stores into a slice leave.
use Prim.Native.Nat.{ℕ, ◌+◌, ◌-◌, ◌≤◌, ◌/◌, ◌%◌}
use native.Mathlib.Omega.{arith}
use mathlib.Core.Path.{◌≡◌, refl, sym, ap, ◌∙◌}
use mathlib.Core.List.{List, [], ◌∷◌, ◌++◌, append_assoc}
use lib.ListN.{length, take, drop, length-append, take-append-drop}
use lib.Seq.{take_at, drop_at, drop-drop, length-take-le}
use borrow.Rule.Slice.PartMut.{put_mid}
use Rattle.std.specs.Int.{to_le_bytes}
use Rattle.std.proofs.Common.{w32}
use Rattle.std.proofs.lemmas.Slice.{put_mid-paste}
use Rattle.std.proofs.lemmas.List.Edits.{paste_all}
use Rattle.program.specs.Bytes.{put16, put32}

-- after a write of the bytes zs to `s[a..a + n]`
pub stored_part : (xs ys zs : List ℕ) (a n : ℕ) → ys ≡ zs → length zs ≡ n → put_mid a (a + n - a) xs ys ≡ take a xs ++ (zs ++ drop (a + n) xs)
stored_part xs ys zs a n e l = put_mid-paste a (a + n - a) xs ys zs n e (omega arith) (sym l) ∙ paste_all xs a zs n (sym l)

-- the bytes of a number, the lowest first
pub bytes32 : (n : ℕ) (k : List ℕ) → to_le_bytes w32 n ++ k ≡ put32 n k
unfolding put32
bytes32 n k =
    let second : n / 65536 ≡ n / 256 / 256 = omega arith in
    let third : n / 16777216 ≡ n / 256 / 256 / 256 = omega arith in
    λ i. n % 256 ∷ n / 256 % 256 ∷ second i % 256 ∷ third i % 256 ∷ k

pub bytes16 : (n : ℕ) (k : List ℕ) → take 2 (to_le_bytes w32 n) ++ k ≡ put16 n k
unfolding put16
bytes16 n k = refl

-- one number after another, each where the one before it ends
next32 : (o l front : List ℕ) (at n : ℕ) → length front ≡ at → l ≡ front ++ drop at o → take at l ++ put32 n (drop (at + 4) l) ≡ (front ++ put32 n []) ++ drop (at + 4) o
unfolding put32
next32 o l front at n e q =
    let d : drop (at + 4) l ≡ drop (at + 4) o = sym (drop-drop 4 at l) ∙ (ap (drop 4) (ap (drop at) q ∙ drop_at front (drop at o) at e) ∙ drop-drop 4 at o) in
    ap (λ (k : List ℕ). k ++ put32 n (drop (at + 4) l)) (ap (take at) q ∙ take_at front (drop at o) at e)
    ∙ (ap (λ (k : List ℕ). front ++ put32 n k) d ∙ sym (append_assoc front (put32 n []) (drop (at + 4) o)))

next16 : (o l front : List ℕ) (at n : ℕ) → length front ≡ at → l ≡ front ++ drop at o → take at l ++ put16 n (drop (at + 2) l) ≡ (front ++ put16 n []) ++ drop (at + 2) o
unfolding put16
next16 o l front at n e q =
    let d : drop (at + 2) l ≡ drop (at + 2) o = sym (drop-drop 2 at l) ∙ (ap (drop 2) (ap (drop at) q ∙ drop_at front (drop at o) at e) ∙ drop-drop 2 at o) in
    ap (λ (k : List ℕ). k ++ put16 n (drop (at + 2) l)) (ap (take at) q ∙ take_at front (drop at o) at e)
    ∙ (ap (λ (k : List ℕ). front ++ put16 n k) d ∙ sym (append_assoc front (put16 n []) (drop (at + 2) o)))

four : (f : List ℕ) (a b c d : ℕ) (k : List ℕ) → (((f ++ put32 a []) ++ put32 b []) ++ put16 c []) ++ put16 d [] ++ k ≡ f ++ put32 a (put32 b (put16 c (put16 d k)))
unfolding put32 put16
four f a b c d k =
    let p : List ℕ = f ++ put32 a [] in
    let q : List ℕ = p ++ put32 b [] in
    append_assoc (q ++ put16 c []) (put16 d []) k
    ∙ (append_assoc q (put16 c []) (put16 d k) ∙ (append_assoc p (put32 b []) (put16 c (put16 d k)) ∙ append_assoc f (put32 a []) (put32 b (put16 c (put16 d k)))))

-- the four fields of a trailer
pub trailer_stored : (o o1 o2 o3 o4 : List ℕ) (at b c d : ℕ) → at ≤ length o
    → o1 ≡ take at o ++ put32 at (drop (at + 4) o)
    → o2 ≡ take (at + 4) o1 ++ put32 b (drop (at + 4 + 4) o1)
    → o3 ≡ take (at + 8) o2 ++ put16 c (drop (at + 8 + 2) o2)
    → o4 ≡ take (at + 10) o3 ++ put16 d (drop (at + 10 + 2) o3)
    → o4 ≡ take at o ++ put32 at (put32 b (put16 c (put16 d (drop (at + 12) o))))
unfolding put32 put16
trailer_stored o o1 o2 o3 o4 at b c d h q1 q2 q3 q4 =
    let f : List ℕ = take at o in
    let lf : length f ≡ at = length-take-le at o h in
    let f1 : List ℕ = f ++ put32 at [] in
    let l1 : length f1 ≡ at + 4 = length-append f (put32 at []) ∙ ap (λ (n : ℕ). n + 4) lf in
    let f2 : List ℕ = f1 ++ put32 b [] in
    let l2 : length f2 ≡ at + 8 = length-append f1 (put32 b []) ∙ omega (arith, l1) in
    let f3 : List ℕ = f2 ++ put16 c [] in
    let l3 : length f3 ≡ at + 10 = length-append f2 (put16 c []) ∙ omega (arith, l2) in
    let s1 : o1 ≡ f1 ++ drop (at + 4) o = q1 ∙ next32 o o f at at lf (sym (take-append-drop at o)) in
    let x2 : at + 4 + 4 ≡ at + 8 = omega arith in
    let s2 : o2 ≡ f2 ++ drop (at + 8) o = q2 ∙ (next32 o o1 f1 (at + 4) b l1 s1 ∙ ap (λ (n : ℕ). f2 ++ drop n o) x2) in
    let x3 : at + 8 + 2 ≡ at + 10 = omega arith in
    let s3 : o3 ≡ f3 ++ drop (at + 10) o = q3 ∙ (next16 o o2 f2 (at + 8) c l2 s2 ∙ ap (λ (n : ℕ). f3 ++ drop n o) x3) in
    let x4 : at + 10 + 2 ≡ at + 12 = omega arith in
    q4 ∙ (next16 o o3 f3 (at + 10) d l3 s3 ∙ (ap (λ (n : ℕ). (f3 ++ put16 d []) ++ drop n o) x4
    ∙ (four f at b c d (drop (at + 12) o))))
