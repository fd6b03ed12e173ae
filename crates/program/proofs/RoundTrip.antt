-- An image is accepted as a program exactly if it is the program's encoding and the program is within the limits.
use Prim.Native.Nat.{ℕ, zero, suc, ◌+◌, ◌≤◌, ◌<◌}
use native.Mathlib.Omega.{arith}
use mathlib.Core.Path.{◌≡◌, refl, sym, ap, subst, ◌∙◌}
use mathlib.Core.Bool.{Bool, true, false}
use mathlib.Core.Logic.{◌↔◌}
use mathlib.Core.List.{List, [], ◌∷◌, ◌++◌}
use native.Mathlib.Nat.{add_assoc, add-zero}
use lib.ListN.{length, take, drop, length-drop, take-append-drop}
use lib.Seq.{get_or-append-add, take-append_seam, length-take-le}
use lib.Dec.{leb, eqb}
use borrow.Author.Tests.{le-leb, eq-eqb, leb-true, eqb-true}
use Rattle.program.specs.Syntax.{Program}
use Rattle.program.specs.Bytes.{put16, put32, get16, get32, Bytes}
use Rattle.program.specs.Encode.{put_functions, put_body, own_sentence_count, trailer, encode}
use Rattle.program.specs.Limits.{pick, ValidBody, Valid}
use Rattle.program.specs.Automaton.{Stack, Read, run}
use Rattle.program.specs.Decode.{Answer, body_length, to_body, to_functions, function_field, sentence_field, sized, pointed, agrees, settled, decode_sized, decode}
use Rattle.program.proofs.Numbers.{get32-put32, get16-put16, put32_four, put16-two, get32-drop, get16-drop}
use Rattle.program.proofs.Lengths.{functions-length, body-length, encode-length}
use Rattle.program.proofs.Complete.{run-body}
use Rattle.program.proofs.Sound.{sound}

-- A number that stands past the first list.
get32-past : (a t : List ℕ) (i : ℕ) → get32 (a ++ t) (length a + i) ≡ get32 t i
unfolding get32
get32-past a t i =
    simp (add_assoc (length a) i 1, add_assoc (length a) i 2, add_assoc (length a) i 3, get_or-append-add a t i 0, get_or-append-add a t (i + 1) 0, get_or-append-add a t (i + 2) 0, get_or-append-add a t (i + 3) 0)

get16-past : (a t : List ℕ) (i : ℕ) → get16 (a ++ t) (length a + i) ≡ get16 t i
unfolding get16
get16-past a t i = simp (add_assoc (length a) i 1, get_or-append-add a t i 0, get_or-append-add a t (i + 1) 0)

-- The trailer's fields, where they fit.
trailer-body : (w : Program) → length (put_body w) < 4294967296 → get32 (trailer w) 0 ≡ length (put_body w)
unfolding trailer
trailer-body w h = get32-put32 (length (put_body w)) _ h

trailer-functions : (w : Program) → length (put_functions w.functions) < 4294967296 → get32 (trailer w) 4 ≡ length (put_functions w.functions)
unfolding trailer put32 get32
trailer-functions w h = get32-put32 (length (put_functions w.functions)) (put16 (length w.functions) (put16 (own_sentence_count w.functions) [])) h

trailer-count : (w : Program) → length w.functions < 65536 → get16 (trailer w) 8 ≡ length w.functions
unfolding trailer put32 get16
trailer-count w h = get16-put16 (length w.functions) (put16 (own_sentence_count w.functions) []) h

trailer-sentences : (w : Program) → own_sentence_count w.functions < 65536 → get16 (trailer w) 10 ≡ own_sentence_count w.functions
unfolding trailer put32 put16 get16
trailer-sentences w h = get16-put16 (own_sentence_count w.functions) [] h

module _ (w : Program) (h : length (encode w) ≤ 32768) where
  pub body_len : body_length (encode w) ≡ length (put_body w)
  body_len = omega (arith, encode-length w)

  body-short : length (put_body w) ≤ 32756
  body-short = omega (arith, encode-length w)

  functions-short : length (put_functions w.functions) ≤ 32756
  functions-short = omega (arith, body-short, body-length w)

  to_body_lem : to_body (encode w) ≡ length (put_body w)
  unfolding encode
  to_body_lem =
      ap (get32 (encode w)) (body_len ∙ sym (add-zero (length (put_body w))))
      ∙ (get32-past (put_body w) (trailer w) 0 ∙ trailer-body w (omega (arith, body-short)))

  pub to_functions_lem : to_functions (encode w) ≡ length (put_functions w.functions)
  unfolding encode
  to_functions_lem =
      ap (λ (n : ℕ). get32 (encode w) (n + 4)) body_len
      ∙ (get32-past (put_body w) (trailer w) 4 ∙ trailer-functions w (omega (arith, functions-short)))

  pub function_field_lem : function_field (encode w) ≡ length w.functions
  unfolding encode
  function_field_lem =
      ap (λ (n : ℕ). get16 (encode w) (n + 8)) body_len
      ∙ (get16-past (put_body w) (trailer w) 8 ∙ trailer-count w (omega (arith, functions-short, functions-length w.functions)))

  pub sentence_field_lem : sentence_field (encode w) ≡ own_sentence_count w.functions
  unfolding encode
  sentence_field_lem =
      ap (λ (n : ℕ). get16 (encode w) (n + 10)) body_len
      ∙ (get16-past (put_body w) (trailer w) 10 ∙ trailer-sentences w (omega (arith, functions-short, functions-length w.functions)))

  pub body_is : take (body_length (encode w)) (encode w) ≡ put_body w
  unfolding encode
  body_is = ap (λ (n : ℕ). take n (encode w)) body_len ∙ take-append_seam (put_body w) (trailer w)

  is-sized : sized (encode w) ≡ true
  unfolding sized
  is-sized = rw (le-leb 12 (length (encode w)) (omega (arith, encode-length w))) (le-leb (length (encode w)) 32768 h)

  is-pointed : pointed (encode w) ≡ true
  unfolding pointed
  is-pointed = rw (to_body_lem, to_functions_lem, body_len, eq-eqb (length (put_body w)) (length (put_body w)) refl) (le-leb _ _ (body-length w))

  is_agreed : agrees (encode w) w ≡ true
  unfolding agrees
  is_agreed =
      rw (to_functions_lem, function_field_lem, sentence_field_lem, eq-eqb (length (put_functions w.functions)) (length (put_functions w.functions)) refl, eq-eqb (length w.functions) (length w.functions) refl)
      (eq-eqb (own_sentence_count w.functions) (own_sentence_count w.functions) refl)

-- Every program within the limits is accepted, and read back.
pub decode-encode : (w : Program) → Valid w → decode (encode w) ≡ Answer.accepted w
unfolding decode decode_sized settled
decode-encode w h =
    rw (is-sized w h.1, is-pointed w h.1, body_is w h.1, run-body w h.0, is_agreed w h.1)

-- Twelve bytes are those of their four numbers.
twelve : (t : List ℕ) → Bytes t → length t ≡ 12 → t ≡ put32 (get32 t 0) (put32 (get32 t 4) (put16 (get16 t 8) (put16 (get16 t 10) [])))
unfolding get32 get16
twelve [] h l = absurd (omega arith)
twelve (a ∷ []) h l = absurd (omega arith)
twelve (a ∷ b ∷ []) h l = absurd (omega arith)
twelve (a ∷ b ∷ c ∷ []) h l = absurd (omega arith)
twelve (a ∷ b ∷ c ∷ d ∷ []) h l = absurd (omega arith)
twelve (a ∷ b ∷ c ∷ d ∷ e ∷ []) h l = absurd (omega arith)
twelve (a ∷ b ∷ c ∷ d ∷ e ∷ f ∷ []) h l = absurd (omega arith)
twelve (a ∷ b ∷ c ∷ d ∷ e ∷ f ∷ g ∷ []) h l = absurd (omega arith)
twelve (a ∷ b ∷ c ∷ d ∷ e ∷ f ∷ g ∷ i ∷ []) h l = absurd (omega arith)
twelve (a ∷ b ∷ c ∷ d ∷ e ∷ f ∷ g ∷ i ∷ j ∷ []) h l = absurd (omega arith)
twelve (a ∷ b ∷ c ∷ d ∷ e ∷ f ∷ g ∷ i ∷ j ∷ m ∷ []) h l = absurd (omega arith)
twelve (a ∷ b ∷ c ∷ d ∷ e ∷ f ∷ g ∷ i ∷ j ∷ m ∷ n ∷ []) h l = absurd (omega arith)
twelve (a ∷ b ∷ c ∷ d ∷ e ∷ f ∷ g ∷ i ∷ j ∷ m ∷ n ∷ o ∷ []) h l =
    sym
    (put32_four a b c d _ h.0 h.1.0 h.1.1.0 h.1.1.1.0
    ∙ ap (λ (t : List ℕ). a ∷ b ∷ c ∷ d ∷ t)
    (put32_four e f g i _ h.1.1.1.1.0 h.1.1.1.1.1.0 h.1.1.1.1.1.1.0 h.1.1.1.1.1.1.1.0
    ∙ ap (λ (t : List ℕ). e ∷ f ∷ g ∷ i ∷ t)
    (put16-two j m _ h.1.1.1.1.1.1.1.1.0 h.1.1.1.1.1.1.1.1.1.0 ∙ ap (λ (t : List ℕ). j ∷ m ∷ t) (put16-two n o [] h.1.1.1.1.1.1.1.1.1.1.0 h.1.1.1.1.1.1.1.1.1.1.1.0))))
twelve (a ∷ b ∷ c ∷ d ∷ e ∷ f ∷ g ∷ i ∷ j ∷ m ∷ n ∷ o ∷ p ∷ t) h l = absurd (omega arith)

-- A test that passed.
picked : {A : Type 0} (t : Bool) (a b c : A) → pick t a b ≡ c → (b ≡ c → ⊥) → (t ≡ true) × (a ≡ c)
picked true a b c e n = (refl, e)
picked false a b c e n = absurd (n e)

both_true : (a b : Bool) → pick a b false ≡ true → (a ≡ true) × (b ≡ true)
both_true a b e = picked a b false true e (λ q. let z : ◌≡◌ {A = ℕ} 0 1 = cc in omega arith)

never : {n p : ℕ} {w : Program} → Answer.refused n p ≡ Answer.accepted w → ⊥
never e = let z : ◌≡◌ {A = ℕ} 0 1 = cc in omega arith

settled-holds : (s : List ℕ) (r : Read Program) (w : Program) → settled s r ≡ Answer.accepted w → (r ≡ Read.value w) × (agrees s w ≡ true)
unfolding settled
settled-holds s (Read.refused n l) w e = absurd (never e)
settled-holds s (Read.value v) w e =
    let p = picked (agrees s v) (Answer.accepted v) (Answer.refused 11 0) (Answer.accepted w) e never in
    let q : v ≡ w = cc in
    (ap Read.value q, subst (λ (u : Program). agrees s u ≡ true) q p.0)

bytes_take : (n : ℕ) (s : List ℕ) → Bytes s → Bytes (take n s)
bytes_take zero s h = tt
bytes_take (suc n) [] h = tt
bytes_take (suc n) (b ∷ s) h = (h.0, bytes_take n s h.1)

bytes_drop : (n : ℕ) (s : List ℕ) → Bytes s → Bytes (drop n s)
bytes_drop zero s h = h
bytes_drop (suc n) [] h = tt
bytes_drop (suc n) (b ∷ s) h = bytes_drop n s h.1

module _ (s : List ℕ) (w : Program) (bytes : Bytes s) (e : decode s ≡ Answer.accepted w) where
  first_step : (sized s ≡ true) × (decode_sized s ≡ Answer.accepted w)
  unfolding decode
  first_step = picked (sized s) (decode_sized s) (Answer.refused 1 0) (Answer.accepted w) e never

  second_step : (pointed s ≡ true) × (settled s (run Stack.body 0 (take (body_length s) s)) ≡ Answer.accepted w)
  unfolding decode_sized
  second_step = picked (pointed s) (settled s (run Stack.body 0 (take (body_length s) s))) (Answer.refused 4 0) (Answer.accepted w) first_step.1 never

  third_step : (run Stack.body 0 (take (body_length s) s) ≡ Read.value w) × (agrees s w ≡ true)
  third_step = settled-holds s (run Stack.body 0 (take (body_length s) s)) w second_step.1

  long : (12 ≤ length s) × (length s ≤ 32768)
  unfolding sized
  long =
      let p = both_true (leb 12 (length s)) (leb (length s) 32768) first_step.0 in
      (leb-true 12 (length s) p.0, leb-true (length s) 32768 p.1)

  body_read : (take (body_length s) s ≡ put_body w) × ValidBody w
  body_read = sound (take (body_length s) s) Stack.body 0 w (bytes_take (body_length s) s bytes) third_step.0

  body-long : length (put_body w) ≡ body_length s
  body-long = ap length (sym body_read.0) ∙ length-take-le (body_length s) s (omega (arith, long))

  field_0 : get32 (drop (body_length s) s) 0 ≡ length (put_body w)
  unfolding pointed
  field_0 =
      let p = both_true (eqb (to_body s) (body_length s)) (leb (to_functions s) (to_body s)) second_step.0 in
      sym (get32-drop s (body_length s) 0) ∙ (ap (get32 s) (add-zero (body_length s)) ∙ (eqb-true (to_body s) (body_length s) p.0 ∙ sym body-long))

  agreed : (to_functions s ≡ length (put_functions w.functions)) × (function_field s ≡ length w.functions) × (sentence_field s ≡ own_sentence_count w.functions)
  unfolding agrees
  agreed =
      let p = both_true _ _ third_step.1 in
      let q = both_true _ _ p.1 in
      (eqb-true _ _ p.0, eqb-true _ _ q.0, eqb-true _ _ q.1)

  trailer_read : drop (body_length s) s ≡ trailer w
  unfolding trailer
  trailer_read =
      twelve (drop (body_length s) s) (bytes_drop (body_length s) s bytes) (length-drop (body_length s) s ∙ omega (arith, long))
      ∙ rw (field_0, ← get32-drop s (body_length s) 4, ← get16-drop s (body_length s) 8, ← get16-drop s (body_length s) 10, agreed.0, agreed.1, agreed.2)

  whole_read : s ≡ encode w
  unfolding encode
  whole_read = sym (take-append-drop (body_length s) s) ∙ rw (body_read.0, trailer_read)

-- What is accepted is the encoding of its program, which is within the limits.
pub encode-decode : (s : List ℕ) (w : Program) → Bytes s → decode s ≡ Answer.accepted w → (s ≡ encode w) × Valid w
encode-decode s w h e =
    let q = whole_read s w h e in
    (q, ((body_read s w h e).1, subst (λ (t : List ℕ). length t ≤ 32768) q (long s w h e).1))

pub decodes : (s : List ℕ) (w : Program) → Bytes s → (decode s ≡ Answer.accepted w) ↔ ((s ≡ encode w) × Valid w)
decodes s w h = (encode-decode s w h, λ p. ap decode p.0 ∙ decode-encode w p.1)

-- So an image has one reading, and a program one image.
pub one-program : (v w : Program) → Valid v → Valid w → encode v ≡ encode w → v ≡ w
one-program v w hv hw e =
    let q : Answer.accepted v ≡ Answer.accepted w = sym (decode-encode v hv) ∙ (ap decode e ∙ decode-encode w hw) in
    cc
