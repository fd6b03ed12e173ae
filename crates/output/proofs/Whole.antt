-- The whole image that is written.
use Prim.Native.Nat.{ℕ, ◌+◌, ◌-◌, ◌≤◌}
use native.Mathlib.Omega.{arith}
use mathlib.Core.Path.{◌≡◌, sym, ap, subst, ◌∙◌}
use mathlib.Core.Bool.{Bool}
use mathlib.Core.List.{List, [], ◌++◌, append_assoc}
use lib.ListN.{length, take, drop, length-append, length-drop}
use lib.Seq.{paste, take_at, drop_at, drop-drop, take-paste, drop-paste, length-take-le}
use Rattle.program.specs.Syntax.{Program}
use Rattle.program.specs.Bytes.{put16, put32, Bytes}
use Rattle.program.specs.Encode.{put_declarations, put_functions, put_body, own_sentence_count, trailer, encode}
use Rattle.program.specs.Limits.{Valid, ValidFunctions}
use Rattle.program.specs.Decode.{body_length}
use Rattle.image.specs.Parts.{Accepted, FunctionsAt}
use Rattle.program.proofs.Lengths.{functions-length, encode-length}
use Rattle.program.proofs.RoundTrip.{encode-decode, body_is}
use Rattle.told.specs.Kept.{kept_functions, kept_program}
use Rattle.output.specs.Written.{FunctionsWritten}
use Rattle.program.proofs.Splits.{declarations-splits}
use Rattle.output.proofs.Kept.{kept-functions, functions_shorter}

-- the body and the trailer
encode_split : (w : Program) (k : List ℕ)
    → encode w ++ k ≡ put_body w ++ put32 (length (put_body w)) (put32 (length (put_functions w.functions)) (put16 (length w.functions) (put16 (own_sentence_count w.functions) k)))
unfolding encode trailer put32 put16
encode_split w k = append_assoc (put_body w) (trailer w) k

module _ (s : List ℕ) (bytes : Bytes s) (a : Accepted s) (keep : ℕ → Bool) where
  good : (s ≡ encode a.program) × Valid a.program
  good = encode-decode s a.program bytes a.is

  pub whole-size : (12 ≤ length s) × (length s ≤ 32768)
  whole-size = (omega (arith, ap length good.0, encode-length a.program), omega (arith, ap length good.0, good.1.1))

  body : take (body_length s) s ≡ put_body a.program
  body = subst (λ (t : List ℕ). take (body_length t) t ≡ put_body a.program) (sym good.0) (body_is a.program good.1.1)

  module _ (f : ℕ) (hf : f ≤ body_length s) (ef : drop f (take (body_length s) s) ≡ put_functions a.program.functions) where
    pub functions-valid : ValidFunctions a.program.functions
    functions-valid = good.1.0.1

    abbrev pub functions-here : FunctionsAt (drop f (take (body_length s) s))
    functions-here = record { functions = a.program.functions; is = ef; valid = functions-valid }

    pub body-size : length (take (body_length s) s) ≡ length s - 12
    body-size = length-take-le (body_length s) s (omega (arith, whole-size.0))

    d : List ℕ
    d = put_declarations a.program.declarations []

    body_split : take (body_length s) s ≡ d ++ put_functions a.program.functions
    unfolding d put_body
    body_split = body ∙ declarations-splits a.program.declarations (put_functions a.program.functions)

    d_size : length d ≡ f
    d_size = omega (arith, hf, body-size, ap length ef, length-drop f (take (body_length s) s), ap length body_split, length-append d (put_functions a.program.functions))

    d_is : take f (take (body_length s) s) ≡ d
    d_is = ap (take f) body_split ∙ take_at d (put_functions a.program.functions) f d_size

    few-functions : length a.program.functions ≤ 32768
    few-functions = omega (arith, whole-size.1, ap length body_split, length-append d (put_functions a.program.functions), body-size, functions-length a.program.functions)

    pub functions-few : (n : ℕ) → n ≡ length a.program.functions → n ≤ 32768
    functions-few n e = omega (arith, few-functions)

    module _ (o1 o2 : List ℕ) (q n : ℕ) (h : FunctionsWritten (put_functions (kept_functions keep 0 a.program.functions)) (own_sentence_count (kept_functions keep 0 a.program.functions)) f o1 q n o2) where
      pub ends-within : (f ≤ q) × (q + 12 ≤ length s)
      ends-within = (
        omega (arith, h.ends),
        omega (arith, h.ends, functions_shorter a.program.functions keep 0, whole-size.0, ap length body_split, length-append d (put_functions a.program.functions), body-size, d_size),
      )

      pub sentences-few : n ≤ 32768
      sentences-few = omega (arith, h.ends, h.count, ends-within.1, whole-size.1, functions-length (kept_functions keep 0 a.program.functions))

      new-body : put_body (kept_program keep a.program) ≡ d ++ put_functions (kept_functions keep 0 a.program.functions)
      unfolding d put_body kept_program
      new-body = declarations-splits a.program.declarations (put_functions (kept_functions keep 0 a.program.functions))

      new-size : length (put_body (kept_program keep a.program)) ≡ q
      new-size = ap length new-body ∙ (length-append d (put_functions (kept_functions keep 0 a.program.functions)) ∙ omega (arith, d_size, h.ends))

      module _ (o o3 : List ℕ) (c : ℕ) (long : length s ≤ length o) (e1 : o1 ≡ paste o 0 (take (body_length s) s) f) (ec : c ≡ length a.program.functions)
          (e3 : o3 ≡ take q o2 ++ put32 q (put32 (q - f) (put16 c (put16 n (drop (q + 12) o2))))) where
        front : take f o1 ≡ d
        front = let z : 0 + f ≡ f = omega arith in ap (take f) e1 ∙ (ap (λ (j : ℕ). take j (paste o 0 (take (body_length s) s) f)) (sym z) ∙ (take-paste o 0 (take (body_length s) s) f (omega arith) (omega (arith, hf, body-size)) ∙ d_is))

        behind : drop q o1 ≡ drop q o
        behind =
            let m : ℕ = q - f in
            let e : f + m ≡ q = omega (arith, ends-within.0) in
            let z : 0 + f ≡ f = omega arith in
            let g : drop f o1 ≡ drop f o =
            ap (drop f) e1 ∙ (ap (λ (j : ℕ). drop j (paste o 0 (take (body_length s) s) f)) (sym z)
            ∙ (drop-paste o 0 (take (body_length s) s) f (omega arith) (omega (arith, hf, body-size)) ∙ ap (λ (j : ℕ). drop j o) z)) in
            ap (λ (j : ℕ). drop j o1) (sym e) ∙ (sym (drop-drop m f o1) ∙ (ap (drop m) g ∙ (drop-drop m f o ∙ ap (λ (j : ℕ). drop j o) e)))

        written : o2 ≡ put_body (kept_program keep a.program) ++ drop q o
        written =
            h.is
            ∙ (ap (λ (l : List ℕ). (l ++ put_functions (kept_functions keep 0 a.program.functions)) ++ drop q o1) front
            ∙ (ap (λ (l : List ℕ). l ++ drop q o1) (sym new-body) ∙ ap (λ (l : List ℕ). put_body (kept_program keep a.program) ++ l) behind))

        pub whole-written : (q + 12 ≡ length (encode (kept_program keep a.program))) × (o3 ≡ encode (kept_program keep a.program) ++ drop (q + 12) o)
        unfolding kept_program
        whole-written =
            let w : Program = kept_program keep a.program in
            let t1 : take q o2 ≡ put_body w = ap (take q) written ∙ take_at (put_body w) (drop q o) q new-size in
            let t2 : drop (q + 12) o2 ≡ drop (q + 12) o = sym (drop-drop 12 q o2) ∙ (ap (drop 12) (ap (drop q) written ∙ drop_at (put_body w) (drop q o) q new-size) ∙ drop-drop 12 q o) in
            let x1 : q - f ≡ length (put_functions (kept_functions keep 0 a.program.functions)) = omega (arith, h.ends) in
            let x2 : c ≡ length (kept_functions keep 0 a.program.functions) = ec ∙ sym (kept-functions keep 0 a.program.functions) in (
              sym (encode-length w ∙ ap (λ (j : ℕ). j + 12) new-size),
              e3
                  ∙ (ap (λ (l : List ℕ). l ++ put32 q (put32 (q - f) (put16 c (put16 n (drop (q + 12) o2))))) t1
                  ∙ (ap (λ (l : List ℕ). put_body w ++ put32 q (put32 (q - f) (put16 c (put16 n l)))) t2
                  ∙ (ap (λ (j : ℕ). put_body w ++ put32 j (put32 (q - f) (put16 c (put16 n (drop (q + 12) o))))) (sym new-size)
                  ∙ (ap (λ (j : ℕ). put_body w ++ put32 (length (put_body w)) (put32 j (put16 c (put16 n (drop (q + 12) o))))) x1
                  ∙ (ap (λ (j : ℕ). put_body w ++ put32 (length (put_body w)) (put32 (length (put_functions w.functions)) (put16 j (put16 n (drop (q + 12) o))))) x2
                  ∙ (ap (λ (j : ℕ). put_body w ++ put32 (length (put_body w)) (put32 (length (put_functions w.functions)) (put16 (length w.functions) (put16 j (drop (q + 12) o))))) h.count
                  ∙ sym (encode_split w (drop (q + 12) o)))))))),
            )
