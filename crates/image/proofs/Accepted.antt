-- What an accepted image holds at the places that its trailer gives.
use Prim.Native.Nat.{ℕ, ◌+◌, ◌-◌, ◌≤◌}
use native.Mathlib.Omega.{arith}
use mathlib.Core.Path.{◌≡◌, refl, sym, ap, subst, ◌∙◌}
use mathlib.Core.List.{List, [], ◌∷◌, ◌++◌, append_assoc}
use lib.ListN.{length, take, drop, length-append}
use lib.Seq.{drop-append_seam}
use Rattle.program.specs.Syntax.{Span, Declaration}
use Rattle.program.specs.Bytes.{put32, put_span, put_name, get16, get32, Bytes}
use Rattle.program.specs.Encode.{put_names, put_declarations, put_functions, put_body, own_sentence_count, encode}
use Rattle.program.specs.Limits.{Valid}
use Rattle.program.specs.Decode.{body_length, to_functions, function_field, sentence_field}
use Rattle.image.specs.Parts.{Accepted}
use Rattle.program.proofs.Lengths.{body-length, encode-length}
use Rattle.program.proofs.RoundTrip.{encode-decode, body_len, to_functions_lem, function_field_lem, sentence_field_lem, body_is}

-- What s ends with: k.
pub record Ends (s k : List ℕ) : Type 0 where
  pub front : List ℕ
  pub is : s ≡ front ++ k

ends-names : (ns : List (List ℕ)) (k : List ℕ) → Ends (put_names ns k) k
unfolding put_names put_name
ends-names [] k = record { front = []; is = refl }
ends-names (n ∷ ns) k =
    let e = ends-names ns k in
    record { front = length n ∷ (n ++ e.front); is = ap (λ (l : List ℕ). length n ∷ l) (ap (λ (l : List ℕ). n ++ l) e.is ∙ sym (append_assoc n e.front k)) }

ends-span : (p : Span) (s k : List ℕ) → Ends s k → Ends (put_span p s) k
unfolding put_span put32
ends-span p s k e = record { front = put_span p e.front; is = ap (put_span p) e.is }

ends-declarations : (ds : List Declaration) (k : List ℕ) → Ends (put_declarations ds k) k
unfolding put_declarations
ends-declarations [] k = record { front = []; is = refl }
ends-declarations (d ∷ ds) k =
    let e = ends-declarations ds k in
    let m = ends-names d.names (put_declarations ds k) in
    let n : Ends (length d.names ∷ put_names d.names (put_declarations ds k)) k =
    record { front = length d.names ∷ (m.front ++ e.front); is = ap (λ (l : List ℕ). length d.names ∷ l) (m.is ∙ (ap (λ (l : List ℕ). m.front ++ l) e.is ∙ sym (append_assoc m.front e.front k))) } in
    let s = ends-span d.span (length d.names ∷ put_names d.names (put_declarations ds k)) k n in
    record { front = 17 ∷ s.front; is = ap (λ (l : List ℕ). 17 ∷ l) s.is }

ends-drop : (s k : List ℕ) → Ends s k → drop (length s - length k) s ≡ k
ends-drop s k e =
    let q : length s - length k ≡ length e.front = omega (arith, ap length e.is, length-append e.front k) in
    rw (q, e.is) (drop-append_seam e.front k)

module _ (s : List ℕ) (bytes : Bytes s) (a : Accepted s) where
  -- It is the encoding of its program.
  encoded : (s ≡ encode a.program) × Valid a.program
  encoded = encode-decode s a.program bytes a.is

  pub accepted-long : 12 ≤ length s
  accepted-long = omega (arith, ap length encoded.0, encode-length a.program)

  pub accepted-within : get32 s (length s - 12 + 4) ≤ length s - 12
  accepted-within =
      let w = a.program in
      subst (λ (t : List ℕ). to_functions t ≤ body_length t) (sym encoded.0)
      (omega (arith, to_functions_lem w encoded.1.1, body_len w encoded.1.1, body-length w))

  pub accepted-functions : drop (body_length s - to_functions s) (take (body_length s) s) ≡ put_functions a.program.functions
  unfolding put_body
  accepted-functions =
      let w = a.program in
      let g = encoded.1.1 in
      let r : drop (body_length (encode w) - to_functions (encode w)) (take (body_length (encode w)) (encode w)) ≡ put_functions w.functions =
      rw (to_functions_lem w g, body_is w g, body_len w g) (ends-drop (put_body w) (put_functions w.functions) (ends-declarations w.declarations (put_functions w.functions))) in
      subst (λ (t : List ℕ). drop (body_length t - to_functions t) (take (body_length t) t) ≡ put_functions w.functions) (sym encoded.0) r

  pub accepted_function_count : get16 s (length s - 4) ≡ length a.program.functions
  accepted_function_count =
      let z : length s - 4 ≡ body_length s + 8 = omega (arith, accepted-long) in
      rw z (subst (λ (t : List ℕ). function_field t ≡ length a.program.functions) (sym encoded.0) (function_field_lem a.program encoded.1.1))

  pub accepted-sentence_count : get16 s (length s - 2) ≡ own_sentence_count a.program.functions
  accepted-sentence_count =
      let z : length s - 2 ≡ body_length s + 10 = omega (arith, accepted-long) in
      rw z (subst (λ (t : List ℕ). sentence_field t ≡ own_sentence_count a.program.functions) (sym encoded.0) (sentence_field_lem a.program encoded.1.1))
