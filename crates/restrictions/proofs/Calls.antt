-- A call's name and argument by its bytes.
use Prim.Native.Nat.{ℕ, suc, ◌+◌, ◌<◌}
use native.Mathlib.Omega.{arith}
use mathlib.Core.Path.{◌≡◌, ap, ◌∙◌}
use mathlib.Core.List.{List}
use lib.ListN.{length, get_or, drop, length-append}
use lib.Seq.{drop-append_seam}
use Rattle.program.specs.Bytes.{put32, put_span, put_name}
use Rattle.program.specs.Encode.{put_terms}
use Rattle.image.specs.Parts.{Passes, NameAt}
use Rattle.symbols.proofs.Parts.{part_rest}
use Rattle.rows.proofs.Readings.{part}
use Rattle.restrictions.specs.Entries.{CallAt}

module _ {s : List ℕ} (x : CallAt s) where
  pub call-room : 9 < length s
  unfolding put_span put32 put_name
  call-room = omega (arith, ap length x.is)

  pub callee-is : part s 9 ≡ put_name x.callee (put_terms x.argument x.rest)
  unfolding put_span put32
  callee-is = part_rest s 9 ∙ ap (drop 9) x.is

  abbrev pub callee_at : NameAt (part s 9)
  callee_at = record { name = x.callee; rest = put_terms x.argument x.rest; is = callee-is }

  length_byte : get_or s 9 0 ≡ length x.callee
  unfolding put_span put32 put_name
  length_byte = ap (λ (l : List ℕ). get_or l 9 0) x.is

  pub argument_passes : Passes s (10 + get_or s 9 0) (put_terms x.argument x.rest)
  unfolding put_span put32 put_name
  argument_passes =
      let a : List ℕ = put_terms x.argument x.rest in
      let z : 10 + get_or s 9 0 ≡ suc (suc (suc (suc (suc (suc (suc (suc (suc (suc (length x.callee)))))))))) = omega (arith, length_byte) in
      record {
        fits = omega (arith, ap length x.is, length-append x.callee a, length_byte);
        left = ap (λ (n : ℕ). drop n s) z ∙ ap (drop (suc (suc (suc (suc (suc (suc (suc (suc (suc (suc (length x.callee)))))))))))) x.is ∙ drop-append_seam x.callee a;
      }
