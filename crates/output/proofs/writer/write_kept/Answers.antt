-- `output::writer::write_kept` meets its contract. Assumes nothing.
use native.Mathlib.Omega.{arith}
use mathlib.Core.Path.{◌≡◌, sym}
use mathlib.Core.Bool.{Bool}
use mathlib.Core.List.{List}
use Prim.Native.Nat.{ℕ, ◌+◌, ◌-◌, ◌≤◌}
use Rattle.std.proofs.Common.{Fits, w8}
use lib.ListN.{length, take, drop, get_or}
use Rattle.program.specs.Bytes.{Bytes}
use Rattle.program.specs.Decode.{body_length}
use Rattle.program.specs.Encode.{put_functions, own_sentence_count}
use Rattle.program.proofs.Numbers.{bytes_of}
use Rattle.image.specs.Parts.{Accepted, FunctionsAt}
use Rattle.told.specs.Kept.{is_kept, kept_functions}
use Rattle.output.specs.Written.{FunctionsWritten}
use Rattle.output.proofs.Whole.{whole-size, body-size, functions-here, ends-within, functions-few, sentences-few, whole-written}
use Rattle.output.proofs.writer.write_kept.Goals as goal

bytes : (s : List ℕ) → ((j : ℕ) → Fits w8 (get_or s j 0)) → Bytes s
bytes s h = bytes_of s (λ j. omega (arith, h j))

-- An accepted image whose functions begin at f in its body, and where those that are kept end.
module _ {s : List ℕ} (h : (j : ℕ) → Fits w8 (get_or s j 0)) (a : Accepted s) (keep : ℕ → Bool) where
  size : (12 ≤ length s) × (length s ≤ 32768)
  size = whole-size s (bytes s h) a keep

  module _ {f : ℕ} (x : (f ≤ body_length s) × ((a : Accepted s) → drop f (take (body_length s) s) ≡ put_functions a.program.functions)) where
    body-long : length (take (body_length s) s) ≡ length s - 12
    body-long = body-size s (bytes s h) a keep f x.0 (x.1 a)

    functions-there : FunctionsAt (drop f (take (body_length s) s))
    functions-there = functions-here s (bytes s h) a keep f x.0 (x.1 a)

    module _ {old new : List ℕ} {q n : ℕ}
        (w : (t : FunctionsAt (drop f (take (body_length s) s))) → FunctionsWritten (put_functions (kept_functions keep 0 t.functions)) (own_sentence_count (kept_functions keep 0 t.functions)) f old q n new) where
      end-within : (f ≤ q) × (q + 12 ≤ length s)
      end-within = ends-within s (bytes s h) a keep f x.0 (x.1 a) old new q n (w (functions-here s (bytes s h) a keep f x.0 (x.1 a)))

      few-sentences : n ≤ 32768
      few-sentences = sentences-few s (bytes s h) a keep f x.0 (x.1 a) old new q n (w (functions-here s (bytes s h) a keep f x.0 (x.1 a)))

pub overflow_sub-n : goal.overflow_sub-n
overflow_sub-n c = (size c.type_inv.img c.requires.0 (is_kept c.args.marks.now)).0

pub slice_bounds-body-end : goal.slice_bounds-body-end
slice_bounds-body-end c = sym (body-long c.type_inv.img c.requires.0 (is_kept c.args.marks.now) c.functions_start-from.ensures)

pub copy_bytes-requires : goal.copy_bytes-requires
copy_bytes-requires c =
    let f = c.functions_start-from.ensures in
    let b = body-long c.type_inv.img c.requires.0 (is_kept c.args.marks.now) f in
    (omega (arith, f.0, b), omega (arith, f.0, c.requires.1))

pub write_functions-done-requires : goal.write_functions-done-requires
write_functions-done-requires c =
    let keep = is_kept c.args.marks.now in
    let f = c.functions_start-from.ensures in
    let b = body-long c.type_inv.img c.requires.0 keep f in
    (omega (arith, f.0, b), omega (arith, b, c.requires.1), functions-there c.type_inv.img c.requires.0 keep f)

pub overflow_sub-first : goal.overflow_sub-first
overflow_sub-first c = (end-within c.type_inv.img c.requires.0 (is_kept c.args.marks.now) c.functions_start-from.ensures c.write_functions-done.ensures).0

pub overflow_cast-first : goal.overflow_cast-first
overflow_cast-first c =
    let keep = is_kept c.args.marks.now in
    omega (arith, end-within c.type_inv.img c.requires.0 keep c.functions_start-from.ensures c.write_functions-done.ensures, size c.type_inv.img c.requires.0 keep)

pub overflow_cast-functions : goal.overflow_cast-functions
overflow_cast-functions c =
    let i = c.args.img.now in
    let f = c.functions_start-from in
    omega (arith, functions-few i (bytes i c.type_inv.img) c.requires.0 (is_kept c.args.marks.now) f.result f.ensures.0 (f.ensures.1 c.requires.0) c.function_count-functions.result (c.function_count-functions.ensures c.requires.0))

pub overflow_cast-sentences : goal.overflow_cast-sentences
overflow_cast-sentences c = omega (arith, few-sentences c.type_inv.img c.requires.0 (is_kept c.args.marks.now) c.functions_start-from.ensures c.write_functions-done.ensures)

pub write_trailer-requires : goal.write_trailer-requires
write_trailer-requires c =
    let keep = is_kept c.args.marks.now in
    let x = end-within c.type_inv.img c.requires.0 keep c.functions_start-from.ensures c.write_functions-done.ensures in
    (omega (arith, x.1, c.requires.1), omega (arith, x.1, size c.type_inv.img c.requires.0 keep))

pub overflow_add-result : goal.overflow_add-result
overflow_add-result c =
    let keep = is_kept c.args.marks.now in
    let x = end-within c.type_inv.img c.requires.0 keep c.functions_start-from.ensures c.write_functions-done.ensures in
    omega (arith, x.1, size c.type_inv.img c.requires.0 keep)

pub returns : goal.returns
returns c = λ a.
    let i = c.args.img.now in
    let y = bytes i c.type_inv.img in
    let keep = is_kept c.args.marks.now in
    let f = c.functions_start-from in
    let w = c.write_functions-done in
    whole-written i y a keep f.result f.ensures.0 (f.ensures.1 a) c.copy_bytes.new.dst w.new.output w.result.end w.result.sentences
    (w.ensures (functions-here i y a keep f.result f.ensures.0 (f.ensures.1 a)))
    c.args.output.now c.write_trailer.new.output c.function_count-functions.result c.requires.1 c.copy_bytes.ensures (c.function_count-functions.ensures a) c.write_trailer.ensures
