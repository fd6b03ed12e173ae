-- `expression::records::put_symbol` meets its contract. Assumes nothing.
use native.Mathlib.Omega.{arith}
use mathlib.Core.Path.{ap, ◌∙◌}
use mathlib.Core.List.{List, [], ◌∷◌, ◌++◌}
use Prim.Native.Nat.{ℕ}
use lib.ListN.{length, get_or, length-drop}
use Rattle.program.specs.Bytes.{put32, put_span}
use Rattle.program.specs.Encode.{put_symbol}
use Rattle.patterns.specs.Marks.{zero_span}
use Rattle.symbols.proofs.Parts.{symbol-room}
use Rattle.text.proofs.Written.{both, same, count}
use Rattle.expression.proofs.Symbols.{record_whole}
use Rattle.expression.proofs.records.put_symbol.Goals as goal

pub symbol_end-end-requires : goal.symbol_end-end-requires
symbol_end-end-requires c = c.requires.first

pub bounds-s-0 : goal.bounds-s-0
bounds-s-0 c = omega (arith, symbol-room c.requires.first)

pub put_mark-requires : goal.put_mark-requires
put_mark-requires c = let e = c.symbol_end-end.ensures c.requires.first in omega (arith, e.past, e.long, c.requires.short)

pub slice_bounds-put_bytes-count : goal.slice_bounds-put_bytes-count
slice_bounds-put_bytes-count c = (c.symbol_end-end.ensures c.requires.first).past

pub slice_bounds-put_bytes-start : goal.slice_bounds-put_bytes-start
slice_bounds-put_bytes-start c = (c.symbol_end-end.ensures c.requires.first).past

pub slice_bounds-put_bytes-end : goal.slice_bounds-put_bytes-end
slice_bounds-put_bytes-end c = (c.symbol_end-end.ensures c.requires.first).within

pub put_bytes-requires : goal.put_bytes-requires
unfolding put_span put32
put_bytes-requires c =
    let x = c.requires.first in
    let e = c.symbol_end-end.ensures x in
    omega (arith, e.past, e.long, c.requires.short, ap count c.put_mark.ensures, ap length e.fields, length-drop 9 (put_symbol zero_span x.symbol []))

pub returns : goal.returns
returns c = λ x.
    let e = c.symbol_end-end.ensures x in
    let m = get_or c.args.s.now 0 0 in
    same c.args.out.now (ap (λ (l : List ℕ). (m ∷ put_span zero_span []) ++ l) e.fields ∙ record_whole x)
    (both c.args.out.now (m ∷ put_span zero_span []) _ c.put_mark.ensures c.put_bytes.ensures)
