-- `values::tokens::Token::put` meets its contract. Assumes nothing.
use native.Mathlib.Omega.{arith}
use mathlib.Core.List.{[], ◌∷◌}
use lib.ListN.{get_or, length-take}
use Rattle.text.proofs.Fill.{emitted-same, emitted-append}
use Rattle.values.proofs.Sizes.{token-read}
use Rattle.values.proofs.Bytes.{by_mark, room, token-written, close-written}
use Rattle.values.proofs.tokens.Token.put.Goals as goal

pub bounds-s-0 : goal.bounds-s-0
bounds-s-0 c = let r = room (token-read c.args.self.bytes.now c.args.self.there) in omega (arith, r.0, r.1)

pub put_byte-span-requires : goal.put_byte-span-requires
put_byte-span-requires c = let r = room (token-read c.args.self.bytes.now c.args.self.there) in omega (arith, r.0, r.1, c.requires)

pub returns-then-m-eq15 : goal.returns-then-m-eq15
returns-then-m-eq15 c = λ t. emitted-same (close-written t c.if-m-eq15.true) c.put_byte-span.ensures

pub put_bytes-fields-requires : goal.put_bytes-fields-requires
put_bytes-fields-requires c =
    let t = (token-read c.args.self.bytes.now c.args.self.there) in
    let r = room t in
    omega (arith, r.1, (by_mark t).spanned c.if-m-eq15.false, c.requires, c.put_byte-span.ensures.after)

pub slice_bounds-put_bytes-count : goal.slice_bounds-put_bytes-count
slice_bounds-put_bytes-count c = let t = (token-read c.args.self.bytes.now c.args.self.there) in omega (arith, (by_mark t).spanned c.if-m-eq15.false, c.size-end.ensures t)

pub slice_bounds-put_bytes-start : goal.slice_bounds-put_bytes-start
slice_bounds-put_bytes-start c = let t = (token-read c.args.self.bytes.now c.args.self.there) in omega (arith, (by_mark t).spanned c.if-m-eq15.false, c.size-end.ensures t)

pub slice_bounds-put_bytes-end-2 : goal.slice_bounds-put_bytes-end-2
slice_bounds-put_bytes-end-2 c = let t = (token-read c.args.self.bytes.now c.args.self.there) in let r = room t in omega (arith, r.1, c.size-end.ensures t)

pub put_bytes-requires : goal.put_bytes-requires
put_bytes-requires c =
    let t = (token-read c.args.self.bytes.now c.args.self.there) in
    let r = room t in
    simp length-take (omega (arith, r.1, (by_mark t).spanned c.if-m-eq15.false, c.size-end.ensures t, c.requires, c.put_byte-span.ensures.after, c.put_bytes-fields.ensures.after))

pub returns : goal.returns
returns c = λ t.
    let m = get_or c.args.self.bytes.now 0 0 in
    emitted-same (token-written (λ i. grind arith) t c.if-m-eq15.false c.size-end.result (c.size-end.ensures t))
    (emitted-append (m ∷ 0 ∷ 0 ∷ 0 ∷ 0 ∷ 0 ∷ 0 ∷ 0 ∷ 0 ∷ []) _ (emitted-append (m ∷ []) (0 ∷ 0 ∷ 0 ∷ 0 ∷ 0 ∷ 0 ∷ 0 ∷ 0 ∷ []) c.put_byte-span.ensures c.put_bytes-fields.ensures) c.put_bytes.ensures)
