-- `report::entries::Entries::put_name` meets its contract. Assumes nothing.
use Prim.Native.Nat.{◌≤◌}
use native.Mathlib.Omega.{arith}
use mathlib.Core.Path.{ap, ◌∙◌}
use lib.ListN.{length}
use Rattle.index.proofs.Functions.{function-room, name-at}
use Rattle.text.proofs.Written.{same, count}
use Rattle.report.proofs.Places.{named-fits, function_of, named-at}
use Rattle.report.proofs.entries.Entries.put_name.Goals as goal

pub place_of-p-requires : goal.place_of-p-requires
place_of-p-requires c = omega (arith, c.requires.1, c.requires.0.readable.indexed.fits)

pub slice_bounds-name_part-count : goal.slice_bounds-name_part-count
slice_bounds-name_part-count c = omega (
  arith,
  function-room c.args.self.now.b.now c.place_of-p.result ((let x = function_of c.requires.0.readable c.args.f c.requires.1 in
      named-at c.requires.0.readable c.args.f x.element x.is c.place_of-p.result c.place_of-p.ensures.0)).stands,
)

pub slice_bounds-name_part-start : goal.slice_bounds-name_part-start
slice_bounds-name_part-start c = omega (
  arith,
  function-room c.args.self.now.b.now c.place_of-p.result ((let x = function_of c.requires.0.readable c.args.f c.requires.1 in
      named-at c.requires.0.readable c.args.f x.element x.is c.place_of-p.result c.place_of-p.ensures.0)).stands,
)

pub name_part-requires : goal.name_part-requires
name_part-requires c = name-at c.args.self.now.b.now c.place_of-p.result ((let x = function_of c.requires.0.readable c.args.f c.requires.1 in
    named-at c.requires.0.readable c.args.f x.element x.is c.place_of-p.result c.place_of-p.ensures.0)).stands

pub put_bytes-requires : goal.put_bytes-requires
put_bytes-requires c =
    let within : length c.name_part.result.now ≤ 32768 = let g = (let x = function_of c.requires.0.readable c.args.f c.requires.1 in
    named-at c.requires.0.readable c.args.f x.element x.is c.place_of-p.result c.place_of-p.ensures.0) in
    omega (arith, ap length (c.name_part.ensures (name-at c.args.self.now.b.now c.place_of-p.result g.stands)), ap length g.is, named-fits g, c.requires.0.readable.short) in
    omega (
      arith,
      within,
      c.requires.2,
    )

pub returns : goal.returns
returns c =
    let within : length c.name_part.result.now ≤ 32768 = let g = (let x = function_of c.requires.0.readable c.args.f c.requires.1 in
    named-at c.requires.0.readable c.args.f x.element x.is c.place_of-p.result c.place_of-p.ensures.0) in
    omega (arith, ap length (c.name_part.ensures (name-at c.args.self.now.b.now c.place_of-p.result g.stands)), ap length g.is, named-fits g, c.requires.0.readable.short) in
    record {
      written = λ w x d e.
          let g = named-at d c.args.f x e c.place_of-p.result c.place_of-p.ensures.0 in
          same c.args.out.now (c.name_part.ensures (name-at c.args.self.now.b.now c.place_of-p.result g.stands) ∙ g.is) c.put_bytes.ensures;
      short = omega (
        arith,
        within,
        ap count c.put_bytes.ensures,
      );
    }
