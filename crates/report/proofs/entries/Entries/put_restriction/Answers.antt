-- `report::entries::Entries::put_restriction` meets its contract. Assumes nothing.
use Prim.Native.Nat.{◌+◌, ◌<◌}
use native.Mathlib.Omega.{arith}
use mathlib.Core.List.{◌++◌, [], ◌∷◌}
use mathlib.Core.Path.{ap}
use Rattle.cleaning.proofs.Meeting.{pattern_part}
use Rattle.meaning.specs.Text.{format_terms}
use Rattle.report.specs.Leading.{angled_after}
use Rattle.rows.proofs.Readings.{part_length}
use Rattle.text.proofs.Written.{both, same, count}
use Rattle.text.proofs.Formatting.{terms_text_fits}
use Rattle.patterns.specs.Ascii.{ascii}
use Rattle.report.proofs.entries.Entries.put_restriction.Goals as goal

pub argument_of-q-requires : goal.argument_of-q-requires
argument_of-q-requires c = c.requires.0

pub put_byte-requires-2 : goal.put_byte-requires-2
put_byte-requires-2 c = omega (arith, c.requires.1, ap count c.put_byte.ensures)

pub format_terms-requires : goal.format_terms-requires
format_terms-requires c =
    ((pattern_part c.args.self.now.b.now c.argument_of-q.result ((let p = c.requires.0 in c.argument_of-q.ensures.1 p.program p.place p.function p.site p.readable p.is p.at p.listed)).reading), omega (arith, c.requires.1, ap count c.put_byte.ensures, ap count c.put_byte-2.ensures, part_length c.args.self.now.b.now c.argument_of-q.result, c.requires.0.readable.short))

pub put_byte-requires-3 : goal.put_byte-requires-3
put_byte-requires-3 c =
    let below : c.format_terms.new.self.filled < c.args.out.now.filled + 2 + 32768 = omega (arith, ap count c.put_byte.ensures, ap count c.put_byte-2.ensures, ap count (c.format_terms.ensures ((pattern_part c.args.self.now.b.now c.argument_of-q.result ((let p = c.requires.0 in c.argument_of-q.ensures.1 p.program p.place p.function p.site p.readable p.is p.at p.listed)).reading))), terms_text_fits ((pattern_part c.args.self.now.b.now c.argument_of-q.result ((let p = c.requires.0 in c.argument_of-q.ensures.1 p.program p.place p.function p.site p.readable p.is p.at p.listed)).reading)), part_length c.args.self.now.b.now c.argument_of-q.result, c.requires.0.readable.short) in
    omega (arith, c.requires.1, below)

pub returns : goal.returns
unfolding angled_after ascii
returns c =
    let below : c.format_terms.new.self.filled < c.args.out.now.filled + 2 + 32768 = omega (arith, ap count c.put_byte.ensures, ap count c.put_byte-2.ensures, ap count (c.format_terms.ensures ((pattern_part c.args.self.now.b.now c.argument_of-q.result ((let p = c.requires.0 in c.argument_of-q.ensures.1 p.program p.place p.function p.site p.readable p.is p.at p.listed)).reading))), terms_text_fits ((pattern_part c.args.self.now.b.now c.argument_of-q.result ((let p = c.requires.0 in c.argument_of-q.ensures.1 p.program p.place p.function p.site p.readable p.is p.at p.listed)).reading)), part_length c.args.self.now.b.now c.argument_of-q.result, c.requires.0.readable.short) in
    record {
      written = λ w f x y d e g l.
          let a = c.argument_of-q.ensures.1 w f x y d e g l in
          let t = pattern_part c.args.self.now.b.now c.argument_of-q.result a.reading in
          both c.args.out.now (32 ∷ []) (60 ∷ (format_terms y.site.argument ++ (62 ∷ []))) c.put_byte.ensures
          (both _ (60 ∷ []) (format_terms y.site.argument ++ (62 ∷ [])) c.put_byte-2.ensures (both _ (format_terms y.site.argument) (62 ∷ []) (same _ (ap format_terms a.is) (c.format_terms.ensures t)) c.put_byte-3.ensures));
      short = omega (arith, below, ap count c.put_byte-3.ensures);
    }
