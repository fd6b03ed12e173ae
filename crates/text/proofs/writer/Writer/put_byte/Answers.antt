use Rattle.std.proofs.Common.{refl, sym, [], ◌∷◌}
use Rattle.text.specs.Fill.{filled}
use Rattle.text.proofs.Fill.{filled-out}
use Rattle.text.proofs.Written.{written-is}
use Rattle.text.proofs.writer.Writer.put_byte.Goals as goal
use Rattle.text.proofs.writer.Writer.put_byte.Goals.{then-self, else-self}

pub returns : goal.returns
unfolding filled
returns c =
    let w = c.args.self.now in
    let b = c.args.b ∷ [] in
    elim c.if-self.branch [ then-self x ↦ rw x.self-is (written-is w b _ _ refl refl) | else-self x ↦ rw x.self-is (written-is w b _ _ (sym (filled-out b w.text.now w.filled x.if-self.false)) refl) ]
