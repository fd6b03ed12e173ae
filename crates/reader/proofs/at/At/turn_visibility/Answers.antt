-- `reader::at::At::turn_visibility` meets its contract. Assumes nothing.
use Rattle.reader.proofs.Turning.{visibility_fine, visibility-wrong}
use Rattle.reader.proofs.at.At.turn_visibility.Goals as goal

pub returns-then-self-lt2 : goal.returns-then-self-lt2
returns-then-self-lt2 c = visibility_fine _ _ c.args.self.now.inside c.if-self-lt2.true c.go.ensures

pub returns-else-self-lt2 : goal.returns-else-self-lt2
returns-else-self-lt2 c = visibility-wrong _ _ c.args.self.now.inside c.if-self-lt2.false c.at.ensures
