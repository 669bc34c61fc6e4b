use mathlib.Core.Path.{refl}
use Rattle.output.specs.ColumnLaws.{columns}
use Rattle.wall.proofs.Texts.{put_at}
use Rattle.wall.proofs.put_line.Goals as goal

pub returns : goal.returns
unfolding columns
returns c = put_at c.args.at c.args.text.now _ _ _ c.requires c.line-bytes.ensures refl c.copy.ensures
