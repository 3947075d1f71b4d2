use Rattle.opened.proofs.Calls.{opening_right}
use Rattle.opened.proofs.open_image.Goals as goal

pub returns : goal.returns
returns c = opening_right c.args.image.now c.args.work.now c.open_volume.new.work c.open_volume.result c.open_volume.ensures
