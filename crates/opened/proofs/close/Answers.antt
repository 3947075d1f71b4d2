use Rattle.opened.proofs.Calls.{opened_short}
use Rattle.opened.proofs.close.Goals as goal

pub work_need-requires : goal.work_need-requires
work_need-requires c = opened_short c.requires
