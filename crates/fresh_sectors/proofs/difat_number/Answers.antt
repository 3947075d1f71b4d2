use Rattle.std.proofs.Common.{arith, ◌+◌, ◌-◌, ◌*◌, ◌≤◌}
use Rattle.fresh_sectors.proofs.Standing.{link_few}
use Rattle.fresh_sectors.proofs.difat_number.Goals as goal
use Rattle.fresh_sectors.proofs.difat_number.Goals.{After-index-then-i-links}

few : (c : After-index-then-i-links) → c.difat-links.result * (c.index.result - c.index-then-i-links.result) + c.args.i ≤ 0x800_0400
few c =
    link_few c.args.l c.requires.stands c.difat-links.result (c.index.result - c.index-then-i-links.result) c.args.i c.difat-links.ensures (omega arith) c.requires.i_bound

pub overflow_mul-links : goal.overflow_mul-links
overflow_mul-links c = omega (arith, few (goal.at.overflow_mul-links c).After-index-then-i-links)

pub overflow_add-links : goal.overflow_add-links
overflow_add-links c = omega (arith, few (goal.at.overflow_add-links c).After-index-then-i-links)

pub overflow_add-links-then-i-links : goal.overflow_add-links-then-i-links
overflow_add-links-then-i-links c = omega (arith, few (goal.at.overflow_add-links-then-i-links c).After-index-then-i-links)
