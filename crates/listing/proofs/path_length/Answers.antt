use native.Mathlib.Omega.{arith}
use Prim.Native.Nat.{◌≤◌}
use Rattle.format.specs.Layout.Entry.{name}
use Rattle.entries.specs.Entry.{entry_at}
use Rattle.text.proofs.Names.{units_most}
use Rattle.text.proofs.Units.{name_most}
use Rattle.lines.proofs.LineLengths.{none_length, some_length}
use Rattle.listing.proofs.path_length.Goals as goal
use Rattle.listing.proofs.path_length.Goals.{After-name_length-n}

-- the name takes no more than 155 bytes
short : (c : After-name_length-n) → c.name_length-n.result ≤ 155
short c =
    let p = c.args in
    omega (arith, c.name_length-n.ensures, name_most (name (entry_at p.img.now p.p)), units_most c.requires.named_at)

pub overflow_cast-n : goal.overflow_cast-n
overflow_cast-n c = omega (arith, short (goal.at.overflow_cast-n c).After-name_length-n)

pub returns-then-parent-eq0 : goal.returns-then-parent-eq0
returns-then-parent-eq0 c = rw (none_length _ c.if-parent-eq0.true) (omega (arith, c.name_length-n.ensures))

pub overflow_add-result-2 : goal.overflow_add-result-2
overflow_add-result-2 c = omega (arith, short (goal.at.overflow_add-result-2 c).After-name_length-n, c.requires.parent_bound)

pub returns : goal.returns
returns c = rw (some_length c.args.parent (omega (arith, c.if-parent-eq0.false))) (rw c.name_length-n.ensures (omega arith))
