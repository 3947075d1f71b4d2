use Prim.Native.Nat.{◌-◌, ◌%◌, ◌<◌}
use mathlib.Core.Path.{◌≡◌, sym, ◌∙◌}
use native.Mathlib.Omega.{arith}
use Rattle.directory.specs.Listed.{entries_of}
use Rattle.directory.proofs.Places.{count_is, count_short, placed, place_inside}
use Rattle.entry_rules.specs.Ahead.{ahead_end, in_row}
use Rattle.entry_rules.proofs.Ahead.{ahead_between, ahead_row, ahead_scattered}
use Rattle.entry_rules.proofs.ahead_right.Goals as goal
use Rattle.entry_rules.proofs.ahead_right.Goals.{After-least-end, Else-i-ne0}

-- what was asked of the last of them
zeroth : (c : Else-i-ne0) → c.args.x.0 % 64 ≡ 0
zeroth c = rw (← c.index-i.ensures) (omega (arith, c.if-i-ne0.false))

-- the end of those that are asked
ends : (c : After-least-end) → let a = c.args in c.least-end.result ≡ ahead_end (entries_of a.d a.img.now) a.x.0
ends c = rw (count_is c.requires.directory_listed, ← c.count.ensures, ← c.index-i.ensures) c.least-end.ensures

-- x is below it, and it is small
some : (c : After-least-end) → c.args.x.0 < c.least-end.result
some c = omega (arith, ends c, count_is c.requires.directory_listed, c.requires.x_bound)

few : (c : After-least-end) → c.least-end.result < 0x8_0000
few c = omega (arith, ends c, count_is c.requires.directory_listed, count_short c.requires.directory_listed)

pub returns-then-i-ne0 : goal.returns-then-i-ne0
returns-then-i-ne0 c = ahead_between _ _ _ _ (λ q. absurd (omega (arith, c.if-i-ne0.true, c.index-i.ensures)))

pub overflow_cast-end : goal.overflow_cast-end
overflow_cast-end c = omega (arith, few (goal.at.overflow_cast-end c).After-least-end)

pub in_a_row-requires : goal.in_a_row-requires
in_a_row-requires c =
    let l = c.requires.directory_listed in
    let n = count_is l in
    let a = c.args.x.0 in
    record {
      from = placed l a (omega (arith, n, c.requires.x_bound));
      to = placed l _ (omega (arith, n, ends (goal.at.in_a_row-requires c).After-least-end, some (goal.at.in_a_row-requires c).After-least-end));
      order = omega (arith, some (goal.at.in_a_row-requires c).After-least-end);
      few = omega (arith, few (goal.at.in_a_row-requires c).After-least-end);
      low = omega (arith, place_inside l a (omega (arith, n, c.requires.x_bound)), l.sized.short);
    }

pub returns-then-in_a_row : goal.returns-then-in_a_row
returns-then-in_a_row c =
    let row : let a = c.args in in_row a.d a.work.now a.x.0 (ahead_end (entries_of a.d a.img.now) a.x.0 - 1) ≡ c.in_a_row.result = rw (← ends (goal.at.returns-then-in_a_row c).After-least-end) (sym c.in_a_row.ensures) in
    let a = c.args in ahead_row a.d (entries_of a.d a.img.now) a.work.now a.x.0 (zeroth (goal.at.returns-then-in_a_row c).Else-i-ne0) (row ∙ c.if-in_a_row.true)

pub returns : goal.returns
returns c =
    let row : let a = c.args in in_row a.d a.work.now a.x.0 (ahead_end (entries_of a.d a.img.now) a.x.0 - 1) ≡ c.in_a_row.result = rw (← ends (goal.at.returns c).After-least-end) (sym c.in_a_row.ensures) in
    let a = c.args in
    rw (c.colours.ensures, ends (goal.at.returns c).After-least-end) (ahead_scattered a.d (entries_of a.d a.img.now) a.work.now a.x.0 (zeroth (goal.at.returns c).Else-i-ne0) (row ∙ c.if-in_a_row.false))
