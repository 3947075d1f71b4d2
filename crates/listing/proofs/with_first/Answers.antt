use native.Mathlib.Omega.{arith}
use Prim.Native.Nat.{◌+◌}
use mathlib.Core.Path.{◌≡◌}
use lib.ListN.{length}
use Rattle.format.specs.Calls.Listing.{first_line}
use Rattle.text.proofs.Decimals.{decimal_most}
use Rattle.listing.proofs.Measures.{first_length, measured_long, measured_fits}
use Rattle.listing.proofs.with_first.Goals as goal
use Rattle.listing.proofs.with_first.Goals.{After-decimal_length-n}

-- what the first line takes
first : (c : After-decimal_length-n) → c.decimal_length-n.result + 9 ≡ length (first_line c.args.objects)
first c = omega (arith, c.decimal_length-n.ensures, first_length c.args.objects)

pub overflow_add-n : goal.overflow_add-n
overflow_add-n c = omega (arith, c.decimal_length-n.ensures, decimal_most c.args.objects)

pub returns-then-most-bytes : goal.returns-then-most-bytes
returns-then-most-bytes c = measured_long _ _ _ (omega (arith, first (goal.at.returns-then-most-bytes c).After-decimal_length-n, c.if-most-bytes.true, c.requires))

pub returns : goal.returns
returns c = rw (first (goal.at.returns c).After-decimal_length-n) (measured_fits _ _ _ (omega (arith, first (goal.at.returns c).After-decimal_length-n, c.if-most-bytes.false, c.requires)))
