use Rattle.std.proofs.Common.{arith, ◌+◌, ◌≤◌, [], ◌∷◌, ◌++◌, length, length-append}
use Rattle.format.specs.Calls.Text.{newline, decimal}
use Rattle.text.proofs.Filled.{filled_copied, filled_lent, filled_set}
use Rattle.text.proofs.put_number_line.Goals as goal

pub returns-clause-written : goal.returns-clause-written
returns-clause-written c =
    let w = c.args.word.now in
    let d = decimal c.args.n in
    let room : length w + length d + 1 ≤ length c.args.out.now = omega (arith, length-append (w ++ d) (newline ∷ []), length-append w d) in
    let copied = filled_copied c.args.out.now c.copy_from_slice.ensures.after (omega arith) in
    let count = c.put_decimal-m.ensures.count in
    (filled_set (filled_lent copied d (omega arith) count c.put_decimal-m.ensures.written) newline (omega arith)).bytes
