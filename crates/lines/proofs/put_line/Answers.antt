use Rattle.std.proofs.Common.{arith}
use Rattle.entries.specs.Entry.{entry_at}
use Rattle.lines.specs.Lines.{width_of}
use Rattle.lines.proofs.LineWrites.{line_head, line_before, name_room, line_name, line_end}
use Rattle.lines.proofs.put_line.Goals as goal

-- the head, then what is before the name, then the name
pub returns-clause-written : goal.returns-clause-written
returns-clause-written c =
    let a = c.args in
    let w = width_of a.g in
    let e = entry_at a.img.now a.p in
    let h = c.requires.parent_bound in
    let b = c.requires.parent_in_bounds in
    let headed = line_head w a.out.now e a.at a.from a.parent h b c.put_head.ensures.count c.put_head.ensures.written in
    let begun = line_before w a.out.now e a.at a.from a.parent h b headed c.put_before.ensures.count c.put_before.ensures.written in
    let named = line_name w a.out.now e a.at a.from a.parent h b begun c.put_name-n.ensures.count c.put_name-n.ensures.written in
    line_end w a.out.now e a.at a.from a.parent h b named (omega (arith, name_room w a.out.now e a.at a.from a.parent h b begun))
