use borrow.Author.Rules.{rules}
use Rattle.pulse_records.specs.Records.{pulse_of}
use Rattle.pulse_records.proofs.Tails.{tail_built}
use Rattle.pulse_records.proofs.trailers.put_tail.Goals as goal

pub returns : goal.returns
returns c =
    rw (
      c.put_u64.ensures,
      c.put_u32-3.ensures,
      c.put_u32-2.ensures,
      c.distance.ensures,
      c.put_u32.ensures,
      c.put_u16-2.ensures,
      c.put_u16.ensures,
    )
    (tail_built c.args.bytes.now (pulse_of c.args.p) c.args.count.0 c.args.total.0 c.requires.bytes_len)
