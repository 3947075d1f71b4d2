use borrow.Author.Rules.{rules}
use lib.ListN.{length}
use Rattle.kinds.specs.Sizes.{geometry_of}
use Rattle.formatting.proofs.Headers.{marks_are}
use Rattle.formatting.proofs.put_marks.Goals as goal

pub returns : goal.returns
returns c =
    rw (
      c.put_u16-5.ensures,
      c.put_u16-4.ensures,
      c.put_u16-3.ensures,
      c.put_u16-2.ensures,
      c.put_u16.ensures,
      c.put_u64.ensures,
      c.fill.ensures.after (search rules),
    )
    (marks_are (geometry_of c.args.g) (length c.args.part.now) c.requires)
