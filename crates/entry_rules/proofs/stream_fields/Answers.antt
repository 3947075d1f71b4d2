use Rattle.format.specs.Layout.Entry.{clsid, created, modified}
use Rattle.format.specs.Rules.Entries.{stream_fields}
use Rattle.entry_rules.proofs.stream_fields.Goals as goal

pub returns : goal.returns
unfolding stream_fields clsid created modified
returns c = rw (c.zeros-3.ensures, c.zeros-2.ensures, c.zeros.ensures, c.is_none.ensures, c.child.ensures, c.name_fields.ensures)
