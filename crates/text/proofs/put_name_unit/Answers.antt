use Rattle.std.proofs.Common.{sym, ◌∙◌}
use Rattle.text.proofs.Units.{put_plain, put_coded}
use Rattle.text.proofs.put_name_unit.Goals as goal

pub returns-then-plain-clause-written : goal.returns-then-plain-clause-written
returns-then-plain-clause-written c = put_plain _ _ (sym c.plain.ensures ∙ c.if-plain.true) c.requires

pub returns-clause-written : goal.returns-clause-written
returns-clause-written c =
    put_coded _ _ (sym c.plain.ensures ∙ c.if-plain.false) c.requires c.hex_digit.ensures c.hex_digit-2.ensures c.hex_digit-3.ensures c.hex_digit-4.ensures
