use Rattle.std.proofs.Common.{◌∙◌, arith}
use Rattle.format.specs.Layout.Geometry.{header_difat, cells_in, difat_in}
use Rattle.format.specs.Rules.Tables.{difat_need}
use Rattle.tables.proofs.DifatLaws.{round_up_is}
use Rattle.tables.proofs.sectors.difat_need.Goals as goal

pub div_ceil-requires : goal.div_ceil-requires
unfolding difat_in cells_in
div_ceil-requires c = omega (arith, c.difat.ensures, c.requires.0)

pub returns : goal.returns
unfolding difat_need header_difat difat_in cells_in
returns c = c.div_ceil.ensures ∙ round_up_is _ _ (omega (arith, c.difat.ensures, c.requires.0)) ∙ rw (c.saturating_sub.ensures, c.difat.ensures)
