use Prim.Native.Nat.{◌+◌}
use Rattle.kinds.specs.Sizes.{geometry_of}
use Rattle.header.specs.Sized.{F}
use Rattle.tables.specs.Stages.{Difats}
use Rattle.tables.proofs.DifatLaws.{difats_kept}
use Rattle.tables.proofs.StageLaws.{left_listed, lists_difats, lists_left}
use Rattle.tables.proofs.sectors.list_tables.Goals as goal

pub list_fats-requires : goal.list_fats-requires
list_fats-requires c =
    let difats_at : Difats (geometry_of c.args.g) c.args.img.now c.list_difats.new.work (c.args.list + F c.args.img.now) = let a = c.requires in lists_difats a (left_listed a c.list_difats.ensures) (c.if-not-list_difats.false) in
    record { difats = difats_at; f_value = c.requires.fats }

pub difat_rest-requires : goal.difat_rest-requires
difat_rest-requires c =
    let difats_at : Difats (geometry_of c.args.g) c.args.img.now c.list_difats.new.work (c.args.list + F c.args.img.now) = let a = c.requires in lists_difats a (left_listed a c.list_difats.ensures) (c.if-not-list_difats.false) in
    let a = c.requires in record { difats = rw a.fats (difats_kept difats_at c.list_fats.ensures.wrote); f_value = (a.fats, a.difats) }

pub returns : goal.returns
returns c =
    let a = c.requires in
    lists_left a (left_listed a c.list_difats.ensures) (c.if-not-list_difats.false) c.list_fats.ensures.wrote c.list_fats.ensures.holds c.difat_rest.ensures
