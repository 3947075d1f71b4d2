use Rattle.std.proofs.Common.{◌≡◌, ◌∙◌, sym, ◌+◌, true, false}
use Rattle.format.specs.Layout.Geometry.{sector_count}
use Rattle.kinds.specs.Sizes.{geometry_of}
use Rattle.header.specs.Sized.{F, D}
use Rattle.tables.specs.Work.{Wrote}
use Rattle.tables.specs.Stages.{StageArgs, ListLeft}
use Rattle.tables.proofs.WorkLaws.{wrote_two}
use Rattle.tables.proofs.SectorLaws.{Unmarked, fats_fail, difats_fail, sectors_marked}
use Rattle.tables.proofs.StageLaws.{unmarked_wrote, unmarked_args, unmarked, left_fats, left_difats, marks_fail, built_listed, marks_left}
use Rattle.tables.proofs.sectors.mark_tables.Goals as goal
use Rattle.tables.proofs.sectors.mark_tables.Goals.{Joined-mark_list, then-mark_list, else-mark_list}

-- the marks are taken away
args_are : (c : Joined-mark_list) → let p = c.args in StageArgs (geometry_of p.g) p.img.now c.zero_first.new.work p.n p.f p.d p.list
args_are c = unmarked_args c.requires.stage_args c.zero_first.ensures

lists : (c : Joined-mark_list) → let p = c.args in Unmarked (geometry_of p.g) p.img.now c.zero_first.new.work p.list
lists c = unmarked c.requires.stage_args c.zero_first.ensures c.requires.built

start : (c : Joined-mark_list) → let p = c.args in Wrote p.work.now c.zero_first.new.work 0 (sector_count (geometry_of p.g) p.img.now)
start c = unmarked_wrote c.requires.stage_args c.zero_first.ensures

-- what each marking left where both passed
first : (c : Joined-mark_list) → c.mark_list.result ≡ true → let p = c.args in ListLeft c.zero_first.new.work c.mark_list.new.work (sector_count (geometry_of p.g) p.img.now) p.list (F p.img.now) 1 true
first c e = left_fats (args_are c) c.mark_list.ensures e

second : (c : Joined-mark_list) → c.if-mark_list.value ≡ true
    → let p = c.args in (c.mark_list.result ≡ true) × ListLeft c.mark_list.new.work c.if-mark_list.work (sector_count (geometry_of p.g) p.img.now) (p.list + F p.img.now) (D p.img.now) 2 true
second c e =
    elim c.if-mark_list.branch [
      | then-mark_list w ↦
          (w.if-mark_list.true, rw w.work-is (left_difats (args_are c) w.mark_list-then-mark_list.ensures (sym w.value-is ∙ e)))
      | else-mark_list w ↦ absurd cc
    ]

pub table_marks-requires : goal.table_marks-requires
table_marks-requires c =
    let j = (goal.at.table_marks-requires c).Joined-mark_list in
    let s = second j c.if-mark_list-2.true in
    let k = first j s.0 in
    let l = s.1 in
    record {
      fat_listed = built_listed (args_are j) (lists j) k.wrote k.answer l.wrote l.answer _ (args_are j).sectors;
      table_marked = sectors_marked (args_are j) (lists j) k.wrote k.answer l.answer;
    }

pub returns-then-mark_list-2 : goal.returns-then-mark_list-2
returns-then-mark_list-2 c =
    let j = (goal.at.returns-then-mark_list-2 c).Joined-mark_list in
    let s = second j c.if-mark_list-2.true in
    let k = first j s.0 in
    let l = s.1 in
    marks_left (args_are j) (lists j) k.wrote k.answer l.wrote l.answer (start j) c.table_marks.ensures

pub returns-else-mark_list-2 : goal.returns-else-mark_list-2
returns-else-mark_list-2 c =
    let j = (goal.at.returns-else-mark_list-2 c).Joined-mark_list in
    elim c.if-mark_list.branch [
      | then-mark_list w ↦
          let k = first j w.if-mark_list.true in
          let l = left_difats (args_are j) w.mark_list-then-mark_list.ensures (sym w.value-is ∙ c.if-mark_list-2.false) in
          rw (c.if-mark_list-2.false, w.work-is) (marks_fail (difats_fail (args_are j) (lists j) k.wrote k.answer l.answer) (wrote_two (start j) (wrote_two k.wrote l.wrote)))
      | else-mark_list w ↦
          let l = left_fats (args_are j) c.mark_list.ensures w.if-mark_list.false in
          rw (c.if-mark_list-2.false, w.work-is) (marks_fail (fats_fail (args_are j) (lists j) l.answer) (wrote_two (start j) l.wrote))
    ]
