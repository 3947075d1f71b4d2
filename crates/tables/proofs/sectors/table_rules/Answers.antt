use Prim.Native.Nat.{◌+◌, ◌-◌}
use mathlib.Core.Path.{refl, sym, ◌∙◌, ap}
use Rattle.format.specs.Rules.Length.{work_need}
use native.Mathlib.Omega.{arith}
use Rattle.kinds.specs.Sizes.{geometry_of}
use Rattle.tables.specs.Stages.{Counted, StageArgs}
use Rattle.theory.proofs.Loops.{said_yes, said_no}
use Rattle.tables.proofs.StageLaws.{rules_counts, rules_many, rules_lists, rules_marks, counted, not_left, stage_start, stage_kept, lists_refused, tables_left}
use mathlib.Core.Bool.{not}
use Rattle.tables.proofs.sectors.table_rules.Goals as goal
use Rattle.tables.proofs.sectors.table_rules.Goals.{Else-n-f, then-not-table_counts-via-then-not-table_counts, then-not-table_counts-via-else-not-table_counts+then-n-f}

-- what both tests of the counts say
counts : (c : Else-n-f) → Counted (geometry_of c.args.g) c.args.img.now
counts c =
    let n = c.sector_count-n.ensures in
    counted _ _ c.requires.image_sized (said_yes (ap not c.if-not-table_counts.false) c.table_counts.ensures) (omega (arith, c.if-n-f.false, n, c.fat_count-f.ensures, c.difat_count-d.ensures))

-- what the stages after them are called with
stage : (c : Else-n-f) → let n = c.sector_count-n.result in
    let f = c.fat_count-f.result in
    let d = c.difat_count-d.result in
    StageArgs (geometry_of c.args.g) c.args.img.now c.args.work.now n f d (c.work_need-need.result - (f + d))
unfolding work_need
stage c =
    let n = c.sector_count-n.ensures in
    stage_start _ _ _ _ (counts c) c.requires.img_in_bounds n c.fat_count-f.ensures c.difat_count-d.ensures (ap (λ k. k - (c.fat_count-f.result + c.difat_count-d.result)) c.work_need-need.ensures)

pub returns-then-not-table_counts : goal.returns-then-not-table_counts
returns-then-not-table_counts c =
    record {
      answer = elim c.then-not-table_counts.branch [
        | then-not-table_counts-via-then-not-table_counts w ↦
            sym (rules_counts _ _ (said_no (ap not w.if-not-table_counts.true) c.table_counts.ensures))
        | then-not-table_counts-via-else-not-table_counts+then-n-f w ↦
            sym (rules_many (geometry_of c.args.g) c.args.img.now (omega (arith, w.if-n-f.true, c.sector_count-n.ensures, c.fat_count-f.ensures, c.difat_count-d.ensures)))
      ];
      left = not_left _ _ _ _ (λ i h. refl);
    }

pub overflow_sub-list : goal.overflow_sub-list
unfolding work_need
overflow_sub-list c = omega (arith, (counts (goal.at.overflow_sub-list c).Else-n-f).few, c.fat_count-f.ensures, c.difat_count-d.ensures, c.requires.image_sized.many)

pub list_tables-requires : goal.list_tables-requires
unfolding work_need
list_tables-requires c = stage (goal.at.list_tables-requires c).Else-n-f

pub mark_tables-requires : goal.mark_tables-requires
mark_tables-requires c =
    let e = c.list_tables.ensures in
    record { stage_args = stage_kept (stage (goal.at.mark_tables-requires c).Else-n-f) e.wrote; built = e.built c.if-list_tables.true }

pub returns-then-list_tables : goal.returns-then-list_tables
returns-then-list_tables c =
    let e = c.list_tables.ensures in
    let m = c.mark_tables.ensures in
    record {
      answer = m.answer ∙ sym (rules_marks _ _ (said_yes (ap not c.if-not-table_counts.false) c.table_counts.ensures) (sym e.answer ∙ c.if-list_tables.true));
      left = tables_left (stage (goal.at.returns-then-list_tables c).Else-n-f) e.wrote m;
    }

pub returns-else-list_tables : goal.returns-else-list_tables
returns-else-list_tables c =
    let e = c.list_tables.ensures in
    let r = c.if-list_tables.false in
    record {
      answer = r ∙ sym (rules_lists _ _ (sym e.answer ∙ r));
      left = rw r (lists_refused (stage (goal.at.returns-else-list_tables c).Else-n-f) e.wrote);
    }
