use borrow.Author.Rules.{rules}
use Prim.Native.Nat.{◌≤◌, ◌<◌}
use mathlib.Core.Path.{◌≡◌, refl, ◌∙◌, ap}
use native.Mathlib.Omega.{arith}
use lib.ListN.{length}
use Rattle.theory.proofs.Tests.{clash}
use Rattle.tables.proofs.WorkLaws.{wrote_two}
use Rattle.spaces.specs.Spaces.{space_at, unit_count}
use Rattle.spaces.specs.Units.{kind_of}
use Rattle.spaces.proofs.Listed.{count_same}
use Rattle.unitlists.proofs.Limits.{limit_room}
use Rattle.unitlists.proofs.Filled.{filled_looked, filled_count, filled_list}
use Rattle.edits.proofs.Gathering.{gathered_wrote, gathered_ready, chain_long, old_short, needs_more, own_enough, own_first, free_enough, own_still, all_listed}
use Rattle.edits.proofs.Growths.{growth_is, none_looked, own_looked, free_looked, growth_most}
use Rattle.edits.proofs.resize.gather.Goals as goal

pub returns-then-unit_count-need : goal.returns-then-unit_count-need
returns-then-unit_count-need c =
    let many : let a = c.args in c.unit_count.result ≡ (space_at a.v a.img.now (kind_of a.start)).limit = c.unit_count.ensures ∙ ap (unit_count c.args.v) c.kind-kind.ensures ∙ count_same c.requires.readied (kind_of c.args.start) in
    let k = kind_of c.args.start in
    let few = old_short c.requires.readied k _ _ c.requires.value in
    let h : (space_at c.args.v c.args.img.now k).limit < c.args.need = omega (arith, c.if-unit_count-need.true, many) in record { value_2 = growth_is _ _ _ (needs_more c.requires.readied k _ _ c.requires.value _ h) (none_looked _ _ _ h); work_after = c.list_units.ensures.work_after; work_after_2 = (λ q. absurd (clash q refl)); wrote = gathered_wrote c.requires.readied k _ few c.list_units.ensures.wrote; looked_bound = omega arith }

pub returns-then-n-old : goal.returns-then-n-old
returns-then-n-old c =
    let k = kind_of c.args.start in
    let few = old_short c.requires.readied k _ _ c.requires.value in record { value_2 = growth_is _ _ _ (own_enough c.requires.readied k _ _ c.requires.value _ c.list_units.ensures.work_after _ c.if-n-old.true) (own_looked _ _ _ c.if-n-old.true); work_after = c.list_units.ensures.work_after; work_after_2 = (λ q. own_first c.requires.readied k _ _ c.requires.value _ c.list_units.ensures.work_after _ c.if-n-old.true); wrote = gathered_wrote c.requires.readied k _ few c.list_units.ensures.wrote; looked_bound = omega arith }

pub list_free-l-requires : goal.list_free-l-requires
list_free-l-requires c =
    let many : let a = c.args in c.unit_count.result ≡ (space_at a.v a.img.now (kind_of a.start)).limit = c.unit_count.ensures ∙ ap (unit_count c.args.v) c.kind-kind.ensures ∙ count_same c.requires.readied (kind_of c.args.start) in
    let k = kind_of c.args.start in
    let few = old_short c.requires.readied k _ _ c.requires.value in record { readied = gathered_ready c.requires.readied (gathered_wrote c.requires.readied k _ few c.list_units.ensures.wrote); k_le_need = omega (arith, c.if-n-old.false); need_le_stream = omega (arith, c.if-unit_count-need.false, many, limit_room c.requires.readied k) }

pub returns : goal.returns
returns c =
    let many : let a = c.args in c.unit_count.result ≡ (space_at a.v a.img.now (kind_of a.start)).limit = c.unit_count.ensures ∙ ap (unit_count c.args.v) c.kind-kind.ensures ∙ count_same c.requires.readied (kind_of c.args.start) in
    let k = kind_of c.args.start in
    let few = old_short c.requires.readied k _ _ c.requires.value in
    let t = gathered_wrote c.requires.readied k _ few c.list_units.ensures.wrote in
    let m : c.args.need ≤ (space_at c.args.v c.args.img.now k).limit = omega (arith, c.if-unit_count-need.false, many) in
    let o : c.args.old ≤ c.args.need = omega (arith, c.if-n-old.false) in
    let g = chain_long c.requires.readied k _ _ c.requires.value in
    let n = filled_count _ _ _ (rw c.kind-kind.ensures at c.list_free-l.ensures.value) o in
    let u = filled_list _ _ _ (rw c.kind-kind.ensures at c.list_free-l.ensures.value) o _ _ (ap length c.list_units.ensures.work_after ∙ g) (rw c.kind-kind.ensures at c.list_free-l.ensures.work_after) in
    let e = growth_is _ _ _ (free_enough _ _ _ _ _ _ _ g c.list_units.ensures.work_after o n u) (free_looked _ _ _ m (filled_looked _ _ _ (rw c.kind-kind.ensures at c.list_free-l.ensures.value))) in record { value_2 = e; work_after = own_still _ _ _ _ _ _ _ g c.list_units.ensures.work_after o n u; work_after_2 = all_listed _ _ _ _ _ _ _ g c.list_units.ensures.work_after o n u; wrote = wrote_two t (gathered_wrote c.requires.readied k _ m c.list_free-l.ensures.wrote); looked_bound = growth_most _ _ _ e }
