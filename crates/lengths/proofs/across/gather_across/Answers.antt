use borrow.Author.Rules.{rules}
use Prim.Native.Nat.{◌+◌, ◌≤◌, ◌<◌}
use mathlib.Core.Path.{◌≡◌, refl, ◌∙◌, ap}
use native.Mathlib.Omega.{arith}
use lib.ListN.{length}
use Rattle.theory.proofs.Tests.{clash}
use Rattle.tables.specs.Work.{Wrote}
use Rattle.tables.proofs.WorkLaws.{wrote_two, wrote_wider}
use Rattle.spaces.specs.Spaces.{space_at}
use Rattle.spaces.specs.Units.{kind_of}
use Rattle.spaces.proofs.Listed.{count_same}
use Rattle.unitlists.proofs.Filled.{filled_looked, filled_count, filled_list}
use Rattle.edits.proofs.Gathering.{gathered_wrote, gathered_ready, chain_long, old_short}
use Rattle.edits.proofs.Growths.{growth_is, none_looked, free_looked, growth_most}
use Rattle.lengths.proofs.Crossings.{across_cells, across_room, across_none, across_answer, across_own, across_free}
use Rattle.lengths.proofs.across.gather_across.Goals as goal
use Rattle.lengths.proofs.across.gather_across.Goals.{Else-unit_count-need}

-- there is room behind them
room : (c : Else-unit_count-need) → let a = c.args in a.old + a.need ≤ a.v.stream
room c =
    across_room c.requires.readied (kind_of c.args.start) c.args.kind c.requires.start_nonzero _ _ c.requires.value _ (omega (arith, c.if-unit_count-need.false, (let many' : let a = c.args in c.unit_count.result ≡ (space_at a.v a.img.now a.kind).limit = c.unit_count.ensures ∙ count_same c.requires.readied c.args.kind in many')))

pub returns-then-unit_count-need : goal.returns-then-unit_count-need
returns-then-unit_count-need c =
    let many : let a = c.args in c.unit_count.result ≡ (space_at a.v a.img.now a.kind).limit = c.unit_count.ensures ∙ count_same c.requires.readied c.args.kind in
    let wrote' : let a = c.args in Wrote a.work.now c.list_units.new.work 0 a.v.stream = gathered_wrote c.requires.readied (kind_of c.args.start) _ (old_short c.requires.readied (kind_of c.args.start) _ _ c.requires.value) c.list_units.ensures.wrote in
    let h : (space_at c.args.v c.args.img.now c.args.kind).limit < c.args.need = omega (arith, c.if-unit_count-need.true, many) in
    let n = across_none c.requires.readied (kind_of c.args.start) c.args.kind c.requires.start_nonzero _ _ c.requires.value _ h in record { answer = growth_is _ 0 _ n (none_looked _ 0 _ h); own = c.list_units.ensures.work_after; free = (λ q. absurd (clash q refl)); wrote = wrote'; looked = omega arith }

pub overflow_add-all : goal.overflow_add-all
overflow_add-all c = omega (arith, room (goal.at.overflow_add-all c).Else-unit_count-need, c.requires.readied.stream.room)

pub list_free-l-requires : goal.list_free-l-requires
list_free-l-requires c =
    let wrote' : let a = c.args in Wrote a.work.now c.list_units.new.work 0 a.v.stream = gathered_wrote c.requires.readied (kind_of c.args.start) _ (old_short c.requires.readied (kind_of c.args.start) _ _ c.requires.value) c.list_units.ensures.wrote in
    record { readied = gathered_ready c.requires.readied wrote'; k_le_need = omega arith; need_le_stream = room (goal.at.list_free-l-requires c).Else-unit_count-need }

pub returns : goal.returns
returns c =
    let many : let a = c.args in c.unit_count.result ≡ (space_at a.v a.img.now a.kind).limit = c.unit_count.ensures ∙ count_same c.requires.readied c.args.kind in
    let wrote' : let a = c.args in Wrote a.work.now c.list_units.new.work 0 a.v.stream = gathered_wrote c.requires.readied (kind_of c.args.start) _ (old_short c.requires.readied (kind_of c.args.start) _ _ c.requires.value) c.list_units.ensures.wrote in
    let k = kind_of c.args.start in
    let own = c.list_units.ensures.work_after in
    let all : c.args.old ≤ c.args.old + c.args.need = omega arith in
    let h : c.args.need ≤ (space_at c.args.v c.args.img.now c.args.kind).limit = omega (arith, c.if-unit_count-need.false, many) in
    let n = filled_count _ _ _ c.list_free-l.ensures.value all in
    let u = filled_list _ _ _ c.list_free-l.ensures.value all _ _ (ap length own ∙ chain_long c.requires.readied k _ _ c.requires.value) c.list_free-l.ensures.work_after in
    let e = growth_is _ 0 _ (across_answer c.requires.readied k c.args.kind c.requires.start_nonzero _ _ c.requires.value _ _ _ _ own n u) (free_looked _ 0 _ h (across_cells _ _ _ (filled_looked _ _ _ c.list_free-l.ensures.value))) in record { answer = e; own = across_own c.requires.readied k c.args.kind c.requires.start_nonzero _ _ c.requires.value _ _ _ _ own n u; free = across_free c.requires.readied k c.args.kind c.requires.start_nonzero _ _ c.requires.value _ _ _ _ own n u; wrote = wrote_two wrote' (wrote_wider 0 _ c.list_free-l.ensures.wrote (omega arith) (omega (arith, room (goal.at.returns c).Else-unit_count-need))); looked = growth_most _ _ _ e }
