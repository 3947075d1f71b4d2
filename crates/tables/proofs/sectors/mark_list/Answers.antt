use Prim.Native.Nat.{◌+◌, ◌<◌}
use mathlib.Core.Path.{◌∙◌}
use native.Mathlib.Omega.{arith}
use lib.ListN.{get_or}
use borrow.Author.Tests.{ltb-true, ltb-false}
use Rattle.theory.proofs.Loops.{said_yes, said_no}
use Rattle.tables.proofs.ListLaws.{list_start, list_at, list_step, list_out, list_hit}
use mathlib.Core.Path.{ap}
use mathlib.Core.Bool.{not}
use Rattle.tables.proofs.sectors.mark_list.Goals as goal
use Rattle.tables.proofs.sectors.mark_list.Goals.{Else-not-below, then-not-below-via-then-not-below, then-not-below-via-else-not-below+then-work-index-gt0}

inside : (c : Else-not-below) → get_or c.loop-k.work (c.args.at + c.loop-k.k) 0 < c.args.n
inside c = ltb-true _ _ (said_yes (ap not c.if-not-below.false) c.below.ensures)

pub loop-k-init : goal.loop-k-init
loop-k-init c = list_start

pub returns-then-not-below : goal.returns-then-not-below
returns-then-not-below c =
    let a = c.loop-k.invariant in
    let s = list_at a c.requires.apart in
    elim c.then-not-below.branch [
      | then-not-below-via-then-not-below w ↦
          list_out a _ c.loop-k-test.true s (ltb-false _ _ (said_no (ap not w.if-not-below.true) c.below.ensures))
      | then-not-below-via-else-not-below+then-work-index-gt0 w ↦
          list_hit a _ c.loop-k-test.true s (ltb-true _ _ (said_yes (ap not w.if-not-below.false) c.below.ensures)) (rw (← w.index.ensures) w.if-work-index-gt0.true)
    ]

pub loop-k-preserved : goal.loop-k-preserved
loop-k-preserved c = list_step c.loop-k.invariant _ c.loop-k-test.true (omega (arith, c.requires.room, c.requires.apart)) c.requires.mark (c.index-in-loop-k.ensures ∙ list_at c.loop-k.invariant c.requires.apart) (rw c.index-in-loop-k.ensures (inside (goal.at.loop-k-preserved c).Else-not-below)) (rw (c.index-in-loop-k.ensures, ← c.index.ensures) c.if-work-index-gt0.false)
