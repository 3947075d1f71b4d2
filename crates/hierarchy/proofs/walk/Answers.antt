use mathlib.Core.Path.{refl, sym, ◌∙◌}
use native.Mathlib.Omega.{arith}
use native.Mathlib.Nat.{mod-lt}
use Rattle.tables.proofs.WorkLaws.{wrote_none, wrote_two}
use Rattle.directory.proofs.Places.{count_is, count_short}
use Rattle.tree_walk.proofs.Starts.{walking_start}
use Rattle.hierarchy.proofs.Passes.{turn_on, turn_wrong, turn_done}
use Rattle.hierarchy.proofs.Batches.{batch_start, batch_turn, batch_room, batch_full, batch_end}
use Rattle.hierarchy.proofs.walk.Goals as goal

pub of-first-requires : goal.of-first-requires
of-first-requires c = let r = c.requires in omega (arith, c.count.ensures, count_short r.listed)

pub loop-next-init : goal.loop-next-init
loop-next-init c =
    let r = c.requires in
    (batch_start (walking_start r (c.of-first.ensures ∙ rw (c.count.ensures, c.child_of.ensures, ← count_is r.listed)) refl refl refl refl) refl refl, omega arith, wrote_none _ 0 _)

pub note-k-requires : goal.note-k-requires
note-k-requires c =
    let i = c.loop-next.invariant in
    let g = turn_on (c.take_turn.ensures _ i.0.on) c.in-Go.is in record { directory_listed = g.on.lent.listed; due_paired = g.due; k_bound = (i.1, i.0.lows, i.0.highs) }

pub full_rises-requires : goal.full_rises-requires
full_rises-requires c =
    let i = c.loop-next.invariant in
    let g = turn_on (c.take_turn.ensures _ i.0.on) c.in-Go.is in
    (batch_turn i.0 i.1 g g.on.lent.listed c.note-k.ensures).named

pub returns-then-not-full_rises : goal.returns-then-not-full_rises
returns-then-not-full_rises c =
    let i = c.loop-next.invariant in
    let t = c.take_turn.ensures _ i.0.on in
    let g = turn_on t c.in-Go.is in
    record {
      walked = batch_full (batch_turn i.0 i.1 g g.on.lent.listed c.note-k.ensures) (sym c.full_rises.ensures ∙ c.if-not-full_rises.true);
      wrote = wrote_two i.2 t.wrote;
    }

pub loop-next-smaller : goal.loop-next-smaller
loop-next-smaller c = let i = c.loop-next.invariant in (turn_on (c.take_turn.ensures _ i.0.on) c.in-Go.is).nearer

pub loop-next-preserved : goal.loop-next-preserved
loop-next-preserved c =
    let i = c.loop-next.invariant in
    let t = c.take_turn.ensures _ i.0.on in
    let g = turn_on t c.in-Go.is in
    (batch_room (batch_turn i.0 i.1 g g.on.lent.listed c.note-k.ensures) (sym c.full_rises.ensures ∙ c.if-not-full_rises.false), mod-lt _ (omega arith), wrote_two i.2 t.wrote)

pub returns-in-Wrong : goal.returns-in-Wrong
returns-in-Wrong c =
    let i = c.loop-next.invariant in
    let t = c.take_turn.ensures _ i.0.on in
    record { walked = turn_wrong t c.in-Wrong.is; wrote = wrote_two i.2 t.wrote }

pub returns-in-Done : goal.returns-in-Done
returns-in-Done c =
    let i = c.loop-next.invariant in
    let t = c.take_turn.ensures _ i.0.on in
    record { walked = batch_end i.0 _ c.pairs_rise.ensures (turn_done t c.in-Done.is); wrote = wrote_two i.2 t.wrote }
