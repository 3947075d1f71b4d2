use Prim.Native.Nat.{◌≤◌, ◌<◌}
use mathlib.Core.Path.{◌≡◌, sym, ap, ◌∙◌}
use mathlib.Core.Bool.{◌&&◌, not}
use mathlib.Core.Logic.{inl, inr}
use native.Mathlib.Omega.{arith}
use lib.Dec.{leb, eqb}
use Rattle.format.specs.Layout.Chain.{END}
use Rattle.tables.specs.Views.{sector_count_of}
use Rattle.theory.proofs.Loops.{said_below, said_beyond}
use Rattle.chains.specs.Answers.{length_answer}
use Rattle.chains.proofs.Groups.{following_read, following_end, directory_is}
use Rattle.chains.proofs.directory_length.Goals as goal
use Rattle.chains.proofs.directory_length.Goals.{Else-not-below, Then-not-below}

inside : (c : Else-not-below) → c.loop-k.s.0 < sector_count_of c.args.t c.args.img.now
inside c = said_below _ c.args.t.sectors (ap not c.if-not-below.false) c.below.ensures c.requires.fat_listed.count

outside : (c : Then-not-below) → sector_count_of c.args.t c.args.img.now ≤ c.loop-k.s.0
outside c = said_beyond _ c.args.t.sectors (ap not c.if-not-below.true) c.below.ensures c.requires.fat_listed.count

pub returns-then-not-below : goal.returns-then-not-below
returns-then-not-below c =
    c.length_of.ensures
    ∙ ap (λ r. length_answer ((leb 1 c.loop-k.k && eqb c.loop-k.s.0 END) && r) c.loop-k.k) c.count_right.ensures
    ∙ sym (directory_is _ _ c.loop-k.k c.loop-k.s.0 (rw (← c.directory_start-s.ensures) (following_end c.loop-k.invariant (inl (outside (goal.at.returns-then-not-below c).Then-not-below)))))

pub loop-k-preserved : goal.loop-k-preserved
loop-k-preserved c =
    following_read c.requires.holds c.loop-k.invariant (omega (arith, c.loop-k-test.true, c.requires.fat_listed.count)) (inside (goal.at.loop-k-preserved c).Else-not-below) c.index.ensures

pub returns : goal.returns
returns c =
    let e : c.loop-k.k ≡ c.args.t.sectors = omega arith in
    c.length_of-2.ensures
    ∙ ap (λ r. length_answer ((leb 1 c.args.t.sectors && eqb c.loop-k.s.0 END) && r) c.args.t.sectors) c.count_right-2.ensures
    ∙ sym (directory_is _ _ c.args.t.sectors c.loop-k.s.0 (rw (← c.directory_start-s.ensures) (following_end (rw e at c.loop-k.invariant) (inr c.requires.fat_listed.count))))
