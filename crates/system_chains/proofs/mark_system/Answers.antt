use mathlib.Core.Path.{◌≡◌, refl}
use mathlib.Core.Bool.{true}
use Rattle.format.specs.Layout.Tables.{sector_space}
use Rattle.format.specs.Rules.Mini.{mini_fat_chain}
use Rattle.tables.specs.Views.{volume_of}
use Rattle.chains.proofs.Owners.{marked_both, is_right}
use Rattle.system_chains.proofs.SystemLaws.{markable_after}
use Rattle.system_chains.proofs.mark_system.Goals as goal
use Rattle.system_chains.proofs.mark_system.Goals.{In_ok-b}

-- the mini FAT's chain is right
right : (c : In_ok-b) → mini_fat_chain (volume_of c.args.t.geometry c.args.img.now) ≡ true
right c = is_right c.in_ok-b.ensures

pub mark_mini_stream-requires : goal.mark_mini_stream-requires
unfolding sector_space
mark_mini_stream-requires c =
    let a = c.in_ok-a.ensures in
    let b = c.in_ok-b.ensures in
    markable_after (markable_after c.requires.system_markable (a.stands refl) a.wrote) (b.stands (right (goal.at.mark_mini_stream-requires c).In_ok-b)) b.wrote

pub returns : goal.returns
returns c =
    let e = right (goal.at.returns c).In_ok-b in
    rw e (marked_both (marked_both c.in_ok-a.ensures (rw e at c.in_ok-b.ensures)) c.in_ok-c.ensures)
