use mathlib.Core.Path.{◌≡◌, sym, ◌∙◌}
use native.Mathlib.Omega.{arith}
use Rattle.format.specs.Basics.Lists.{all_below}
use Rattle.format.specs.Rules.Mini.{mini_cell_right}
use Rattle.theory.proofs.Tests.{below_at}
use Rattle.tables.proofs.Blocks.{cell_small}
use Rattle.chains.proofs.Copied.{plain_unmarked, copied}
use Rattle.minis.specs.Listed.{minis_of}
use Rattle.minis.proofs.ListLaws.{units_few, cells_cover, mini_cell_lem, mini_held}
use Rattle.minis.proofs.Rules.{mini_right}
use Rattle.minis.proofs.copy_minis.Goals as goal

pub returns : goal.returns
unfolding mini_cell_right
returns c =
    let l = c.requires.mini_listed in
    let sp = minis_of c.args.t c.args.img.now in
    let f = units_few l in
    -- what was asked of each cell
    let right : c.copy_table.result ≡ all_below sp.limit (mini_cell_right sp) = c.copy_table.ensures.answer
    ∙ mini_right sp _ l.counts.count (λ s. cell_small _ _ _ _ s (λ i. (c.type_inv.img i).fits)) (λ s h. mini_cell_lem l s (omega (arith, cells_cover l))) in
    record {
      answer = right;
      copied = λ h.
          copied sp _ (omega (arith, f)) (rw l.counts.count at (mini_held l (cells_cover l) c.copy_table.ensures.holds))
          (λ u q. plain_unmarked sp (omega (arith, f)) u (below_at sp.limit (mini_cell_right sp) (sym right ∙ h) u q));
      wrote = c.copy_table.ensures.wrote;
    }
