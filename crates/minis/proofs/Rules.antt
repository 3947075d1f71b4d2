-- The rules of group 16 on cells, by the tests over the cells of the mini FAT.
use Prim.Native.Nat.{ℕ, ◌*◌, ◌<◌}
use mathlib.Core.Path.{◌≡◌, ◌∙◌, ap}
use mathlib.Core.List.{List}
use Rattle.format.specs.Basics.Bytes.{Bytes}
use Rattle.format.specs.Basics.Lists.{all_below}
use Rattle.format.specs.Layout.Geometry.{cells_in}
use Rattle.format.specs.Layout.Chain.{END}
use Rattle.format.specs.Layout.Space.{Space}
use Rattle.format.specs.Layout.Volume.{mini_cells, mini_space}
use Rattle.format.specs.Rules.Mini.{mini_cell_right}
use Rattle.theory.proofs.Tests.{below_ext}
use Rattle.kinds.specs.Sizes.{geometry_of}
use Rattle.cells.specs.Cells.{cell_right}
use Rattle.chains.proofs.Cells.{plain_is}
use Rattle.minis.specs.Listed.{MiniListed, minis_of}
use Rattle.minis.specs.declared.Minis.{Minis}

pub mini_right : (sp : Space) (cell : ℕ → ℕ) {n : ℕ} → n ≡ sp.limit → ((s : ℕ) → cell s < 0x1_0000_0000) → ((s : ℕ) → s < n → cell s ≡ sp.cell s)
    → all_below n (cell_right n END cell) ≡ all_below sp.limit (mini_cell_right sp)
unfolding mini_cell_right
mini_right sp cell {n} z small same =
    below_ext n (mini_cell_right sp) (cell_right n END cell) (λ s h. plain_is sp cell z small s (same s h)) ∙ ap (λ k. all_below k (mini_cell_right sp)) z

-- how many cells there are, by the list
pub cells_are : {t : Minis} {img : Bytes} {w : List ℕ} → MiniListed t img w → cells_in (geometry_of t.geometry) * t.sectors ≡ (minis_of t img).cells
unfolding mini_space mini_cells
cells_are l = rw l.sectors
