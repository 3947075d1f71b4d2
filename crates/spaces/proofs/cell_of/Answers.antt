use borrow.Author.Rules.{rules}
use mathlib.Core.Path.{◌∙◌, ap}
use Rattle.format.specs.Layout.Tables.{sector_space}
use Rattle.format.specs.Layout.Volume.{volume}
use Rattle.spaces.specs.declared.Kind.TheVariants.{Sectors, Minis}
use Rattle.spaces.specs.Units.{unit_of}
use Rattle.spaces.proofs.Stands.{sector_cell, mini_cell_lem, minis_same}
use Rattle.spaces.proofs.cell_of.Goals as goal

pub cell_at-requires : goal.cell_at-requires
unfolding volume sector_space
cell_at-requires c = record { fat_listed = c.requires.readied.lists.mini.fat; s_bound = sector_cell c.requires.readied _ (rw c.in-Sector.is at c.requires.u_bound) }

pub mini_cell-requires : goal.mini_cell-requires
unfolding volume sector_space
mini_cell-requires c = record { mini_listed = c.requires.readied.lists.minis; m_bound = mini_cell_lem c.requires.readied _ (rw c.in-Mini.is at c.requires.u_bound) }

pub returns-in-Sector : goal.returns-in-Sector
unfolding volume sector_space
returns-in-Sector c = rw c.in-Sector.is (ap (unit_of Sectors) c.cell_at.ensures)

pub returns-in-Mini : goal.returns-in-Mini
unfolding volume sector_space
returns-in-Mini c = rw c.in-Mini.is (ap (unit_of Minis) (c.mini_cell.ensures ∙ ap (λ sp. sp.cell c.in-Mini.m.0) (minis_same c.requires.readied)))
