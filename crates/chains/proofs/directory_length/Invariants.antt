use Rattle.format.specs.Layout.Geometry.{sector_count}
use Rattle.format.specs.Layout.Tables.{fat_cell}
use Rattle.kinds.specs.Sizes.{geometry_of}
use Rattle.chains.proofs.Groups.{Following}
use Rattle.chains.proofs.directory_length.Given as goal

abbrev pub invariant-loop-k : goal.invariant-loop-k
invariant-loop-k l = Following (fat_cell (geometry_of l.g) l.img) (sector_count (geometry_of l.g) l.img) l.initial.s.0 l.k l.s.0
