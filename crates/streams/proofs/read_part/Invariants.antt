use borrow.Author.Rules.{rules}
use Prim.Native.Nat.{◌+◌, ◌-◌, ◌%◌, ◌≤◌, ◌<◌}
use mathlib.Core.Path.{◌≡◌}
use native.Mathlib.Nat.{mod-lt}
use native.Mathlib.Omega.{arith}
use lib.ListN.{length}
use Rattle.spaces.proofs.Units.{unit_as}
use Rattle.streams.proofs.Places.{bytes_some, index_listed, index_fits, byte_listed, unit_room_lem}
use Rattle.streams.proofs.Pieces.{Asked, Pieces, piece_long, piece_more, piece_done, pieces_start, pieces_step}
use Rattle.streams.proofs.read_part.Given as goal

abbrev pub invariant-loop-i : goal.invariant-loop-i
invariant-loop-i l = Pieces l.v l.image l.work l.kind l.offset l.initial.out l.out l.i

abbrev pub decreases-loop-i : goal.decreases-loop-i
decreases-loop-i l = length l.initial.out - l.i
