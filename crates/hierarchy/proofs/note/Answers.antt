use Prim.Native.Nat.{◌<◌}
use mathlib.Core.Path.{◌≡◌, refl, sym, ap, ◌∙◌}
use mathlib.Core.Bool.{false}
use native.Mathlib.Omega.{arith}
use lib.Dec.{eqb}
use borrow.Author.Tests.{eqb-false}
use Rattle.directory.specs.Listed.{entries_of, place_of}
use Rattle.nodes.specs.Slots.{entry_of}
use Rattle.tree_walk.specs.Walking.{Paired}
use Rattle.directory.proofs.Places.{placed}
use Rattle.hierarchy.proofs.Batches.{place_low, paired_real}
use Rattle.hierarchy.proofs.note.Goals as goal
use Rattle.hierarchy.proofs.note.Goals.{After-place, After-place-2, Else-is_none}

-- there is a name to compare
there : (c : Else-is_none) → eqb c.args.due.0 0 ≡ false
there c = sym c.is_none.ensures ∙ c.if-is_none.false

high_is : (c : After-place-2) → let p = c.args in c.place-2.result ≡ place_of p.d p.work.now (entry_of p.at.0)
high_is c = let p = c.args in c.place-2.ensures ∙ ap (place_of p.d p.work.now) c.entry-2.ensures

low_is : (c : After-place) → let p = c.args in c.place.result ≡ place_of p.d p.work.now (entry_of p.due.0)
low_is c = let p = c.args in c.place.ensures ∙ ap (place_of p.d p.work.now) c.entry.ensures

some : (c : Else-is_none) → 0 < c.args.due.0
some c = omega (arith, eqb-false c.args.due.0 0 (there c))

pair : (c : Else-is_none) → let p = c.args in Paired (entries_of p.d p.img.now) (entry_of p.due.0) (entry_of p.at.0)
pair c = c.requires.due_paired (some c)

pub place-requires : goal.place-requires
place-requires c = rw c.entry.ensures (placed c.requires.directory_listed _ (pair (goal.at.place-requires c).Else-is_none).first.inside)

pub overflow_cast-low : goal.overflow_cast-low
overflow_cast-low c = omega (arith, low_is (goal.at.overflow_cast-low c).After-place, place_low c.requires.directory_listed _ (pair (goal.at.overflow_cast-low c).Else-is_none).first.inside)

pub entry-requires-2 : goal.entry-requires-2
entry-requires-2 c = paired_real c.requires.directory_listed (pair (goal.at.entry-requires-2 c).Else-is_none) refl

pub place-requires-2 : goal.place-requires-2
place-requires-2 c = rw c.entry-2.ensures (placed c.requires.directory_listed _ (pair (goal.at.place-requires-2 c).Else-is_none).second.inside)

pub overflow_cast-high : goal.overflow_cast-high
overflow_cast-high c = omega (arith, high_is (goal.at.overflow_cast-high c).After-place-2, place_low c.requires.directory_listed _ (pair (goal.at.overflow_cast-high c).Else-is_none).second.inside)
