use mathlib.Core.Path.{refl, sym, ◌∙◌, ap}
use native.Mathlib.Omega.{arith}
use Rattle.format.specs.Layout.Entry.{size}
use Rattle.format.specs.Layout.Directory.{directory_of, size_of}
use Rattle.format.specs.Layout.Volume.{directory}
use Rattle.entries.specs.Entry.{entry_at}
use Rattle.directory.proofs.Places.{placed, place_inside, entry_is}
use Rattle.queries.proofs.find.object_at.Goals as goal

pub place-p-requires : goal.place-p-requires
unfolding size_of directory directory_of
place-p-requires c = placed c.requires.directory_listed _ c.requires.x_bound

pub entry_type-requires : goal.entry_type-requires
unfolding size_of directory directory_of
entry_type-requires c = omega (arith, c.place-p.ensures, place_inside c.requires.directory_listed _ c.requires.x_bound)

pub size-requires : goal.size-requires
unfolding size_of directory directory_of
size-requires c = omega (arith, c.place-p.ensures, place_inside c.requires.directory_listed _ c.requires.x_bound)

pub returns : goal.returns
unfolding size_of directory directory_of
returns c = let e = entry_is c.requires.directory_listed _ c.requires.x_bound in record { id_value = refl; entry_type_value = rw (c.entry_type.ensures, c.place-p.ensures, e); size_value = c.size.ensures ∙ ap (size _) (ap (entry_at _) c.place-p.ensures ∙ sym e) }
