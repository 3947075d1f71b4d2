-- A property that writing a free cell and writing a black colour keep is one that a repair keeps.
use Prim.Native.Nat.{ℕ, zero, suc, ◌+◌}
use mathlib.Core.Bool.{Bool, true, false, cond}
use mathlib.Core.List.{List, [], ◌∷◌}
use Rattle.format.specs.Basics.Bytes.{Bytes, put_bytes}
use Rattle.format.specs.Layout.Geometry.{Geometry}
use Rattle.format.specs.Layout.Space.{Space}
use Rattle.format.specs.Layout.Entry.{colour_byte, black}
use Rattle.format.specs.Layout.Volume.{Volume, volume}
use Rattle.format.specs.Layout.Chain.{FREE}
use Rattle.format.specs.Rules.Owners.{owned_sectors}
use Rattle.format.specs.Calls.SetLength.{release, put_cell}
use Rattle.format.specs.Calls.RepairSteps.{tables_hold, directory_holds, entries_hold, streams_hold, rest_freed, blacken_entry, blacken_below, blackened, has_colour, unowned_freed_in, unowned_freed, fourth_step, third_step, second_step, repaired}

module _ (P : Bytes → Type 0) (cell : (sp : Space) (img : Bytes) (u : ℕ) → P img → P (put_cell sp img u FREE))
    (colour : (img : Bytes) (i : ℕ) → P img → P (put_bytes img i (black ∷ []))) where
  cond_keeps : (t : Bool) (a b : Bytes) → P a → P b → P (cond t a b)
  cond_keeps true a b p q = p
  cond_keeps false a b p q = q

  release_keeps : (sp : Space) (us : List ℕ) (img : Bytes) → P img → P (release sp us img)
  unfolding release
  release_keeps sp [] img p = p
  release_keeps sp (u ∷ us) img p = release_keeps sp us (put_cell sp img u FREE) (cell sp img u p)

  rest_keeps : (sp : Space) (img : Bytes) → P img → P (rest_freed sp img)
  unfolding rest_freed
  rest_keeps sp img p = release_keeps sp _ img p

  below_keeps : (v : Volume) (n : ℕ) (img : Bytes) → P img → P (blacken_below v n img)
  unfolding blacken_below blacken_entry
  below_keeps v zero img p = p
  below_keeps v (suc n) img p =
      let q = below_keeps v n img p in
      cond_keeps (has_colour (v.directory.entry n)) _ (blacken_below v n img) (colour (blacken_below v n img) (v.entry_place n + colour_byte) q) q

  pub black_keeps : (v : Volume) (img : Bytes) → P img → P (blackened v img)
  unfolding blackened
  black_keeps v img p = below_keeps v v.directory.count img p

  owners_keeps : (v : Volume) (img : Bytes) → P img → P (unowned_freed v img)
  unfolding unowned_freed unowned_freed_in
  owners_keeps v img p = release_keeps v.minis _ (unowned_freed_in v.sectors (owned_sectors v) img) (release_keeps v.sectors _ img p)

  fourth_keeps : (g : Geometry) (img : Bytes) → P img → P (fourth_step g img)
  unfolding fourth_step
  fourth_keeps g img p = cond_keeps (streams_hold g img) (unowned_freed (volume g img) img) img (owners_keeps (volume g img) img p) p

  third_keeps : (g : Geometry) (img : Bytes) → P img → P (third_step g img)
  unfolding third_step
  third_keeps g img p = cond_keeps (entries_hold (volume g img)) _ img (fourth_keeps g (rest_freed (volume g img).minis img) (rest_keeps (volume g img).minis img p)) p

  second_keeps : (g : Geometry) (img : Bytes) → P img → P (second_step g img)
  unfolding second_step
  second_keeps g img p = cond_keeps (directory_holds (volume g img)) _ img (third_keeps g (blackened (volume g img) img) (black_keeps (volume g img) img p)) p

  pub repaired_keeps : (g : Geometry) (img : Bytes) → P img → P (repaired g img)
  unfolding repaired
  repaired_keeps g img p = cond_keeps (tables_hold g img) _ img (second_keeps g (rest_freed (volume g img).sectors img) (rest_keeps (volume g img).sectors img p)) p
