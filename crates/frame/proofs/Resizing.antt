-- A change of length: in sectors or in mini sectors.
use mathlib.Core.Path.{◌≡◌, refl, sym, subst}
use mathlib.Core.List.{List}
use mathlib.Core.Bool.{Bool, true, false}
use Prim.Native.Nat.{ℕ, max}
use lib.Dec.{ltb}
use Rattle.format.specs.Basics.Bytes.{Bytes}
use Rattle.format.specs.Layout.Geometry.{Geometry}
use Rattle.format.specs.Layout.Need.{cutoff}
use Rattle.format.specs.Layout.Space.{Space}
use Rattle.format.specs.Layout.Volume.{Volume, volume, directory_sectors_of}
use Rattle.format.specs.Layout.Stream.{stream_units, stream_size}
use Rattle.format.specs.Calls.SetLength.{edit_space, new_units, resized}
use Rattle.frame.specs.Kept.{Sized}
use Rattle.frame.specs.Edits.{MayResize, IsResized}
use Rattle.frame.proofs.Edited.{with_entry}
use Rattle.frame.proofs.Change.{resized_is}
use Rattle.frame.proofs.SectorChange.{space_is_sectors, in_sectors_lem}
use Rattle.frame.proofs.MiniChange.{space_is_minis, in_minis_lem}

module _ (g : Geometry) (z : Sized g) (img : Bytes) (e new : ℕ) (m : MayResize g img e new) where
  abbrev v : Volume
  v = volume g img

  abbrev n : ℕ
  n = stream_size (volume g img) e

  abbrev M : ℕ
  M = max (stream_size (volume g img) e) new

  abbrev us : List ℕ
  us = stream_units (volume g img) e

  abbrev ws : List ℕ
  ws = new_units (volume g img) e new

  abbrev dirs : List ℕ
  dirs = directory_sectors_of g img

  pub resizing : IsResized g img e new (max (stream_size (volume g img) e) new) (resized (volume g img) img e new)
  resizing = subst (λ (w : Bytes). IsResized g img e new M w) (sym (resized_is g z img e new m)) (go (ltb M cutoff) refl)
    where
      go : (t : Bool) → ltb M cutoff ≡ t → IsResized g img e new M (with_entry g dirs (edit_space v e new) img us ws n new e)
      go true h = subst (λ (sp : Space). IsResized g img e new M (with_entry g dirs sp img us ws n new e)) (sym (space_is_minis g z img e new m h)) (in_minis_lem g z img e new m h)
      go false h = subst (λ (sp : Space). IsResized g img e new M (with_entry g dirs sp img us ws n new e)) (sym (space_is_sectors g z img e new m h)) (in_sectors_lem g z img e new m h)
