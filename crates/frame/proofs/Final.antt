-- The frame laws that the history uses, whole: for every sector size that is a multiple of 128 and at least 512, and so for versions 3 and 4.
use mathlib.Core.Path.{refl, sym, subst}
use mathlib.Core.Logic.{inl, inr}
use native.Mathlib.Omega.{arith}
use lib.ListN.{length}
use Rattle.format.specs.Basics.Bytes.{Bytes}
use Rattle.format.specs.Layout.Geometry.{Geometry, version3, version4}
use Rattle.format.specs.Layout.Volume.{volume}
use Rattle.format.specs.Rules.Version.{version_of}
use Rattle.frame.specs.Kept.{Sized}
use Rattle.frame.specs.Frame.{Frame}
use Rattle.frame.proofs.Blocks.{block_length}
use Rattle.frame.proofs.Sound.{sound_of}
use Rattle.frame.proofs.Parts.{sector_units, mini_units}
use Rattle.frame.proofs.Writing.{writing}
use Rattle.frame.proofs.Resizing.{resizing}
use Rattle.frame.proofs.Accepted.{accepted_kept}
use Rattle.frame.proofs.Versions.{version_cases}
use Rattle.frame.proofs.Redrawing.{entry_long_lem, entries_few_lem}
use Rattle.frame.proofs.Adding.{adding}
use Rattle.frame.proofs.Erasing.{erasing}

pub frame : (g : Geometry) → Sized g → Frame g
frame g z =
    record {
      sector_sized = λ img h u l. block_length (volume g img).sectors (length img) (sector_units g z img (sound_of g z img (accepted_kept g img h))) img refl u l;
      mini_sized = λ img h u l. block_length (volume g img).minis (length img) (mini_units g z img (sound_of g z img (accepted_kept g img h))) img refl u l;
      resizing = λ img e new m. resizing g z img e new m;
      writing = λ img e offset bytes m. writing g z img e offset bytes m;
      entry_long = entry_long_lem g z;
      entries_few = entries_few_lem g z;
      adding = λ img made n h x m. adding g z img made n h x m;
      erasing = λ img s t x m. erasing g z img s t x m;
    }

pub sized3 : Sized version3
unfolding version3
sized3 = record { wide = omega arith; even = refl }

pub sized4 : Sized version4
unfolding version4
sized4 = record { wide = omega arith; even = refl }

-- an image's own version
pub own_sized : (img : Bytes) → Sized (version_of img)
own_sized img =
    elim (version_cases img) [
      | inl e ↦ subst (λ (g : Geometry). Sized g) (sym e) sized3
      | inr e ↦ subst (λ (g : Geometry). Sized g) (sym e) sized4
    ]
