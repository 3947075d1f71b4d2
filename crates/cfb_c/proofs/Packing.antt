-- A volume written as numbers, and read again.
use Prim.Native.Nat.{ℕ}
use mathlib.Core.Path.{◌≡◌, sym, ◌∙◌, ap}
use mathlib.Core.Logic.{◌⊎◌, inl, inr}
use mathlib.Core.List.{List, [], ◌∷◌}
use Rattle.format.specs.Basics.Bytes.{Bytes}
use Rattle.format.specs.Layout.Geometry.{Geometry, version3, version4}
use Rattle.format.specs.Rules.Version.{version_of}
use Rattle.kinds.specs.declared.Geometry.{Geometry as Sizes}
use Rattle.kinds.specs.Sizes.{geometry_of}
use Rattle.frame.proofs.Versions.{version_cases}
use Rattle.volume.specs.declared.Volume.{Volume}
use Rattle.opened.specs.OpenVolume.{OpenVolume}
use Rattle.cfb_c.specs.Packed.{sizes_for, Known, unpacked}

-- an opened volume's sizes are those of its version
sizes_are : (g : Geometry) → (g ≡ version3) ⊎ (g ≡ version4) → (s : Sizes) → geometry_of s ≡ g → s ≡ sizes_for s.major
unfolding version3 version4
sizes_are g (inl h) s e =
    let k : s ≡ sizes_for 3 = ap (λ (x : Geometry). record { major = x.major; shift = x.shift; bytes = x.sector_bytes }) (e ∙ h) in
    k ∙ ap (λ (x : Sizes). sizes_for x.major) (sym k)
sizes_are g (inr h) s e =
    let k : s ≡ sizes_for 4 = ap (λ (x : Geometry). record { major = x.major; shift = x.shift; bytes = x.sector_bytes }) (e ∙ h) in
    k ∙ ap (λ (x : Sizes). sizes_for x.major) (sym k)

pub opened_sizes : {v : Volume} {img : Bytes} {w : List ℕ} → OpenVolume v img w → Known v
opened_sizes {v} {img} s =
    record {
      version = sizes_are (version_of img) (version_cases img) v.tables.geometry s.version;
      directory = s.opened.ready.lists.mini.same;
      minis = s.opened.ready.lists.same;
    }

pub packed : (v : Volume) → Known v
    → unpacked (v.tables.geometry.major ∷ v.tables.sectors ∷ v.tables.list ∷ v.directory.sectors ∷ v.directory.list ∷ v.minis.units ∷ v.minis.sectors ∷ v.minis.list ∷ v.stream ∷ []) ≡ v
packed v k = rw (k.directory, k.minis, ← k.version)
