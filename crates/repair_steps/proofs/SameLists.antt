-- What was listed stays listed in an image of the same length with the same tables.
use Prim.Native.Nat.{ℕ, ◌<◌}
use mathlib.Core.Path.{◌≡◌, refl, sym, ap, ◌∙◌}
use mathlib.Core.List.{List}
use lib.ListN.{length, get_or}
use Rattle.format.specs.Basics.Bytes.{Bytes}
use Rattle.format.specs.Layout.Geometry.{Geometry, sector_count}
use Rattle.format.specs.Layout.Header.{fat_count, difat_count}
use Rattle.format.specs.Layout.Tables.{difat_entry, fat_sectors}
use Rattle.theory.proofs.Below.{get_or_below}
use Rattle.frame.specs.Kept.{Sized}
use Rattle.header.specs.Sized.{ImageSized, F, D}
use Rattle.tables.specs.Listed.{FatListedAt, list_place}
use Rattle.repair_laws.specs.Tables.{SameTables}

pub sized_same : {g : Geometry} {a b : Bytes} → length b ≡ length a → ImageSized g a → ImageSized g b
unfolding sector_count
sized_same e z =
    record { wide = z.wide; narrow = z.narrow; even = z.even; long = rw e z.long; head = rw e z.head; many = rw e z.many; few = rw e z.few; short = rw e z.short }

-- the sizes for which the laws of repairs hold
pub sizes : {g : Geometry} {img : Bytes} → ImageSized g img → Sized g
sizes z = record { wide = z.wide; even = z.even }

module _ {g : Geometry} {a b : Bytes} (k : SameTables g a b) where
  fats : F b ≡ F a
  unfolding fat_count
  fats = k.fats

  difats : D b ≡ D a
  unfolding difat_count
  difats = k.difats

  list_place_lem : list_place b ≡ list_place a
  list_place_lem = rw (k.size, fats, difats)

  entry : (i : ℕ) → i < F a → difat_entry g b i ≡ difat_entry g a i
  unfolding fat_sectors fat_count
  entry i h = sym (get_or_below (F b) (difat_entry g b) i 0 (rw fats h)) ∙ ap (λ l. get_or l i 0) k.fat ∙ get_or_below (F a) (difat_entry g a) i 0 h

  pub listed_same : {w : List ℕ} → FatListedAt g a w (sector_count g a) (list_place a) → FatListedAt g b w (sector_count g b) (list_place b)
  listed_same l =
      record {
        sized = sized_same k.size l.sized;
        count = refl;
        apart = rw (k.sectors, list_place_lem) l.apart;
        room = rw (list_place_lem, fats) l.room;
        covers = rw (k.sectors, fats) l.covers;
        few = rw (k.sectors, fats, difats) l.few;
        fats = λ i h. let q : i < F a = rw (← fats) h in rw (list_place_lem, entry i q) (l.fats i q);
        below = λ i h. let q : i < F a = rw (← fats) h in rw (k.sectors, entry i q) (l.below i q);
      }
