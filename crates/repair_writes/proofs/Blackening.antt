-- Entries that become black one after the other. The directory's sectors are those of a chain, so no two entries share a byte.
use Prim.Native.Nat.{ℕ, ◌+◌, ◌≤◌, ◌<◌}
use mathlib.Core.Path.{◌≡◌, refl, sym, ap, ◌∙◌}
use mathlib.Core.Bool.{Bool, true, false, cond}
use mathlib.Core.List.{List, [], ◌∷◌}
use native.Mathlib.Numerals.{add-one}
use native.Mathlib.Omega.{arith}
use lib.ListN.{length}
use lib.Seq.{length-sets}
use borrow.Author.Tests.{lt-ltb}
use Rattle.format.specs.Basics.Bytes.{Bytes, part, put_bytes}
use Rattle.format.specs.Layout.Geometry.{Geometry, sector_count, entry_bytes}
use Rattle.format.specs.Layout.Entry.{colour_byte, black}
use Rattle.format.specs.Layout.Tables.{fat_cell}
use Rattle.format.specs.Layout.Directory.{entry_place, entry_count, entry_in}
use Rattle.format.specs.Layout.Volume.{Volume, volume, directory_sectors_of}
use Rattle.format.specs.Rules.Directory.{directory_rules}
use Rattle.format.specs.Calls.RepairSteps.{has_colour, blacken_entry, blacken_below, blackened}
use Rattle.theory.proofs.Chains.{linked_below, linked_once}
use Rattle.frame.specs.Kept.{Sized, Table}
use Rattle.frame.proofs.Parts.{entry_is, entry_count_is}
use Rattle.frame.proofs.EntryPuts.{put_other}
use Rattle.frame.proofs.Redrawing.{entry_place_is}
use Rattle.kinds.specs.Sizes.{geometry_of}
use Rattle.tables.proofs.Places.{sector_inside}
use Rattle.entries.specs.Entry.{entry_at}
use Rattle.directory.specs.Listed.{count_of, place_of, DirectoryListed}
use Rattle.directory.specs.declared.Directory.{Directory as Where}
use Rattle.directory.proofs.Sectors.{directory_linked}
use Rattle.directory.proofs.Places.{count_is, place_is}

-- the entries below x are done; the others read as before
pub record Blackening (d : Where) (img₀ img : Bytes) (x : ℕ) : Type 0 where
  pub within : x ≤ count_of d
  pub long : length img ≡ length img₀
  pub done : img ≡ blacken_below (volume (geometry_of d.geometry) img₀) x img₀
  pub later : (i : ℕ) → x ≤ i
      → entry_in (geometry_of d.geometry) img (directory_sectors_of (geometry_of d.geometry) img₀) i
      ≡ entry_in (geometry_of d.geometry) img₀ (directory_sectors_of (geometry_of d.geometry) img₀) i

module _ {d : Where} {img₀ : Bytes} {work : List ℕ} (l : DirectoryListed d img₀ work) where
  abbrev g : Geometry
  g = geometry_of d.geometry

  abbrev v : Volume
  v = volume (geometry_of d.geometry) img₀

  abbrev dirs : List ℕ
  dirs = directory_sectors_of (geometry_of d.geometry) img₀

  sized : Sized g
  sized = record { wide = l.sized.wide; even = l.sized.even }

  many : v.directory.count ≡ count_of d
  unfolding volume
  many = count_is l

  -- an entry's bytes in any image whose directory stands where it stands here
  entry_here : (img : Bytes) (x : ℕ) → x < count_of d → entry_in g img dirs x ≡ entry_at img (place_of d work x)
  unfolding entry_in entry_bytes
  entry_here img x h =
      rw (lt-ltb x (entry_count g dirs) (omega (arith, many, entry_count_is g img₀))) (ap (λ p. part img p 128) (place_is l x (omega (arith, count_is l))))

  pub black_start : Blackening d img₀ img₀ 0
  unfolding blacken_below
  black_start = record { within = omega arith; long = refl; done = refl; later = λ i h. refl }

  module _ {img : Bytes} {x : ℕ} (a : Blackening d img₀ img x) where
    pub black_end : count_of d ≤ x → img ≡ blackened v img₀
    unfolding blackened
    black_end h = let w = a.within in let e : x ≡ v.directory.count = omega (arith, many) in rw e at a.done

    module _ (h : x < count_of d) where
      -- the test on the entry as it is now
      asked : has_colour (entry_at img (place_of d work x)) ≡ has_colour (v.directory.entry x)
      asked = ap has_colour (sym (entry_here img x h) ∙ a.later x (omega arith) ∙ sym (entry_is g img₀ x))

      placed : v.entry_place x ≡ place_of d work x
      placed = entry_place_is g img₀ x ∙ place_is l x (omega (arith, count_is l))

      next_is : (t : Bool) → has_colour (entry_at img (place_of d work x)) ≡ t
          → blacken_below v (x + 1) img₀ ≡ cond t (put_bytes img (place_of d work x + colour_byte) (black ∷ [])) img
      unfolding blacken_below blacken_entry
      next_is t q = rw (add-one, ← asked, q, placed, ← a.done)

      pub black_left : has_colour (entry_at img (place_of d work x)) ≡ false → Blackening d img₀ img (x + 1)
      black_left q =
          record { within = omega arith; long = a.long; done = sym (next_is false q); later = λ i k. a.later i (omega arith) }

      module _ (r : directory_rules (volume (geometry_of d.geometry) img₀) ≡ true) where
        table : Table g (length img₀) dirs
        table =
            let k = directory_linked g img₀ r in
            record {
              once = linked_once (fat_cell g img₀) (sector_count g img₀) (omega (arith, l.sized.few)) dirs k;
              room = λ s q. sector_inside l.sized s (linked_below (fat_cell g img₀) (sector_count g img₀) dirs k s q);
            }

        pub black_put : has_colour (entry_at img (place_of d work x)) ≡ true → (next : Bytes) → next ≡ put_bytes img (place_of d work x + colour_byte) (black ∷ [])
            → Blackening d img₀ next (x + 1)
        unfolding put_bytes
        black_put q next e =
            record {
              within = omega arith;
              long = ap length e ∙ length-sets img (place_of d work x + colour_byte) (black ∷ []) ∙ a.long;
              done = e ∙ sym (next_is true q);
              later = λ i k.
                  ap (λ (b : Bytes). entry_in g b dirs i) (e ∙ ap (λ p. put_bytes img (p + colour_byte) (black ∷ [])) (sym (place_is l x (omega (arith, count_is l)))))
                  ∙ put_other g sized (length img₀) dirs table img x colour_byte (black ∷ []) (omega (arith, many, entry_count_is g img₀)) (omega arith) i (omega arith)
                  ∙ a.later i (omega arith);
            }
