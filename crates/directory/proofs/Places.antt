-- Where entries stand: inside the image, at the place that the list gives.
use Prim.Native.Nat.{ℕ, ◌+◌, ◌*◌, ◌/◌, ◌%◌, ◌≤◌, ◌<◌}
use mathlib.Core.Path.{◌≡◌, sym, ◌∙◌, ap}
use mathlib.Core.List.{List}
use mathlib.Core.Logic.{inr}
use native.Mathlib.Nat.{mod-lt, mul-le-mul_left, mul-le-mul_right, mul_comm, mul_assoc, add-mul}
use native.Mathlib.Omega.{arith}
use lib.ListN.{length}
use borrow.Author.Tests.{lt-ltb}
use Rattle.format.specs.Basics.Bytes.{Bytes, part}
use Rattle.format.specs.Layout.Geometry.{Geometry, sector_count, place_in, entries_in, entry_bytes}
use Rattle.format.specs.Layout.Directory.{entry_place, entry_count, entry_in, directory_of}
use Rattle.format.specs.Layout.Volume.{directory_sectors_of, directory}
use Rattle.kinds.specs.Sizes.{geometry_of}
use Rattle.theory.proofs.Scale.{scale_div, scale_mod, scale_below}
use Rattle.header.specs.Sized.{ImageSized}
use Rattle.tables.specs.Work.{Wrote}
use Rattle.tables.proofs.Places.{sector_inside}
use Rattle.entries.specs.Entry.{entry_at, NamedAt}
use Rattle.directory.specs.Listed.{entries_of, count_of, place_of, Placed, DirectoryListed, NamedIn}
use Rattle.directory.specs.declared.Directory.{Directory as Where}

module _ {g : Geometry} {img : Bytes} (z : ImageSized g img) where
  pub per_bytes : 128 * entries_in g ≡ g.sector_bytes
  unfolding entries_in entry_bytes
  per_bytes = let e = z.even in omega arith

  pub per_some : 4 ≤ entries_in g
  per_some = omega (arith, per_bytes, z.wide)

  pub per_few : entries_in g ≤ 32
  per_few = omega (arith, per_bytes, z.narrow)

  -- fewer than four entries for each 512 bytes
  pub entries_few_lem : (n : ℕ) → n ≤ sector_count g img → entries_in g * n < 4 * (length img / 512)
  entries_few_lem n b =
      let c : 128 * (entries_in g * n) ≡ g.sector_bytes * n = sym (mul_assoc 128 (entries_in g) n) ∙ ap (λ w. w * n) per_bytes in
      let d = mul-le-mul_left g.sector_bytes b in
      let e = mul_comm g.sector_bytes (sector_count g img) in
      let f = z.long ∙ add-mul (sector_count g img) 1 g.sector_bytes in
      omega (arith, c, d, e, f, z.wide)

-- how many entries a sector holds, where only the list is known
module _ {d : Where} {work : List ℕ} {x : ℕ} (p : Placed d work x) where
  pub placed_some : 4 ≤ entries_in (geometry_of d.geometry)
  unfolding entries_in entry_bytes
  placed_some = let w = p.wide in omega arith

  pub placed_few : entries_in (geometry_of d.geometry) ≤ 32
  unfolding entries_in entry_bytes
  placed_few = let w = p.narrow in omega arith

module _ {d : Where} {img : Bytes} {work : List ℕ} (l : DirectoryListed d img work) where
  abbrev g : Geometry
  g = geometry_of d.geometry

  pub count_is : (entries_of d img).count ≡ count_of d
  unfolding directory directory_of entry_count
  count_is = ap (λ n. entries_in g * n) (sym l.count)

  pub count_few : count_of d < 0x2000_0000
  count_few = omega (arith, mul-le-mul_right d.sectors (per_few l.sized), l.few, l.sized.few)

  pub count_most : count_of d ≤ 4 * (length img / 512)
  count_most = omega (arith, entries_few_lem l.sized d.sectors l.few)

  -- the number of an entry, and one more, has 19 bits
  pub count_short : count_of d < 0x8_0000
  count_short = omega (arith, entries_few_lem l.sized d.sectors l.few, l.sized.short)

  -- what `count` asks
  pub countable : (d.geometry.bytes ≤ 4096) × (d.sectors < 0x1_0000_0000)
  countable = (l.sized.narrow, omega (arith, l.few, l.sized.few))

  -- there is a root
  pub root_inside : 0 < (entries_of d img).count
  root_inside = omega (arith, count_is, mul-le-mul_right d.sectors (per_some l.sized), l.some)

  module _ (x : ℕ) (h : x < (entries_of d img).count) where
    inside : x / entries_in g < d.sectors
    inside = let s = per_some l.sized in scale_below (entries_in g) d.sectors x (omega arith) (omega (arith, count_is))

    pub placed : Placed d work x
    placed = record { wide = l.sized.wide; narrow = l.sized.narrow; room = l.room; inside = inside }

    pub place_inside : place_of d work x + 128 ≤ length img
    place_inside =
        let s = per_some l.sized in
        let m : x % entries_in g < entries_in g = mod-lt x (omega arith) in
        rw (l.here _ inside) (omega (arith, sector_inside l.sized _ (l.below _ inside), per_bytes l.sized, m))

    pub place_is : entry_place g (directory_sectors_of g img) x ≡ place_of d work x
    unfolding entry_place place_in entry_bytes
    place_is = rw (scale_div 128 (entries_in g) (per_bytes l.sized) (omega arith) x, scale_mod 128 (entries_in g) (per_bytes l.sized) (omega arith) x, l.here _ inside)

    pub entry_is : (entries_of d img).entry x ≡ entry_at img (place_of d work x)
    unfolding directory directory_of entry_in entry_count entry_bytes
    entry_is = rw (lt-ltb x (entries_in g * length (directory_sectors_of g img)) h) (ap (λ p. part img p 128) place_is)

    -- a name that can be read
    pub named_at : NamedIn (entries_of d img) x → (p : ℕ) → p ≡ place_of d work x → NamedAt img p
    named_at n p e = rw e (record { whole = place_inside; named = rw (← entry_is) n.named })

-- the directory's list stays where only what stands before it changes
pub directory_kept : {d : Where} {img : Bytes} {w w' : List ℕ} {at m : ℕ} → DirectoryListed d img w → Wrote w w' at m → at + m ≤ d.list → DirectoryListed d img w'
directory_kept l r k =
    record {
      sized = l.sized;
      count = l.count;
      some = l.some;
      few = l.few;
      room = omega (arith, l.room, r.long);
      here = λ j h. r.outside _ (inr (omega (arith, k))) ∙ l.here j h;
      below = l.below;
    }
