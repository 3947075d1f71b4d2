-- The units of a stream of an accepted image.
use mathlib.Core.Path.{◌≡◌, refl, sym, ap, subst, ◌∙◌}
use mathlib.Core.List.{List, []}
use mathlib.Core.Bool.{Bool, true, false, cond, not, ◌||◌}
use Prim.Native.Nat.{ℕ, ◌+◌, ◌*◌, ◌/◌, ◌%◌, ◌<◌}
use native.Mathlib.Nat.{mul-le-mul_left}
use native.Mathlib.Decide.{dec_lt}
use native.Mathlib.Omega.{arith}
use lib.Dec.{ltb}
use lib.ListN.{length, get_or}
use borrow.Author.Tests.{ltb-true}
use Rattle.format.specs.Basics.Lists.{count}
use Rattle.format.specs.Basics.Bytes.{Bytes, part}
use Rattle.format.specs.Layout.Geometry.{Geometry, sector_place, place_in, entries_in, entry_bytes, sector_count}
use Rattle.format.specs.Layout.Need.{cutoff, round_up}
use Rattle.format.specs.Layout.Tables.{fat_cell, sector_space}
use Rattle.format.specs.Layout.Entry.{is_stream}
use Rattle.format.specs.Layout.Directory.{entry_in, entry_place, entry_count}
use Rattle.format.specs.Layout.Volume.{Volume, volume, system_sectors, mini_stream_sectors, directory}
use Rattle.format.specs.Layout.Stream.{space_for, stream_units, stream_size}
use Rattle.theory.specs.Links.{Linked}
use Rattle.theory.proofs.Chains.{linked_short}
use Rattle.theory.proofs.Counts.{count_at}
use Rattle.theory.proofs.OwnerCounts.{owners_at}
use Rattle.frame.specs.Kept.{Sized, Kept, Off}
use Rattle.frame.specs.Edits.{in_sectors, in_minis}
use Rattle.frame.proofs.Kept.{part_body}
use Rattle.frame.proofs.Places.{thing_fits, thing_index}
use Rattle.frame.proofs.Sound.{Sound}
use Rattle.frame.proofs.Parts.{mini_index, minis_in_sector}
use Rattle.frame.specs.Groups.{ImageGroups}
use Rattle.frame.specs.Good.{Good, space_of, entry_units, units_of}
use Rattle.frame.proofs.Good.{groups_good}
use Rattle.theory.proofs.Below.{get_or_below}

or_true : (a b : Bool) → not a || b ≡ true → a ≡ true → b ≡ true
or_true true b h e = h
or_true false b h e = absurd (subst (λ (t : Bool). lib.Dec.T t) (sym e) tt)

-- an entry whose sector was not written
pub kept_entry_in : (g : Geometry) (z : Sized g) (T : List ℕ) (a b : Bytes) → Kept g (Off T) a b → (secs : List ℕ) → ((s : ℕ) → 0 < count s secs → count s T ≡ 0)
    → (i : ℕ) → entry_in g b secs i ≡ entry_in g a secs i
unfolding entry_in entry_place place_in entry_count entries_in entry_bytes
kept_entry_in g z T a b x secs off i = go (ltb i (g.sector_bytes / 128 * length secs)) refl
  where
    S128 : g.sector_bytes ≡ g.sector_bytes / 128 * 128
    S128 = let e = z.even in omega arith

    p : 0 < g.sector_bytes
    p = let e = z.wide in omega arith

    go : (t : Bool) → ltb i (g.sector_bytes / 128 * length secs) ≡ t
        → cond t (part b (sector_place g (get_or secs (128 * i / g.sector_bytes) 0) + 128 * i % g.sector_bytes) 128) []
        ≡ cond t (part a (sector_place g (get_or secs (128 * i / g.sector_bytes) 0) + 128 * i % g.sector_bytes) 128) []
    go true h =
        let k = count_at secs (128 * i / g.sector_bytes) 0 (thing_index g.sector_bytes 128 (g.sector_bytes / 128) S128 p (length secs) i (ltb-true i (g.sector_bytes / 128 * length secs) h)) in
        part_body g (Off T) a b x (get_or secs (128 * i / g.sector_bytes) 0) (128 * i % g.sector_bytes) 128 (thing_fits g.sector_bytes 128 (g.sector_bytes / 128) S128 p i)
        (λ j l. off (get_or secs (128 * i / g.sector_bytes) 0) k)
    go false h = refl

-- which space a length lies in
pub space_large : (v : Volume) (n : ℕ) → ltb n cutoff ≡ false → space_for v n ≡ v.sectors
unfolding space_for
space_large v n h = rw h

pub space_small : (v : Volume) (n : ℕ) → ltb n cutoff ≡ true → space_for v n ≡ v.minis
unfolding space_for
space_small v n h = rw h

pub in_sectors_large : (n : ℕ) (us : List ℕ) → ltb n cutoff ≡ false → in_sectors n us ≡ us
unfolding in_sectors
in_sectors_large n us h = rw h

pub in_sectors_small : (n : ℕ) (us : List ℕ) → ltb n cutoff ≡ true → in_sectors n us ≡ []
unfolding in_sectors
in_sectors_small n us h = rw h

pub in_minis_large : (n : ℕ) (us : List ℕ) → ltb n cutoff ≡ false → in_minis n us ≡ []
unfolding in_minis
in_minis_large n us h = rw h

pub in_minis_small : (n : ℕ) (us : List ℕ) → ltb n cutoff ≡ true → in_minis n us ≡ us
unfolding in_minis
in_minis_small n us h = rw h

module _ (g : Geometry) (z : Sized g) (img : Bytes) (G : ImageGroups g img) (e : ℕ)
    (inside : e < (volume g img).directory.count) (stream : is_stream ((volume g img).directory.entry e) ≡ true) where
  good : Good (volume g img)
  good = groups_good (let w = z.wide in omega arith) G

  pub stream_units_long : length (stream_units (volume g img) e) ≡ round_up (stream_size (volume g img) e) (space_for (volume g img) (stream_size (volume g img) e)).unit
  unfolding space_for
  stream_units_long = (good.chains e inside stream).long

  pub stream_in_sectors : ltb (stream_size (volume g img) e) cutoff ≡ false → Linked (fat_cell g img) (sector_count g img) (stream_units (volume g img) e)
  unfolding volume sector_space
  stream_in_sectors h =
      subst (λ (b : Bool). Linked (space_of (volume g img) b).cell (space_of (volume g img) b).limit (stream_units (volume g img) e)) h
      (good.chains e inside stream).linked

  pub stream_in_minis : ltb (stream_size (volume g img) e) cutoff ≡ true → Linked (volume g img).minis.cell (volume g img).minis.limit (stream_units (volume g img) e)
  stream_in_minis h =
      subst (λ (b : Bool). Linked (space_of (volume g img) b).cell (space_of (volume g img) b).limit (stream_units (volume g img) e)) h
      (good.chains e inside stream).linked

  entry_units_are : ltb (stream_size (volume g img) e) cutoff ≡ false → get_or (entry_units (volume g img) false) e [] ≡ stream_units (volume g img) e
  unfolding entry_units units_of
  entry_units_are h = get_or_below (volume g img).directory.count (units_of (volume g img) false) e [] inside ∙ rw (stream, h)

  -- a stream's sectors are none of the system's
  pub stream_apart : ltb (stream_size (volume g img) e) cutoff ≡ false → (s : ℕ) → 0 < count s (stream_units (volume g img) e) → count s (system_sectors (volume g img)) ≡ 0
  stream_apart h s q =
      omega (arith, q, (good.owned false).single s, owners_at s e (entry_units (volume g img) false), ap (count s) (entry_units_are h))

mini_stream_lem : (g : Geometry) (z : Sized g) (img : Bytes) → ImageGroups g img → Linked (fat_cell g img) (sector_count g img) (mini_stream_sectors g img)
unfolding volume sector_space
mini_stream_lem g z img G = (groups_good (let w = z.wide in omega arith) G).mini_stream.linked

-- sectors are few, and so are mini sectors
pub mini_few : (g : Geometry) (z : Sized g) (img : Bytes) → ImageGroups g img → Sound g img → (volume g img).minis.limit < 0x100_0000
mini_few g z img G A =
    let N = sector_count g img in
    let l = mini_stream_sectors g img in
    let few = A.few in
    let a = linked_short (fat_cell g img) N (omega arith) l (mini_stream_lem g z img G) in
    let b = mul-le-mul_left (g.sector_bytes / 64) a in
    let c : g.sector_bytes * N ≡ g.sector_bytes / 64 * N * 64 = omega (arith, ap (λ (n : ℕ). n * N) (minis_in_sector g z img A)) in
    elim (dec_lt (volume g img).minis.limit 0x100_0000) [
      | yes p ↦ p
      | no p ↦
          let q = mini_index g z img A 0xFF_FFFF (omega arith) in
          absurd (omega (arith, q, b, c, A.long, A.short))
    ]
