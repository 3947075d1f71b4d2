-- No stream of an accepted image is longer than an image may be, and no directory has more entries.
use Prim.Native.Nat.{ℕ, ◌*◌, ◌≤◌, ◌<◌}
use mathlib.Core.Path.{◌≡◌, refl}
use mathlib.Core.Bool.{Bool, true, false}
use mathlib.Core.List.{List}
use native.Mathlib.Nat.{div-le_self, mul-le-mul_right}
use native.Mathlib.Omega.{arith}
use lib.Dec.{ltb}
use lib.ListN.{length}
use borrow.Author.Tests.{ltb-true}
use Rattle.format.specs.Basics.Bytes.{Bytes}
use Rattle.format.specs.Layout.Geometry.{Geometry, entry_bytes, entries_in, sector_count}
use Rattle.format.specs.Layout.Need.{cutoff, round_up}
use Rattle.format.specs.Layout.Entry.{is_stream, start}
use Rattle.format.specs.Layout.Directory.{directory_of, entry_count}
use Rattle.format.specs.Layout.Tables.{sector_space}
use Rattle.format.specs.Layout.Volume.{Volume, volume, directory}
use Rattle.format.specs.Layout.Stream.{stream_size, stream_units}
use Rattle.format.specs.Rules.Verdict.{Accepted}
use Rattle.theory.proofs.RoundUp.{round_enough}
use Rattle.theory.proofs.Chains.{linked_short}
use Rattle.frame.specs.Kept.{Sized}
use Rattle.frame.specs.Good.{Good, Chain, space_of}
use Rattle.frame.proofs.Accepted.{accepted_kept}
use Rattle.frame.proofs.Lengths.{allowed_short, allowed_long}
use Rattle.frame.proofs.Good.{accepted_good}

module _ (g : Geometry) (z : Sized g) (img : Bytes) (acc : Accepted g img) where
  abbrev v : Volume
  v = volume g img

  abbrev d : ℕ
  d = g.sector_bytes

  pos : 0 < d
  pos = let w = z.wide in omega arith

  good : Good v
  good = accepted_good g img pos acc

  -- what all sectors together hold
  bytes_few : sector_count g img * d ≤ 0x400_0000
  bytes_few = let k = (accepted_kept g img acc).allowed in omega (arith, allowed_long g img k z, allowed_short g img k)

  chain_few : (us : List ℕ) (s n : ℕ) → Chain v.sectors us s n → n ≤ sector_count g img
  unfolding volume sector_space
  chain_few us s n c = omega (arith, c.long, linked_short v.sectors.cell v.sectors.limit (good.lim false) us c.linked)

  in_sectors_lem : (us : List ℕ) (n s : ℕ) → Chain v.sectors us s (round_up n v.sectors.unit) → n ≤ 0x400_0000
  unfolding volume sector_space
  in_sectors_lem us n s c = omega (arith, round_enough n d pos, mul-le-mul_right d (chain_few us s (round_up n d) c), bytes_few)

  pub stream_short : (i : ℕ) → i < v.directory.count → is_stream (v.directory.entry i) ≡ true → stream_size v i ≤ 0x400_0000
  unfolding cutoff
  stream_short i inside s = go (ltb (stream_size v i) cutoff) refl (good.chains i inside s)
    where
      go : (t : Bool) → ltb (stream_size v i) cutoff ≡ t → Chain (space_of v t) (stream_units v i) (start (v.directory.entry i)) (round_up (stream_size v i) (space_of v t).unit)
          → stream_size v i ≤ 0x400_0000
      go true e c = omega (arith, ltb-true (stream_size v i) cutoff e)
      go false e c = in_sectors_lem (stream_units v i) (stream_size v i) (start (v.directory.entry i)) c

  pub entries_short : v.directory.count ≤ 0x400_0000
  unfolding volume directory directory_of entry_count entries_in entry_bytes
  entries_short =
      let n = length v.directory_sectors in
      let few = chain_few v.directory_sectors v.directory_start n good.directory in
      omega (arith, mul-le-mul_right n (div-le_self d 128), mul-le-mul_right d few, bytes_few)
