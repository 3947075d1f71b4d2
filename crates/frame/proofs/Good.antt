-- The volume of an accepted image is good: what the groups say of it, as facts.
use Prim.Native.Nat.{ℕ, ◌*◌, ◌/◌, ◌≤◌, ◌<◌}
use mathlib.Core.Path.{◌≡◌, refl}
use mathlib.Core.Bool.{Bool, true, false}
use mathlib.Core.List.{[]}
use native.Mathlib.Nat.{div-le_self, mul-le-mul_right}
use native.Mathlib.Omega.{arith}
use lib.ListN.{length, get_or}
use Rattle.format.specs.Basics.Lists.{count}
use Rattle.format.specs.Basics.Bytes.{Bytes}
use Rattle.format.specs.Layout.Geometry.{Geometry, mini_bytes}
use Rattle.format.specs.Layout.Need.{round_up}
use Rattle.format.specs.Layout.Chain.{END}
use Rattle.format.specs.Layout.Space.{units_for, chain_for}
use Rattle.format.specs.Layout.Tables.{sector_space}
use Rattle.format.specs.Layout.Entry.{is_stream, start}
use Rattle.format.specs.Layout.Volume.{Volume, volume, system_sectors, mini_space, directory, root_size}
use Rattle.format.specs.Layout.Stream.{space_for, stream_units, stream_size}
use Rattle.format.specs.Rules.Streams.{stream_chain, stream_rules, stream_right}
use Rattle.format.specs.Rules.Owners.{owned_sectors, owned_minis, owners_in, owner_rules}
use Rattle.format.specs.Rules.Verdict.{Accepted}
use Rattle.theory.specs.Links.{Linked}
use Rattle.theory.specs.Sums.{owners}
use Rattle.theory.specs.Owned.{Owned}
use Rattle.theory.proofs.Chains.{linked_short, length_units, chain_linked}
use Rattle.theory.proofs.Tests.{both, below_at}
use Rattle.theory.proofs.Below.{length_below, get_or_below}
use Rattle.theory.proofs.RoundUp.{round_enough}
use Rattle.frame.specs.Good.{space_of, system_of, units_of, entry_units, Chain, Good, side_of}
use Rattle.frame.specs.Groups.{ImageGroups}
use Rattle.frame.proofs.Accepted.{accepted_kept}
use Rattle.frame.proofs.OwnerFacts.{units_linked, make_owned, owned_sectors_count, owned_minis_count}
use Rattle.frame.proofs.SystemFacts.{bounded, sector_bytes_lem, sector_limit_lem, directory_chain, directory_long_lem, directory_counted_lem, mini_table_lem, mini_cells_lem, mini_rest_lem, root_size_lem, mini_fat_chain_lem, mini_stream_chain_lem, system_facts}

module _ {g : Geometry} {img : Bytes} (pos : 0 < g.sector_bytes) (ok : ImageGroups g img) where
  abbrev vol : Volume
  vol = volume g img

  abbrev f : ℕ → ℕ
  f = vol.sectors.cell

  abbrev N : ℕ
  N = vol.sectors.limit

  mini_limit_end : vol.minis.limit ≤ END
  unfolding volume sector_space mini_space root_size mini_bytes
  mini_limit_end =
      let c = (mini_stream_chain_lem pos ok) in
      let n = round_up (root_size vol) vol.sectors.unit in
      let a = linked_short f N (sector_limit_lem pos ok) vol.mini_stream c.linked in
      let k : n ≤ N = omega (arith, c.long) in
      let b = mul-le-mul_right vol.sectors.unit k in
      let e = round_enough (root_size vol) vol.sectors.unit (unit_pos) in
      omega (arith, (bounded pos ok), (sector_bytes_lem pos ok), mini_limit_lem, unit_is, div-le_self (root_size vol) 64, unit_bytes_lem)
    where
      unit_pos : 0 < vol.sectors.unit
      unit_pos = pos

      unit_is : vol.sectors.unit ≡ g.sector_bytes
      unit_is = refl

      unit_bytes_lem : N * vol.sectors.unit ≡ N * g.sector_bytes
      unit_bytes_lem = refl

      mini_limit_lem : vol.minis.limit ≡ root_size vol / 64
      mini_limit_lem = refl

  stream_chain_lem : (i : ℕ) → i < vol.directory.count → is_stream (vol.directory.entry i) ≡ true
      → Chain (space_of vol (side_of vol i)) (stream_units vol i) (start (vol.directory.entry i))
      (round_up (stream_size vol i) (space_of vol (side_of vol i)).unit)
  unfolding stream_rules stream_right stream_chain chain_for space_for stream_units units_for stream_size
  stream_chain_lem i hi st =
      let a = below_at vol.directory.count _ ok.volume.chains i hi in
      let sp = space_of vol (side_of vol i) in
      let n = round_up (stream_size vol i) sp.unit in
      let c = chain_linked sp.cell sp.limit n (start (vol.directory.entry i)) (rw st at a) in
      record { linked = c.0; head = c.1; long = length_units sp.cell n (start (vol.directory.entry i)) }

  entry_units_linked : (b : Bool) (i : ℕ) → i < length (entry_units vol b) → Linked (space_of vol b).cell (space_of vol b).limit (get_or (entry_units vol b) i [])
  unfolding entry_units
  entry_units_linked b i h =
      let n = vol.directory.count in
      let k : i < n = omega (arith, length_below n (units_of vol b)) in
      rw (get_or_below n (units_of vol b) i [] k) (units_linked vol b i (λ st. (stream_chain_lem i k st).linked))

  all_owned : (b : Bool) → Owned (space_of vol b).limit (system_of vol b) (space_of vol b).cell (entry_units vol b)
  unfolding owner_rules
  all_owned true =
      make_owned vol.minis [] (entry_units vol true) (owned_minis vol) (owned_minis_count vol)
      (both (owners_in vol.sectors (owned_sectors vol)) (owners_in vol.minis (owned_minis vol)) ok.volume.owners).1 (entry_units_linked true)
      (λ s h. absurd (omega arith))
  all_owned false =
      make_owned vol.sectors (system_sectors vol) (entry_units vol false) (owned_sectors vol) (owned_sectors_count vol)
      (both (owners_in vol.sectors (owned_sectors vol)) (owners_in vol.minis (owned_minis vol)) ok.volume.owners).0 (entry_units_linked false)
      (system_facts pos ok)

  limits : (b : Bool) → (space_of vol b).limit ≤ END
  limits true = mini_limit_end
  limits false = sector_limit_lem pos ok

  unit_sizes : (b : Bool) → 0 < (space_of vol b).unit
  unfolding volume sector_space mini_space mini_bytes
  unit_sizes true = omega arith
  unit_sizes false = pos

  pub groups_good : Good vol
  groups_good =
      record {
        lim = limits;
        unit = unit_sizes;
        cells = ok.volume.cells;
        entries = ok.volume.entries;
        trees = ok.volume.trees;
        directory = directory_chain pos ok;
        directory_long = directory_long_lem pos ok;
        directory_counted = directory_counted_lem pos ok;
        mini_fat = mini_fat_chain_lem pos ok;
        mini_stream = mini_stream_chain_lem pos ok;
        root_size = root_size_lem pos ok;
        mini_table = mini_table_lem pos ok;
        mini_cells = mini_cells_lem pos ok;
        mini_rest = mini_rest_lem pos ok;
        chains = stream_chain_lem;
        owned = all_owned;
      }

pub accepted_good : (g : Geometry) (img : Bytes) → 0 < g.sector_bytes → Accepted g img → Good (volume g img)
accepted_good g img pos acc = groups_good pos (accepted_kept g img acc)
