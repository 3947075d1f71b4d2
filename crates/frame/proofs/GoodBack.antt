-- A volume of which the facts hold passes groups 12 to 18.
use Prim.Native.Nat.{ℕ, ◌%◌}
use mathlib.Core.Path.{◌≡◌, refl}
use mathlib.Core.Bool.{Bool, true, false, not, ◌||◌}
use mathlib.Core.List.{List, []}
use lib.Dec.{eqb, leb}
use lib.ListN.{length}
use Rattle.format.specs.Basics.Lists.{all_below, count}
use Rattle.format.specs.Layout.Geometry.{mini_bytes}
use Rattle.format.specs.Layout.Need.{round_up}
use Rattle.format.specs.Layout.Chain.{chain}
use Rattle.format.specs.Layout.Space.{Space, chain_for}
use Rattle.format.specs.Layout.Entry.{is_stream, start}
use Rattle.format.specs.Layout.Directory.{directory_sectors}
use Rattle.format.specs.Layout.Volume.{Volume, system_sectors, directory, root_size}
use Rattle.format.specs.Layout.Stream.{space_for, stream_units, stream_size}
use Rattle.format.specs.Rules.Directory.{some_chain, directory_rules, count_right}
use Rattle.format.specs.Rules.Mini.{mini_rules, mini_fat_chain, mini_stream_chain, mini_cell_right}
use Rattle.format.specs.Rules.Streams.{stream_chain, stream_rules, stream_right}
use Rattle.format.specs.Rules.Owners.{owned_sectors, owned_minis, owners_in, owner_rules}
use Rattle.theory.specs.Sums.{owners}
use Rattle.theory.proofs.Chains.{linked_chain}
use Rattle.theory.proofs.Tests.{and_true_of, below_of}
use Rattle.frame.specs.Good.{space_of, entry_units, Chain, Good, side_of}
use Rattle.frame.specs.Groups.{VolumeGroups}
use Rattle.frame.proofs.OwnerFacts.{owned_owners, owned_sectors_count, owned_minis_count}

chain_of : (sp : Space) (us : List ℕ) (s n : ℕ) → Chain sp us s n → chain sp.cell sp.limit n s ≡ true
chain_of sp us s n c = (linked_chain sp.cell sp.limit n s us c.linked c.long c.head).0

mini_chains : (v : Volume) → Good v → (mini_fat_chain v ≡ true) × (mini_stream_chain v ≡ true)
unfolding mini_fat_chain mini_stream_chain chain_for
mini_chains v h = (
  chain_of v.sectors _ _ _ h.mini_fat,
  and_true_of (eqb (root_size v % mini_bytes) 0) _ h.root_size (chain_of v.sectors _ _ _ h.mini_stream),
)

mini_cells_lem : (v : Volume) → Good v → all_below v.minis.limit (mini_cell_right v.minis) ≡ true
unfolding mini_cell_right
mini_cells_lem v h = below_of v.minis.limit (mini_cell_right v.minis) h.mini_cells

pub good_groups : (v : Volume) → Good v → VolumeGroups v
unfolding directory_rules some_chain mini_rules stream_rules stream_right stream_chain chain_for space_for stream_size owner_rules
good_groups v h =
    record {
      cells = h.cells;
      directory =
          and_true_of (some_chain v.sectors v.directory_sectors v.directory_start) (count_right v)
          (and_true_of (leb 1 (length v.directory_sectors)) _ h.directory_long (chain_of v.sectors _ _ _ h.directory))
          h.directory_counted;
      entries = h.entries;
      trees = h.trees;
      minis = rw ((mini_chains v h).0, (mini_chains v h).1, h.mini_table, mini_cells_lem v h) h.mini_rest;
      chains = below_of v.directory.count _ (λ i hi. stream_ok i (is_stream (v.directory.entry i)) (h.chains i hi));
      owners =
          and_true_of (owners_in v.sectors (owned_sectors v)) (owners_in v.minis (owned_minis v))
          (owned_owners v.sectors (system_sectors v) (entry_units v false) (owned_sectors v) (owned_sectors_count v) (h.owned false))
          (owned_owners v.minis [] (entry_units v true) (owned_minis v) (owned_minis_count v) (h.owned true));
    }
  where
    stream_ok : (i : ℕ) (st : Bool) → (st ≡ true →
        Chain (space_of v (side_of v i)) (stream_units v i) (start (v.directory.entry i))
        (round_up (stream_size v i) (space_of v (side_of v i)).unit)) →
        (not st || stream_chain v i) ≡ true
    stream_ok i true k = chain_of (space_of v (side_of v i)) _ _ _ (k refl)
    stream_ok i false k = refl
