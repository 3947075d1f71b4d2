-- A stream of an opened volume: its units are a chain of the space that its length says, and of the space of a change of length.
use Prim.Native.Nat.{ℕ, ◌<◌, max}
use native.Mathlib.Decide.{dec_lt}
use borrow.Author.Tests.{lt-leb, le-leb, le-ltb}
use mathlib.Core.Path.{◌≡◌, refl}
use mathlib.Core.Bool.{Bool, true, false, ◌&&◌, ◌||◌}
use mathlib.Core.List.{List}
use native.Mathlib.Omega.{arith}
use lib.Dec.{ltb, leb}
use Rattle.format.specs.Basics.Bytes.{Bytes}
use Rattle.format.specs.Layout.Need.{cutoff, round_up}
use Rattle.format.specs.Layout.Chain.{chain, units}
use Rattle.format.specs.Layout.Entry.{start}
use Rattle.format.specs.Layout.Volume.{Volume}
use Rattle.format.specs.Layout.Stream.{space_for, stream_units, stream_size}
use Rattle.format.specs.Calls.SetLength.{small, crosses}
use Rattle.theory.proofs.Chains.{linked_chain}
use Rattle.frame.specs.Good.{Good, space_of as side_space}
use Rattle.frame.proofs.Good.{groups_good}
use Rattle.frame.proofs.LengthUnits.{old_units_linked, old_units_length}
use Rattle.kinds.specs.Sizes.{geometry_of}
use Rattle.volume.specs.declared.Volume.{Volume as Opened}
use Rattle.spaces.specs.Spaces.{kind_for, volume_in, space_in}
use Rattle.spaces.proofs.Lengths.{kind_space}
use Rattle.queries.specs.Inside.{Open}
use Rattle.queries.specs.declared.find.Object.{Object}
use Rattle.queries.specs.Streams.{StreamAt}

-- the kind of a length and the side of the cutoff that it lies on
pub kind_side : (vol : Volume) (n : ℕ) → space_in vol (kind_for n) ≡ side_space vol (ltb n cutoff)
unfolding space_for
kind_side vol n = kind_space vol n

-- a change to the same length crosses nothing: an overwrite is one
pub same_uncrossed : (n : ℕ) → crosses n n ≡ false
unfolding crosses small cutoff
same_uncrossed n =
    elim (dec_lt n 4096) [
      | yes h ↦ rw (lt-leb 4096 n h) (neither_side (leb 1 n && ltb n 4096))
      | no h ↦ rw (le-ltb n 4096 (omega arith), le-leb 4096 n (omega arith)) (neither_one (leb 1 n))
    ]
  where
    neither_side : (b : Bool) → (b && false) || false ≡ false
    neither_side true = refl
    neither_side false = refl

    neither_one : (b : Bool) → (b && false && true) || (true && (b && false)) ≡ false
    neither_one true = refl
    neither_one false = refl

module _ {v : Opened} {img : Bytes} {w : List ℕ} (o : Open v img w) where
  abbrev vol : Volume
  vol = volume_in v img

  pub bytes_some : 0 < (geometry_of v.tables.geometry).sector_bytes
  bytes_some = let z = o.ready.lists.mini.fat.sized.wide in omega arith

  pub good : Good vol
  good = groups_good bytes_some o.groups

  module _ {e : Object} (s : StreamAt vol e) (new : ℕ) (c : crosses e.size new ≡ false) where
    within : crosses (stream_size vol e.id.0) new ≡ false
    within = rw (← s.sized) c

    -- its units, in the space of the change
    pub stream_chain_lem : let sp = space_in vol (kind_for (max e.size new)) in
        (chain sp.cell sp.limit (round_up e.size sp.unit) (start (vol.directory.entry e.id.0)) ≡ true)
        × (units sp.cell (round_up e.size sp.unit) (start (vol.directory.entry e.id.0)) ≡ stream_units vol e.id.0)
    stream_chain_lem =
        let sp = side_space vol (ltb (max (stream_size vol e.id.0) new) cutoff) in
        rw (kind_side vol (max e.size new), s.sized)
        (linked_chain sp.cell sp.limit (round_up (stream_size vol e.id.0) sp.unit) (start (vol.directory.entry e.id.0)) (stream_units vol e.id.0)
        (old_units_linked vol good e.id.0 new s.inside s.stream within) (old_units_length vol good e.id.0 new s.inside s.stream within) (good.chains e.id.0 s.inside s.stream).head)
