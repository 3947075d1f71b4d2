-- Where byte j of a listed stream stands: in the unit that the list has for it.
use Prim.Native.Nat.{ℕ, ◌+◌, ◌*◌, ◌/◌, ◌≤◌, ◌<◌}
use mathlib.Core.Path.{◌≡◌, ◌∙◌, ap, ap₂}
use mathlib.Core.List.{List}
use native.Mathlib.Omega.{arith}
use mir.Syntax.{w64}
use mir.Val.{Fits}
use lib.ListN.{length, get_or}
use Rattle.format.specs.Basics.Bytes.{Bytes}
use Rattle.format.specs.Layout.Need.{round_up}
use Rattle.format.specs.Layout.Space.{Space, chain_for, units_for}
use Rattle.theory.proofs.RoundUp.{round_lt}
use Rattle.frame.proofs.Blocks.{Units}
use Rattle.volume.specs.Opened.{Readied}
use Rattle.volume.specs.declared.Volume.{Volume as Opened}
use Rattle.spaces.specs.Spaces.{kind_for, space_at, unit_bytes, listed_space, UnitListed}
use Rattle.spaces.specs.Units.{kind_of, number_in, unit_of}
use Rattle.spaces.specs.declared.Kind.{Kind}
use Rattle.spaces.specs.declared.Unit.{Unit}
use Rattle.spaces.proofs.Units.{unit_as}
use Rattle.spaces.proofs.Listed.{unit_same, units_stand, unit_listed, unit_place_lem}
use Rattle.reading.proofs.StreamBytes.{stream_unit}
use Rattle.unitlists.proofs.Limits.{limit_end}
use Rattle.queries.specs.declared.find.Object.{Object}
use Rattle.edits.proofs.Gathering.{old_short}
use Rattle.streams.specs.Listed.{OpenStream}
use Rattle.streams.proofs.Listing.{start_in, listed_chain, listed_unit_lem}

-- the space of a stream, and the unit of its byte j
abbrev pub space_of : Opened → Bytes → Object → Space
space_of v img e = space_at v img (kind_for e.size)

abbrev pub unit_at : Opened → Bytes → Object → ℕ → ℕ
unit_at v img e j = get_or (units_for (space_of v img e) e.size (start_in v img e)) (j / (space_of v img e).unit) 0

module _ {v : Opened} {img : Bytes} {w : List ℕ} {e : Object} (s : OpenStream v img w e) where
  abbrev sp : Space
  sp = space_of v img e

  ready : Readied v img w
  ready = s.opened.opened.ready

  pub listed_stand : Units sp (length img)
  listed_stand = units_stand ready (kind_for e.size)

  -- the kind of its units, and how many bytes each has
  module _ {kind : Kind} (k : kind ≡ kind_for e.size) {bytes : ℕ} (b : bytes ≡ unit_bytes v kind) where
    pub bytes_are : bytes ≡ sp.unit
    bytes_are = b ∙ ap (unit_bytes v) k ∙ unit_same ready (kind_for e.size)

    pub bytes_some : 0 < bytes
    bytes_some = omega (arith, bytes_are, listed_stand.some)

    module _ (j : ℕ) (h : j < e.size) where
      at : j / sp.unit < round_up e.size sp.unit
      at = round_lt j e.size sp.unit listed_stand.some h

      below : unit_at v img e j < sp.limit
      below = stream_unit img listed_stand e.size (start_in v img e) (listed_chain s) (j / sp.unit) at

      pub index_listed : j / bytes < length w
      index_listed = rw bytes_are (listed_unit_lem s (j / sp.unit) at).0

      pub index_fits : Fits w64 (j / bytes * 4)
      unfolding chain_for
      index_fits =
          let l = old_short ready (kind_for e.size) _ (start_in v img e) (listed_chain s) in
          rw bytes_are record { fits = omega (arith, at, l, limit_end ready (kind_for e.size)) }

      unit_is : get_or w (j / bytes) 0 ≡ unit_at v img e j
      unit_is = rw bytes_are (listed_unit_lem s (j / sp.unit) at).1

      pub byte_listed : UnitListed v w kind (get_or w (j / bytes) 0)
      byte_listed = rw (unit_is, k) (unit_listed ready (kind_for e.size) (unit_at v img e j) below)

      module _ {u : Unit} {p : ℕ} (x : u ≡ unit_of kind (get_or w (j / bytes) 0)) (y : p ≡ (listed_space v w (kind_of u)).unit_place (number_in u)) where
        pub place_is : p ≡ sp.unit_place (unit_at v img e j)
        place_is =
            let z = unit_as kind (get_or w (j / bytes) 0) x in
            y ∙ ap₂ (λ k n. (listed_space v w k).unit_place n) (z.0 ∙ k) (z.1 ∙ unit_is) ∙ unit_place_lem ready (kind_for e.size) (unit_at v img e j) below

        pub unit_room_lem : p + bytes ≤ length img
        unit_room_lem = rw (place_is, bytes_are) (listed_stand.room (unit_at v img e j) below)
