-- A stream's units at the start of the work buffer: when they have been listed, and what stands there then.
use Prim.Native.Nat.{ℕ, ◌≤◌, ◌<◌}
use mathlib.Core.Path.{◌≡◌, refl, sym, ◌∙◌, ap}
use mathlib.Core.Bool.{true}
use mathlib.Core.List.{List}
use native.Mathlib.Omega.{arith}
use lib.ListN.{length, get_or, take, length-take}
use lib.Seq.{get_or-take}
use Rattle.format.specs.Basics.Bytes.{Bytes}
use Rattle.format.specs.Layout.Need.{round_up}
use Rattle.format.specs.Layout.Chain.{units}
use Rattle.format.specs.Layout.Space.{Space, chain_for, units_for}
use Rattle.format.specs.Layout.Entry.{start}
use Rattle.format.specs.Layout.Volume.{volume}
use Rattle.format.specs.Layout.Stream.{stream_units, contents}
use Rattle.format.specs.Rules.Length.{work_need}
use Rattle.format.specs.Rules.Version.{own_volume}
use Rattle.theory.proofs.Chains.{length_units}
use Rattle.kinds.specs.Sizes.{geometry_of}
use Rattle.tables.specs.Work.{Wrote}
use Rattle.volume.specs.declared.Volume.{Volume as Opened}
use Rattle.spaces.specs.Spaces.{kind_for, volume_in, space_at}
use Rattle.reading.specs.Streams.{stream_bytes}
use Rattle.queries.specs.Streams.{StreamAt}
use Rattle.queries.specs.declared.find.Object.{Object}
use Rattle.queries.proofs.StreamBytes.{kind_bytes, kind_chain}
use Rattle.edits.proofs.Gathering.{gathered_wrote, old_short}
use Rattle.edits.proofs.Overwrites.{over_chain, over_units}
use Rattle.opened.specs.OpenVolume.{OpenVolume}
use Rattle.opened.proofs.Calls.{opened_same}
use Rattle.streams.specs.Listed.{OpenStream}

-- where the stream of an entry starts
abbrev pub start_in : Opened → Bytes → Object → ℕ
start_in v img e = start ((volume_in v img).directory.entry e.id.0)

module _ {v : Opened} {img : Bytes} {w : List ℕ} (s : OpenVolume v img w) {e : Object} (t : StreamAt (own_volume img) e) where
  pub own_stream : StreamAt (volume_in v img) e
  own_stream = rw s.version t

  module _ (n : ℕ) (many : n ≡ round_up e.size (space_at v img (kind_for e.size)).unit) where
    own_units : units (space_at v img (kind_for e.size)).cell n (start_in v img e) ≡ stream_units (own_volume img) e.id.0
    own_units = over_units s.opened own_stream n many ∙ ap (λ g. stream_units (volume g img) e.id.0) s.version

    pub own_long : length (stream_units (own_volume img) e.id.0) ≡ n
    own_long = sym (ap length own_units) ∙ length_units (space_at v img (kind_for e.size)).cell n (start_in v img e)

    pub stream_listed : {w₁ : List ℕ} → take n w₁ ≡ units (space_at v img (kind_for e.size)).cell n (start_in v img e) → Wrote w w₁ 0 n
        → OpenStream v img w₁ e × Wrote w w₁ 0 (work_need (length img))
    stream_listed l r =
        let k = kind_for e.size in
        let few = old_short s.opened.ready k n (start_in v img e) (over_chain s.opened own_stream n many) in
        let o = opened_same s (gathered_wrote s.opened.ready k n few r) in
        (record { opened = o.0; stream = t; units = rw own_long (l ∙ own_units) }, o.1)

-- ---- what stands listed

module _ {v : Opened} {img : Bytes} {w : List ℕ} {e : Object} (s : OpenStream v img w e) where
  abbrev sp : Space
  sp = space_at v img (kind_for e.size)

  mine : StreamAt (volume_in v img) e
  mine = own_stream s.opened s.stream

  pub listed_chain : chain_for sp e.size (start_in v img e) ≡ true
  listed_chain =
      kind_chain (geometry_of v.tables.geometry) img e.id.0 e.size (start_in v img e) mine.sized refl s.opened.opened.groups.volume.chains mine.inside mine.stream

  pub listed_bytes : stream_bytes sp img e.size (start_in v img e) ≡ contents (own_volume img) img e.id.0
  listed_bytes =
      kind_bytes (geometry_of v.tables.geometry) img e.id.0 e.size (start_in v img e) mine.sized refl
      ∙ ap (λ g. contents (volume g img) img e.id.0) s.opened.version

  -- unit number k
  pub listed_unit_lem : (k : ℕ) → k < round_up e.size sp.unit → (k < length w) × (get_or w k 0 ≡ get_or (units_for sp e.size (start_in v img e)) k 0)
  unfolding units_for
  listed_unit_lem k h =
      let n = round_up e.size sp.unit in
      let l = own_long s.opened s.stream n refl in
      let u : take n w ≡ units sp.cell n (start_in v img e) = ap (λ m. take m w) (sym l) ∙ s.units ∙ sym (own_units s.opened s.stream n refl) in
      (omega (arith, h, length-take n w, ap length u, length_units sp.cell n (start_in v img e)), sym (get_or-take n w k 0 h) ∙ ap (λ us. get_or us k 0) u)
