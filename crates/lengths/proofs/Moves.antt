-- The steps of a move: the volume stays open between them, the units stand listed for each, and each leaves the image of the definition.
use Prim.Native.Nat.{ℕ, ◌+◌, ◌*◌, ◌≤◌, ◌<◌, max}
use mathlib.Core.Path.{◌≡◌, sym, ◌∙◌, ap, ap₂, subst}
use mathlib.Core.Bool.{true}
use mathlib.Core.List.{List, [], ◌++◌}
use native.Mathlib.Omega.{arith}
use lib.Dec.{ltb}
use lib.ListN.{length, take, drop, length-take}
use Rattle.format.specs.Basics.Bytes.{Bytes}
use Rattle.format.specs.Layout.Geometry.{Geometry}
use Rattle.format.specs.Layout.Need.{cutoff, round_up}
use Rattle.format.specs.Layout.Space.{free_units}
use Rattle.format.specs.Layout.Chain.{units}
use Rattle.format.specs.Layout.Entry.{start}
use Rattle.format.specs.Layout.Volume.{Volume, volume}
use Rattle.format.specs.Layout.Stream.{space_for, stream_size, stream_units, contents}
use Rattle.format.specs.Rules.Verdict.{Accepted}
use Rattle.format.specs.Calls.SetLength.{crosses, edit_space, new_units, resized}
use Rattle.format.specs.Calls.Overwrite.{put_chain, overwritten}
use Rattle.format.specs.Calls.Move.{moved}
use Rattle.theory.proofs.RoundUp.{round_zero}
use Rattle.frame.specs.Frame.{Frame}
use Rattle.frame.specs.Good.{space_of as side_space}
use Rattle.frame.proofs.LengthUnits.{no_units}
use Rattle.history.proofs.Moving.{grow_within, cut_kept, cut_accepted, cut_size, cut_inside, cut_stream, cut_free, grow_kept, grow_accepted, grow_size, grow_inside, grow_stream, grow_units}
use Rattle.kinds.specs.Sizes.{geometry_of}
use Rattle.tables.specs.Work.{Wrote}
use Rattle.tables.proofs.WorkLaws.{wrote_none}
use Rattle.volume.specs.declared.Volume.{Volume as Opened}
use Rattle.spaces.specs.Spaces.{kind_for, volume_in, space_at, unit_bytes, listed_space}
use Rattle.spaces.proofs.Listed.{unit_same, units_stand}
use Rattle.queries.specs.declared.find.Object.{Object}
use Rattle.queries.specs.Inside.{Open}
use Rattle.queries.specs.Streams.{StreamAt}
use Rattle.writes.specs.Writable.{Writable}
use Rattle.edits.specs.Gathered.{Gathered}
use Rattle.edits.proofs.Streams.{kind_side, bytes_some, good}
use Rattle.edits.proofs.Overwrites.{over_chain, over_units, over_writable, over_room, over_written}
use Rattle.lengths.specs.Listed.{BothListed, with_size}
use Rattle.lengths.proofs.Opens.{open_frame, open_accepted, open_after}
use Rattle.lengths.proofs.Crossings.{kinds_differ, free_few, across_room}

module _ {v : Opened} {img : Bytes} {w : List ℕ} (o : Open v img w) {e : Object} (s : StreamAt (volume_in v img) e) (new : ℕ) (c : crosses e.size new ≡ true) where
  abbrev g : Geometry
  g = geometry_of v.tables.geometry

  pos : 0 < g.sector_bytes
  pos = bytes_some o

  abbrev fr : Frame g
  fr = open_frame o

  abbrev acc : Accepted g img
  acc = open_accepted o

  over : crosses (stream_size (volume g img) e.id.0) new ≡ true
  over = ap (λ n. crosses n new) (sym s.sized) ∙ c

  -- ---- where there is room

  module _ (old need : ℕ) (t : BothListed v img w e new old need) where
    abbrev x : ℕ
    x = e.id.0

    enough : let sp = side_space (volume g img) (ltb new cutoff) in round_up new sp.unit ≤ length (free_units sp)
    enough = subst (λ sp. round_up new sp.unit ≤ length (free_units sp)) (kind_side (volume_in v img) new) (omega (arith, t.wanted, t.enough))

    abbrev cut : Bytes
    cut = resized (volume g img) img x 0

    abbrev grown : Bytes
    grown = resized (volume g cut) cut x new

    abbrev v₁ : Volume
    v₁ = volume g cut

    -- both lists have room before the others
    pub lists_fit : old + need ≤ v.stream
    lists_fit =
        across_room o.ready (kind_for e.size) (kind_for new) (kinds_differ e.size new c) old _ (over_chain o s old t.many) need
        (omega (arith, t.enough, free_few o.ready (kind_for new)))

    -- ---- cut to 0

    pub cut_gathered : Gathered v img w e 0 old 0
    unfolding new_units edit_space space_for
    cut_gathered =
        let m : max e.size 0 ≡ e.size = omega arith in
        let k = kind_for (max e.size 0) in
        let sp = edit_space (volume g img) x 0 in
        record {
          many = rw m t.many;
          wanted = sym (round_zero (space_at v img k).unit (units_stand o.ready k).some);
          own = t.own;
          all = sym (ap (λ n. take n (stream_units (volume g img) x ++ free_units sp)) (round_zero sp.unit edit_some));
          enough = omega arith;
        }
      where
        edit_some : 0 < (edit_space (volume g img) x 0).unit
        edit_some = (good o).unit (ltb (max (stream_size (volume g img) x) 0) cutoff)

    cut_opened : {w₁ : List ℕ} → Wrote w w₁ 0 v.stream → Open v cut w₁
    cut_opened y = open_after o (cut_kept g pos fr img acc x new s.inside s.stream over enough) (cut_accepted g pos fr img acc x new s.inside s.stream over enough) y

    cut_at : StreamAt v₁ (with_size e 0)
    cut_at =
        record {
          inside = cut_inside g pos fr img acc x new s.inside s.stream over enough;
          stream = cut_stream g pos fr img acc x new s.inside s.stream over enough;
          sized = sym (cut_size g pos fr img acc x new s.inside s.stream over enough);
        }

    -- ---- the free units stand at the start

    module _ {w₁ : List ℕ} (front : take need w₁ ≡ take need (drop old w)) (y : Wrote w w₁ 0 v.stream) where
      empty : stream_units v₁ x ≡ []
      empty = no_units v₁ (good (cut_opened y)) x new cut_at.inside cut_at.stream (rw (← cut_at.sized) (grow_within new)) (sym cut_at.sized)

      new_free : new_units v₁ x new ≡ take (round_up new (side_space v₁ (ltb new cutoff)).unit) (free_units (side_space v₁ (ltb new cutoff)))
      unfolding new_units edit_space space_for
      new_free = let m : max 0 new ≡ new = omega arith in rw (empty, ← cut_at.sized, m)

      free_same : free_units (side_space v₁ (ltb new cutoff)) ≡ free_units (space_at v img (kind_for new))
      free_same = cut_free g pos fr img acc x new s.inside s.stream over enough ∙ ap free_units (sym (kind_side (volume g img) new))

      unit_still : (space_at v cut (kind_for new)).unit ≡ (space_at v img (kind_for new)).unit
      unit_still = sym (unit_same (cut_opened y).ready (kind_for new)) ∙ unit_same o.ready (kind_for new)

      wanted : need ≡ round_up new (space_at v cut (kind_for new)).unit
      wanted = t.wanted ∙ ap (round_up new) (sym unit_still)

      -- they are those of the new length
      all_new : take need w₁ ≡ new_units v₁ x new
      all_new =
          front ∙ t.free ∙ ap₂ take (wanted ∙ ap (λ sp. round_up new sp.unit) (kind_side v₁ new)) (sym free_same) ∙ sym new_free

      grow_gathered : Gathered v cut w₁ (with_size e 0) new 0 need
      grow_gathered =
          let m : max 0 new ≡ new = omega arith in
          record {
            many = sym (round_zero (space_at v cut (kind_for (max 0 new))).unit (units_stand (cut_opened y).ready (kind_for (max 0 new))).some);
            wanted = rw m wanted;
            own = sym empty;
            all = all_new;
            enough = rw m (omega (arith, t.enough, ap length (ap free_units (kind_side v₁ new) ∙ free_same)));
          }

      pub grow_asks : {img₁ : Bytes} → img₁ ≡ cut → Open v img₁ w₁ × (StreamAt (volume_in v img₁) (with_size e 0) × Gathered v img₁ w₁ (with_size e 0) new 0 need)
      grow_asks q =
          subst (λ i. Open v i w₁ × (StreamAt (volume_in v i) (with_size e 0) × Gathered v i w₁ (with_size e 0) new 0 need)) (sym q)
          (cut_opened y, (cut_at, grow_gathered))

      -- ---- the bytes that stay

      grow_opened : Open v grown w₁
      grow_opened =
          open_after (cut_opened y) (grow_kept g pos fr img acc x new s.inside s.stream over enough) (grow_accepted g pos fr img acc x new s.inside s.stream over enough)
          (wrote_none w₁ 0 v.stream)

      grow_at : StreamAt (volume g grown) (with_size e new)
      grow_at =
          record {
            inside = grow_inside g pos fr img acc x new s.inside s.stream over enough;
            stream = grow_stream g pos fr img acc x new s.inside s.stream over enough;
            sized = sym (grow_size g pos fr img acc x new s.inside s.stream over enough);
          }

      many : need ≡ round_up new (space_at v grown (kind_for new)).unit
      many = t.wanted ∙ ap (round_up new) (sym (unit_same o.ready (kind_for new)) ∙ unit_same grow_opened.ready (kind_for new))

      fits : need ≤ length w₁
      fits = omega (arith, lists_fit, grow_opened.ready.stream.room)

      listed : take need w₁ ≡ units (space_at v grown (kind_for new)).cell need (start ((volume g grown).directory.entry x))
      listed = all_new ∙ sym (grow_units g pos fr img acc x new s.inside s.stream over enough) ∙ sym (over_units grow_opened grow_at need many)

      module _ {bytes : Bytes} (b : bytes ≡ take new (contents (volume_in v img) img x)) {img₁ img₂ : Bytes} (q₁ : img₁ ≡ cut) (q₂ : img₂ ≡ resized (volume_in v img₁) img₁ x new) where
        is_grown : img₂ ≡ grown
        is_grown = q₂ ∙ ap (λ i. resized (volume g i) i x new) q₁

        short : 0 + length bytes ≤ new
        short = omega (arith, ap length b, length-take new (contents (volume_in v img) img x))

        pub put_asks : Writable v w₁ (kind_for new) (length img₂) need × (0 + length bytes ≤ need * unit_bytes v (kind_for new))
        put_asks = (
          subst (λ i. Writable v w₁ (kind_for new) (length i) need) (sym is_grown) (over_writable grow_opened grow_at need many grow_opened.ready listed fits),
          over_room grow_opened grow_at need many grow_opened.ready listed fits 0 (length bytes) short,
        )

        pub put_image : {img₃ : Bytes} → img₃ ≡ put_chain (listed_space v w₁ (kind_for new)) (take need w₁) img₂ 0 bytes → img₃ ≡ moved g img x new
        unfolding moved
        put_image k =
            k ∙ ap (λ i. put_chain (listed_space v w₁ (kind_for new)) (take need w₁) i 0 bytes) is_grown
            ∙ over_written grow_opened grow_at need many grow_opened.ready listed fits 0 bytes short
            ∙ ap (overwritten (volume g grown) grown x 0) b
