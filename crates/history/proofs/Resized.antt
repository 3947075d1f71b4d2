-- A change of length is a `Changed` of the volume, and it cuts the stream's bytes or fills them up with zeros.
use Prim.Native.Nat.{ℕ, ◌+◌, ◌≤◌, ◌<◌, max}
use mathlib.Core.Path.{◌≡◌, sym, ap, ◌∙◌}
use mathlib.Core.Logic.{◌⊎◌, inl, inr}
use mathlib.Core.Bool.{Bool, true, false, not, cond, beq}
use mathlib.Core.List.{List, []}
use lib.Dec.{eqb, ltb}
use lib.ListN.{length, take}
use Rattle.format.specs.Basics.Bytes.{Bytes}
use Rattle.format.specs.Basics.Lists.{fit}
use Rattle.format.specs.Layout.Geometry.{Geometry}
use Rattle.format.specs.Layout.Need.{cutoff, round_up}
use Rattle.format.specs.Layout.Space.{free_units, block}
use Rattle.format.specs.Layout.Entry.{size, start}
use Rattle.format.specs.Layout.Volume.{Volume, volume}
use Rattle.format.specs.Layout.Stream.{space_for, stream_units, contents, stream_size}
use Rattle.format.specs.Layout.Chain.{FREE, start_of, is_free}
use Rattle.format.specs.Rules.Verdict.{Accepted}
use Rattle.format.specs.Calls.SetLength.{edit_space, new_units, resized}
use Rattle.theory.specs.Blocks.{target}
use Rattle.theory.specs.Links.{freed, chained, rechain}
use Rattle.theory.proofs.Picks.{pick_same}
use Rattle.theory.proofs.Tests.{beq_self, beq_not}
use Rattle.theory.proofs.RoundUp.{round_zero}
use Rattle.theory.proofs.Fits.{fit_zero}
use Rattle.frame.specs.Edits.{in_sectors, in_minis, Relinked, Refilled, MayResize, IsResized}
use Rattle.frame.specs.Frame.{Frame}
use Rattle.frame.specs.Good.{space_of, system_of, Good}
use Rattle.frame.proofs.Good.{accepted_good}
use Rattle.history.specs.Changed.{Changed}
use Rattle.history.proofs.EditedUnits.{limit_same, edited_units}
use Rattle.history.proofs.Filled.{Sized, edited_contents, frame_sized}
use Rattle.frame.proofs.LengthUnits.{sides_uncrossed, new_units_become, new_units_length}
use Rattle.history.proofs.Lengths.{old_units, new_content_length, new_content_fits, new_units_none}
use Rattle.history.proofs.Sides.{becomes_side, cond_beq_false, cond_nil, full_side, refilled_side, cond_beq_true}
use Rattle.history.specs.Step.{resized_bytes}

module _ (g : Geometry) (pos : 0 < g.sector_bytes) (fr : Frame g) (img : Bytes) (acc : Accepted g img) where
  abbrev v : Volume
  v = volume g img

  abbrev good : Good v
  good = accepted_good g img pos acc

  abbrev sized : Sized v img
  sized = frame_sized fr img acc

  module _ (e new : ℕ) (may : MayResize g img e new) where
    abbrev old : ℕ
    old = stream_size v e

    abbrev side : Bool
    side = ltb (max old new) cutoff

    abbrev us : List ℕ
    us = stream_units v e

    abbrev new_us : List ℕ
    new_us = new_units v e new

    abbrev new_in : Bool → List ℕ
    new_in b = cond (beq b side) new_us []

    abbrev content_in : Bool → Bytes
    content_in b = cond (beq b side) (target (space_of v b).unit (block (space_of v b) img) us new_us old new) []

    enough : round_up new (space_of v side).unit ≤ length us + length (free_units (space_of v side))
    unfolding edit_space space_for
    enough = may.enough

    resizing : IsResized g img e new (max old new) (resized v img e new)
    resizing = fr.resizing img e new may

    sides : ((ltb old cutoff ≡ side) ⊎ (old ≡ 0)) × ((ltb new cutoff ≡ side) ⊎ (new ≡ 0))
    sides = sides_uncrossed old new may.within

    long : length new_us ≡ round_up new (space_of v side).unit
    long = new_units_length v good e new may.inside may.stream may.within enough

    no_units : new ≡ 0 → new_us ≡ []
    no_units = new_units_none v img good sized e new may.inside may.stream may.within enough

    units_here : new_in (ltb new cutoff) ≡ new_us
    units_here =
        elim sides.1 [
          | inl h ↦ ap (λ b. cond (beq b side) new_us []) h ∙ ap (λ t. cond t new_us []) (beq_self side)
          | inr z ↦ ap (λ xs. cond (beq (ltb new cutoff) side) xs []) (no_units z) ∙ cond_nil (beq (ltb new cutoff) side) ∙ sym (no_units z)
        ]

    units_there : new_in (not (ltb new cutoff)) ≡ []
    units_there =
        elim sides.1 [
          | inl h ↦ ap (λ b. cond (beq (not b) side) new_us []) h ∙ ap (λ t. cond t new_us []) (beq_not side)
          | inr z ↦ ap (λ xs. cond (beq (not (ltb new cutoff)) side) xs []) (no_units z) ∙ cond_nil (beq (not (ltb new cutoff)) side)
        ]

    need_here : round_up new (space_of v side).unit ≡ round_up new (space_of v (ltb new cutoff)).unit
    need_here =
        elim sides.1 [
          | inl h ↦ ap (λ b. round_up new (space_of v b).unit) (sym h)
          | inr z ↦
              ap (λ n. round_up n (space_of v side).unit) z ∙ round_zero (space_of v side).unit (good.unit side)
              ∙ sym (ap (λ n. round_up n (space_of v (ltb new cutoff)).unit) z ∙ round_zero (space_of v (ltb new cutoff)).unit (good.unit (ltb new cutoff)))
        ]

    new_cells_lem : (b : Bool) → Relinked (space_of v b) (space_of (volume g (resized v img e new)) b) (cond (beq b side) us []) (new_in b)
    unfolding in_sectors in_minis
    new_cells_lem true = rw (← cond_beq_true side us, ← cond_beq_true side new_us) resizing.mini_cells
    new_cells_lem false = rw (← cond_beq_false side us, ← cond_beq_false side new_us) resizing.sector_cells

    new_bytes : (b : Bool) → Refilled (space_of v b) (space_of (volume g (resized v img e new)) b) img (resized v img e new) (system_of v b) (new_in b)
        (target (space_of v b).unit (block (space_of v b) img) us new_us old new)
    unfolding in_sectors in_minis
    new_bytes true = rw (← cond_beq_true side new_us) resizing.mini_bytes
    new_bytes false = rw (← cond_beq_false side new_us) resizing.sector_bytes

    new_size : stream_size (volume g (resized v img e new)) e ≡ new
    unfolding stream_size
    new_size = resizing.size

    pub resize_changed : Changed v (volume g (resized v img e new)) img (resized v img e new) e new new_in content_in
    resize_changed =
        record {
          parts = resizing.kept.parts;
          inside = may.inside;
          stream = may.stream;
          others = resizing.others;
          fields = resizing.fields;
          start = resizing.start ∙ ap start_of (sym units_here);
          size = new_size;
          cells = λ b. rw (old_units v img good sized e new may.inside may.stream may.within b) (new_cells_lem b);
          bytes = λ b. refilled_side (space_of v b) (space_of (volume g (resized v img e new)) b) img (resized v img e new) (system_of v b) new_us
              (target (space_of v b).unit (block (space_of v b) img) us new_us old new) (beq b side) (new_bytes b);
          becomes = λ b. rw (old_units v img good sized e new may.inside may.stream may.within b)
              (becomes_side v us new_us b side (new_units_become v good e new may.inside may.stream may.within));
          full = λ b. full_side v new_us (λ b. target (space_of v b).unit (block (space_of v b) img) us new_us old new) b side
              (new_content_length v img good sized e new may.inside may.stream may.within enough);
          need = ap length units_here ∙ long ∙ need_here;
          none = units_there;
        }

    pub resize_contents : contents (volume g (resized v img e new)) (resized v img e new) e ≡ resized_bytes new (contents v img e)
    resize_contents =
        edited_contents good resize_changed sized
        ∙ elim sides.1 [
          | inl h ↦
              ap (λ b. take new (cond (beq b side) (target (space_of v b).unit (block (space_of v b) img) us new_us old new) [])) h
              ∙ ap (λ t. take new (cond t (target (space_of v side).unit (block (space_of v side) img) us new_us old new) [])) (beq_self side)
              ∙ new_content_fits v img good sized e new may.inside may.stream may.within enough h
          | inr z ↦ ap (λ n. take n (content_in (ltb new cutoff))) z ∙ sym (ap (λ n. fit n (contents v img e)) z ∙ fit_zero (contents v img e))
        ]

    -- its units are the new ones
    pub resize_units : stream_units (volume g (resized v img e new)) e ≡ new_units v e new
    resize_units = edited_units good resize_changed ∙ units_here

    -- in the other space the same units are free
    pub resize_free : (b : Bool) → beq b side ≡ false → free_units (space_of (volume g (resized v img e new)) b) ≡ free_units (space_of v b)
    unfolding free_units rechain chained freed
    resize_free b h =
        rw (limit_same good resize_changed b)
        (pick_same (is_free (space_of v b).cell) (is_free (space_of (volume g (resized v img e new)) b).cell) (space_of v b).limit (λ u l. ap (λ c. eqb c FREE) (cell_same u l)))
      where
        cell_same : (u : ℕ) → u < (space_of v b).limit → (space_of (volume g (resized v img e new)) b).cell u ≡ (space_of v b).cell u
        cell_same u l = rw h at ((new_cells_lem b).cells u l)
