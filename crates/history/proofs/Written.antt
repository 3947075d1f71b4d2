-- An overwrite is a `Changed` of the volume with the same units and length, and it puts its bytes into the stream's.
use Prim.Native.Nat.{ℕ, ◌*◌, ◌<◌}
use mathlib.Core.Path.{◌≡◌, refl, sym, ap, ap₂, ◌∙◌}
use mathlib.Core.Bool.{Bool, true, false, not, cond, beq}
use mathlib.Core.List.{List, []}
use lib.Dec.{ltb}
use lib.ListN.{length, take}
use lib.Seq.{sets, length-sets}
use Rattle.format.specs.Basics.Bytes.{Bytes, put_bytes}
use Rattle.format.specs.Layout.Directory.{size_of}
use Rattle.format.specs.Layout.Geometry.{Geometry}
use Rattle.format.specs.Layout.Need.{cutoff}
use Rattle.format.specs.Layout.Space.{laid, block}
use Rattle.format.specs.Layout.Entry.{size, start, name, kind, colour, left, right, child}
use Rattle.format.specs.Layout.Volume.{Volume, volume}
use Rattle.format.specs.Layout.Stream.{stream_units, contents, stream_size}
use Rattle.format.specs.Layout.Chain.{start_of}
use Rattle.format.specs.Rules.Entries.{common_fields, stream_fields}
use Rattle.format.specs.Rules.Verdict.{Accepted}
use Rattle.format.specs.Calls.Overwrite.{overwritten}
use Rattle.theory.specs.Links.{Linked}
use Rattle.theory.proofs.Relinks.{rechain_same}
use Rattle.theory.proofs.FreeUnits.{same_becomes}
use Rattle.theory.proofs.Contents.{laid_length}
use Rattle.theory.proofs.Tests.{beq_self, beq_not}
use Rattle.theory.proofs.Sets.{take_sets_in}
use Rattle.frame.specs.Edits.{in_sectors, in_minis, Refilled, MayWrite, IsWritten, SameFields}
use Rattle.frame.specs.Frame.{Frame}
use Rattle.frame.specs.Good.{space_of, system_of, units_of, Good}
use Rattle.frame.proofs.OwnerFacts.{units_linked}
use Rattle.frame.proofs.Good.{accepted_good}
use Rattle.history.specs.Changed.{Changed}
use Rattle.history.proofs.EditedUnits.{edited_units}
use Rattle.history.proofs.Filled.{contents_read, edited_contents, unit_full, frame_sized, Sized}
use Rattle.history.proofs.Sides.{cond_beq_false, full_side, refilled_side, cond_beq_true}
use Rattle.frame.proofs.EntryFacts.{common_fields_of, entry_fields_lem}

same_fields : (a b : Bytes) → b ≡ a → common_fields a ≡ true → SameFields a b
same_fields a b e h =
    record {
      name = ap name e;
      kind = ap kind e;
      colour = ap colour e;
      left = ap left e;
      right = ap right e;
      child = ap child e;
      rules = ap stream_fields e;
      common = ap common_fields e ∙ h;
    }

module _ (g : Geometry) (pos : 0 < g.sector_bytes) (fr : Frame g) (img : Bytes) (acc : Accepted g img) where
  abbrev v : Volume
  v = volume g img

  abbrev good : Good v
  good = accepted_good g img pos acc

  abbrev sized : Sized v img
  sized = frame_sized fr img acc

  module _ (e offset : ℕ) (bytes : Bytes) (may : MayWrite g img e offset bytes) where
    abbrev len : ℕ
    len = stream_size v e

    abbrev side : Bool
    side = ltb len cutoff

    abbrev units : List ℕ
    units = stream_units v e

    abbrev content_in : Bool → Bytes
    content_in b = cond (beq b side) (put_bytes (laid (block (space_of v b) img) units) offset bytes) []

    abbrev after : Bytes
    after = overwritten v img e offset bytes

    wrote : IsWritten g img e offset bytes after
    wrote = fr.writing img e offset bytes may

    units_in : (b : Bool) → units_of v b e ≡ cond (beq b side) units []
    unfolding units_of
    units_in b = rw may.stream

    linked : (b : Bool) → Linked (space_of v b).cell (space_of v b).limit (units_of v b e)
    linked b = units_linked v b e (λ st. (good.chains e may.inside st).linked)

    same_cells : (b : Bool) (u : ℕ) → (space_of (volume g after) b).cell u ≡ (space_of v b).cell u
    same_cells true = wrote.mini_cells
    same_cells false = wrote.sector_cells

    bytes_here : (b : Bool) → Refilled (space_of v b) (space_of (volume g after) b) img after (system_of v b) (cond (beq b side) units [])
        (put_bytes (laid (block (space_of v b) img) units) offset bytes)
    unfolding in_sectors in_minis
    bytes_here true = rw (← cond_beq_true side units) wrote.mini_bytes
    bytes_here false = rw (← cond_beq_false side units) wrote.sector_bytes

    laid_long : length (laid (block (space_of v side) img) units) ≡ length units * (space_of v side).unit
    laid_long =
        laid_length (space_of v side).unit (block (space_of v side) img) units (unit_full v img good sized e may.inside may.stream)

    put_long : length (put_bytes (laid (block (space_of v side) img) units) offset bytes) ≡ length units * (space_of v side).unit
    unfolding put_bytes
    put_long = length-sets (laid (block (space_of v side) img) units) offset bytes ∙ laid_long

    here_units : units_of v side e ≡ units
    here_units = units_in side ∙ ap (λ t. cond t units []) (beq_self side)

    same_size : stream_size (volume g after) e ≡ len
    unfolding stream_size size_of
    same_size = ap₂ size wrote.kept.parts.size_width (wrote.entries e)

    pub write_changed : Changed v (volume g after) img after e len (λ b. units_of v b e) content_in
    write_changed =
        record {
          parts = wrote.kept.parts;
          inside = may.inside;
          stream = may.stream;
          others = λ i z. wrote.entries i;
          fields = same_fields (v.directory.entry e) ((volume g after).directory.entry e) (wrote.entries e)
              (common_fields_of (v.directory.entry e) e (entry_fields_lem good e may.inside));
          start = ap start (wrote.entries e) ∙ sym (good.chains e may.inside may.stream).head ∙ ap start_of (sym here_units);
          size = same_size;
          cells = λ b. record {
            cells = λ u h. same_cells b u ∙ sym (rechain_same (units_of v b e) (space_of v b).cell (space_of v b).limit (linked b) u);
            rest = λ u h. same_cells b u;
          };
          bytes = λ b. rw (units_in b)
              (refilled_side (space_of v b) (space_of (volume g after) b) img after (system_of v b) units
              (put_bytes (laid (block (space_of v b) img) units) offset bytes) (beq b side) (bytes_here b));
          becomes = λ b. same_becomes (space_of v b).cell (space_of v b).limit (good.lim b) (units_of v b e) (linked b);
          full = λ b. rw (units_in b) (full_side v units (λ b. put_bytes (laid (block (space_of v b) img) units) offset bytes) b side put_long);
          need = ap length here_units ∙ (good.chains e may.inside may.stream).long;
          none = units_in (not side) ∙ ap (λ t. cond t units []) (beq_not side);
        }

    pub write_contents : contents (volume g after) after e ≡ put_bytes (contents v img e) offset bytes
    unfolding put_bytes
    write_contents =
        edited_contents good write_changed sized
        ∙ ap (λ t. take len (cond t (put_bytes (laid (block (space_of v side) img) units) offset bytes) [])) (beq_self side)
        ∙ take_sets_in len (laid (block (space_of v side) img) units) offset bytes may.fits
        ∙ ap (λ l. sets l offset bytes) (sym (contents_read v img e len units refl refl))

    -- its units are what they were
    pub write_units : stream_units (volume g after) e ≡ units
    write_units = edited_units good write_changed ∙ here_units
