-- The bytes of the streams before and after an edit, and how long they are.
use Prim.Native.Nat.{ℕ, ◌*◌, ◌≤◌, ◌<◌}
use mathlib.Core.Path.{◌≡◌, refl, sym, ap, ◌∙◌, subst}
use mathlib.Core.Logic.{◌≢◌}
use mathlib.Core.Bool.{Bool, true, false}
use mathlib.Core.List.{List, []}
use native.Mathlib.Omega.{arith}
use lib.Dec.{ltb}
use lib.ListN.{length, get_or, take}
use lib.Seq.{length-take-le}
use Rattle.format.specs.Basics.Bytes.{Bytes}
use Rattle.format.specs.Basics.Lists.{count}
use Rattle.format.specs.Layout.Need.{cutoff}
use Rattle.format.specs.Layout.Entry.{is_stream, size}
use Rattle.format.specs.Layout.Volume.{Volume, volume}
use Rattle.format.specs.Layout.Stream.{space_for, stream_units, stream_size, contents}
use Rattle.format.specs.Layout.Space.{laid, block}
use Rattle.format.specs.Layout.Geometry.{Geometry}
use Rattle.format.specs.Rules.Verdict.{Accepted}
use Rattle.theory.specs.Blocks.{Kept, Edited}
use Rattle.theory.proofs.Chains.{linked_below}
use Rattle.theory.proofs.Contents.{laid_length}
use Rattle.theory.proofs.Edits.{edited_content, edited_others}
use Rattle.theory.proofs.RoundUp.{round_enough}
use Rattle.theory.proofs.Below.{length_below}
use Rattle.frame.specs.Frame.{Frame}
use Rattle.frame.specs.Good.{space_of, system_of, units_of, entry_units, Good, side_of}
use Rattle.history.specs.Changed.{Changed}
use Rattle.history.proofs.EditedUnits.{units_self, in_entry_units, entry_units_at, edit_becomes, edit_cells, units_other, edited_units, size_other}

-- every unit lies whole in the image
abbrev pub Sized : Volume → Bytes → Type 0
Sized v img = (b : Bool) (u : ℕ) → u < (space_of v b).limit → length (block (space_of v b) img u) ≡ (space_of v b).unit

pub frame_sized : {g : Geometry} → Frame g → (img : Bytes) → Accepted g img → Sized (volume g img) img
frame_sized fr img acc true = fr.mini_sized img acc
frame_sized fr img acc false = fr.sector_sized img acc

pub contents_read : (v : Volume) (img : Bytes) (i n : ℕ) (us : List ℕ) → stream_size v i ≡ n → stream_units v i ≡ us →
    contents v img i ≡ take n (laid (block (space_of v (ltb n cutoff)) img) us)
unfolding contents space_for stream_size
contents_read v img i n us p q = rw (p, q)

module _ (v : Volume) (img : Bytes) (o : Good v) (sized : Sized v img) where
  pub unit_full : (i : ℕ) → i < v.directory.count → is_stream (v.directory.entry i) ≡ true → (s : ℕ) → 0 < count s (stream_units v i) →
      length (block (space_of v (side_of v i)) img s) ≡ (space_of v (side_of v i)).unit
  unit_full i h st s q =
      let sp = space_of v (side_of v i) in
      sized (side_of v i) s (linked_below sp.cell sp.limit (stream_units v i) (o.chains i h st).linked s q)

  pub enough_units : (i : ℕ) → i < v.directory.count → is_stream (v.directory.entry i) ≡ true →
      stream_size v i ≤ length (stream_units v i) * (space_of v (side_of v i)).unit
  enough_units i h st =
      rw (o.chains i h st).long (round_enough (stream_size v i) (space_of v (side_of v i)).unit (o.unit (side_of v i)))

  pub length_contents : (i : ℕ) → i < v.directory.count → is_stream (v.directory.entry i) ≡ true → length (contents v img i) ≡ stream_size v i
  length_contents i h st =
      let n = stream_size v i in
      let sp = space_of v (ltb n cutoff) in
      let us = stream_units v i in
      ap length (contents_read v img i n us refl refl)
      ∙ length-take-le n (laid (block sp img) us) (rw (laid_length sp.unit (block sp img) us (unit_full i h st)) (enough_units i h st))

module _ {v w : Volume} {img img' : Bytes} {e new : ℕ} {ws : Bool → List ℕ} {c : Bool → Bytes} (o : Good v) (x : Changed v w img img' e new ws c)
    (sized : Sized v img) where
  table_kept : (b : Bool) → Kept (space_of v b).limit (space_of v b).unit (system_of v b) (record { cells = (space_of v b).cell; blocks = block (space_of v b) img })
      (entry_units v b)
  table_kept b = record { owned = o.owned b; sized = sized b }

  table_edited : (b : Bool) → Edited (space_of v b).limit (space_of v b).unit (system_of v b) (record { cells = (space_of v b).cell; blocks = block (space_of v b) img })
      (get_or (entry_units v b) e []) (ws b) (c b) (record { cells = (space_of w b).cell; blocks = block (space_of w b) img' })
  table_edited b = record { cells = edit_cells o x b; blocks = (x.bytes b).bytes; sized = (x.bytes b).sized }

  edited_laid : (b : Bool) → laid (block (space_of w b) img') (ws b) ≡ c b
  edited_laid b =
      edited_content (space_of v b).limit (space_of v b).unit (o.lim b) (system_of v b) (record {
        cells =
            (space_of v b).cell;
        blocks = block (space_of v b) img;
      }) (entry_units v b) (table_kept b)
      e (in_entry_units o x b) (ws b) (edit_becomes o x b) (c b) (x.full b)
      (record { cells = (space_of w b).cell; blocks = block (space_of w b) img' }) (table_edited b)

  others_laid : (b : Bool) (i : ℕ) → i < length (entry_units v b) → i ≢ e →
      laid (block (space_of w b) img') (get_or (entry_units v b) i []) ≡ laid (block (space_of v b) img) (get_or (entry_units v b) i [])
  others_laid b =
      edited_others (space_of v b).limit (space_of v b).unit (o.lim b) (system_of v b) (record {
        cells =
            (space_of v b).cell;
        blocks = block (space_of v b) img;
      }) (entry_units v b) (table_kept b)
      e (in_entry_units o x b) (ws b) (edit_becomes o x b) (c b) (x.full b)
      (record { cells = (space_of w b).cell; blocks = block (space_of w b) img' }) (table_edited b)

  pub edited_contents : contents w img' e ≡ take new (c (ltb new cutoff))
  edited_contents =
      contents_read w img' e new (ws (ltb new cutoff)) x.size (edited_units o x)
      ∙ ap (take new) (edited_laid (ltb new cutoff))

  pub contents_other : (i : ℕ) → i < v.directory.count → i ≢ e → is_stream (v.directory.entry i) ≡ true → contents w img' i ≡ contents v img i
  unfolding entry_units
  contents_other i h z st =
      let n = stream_size v i in
      let side = ltb n cutoff in
      let k = entry_units_at o x side i h ∙ units_self v i st in
      contents_read w img' i n (stream_units v i) (size_other o x i z) (units_other o x i h z st)
      ∙ ap (take n) (subst (λ us. laid (block (space_of w side) img') us ≡ laid (block (space_of v side) img) us) k
      (others_laid side i (omega (arith, length_below v.directory.count (units_of v side))) z))
      ∙ sym (contents_read v img i n (stream_units v i) refl refl)
