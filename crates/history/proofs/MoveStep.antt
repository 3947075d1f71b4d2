-- A change of length across the cutoff that answers 0, from its three steps.
use Prim.Native.Nat.{ℕ, ◌≤◌, ◌<◌}
use mathlib.Core.Path.{◌≡◌, refl, sym, ap, ◌∙◌}
use mathlib.Core.Bool.{true, false}
use mathlib.Core.List.{[], map}
use native.Mathlib.Omega.{arith}
use lib.Dec.{ltb}
use lib.ListN.{length, take, length-take}
use borrow.Author.Tests.{ltb-false}
use Rattle.format.specs.Basics.Bytes.{Bytes}
use Rattle.format.specs.Basics.Lists.{fit}
use Rattle.format.specs.Layout.Geometry.{Geometry}
use Rattle.format.specs.Layout.Need.{cutoff, round_up}
use Rattle.format.specs.Layout.Space.{free_units}
use Rattle.format.specs.Layout.Entry.{is_stream}
use Rattle.format.specs.Layout.Directory.{Directory}
use Rattle.format.specs.Layout.Tree.{Forest, forest}
use Rattle.format.specs.Layout.Stream.{stream_size, contents}
use Rattle.format.specs.Layout.Volume.{Volume, volume}
use Rattle.format.specs.Rules.Verdict.{Accepted}
use Rattle.format.specs.Calls.Paths.{Path}
use Rattle.format.specs.Calls.Find.{at, resolve_stream}
use Rattle.format.specs.Calls.SetLength.{crosses, too_few, resized}
use Rattle.format.specs.Calls.Overwrite.{overwritten}
use Rattle.format.specs.Calls.Move.{moved}
use Rattle.format.specs.History.Rows.{rows_of}
use Rattle.format.specs.History.Step.{change, put_into}
use Rattle.frame.specs.Frame.{Frame}
use Rattle.frame.specs.Good.{space_of, Good}
use Rattle.frame.proofs.Good.{accepted_good}
use Rattle.frame.proofs.EntryFacts.{root_plain_lem}
use Rattle.history.proofs.Filled.{Sized, frame_sized}
use Rattle.history.proofs.Counting.{inside_forest}
use Rattle.history.proofs.Rows.{rows_changed}
use Rattle.history.proofs.Finding.{is_stream_lem, is_inside, hit_is_found, found_hit_everywhere}
use Rattle.history.proofs.EditStep.{preserved_trans, write_step}
use Rattle.history.proofs.LengthStep.{alike_itself, resize_step}
use Rattle.history.proofs.Moving.{move_room, cut_may, grow_may, grow_size}
use Rattle.history.proofs.MoveRows.{change_change, kept_fit}
use Rattle.history.specs.Alike.{Alike}
use Rattle.history.specs.Step.{Step, length_rows}

-- one after the other
alike_on : {a c : Directory} (b : Directory) → Alike b c → Alike a b → Alike a c
alike_on b y x =
    record {
      count = y.count ∙ x.count;
      name = λ i. y.name i ∙ x.name i;
      kind = λ i. y.kind i ∙ x.kind i;
      colour = λ i. y.colour i ∙ x.colour i;
      left = λ i. y.left i ∙ x.left i;
      right = λ i. y.right i ∙ x.right i;
      child = λ i. y.child i ∙ x.child i;
    }

module _ (g : Geometry) (pos : 0 < g.sector_bytes) (fr : Frame g) (img : Bytes) (acc : Accepted g img) (p : Path) (new : ℕ) {e : ℕ} {b : Forest}
    (found : resolve_stream (volume g img).directory p ≡ at e b) (over : crosses (stream_size (volume g img) e) new ≡ true)
    (room : too_few g (length (free_units (volume g img).sectors)) (length (free_units (volume g img).minis)) (stream_size (volume g img) e) new ≡ false) where
  abbrev v : Volume
  v = volume g img

  abbrev good : Good v
  good = accepted_good g img pos acc

  abbrev sized : Sized v img
  sized = frame_sized fr img acc

  root_plain : is_stream (v.directory.entry 0) ≡ false
  root_plain = root_plain_lem g img good

  stream : is_stream (v.directory.entry e) ≡ true
  stream = is_stream_lem v img good sized root_plain p found

  inside : e < v.directory.count
  inside = is_inside v img good sized root_plain p found

  enough : let sp = space_of v (ltb new cutoff) in round_up new sp.unit ≤ length (free_units sp)
  enough = ltb-false _ _ (sym (move_room g img (stream_size v e) new over) ∙ room)

  abbrev kept : Bytes
  kept = take new (contents v img e)

  abbrev cut : Bytes
  cut = resized v img e 0

  abbrev grown : Bytes
  grown = resized (volume g cut) cut e new

  -- ---- the steps

  cut_step : Step g img cut (length_rows p 0 (rows_of g img))
  cut_step = resize_step g pos fr img acc p 0 found (cut_may g pos fr img acc e new inside stream over enough)

  grow_step : Step g cut grown (length_rows p new (rows_of g cut))
  grow_step = resize_step g pos fr cut cut_step.accepted p new (cut_step.found p ∙ found) (grow_may g pos fr img acc e new inside stream over enough)

  put_step : Step g grown (overwritten (volume g grown) grown e 0 kept) (map (change p (put_into 0 kept)) (rows_of g grown))
  put_step =
      write_step g pos fr grown grow_step.accepted p 0 kept (grow_step.found p ∙ cut_step.found p ∙ found)
      (omega (arith, grow_size g pos fr img acc e new inside stream over enough, length-take new (contents v img e)))

  -- ---- the rows

  rows_constant : rows_of g img ≡ map (change p (λ x. contents v img e)) (rows_of g img)
  unfolding rows_of
  rows_constant =
      rows_changed v v img img e p (λ x. contents v img e) (alike_itself v) refl (λ i q z st. refl) stream [] (forest v.directory)
      (inside_forest v img good sized) (hit_is_found v img good sized root_plain p found) (found_hit_everywhere v img good sized root_plain p found)

  -- on these rows a change is told by what it does to the stream's bytes
  change_at : (f h : Bytes → Bytes) → f (contents v img e) ≡ h (contents v img e) → map (change p f) (rows_of g img) ≡ map (change p h) (rows_of g img)
  change_at f h q =
      ap (map (change p f)) rows_constant ∙ change_change p f (λ x. contents v img e) (rows_of g img)
      ∙ ap (λ (c : Bytes). map (change p (λ x. c)) (rows_of g img)) q
      ∙ sym (ap (map (change p h)) rows_constant ∙ change_change p h (λ x. contents v img e) (rows_of g img))

  pub move_step : Step g img (moved g img e new) (length_rows p new (rows_of g img))
  unfolding moved
  move_step =
      record {
        accepted = put_step.accepted;
        kept = preserved_trans (preserved_trans cut_step.kept grow_step.kept) put_step.kept;
        setting = put_step.setting ∙ grow_step.setting ∙ cut_step.setting;
        alike = alike_on (volume g cut).directory (alike_on (volume g grown).directory put_step.alike grow_step.alike) cut_step.alike;
        rows =
            put_step.rows
            ∙ ap (map (change p (put_into 0 kept))) (grow_step.rows ∙ ap (length_rows p new) cut_step.rows)
            ∙ ap (map (change p (put_into 0 kept))) (change_change p (fit new) (fit 0) (rows_of g img))
            ∙ change_change p (put_into 0 kept) (λ x. fit new (fit 0 x)) (rows_of g img)
            ∙ change_at (λ x. put_into 0 kept (fit new (fit 0 x))) (fit new) (kept_fit new (contents v img e));
        found = λ q. put_step.found q ∙ grow_step.found q ∙ cut_step.found q;
      }
