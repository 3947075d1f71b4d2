-- A change of length that answers 0 leaves an accepted image, with the same setting and the row cut or filled up.
use Prim.Native.Nat.{ℕ, ◌+◌, ◌≤◌, ◌<◌, max}
use mathlib.Core.Path.{◌≡◌, refl, sym, ap, ◌∙◌, subst}
use mathlib.Core.Logic.{◌≢◌, ◌⊎◌, inl, inr}
use mathlib.Core.Bool.{Bool, true, false, cond}
use mathlib.Core.List.{[]}
use native.Mathlib.Omega.{arith}
use native.Mathlib.Decide.{ℕ_discrete}
use lib.Dec.{ltb}
use lib.ListN.{length}
use borrow.Author.Tests.{ne_eqb, ltb-false, eq-eqb}
use Rattle.format.specs.Basics.Bytes.{Bytes}
use Rattle.format.specs.Basics.Lists.{fit}
use Rattle.format.specs.Layout.Geometry.{Geometry, mini_bytes}
use Rattle.format.specs.Layout.Need.{cutoff, round_up, mini_need, sector_need}
use Rattle.format.specs.Layout.Space.{free_units}
use Rattle.format.specs.Layout.Entry.{is_stream}
use Rattle.format.specs.Layout.Tree.{forest, Forest}
use Rattle.format.specs.Layout.Stream.{space_for, stream_units, stream_size, contents}
use Rattle.format.specs.Layout.Volume.{Volume, volume, mini_space}
use Rattle.format.specs.Layout.Tables.{sector_space}
use Rattle.format.specs.Rules.Verdict.{Accepted}
use Rattle.format.specs.Calls.Paths.{Path}
use Rattle.format.specs.Calls.Find.{at, resolve_stream}
use Rattle.format.specs.Calls.SetLength.{crosses, too_few, edit_space, resized}
use Rattle.format.specs.History.Rows.{rows_of}
use Rattle.theory.proofs.RoundUp.{round_zero}
use Rattle.theory.proofs.Tests.{neither}
use Rattle.theory.proofs.Fits.{fit_same}
use Rattle.frame.specs.Edits.{MayResize}
use Rattle.frame.specs.Frame.{Frame}
use Rattle.frame.specs.Good.{space_of, Good}
use Rattle.frame.proofs.Good.{accepted_good}
use Rattle.history.proofs.Filled.{length_contents, frame_sized, Sized}
use Rattle.history.proofs.Counting.{inside_forest}
use Rattle.history.proofs.Rows.{rows_changed}
use Rattle.history.proofs.Finding.{is_stream_lem, is_inside, hit_is_found, found_hit_everywhere}
use Rattle.frame.proofs.LengthUnits.{sides_uncrossed, old_units_length}
use Rattle.history.proofs.Resized.{resize_changed, resize_contents}
use Rattle.history.proofs.EditStep.{preserved_itself, edit_step}
use Rattle.frame.proofs.EntryFacts.{root_plain_lem}
use Rattle.history.specs.Alike.{Alike}
use Rattle.history.specs.Step.{Step, length_rows, Enough}

-- the same directory is like itself
pub alike_itself : (v : Volume) → Alike v.directory v.directory
alike_itself v = record { count = refl; name = λ i. refl; kind = λ i. refl; colour = λ i. refl; left = λ i. refl; right = λ i. refl; child = λ i. refl }

pub resized_same : (v : Volume) (img : Bytes) (e new : ℕ) → new ≡ stream_size v e → resized v img e new ≡ img
unfolding resized
resized_same v img e new z = rw (eq-eqb new (stream_size v e) z)

-- the needs, by space
needs_in_space : (g : Geometry) (img : Bytes) (old new : ℕ) (side : Bool) → ltb new cutoff ≡ side →
    (sector_need g new ≤ sector_need g old + length (free_units (volume g img).sectors)) × (mini_need new ≤ mini_need old + length (free_units (volume g img).minis)) →
    (n : ℕ) → n ≡ round_up old (space_of (volume g img) side).unit → round_up new (space_of (volume g img) side).unit ≤ n + length (free_units (space_of (volume g img) side))
unfolding sector_need mini_need volume sector_space mini_space
needs_in_space g img old new true h r n e =
    need_le (ltb old cutoff) (round_up old mini_bytes) (round_up new mini_bytes) (length (free_units (volume g img).minis)) n e (rw h at r.1)
  where
    need_le : (t : Bool) (a b k n : ℕ) → n ≡ a → b ≤ cond t a 0 + k → b ≤ n + k
    need_le true a b k n e h = omega arith
    need_le false a b k n e h = omega arith
needs_in_space g img old new false h r n e =
    need_le (ltb old cutoff) (round_up old g.sector_bytes) (round_up new g.sector_bytes) (length (free_units (volume g img).sectors)) n e (rw h at r.0)
  where
    need_le : (t : Bool) (a b k n : ℕ) → n ≡ a → b ≤ cond t 0 a + k → b ≤ n + k
    need_le true a b k n e h = omega arith
    need_le false a b k n e h = omega arith

module _ (g : Geometry) (pos : 0 < g.sector_bytes) (fr : Frame g) (img : Bytes) (acc : Accepted g img) where
  abbrev v : Volume
  v = volume g img

  abbrev good : Good v
  good = accepted_good g img pos acc

  abbrev sized : Sized v img
  sized = frame_sized fr img acc

  root_plain : is_stream (v.directory.entry 0) ≡ false
  root_plain = root_plain_lem g img good

  -- another length
  pub resize_step : (p : Path) (new : ℕ) {e : ℕ} {b : Forest} → resolve_stream v.directory p ≡ at e b → MayResize g img e new
      → Step g img (resized v img e new) (length_rows p new (rows_of g img))
  resize_step p new {e} found may =
      edit_step g pos fr img acc p found (resized v img e new) (fit new)
      (resize_changed g pos fr img acc e new may) (fr.resizing img e new may).kept (resize_contents g pos fr img acc e new may)

  module _ (p : Path) (new : ℕ) {e : ℕ} {b : Forest} (found : resolve_stream v.directory p ≡ at e b) (within : crosses (stream_size v e) new ≡ false)
      (room : too_few g (length (free_units v.sectors)) (length (free_units v.minis)) (stream_size v e) new ≡ false) where
    abbrev old : ℕ
    old = stream_size v e

    stream : is_stream (v.directory.entry e) ≡ true
    stream = is_stream_lem v img good sized root_plain p found

    inside : e < v.directory.count
    inside = is_inside v img good sized root_plain p found

    same_length_rows : contents v img e ≡ fit new (contents v img e) → rows_of g img ≡ length_rows p new (rows_of g img)
    unfolding rows_of
    same_length_rows h =
        rows_changed v v img img e p (fit new) (alike_itself v) h (λ i q z st. refl) stream [] (forest v.directory)
        (inside_forest v img good sized) (hit_is_found v img good sized root_plain p found) (found_hit_everywhere v img good sized root_plain p found)

    same_step : new ≡ old → Step g img img (length_rows p new (rows_of g img))
    same_step z =
        record {
          accepted = acc;
          kept = preserved_itself g img acc;
          setting = refl;
          rows = same_length_rows (sym (ap (λ n. fit n (contents v img e)) (z ∙ sym (length_contents v img good sized e inside stream)) ∙ fit_same (contents v img e)));
          alike = alike_itself v;
          found = λ q. refl;
        }

    -- room enough, in the space of the edit
    needs_fit : (sector_need g new ≤ sector_need g old + length (free_units v.sectors)) × (mini_need new ≤ mini_need old + length (free_units v.minis))
    unfolding too_few
    needs_fit =
        let a = sector_need g old + length (free_units v.sectors) in
        let b = mini_need old + length (free_units v.minis) in (
          ltb-false a (sector_need g new) (neither (ltb a (sector_need g new)) (ltb b (mini_need new)) room).0,
          ltb-false b (mini_need new) (neither (ltb a (sector_need g new)) (ltb b (mini_need new)) room).1,
        )

    abbrev side : Bool
    side = ltb (max old new) cutoff

    sides : ((ltb old cutoff ≡ side) ⊎ (old ≡ 0)) × ((ltb new cutoff ≡ side) ⊎ (new ≡ 0))
    sides = sides_uncrossed old new within

    enough : Enough (space_of v side) (stream_units v e) new
    enough =
        elim sides.1 [
          | inr z ↦ omega (arith, ap (λ n. round_up n (space_of v side).unit) z, round_zero (space_of v side).unit (good.unit side))
          | inl h ↦ needs_in_space g img old new side h needs_fit (length (stream_units v e)) (old_units_length v good e new inside stream within)
        ]

    -- another length may be given
    pub length_may : new ≢ old → MayResize g img e new
    unfolding edit_space space_for
    length_may z =
        record {
          accepted = acc;
          inside = inside;
          stream = stream;
          differs = ne_eqb new old z;
          within = within;
          enough = enough;
        }

    pub length_step : Step g img (resized v img e new) (length_rows p new (rows_of g img))
    length_step =
        elim (ℕ_discrete new old) [
          | yes z ↦ subst (λ i. Step g img i (length_rows p new (rows_of g img))) (sym (resized_same v img e new z)) (same_step z)
          | no z ↦ resize_step p new found (length_may z)
        ]
