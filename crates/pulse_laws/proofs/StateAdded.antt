-- The two calls of an addition, by the state: the stream's row gets the pulse, and no other row changes.
use Prim.Native.Nat.{ℕ, ◌+◌, ◌-◌, ◌≤◌}
use mathlib.Core.Path.{◌≡◌, sym, ap, ◌∙◌}
use mathlib.Core.Bool.{true, false, not, ◌&&◌}
use mathlib.Core.List.{List, [], ◌∷◌, map}
use native.Mathlib.Omega.{arith}
use lib.Dec.{leb}
use lib.ListN.{length}
use borrow.Author.Tests.{le-leb}
use Rattle.format.specs.Basics.Lists.{fit}
use Rattle.format.specs.Basics.Bytes.{Bytes}
use Rattle.format.specs.Layout.PathOrder.{same_path}
use Rattle.format.specs.Calls.Paths.{Path, names}
use Rattle.format.specs.Calls.Call.{overwrite, set_length}
use Rattle.format.specs.History.Rows.{Row, has_row, row_length}
use Rattle.format.specs.History.State.{State, with_rows}
use Rattle.format.specs.History.Accepts.{reaches_row, lacks_room, accepts}
use Rattle.format.specs.History.Step.{change, put_into, changed, state_step}
use Rattle.format.specs.History.Event.{call, event_step, state_after}
use Rattle.theory.proofs.Tests.{both}
use Rattle.theory.proofs.Fits.{length_fit}
use Rattle.theory.proofs.Trees.PathOrder.{same_self}
use Rattle.pulse_laws.specs.Pulse.{Pulse}
use Rattle.pulse_laws.specs.Added.{longer, trailer_place, tail, with_pulse}
use Rattle.pulse_laws.proofs.Added.{tail_length}
use Rattle.pulse_laws.proofs.RowBytes.{row_bytes, row_length_is}
use Rattle.pulse_laws.proofs.RowEdits.{RowStays, has_row_changed, row_changed, row_left, same_row}

accepted_row : (s : State) (q : Path) (n : ℕ) (work : List ℕ) → accepts s (set_length q n work) ≡ true →
    (leb s.setting.work (length work) ≡ true) × (has_row s.rows q ≡ true)
unfolding accepts reaches_row
accepted_row s q n work h =
    let a = leb s.setting.work (length work) in
    both a (has_row s.rows q) (both (a && has_row s.rows q) (not (lacks_room s.setting s.rows q n)) h).0

module _ (s : State) (q : Path) (p : Pulse) (work : List ℕ) (b : Bytes) (is : b ≡ row_bytes s.rows q) (long : 16 ≤ length b)
    (first : accepts s (set_length q (longer b) work) ≡ true) where
  abbrev pub rows1 : List Row
  rows1 = map (change q (fit (longer b))) s.rows

  abbrev pub rows2 : List Row
  rows2 = map (change q (put_into (trailer_place b) (tail b p))) rows1

  there : has_row s.rows q ≡ true
  there = (accepted_row s q (longer b) work first).1

  pub step_first : state_step s (set_length q (longer b) work) ≡ with_rows s rows1
  unfolding state_step changed
  step_first = rw first

  length_first : row_length rows1 q ≡ length b + 8
  unfolding longer
  length_first = row_length_is rows1 q ∙ ap length (row_changed s.rows q q (fit (longer b)) (same_self (names q)) there) ∙ length_fit (longer b) (row_bytes s.rows q)

  pub second : accepts (with_rows s rows1) (overwrite q (trailer_place b) (tail b p) work) ≡ true
  unfolding accepts reaches_row trailer_place with_rows
  second =
      rw ((accepted_row s q (longer b) work first).0, has_row_changed s.rows q q (fit (longer b)), there)
      (le-leb (length b - 16 + length (tail b p)) (row_length rows1 q) (omega (arith, tail_length b p, length_first)))

  step_second : state_step (with_rows s rows1) (overwrite q (trailer_place b) (tail b p) work) ≡ with_rows s rows2
  unfolding state_step changed with_rows
  step_second = rw second

  pub state_both : state_after s (call (set_length q (longer b) work) ∷ call (overwrite q (trailer_place b) (tail b p) work) ∷ []) ≡ with_rows s rows2
  unfolding state_after event_step
  state_both = ap (λ (t : State). state_step t (overwrite q (trailer_place b) (tail b p) work)) step_first ∙ step_second

  -- the stream itself, by whatever equal path, and any other
  pub added_row : (to : Path) → same_path (names q) (names to) ≡ true → (row_bytes rows2 to ≡ with_pulse (row_bytes s.rows to) p) × (has_row rows2 to ≡ true)
  unfolding with_pulse put_into
  added_row to h =
      let rows = s.rows in
      let k = same_row rows q to h in
      let here : has_row rows to ≡ true = sym k.1 ∙ there in
      let here1 : has_row rows1 to ≡ true = has_row_changed rows q to (fit (longer b)) ∙ here in
      let m : row_bytes rows to ≡ b = sym k.0 ∙ sym is in (
        row_changed rows1 q to (put_into (trailer_place b) (tail b p)) h here1
            ∙ ap (put_into (trailer_place b) (tail b p)) (row_changed rows q to (fit (longer b)) h here ∙ ap (fit (longer b)) m)
            ∙ ap (λ (x : Bytes). with_pulse x p) (sym m),
        has_row_changed rows1 q to (put_into (trailer_place b) (tail b p)) ∙ here1,
      )

  pub other_row : (to : Path) → same_path (names q) (names to) ≡ false → RowStays s.rows rows2 to
  other_row to h =
      record {
        bytes = row_left rows1 q to (put_into (trailer_place b) (tail b p)) h ∙ row_left s.rows q to (fit (longer b)) h;
        there = has_row_changed rows1 q to (put_into (trailer_place b) (tail b p)) ∙ has_row_changed s.rows q to (fit (longer b));
      }
