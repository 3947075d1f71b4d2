-- DEMAND 3, for every geometry with sectors of at least one byte, from the frame laws.
use Prim.Native.Nat.{ℕ, zero, suc, ◌+◌, ◌<◌}
use mathlib.Core.Path.{◌≡◌, refl, sym, ap, ◌∙◌, subst}
use mathlib.Core.Logic.{◌↔◌}
use mathlib.Core.Bool.{Bool, true, false, cond}
use mathlib.Core.List.{List, [], ◌∷◌, map}
use native.Mathlib.Omega.{arith}
use lib.Dec.{ltb}
use lib.ListN.{length}
use borrow.Author.Tests.{ltb-false}
use Rattle.format.specs.Basics.Bytes.{Bytes}
use Rattle.format.specs.Layout.Geometry.{Geometry}
use Rattle.format.specs.Layout.Space.{free_units}
use Rattle.format.specs.Layout.Stream.{stream_size}
use Rattle.format.specs.Layout.Volume.{Volume, volume}
use Rattle.format.specs.Layout.Tree.{Forest}
use Rattle.format.specs.Rules.Version.{version_of}
use Rattle.format.specs.Rules.Verdict.{Accepted}
use Rattle.format.specs.Calls.Answer.{target, answer}
use Rattle.format.specs.Calls.Reply.{on_zero}
use Rattle.format.specs.Calls.Repair.{repair_answer}
use Rattle.format.specs.Calls.Paths.{Path}
use Rattle.format.specs.Calls.Find.{Found, at, refused, resolve_stream, answer_of, entry_of}
use Rattle.format.specs.Calls.SetLength.{crosses, too_few, resized}
use Rattle.format.specs.Calls.Move.{moved, length_changed}
use Rattle.format.specs.Calls.Overwrite.{overwritten}
use Rattle.format.specs.Calls.Call.{Call, validate, find, read, overwrite, set_length, create, remove, list, read_at}
use Rattle.format.specs.Calls.Buffers.{edited, image_after_by, image_after}
use Rattle.format.specs.History.Rows.{rows_of}
use Rattle.format.specs.History.Setting.{setting_of}
use Rattle.format.specs.History.State.{State, state_in, state_of}
use Rattle.format.specs.Fresh.Plan.{Plan, planned}
use Rattle.format.specs.Fresh.Image.{fresh_image}
use Rattle.format.specs.Fresh.Answer.{format_answer, formatted}
use Rattle.format.specs.History.Accepts.{accepts, accepts_repair}
use Rattle.format.specs.History.Step.{changed, change, state_step, put_into}
use Rattle.format.specs.History.Event.{Event, call, format, repair, image_step, after, event_step, state_after}
use Rattle.format.specs.History.Claim.{is_edit, Holds, Demand3}
use Rattle.theory.proofs.Tests.{clash}
use Rattle.theory.proofs.Refusals.{RefusedLow, resolve_stream_low, first_zero}
use Rattle.frame.specs.Frame.{Frame}
use Rattle.frame.proofs.Versions.{version_cases, accepted_version}
use Rattle.history.specs.Step.{Step, Next, CallStep, EventStep, After, length_rows}
use Rattle.history.proofs.Room.{allocated_sectors, allocated_minis}
use Rattle.history.proofs.AnswerNumbers.{cond_26_zero}
use Rattle.history.proofs.Answers.{answers_0_iff, answers_26_iff, write_answer, length_answer_lem}
use Rattle.history.proofs.EditStep.{preserved_itself, write_step}
use Rattle.history.proofs.LengthStep.{length_step}
use Rattle.history.proofs.MoveStep.{move_step}
use Rattle.history.proofs.Filled.{frame_sized, Sized}
use Rattle.fresh.proofs.Answer.{fresh_claim}
use Rattle.repair_laws.proofs.InHistory.{repair_step, repair_answered}
use Rattle.history.proofs.StateSame.{step_next}
use Rattle.history.proofs.CreateStep.{create_answered_0}
use Rattle.history.proofs.RemoveStep.{remove_answered_0}

on_zero_same : (n : ℕ) (x : Bytes) → on_zero n x x ≡ x
unfolding on_zero
on_zero_same zero x = refl
on_zero_same (suc n) x = refl

cond_24_zero : (t : Bool) → cond {A = ℕ} t 24 0 ≡ 0 → t ≡ false
cond_24_zero true h = absurd (omega arith)
cond_24_zero false h = refl

-- ---- a fresh image

-- it is accepted, and the state is its own; the answer is read off the state, which has the buffer's length
format_step : (img : Bytes) → Accepted (version_of img) img → (plan : Plan) → EventStep img (format plan)
unfolding image_step event_step formatted state_of state_in setting_of on_zero
format_step img acc plan = go (format_answer (length img) plan) refl
  where
    fresh : Bytes
    fresh = fresh_image (planned plan) plan

    go : (n : ℕ) → format_answer (length img) plan ≡ n → EventStep img (format plan)
    go zero e =
        let f = fresh_claim (length img) plan e in
        record {
          accepted = rw e (subst (λ (x : Geometry). Accepted x fresh) (sym f.version) f.accepted);
          state = rw e;
        }
    go (suc n) e = record { accepted = rw e acc; state = rw e }

module _ (g : Geometry) (pos : 0 < g.sector_bytes) (fr : Frame g) (img : Bytes) (acc : Accepted g img) where
  abbrev v : Volume
  v = volume g img

  abbrev sized : Sized v img
  sized = frame_sized fr img acc

  -- what holds of the image itself
  pub holds_now : (e : version_of img ≡ g) → Holds img (state_in g img)
  unfolding state_in state_of setting_of
  holds_now e =
      record {
        accepted = acc;
        state = ap (λ (x : Geometry). state_in x img) e;
        sectors = allocated_sectors g pos img acc sized;
        minis = allocated_minis g pos img acc sized;
        answers_zero = answers_0_iff g pos img acc sized;
        answers_full = answers_26_iff g pos img acc sized;
        answers_repair =
            subst (λ (x : Geometry). (spare : Bytes) (work : List ℕ) → (repair_answer x img spare work ≡ 0) ↔ (accepts_repair (state_in x img) spare work ≡ true)) e
            (repair_answered img (subst (λ (x : Geometry). Accepted x img) (sym e) acc));
      }

  unchanged_step : Next g img img (state_in g img)
  unchanged_step = record { accepted = acc; kept = preserved_itself g img acc; state = refl }

  -- ---- one call

  write_answered_0 : (p : Path) (offset : ℕ) (bytes : Bytes) (work : List ℕ) (f : Found) → resolve_stream v.directory p ≡ f → RefusedLow f →
      answer g img (overwrite p offset bytes work) ≡ 0 →
      Step g img (overwritten v img (entry_of f) offset bytes) (map (change p (put_into offset bytes)) (rows_of g img))
  unfolding answer_of entry_of
  write_answered_0 p offset bytes work (at e b) h l a =
      let r = (first_zero _ _ (first_zero _ _ (sym (write_answer g pos img acc sized p offset bytes work (at e b) h) ∙ a)).1).1 in
      write_step g pos fr img acc p offset bytes h (ltb-false (stream_size v e) (offset + length bytes) (cond_24_zero (ltb (stream_size v e) (offset + length bytes)) r))
  write_answered_0 p offset bytes work (refused n) h l a =
      let r = (first_zero _ _ (first_zero _ _ (sym (write_answer g pos img acc sized p offset bytes work (refused n) h) ∙ a)).1).0 in
      absurd (omega (arith, l.0))

  -- on one side of the cutoff, or across it
  any_length : (p : Path) (new : ℕ) {e : ℕ} {b : Forest} → resolve_stream v.directory p ≡ at e b
      → too_few g (length (free_units v.sectors)) (length (free_units v.minis)) (stream_size v e) new ≡ false
      → Step g img (length_changed v img e new) (length_rows p new (rows_of g img))
  unfolding length_changed volume
  any_length p new {e} h k = go (crosses (stream_size v e) new) refl
    where
      go : (t : Bool) → crosses (stream_size v e) new ≡ t → Step g img (cond t (moved g img e new) (resized v img e new)) (length_rows p new (rows_of g img))
      go true q = move_step g pos fr img acc p new h q k
      go false q = length_step g pos fr img acc p new h q k

  length_answered_0 : (p : Path) (new : ℕ) (work : List ℕ) (f : Found) → resolve_stream v.directory p ≡ f → RefusedLow f → answer g img (set_length p new work) ≡ 0 →
      Step g img (length_changed v img (entry_of f) new) (length_rows p new (rows_of g img))
  unfolding answer_of entry_of
  length_answered_0 p new work (at e b) h l a =
      let r = (first_zero _ _ (first_zero _ _ (sym (length_answer_lem g pos img acc sized p new work (at e b) h) ∙ a)).1).1 in
      let k = cond_26_zero (too_few g (length (free_units v.sectors)) (length (free_units v.minis)) (stream_size v e) new) r in
      any_length p new h k
  length_answered_0 p new work (refused n) h l a =
      let r = (first_zero _ _ (first_zero _ _ (sym (length_answer_lem g pos img acc sized p new work (refused n) h) ∙ a)).1).0 in
      absurd (omega (arith, l.0))

  accepted_step : (c : Call) → is_edit c ≡ true → answer g img c ≡ 0 → Next g img (edited v img c) (changed (state_in g img) c)
  unfolding is_edit edited changed target state_in
  accepted_step (validate work) h a = absurd (clash h refl)
  accepted_step (find p work) h a = absurd (clash h refl)
  accepted_step (read p offset out work) h a = absurd (clash h refl)
  accepted_step (overwrite p offset bytes work) h a =
      step_next g img _ _ (write_answered_0 p offset bytes work (resolve_stream v.directory p) refl (resolve_stream_low v.directory p) a)
  accepted_step (set_length p new work) h a =
      step_next g img _ _ (length_answered_0 p new work (resolve_stream v.directory p) refl (resolve_stream_low v.directory p) a)
  accepted_step (create made p work) h a = create_answered_0 g pos fr img acc made p work a
  accepted_step (remove p work) h a = remove_answered_0 g pos fr img acc p work a
  accepted_step (list out work) h a = absurd (clash h refl)
  accepted_step (read_at entry position out work) h a = absurd (clash h refl)

  edit_call : (c : Call) → is_edit c ≡ true → CallStep g img c
  unfolding image_after_by state_step on_zero
  edit_call c h = go (answer g img c) refl
    where
      says : (answer g img c ≡ 0) ↔ (accepts (state_in g img) c ≡ true)
      says = answers_0_iff g pos img acc sized c h

      refusal : (n : ℕ) → answer g img c ≡ suc n → (t : Bool) → accepts (state_in g img) c ≡ t → t ≡ false
      refusal n e true k = absurd (omega (arith, says.1 k))
      refusal n e false k = refl

      go : (n : ℕ) → answer g img c ≡ n → Next g img (on_zero n (edited v img c) img) (cond (accepts (state_in g img) c) (changed (state_in g img) c) (state_in g img))
      go zero e = rw (says.0 e) (accepted_step c h e)
      go (suc n) e = rw (refusal n e (accepts (state_in g img) c) refl) unchanged_step

  other_call : (c : Call) → edited v img c ≡ img → accepts (state_in g img) c ≡ false → Next g img (image_after_by g img c) (state_step (state_in g img) c)
  unfolding image_after_by state_step
  other_call c e a = rw (e, a, on_zero_same (answer g img c) img) unchanged_step

  pub call_step : (c : Call) → CallStep g img c
  unfolding edited accepts is_edit
  call_step (validate work) = other_call (validate work) refl refl
  call_step (find p work) = other_call (find p work) refl refl
  call_step (read p offset out work) = other_call (read p offset out work) refl refl
  call_step (overwrite p offset bytes work) = edit_call (overwrite p offset bytes work) refl
  call_step (set_length p new work) = edit_call (set_length p new work) refl
  call_step (create made p work) = edit_call (create made p work) refl
  call_step (remove p work) = edit_call (remove p work) refl
  call_step (list out work) = other_call (list out work) refl refl
  call_step (read_at entry position out work) = other_call (read_at entry position out work) refl refl

-- ---- every list of events: a call reads the image's version, and that stays, as it does in a repair; a fresh image brings its own

module _ (pos : (img : Bytes) → 0 < (version_of img).sector_bytes) (fr : (img : Bytes) → Frame (version_of img)) where
  event_step_lem : (img : Bytes) → Accepted (version_of img) img → (e : Event) → EventStep img e
  unfolding image_step event_step state_of
  event_step_lem img acc (call c) =
      let g = version_of img in
      let next = image_after img c in
      let s = call_step g (pos img) (fr img) img acc c in
      let v = accepted_version g next (version_cases img) s.accepted in
      record {
        accepted = subst (λ (x : Geometry). Accepted x next) (sym v) s.accepted;
        state = ap (λ (x : Geometry). state_in x next) v ∙ s.state;
      }
  event_step_lem img acc (format plan) = format_step img acc plan
  event_step_lem img acc (repair spare work) = let u = repair_step img spare work acc in record { accepted = u.accepted; state = u.state }

  list_after : (img : Bytes) (events : List Event) → Accepted (version_of img) img → After img events
  unfolding after state_after state_of
  list_after img [] acc = holds_now (version_of img) (pos img) (fr img) img acc refl
  list_after img (e ∷ events) acc =
      let next = image_step img e in
      let s = event_step_lem img acc e in
      subst (λ (st : State). Holds (after next events) (state_after st events)) s.state
      (list_after next events s.accepted)

  pub demand3 : Demand3
  demand3 = list_after
