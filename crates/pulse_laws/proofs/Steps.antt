-- What one action of a list adds to a stream, and what the whole list does. From demand 3 alone.
use Prim.Native.Nat.{ℕ, zero, suc}
use mathlib.Core.Path.{◌≡◌, refl, sym, ap, ◌∙◌, subst}
use mathlib.Core.Bool.{Bool, true, false, not, cond, ◌&&◌}
use mathlib.Core.List.{List, [], ◌∷◌, ◌++◌}
use native.Mathlib.Omega.{arith}
use lib.Dec.{eqb}
use lib.ListN.{length}
use borrow.Author.Tests.{ne_eqb, le-leb, not-true}
use Rattle.format.specs.Basics.Lists.{all}
use Rattle.format.specs.Basics.Bytes.{Bytes}
use Rattle.format.specs.Layout.PathOrder.{same_path}
use Rattle.format.specs.Rules.Version.{version_of, own_volume}
use Rattle.format.specs.Rules.Verdict.{Accepted}
use Rattle.format.specs.Calls.Paths.{Path, names}
use Rattle.format.specs.Calls.Call.{Call, overwrite, set_length}
use Rattle.format.specs.Calls.Answer.{answer}
use Rattle.format.specs.Calls.Reply.{on_zero}
use Rattle.format.specs.Calls.Buffers.{edited, image_after_by}
use Rattle.format.specs.Fresh.Plan.{Plan, planned}
use Rattle.format.specs.Fresh.Image.{fresh_image}
use Rattle.format.specs.Fresh.Answer.{format_answer, formatted}
use Rattle.format.specs.History.Rows.{has_row}
use Rattle.format.specs.History.State.{State, state_of, with_rows}
use Rattle.format.specs.History.Accepts.{accepts}
use Rattle.format.specs.History.Event.{Event, call, format, repair, image_step, after, event_step, state_after}
use Rattle.format.specs.History.Claim.{is_edit, Holds}
use Rattle.theory.proofs.Tests.{both, clash, all_joined}
use Rattle.history.proofs.Demand3.{demand3}
use Rattle.history.proofs.OwnVersion.{own_accepted, own_answers_zero}
use Rattle.pulse_laws.specs.Pulse.{Pulse}
use Rattle.pulse_laws.specs.Added.{longer, trailer_place, tail}
use Rattle.pulse_laws.specs.Calls.{contents_at, grow_answer, add_answer, grown, add_events, counts_as}
use Rattle.pulse_laws.specs.Actions.{Action, add, other, events_for, after_action, events_for_all, after_actions, pulse_fits, action_fits, edits_path, edits, leaves, nothing_else_edits, adds_to, pulses_of, pulses_added}
use Rattle.pulse_laws.specs.Claim.{Demand3Actions, OverwriteAccepted}
use Rattle.pulse_laws.proofs.PulseStreams.{pulses_say}
use Rattle.pulse_laws.proofs.Runs.{with_pulses, with_append, pulse_right}
use Rattle.pulse_laws.proofs.RowBytes.{row_bytes}
use Rattle.pulse_laws.proofs.RowEdits.{RowStays}
use Rattle.pulse_laws.proofs.StateEdits.{step_setting, step_left}
use Rattle.pulse_laws.proofs.StateAdded.{step_first, second, state_both, added_row, other_row, rows2}
use Rattle.pulse_laws.proofs.Streams.{stream_meant}
use Rattle.pulse_laws.proofs.Zeros.{CanAdd, add_zero}

-- ---- demand 3 with additions in the list

pub demand3_actions : Demand3Actions
unfolding after_actions
demand3_actions img actions acc = demand3 img (events_for_all img actions) acc

-- ---- what stays, and what a stream has gained

pub record Gained (img now : Bytes) (to : Path) (ps : List Pulse) : Type 0 where
  pub accepted : Accepted (version_of now) now
  pub setting : (state_of now).setting ≡ (state_of img).setting
  pub there : has_row (state_of now).rows to ≡ true
  pub bytes : row_bytes (state_of now).rows to ≡ with_pulses (row_bytes (state_of img).rows to) ps
  pub right : all pulse_right ps ≡ true

same_gained : (img : Bytes) (to : Path) → Accepted (version_of img) img → has_row (state_of img).rows to ≡ true → Gained img img to []
unfolding with_pulses all
same_gained img to acc h = record { accepted = acc; setting = refl; there = h; bytes = refl; right = refl }

-- from demand 3: events that leave the setting and the row
stays_gained : (img : Bytes) (events : List Event) (to : Path) → Accepted (version_of img) img → has_row (state_of img).rows to ≡ true →
    (state_after (state_of img) events).setting ≡ (state_of img).setting → RowStays (state_of img).rows (state_after (state_of img) events).rows to
    → Gained img (after img events) to []
unfolding with_pulses all
stays_gained img events to acc h q k =
    let o = demand3 img events acc in
    record {
      accepted = own_accepted (after img events) (state_after (state_of img) events) o;
      setting = ap (λ (s : State). s.setting) o.state ∙ q;
      there = ap (λ (s : State). has_row s.rows to) o.state ∙ k.there ∙ h;
      bytes = ap (λ (s : State). row_bytes s.rows to) o.state ∙ k.bytes;
      right = refl;
    }

-- ---- events other than additions

refused_same : (n : ℕ) (x y : Bytes) → eqb n 0 ≡ false → on_zero n x y ≡ y
unfolding on_zero
refused_same zero x y h = absurd (clash refl h)
refused_same (suc n) x y h = refl

call_gained : (img : Bytes) (to : Path) (c : Call) → Accepted (version_of img) img → has_row (state_of img).rows to ≡ true →
    not (edits_path to c && eqb (answer (version_of img) img c) 0) ≡ true → Gained img (after img (call c ∷ [])) to []
unfolding after image_step image_after_by state_after event_step
call_gained img to c acc h l = go (edits_path to c) refl (eqb (answer (version_of img) img c) 0) refl l
  where
    go : (t : Bool) → edits_path to c ≡ t → (u : Bool) → eqb (answer (version_of img) img c) 0 ≡ u → not (t && u) ≡ true → Gained img (after img (call c ∷ [])) to []
    go false e u k l = stays_gained img (call c ∷ []) to acc h (step_setting (state_of img) c) (step_left (state_of img) to c e)
    go true e true k l = absurd (clash l refl)
    go true e false k l =
        subst (λ (i : Bytes). Gained img i to []) (sym (refused_same (answer (version_of img) img c) (edited (own_volume img) img c) img k)) (same_gained img to acc h)

-- a fresh image is an edit, but for a refusal
format_gained : (img : Bytes) (to : Path) (plan : Plan) → Accepted (version_of img) img → has_row (state_of img).rows to ≡ true →
    not (eqb (format_answer (length img) plan) 0) ≡ true → Gained img (after img (format plan ∷ [])) to []
unfolding after image_step formatted
format_gained img to plan acc h l =
    let n = format_answer (length img) plan in
    subst (λ (i : Bytes). Gained img i to []) (sym (refused_same n (fresh_image (planned plan) plan) img (not-true (eqb n 0) l))) (same_gained img to acc h)

-- a repair changes nothing of which the state tells
repair_gained : (img : Bytes) (to : Path) (spare : Bytes) (work : List ℕ) → Accepted (version_of img) img → has_row (state_of img).rows to ≡ true →
    Gained img (after img (repair spare work ∷ [])) to []
unfolding state_after event_step
repair_gained img to spare work acc h = stays_gained img (repair spare work ∷ []) to acc h refl (record { bytes = refl; there = refl })

-- ---- an accepted addition, to the stream q

module _ (img : Bytes) (q : Path) (p : Pulse) (work : List ℕ) (z : CanAdd img q p work) where
  abbrev b : Bytes
  b = contents_at img q

  abbrev s : State
  s = state_of img

  abbrev events : List Event
  events = call (set_length q (longer b) work) ∷ call (overwrite q (trailer_place b) (tail b p) work) ∷ []

  acc : Accepted (version_of img) img
  acc = z.readable.accepted

  is : b ≡ row_bytes s.rows q
  is = (stream_meant img acc q z.readable.there).bytes

  first : accepts s (set_length q (longer b) work) ≡ true
  unfolding grow_answer after state_after is_edit
  first = (own_answers_zero img s (demand3 img [] acc) (set_length q (longer b) work) refl).0 z.grow

  now_state : Holds (after img events) (state_after s events)
  now_state = demand3 img events acc

  both_state : state_after s events ≡ with_rows s (rows2 s q p work b is (pulses_say b z.readable.pulses).long first)
  both_state = state_both s q p work b is (pulses_say b z.readable.pulses).long first

  added_gained : (to : Path) → pulse_fits p ≡ true → same_path (names q) (names to) ≡ true → Gained img (after img events) to (p ∷ [])
  unfolding with_pulses all pulse_right with_rows
  added_gained to f h =
      let k = added_row s q p work b is (pulses_say b z.readable.pulses).long first to h in
      let e = now_state.state ∙ both_state in
      record {
        accepted = own_accepted (after img events) (state_after s events) now_state;
        setting = ap (λ (t : State). t.setting) e;
        there = ap (λ (t : State). has_row t.rows to) e ∙ k.1;
        bytes = ap (λ (t : State). row_bytes t.rows to) e ∙ k.0;
        right = rw (f, le-leb 1 p.ticks z.some);
      }

  elsewhere_gained : (to : Path) → has_row s.rows to ≡ true → same_path (names q) (names to) ≡ false → Gained img (after img events) to []
  unfolding with_rows
  elsewhere_gained to t h =
      stays_gained img events to acc t (ap (λ (x : State). x.setting) both_state)
      (subst (λ (x : State). RowStays s.rows x.rows to) (sym both_state)
      (other_row s q p work b is (pulses_say b z.readable.pulses).long first to h))

  -- its overwrite is accepted
  then_accepted : answer (version_of (grown img q work)) (grown img q work) (overwrite q (trailer_place b) (tail b p) work) ≡ 0
  unfolding grown after image_step state_after event_step is_edit
  then_accepted =
      let c = overwrite q (trailer_place b) (tail b p) work in
      let e = call (set_length q (longer b) work) in
      let long = (pulses_say b z.readable.pulses).long in
      (own_answers_zero (after img (e ∷ [])) (state_after s (e ∷ [])) (demand3 img (e ∷ []) acc) c refl).1
      (ap (λ (t : State). accepts t c) (step_first s q p work b is long first) ∙ second s q p work b is long first)

pub overwrite_accepted : OverwriteAccepted
overwrite_accepted img q p work h = then_accepted img q p work (add_zero img q p work h)

-- ---- one action

add_gained : (img : Bytes) (to q : Path) (p : Pulse) (work : List ℕ) → pulse_fits p ≡ true → Accepted (version_of img) img → has_row (state_of img).rows to ≡ true →
    Gained img (after img (counts_as img q p work)) to (cond (adds_to img to q p work) (p ∷ []) [])
unfolding counts_as add_events adds_to on_zero after
add_gained img to q p work f acc h = go (add_answer img q p work) refl (same_path (names q) (names to)) refl
  where
    go : (n : ℕ) → add_answer img q p work ≡ n → (t : Bool) → same_path (names q) (names to) ≡ t →
        Gained img (after img (on_zero n (add_events img q p work) [])) to (cond (t && eqb n 0) (p ∷ []) [])
    go zero e true k = added_gained img q p work (add_zero img q p work e) to f k
    go zero e false k = elsewhere_gained img q p work (add_zero img q p work e) to h k
    go (suc n) e true k = rw (ne_eqb (suc n) 0 (λ z. absurd (omega arith))) (same_gained img to acc h)
    go (suc n) e false k = same_gained img to acc h

action_gained : (img : Bytes) (to : Path) (a : Action) → action_fits a ≡ true → leaves img to a ≡ true → Accepted (version_of img) img → has_row (state_of img).rows to ≡ true →
    Gained img (after_action img a) to (pulses_of img to a)
unfolding after_action events_for action_fits leaves edits pulses_of
action_gained img to (add q p work) r l acc h = add_gained img to q p work r acc h
action_gained img to (other (call c)) r l acc h = call_gained img to c acc h l
action_gained img to (other (format plan)) r l acc h = format_gained img to plan acc h l
action_gained img to (other (repair spare work)) r l acc h = repair_gained img to spare work acc h

-- ---- the whole list

after_append : (img : Bytes) (es fs : List Event) → after img (es ++ fs) ≡ after (after img es) fs
unfolding after
after_append img [] fs = refl
after_append img (e ∷ es) fs = after_append (image_step img e) es fs

then_gained : (img mid now : Bytes) (to : Path) (ps qs : List Pulse) → Gained img mid to ps → Gained mid now to qs → Gained img now to (ps ++ qs)
then_gained img mid now to ps qs a c =
    record {
      accepted = c.accepted;
      setting = c.setting ∙ a.setting;
      there = c.there;
      bytes = c.bytes ∙ ap (λ (x : Bytes). with_pulses x qs) a.bytes ∙ sym (with_append (row_bytes (state_of img).rows to) ps qs);
      right = all_joined pulse_right ps qs a.right c.right;
    }

pub list_gained : (img : Bytes) (to : Path) (actions : List Action) → all action_fits actions ≡ true → nothing_else_edits img to actions ≡ true →
    Accepted (version_of img) img → has_row (state_of img).rows to ≡ true → Gained img (after_actions img actions) to (pulses_added img to actions)
unfolding after_actions events_for_all pulses_added nothing_else_edits all after_action after
list_gained img to [] r l acc h = same_gained img to acc h
list_gained img to (a ∷ more) r l acc h =
    let u = both (action_fits a) (all action_fits more) r in
    let mid = after_action img a in
    let w = both (leaves img to a) (nothing_else_edits mid to more) l in
    let one = action_gained img to a u.0 w.0 acc h in
    let rest = list_gained mid to more u.1 w.1 one.accepted one.there in
    subst (λ (i : Bytes). Gained img i to (pulses_of img to a ++ pulses_added mid to more)) (sym (after_append img (events_for img a) (events_for_all mid more)))
    (then_gained img mid (after_actions mid more) to (pulses_of img to a) (pulses_added mid to more) one rest)
