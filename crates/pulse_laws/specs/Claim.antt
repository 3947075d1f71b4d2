-- What is claimed of pulse streams (W-208).
use Rattle.std.specs.Prelude.{ℕ, suc, ◌+◌, ◌<◌, ◌≡◌, true, cond, List, [], ◌∷◌, ◌++◌, map, eqb, length}
use Rattle.format.specs.Basics.Lists.{all, sum}
use Rattle.format.specs.Basics.Bytes.{Bytes, AreBytes}
use Rattle.format.specs.Rules.Version.{version_of}
use Rattle.format.specs.Rules.Verdict.{Accepted}
use Rattle.format.specs.Calls.Paths.{Path}
use Rattle.format.specs.Calls.Call.{overwrite}
use Rattle.format.specs.Calls.Answer.{first_of, answer}
use Rattle.format.specs.History.State.{state_of}
use Rattle.format.specs.History.Event.{state_after}
use Rattle.format.specs.History.Claim.{Holds}
use Rattle.pulse_laws.specs.Pulse.{Pulse, distance_for, count, total, preamble, pulses_in}
use Rattle.pulse_laws.specs.Added.{trailer_place, tail}
use Rattle.pulse_laws.specs.Calls.{contents_at, pulses_answer, summary_answer, ticks_answer, grow_answer, add_answer, number_alone, summary_given, summary_reply, record_reply, add_reply, grown, image_added}
use Rattle.pulse_laws.specs.Actions.{Action, events_for_all, after_actions, pulse_fits, action_fits, nothing_else_edits, pulses_added}

-- ---- no pulse fades

abbrev pub ticks_of : Pulse → ℕ
ticks_of p = p.ticks

-- the stream is a pulse stream still, with these pulses added
pub record PulsesKept (img now : Bytes) (to : Path) (work : List ℕ) (added : List Pulse) : Type 0 where
  -- count and total are those found at the start and those of every pulse added
  pub totals : summary_reply now to work
      ≡ summary_given ((summary_reply img to work).count + length added) ((summary_reply img to work).total + sum (map ticks_of added))
  -- the records are those found at the start, and then the pulses added; what stands before them is as it was
  pub records : pulses_in (contents_at now to) ≡ pulses_in (contents_at img to) ++ added
  pub preamble : preamble (contents_at now to) ≡ preamble (contents_at img to)

-- After an addition that answers 0: one record more, the last, and its ticks more.
abbrev pub PulseAdded : Type 0
PulseAdded =
    (img : Bytes) (to : Path) (work : List ℕ) (p : Pulse) → AreBytes img → pulse_fits p ≡ true → add_answer img to p work ≡ 0
    → PulsesKept img (image_added img to p work) to work (p ∷ [])

-- After any list in which nothing but additions edits a pulse stream; events that leave it, and additions to other streams, may stand between.
abbrev pub NoPulseFades : Type 0
NoPulseFades =
    (img : Bytes) (to : Path) (work : List ℕ) (actions : List Action) → AreBytes img → summary_answer img to work ≡ 0
    → all action_fits actions ≡ true → nothing_else_edits img to actions ≡ true
    → PulsesKept img (after_actions img actions) to work (pulses_added img to actions)

-- Demand 3 with additions in the list: each is the change of length and the overwrite that it counts as.
abbrev pub Demand3Actions : Type 0
Demand3Actions =
    (img : Bytes) (actions : List Action) → Accepted (version_of img) img
    → Holds (after_actions img actions) (state_after (state_of img) (events_for_all img actions))

-- ---- of one call

-- A refusal leaves the image as before, and its valve, ticks, count and total are 0.
pub record RefusalLeaves (img : Bytes) (path : Path) (work : List ℕ) (n : ℕ) : Type 0 where
  pub of_summary : (summary_reply img path work).number ≡ suc n → summary_reply img path work ≡ number_alone (suc n)
  pub of_record : (k : ℕ) → (record_reply img path k work).number ≡ suc n → record_reply img path k work ≡ number_alone (suc n)
  pub of_addition : (p : Pulse) → (add_reply img path p work).number ≡ suc n
      → (add_reply img path p work ≡ number_alone (suc n)) × (image_added img path p work ≡ img)

abbrev pub RefusalsLeave : Type 0
RefusalsLeave = (img : Bytes) (path : Path) (work : List ℕ) (n : ℕ) → RefusalLeaves img path work n

-- a number before a later one, but 26 after it
unfoldable pub but26 : (number later : ℕ) → ℕ
but26 n later = cond (eqb n 26) (first_of later n) (first_of n later)

-- The refusals of the change of length pass through before 40 and 41, but 26 comes last.
abbrev pub RefusalsPass : Type 0
RefusalsPass =
    (img : Bytes) (path : Path) (p : Pulse) (work : List ℕ)
    → add_answer img path p work ≡ but26 (grow_answer img path work) (first_of (pulses_answer (contents_at img path)) (ticks_answer p))

-- Where an addition answers 0, so does its overwrite of the image that its change of length left.
abbrev pub OverwriteAccepted : Type 0
OverwriteAccepted =
    (img : Bytes) (path : Path) (p : Pulse) (work : List ℕ) → add_answer img path p work ≡ 0
    → let s = contents_at img path in
    let now = grown img path work in
    answer (version_of now) now (overwrite path (trailer_place s) (tail s p) work) ≡ 0

-- An addition never passes what its fields hold: four bytes for distance and count, eight for the total.
abbrev pub FieldsHold : Type 0
FieldsHold =
    (img : Bytes) (to : Path) (work : List ℕ) (p : Pulse) → AreBytes img → summary_answer img to work ≡ 0 → pulse_fits p ≡ true
    → let s = contents_at img to in
    (distance_for (count s + 1) < 0x1_0000_0000)
    × (count s + 1 < 0x1_0000_0000)
    × (total s + p.ticks < 0x1_0000_0000_0000_0000)
