-- The claim is not empty: an accepted image with a small and a large stream, a fresh image of each version, and the claim about every list on each.
use Rattle.std.specs.Prelude.{◌≡◌, refl, List, ℕ, length, replicate}
use Rattle.format.specs.Basics.Bytes.{Bytes}
use Rattle.format.specs.Rules.Version.{version_of}
use Rattle.format.specs.Rules.Verdict.{Accepted}
use Rattle.format.specs.Fresh.Plan.{Plan, planned}
use Rattle.format.specs.Fresh.Answer.{format_answer, formatted}
use Rattle.format.specs.History.State.{state_of}
use Rattle.format.specs.History.Event.{Event, after, state_after}
use Rattle.format.specs.History.Claim.{Holds}
use Rattle.format.specs.Claims.Fresh.{fresh_state}
use Rattle.format_tests.specs.Opened.{opened}
use Rattle.format_tests.specs.Images.{small_and_large, built}
use Rattle.history.proofs.Demand3.{demand3, fresh_begins}

pub accepted : Accepted (version_of small_and_large) small_and_large
unfolding opened built
accepted = refl

applies : (events : List Event)
    → Holds (after small_and_large events) (state_after (state_of small_and_large) events)
applies events = demand3 small_and_large events accepted

-- ---- fresh images

-- six sectors, with all parts but a DIFAT sector
abbrev plan : ℕ → Plan
plan version = record { version = version; sectors = 6; directory = 2; mini_fat = 1; minis = 7 }

unfoldable buffer3 : Bytes
buffer3 = replicate 3584 7

unfoldable buffer4 : Bytes
buffer4 = replicate 28_672 7

answered : (format_answer (length buffer3) (plan 3) ≡ 0) × (format_answer (length buffer4) (plan 4) ≡ 0)
unfolding opened buffer3 buffer4
answered = (refl, refl)

begins3 : (events : List Event)
    → Holds (after (formatted buffer3 (plan 3)) events) (state_after (fresh_state (planned (plan 3)) (plan 3)) events)
begins3 events = fresh_begins buffer3 (plan 3) events answered.0

begins4 : (events : List Event)
    → Holds (after (formatted buffer4 (plan 4)) events) (state_after (fresh_state (planned (plan 4)) (plan 4)) events)
begins4 events = fresh_begins buffer4 (plan 4) events answered.1
