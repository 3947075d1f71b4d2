-- The claims are not empty: an image with a pulse stream, what they say of every list on it, and a list of which they say a number.
use Rattle.std.specs.Prelude.{ℕ, zero, suc, ◌+◌, ◌≡◌, refl, Bool, true, List, [], ◌∷◌, ltb}
use Rattle.std.proofs.Common.{ap, ◌∙◌, subst, arith, ltb-true}
use Rattle.format.specs.Basics.Lists.{all, sum}
use Rattle.format.specs.Basics.Bytes.{Bytes, AreBytes}
use Rattle.format.specs.Calls.Call.{set_length}
use Rattle.format.specs.History.Event.{call, repair}
use Rattle.theory.proofs.Tests.{both}
use Rattle.format_tests.specs.Opened.{opened}
use Rattle.format_tests.specs.Images.{log, LOG, gone, built}
use Rattle.pulse_laws.specs.Pulse.{Pulse}
use Rattle.pulse_laws.specs.Calls.{summary_answer, PulseReply, summary_given, summary_reply}
use Rattle.pulse_laws.specs.Actions.{Action, add, other, action_fits, nothing_else_edits, after_actions, pulses_added}
use Rattle.pulse_laws.specs.Claim.{PulsesKept}
use Rattle.pulse_laws.proofs.Fades.{no_pulse_fades}
use Rattle.pulse_tests.specs.Opened.{opened_pulse}
use Rattle.pulse_tests.specs.Images.{seventh, still, roomy, enough, built_pulse}
use Rattle.pulse_tests.specs.Calls.{summary_given_lem}

-- ---- every list

unfoldable is_byte : ℕ → Bool
is_byte x = ltb x 256

all_bytes : (s : Bytes) → all is_byte s ≡ true → AreBytes s
unfolding all is_byte
all_bytes [] h i = omega arith
all_bytes (x ∷ xs) h zero = ltb-true x 256 (both (ltb x 256) (all is_byte xs) h).0
all_bytes (x ∷ xs) h (suc i) = all_bytes xs (both (ltb x 256) (all is_byte xs) h).1 i

are_bytes : all is_byte roomy ≡ true
unfolding opened built opened_pulse built_pulse is_byte
are_bytes = refl

readable : summary_answer roomy log enough ≡ 0
unfolding opened built opened_pulse built_pulse
readable = refl

applies : (actions : List Action) → all action_fits actions ≡ true → nothing_else_edits roomy log actions ≡ true
    → PulsesKept roomy (after_actions roomy actions) log enough (pulses_added roomy log actions)
applies actions r l = no_pulse_fades roomy log enough actions (all_bytes roomy are_bytes) readable r l

-- ---- one list: an addition that is refused, one that is not, an edit of another path, and a repair

unfoldable actions : List Action
actions =
    add log still enough
    ∷ add LOG seventh enough
    ∷ other (call (set_length gone 9 enough))
    ∷ other (repair [] enough)
    ∷ []

fit : all action_fits actions ≡ true
unfolding opened built opened_pulse built_pulse actions
fit = refl

leave : nothing_else_edits roomy log actions ≡ true
unfolding opened built opened_pulse built_pulse actions
leave = refl

added : pulses_added roomy log actions ≡ seventh ∷ []
unfolding opened built opened_pulse built_pulse actions
added = refl

kept : PulsesKept roomy (after_actions roomy actions) log enough (seventh ∷ [])
kept = subst (λ (ps : List Pulse). PulsesKept roomy (after_actions roomy actions) log enough ps) added (applies actions fit leave)

-- the summary after the list, which is not computed
summed : summary_reply (after_actions roomy actions) log enough ≡ summary_given 3 561
unfolding sum seventh summary_given
summed = kept.totals ∙ ap (λ (r : PulseReply). summary_given (r.count + 1) (r.total + 256)) summary_given_lem
