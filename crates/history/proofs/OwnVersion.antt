-- What demand 3 says by the state's version, by the version that the image itself says.
use mathlib.Core.Path.{◌≡◌, sym, subst}
use mathlib.Core.Logic.{◌↔◌}
use mathlib.Core.Bool.{true}
use Rattle.format.specs.Basics.Bytes.{Bytes}
use Rattle.format.specs.Rules.Version.{version_of}
use Rattle.format.specs.Rules.Verdict.{Accepted}
use Rattle.format.specs.Calls.Call.{Call}
use Rattle.format.specs.Calls.Answer.{answer}
use Rattle.format.specs.History.Setting.{setting_of}
use Rattle.format.specs.History.State.{State, state_in, state_of}
use Rattle.format.specs.History.Accepts.{accepts, answers26}
use Rattle.format.specs.History.Claim.{is_edit, Holds}

pub own_accepted : (now : Bytes) (s : State) → Holds now s → Accepted (version_of now) now
unfolding state_of state_in setting_of
own_accepted now s h = subst (λ (t : State). Accepted t.setting.geometry now) (sym h.state) h.accepted

pub own_answers_zero : (now : Bytes) (s : State) → Holds now s → (c : Call) → is_edit c ≡ true → (answer (version_of now) now c ≡ 0) ↔ (accepts s c ≡ true)
unfolding state_of state_in setting_of
own_answers_zero now s h c e = subst (λ (t : State). (answer t.setting.geometry now c ≡ 0) ↔ (accepts s c ≡ true)) (sym h.state) (h.answers_zero c e)

pub own_answers_full : (now : Bytes) (s : State) → Holds now s → (c : Call) → (answer (version_of now) now c ≡ 26) ↔ (answers26 s c ≡ true)
unfolding state_of state_in setting_of
own_answers_full now s h c = subst (λ (t : State). (answer t.setting.geometry now c ≡ 26) ↔ (answers26 s c ≡ true)) (sym h.state) (h.answers_full c)
