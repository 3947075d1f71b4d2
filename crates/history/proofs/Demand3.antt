-- DEMAND 3: for every accepted image of either version and every list of calls, fresh images and repairs.
use mathlib.Core.Path.{◌≡◌, sym, subst}
use native.Mathlib.Omega.{arith}
use lib.ListN.{length}
use Rattle.format.specs.Basics.Bytes.{Bytes}
use Rattle.format.specs.Layout.Geometry.{Geometry}
use Rattle.format.specs.Rules.Version.{version_of}
use Rattle.format.specs.Rules.Verdict.{Accepted}
use Rattle.format.specs.Calls.Reply.{on_zero}
use Rattle.format.specs.Fresh.Plan.{planned}
use Rattle.format.specs.Fresh.Image.{fresh_image}
use Rattle.format.specs.Fresh.Answer.{formatted}
use Rattle.format.specs.History.State.{State}
use Rattle.format.specs.History.Event.{after, state_after}
use Rattle.format.specs.History.Claim.{Holds, Demand3}
use Rattle.format.specs.Claims.Fresh.{fresh_state, FreshBegins}
use Rattle.frame.proofs.Final.{frame, own_sized}
use Rattle.fresh.proofs.Answer.{fresh_claim}
use Rattle.history.proofs.Demand.{demand3 as demand3-for}

pub demand3 : Demand3
demand3 = demand3-for (λ img. let w = (own_sized img).wide in omega arith) (λ img. frame (version_of img) (own_sized img))

-- from a fresh image on
pub fresh_begins : FreshBegins
unfolding formatted on_zero
fresh_begins buffer p events answered =
    let img = fresh_image (planned p) p in
    let f = fresh_claim (length buffer) p answered in
    let acc = subst (λ (g : Geometry). Accepted g img) (sym f.version) f.accepted in
    let written : formatted buffer p ≡ img = rw answered in
    subst (λ (b : Bytes). Holds (after b events) (state_after (fresh_state (planned p) p) events)) (sym written)
    (subst (λ (s : State). Holds (after img events) (state_after s events)) f.state (demand3 img events acc))
