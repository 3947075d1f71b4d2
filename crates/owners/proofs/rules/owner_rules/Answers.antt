use Rattle.std.specs.Prelude.{Some, Result, Err}
use Rattle.std.proofs.lemmas.Result.{err_from_is_err_and}
use Rattle.std.specs.Prelude.{ok_or}
use mathlib.Core.Path.{◌≡◌, sym, ap, ◌∙◌}
use mathlib.Core.Bool.{Bool, true, not, ◌&&◌, ◌||◌}
use borrow.Author.Tests.{not-true, not-false}
use Rattle.format.specs.Rules.Streams.{stream_rules}
use Rattle.format.specs.Rules.Owners.{owner_rules}
use Rattle.kinds.specs.declared.Refusal.{Refusal}
use Rattle.kinds.specs.declared.Refusal.TheVariants.{Streams}
use Rattle.tables.specs.Views.{volume_of}
use Rattle.owners.specs.Streams.{StreamsMarked}
use Rattle.owners.proofs.Judged.{by_owners, says_broken, says_wrong, says_right}
use Rattle.owners.proofs.rules.owner_rules.Goals as goal
use Rattle.owners.proofs.rules.owner_rules.Goals.{In_ok-also, After-units_covered-covered}

marked : (c : In_ok-also) → let a = c.args in StreamsMarked a.t a.m a.d a.img.now a.work.now c.mark_streams.new.work (Some c.in_ok-also.also)
marked c = rw c.in_ok-also.ensures.ok_part at c.mark_streams.ensures

-- group 17 holds
right : (c : In_ok-also) → let a = c.args in stream_rules (volume_of a.t.geometry a.img.now) ≡ true
right c = not-false _ (sym (marked c).answer)

-- and group 18 if so
owners : (c : After-units_covered-covered) → let a = c.args in owner_rules (volume_of a.t.geometry a.img.now) ≡ (not (a.shared || c.in_ok-also.also) && c.units_covered-covered.result)
owners c =
    let d = goal.at.After-units_covered-covered c in
    let r = c.requires in
    rw c.units_covered-covered.ensures (by_owners r.streams_markable.sectors.sized r.cells_right.tables r.only_system ((marked d.In_ok-also).owners (right d.In_ok-also)))

pub returns-in_err-also-clause-answer : goal.returns-in_err-also-clause-answer
returns-in_err-also-clause-answer c =
    let r = err_from_is_err_and c.from_residual.result c.from_residual.ensures.1 in
    let k = c.in_err-also.ensures in
    let v : ◌≡◌ {A = Result Bool Refusal} (Err c.in_err-also.field-0.0) (Err Streams) = k.value ∙ ap (λ q. ok_or q Streams) k.ok_part in
    let e : c.in_err-also.field-0.0 ≡ Streams = cc in
    rw (r.1, r.2, e) (says_broken _ _ (not-true _ (sym (rw k.ok_part at c.mark_streams.ensures.answer))))

pub returns-then-shared-also-clause-answer : goal.returns-then-shared-also-clause-answer
returns-then-shared-also-clause-answer c =
    let d = goal.at.returns-then-shared-also-clause-answer c in
    says_right _ _ (right d.In_ok-also) (owners d.After-units_covered-covered ∙ c.if-shared-also.true)

pub returns-clause-answer : goal.returns-clause-answer
returns-clause-answer c =
    let d = goal.at.returns-clause-answer c in
    says_wrong _ _ (right d.In_ok-also) (owners d.After-units_covered-covered ∙ c.if-shared-also.false)
