use mathlib.Core.Path.{sym, ◌∙◌}
use borrow.Author.Tests.{eqb-true, eqb-false}
use Rattle.std.proofs.lemmas.Result.{err_from_is_err_and}
use Rattle.removal.proofs.Refusals.{filled_answer, root_answer, removable_at, found_none}
use Rattle.removal.proofs.find_removable.Goals as goal

pub returns-in_err-x : goal.returns-in_err-x
returns-in_err-x c =
    let p = err_from_is_err_and c.from_residual.result c.from_residual.ensures.1 in
    rw (p.1, p.2) (found_none _ _ _ c.in_err-x.ensures.answer)

pub returns-then-filled : goal.returns-then-filled
returns-then-filled c =
    filled_answer _ c.requires.img_value c.requires.img_value_2 _ _ c.in_ok-x.ensures.inside c.in_ok-x.ensures.answer (sym c.filled.ensures ∙ c.if-filled.true)

pub returns-then-is_root : goal.returns-then-is_root
returns-then-is_root c =
    root_answer _ c.requires.img_value c.requires.img_value_2 _ _ c.in_ok-x.ensures.inside c.in_ok-x.ensures.answer (sym c.filled.ensures ∙ c.if-filled.false)
    (eqb-true _ 0 (sym c.is_root.ensures ∙ c.if-is_root.true))

pub returns : goal.returns
returns c =
    removable_at _ c.requires.img_value c.requires.img_value_2 _ _ c.in_ok-x.ensures.inside c.in_ok-x.ensures.answer (sym c.filled.ensures ∙ c.if-filled.false)
    (eqb-false _ 0 (sym c.is_root.ensures ∙ c.if-is_root.false))
