use Rattle.std.proofs.Common.{arith, ◌≡◌, ◌+◌, ◌-◌, ap, ◌∙◌, refl, rules}
use Rattle.std.proofs.lemmas.Fn.{fold_over, slice_gives, fronts}
use Rattle.format.specs.Basics.Lists.{all}
use Rattle.format.specs.Basics.Bytes.{part, all_zero}
use Rattle.le.proofs.Zeros.{zeros_more}
use Rattle.le.proofs.all_zero.Goals as goal

pub returns : goal.returns
unfolding part all_zero all
returns c =
    let a = c.args in
    let n : a.at + a.n - a.at ≡ a.n = omega arith in
    let r : c.iter.result.rest.now ≡ part a.b.now a.at a.n = rw n at c.iter.ensures.rest in
    fold_over fronts (λ y. y.now) _ (λ xs ok. ok ≡ all_zero xs) _ (λ ys a x b f' j k. (search (rules, zeros_more), refl)) c.iter.result _ _ _ (slice_gives c.iter.result) refl c.fold.ensures.ran ∙ ap all_zero r
