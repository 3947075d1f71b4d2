use Rattle.std.proofs.Common.{◌≡◌, ◌∙◌, length, refl, rules}
use Rattle.std.proofs.lemmas.Fn.{fold_over, slice_gives, fronts}
use Rattle.format.specs.Basics.Lists.{all_below}
use Rattle.cells.specs.Cells.{covered_at}
use Rattle.cells.proofs.Turns.{covered_more}
use Rattle.cells.proofs.all_covered.Goals as goal

pub returns : goal.returns
unfolding all_below
returns c =
    let e = c.iter.ensures.rest in
    fold_over fronts (λ y. y.now) _ (λ xs ok. ok ≡ all_below (length xs) (covered_at xs)) _ (λ ys a x b f' j k. (search (rules, covered_more), refl)) c.iter.result _ _ _ (slice_gives c.iter.result) refl c.fold.ensures.ran
    ∙ rw e
