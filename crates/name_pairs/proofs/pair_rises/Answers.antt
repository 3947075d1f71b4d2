use Rattle.std.proofs.Common.{◌≡◌, ◌==◌, refl, Bool, true, false, cond, Less, Equal, Greater}
use Rattle.std.specs.Ordering.{ordering_index}
use Rattle.kinds.specs.Ordering.{ordering}
use Rattle.name_pairs.proofs.pair_rises.Goals as goal

first : (x y : Bool) → (ordering_index (cond x Less (cond y Equal Greater)) == 0) ≡ x
first true y = refl
first false true = refl
first false false = refl

pub returns : goal.returns
unfolding ordering
returns c = rw (c.eq.ensures, c.compare_alike.ensures) (first _ _)
