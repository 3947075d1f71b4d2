use Rattle.std.specs.Bool.{then_some}
use mathlib.Core.Path.{◌≡◌, refl}
use mathlib.Core.Bool.{Bool, true, false}
use Prim.Native.Nat.{ℕ}
use Rattle.chains.specs.Answers.{length_answer}
use Rattle.chains.proofs.length_of.Goals as goal

as_answer : (b : Bool) (k : ℕ) → then_some b k ≡ length_answer b k
unfolding length_answer
as_answer true k = refl
as_answer false k = refl

pub returns : goal.returns
returns c = rw (c.then_some.ensures, c.is_end.ensures) (as_answer _ _)
