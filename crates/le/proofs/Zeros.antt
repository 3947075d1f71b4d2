-- One more byte looked at.
use Rattle.std.proofs.Common.{ℕ, ◌≡◌, ◌∙◌, ap, Bool, ◌&&◌, eqb, [], ◌∷◌, ◌++◌}
use mathlib.Core.Bool.{and-true}
use Rattle.format.specs.Basics.Lists.{all}
use Rattle.format.specs.Basics.Bytes.{Bytes, is_zero, all_zero}
use Rattle.theory.proofs.Tests.{all_append}

pub zeros_more : (xs : Bytes) (x : ℕ) → all_zero (xs ++ (x ∷ [])) ≡ (all_zero xs && eqb x 0)
unfolding all_zero all is_zero
zeros_more xs x = all_append is_zero xs (x ∷ []) ∙ ap (λ (t : Bool). all is_zero xs && t) (and-true (eqb x 0))
