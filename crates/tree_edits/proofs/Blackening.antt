-- The walk that makes listed entries black: it stands at number j of the list.
use Prim.Native.Nat.{ℕ, ◌+◌, ◌≤◌, ◌<◌}
use mathlib.Core.Path.{◌≡◌, refl, ap, ◌∙◌}
use mathlib.Core.List.{List, [], ◌∷◌}
use native.Mathlib.Numerals.{add-one}
use native.Mathlib.Omega.{arith}
use lib.ListN.{length, get_or, drop, drop_of_length-le}
use lib.Seq.{length-sets, drop-cons}
use Rattle.format.specs.Basics.Lists.{count}
use Rattle.format.specs.Basics.Bytes.{Bytes, put_bytes}
use Rattle.format.specs.Layout.Entry.{colour_byte, black}
use Rattle.theory.proofs.Counts.{bit_self}
use Rattle.frame.specs.Unlink.{blackened_at}

pub record Blackening (p : ℕ → ℕ) (ys : List ℕ) (img₀ img : Bytes) (j : ℕ) : Type 0 where
  pub long : length img ≡ length img₀
  pub left : blackened_at p (drop j ys) img ≡ blackened_at p ys img₀

module _ (p : ℕ → ℕ) (ys : List ℕ) (img₀ : Bytes) where
  module _ {img : Bytes} {j : ℕ} (b : Blackening p ys img₀ img j) where
    pub blacken_step : j < length ys → (next : Bytes) → next ≡ put_bytes img (p (get_or ys j 0) + colour_byte) (black ∷ []) → Blackening p ys img₀ next (j + 1)
    unfolding blackened_at put_bytes
    blacken_step h next e =
        let c = drop-cons ys j 0 h in
        record {
          long = ap length e ∙ length-sets img (p (get_or ys j 0) + colour_byte) (black ∷ []) ∙ b.long;
          left = rw (e, add-one j) (rw c at b.left);
        }

    pub blacken_done : length ys ≤ j → img ≡ blackened_at p ys img₀
    unfolding blackened_at
    blacken_done h = rw (drop_of_length-le ys {i = j} h) at b.left

-- places that are the same for the entries listed
pub blackened_places : (p q : ℕ → ℕ) (ys : List ℕ) (img : Bytes) → ((y : ℕ) → 0 < count y ys → p y ≡ q y) → blackened_at p ys img ≡ blackened_at q ys img
unfolding blackened_at
blackened_places p q [] img h = refl
blackened_places p q (y ∷ ys) img h =
    rw (h y (omega (arith, bit_self y))) (blackened_places p q ys (put_bytes img (q y + colour_byte) (black ∷ [])) (λ u c. h u (omega arith)))
