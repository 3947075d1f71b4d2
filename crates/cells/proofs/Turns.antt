-- Loops over the numbers below a limit that keep in one bool whether all so far passed a test.
use Prim.Native.Nat.{ℕ, ◌+◌, ◌≤◌, ◌<◌}
use mathlib.Core.Path.{◌≡◌, sym}
use mathlib.Core.Bool.{Bool, true, not, ◌&&◌}
use mathlib.Core.List.{List, [], ◌∷◌, ◌++◌}
use native.Mathlib.Omega.{arith}
use lib.Dec.{leb, eqb}
use lib.ListN.{length, length-append, get_or-append}
use lib.Seq.{get_or-append_seam}
use Rattle.format.specs.Basics.Lists.{all_below}
use Rattle.format.specs.Layout.Chain.{END}
use Rattle.theory.specs.Marks.{MARK}
use Rattle.theory.proofs.Loops.{below_none, below_next, below_join}
use Rattle.theory.proofs.Tests.{below_ext}
use Rattle.cells.specs.Cells.{covered_at}

pub record Passed (p : ℕ → Bool) (n : ℕ) (ok : Bool) (i : ℕ) : Type 0 where
  pub to : i ≤ n
  pub all : ok ≡ all_below i p

module _ {p : ℕ → Bool} {n : ℕ} where
  pub passed_none : Passed p n true 0
  passed_none = record { to = omega arith; all = sym (below_none p) }

  module _ {ok : Bool} {i : ℕ} (a : Passed p n ok i) where
    -- k more at once, of which another test says the same
    pub passed_block : (q : ℕ → Bool) {k : ℕ} {t : Bool} → i + k ≤ n → t ≡ all_below k q → ((j : ℕ) → j < k → q j ≡ p (i + j)) → Passed p n (ok && t) (i + k)
    passed_block q {k} l e h = record { to = l; all = below_join p q i k a.all e h }

    pub passed_all : n ≤ i → ok ≡ all_below n p
    passed_all l = let e : i ≡ n = omega (arith, a.to) in rw (← e) a.all

-- one number more
pub covered_more : (w : List ℕ) (v : ℕ) → all_below (length (w ++ (v ∷ []))) (covered_at (w ++ (v ∷ []))) ≡ (all_below (length w) (covered_at w) && (leb MARK v && not (eqb v END)))
unfolding covered_at
covered_more w v =
    let u : List ℕ = w ++ (v ∷ []) in
    let n : length u ≡ length w + 1 = length-append w (v ∷ []) in
    rw (n, below_next, below_ext (length w) (covered_at w) (covered_at u) (λ i l. rw (get_or-append w (v ∷ []) 0 i l)), get_or-append_seam)
