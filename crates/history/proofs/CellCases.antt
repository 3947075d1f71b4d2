-- What a cell may become by an edit, and that each such value passes group 12.
use Prim.Native.Nat.{ℕ, ◌<◌}
use mathlib.Core.Path.{◌≡◌}
use mathlib.Core.Logic.{inl, inr}
use mathlib.Core.Bool.{Bool, true, false, ◌||◌, or-true}
use mathlib.Core.List.{List, [], ◌∷◌}
use native.Mathlib.Omega.{arith}
use lib.Dec.{ltb}
use borrow.Author.Tests.{lt-ltb}
use Rattle.format.specs.Basics.Lists.{count}
use Rattle.format.specs.Layout.Chain.{FREE, END}
use Rattle.format.specs.Layout.Space.{Space}
use Rattle.format.specs.Rules.Cells.{plain_cell}
use Rattle.theory.specs.Links.{freed, chained, rechain}
use Rattle.theory.proofs.Counts.{eqb_cases, bit_self}

-- ---- what a cell may become

freed_cases : (P : ℕ → Type 0) (us : List ℕ) (f : ℕ → ℕ) (s : ℕ) → P FREE → P (f s) → P (freed us f s)
unfolding freed
freed_cases P [] f s a h = h
freed_cases P (u ∷ us) f s a h =
    elim (eqb_cases s u) [ inl e ↦ rw e.1 a | inr e ↦ rw e.1 (freed_cases P us f s a h) ]

chained_cases : (P : ℕ → Type 0) (ws : List ℕ) (f : ℕ → ℕ) (s : ℕ) → P END → ((t : ℕ) → 0 < count t ws → P t) → P (f s) → P (chained ws f s)
unfolding chained
chained_cases P [] f s a k h = h
chained_cases P (w ∷ []) f s a k h = elim (eqb_cases s w) [ inl e ↦ rw e.1 a | inr e ↦ rw e.1 h ]
chained_cases P (w ∷ x ∷ ws) f s a k h =
    elim (eqb_cases s w) [
      | inl e ↦ rw e.1 (k x (omega (arith, bit_self x)))
      | inr e ↦ rw e.1 (chained_cases P (x ∷ ws) f s a (λ t q. k t (omega arith)) h)
    ]

pub rechain_cases : (P : ℕ → Type 0) (us ws : List ℕ) (f : ℕ → ℕ) (s : ℕ) → P FREE → P END → ((t : ℕ) → 0 < count t ws → P t) → P (f s) → P (rechain us ws f s)
unfolding rechain
rechain_cases P us ws f s a b k h = chained_cases P ws (freed us f) s b k (freed_cases P us f s a h)

pub or_more : (a b : Bool) → b ≡ true → (a || b) ≡ true
or_more a b h = rw h (or-true a)

pub plain_free : (sp : Space) → plain_cell sp FREE ≡ true
unfolding plain_cell
plain_free sp = or-true (ltb FREE sp.limit || false)

pub plain_end : (sp : Space) → plain_cell sp END ≡ true
unfolding plain_cell
plain_end sp = rw (or-true (ltb END sp.limit))

pub plain_number : (sp : Space) (t : ℕ) → t < sp.limit → plain_cell sp t ≡ true
unfolding plain_cell
plain_number sp t h = rw (lt-ltb t sp.limit h)
