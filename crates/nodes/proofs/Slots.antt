-- Slots: what a field's slot is, the entry of a slot, and that both name the same tree.
use Prim.Native.Nat.{ℕ, zero, suc, ◌+◌, ◌≤◌, ◌<◌}
use mathlib.Core.Path.{◌≡◌, refl, sym, ap, ◌∙◌}
use mathlib.Core.Logic.{◌≢◌, ◌⊎◌, inl, inr, ⊎_elim}
use mathlib.Core.Bool.{false, and-false}
use native.Mathlib.Omega.{arith}
use native.Mathlib.Numerals.{add-one}
use native.Mathlib.Decide.{dec_lt}
use borrow.Author.Tests.{eq-eqb, ne_eqb, lt-ltb, le-ltb}
use Rattle.format.specs.Layout.Entry.{NOSTREAM}
use Rattle.format.specs.Layout.Directory.{Directory}
use Rattle.format.specs.Layout.Tree.{broken, grow, tree_of, named}
use Rattle.theory.specs.TreeViews.{rows, at}
use Rattle.theory.proofs.Counts.{eqb_cases}
use Rattle.nodes.specs.Slots.{slot_of, entry_of}

module _ (n x : ℕ) where
  pub slot_none : x ≡ NOSTREAM → slot_of n x ≡ 0
  unfolding slot_of
  slot_none e = rw (eq-eqb x NOSTREAM e)

  module _ (h : x ≢ NOSTREAM) where
    pub slot_in_lem : x < n → slot_of n x ≡ x + 1
    unfolding slot_of
    slot_in_lem l = rw (ne_eqb x NOSTREAM h, lt-ltb x n l)

    pub slot_out : n ≤ x → slot_of n x ≡ 1
    unfolding slot_of
    slot_out l = rw (ne_eqb x NOSTREAM h, le-ltb x n l)

  pub slot_most : 0 < n → slot_of n x ≤ n
  slot_most s =
      elim (eqb_cases x NOSTREAM) [
        | inl e ↦ omega (arith, slot_none e.0)
        | inr e ↦
            elim (dec_lt x n) [
              | yes l ↦ omega (arith, slot_in_lem e.0 l)
              | no l ↦ omega (arith, slot_out e.0 (omega arith))
            ]
      ]

-- ---- the entry of a slot

pub entry_none : (s : ℕ) → s ≡ 0 → entry_of s ≡ NOSTREAM
unfolding entry_of
entry_none zero e = refl
entry_none (suc s) e = absurd (omega arith)

pub entry_some : (s : ℕ) → 0 < s → s ≡ entry_of s + 1
unfolding entry_of
entry_some zero h = absurd (omega arith)
entry_some (suc s) h = omega arith

pub entry_after : (x : ℕ) → entry_of (x + 1) ≡ x
unfolding entry_of
entry_after x = rw add-one

pub entry_real : (s n : ℕ) → 0 < s → s ≤ n → n < 0x8_0000 → entry_of s ≢ NOSTREAM
entry_real s n h l f e = omega (arith, entry_some s h)

-- ---- a field and the entry of its slot name the same tree

module _ (d : Directory) where
  -- no tree is named
  unnamed : (x : ℕ) → x ≢ NOSTREAM → 0 < rows d → (x ≡ 0) ⊎ (rows d ≤ x) → at d x ≡ broken
  unfolding grow tree_of
  unnamed x h s o = go (rows d) refl s
    where
      not_named : named d x ≡ false
      not_named = ⊎_elim (λ e. rw (le-ltb 0 x (omega arith))) (λ l. rw (le-ltb x (rows d) l, and-false)) o

      go : (n : ℕ) → n ≡ rows d → 0 < n → grow d n x ≡ broken
      go zero e p = absurd (omega arith)
      go (suc n) e p = rw (ne_eqb x NOSTREAM h, not_named)

  first : entry_of 1 ≡ 0
  unfolding entry_of
  first = refl

  pub slot_tree : (x : ℕ) → 0 < rows d → at d (entry_of (slot_of (rows d) x)) ≡ at d x
  slot_tree x s =
      elim (eqb_cases x NOSTREAM) [
        | inl e ↦ rw (slot_none (rows d) x e.0, entry_none 0 refl) (ap (at d) (sym e.0))
        | inr e ↦
            elim (dec_lt x (rows d)) [
              | yes l ↦ rw (slot_in_lem (rows d) x e.0 l, entry_after x)
              | no l ↦
                  rw (slot_out (rows d) x e.0 (omega arith), first)
                  (unnamed 0 (λ z. omega arith) s (inl refl) ∙ sym (unnamed x e.0 s (inr (omega arith))))
            ]
      ]
