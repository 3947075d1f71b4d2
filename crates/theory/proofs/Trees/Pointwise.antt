-- Where the bytes of an entry stay, so does all that the trees know of it; and an edit of one field leaves every other.
use mathlib.Core.Path.{◌≡◌, ap}
use mathlib.Core.Logic.{◌≢◌}
use Prim.Native.Nat.{ℕ}
use native.Mathlib.Decide.{ℕ_discrete}
use Rattle.format.specs.Layout.Entry.{left, right, child, Field, left_field, child_field, right_field}
use Rattle.format.specs.Layout.Directory.{Directory}
use Rattle.theory.specs.TreeDraw.{link}
use Rattle.theory.specs.TreeWays.{Way, slot_field, slot_entry, Aside}

module _ (d d₂ : Directory) (y : ℕ) (e : d₂.entry y ≡ d.entry y) where
  pub link_same : (k : Field) → link d₂ k y ≡ link d k y
  link_same left_field = ap left e
  link_same child_field = ap child e
  link_same right_field = ap right e

-- the field at the end of a way is the only one that changes, but for those of entry x
pub kept_but_one : (d d₂ : Directory) (w : Way) (x : ℕ)
    → ((y : ℕ) → y ≢ x → y ≢ slot_entry w 0 → d₂.entry y ≡ d.entry y)
    → ((k : Field) → k ≢ slot_field w child_field → link d₂ k (slot_entry w 0) ≡ link d k (slot_entry w 0))
    → (k : Field) (y : ℕ) → y ≢ x → Aside w child_field 0 k y → link d₂ k y ≡ link d k y
kept_but_one d d₂ w x others fields k y h a =
    elim (ℕ_discrete y (slot_entry w 0)) [
      | yes e ↦ rw e (fields k (λ z. a z e))
      | no e ↦ link_same d d₂ y (others y h e) k
    ]
