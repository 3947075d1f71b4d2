-- The writes of a change of length, one after the other.
use Prim.Native.Nat.{ℕ, ◌-◌, ◌≤◌, min}
use mathlib.Core.Path.{◌≡◌, sym, ◌∙◌, ap, ap₂}
use mathlib.Core.List.{List}
use native.Mathlib.Omega.{arith}
use lib.ListN.{length, take, drop}
use lib.Seq.{length-take-le}
use Rattle.format.specs.Basics.Bytes.{Bytes}
use Rattle.format.specs.Layout.Chain.{start_of}
use Rattle.format.specs.Layout.Space.{Space}
use Rattle.format.specs.Calls.SetLength.{release, link, relinked}
use Rattle.volume.specs.declared.Volume.{Volume as Opened}
use Rattle.spaces.specs.declared.Kind.{Kind}
use Rattle.writes.specs.Writable.{Writable}
use Rattle.writes.specs.Puts.{entry_put}
use Rattle.edits.specs.Rewritten.{tail_filled, rewritten}

-- fewer units can be written too, and in an image as long
pub writable_less : {v : Opened} {w : List ℕ} {k : Kind} {len m : ℕ} (len' n : ℕ) → Writable v w k len m → len' ≡ len → n ≤ m → Writable v w k len' n
writable_less len' n h e l =
    record {
      room = omega (arith, h.room);
      short = omega (arith, h.short);
      some = h.some;
      cells = λ j q. h.cells j (omega arith);
      cell_room = λ j q. omega (arith, e, h.cell_room j (omega arith));
      units = λ j q. h.units j (omega arith);
      unit_room = λ j q. omega (arith, e, h.unit_room j (omega arith));
    }

module _ (sp : Space) (place : ℕ) (w : List ℕ) (old n size new : ℕ) (img : Bytes) (a : old ≤ length w) (b : n ≤ length w) where
  relinked_is : (kept : ℕ) → kept ≡ min old n → link sp (drop (kept - 1) (take n w)) (release sp (drop kept (take old w)) img) ≡ relinked sp (take old w) (take n w) img
  unfolding relinked
  relinked_is kept h = ap (λ z. link sp (drop (z - 1) (take n w)) (release sp (drop z (take old w)) img)) (h ∙ sym (ap₂ min (length-take-le old w a) (length-take-le n w b)))

  pub rewritten_is : (kept before first : ℕ) {i₁ i₂ i₃ i₄ : Bytes} → kept ≡ min old n → before ≡ kept - 1 → first ≡ start_of (take n w)
      → i₁ ≡ release sp (drop kept (take old w)) img → i₂ ≡ link sp (drop before (take n w)) i₁ → i₃ ≡ tail_filled sp (take n w) size new i₂
      → i₄ ≡ entry_put place first new i₃ → i₄ ≡ rewritten sp place (take old w) (take n w) size new img
  unfolding rewritten
  rewritten_is kept before first {i₁} {i₂} k h f e₁ e₂ e₃ e₄ =
      let e : i₂ ≡ relinked sp (take old w) (take n w) img = e₂ ∙ ap₂ (λ z i. link sp (drop z (take n w)) i) h e₁ ∙ relinked_is kept k in
      e₄ ∙ ap₂ (λ z i. entry_put place z new i) f (e₃ ∙ ap (tail_filled sp (take n w) size new) e)
