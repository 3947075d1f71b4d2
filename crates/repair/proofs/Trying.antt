-- The steps of a repair, made on a copy: what they are called with, and what they leave.
use Prim.Native.Nat.{ℕ, ◌≤◌}
use mathlib.Core.Path.{◌≡◌, sym, ap, ◌∙◌, subst}
use mathlib.Core.List.{List}
use native.Mathlib.Omega.{arith}
use lib.ListN.{length}
use Rattle.format.specs.Basics.Bytes.{Bytes}
use Rattle.format.specs.Layout.Geometry.{Geometry}
use Rattle.format.specs.Rules.Length.{length_allowed, work_need}
use Rattle.format.specs.Calls.RepairSteps.{repaired}
use Rattle.kinds.specs.declared.Geometry.{Geometry as Sizes}
use Rattle.kinds.specs.Sizes.{geometry_of}
use Rattle.header.specs.Sized.{ImageSized, W}
use Rattle.header.proofs.Allowed.{allowed_sized, own_value, own_narrow}
use Rattle.tables.specs.Work.{Wrote}
use Rattle.repair.specs.Room.{RepairRoom, Tried}

module _ {s : Sizes} {img : Bytes} {work : List ℕ} {buffer : Bytes} (k : RepairRoom (geometry_of s) img work buffer) where
  abbrev g : Geometry
  g = geometry_of s

  pub buffer_long : length img ≤ length buffer
  buffer_long = omega (arith, k.long)

  sized : ImageSized g img
  sized = allowed_sized g img (own_value img k.own) (own_narrow img k.own) k.allowed

  -- a copy of the image
  module _ {copy : Bytes} (e : copy ≡ img) where
    pub copy_sized : ImageSized g copy
    copy_sized = subst (ImageSized g) (sym e) sized

    pub copy_room : W copy ≤ length work
    unfolding work_need
    copy_room = rw e k.room

    module _ {after : Bytes} {w₁ : List ℕ} (f : after ≡ repaired g copy) (r : Wrote work w₁ 0 (work_need (length copy))) where
      pub tried_wrote : Wrote work w₁ 0 (work_need (length img))
      tried_wrote = subst (λ b. Wrote work w₁ 0 (work_need (length b))) e r

      pub tried : Tried img after w₁
      tried =
          record {
            allowed = ap (λ h. length_allowed h (length img)) (sym k.own) ∙ k.allowed;
            room = omega (arith, k.room, tried_wrote.long);
            outcome = f ∙ ap (repaired g) e ∙ ap (λ h. repaired h img) k.own;
          }
