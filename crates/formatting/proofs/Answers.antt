-- The call, answer by answer.
use Prim.Native.Nat.{ℕ, suc, ◌*◌, ◌≤◌, ◌<◌}
use mathlib.Core.Path.{◌≡◌, sym, ap, ap₂, subst, ◌∙◌}
use mathlib.Core.Bool.{true, false, ◌&&◌}
use native.Mathlib.Nat.{mul-le-mul_left}
use native.Mathlib.Omega.{arith}
use lib.Dec.{eqb}
use lib.ListN.{length}
use borrow.Author.Tests.{eqb-true}
use Rattle.format.specs.Basics.Bytes.{Bytes}
use Rattle.format.specs.Layout.Geometry.{Geometry}
use Rattle.format.specs.Rules.Length.{length_allowed}
use Rattle.format.specs.Rules.Verdict.{check}
use Rattle.format.specs.Calls.Reply.{on_zero}
use Rattle.format.specs.Fresh.Plan.{Plan, planned, plan_bytes, spare_from, known_version, parts_fit}
use Rattle.format.specs.Fresh.Image.{fresh_image}
use Rattle.format.specs.Fresh.Answer.{buffer_fits, format_answer, formatted}
use Rattle.theory.proofs.Tests.{both}
use Rattle.frame.proofs.Lengths.{allowed_short}
use Rattle.fresh.specs.Facts.{Headed, Planned}
use Rattle.fresh.proofs.Answer.{planned_headed, answer_planned}
use Rattle.kinds.specs.declared.Geometry.{Geometry as Sizes}
use Rattle.kinds.specs.Sizes.{geometry_of}
use Rattle.fresh_sectors.specs.declared.Plan.{Plan as Numbers}
use Rattle.fresh_sectors.specs.declared.Parts.{Parts}
use Rattle.fresh_sectors.specs.Parts.{plan_of, sizes, plan, Stands}
use Rattle.formatting.specs.Plans.{plan_sound, Small, PartsOf}
use Rattle.formatting.proofs.Plans.{plan_sized, plan_narrow, sound_parts, unsound_unfit, too_long_unfit, sound_fits}

-- an answer, and the buffer that it leaves
abbrev Answered : Bytes → Plan → ℕ → Bytes → Type 0
Answered b p n left = (n ≡ format_answer (length b) p) × (left ≡ formatted b p)

module _ (b : Bytes) (p : Plan) where
  refused : (n : ℕ) → suc n ≡ format_answer (length b) p → Answered b p (suc n) b
  unfolding formatted on_zero
  refused n e = (e, rw (← e))

  pub answer_1 : false ≡ buffer_fits (length b) p → Answered b p 1 b
  unfolding format_answer check
  answer_1 h = refused 0 (rw (← h))

  -- ---- a buffer that fits

  module _ (fits : true ≡ buffer_fits (length b) p) where
    buffer_parts : (length_allowed (planned p) (length b) ≡ true) × (length b ≡ plan_bytes (planned p) p)
    unfolding buffer_fits
    buffer_parts =
        let a = both (length_allowed (planned p) (length b)) (eqb (length b) (plan_bytes (planned p) p)) (sym fits) in
        (a.0, eqb-true (length b) (plan_bytes (planned p) p) a.1)

    answer_32 : (known_version p && parts_fit (planned p) p) ≡ false → Answered b p 32 b
    unfolding format_answer check
    answer_32 h = refused 31 (rw (← fits, h))

    module _ (g : Geometry) (own : g ≡ planned p) where
      pub unsound_32 : false ≡ plan_sound g p → Answered b p 32 b
      unsound_32 h = answer_32 (rw (← own) (unsound_unfit g p (sym h)))

      pub too_long_32 : p.sectors < spare_from g p → Answered b p 32 b
      too_long_32 h = answer_32 (rw (← own) (too_long_unfit g p h))

      pub sound_small : true ≡ plan_sound g p → Small g p
      sound_small h =
          let q = sound_parts g p (sym h) in
          let w = (plan_sized g p own).wide in
          record {
            sized = plan_sized g p own;
            narrow = plan_narrow g p own;
            sectors = few;
            directory = q.1.0;
            mini_fat = q.1.1;
            minis = q.2;
          }
        where
          few : p.sectors < 0x2_0000
          few =
              omega (
                arith,
                allowed_short (planned p) b buffer_parts.0,
                buffer_parts.1,
                mul-le-mul_left (suc p.sectors) (planned_headed p).sized.wide,
              )

      pub sound_0 : true ≡ plan_sound g p → spare_from g p ≤ p.sectors → 0 ≡ format_answer (length b) p
      unfolding format_answer check
      sound_0 h k = rw (← fits, ← own, sound_fits g p (sym h) k)

-- ---- the parts

module _ (g : Sizes) (p : Numbers) (l : Parts) (q : PartsOf g p l) where
  sizes_are : sizes l ≡ geometry_of g
  sizes_are = ap geometry_of q.geometry

  plan_is : plan l ≡ plan_of p
  plan_is = ap plan_of q.plan

  pub spare_is : l.spare.0 ≡ spare_from (geometry_of g) (plan_of p)
  spare_is = q.placed.spare ∙ ap₂ spare_from sizes_are plan_is

  module _ (b : Bytes) (own : geometry_of g ≡ planned (plan_of p)) (fits : true ≡ buffer_fits (length b) (plan_of p)) (done : 0 ≡ format_answer (length b) (plan_of p)) where
    sizes_own : planned (plan_of p) ≡ sizes l
    sizes_own = sym (sizes_are ∙ own)

    pub parts_stand : Stands l
    parts_stand =
        record {
          headed = subst (λ (h : Geometry). Headed h) sizes_own (planned_headed (plan_of p));
          narrow = omega (arith, plan_narrow (geometry_of g) (plan_of p) own, ap (λ (s : Sizes). s.bytes) q.geometry);
          planned =
              subst (λ (h : Geometry). Planned h (plan l)) sizes_own
              (subst (λ (r : Plan). Planned (planned (plan_of p)) r) (sym plan_is) (answer_planned (length b) (plan_of p) (sym done)));
          placed = q.placed;
        }

    pub parts_long : length b ≡ suc l.plan.sectors * l.geometry.bytes
    parts_long =
        (buffer_parts b (plan_of p) fits).1 ∙ ap₂ (λ (h : Geometry) (r : Plan). suc r.sectors * h.sector_bytes) sizes_own (sym plan_is)

    pub parts_0 : (x : Bytes) → x ≡ fresh_image (sizes l) (plan l) → Answered b (plan_of p) 0 x
    unfolding formatted on_zero
    parts_0 x e = (done, rw (← done, ← own) (e ∙ ap₂ fresh_image sizes_are plan_is))
