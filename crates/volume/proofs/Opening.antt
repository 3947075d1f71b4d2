-- The opening of an image: what is answered, and the work buffer at the end.
use Prim.Native.Nat.{ℕ, ◌+◌, ◌≤◌, ◌<◌}
use mathlib.Core.Path.{◌≡◌, refl, sym, ◌∙◌, ap}
use mathlib.Core.Logic.{◌≢◌, ◌⊎◌, inl, inr, ⊎_elim}
use mathlib.Core.Bool.{Bool, true, false}
use mathlib.Core.List.{List, ◌++◌}
use native.Mathlib.Omega.{arith}
use Rattle.std.proofs.Common.{Result, Ok, Err}
use Rattle.std.specs.Result.{is_err}
use Rattle.theory.proofs.Tests.{clash}
use lib.ListN.{length, drop, replicate, length-drop}
use lib.Seq.{ext_get_or, get_or-drop}
use borrow.Author.Tests.{ne_eqb}
use Rattle.format.specs.Basics.Bytes.{Bytes}
use Rattle.format.specs.Layout.Geometry.{Geometry}
use Rattle.format.specs.Rules.Length.{work_need}
use Rattle.format.specs.Rules.Verdict.{check, volume_groups, groups, verdict}
use Rattle.format.specs.Calls.Buffers.{work_cleared}
use Rattle.kinds.specs.declared.Refusal.{Refusal}
use Rattle.kinds.specs.declared.Geometry.{Geometry as Sizes}
use Rattle.kinds.specs.Sizes.{geometry_of}
use Rattle.kinds.specs.Numbers.{refusal_number}
use Rattle.kinds.proofs.Refusals.{refusal_some}
use Rattle.tables.specs.Work.{Wrote}
use Rattle.volume.specs.Opened.{StageLeft, OpenedRight, work_left}
use Rattle.volume.specs.declared.Volume.{Volume}

-- ---- the work buffer

-- what is cleared at the end is what would have been cleared at first
pub cleared_same : (n : ℕ) {w w' : List ℕ} → Wrote w w' 0 n → work_cleared n w' ≡ work_cleared n w
unfolding work_cleared
cleared_same n {w} {w'} r =
    ap (λ l. replicate n 0 ++ l)
    (ext_get_or 0 (drop n w') (drop n w) (omega (arith, length-drop n w', length-drop n w, r.long))
    (λ i h. get_or-drop n w' i 0 ∙ r.outside (n + i) (inr (omega arith)) ∙ sym (get_or-drop n w i 0)))

module _ (a : ℕ) (img : Bytes) (w : List ℕ) where
  pub left_alone : (a ≡ 1) ⊎ (a ≡ 2) → w ≡ work_left a img w
  unfolding work_left
  left_alone (inl e) = sym (rw e)
  left_alone (inr e) = sym (rw e)

  pub left_cleared : {w₁ w₂ : List ℕ} → a ≢ 1 → a ≢ 2 → Wrote w w₁ 0 (work_need (length img)) → w₂ ≡ work_cleared (work_need (length img)) w₁ → w₂ ≡ work_left a img w
  unfolding work_left
  left_cleared h k r e = e ∙ cleared_same (work_need (length img)) r ∙ sym (rw (ne_eqb a 1 h, ne_eqb a 2 k))

-- ---- the number of a group is 10 or more

large_check : (b : Bool) (n k : ℕ) → 9 < n → (k ≡ 0) ⊎ (9 < k) → (check b n k ≡ 0) ⊎ (9 < check b n k)
unfolding check
large_check true n k h l = l
large_check false n k h l = inr h

pub groups_large : (g : Geometry) (img : Bytes) → groups g img ≢ 0 → 9 < groups g img
unfolding groups volume_groups
groups_large g img z =
    ⊎_elim (λ e. absurd (z e)) (λ l. l)
    (large_check _ 10 _ (omega arith)
    (large_check _ 11 _ (omega arith)
    (large_check _ 12 _ (omega arith)
    (large_check _ 13 _ (omega arith)
    (large_check _ 14 _ (omega arith)
    (large_check _ 15 _ (omega arith)
    (large_check _ 16 _ (omega arith)
    (large_check _ 17 _ (omega arith)
    (large_check _ 18 _ (omega arith) (inl refl))))))))))

-- ---- the answer

-- refused before any group
pub refused_early : (g : Geometry) (img : Bytes) (w : List ℕ) (a : Refusal) → verdict g img (length w) ≡ refusal_number a → (refusal_number a ≡ 1) ⊎ (refusal_number a ≡ 2) → OpenedRight g img w w (Err a)
refused_early g img w a e h = (sym e, left_alone (verdict g img (length w)) img w (⊎_elim (λ k. inl (e ∙ k)) (λ k. inr (e ∙ k)) h))

module _ (g : Geometry) {s : Sizes} {img : Bytes} {w w₁ : List ℕ} (v : verdict g img (length w) ≡ groups g img) where
  -- refused by a group
  pub refused_late : {w₂ : List ℕ} (r : Result Volume Refusal) → StageLeft s img (groups g img) w w₁ r → is_err r ≡ true → w₂ ≡ work_cleared (work_need (length img)) w₁ → OpenedRight g img w w₂ r
  refused_late (Ok y) l e c = absurd (clash e refl)
  refused_late (Err a) l e c =
      let o = l.outcome in
      let h : 9 < verdict g img (length w) = omega (arith, v, groups_large g img (λ z. refusal_some a (o ∙ z))) in
      (o ∙ sym v, left_cleared (verdict g img (length w)) img w (omega arith) (omega arith) l.wrote c)

  pub opened : (r : Result Volume Refusal) → StageLeft s img (groups g img) w w₁ r → is_err r ≡ false → geometry_of s ≡ g → work_need (length img) ≤ length w → OpenedRight g img w w₁ r
  opened (Err a) l e q n = absurd (clash refl e)
  opened (Ok y) l e q n = let o = l.outcome in (v ∙ o.0, (ap geometry_of o.1.0 ∙ q, (o.1.1, (n, l.wrote))))
