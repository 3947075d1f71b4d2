-- Numbers read off bytes that are put behind others.
use Prim.Native.Nat.{ℕ, ◌+◌, ◌≤◌, ◌<◌}
use mathlib.Core.Path.{◌≡◌, sym, ap, ◌∙◌}
use mathlib.Core.List.{◌++◌}
use native.Mathlib.Nat.{mod-eq_of_lt}
use native.Mathlib.Omega.{arith}
use lib.ListN.{length, take, drop, get_or-append}
use lib.Seq.{drop_at, drop-drop, get_or-take, length-take-le}
use Rattle.format.specs.Basics.Bytes.{Bytes, part, number, u16at, u32at, u64at, le16, le32, le64}
use Rattle.theory.proofs.Bytes.{number_same, number_le32, number_le64}

-- ---- in what stands behind

number_le16 : (v : ℕ) → v < 0x1_0000 → number (le16 v) ≡ v
unfolding number le16
number_le16 v h = omega arith

module _ (a b : Bytes) (n : ℕ) (front : length a ≡ n) (v j i : ℕ) (place : i ≡ n + j) where
  part_behind : (m : ℕ) → part (a ++ b) i m ≡ part b j m
  unfolding part
  part_behind m = ap (λ (k : ℕ). take m (drop k (a ++ b))) place ∙ ap (take m) (sym (drop-drop j n (a ++ b)) ∙ ap (drop j) (drop_at a b n front))

  pub u16_behind : part b j 2 ≡ le16 v → v < 0x1_0000 → u16at (a ++ b) i ≡ v
  unfolding u16at
  u16_behind e h = ap number (part_behind 2 ∙ e) ∙ number_le16 v h

  pub u32_behind : part b j 4 ≡ le32 v → v < 0x1_0000_0000 → u32at (a ++ b) i ≡ v
  unfolding u32at
  u32_behind e h = ap number (part_behind 4 ∙ e) ∙ number_le32 v ∙ mod-eq_of_lt h

  pub u64_behind : part b j 8 ≡ le64 v → v < 0x1_0000_0000_0000_0000 → u64at (a ++ b) i ≡ v
  unfolding u64at
  u64_behind e h = ap number (part_behind 8 ∙ e) ∙ number_le64 v h

-- ---- in what was kept of the front

module _ (s ys : Bytes) (n i : ℕ) (h : n ≤ length s) where
  number_kept : (m : ℕ) → i + m ≤ n → number (part (take n s ++ ys) i m) ≡ number (part s i m)
  number_kept m l =
      number_same (take n s ++ ys) s i i m
      (λ j q. get_or-append (take n s) ys 0 (i + j) (omega (arith, length-take-le n s h)) ∙ get_or-take n s (i + j) 0 (omega arith))

  pub u16_kept : i + 2 ≤ n → u16at (take n s ++ ys) i ≡ u16at s i
  unfolding u16at
  u16_kept l = number_kept 2 l

  pub u32_kept : i + 4 ≤ n → u32at (take n s ++ ys) i ≡ u32at s i
  unfolding u32at
  u32_kept l = number_kept 4 l
