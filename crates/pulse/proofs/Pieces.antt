-- Sums of ticks, piece by piece.
use Prim.Native.Nat.{ℕ, zero, suc, ◌+◌, ◌*◌, ◌≤◌, ◌<◌}
use mathlib.Core.Path.{◌≡◌, refl, sym, ap, ap₂, ◌∙◌}
use mathlib.Core.Bool.{Bool, true, false, cond, ◌&&◌}
use native.Mathlib.Omega.{arith}
use lib.Dec.{eqb, leb}
use Rattle.format.specs.Basics.Bytes.{Bytes, AreBytes, part, number, u16at, u32at, u64at}
use Rattle.format.specs.Basics.Lists.{all_below, list_below, sum}
use Rattle.theory.proofs.Below.{list_below_ext}
use Rattle.theory.proofs.ByteTests.{part_part}
use Rattle.theory.proofs.Tests.{clash, false_of, both, below_at, below_of, below_ext}
use Rattle.pulse_records.specs.Records.{right_at, right_from, ticks_from, sum_from}
use Rattle.pulse_records.specs.declared.TotalTicks.{TotalTicks}
use Rattle.std.specs.Prelude.{Option, Some, None}
use Rattle.pulse_records.proofs.Summing.{sum_next, sum_most, Summing, summing_next}

-- ---- a piece is read by itself

module _ (s : Bytes) (at n : ℕ) where
  pub u16_piece : (i : ℕ) → i + 2 ≤ n → u16at (part s at n) i ≡ u16at s (at + i)
  unfolding u16at
  u16_piece i h = ap number (part_part s at n i 2 h)

  pub u32_piece : (i : ℕ) → i + 4 ≤ n → u32at (part s at n) i ≡ u32at s (at + i)
  unfolding u32at
  u32_piece i h = ap number (part_part s at n i 4 h)

  pub u64_piece : (i : ℕ) → i + 8 ≤ n → u64at (part s at n) i ≡ u64at s (at + i)
  unfolding u64at
  u64_piece i h = ap number (part_part s at n i 8 h)

module _ (s : Bytes) (at n : ℕ) where
  abbrev piece : Bytes
  piece = part s at (8 * n)

  right_piece : (k : ℕ) → k < n → right_from piece 0 k ≡ right_from s at k
  unfolding right_from right_at
  right_piece k h =
      let a : at + (0 + 8 * k + 2) ≡ at + 8 * k + 2 = omega arith in
      let b : at + (0 + 8 * k + 4) ≡ at + 8 * k + 4 = omega arith in
      ap₂ (λ z t. eqb z 0 && leb 1 t) (u16_piece s at (8 * n) (0 + 8 * k + 2) (omega arith) ∙ ap (u16at s) a) (u32_piece s at (8 * n) (0 + 8 * k + 4) (omega arith) ∙ ap (u32at s) b)

  ticks_piece : (k : ℕ) → k < n → ticks_from piece 0 k ≡ ticks_from s at k
  unfolding ticks_from
  ticks_piece k h =
      let b : at + (0 + 8 * k + 4) ≡ at + 8 * k + 4 = omega arith in
      u32_piece s at (8 * n) (0 + 8 * k + 4) (omega arith) ∙ ap (u32at s) b

  pub sum_piece : (before : ℕ) → sum_from piece 0 n before ≡ sum_from s at n before
  unfolding sum_from
  sum_piece before =
      ap₂ (λ (t : Bool) (m : ℕ). cond {A = Option TotalTicks} t (Some (record { 0 = before + m })) None) (below_ext n (right_from s at) (right_from piece 0) right_piece)
      (ap sum (list_below_ext n (ticks_from s at) (ticks_from piece 0) ticks_piece))

-- ---- the sum of a piece is added to that of the records before it

module _ (s : Bytes) (first k : ℕ) where
  right_behind : (j : ℕ) → right_from s (first + 8 * k) j ≡ right_from s first (k + j)
  unfolding right_from
  right_behind j = let e : first + 8 * k + 8 * j ≡ first + 8 * (k + j) = omega arith in ap (right_at s) e

  ticks_behind : (j : ℕ) → ticks_from s (first + 8 * k) j ≡ ticks_from s first (k + j)
  unfolding ticks_from
  ticks_behind j = let e : first + 8 * k + 8 * j + 4 ≡ first + 8 * (k + j) + 4 = omega arith in ap (u32at s) e

-- what a sum says
pub sum_says : (s : Bytes) (at n before : ℕ) (t : TotalTicks) → Some t ≡ sum_from s at n before
    → (all_below n (right_from s at) ≡ true) × (t.0 ≡ before + sum (list_below n (ticks_from s at)))
unfolding sum_from
sum_says s at n before t e = go (all_below n (right_from s at)) e
  where
    m : ℕ
    m = before + sum (list_below n (ticks_from s at))

    go : (b : Bool) → ◌≡◌ {A = Option TotalTicks} (Some t) (cond b (Some (record { 0 = m })) None) → (b ≡ true) × (t.0 ≡ m)
    go true h = (refl, let q : t ≡ record { 0 = m } = cc in ap (λ x. x.0) q)
    go false h = absurd (let z : ◌≡◌ {A = ℕ} 0 1 = cc in omega arith)

pub wrong_says : (s : Bytes) (at n before : ℕ) → None ≡ sum_from s at n before → all_below n (right_from s at) ≡ false
unfolding sum_from
wrong_says s at n before e = go (all_below n (right_from s at)) e
  where
    go : (b : Bool) → ◌≡◌ {A = Option TotalTicks} None (cond b (Some (record { 0 = before + sum (list_below n (ticks_from s at)) })) None) → b ≡ false
    go true h = absurd (let z : ◌≡◌ {A = ℕ} 0 1 = cc in omega arith)
    go false h = refl

module _ {s : Bytes} {first count before k total : ℕ} (u : Summing s first count before k total) where
  -- record by record
  behind : (n : ℕ) → k + n ≤ count → all_below n (right_from s (first + 8 * k)) ≡ true
      → Summing s first count before (k + n) (total + sum (list_below n (ticks_from s (first + 8 * k))))
  unfolding all_below list_below sum
  behind zero h e =
      let a : k + 0 ≡ k = omega arith in
      let b : total + 0 ≡ total = omega arith in
      rw (a, b) u
  behind (suc n) h e =
      let p = both (all_below n (right_from s (first + 8 * k))) (right_from s (first + 8 * k) n) e in
      let r = behind n (omega arith) p.0 in
      let q = summing_next r (omega arith) (sym (right_behind s first k n) ∙ p.1) in
      let a : k + suc n ≡ k + n + 1 = omega arith in
      let m = sum (list_below n (ticks_from s (first + 8 * k))) in
      let b : total + sum (list_below (suc n) (ticks_from s (first + 8 * k))) ≡ total + m + ticks_from s first (k + n) = omega (arith, sum_next s (first + 8 * k) n, ticks_behind s first k n) in
      rw (a, b) q

  pub summing_piece : (n : ℕ) (t : TotalTicks) → k + n ≤ count → Some t ≡ sum_from s (first + 8 * k) n total → Summing s first count before (k + n) t.0
  summing_piece n t h e = let a = sum_says s (first + 8 * k) n total t e in rw a.1 (behind n h a.0)

  pub piece_wrong : (n : ℕ) → k + n ≤ count → None ≡ sum_from s (first + 8 * k) n total → None ≡ sum_from s first count before
  unfolding sum_from
  piece_wrong n h e =
      let f = false_of (all_below count (right_from s first))
      (λ r. clash (below_of n (right_from s (first + 8 * k)) (λ j q. right_behind s first k j ∙ below_at count (right_from s first) r (k + j) (omega arith)))
      (wrong_says s (first + 8 * k) n total e)) in
      rw f

  -- the ticks of n records more can be added
  pub piece_fits : AreBytes s → before ≡ 0 → count < 0x1_0000_0000 → (n : ℕ) → k + n ≤ count → total + n * 0x1_0000_0000 < 0x1_0000_0000_0000_0000
  piece_fits b z l n h = omega (arith, u.ticks, sum_most s first b k)
