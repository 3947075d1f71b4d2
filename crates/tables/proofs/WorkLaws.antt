-- Parts of the work buffer, kept and written.
use Prim.Native.Nat.{ℕ, ◌+◌, ◌-◌, ◌≤◌, ◌<◌}
use mathlib.Core.Path.{◌≡◌, refl, sym, ◌∙◌, ap}
use mathlib.Core.List.{List, ◌++◌}
use mathlib.Core.Logic.{◌⊎◌, inl, inr, ⊎_elim}
use native.Mathlib.Decide.{ℕ_discrete}
use native.Mathlib.Omega.{arith}
use lib.ListN.{length, get_or, set, replicate, drop, length-set, length-append, length-replicate, length-drop, get_or-append, get_or-replicate}
use lib.Seq.{get_or-set_same, get_or-set_other, get_or-append-add, get_or-drop}
use Rattle.format.specs.Basics.Bytes.{Bytes}
use Rattle.format.specs.Layout.Geometry.{Geometry}
use Rattle.format.specs.Calls.Buffers.{work_cleared}
use Rattle.tables.specs.Work.{Wrote, Holds}
use Rattle.tables.specs.Listed.{FatListedAt}

-- ---- nothing changed but a part

pub wrote_none : (w : List ℕ) (at n : ℕ) → Wrote w w at n
wrote_none w at n = record { long = refl; outside = λ i h. refl }

pub wrote_set : {b w : List ℕ} {at n : ℕ} (i v : ℕ) → Wrote b w at n → at ≤ i → i < at + n → Wrote b (set w i v) at n
wrote_set {w = w} i v r l h =
    record {
      long = length-set w i v ∙ r.long;
      outside = λ k p. get_or-set_other w i k v 0 (⊎_elim (λ q. omega arith) (λ q. omega arith) p) ∙ r.outside k p;
    }

pub wrote_two : {w₁ w₂ w₃ : List ℕ} {at n : ℕ} → Wrote w₁ w₂ at n → Wrote w₂ w₃ at n → Wrote w₁ w₃ at n
wrote_two p q = record { long = q.long ∙ p.long; outside = λ i h. q.outside i h ∙ p.outside i h }

-- a part of a part
pub wrote_wider : {b w : List ℕ} {at n : ℕ} (a m : ℕ) → Wrote b w at n → a ≤ at → at + n ≤ a + m → Wrote b w a m
wrote_wider a m r l h =
    record { long = r.long; outside = λ i p. r.outside i (⊎_elim (λ q. inl (omega arith)) (λ q. inr (omega arith)) p) }

-- ---- what stands in a part

pub holds_none : (w : List ℕ) (at : ℕ) (f : ℕ → ℕ) → at ≤ length w → Holds w at 0 f
holds_none w at f h = record { room = omega arith; here = λ j l. absurd (omega arith) }

pub holds_more : {w : List ℕ} {at j : ℕ} {f : ℕ → ℕ} (v : ℕ) → Holds w at j f → at + j < length w → v ≡ f j → Holds (set w (at + j) v) at (j + 1) f
holds_more {w} {at} {j} {f} v h l e =
    record {
      room = rw length-set (omega arith);
      here = λ i p.
          elim (ℕ_discrete i j) [
            | yes z ↦ rw z (get_or-set_same w (at + j) v 0 l ∙ e)
            | no z ↦ get_or-set_other w (at + j) (at + i) v 0 (omega arith) ∙ h.here i (omega arith)
          ];
    }

pub holds_same : {w : List ℕ} {at n : ℕ} {f h : ℕ → ℕ} → Holds w at n f → ((j : ℕ) → j < n → f j ≡ h j) → Holds w at n h
holds_same a e = record { room = a.room; here = λ j l. a.here j l ∙ e j l }

pub holds_kept : {b w : List ℕ} {at n a m : ℕ} {f : ℕ → ℕ} → Holds b a m f → Wrote b w at n → (a + m ≤ at) ⊎ (at + n ≤ a) → Holds w a m f
holds_kept h r d =
    record {
      room = omega (arith, h.room, r.long);
      here = λ j l. r.outside _ (⊎_elim (λ q. inl (omega arith)) (λ q. inr (omega arith)) d) ∙ h.here j l;
    }

-- the list stays where only what stands before it changes
pub listed_kept : {g : Geometry} {img : Bytes} {w w' : List ℕ} {n list at m : ℕ} → FatListedAt g img w n list → Wrote w w' at m → at + m ≤ list → FatListedAt g img w' n list
listed_kept l r k =
    record {
      sized = l.sized;
      count = l.count;
      apart = l.apart;
      room = omega (arith, l.room, r.long);
      covers = l.covers;
      few = l.few;
      fats = λ j h. r.outside _ (inr (omega (arith, k))) ∙ l.fats j h;
      below = l.below;
    }

-- ---- zeros at the start

module _ (n : ℕ) (w : List ℕ) where
  cleared_in : (u : ℕ) → u < n → get_or (work_cleared n w) u 0 ≡ 0
  unfolding work_cleared
  cleared_in u l = get_or-append (replicate n 0) (drop n w) 0 u (omega (arith, length-replicate {A = ℕ} n 0)) ∙ get_or-replicate n u 0 0 l

  cleared_past : (i : ℕ) → n ≤ i → get_or (work_cleared n w) i 0 ≡ get_or w i 0
  unfolding work_cleared
  cleared_past i l =
      let z : length (replicate {A = ℕ} n 0) + (i - n) ≡ i = omega (arith, length-replicate {A = ℕ} n 0) in
      let y : n + (i - n) ≡ i = omega arith in
      ap (λ k. get_or (replicate n 0 ++ drop n w) k 0) (sym z) ∙ get_or-append-add (replicate n 0) (drop n w) (i - n) 0 ∙ get_or-drop n w (i - n) 0 ∙ ap (λ k. get_or w k 0) y

  cleared_length : n ≤ length w → length (work_cleared n w) ≡ length w
  unfolding work_cleared
  cleared_length l = omega (arith, length-append (replicate n 0) (drop n w), length-replicate {A = ℕ} n 0, length-drop n w)

  pub cleared : (w' : List ℕ) → w' ≡ work_cleared n w → (u : ℕ) → u < n → get_or w' u 0 ≡ 0
  cleared w' e u l = rw e (cleared_in u l)

  pub wrote_cleared : (w' : List ℕ) → w' ≡ work_cleared n w → n ≤ length w → Wrote w w' 0 n
  wrote_cleared w' e l =
      record {
        long = rw e (cleared_length l);
        outside = λ i p. rw e (cleared_past i (⊎_elim (λ q. omega arith) (λ q. omega arith) p));
      }
