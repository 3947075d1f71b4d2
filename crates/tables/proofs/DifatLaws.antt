-- The DIFAT's sectors and entries: their counts, and the walks that list them.
use Prim.Native.Nat.{ℕ, ◌+◌, ◌-◌, ◌*◌, ◌/◌, ◌%◌, ◌≤◌, ◌<◌}
use mathlib.Core.Path.{◌≡◌, refl, sym}
use mathlib.Core.Bool.{Bool, true, false}
use mathlib.Core.List.{List}
use mathlib.Core.Logic.{inr}
use native.Mathlib.Numerals.{add-one}
use native.Mathlib.Nat.{div-lt_iff_lt-mul, div-eq_of_lt-le, add-mul, zero-add, mod-lt, mul_comm, mul-le-mul_right}
use native.Mathlib.Omega.{arith}
use lib.Dec.{eqb}
use lib.ListN.{length, set}
use borrow.Author.Tests.{lt-ltb, le-ltb}
use Rattle.std.specs.Int.{div_ceil}
use Rattle.std.specs.Bool.{MatchBool}
use Rattle.std.specs.List.{AllWithin, HoldsAt, range_with_len}
use Rattle.std.proofs.lemmas.List.FromFn.{length-range_with_len, get_or-range_with_len}
use Rattle.std.proofs.lemmas.Grind.{div_ceil_times}
use Rattle.format.specs.Layout.Need.{round_up}
use Rattle.format.specs.Basics.Lists.{all_below}
use Rattle.format.specs.Basics.Bytes.{Bytes}
use Rattle.format.specs.Layout.Geometry.{Geometry, header_difat, sector_count, cells_in, difat_in}
use Rattle.format.specs.Layout.Chain.{END, FREE}
use Rattle.format.specs.Layout.Header.{fat_count, difat_start, difat_count}
use Rattle.format.specs.Layout.Tables.{difat_sector, difat_entry}
use Rattle.format.specs.Rules.Tables.{difat_need, difat_ends, difat_rest, spare_entry_free}
use Rattle.theory.proofs.RoundUp.{round_enough}
use Rattle.theory.proofs.Tests.{clash, below_of}
use Rattle.header.specs.Sized.{ImageSized, F, D}
use Rattle.tables.specs.Words.{word_in}
use Rattle.tables.specs.Work.{Wrote, Holds}
use Rattle.tables.specs.Stages.{Counted, difat_below, DifatListed, Difats}
use Rattle.tables.proofs.Places.{cells_some, cells_few, difat_is, difat_first, difat_next}
use Rattle.theory.proofs.Loops.{below_none, below_more, below_not}
use Rattle.tables.proofs.WorkLaws.{wrote_none, wrote_set, holds_none, holds_more, holds_kept}

-- ---- the counts

-- a division that rounds up, as code has it
pub round_up_is : (n d : ℕ) → 0 < d → div_ceil n d ≡ round_up n d
unfolding round_up
round_up_is n d h = let b = div_ceil_times n d h in sym (div-eq_of_lt-le d (omega (arith, b)) (omega (arith, b, add-mul (div_ceil n d) 1 d)))

module _ {g : Geometry} {img : Bytes} (z : ImageSized g img) where
  pub difat_some : 127 ≤ difat_in g
  difat_some = omega (arith, difat_is z, cells_some z)

  pub difat_few : difat_in g ≤ 1023
  difat_few = omega (arith, difat_is z, cells_few z)

  -- the DIFAT sector that holds an entry, and the entry's place there
  pub entry_sector : (i : ℕ) → 109 ≤ i → i < header_difat + difat_in g * D img → (i - 109) / difat_in g < D img
  unfolding header_difat
  entry_sector i l h = (div-lt_iff_lt-mul {k = difat_in g} {x = i - 109} {y = D img} (omega (arith, difat_some))).1 (omega (arith, mul_comm (difat_in g) (D img)))

  pub entry_index : (i : ℕ) → i % difat_in g < cells_in g
  entry_index i = omega (arith, difat_is z, mod-lt i {m = difat_in g} (omega (arith, difat_some)))

module _ {g : Geometry} {img : Bytes} (c : Counted g img) where
  -- there is an entry for each FAT sector
  pub entries_enough : F img ≤ header_difat + difat_in g * D img
  unfolding header_difat difat_need
  entries_enough =
      let e = round_enough (F img - 109) (difat_in g) (omega (arith, difat_some c.sized)) in
      omega (arith, rw (← c.need) at e, mul_comm (difat_in g) (D img))

  pub entries_few_lem : difat_in g * D img < 0x4_0000_0000
  entries_few_lem = omega (arith, mul-le-mul_right (D img) (difat_few c.sized), c.few, c.sized.few)

-- ---- listing the sectors

pub difat_below_lem : (g : Geometry) (img : Bytes) (j : ℕ) → difat_sector g img j < sector_count g img → difat_below g img j ≡ true
unfolding difat_below
difat_below_lem g img j h = lt-ltb _ _ h

pub difat_not : (g : Geometry) (img : Bytes) (j : ℕ) → sector_count g img ≤ difat_sector g img j → difat_below g img j ≡ false
unfolding difat_below
difat_not g img j h = le-ltb _ _ h

-- s is DIFAT sector j, and those before it stand in the buffer
pub record DifatWalk (g : Geometry) (img : Bytes) (w₀ : List ℕ) (at : ℕ) (w : List ℕ) (s j : ℕ) : Type 0 where
  pub here : s ≡ difat_sector g img j
  pub good : all_below j (difat_below g img) ≡ true
  pub wrote : Wrote w₀ w at (D img)
  pub holds : Holds w at j (difat_sector g img)

module _ {g : Geometry} {img : Bytes} {w₀ : List ℕ} {at : ℕ} where
  pub difat_start_lem : {s : ℕ} → s ≡ difat_start img → at ≤ length w₀ → DifatWalk g img w₀ at w₀ s 0
  difat_start_lem e l =
      record { here = rw (difat_first g img) e; good = below_none _; wrote = wrote_none _ _ _; holds = holds_none _ _ _ l }

  module _ {w : List ℕ} {s j : ℕ} (a : DifatWalk g img w₀ at w s j) where
    pub difat_step : (s' : ℕ) → j < D img → s < sector_count g img → at + D img ≤ length w₀ → s' ≡ word_in g img s (difat_in g) → DifatWalk g img w₀ at (set w (at + j) s) s' (j + 1)
    difat_step s' l h r e =
        record {
          here = rw (add-one, difat_next g img j, ← a.here) e;
          good = below_more (difat_below g img) j a.good (difat_below_lem g img j (rw (← a.here) h));
          wrote = wrote_set (at + j) s a.wrote (omega arith) (omega arith);
          holds = holds_more s a.holds (omega (arith, a.wrote.long)) a.here;
        }

    pub difat_out : j < D img → sector_count g img ≤ s → DifatListed g img w₀ w at false
    difat_out l h =
        record {
          answer = sym (rw (below_not (difat_below g img) (D img) j l (difat_not g img j (rw (← a.here) h))));
          wrote = a.wrote;
          holds = λ e. absurd (clash e refl);
        }

    pub difat_end : j ≡ D img → DifatListed g img w₀ w at (eqb s END)
    unfolding difat_ends difat_count
    difat_end z =
        record {
          answer = sym (rw (← z, a.good, ← a.here));
          wrote = a.wrote;
          holds = λ e. rw (← z) a.holds;
        }

-- ---- listing the first entries

-- the buffer has the first k
pub record FatWalk (g : Geometry) (img : Bytes) (w₀ : List ℕ) (at : ℕ) (w : List ℕ) (k : ℕ) : Type 0 where
  pub wrote : Wrote w₀ w at (F img)
  pub holds : Holds w at k (difat_entry g img)
  pub difats : Difats g img w (at + F img)

-- the DIFAT's sectors stay where what stands before them changes
pub difats_kept : {g : Geometry} {img : Bytes} {w w' : List ℕ} {at : ℕ} → Difats g img w (at + F img) → Wrote w w' at (F img) → Difats g img w' (at + F img)
difats_kept d r = record { counted = d.counted; holds = holds_kept d.holds r (inr (omega arith)); below = d.below }

-- ---- the entries after these

pub spare_is : (g : Geometry) (img : Bytes) (f i : ℕ) → f ≡ F img → spare_entry_free g img i ≡ eqb (difat_entry g img (f + i)) FREE
unfolding spare_entry_free fat_count
spare_is g img f i e = rw e

-- what a test of the first n numbers says
pub range_answer : (p : ℕ → Bool) (n : ℕ) (r : Bool)
    → MatchBool r (AllWithin (λ i. p i ≡ true) (range_with_len 0 n) 0 (length (range_with_len 0 n))) ((k : ℕ) × (k < length (range_with_len 0 n)) × HoldsAt (λ i. p i ≡ false) (range_with_len 0 n) k)
    → r ≡ all_below n p
range_answer p n true h =
    sym (below_of n p (λ k l. rw (get_or-range_with_len 0 n k 0 l, zero-add) at (h k 0 (omega arith) (omega (arith, length-range_with_len 0 n)))))
range_answer p n false h =
    let l : h.0 < n = omega (arith, h.1, length-range_with_len 0 n) in
    sym (below_not p n h.0 l (rw (get_or-range_with_len 0 n h.0 0 l, zero-add) at (h.2 0)))

pub rest_is : (g : Geometry) (img : Bytes) → difat_rest g img ≡ all_below (header_difat + difat_in g * D img - F img) (spare_entry_free g img)
unfolding difat_rest fat_count difat_count
rest_is g img = refl
