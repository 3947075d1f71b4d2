-- The walk that lists the units of a chain: it is at unit u, and the i units before it stand at the start of the work buffer.
use Prim.Native.Nat.{ℕ, ◌+◌, ◌≤◌, ◌<◌}
use mathlib.Core.Path.{◌≡◌, refl, sym, ◌∙◌, ap}
use mathlib.Core.List.{List}
use mathlib.Core.Bool.{true}
use native.Mathlib.Numerals.{add-one}
use native.Mathlib.Omega.{arith}
use lib.ListN.{length, get_or, take, set}
use lib.Seq.{take_all, take-suc, take-suc-set}
use Rattle.format.specs.Layout.Chain.{chain, units}
use Rattle.theory.proofs.Chains.{length_units}
use Rattle.tables.specs.Work.{Wrote}
use Rattle.tables.proofs.WorkLaws.{wrote_none, wrote_set}
use Rattle.minis.proofs.Sectors.{unit_below}
use Rattle.spaces.proofs.Walks.{unit_first, unit_next}

pub record Listing (f : ℕ → ℕ) (n s : ℕ) (w₀ w : List ℕ) (u i : ℕ) : Type 0 where
  pub some : i ≤ n
  pub wrote : Wrote w₀ w 0 n
  pub at : i < n → u ≡ get_or (units f n s) i 0
  pub front : take i w ≡ take i (units f n s)

module _ {f : ℕ → ℕ} {n s : ℕ} {w₀ : List ℕ} where
  pub listing_start : Listing f n s w₀ w₀ s 0
  listing_start =
      record {
        some = omega arith;
        wrote = wrote_none w₀ 0 n;
        at = λ h. sym (unit_first f n s h);
        front = refl;
      }

  module _ {w : List ℕ} {u i : ℕ} (a : Listing f n s w₀ w u i) where
    pub listing_below : {limit : ℕ} → chain f limit n s ≡ true → i < n → u < limit
    listing_below {limit} c h = rw (a.at h) (unit_below f limit n s c i h)

    -- what is written when u is
    pub listing_wrote : i < n → Wrote w₀ (set w i u) 0 n
    listing_wrote h = wrote_set i u a.wrote (omega arith) (omega arith)

    pub listing_step : i < n → i < length w → Listing f n s w₀ (set w i u) (f u) (i + 1)
    listing_step h l =
        record {
          some = omega arith;
          wrote = listing_wrote h;
          at = λ q. sym (unit_next f n s i q ∙ ap f (sym (a.at h)));
          front = rw add-one (take-suc-set w i u l ∙ rw (a.front, a.at h) (sym (take-suc (units f n s) i 0 (rw length_units h))));
        }

    pub listing_done : n ≤ i → take n w ≡ units f n s
    listing_done h =
        let e : i ≡ n = omega (arith, a.some) in
        (rw e at a.front) ∙ take_all n (units f n s) (rw length_units (omega arith))
