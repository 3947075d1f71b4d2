-- The walk that lists a chain: it is at s, the sectors before it stand in the work buffer.
use Prim.Native.Nat.{ℕ, suc, ◌+◌, ◌-◌, ◌≤◌, ◌<◌}
use mathlib.Core.Path.{◌≡◌, sym, ◌∙◌, ap}
use mathlib.Core.Bool.{true}
use mathlib.Core.List.{List, ◌∷◌}
use native.Mathlib.Omega.{arith}
use lib.ListN.{get_or, set}
use Rattle.format.specs.Basics.Bytes.{Bytes}
use Rattle.format.specs.Layout.Geometry.{Geometry, sector_count}
use Rattle.format.specs.Layout.Chain.{chain, units}
use Rattle.format.specs.Layout.Tables.{fat_cell}
use Rattle.theory.proofs.Chains.{chain_next, units_next}
use Rattle.tables.specs.Work.{Wrote, Holds}
use Rattle.tables.specs.Listed.{FatListedAt}
use Rattle.tables.proofs.WorkLaws.{wrote_none, wrote_set, holds_none, holds_more, listed_kept}
use Rattle.chains.specs.Answers.{unit_at}

pub record Listing (g : Geometry) (img : Bytes) (w₀ : List ℕ) (sectors list n s₀ at : ℕ) (w : List ℕ) (s i : ℕ) : Type 0 where
  pub some : i ≤ n
  pub room : at + n ≤ list
  pub listed : FatListedAt g img w sectors list
  pub wrote : Wrote w₀ w at n
  pub holds : Holds w at i (unit_at (units (fat_cell g img) n s₀))
  pub left : chain (fat_cell g img) (sector_count g img) (n - i) s ≡ true
  pub rest : (j : ℕ) → get_or (units (fat_cell g img) n s₀) (i + j) 0 ≡ get_or (units (fat_cell g img) (n - i) s) j 0

module _ {g : Geometry} {img : Bytes} {w₀ : List ℕ} {sectors list n s₀ at : ℕ} where
  pub listing_start : FatListedAt g img w₀ sectors list → at + n ≤ list → chain (fat_cell g img) (sector_count g img) n s₀ ≡ true → Listing g img w₀ sectors list n s₀ at w₀ s₀ 0
  listing_start l r h =
      record {
        some = omega arith;
        room = r;
        listed = l;
        wrote = wrote_none w₀ at n;
        holds = holds_none w₀ at _ (omega (arith, l.room));
        left = let z : n - 0 ≡ n = omega arith in rw z h;
        rest = λ j.
            let z : n - 0 ≡ n = omega arith in
            let y : 0 + j ≡ j = omega arith in
            rw (z, y);
      }

  module _ {w : List ℕ} {s i : ℕ} (a : Listing g img w₀ sectors list n s₀ at w s i) (h : i < n) where
    step : (s < sector_count g img) × (chain (fat_cell g img) (sector_count g img) (n - i - 1) (fat_cell g img s) ≡ true)
    step = chain_next (fat_cell g img) (n - i) s (omega arith) (sector_count g img) a.left

    here : units (fat_cell g img) (n - i) s ≡ (s ∷ units (fat_cell g img) (n - i - 1) (fat_cell g img s))
    here = units_next (fat_cell g img) (n - i) s (omega arith)

    first : s ≡ get_or (units (fat_cell g img) n s₀) i 0
    first =
        let z : i + 0 ≡ i = omega arith in
        sym (ap (λ k. get_or (units (fat_cell g img) n s₀) k 0) (sym z) ∙ a.rest 0 ∙ ap (λ us. get_or us 0 0) here)

    pub listing_below : s < sector_count g img
    listing_below = step.0

    fewer : n - i - 1 ≡ n - (i + 1)
    fewer = omega arith

    pub listing_set : FatListedAt g img (set w (at + i) s) sectors list
    listing_set =
        let k : Wrote w (set w (at + i) s) at n = wrote_set (at + i) s (wrote_none w at n) (omega arith) (omega arith) in
        listed_kept a.listed k a.room

    pub listing_step : Listing g img w₀ sectors list n s₀ at (set w (at + i) s) (fat_cell g img s) (i + 1)
    listing_step =
        record {
          some = omega arith;
          room = a.room;
          listed = listing_set;
          wrote = wrote_set (at + i) s a.wrote (omega arith) (omega arith);
          holds = holds_more s a.holds (omega (arith, a.listed.room, a.room)) first;
          left = ap (λ k. chain (fat_cell g img) (sector_count g img) k (fat_cell g img s)) (sym fewer) ∙ step.1;
          rest = λ j.
              let z : i + 1 + j ≡ i + suc j = omega arith in
              ap (λ k. get_or (units (fat_cell g img) n s₀) k 0) z
              ∙ a.rest (suc j)
              ∙ ap (λ us. get_or us (suc j) 0) here
              ∙ ap (λ k. get_or (units (fat_cell g img) k (fat_cell g img s)) j 0) fewer;
        }
