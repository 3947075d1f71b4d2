-- The walk that looks for a free unit: what is still to be found lies from the place it has come to on, and it has looked at each cell before that.
use Prim.Native.Nat.{ℕ, suc, ◌+◌, ◌-◌, ◌≤◌, ◌<◌, min}
use mathlib.Core.Path.{◌≡◌, refl, sym, ◌∙◌, ap}
use mathlib.Core.Logic.{◌≢◌}
use native.Mathlib.Decide.{dec_lt}
use native.Mathlib.Numerals.{add-one}
use native.Mathlib.Omega.{arith}
use Rattle.std.specs.Prelude.{Some, None}
use borrow.Author.Tests.{eq-eqb, ne_eqb, lt-ltb, le-ltb}
use Rattle.format.specs.Layout.Chain.{FREE}
use Rattle.format.specs.Layout.Space.{Space}
use Rattle.format.specs.Calls.Search.{lowest_free, search}
use Rattle.theory.proofs.Searches.{lowest_here, lowest_next, lowest_none}
use Rattle.spaces.specs.Units.{number_in, unit_of}
use Rattle.spaces.specs.declared.Kind.{Kind}
use Rattle.spaces.specs.declared.Unit.{Unit}
use Rattle.spaces.proofs.Units.{number_in_lem}
use Rattle.unitlists.specs.Searches.{found_at, search_from}
use Rattle.unitlists.specs.declared.Search.{Search}

pub record Searching (sp : Space) (from i looked : ℕ) : Type 0 where
  pub high : i ≤ sp.limit
  pub lowest : lowest_free sp from ≡ lowest_free sp i
  pub count : from + looked ≡ i

pub searching_start : {sp : Space} {from : ℕ} → from ≤ sp.limit → Searching sp from from 0
searching_start h = record { high = h; lowest = refl; count = omega arith }

module _ {sp : Space} {from i looked : ℕ} (a : Searching sp from i looked) where
  pub searching_step : i < sp.limit → sp.cell i ≢ FREE → Searching sp from (i + 1) (looked + 1)
  searching_step h q =
      record {
        high = omega arith;
        lowest = rw add-one (a.lowest ∙ lowest_next sp i (ne_eqb (sp.cell i) FREE q));
        count = omega (arith, a.count);
      }

  pub searching_found : (kind : Kind) (u : Unit) → u ≡ unit_of kind i → i < sp.limit → sp.cell i ≡ FREE
      → ◌≡◌ {A = Search} (record { found = Some u; looked = looked + 1 }) (search_from kind sp from)
  unfolding search_from found_at search
  searching_found kind u e h q =
      let z : lowest_free sp from ≡ i = a.lowest ∙ lowest_here sp i h (eq-eqb (sp.cell i) FREE q) in
      let n : looked + 1 ≡ min (suc i) sp.limit - from = omega (arith, a.count) in
      rw (z, lt-ltb i sp.limit h, e) (ap {B = Search} (λ n. record { found = Some (unit_of kind i); looked = n }) n)

  pub searching_none : (kind : Kind) → sp.limit ≤ i → ◌≡◌ {A = Search} (record { found = None; looked = looked }) (search_from kind sp from)
  unfolding search_from found_at search
  searching_none kind l =
      let z : lowest_free sp from ≡ sp.limit = a.lowest ∙ lowest_none sp i l in
      let n : looked ≡ min (suc sp.limit) sp.limit - from = omega (arith, a.count, a.high) in
      rw (z, le-ltb sp.limit sp.limit (omega arith)) (ap {B = Search} (λ n. record { found = None; looked = n }) n)

-- ---- what a search says

module _ (kind : Kind) (sp : Space) (from : ℕ) {r : Search} (e : r ≡ search_from kind sp from) where
  pub search_looked : r.looked ≡ (search sp from).looked
  unfolding search_from
  search_looked = ap (λ s. s.looked) e

  found_is : r.found ≡ found_at kind sp (lowest_free sp from)
  unfolding search_from search
  found_is = ap (λ s. s.found) e

  module _ (h : lowest_free sp from < sp.limit) where
    some : r.found ≡ Some (unit_of kind (lowest_free sp from))
    unfolding found_at
    some = rw (lt-ltb (lowest_free sp from) sp.limit h) at found_is

  module _ (h : sp.limit ≤ lowest_free sp from) where
    none : r.found ≡ None
    unfolding found_at
    none = rw (le-ltb (lowest_free sp from) sp.limit h) at found_is

  pub search_found : {u : Unit} → r.found ≡ Some u → (lowest_free sp from ≡ number_in u) × (number_in u < sp.limit)
  search_found {u} h =
      elim (dec_lt (lowest_free sp from) sp.limit) [
        | yes l ↦
            let q = some l in
            let z : unit_of kind (lowest_free sp from) ≡ u = cc in
            let n : number_in u ≡ lowest_free sp from = sym (ap number_in z) ∙ number_in_lem kind (lowest_free sp from) in
            (sym n, omega arith)
        | no l ↦
            let q = none (omega arith) in
            let z : ◌≡◌ {A = ℕ} 0 1 = cc in
            absurd (omega arith)
      ]

  pub search_nothing : r.found ≡ None → sp.limit ≤ lowest_free sp from
  search_nothing h =
      elim (dec_lt (lowest_free sp from) sp.limit) [
        | yes l ↦
            let q = some l in
            let z : ◌≡◌ {A = ℕ} 0 1 = cc in
            absurd (omega arith)
        | no l ↦ omega arith
      ]
