-- The walk that fills a list up with free units: what is listed, and what the searches still to be made find, are what all searches find; and so it
-- is with the cells looked at.
use Prim.Native.Nat.{ℕ, suc, ◌+◌, ◌-◌, ◌≤◌, ◌<◌}
use mathlib.Core.Path.{◌≡◌, refl, sym, ◌∙◌, ap, ap₂}
use mathlib.Core.List.{List, [], ◌∷◌, ◌++◌, append_assoc, append-nil}
use native.Mathlib.Numerals.{add-one}
use native.Mathlib.Omega.{arith}
use Rattle.std.specs.Prelude.{Some, None}
use borrow.Author.Tests.{lt-ltb, le-ltb}
use lib.ListN.{length, take, set}
use lib.Seq.{take-suc-set}
use Rattle.format.specs.Basics.Lists.{sum}
use Rattle.format.specs.Layout.Space.{Space}
use Rattle.format.specs.Calls.Search.{lowest_free, search, searches, growth_searches, units_found, cells_looked}
use Rattle.theory.proofs.Searches.{look_at_most}
use Rattle.tables.specs.Work.{Wrote}
use Rattle.tables.proofs.WorkLaws.{wrote_none, wrote_set}
use Rattle.spaces.specs.Units.{number_in}
use Rattle.spaces.specs.declared.Kind.{Kind}
use Rattle.spaces.specs.declared.Unit.{Unit}
use Rattle.unitlists.specs.Searches.{search_from, filled_up}
use Rattle.unitlists.specs.declared.Search.{Search}
use Rattle.unitlists.specs.declared.Listed.{Listed}
use Rattle.unitlists.proofs.Searching.{search_looked, search_found, search_nothing}

-- ---- one search more

module _ (sp : Space) (n a : ℕ) where
  -- it finds a unit, and others follow
  module _ {u : ℕ} (z : lowest_free sp a ≡ u) (h : u < sp.limit) where
    more_units : units_found sp (searches sp (suc n) a) ≡ u ∷ units_found sp (searches sp n (u + 1))
    unfolding searches search units_found
    more_units = rw (z, add-one, lt-ltb u sp.limit h)

    more_cells : cells_looked (searches sp (suc n) a) ≡ (search sp a).looked + cells_looked (searches sp n (u + 1))
    unfolding searches search cells_looked sum
    more_cells = rw (z, add-one, lt-ltb u sp.limit h)

  -- it finds none, and is the last
  module _ (h : sp.limit ≤ lowest_free sp a) where
    no_units : units_found sp (searches sp (suc n) a) ≡ []
    unfolding searches search units_found
    no_units = rw (le-ltb (lowest_free sp a) sp.limit h)

    no_cells : cells_looked (searches sp (suc n) a) ≡ (search sp a).looked
    unfolding searches search cells_looked sum
    no_cells = rw (le-ltb (lowest_free sp a) sp.limit h) (omega arith)

  -- either way its cells are some of all
  own_cells : (search sp a).looked ≤ cells_looked (searches sp (suc n) a)
  unfolding searches search cells_looked sum
  own_cells = omega arith

-- ---- the walk

pub record Picking (sp : Space) (w₀ : List ℕ) (k₀ need : ℕ) (w : List ℕ) (k from looked : ℕ) : Type 0 where
  pub some : k ≤ need
  pub within : from ≤ sp.limit
  pub wrote : Wrote w₀ w 0 need
  pub count : k + length (units_found sp (searches sp (need - k) from)) ≡ k₀ + length (units_found sp (growth_searches sp (need - k₀)))
  pub front : take k w ++ units_found sp (searches sp (need - k) from) ≡ take k₀ w₀ ++ units_found sp (growth_searches sp (need - k₀))
  pub cells : looked + cells_looked (searches sp (need - k) from) ≡ cells_looked (growth_searches sp (need - k₀))

module _ {sp : Space} {w₀ : List ℕ} {k₀ need : ℕ} where
  pub picking_start : k₀ ≤ need → Picking sp w₀ k₀ need w₀ k₀ 0 0
  unfolding growth_searches
  picking_start h = record { some = h; within = omega arith; wrote = wrote_none w₀ 0 need; count = refl; front = refl; cells = omega arith }

  module _ {w : List ℕ} {k from looked : ℕ} (a : Picking sp w₀ k₀ need w k from looked) where
    -- one is still to be made
    one_more : k < need → need - k ≡ suc (need - (k + 1))
    one_more h = omega arith

    -- what is left after a search that finds u
    next_step : {u : ℕ} → lowest_free sp from ≡ u → u < sp.limit → k < need → k < length w
        → Picking sp w₀ k₀ need (set w k u) (k + 1) (u + 1) (looked + (search sp from).looked)
    next_step {u} z i h l =
        let m = need - (k + 1) in
        let units : units_found sp (searches sp (need - k) from) ≡ u ∷ units_found sp (searches sp m (u + 1)) =
        ap (λ n. units_found sp (searches sp n from)) (one_more h) ∙ more_units sp m from z i in
        let seen : cells_looked (searches sp (need - k) from) ≡ (search sp from).looked + cells_looked (searches sp m (u + 1)) =
        ap (λ n. cells_looked (searches sp n from)) (one_more h) ∙ more_cells sp m from z i in
        let t : take (k + 1) (set w k u) ≡ take k w ++ (u ∷ []) = rw add-one (take-suc-set w k u l) in
        record {
          some = omega arith;
          within = omega arith;
          wrote = wrote_set k u a.wrote (omega arith) (omega arith);
          count = omega (arith, a.count, ap length units);
          front = rw t (append_assoc (take k w) (u ∷ []) (units_found sp (searches sp m (u + 1)))) ∙ rw units at a.front;
          cells = omega (arith, a.cells, seen);
        }

    -- what the walk leaves, where it has looked at so many cells
    abbrev Filled : ℕ → Type 0
    Filled seen = (◌≡◌ {A = Listed} (record { count = k; looked = seen }) (filled_up sp k₀ need)) × (take k w ≡ take k₀ w₀ ++ units_found sp (growth_searches sp (need - k₀)))

    filled : (seen : ℕ) → units_found sp (searches sp (need - k) from) ≡ [] → looked + cells_looked (searches sp (need - k) from) ≡ seen → Filled seen
    unfolding filled_up
    filled seen units e =
        let c : k ≡ k₀ + length (units_found sp (growth_searches sp (need - k₀))) = omega (arith, a.count, ap length units) in
        (ap₂ {C = Listed} (λ n m. record { count = n; looked = m }) c (sym e ∙ a.cells), sym (append-nil (take k w)) ∙ rw units at a.front)

    -- there are as many as are needed
    pub picking_full : need ≤ k → Filled looked
    unfolding searches units_found cells_looked sum
    picking_full h =
        let z : need - k ≡ 0 = omega arith in
        let e : cells_looked (searches sp (need - k) from) ≡ 0 = ap (λ n. cells_looked (searches sp n from)) z in
        filled looked (ap (λ n. units_found sp (searches sp n from)) z) (omega (arith, e))

    -- ---- by a search

    module _ (kind : Kind) {r : Search} (e : r ≡ search_from kind sp from) (h : k < need) where
      -- the cells add up to no more than there are
      pub picking_cells : looked + r.looked ≤ sp.limit
      picking_cells = omega (arith, search_looked kind sp from e, own_cells sp (need - (k + 1)) from, rw (one_more h) at a.cells, look_at_most sp (need - k₀))

      pub picking_below : {u : Unit} → r.found ≡ Some u → number_in u < sp.limit
      picking_below q = (search_found kind sp from e q).1

      pub picking_step : {u : Unit} → r.found ≡ Some u → k < length w → Picking sp w₀ k₀ need (set w k (number_in u)) (k + 1) (number_in u + 1) (looked + r.looked)
      picking_step q l = let f = search_found kind sp from e q in rw (search_looked kind sp from e) (next_step f.0 f.1 h l)

      -- no free unit is left
      pub picking_none : r.found ≡ None → Filled (looked + r.looked)
      picking_none q =
          let f = search_nothing kind sp from e q in
          rw (search_looked kind sp from e)
          (filled (looked + (search sp from).looked)
          (ap (λ n. units_found sp (searches sp n from)) (one_more h) ∙ no_units sp (need - (k + 1)) from f)
          (ap (λ n. looked + cells_looked (searches sp n from)) (one_more h) ∙ ap (λ n. looked + n) (no_cells sp (need - (k + 1)) from f)))
