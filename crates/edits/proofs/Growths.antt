-- What gathering a growth's units comes to, and how many cells its searches look at.
use Prim.Native.Nat.{ℕ, ◌+◌, ◌-◌, ◌≤◌, ◌<◌}
use mathlib.Core.Path.{◌≡◌, sym, ◌∙◌, ap, ap₂}
use mathlib.Core.Bool.{Bool, not}
use native.Mathlib.Omega.{arith}
use native.Mathlib.Decide.{dec_lt}
use lib.Dec.{ltb}
use lib.ListN.{length}
use Rattle.format.specs.Basics.Lists.{sum}
use Rattle.format.specs.Layout.Space.{Space, free_units}
use Rattle.format.specs.Calls.Search.{searches, growth_searches, searches_for, cells_looked}
use Rattle.theory.proofs.Searches.{searches_some, searches_none, chain_looks}
use Rattle.edits.specs.Growths.{growth_in}
use Rattle.edits.specs.declared.resize.Growth.{Growth}

module _ (sp : Space) (old need : ℕ) where
  pub growth_is : {b : Bool} {n : ℕ} → b ≡ not (ltb (old + length (free_units sp)) need) → n ≡ cells_looked (searches_for sp old need)
      → ◌≡◌ {A = Growth} (record { enough = b; looked = n }) (growth_in sp old need)
  unfolding growth_in
  growth_is p q = ap₂ {C = Growth} (λ b n. record { enough = b; looked = n }) p q

  -- ---- the cells looked at

  -- more units than there are
  pub none_looked : sp.limit < need → 0 ≡ cells_looked (searches_for sp old need)
  unfolding cells_looked sum
  none_looked h = rw (searches_none sp old need h)

  -- no more than the chain has
  pub own_looked : need ≤ old → 0 ≡ cells_looked (searches_for sp old need)
  unfolding cells_looked sum growth_searches searches
  own_looked h =
      elim (dec_lt sp.limit need) [
        | yes l ↦ none_looked l
        | no l ↦ let z : need - old ≡ 0 = omega arith in sym (ap cells_looked (searches_some sp old need (omega arith)) ∙ ap (λ n. cells_looked (growth_searches sp n)) z)
      ]

  -- free ones too
  pub free_looked : need ≤ sp.limit → {n : ℕ} → n ≡ cells_looked (growth_searches sp (need - old)) → n ≡ cells_looked (searches_for sp old need)
  free_looked h q = q ∙ ap cells_looked (sym (searches_some sp old need h))

  -- ---- what the equation says

  module _ {r : Growth} (e : r ≡ growth_in sp old need) where
    pub growth_enough : r.enough ≡ not (ltb (old + length (free_units sp)) need)
    unfolding growth_in
    growth_enough = ap (λ g. g.enough) e

    pub growth_looked : r.looked ≡ cells_looked (searches_for sp old need)
    unfolding growth_in
    growth_looked = ap (λ g. g.looked) e

    pub growth_most : r.looked ≤ sp.limit
    growth_most = omega (arith, growth_looked, chain_looks sp old need)
