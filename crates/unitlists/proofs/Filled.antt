-- A list filled up with what the searches find: with the free units, lowest first.
use Prim.Native.Nat.{ℕ, ◌+◌, ◌-◌, ◌≤◌, min}
use mathlib.Core.Path.{◌≡◌, sym, ◌∙◌, ap}
use mathlib.Core.List.{List, ◌++◌}
use native.Mathlib.Omega.{arith}
use lib.ListN.{length, take, length-take}
use lib.Seq.{take_all}
use Rattle.format.specs.Layout.Space.{Space, free_units}
use Rattle.format.specs.Calls.Search.{growth_searches, units_found, cells_looked}
use Rattle.theory.proofs.Searches.{find_lowest, units_searched}
use Rattle.unitlists.specs.Searches.{filled_up}
use Rattle.unitlists.specs.declared.Listed.{Listed}

module _ (sp : Space) (k need : ℕ) {r : Listed} (e : r ≡ filled_up sp k need) where
  pub filled_looked : r.looked ≡ cells_looked (growth_searches sp (need - k))
  unfolding filled_up
  filled_looked = ap (λ l. l.looked) e

  module _ (h : k ≤ need) where
    pub filled_count : r.count ≡ min need (k + length (free_units sp))
    unfolding filled_up
    filled_count = omega (arith, ap (λ l. l.count) e, ap length (find_lowest sp (need - k)), length-take (need - k) (free_units sp))

    pub filled_list : (w₀ w : List ℕ) → length (take k w₀) ≡ k → take r.count w ≡ take k w₀ ++ units_found sp (growth_searches sp (need - k))
        → take r.count w ≡ take need (take k w₀ ++ free_units sp)
    filled_list w₀ w n q =
        q ∙ ap (λ us. us ++ units_found sp (growth_searches sp (need - k))) (sym (take_all need (take k w₀) (omega (arith, n))))
        ∙ sym (units_searched sp (take k w₀) need ∙ ap (λ m. take need (take k w₀) ++ units_found sp (growth_searches sp (need - m))) n)
