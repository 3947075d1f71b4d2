-- Who owns a unit: the system, or one of the chains of a list.
use Rattle.std.specs.Prelude.{◌≡◌, ◌≢◌, ◌⊎◌, List, [], ℕ, ◌+◌, ◌≤◌, ◌<◌, length, get_or}
use Rattle.format.specs.Basics.Lists.{count}
use Rattle.format.specs.Layout.Chain.{FREE}
use Rattle.theory.specs.Sums.{owners}
use Rattle.theory.specs.Links.{Linked}

-- the lists are chains, no unit has two owners, a unit below N with none is free, and the system's units are below N and not free
pub record Owned (N : ℕ) (sys : List ℕ) (f : ℕ → ℕ) (L : List (List ℕ)) : Type 0 where
  pub chains : (i : ℕ) → i < length L → Linked f N (get_or L i [])
  pub single : (s : ℕ) → count s sys + owners s L ≤ 1
  pub others : (s : ℕ) → s < N → count s sys + owners s L ≡ 0 → f s ≡ FREE
  pub within : (s : ℕ) → 0 < count s sys → s < N
  pub system : (s : ℕ) → 0 < count s sys → f s ≢ FREE

-- what a chain us may become: units that are all different, each its own or free
pub record MayBecome (N : ℕ) (f : ℕ → ℕ) (us ws : List ℕ) : Type 0 where
  pub diff : (s : ℕ) → count s ws ≤ 1
  pub from : (s : ℕ) → 0 < count s ws → (s < N) × ((0 < count s us) ⊎ (f s ≡ FREE))
