-- A legal name: how many units it has, and each of them.
use mathlib.Core.Path.{◌≡◌, sym}
use mathlib.Core.Logic.{◌⊎◌, inl, inr}
use mathlib.Core.Bool.{false, and-false}
use Prim.Native.Nat.{◌≤◌, ◌<◌}
use borrow.Author.Tests.{le-leb, lt-leb}
use lib.ListN.{length}
use Rattle.std.specs.List.{list_all}
use Rattle.format.specs.Layout.Name.{Name, legal_unit, legal_name}
use Rattle.paths.proofs.Splits.{all_is}

pub legal_outside : (n : Name) → (length n < 1) ⊎ (31 < length n) → false ≡ legal_name n
unfolding legal_name
legal_outside n (inl h) = sym (rw (lt-leb 1 (length n) h))
legal_outside n (inr h) = sym (rw (lt-leb (length n) 31 h, and-false))

pub legal_some : (n : Name) → (1 ≤ length n) × (length n ≤ 31) → list_all legal_unit n ≡ legal_name n
unfolding legal_name
legal_some n h = rw (le-leb 1 (length n) h.0, le-leb (length n) 31 h.1) (all_is legal_unit n)
