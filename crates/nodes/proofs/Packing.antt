-- Packing: reaching a node changes none of its fields.
use Prim.Native.Nat.{ℕ, ◌/◌, ◌%◌}
use mathlib.Core.Path.{◌≡◌, ap}
use mathlib.Core.Bool.{true, false}
use native.Mathlib.Omega.{arith}
use borrow.Author.Tests.{eq-eqb, eqb-false}
use lib.Dec.{eqb}
use Rattle.nodes.specs.Nodes.{node_left, node_child, node_units, node_red, node_reached, node_reach}

module _ (a : ℕ) (h : node_reached a ≡ false) where
  unset : a / 0x200_0000 % 2 ≡ 0
  unset = omega (arith, eqb-false (a / 0x200_0000 % 2) 1 h)

  pub reach_left : node_left (node_reach a) ≡ node_left a
  reach_left = omega arith

  pub reach_units : node_units (node_reach a) ≡ node_units a
  reach_units = omega arith

  pub reach_child : (b : ℕ) → node_child (node_reach a) b ≡ node_child a b
  reach_child b = omega (arith, unset)

  pub reach_red : node_red (node_reach a) ≡ node_red a
  reach_red = ap (λ k. eqb k 1) (let e : node_reach a / 0x100_0000 % 2 ≡ a / 0x100_0000 % 2 = omega arith in e)

  pub reach_reached : node_reached (node_reach a) ≡ true
  reach_reached = eq-eqb (node_reach a / 0x200_0000 % 2) 1 (omega (arith, unset))
