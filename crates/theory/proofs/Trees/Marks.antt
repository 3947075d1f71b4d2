-- Marks: what a mark set changes, and what it says that an entry is fresh.
use mathlib.Core.Path.{◌≡◌, refl}
use mathlib.Core.Bool.{true, ◌&&◌}
use mathlib.Core.List.{List, [], ◌∷◌}
use Prim.Native.Nat.{ℕ, zero, suc, ◌<◌}
use native.Mathlib.Omega.{arith}
use borrow.Author.Tests.{eqb-true}
use lib.Dec.{eqb}
use lib.ListN.{length, get_or, set}
use Rattle.format.specs.Basics.Lists.{bit}
use Rattle.format.specs.Layout.Directory.{Directory}
use Rattle.format.specs.Layout.Tree.{named}
use Rattle.format.specs.Rules.Trees.{is_object}
use Rattle.theory.specs.TreeWalk.{zeros, fresh}
use Rattle.theory.proofs.Tests.{both}

pub zeros_set : (m : List ℕ) (i : ℕ) → i < length m → get_or m i 0 ≡ 0 → zeros m ≡ suc (zeros (set m i 1))
unfolding zeros
zeros_set [] i h e = absurd (omega arith)
zeros_set (x ∷ m) zero h e = rw e (omega arith)
zeros_set (x ∷ m) (suc i) h e = let z = zeros_set m i (omega arith) e in omega arith

pub zeros_all : (m : List ℕ) → ((x : ℕ) → get_or m x 0 ≡ 0) → zeros m ≡ length m
unfolding zeros
zeros_all [] h = refl
zeros_all (y ∷ m) h =
    let e : y ≡ 0 = h zero in
    let q : bit (eqb y 0) ≡ 1 = rw e in
    let r = zeros_all m (λ x. h (suc x)) in
    omega arith

module _ (d : Directory) (m : List ℕ) (x : ℕ) where
  pub fresh_apart : fresh d m x ≡ true → (named d x ≡ true) × (is_object d x ≡ true) × (get_or m x 0 ≡ 0)
  unfolding fresh
  fresh_apart e =
      let u = both (named d x) (is_object d x && eqb (get_or m x 0) 0) e in
      let v = both (is_object d x) (eqb (get_or m x 0) 0) u.1 in
      (u.0, v.0, eqb-true (get_or m x 0) 0 v.1)
