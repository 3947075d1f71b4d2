-- What lies in the units: a table of blocks, and an edit of one chain of it. What lies in the system's units is not said: an edit may change it.
use Rattle.std.specs.Prelude.{◌≡◌, cond, List, [], ◌∷◌, ℕ, ◌*◌, ◌<◌, eqb, ltb, length, take, drop}
use Rattle.format.specs.Basics.Lists.{count, fit}
use Rattle.format.specs.Layout.Space.{laid}
use Rattle.theory.specs.Links.{rechain}
use Rattle.theory.specs.Owned.{Owned}

-- c laid over the units ws, B to a unit
abbrev pub scatter : ℕ → List ℕ → List ℕ → (ℕ → List ℕ) → ℕ → List ℕ
scatter B [] c d s = d s
scatter B (w ∷ ws) c d s = cond (eqb s w) (take B c) (scatter B ws (drop B c) d s)

-- the first a numbers of c, and zeros up to n
unfoldable pub zero_behind : ℕ → ℕ → List ℕ → List ℕ
zero_behind n a c = fit n (take a c)

-- what lies in ws after a change of length from a to b, where us was the chain: zeros behind a if it grows, and else nothing changes
unfoldable pub target : ℕ → (ℕ → List ℕ) → List ℕ → List ℕ → ℕ → ℕ → List ℕ
target B d us ws a b = cond (ltb a b) (zero_behind (length ws * B) a (laid d us)) (laid d ws)

pub record Table : Type 0 where
  pub cells : ℕ → ℕ
  pub blocks : ℕ → List ℕ

pub record Kept (N B : ℕ) (sys : List ℕ) (t : Table) (L : List (List ℕ)) : Type 0 where
  pub owned : Owned N sys t.cells L
  pub sized : (s : ℕ) → s < N → length (t.blocks s) ≡ B

-- t' is t, but that the chain us is the chain ws, with the content c
pub record Edited (N B : ℕ) (sys : List ℕ) (t : Table) (us ws c : List ℕ) (t' : Table) : Type 0 where
  pub cells : (s : ℕ) → s < N → t'.cells s ≡ rechain us ws t.cells s
  pub blocks : (s : ℕ) → s < N → count s sys ≡ 0 → t'.blocks s ≡ scatter B ws c t.blocks s
  pub sized : (s : ℕ) → s < N → length (t'.blocks s) ≡ B
