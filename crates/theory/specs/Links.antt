-- A table of cells is a function from units to cells. A chain in it as the list of its units, and tables that are changed along such lists.
use Rattle.std.specs.Prelude.{◌≡◌, cond, List, [], ◌∷◌, ℕ, ◌<◌, eqb}
use Rattle.format.specs.Layout.Chain.{FREE, start_of}

-- each unit is below N, and its cell names the next; the last cell is END
abbrev pub Linked : (ℕ → ℕ) → ℕ → List ℕ → Type 0
Linked f N [] = Unit {0}
Linked f N (u ∷ us) = (u < N) × (f u ≡ start_of us) × Linked f N us

-- the table with the cells of us free
unfoldable pub freed : List ℕ → (ℕ → ℕ) → ℕ → ℕ
freed [] f s = f s
freed (u ∷ us) f s = cond (eqb s u) FREE (freed us f s)

-- the table in which each of ws names the next, and the last is END
unfoldable pub chained : List ℕ → (ℕ → ℕ) → ℕ → ℕ
chained [] f s = f s
chained (w ∷ ws) f s = cond (eqb s w) (start_of ws) (chained ws f s)

-- the chain us becomes the chain ws
unfoldable pub rechain : List ℕ → List ℕ → (ℕ → ℕ) → ℕ → ℕ
rechain us ws f s = chained ws (freed us f) s
