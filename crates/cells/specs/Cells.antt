-- Tests on cells, each over any table of cells.
use Rattle.std.specs.Prelude.{ℕ, ◌*◌, Bool, not, ◌&&◌, ◌||◌, List, leb, ltb, eqb, get_or}
use Rattle.std.specs.Bool.{beq}
use Rattle.format.specs.Basics.Bytes.{Bytes, u32at}
use Rattle.format.specs.Layout.Chain.{END, FATSECT, DIFSECT}
use Rattle.theory.specs.Marks.{MARK}

-- cell i of a part of a table
unfoldable pub cell_of : Bytes → ℕ → ℕ
cell_of from i = u32at from (4 * i)

-- the cell is below the limit, or one of the special values
unfoldable pub cell_right : ℕ → ℕ → (ℕ → ℕ) → ℕ → Bool
cell_right limit special cell i = ltb (cell i) limit || leb special (cell i)

-- the cell marks a FAT sector exactly if the mark is 1, and a DIFAT sector exactly if it is 2
unfoldable pub mark_agrees : (ℕ → ℕ) → (ℕ → ℕ) → ℕ → Bool
mark_agrees cell mark i = beq (eqb (cell i) FATSECT) (eqb (mark i) 1) && beq (eqb (cell i) DIFSECT) (eqb (mark i) 2)

-- what stands in the place of the cell is a mark, or a special value other than the end of a chain
unfoldable pub covered_at : List ℕ → ℕ → Bool
covered_at w i = leb MARK (get_or w i 0) && not (eqb (get_or w i 0) END)
