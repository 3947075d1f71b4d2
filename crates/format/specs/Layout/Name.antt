-- Names: which units they may have, when two are equal, and which comes first (groups 14 and 15). A name is a list of 16-bit units.
use Rattle.std.specs.Prelude.{ℕ, ◌-◌, Bool, true, false, not, cond, ◌&&◌, ◌||◌, List, [], ◌∷◌, map, eqb, ltb, leb, length}
use Rattle.format.specs.Basics.Lists.{all, equal}

abbrev pub Name : Type 0
Name = List ℕ

-- ---- legal names

abbrev pub slash : ℕ
slash = 0x2F

-- the units, beside zero, that no name has: slash, backslash, colon, exclamation mark
unfoldable pub illegal : ℕ → Bool
illegal u = eqb u slash || eqb u 0x5C || eqb u 0x3A || eqb u 0x21

-- a unit has 16 bits
unfoldable pub legal_unit : ℕ → Bool
legal_unit u = ltb u 0x1_0000 && (not (eqb u 0) && not (illegal u))

-- 1 to 31 units, each legal: of an entry (group 14) and of a path
unfoldable pub legal_name : Name → Bool
legal_name n = leb 1 (length n) && leb (length n) 31 && all legal_unit n

-- ---- order and equality

-- a small letter whose capital stands 20 hex below it: a to z; of Latin 1, but for the division sign; Greek, but for the final sigma;
-- Cyrillic
unfoldable pub small_by20 : ℕ → Bool
small_by20 u =
    (leb 0x61 u && leb u 0x7A)
    || (leb 0xE0 u && leb u 0xFE && not (eqb u 0xF7))
    || (leb 0x3B1 u && leb u 0x3C9 && not (eqb u 0x3C2))
    || (leb 0x430 u && leb u 0x44F)

-- one whose capital stands 50 hex below it: the other Cyrillic ones
unfoldable pub small_by50 : ℕ → Bool
small_by50 u = leb 0x450 u && leb u 0x45F

-- the unit that a unit counts as: a small letter as the capital
unfoldable pub fold : ℕ → ℕ
fold u = cond (small_by20 u) (u - 0x20) (cond (small_by50 u) (u - 0x50) (cond (eqb u 0xFF) 0x178 u))

-- unit by unit: the first that differs decides
unfoldable pub units_less : List ℕ → List ℕ → Bool
units_less [] [] = false
units_less [] (y ∷ ys) = true
units_less (x ∷ xs) [] = false
units_less (x ∷ xs) (y ∷ ys) = ltb x y || (eqb x y && units_less xs ys)

-- the shorter name comes first; of two as long, the folded units decide
unfoldable pub name_less : Name → Name → Bool
name_less a b = ltb (length a) (length b) || (eqb (length a) (length b) && units_less (map fold a) (map fold b))

unfoldable pub name_equal : Name → Name → Bool
name_equal a b = equal (map fold a) (map fold b)
