-- Slots: the numbers by which nodes name each other.
use Rattle.std.specs.Prelude.{ℕ, zero, suc, ◌+◌, cond, eqb, ltb}
use Rattle.format.specs.Layout.Entry.{NOSTREAM}

-- the slot that a field names where there are n entries: 0 for none; an entry's number and one; the root's slot for what names no entry
unfoldable pub slot_of : ℕ → ℕ → ℕ
slot_of n x = cond (eqb x NOSTREAM) 0 (cond (ltb x n) (x + 1) 1)

-- the entry of a slot
unfoldable pub entry_of : ℕ → ℕ
entry_of zero = NOSTREAM
entry_of (suc x) = x
