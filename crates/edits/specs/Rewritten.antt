-- A change of length by its units: cells, data, entry. `format`'s `resized` for a stream of which only size, units and place are known.
use Rattle.std.specs.Prelude.{ℕ, cond, List, ltb}
use Rattle.format.specs.Basics.Bytes.{Bytes}
use Rattle.format.specs.Layout.Chain.{start_of}
use Rattle.format.specs.Layout.Space.{Space}
use Rattle.format.specs.Calls.SetLength.{relinked, zeroed}
use Rattle.writes.specs.Puts.{entry_put}

-- the bytes behind the old length are zero, where the new one is greater
unfoldable pub tail_filled : Space → List ℕ → ℕ → ℕ → Bytes → Bytes
tail_filled sp units size len img = cond (ltb size len) (zeroed sp units img size) img

-- the units `old` become the units `new`, and the length `size` the length `len`
unfoldable pub rewritten : Space → ℕ → List ℕ → List ℕ → ℕ → ℕ → Bytes → Bytes
rewritten sp place old new size len img = entry_put place (start_of new) len (tail_filled sp new size len (relinked sp old new img))
