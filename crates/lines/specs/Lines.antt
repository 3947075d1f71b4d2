-- The parts of a line, and its length.
use Rattle.std.specs.Prelude.{ℕ, zero, suc, ◌+◌, cond, [], ◌∷◌, ◌++◌, length, take, drop}
use Rattle.format.specs.Basics.Bytes.{Bytes}
use Rattle.format.specs.Layout.Geometry.{size_width}
use Rattle.format.specs.Layout.Name.{slash}
use Rattle.format.specs.Layout.Entry.{name, size, is_stream}
use Rattle.format.specs.Calls.Text.{newline, space, decimal, print_name}
use Rattle.kinds.specs.Sizes.{geometry_of}
use Rattle.kinds.specs.declared.Geometry.{Geometry as Sizes}

-- how many bytes of a size count
abbrev pub width_of : Sizes → ℕ
width_of g = size_width (geometry_of g)

-- what stands before the path, where so many bytes of a size count
unfoldable pub head : ℕ → Bytes → Bytes
head width e = cond (is_stream e) (0x46 ∷ space ∷ decimal (size width e)) (0x44 ∷ space ∷ 0x30 ∷ []) ++ (space ∷ [])

-- what stands in a path before the name: the parent's path, which is the first bytes of a text, and a slash; below the root nothing
unfoldable pub before : ℕ → Bytes → Bytes
before zero text = []
before (suc n) text = take (suc n) text ++ (slash ∷ [])

unfoldable pub before_length : ℕ → ℕ
before_length zero = 0
before_length (suc n) = suc n + 1

-- the line, by its path
abbrev pub line_text : ℕ → Bytes → Bytes → Bytes
line_text width e path = head width e ++ path ++ (newline ∷ [])

-- the bytes of a line, where the parent's path has so many
unfoldable pub line_length : ℕ → Bytes → ℕ → ℕ
line_length width e parent = length (head width e) + (before_length parent + length (print_name (name e))) + 1

-- ---- what is written

-- a buffer with n new bytes from a place on
abbrev pub put_at : Bytes → ℕ → ℕ → Bytes → Bytes
put_at out at n new = take at out ++ (new ++ drop (at + n) out)

-- with what stands before the name: the parent's path is in the buffer already, from `from` on
abbrev pub before_put : ℕ → ℕ → ℕ → Bytes → Bytes
before_put at from parent out = put_at out at (before_length parent) (before parent (drop from out))

-- with a whole line
abbrev pub line_put : ℕ → Bytes → ℕ → ℕ → ℕ → Bytes → Bytes
line_put width e at from parent out = put_at out at (line_length width e parent) (line_text width e (before parent (drop from out) ++ print_name (name e)))
