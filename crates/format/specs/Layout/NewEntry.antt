-- Entries made from nothing: the blank entry, and an object's first 128 bytes.
use Rattle.std.specs.Prelude.{ℕ, ◌+◌, ◌*◌, [], ◌∷◌, ◌++◌, length, replicate}
use Rattle.format.specs.Basics.Lists.{fit}
use Rattle.format.specs.Basics.Bytes.{Bytes, le16, le32, le64}
use Rattle.format.specs.Layout.Name.{Name}
use Rattle.format.specs.Layout.Entry.{NOSTREAM, black}

-- left, right and child name nothing
unfoldable pub no_links : Bytes
no_links = le32 NOSTREAM ++ (le32 NOSTREAM ++ le32 NOSTREAM)

unfoldable pub blank_entry : Bytes
blank_entry = replicate 68 0 ++ (no_links ++ replicate 48 0)

-- the units of a name, two bytes each
unfoldable pub utf16_bytes : Name → Bytes
utf16_bytes [] = []
utf16_bytes (u ∷ us) = le16 u ++ utf16_bytes us

-- after the 64 bytes of the name: its length in bytes with the zero unit; black, with nothing beside it or below it
unfoldable pub entry_rest : (name_bytes kind start size : ℕ) → Bytes
entry_rest n kind start size =
    le16 n ++ (kind ∷ black ∷ (no_links ++ (replicate 36 0 ++ (le32 start ++ le64 size))))

-- what is not given is zero
unfoldable pub new_entry : Name → (kind start size : ℕ) → Bytes
new_entry n kind start size = fit 64 (utf16_bytes n) ++ entry_rest (2 * length n + 2) kind start size
