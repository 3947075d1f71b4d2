-- How the test images are put together.
use Rattle.std.specs.Prelude.{ℕ, zero, suc, ◌+◌, ◌-◌, ◌*◌, List, [], ◌∷◌, ◌++◌, length, replicate}
use Rattle.format.specs.Basics.Bytes.{Bytes, le16, le32, le64}
use Rattle.format.specs.Layout.Chain.{END}
use Rattle.format.specs.Layout.Entry.{NOSTREAM}
use Rattle.format.specs.Rules.Header.{signature}

-- numbers of 32 bits, end to end
unfoldable pub words : List ℕ → Bytes
words [] = []
words (x ∷ xs) = le32 x ++ words xs

-- the header of a file with one FAT sector, sector 0, whose directory starts in sector 1
unfoldable pub header : (mini_fat_start mini_fat_count : ℕ) → Bytes
header start count =
    signature
    ++ replicate 16 0
    ++ (le16 0x3E ++ le16 3 ++ le16 0xFFFE ++ le16 9 ++ le16 6)
    ++ replicate 6 0
    ++ words (0 ∷ 1 ∷ 1 ∷ 0 ∷ 4096 ∷ start ∷ count ∷ END ∷ 0 ∷ 0 ∷ [])
    ++ replicate (4 * 108) 0xFF

-- the same of version 4, in a sector of so many bytes, for a directory of so many sectors and with no mini FAT
unfoldable pub header4 : (sector directory : ℕ) → Bytes
header4 sector directory =
    signature
    ++ replicate 16 0
    ++ (le16 0x3E ++ le16 4 ++ le16 0xFFFE ++ le16 12 ++ le16 6)
    ++ replicate 6 0
    ++ words (directory ∷ 1 ∷ 1 ∷ 0 ∷ 4096 ∷ END ∷ 0 ∷ END ∷ 0 ∷ 0 ∷ [])
    ++ replicate (4 * 108) 0xFF
    ++ replicate (sector - 512) 0

-- a sector of a table, free behind the given cells
unfoldable pub cells : List ℕ → Bytes
cells given = words given ++ replicate (512 - 4 * length given) 0xFF

-- the same in a sector of so many bytes
unfoldable pub cells_in : ℕ → List ℕ → Bytes
cells_in sector given = words given ++ replicate (sector - 4 * length given) 0xFF

-- the 16-bit units of a name, in the 64 bytes of their field
unfoldable pub name_field : List ℕ → Bytes
name_field [] = []
name_field (u ∷ us) = le16 u ++ name_field us

unfoldable pub entry : (name : List ℕ) → (kind colour left right child start size : ℕ) → Bytes
entry name kind colour left right child start size =
    name_field name
    ++ replicate (64 - 2 * length name) 0
    ++ le16 (2 * length name + 2)
    ++ (kind ∷ colour ∷ [])
    ++ words (left ∷ right ∷ child ∷ [])
    ++ replicate 36 0
    ++ le32 start
    ++ le64 size

unfoldable pub blank : Bytes
blank = replicate 68 0 ++ replicate 12 0xFF ++ replicate 48 0

unfoldable pub blanks : ℕ → Bytes
blanks zero = []
blanks (suc n) = blank ++ blanks n

-- the root, named `R`
unfoldable pub root_entry : (child start size : ℕ) → Bytes
root_entry child start size = entry (0x52 ∷ []) 5 1 NOSTREAM NOSTREAM child start size
