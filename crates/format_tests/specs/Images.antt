-- The images that the tests compute on, and the names and paths in them.
use Rattle.std.specs.Prelude.{ℕ, ◌+◌, ◌-◌, ◌*◌, ◌/◌, List, [], ◌∷◌, ◌++◌, replicate}
use Rattle.format.specs.Basics.Bytes.{Bytes}
use Rattle.format.specs.Layout.Chain.{END, FATSECT}
use Rattle.format.specs.Layout.Entry.{NOSTREAM}
use Rattle.format_tests.specs.Build.{words, header, header4, cells, cells_in, name_field, entry, blank, blanks, root_entry}

-- ---- names and paths

unfoldable pub Site : List ℕ
Site = 0x53 ∷ 0x69 ∷ 0x74 ∷ 0x65 ∷ []

unfoldable pub log : List ℕ
log = 0x6C ∷ 0x6F ∷ 0x67 ∷ []

unfoldable pub LOG : List ℕ
LOG = 0x4C ∷ 0x4F ∷ 0x47 ∷ []

unfoldable pub Jets : List ℕ
Jets = 0x4A ∷ 0x65 ∷ 0x74 ∷ 0x73 ∷ []

unfoldable pub gone : List ℕ
gone = 0x67 ∷ 0x6F ∷ 0x6E ∷ 0x65 ∷ []

-- the path of a name below another
unfoldable pub below : List ℕ → List ℕ → List ℕ
below a b = a ++ (0x2F ∷ b)

-- ---- images

-- one FAT and one directory sector, and nothing but a root
unfoldable pub smallest : Bytes
smallest = header END 0 ++ cells (FATSECT ∷ END ∷ []) ++ (root_entry NOSTREAM END 0 ++ blank ++ blank ++ blank)

-- the same with a third sector, whose cell is given
unfoldable pub with_third : ℕ → Bytes
with_third cell =
    header END 0
    ++ cells (FATSECT ∷ END ∷ cell ∷ [])
    ++ (root_entry NOSTREAM END 0 ++ blank ++ blank ++ blank)
    ++ replicate 512 0xEE

-- a storage `Site` with the streams `log` and `Jets`, both of no bytes
unfoldable pub bare : Bytes
bare =
    header END 0
    ++ cells (FATSECT ∷ END ∷ [])
    ++ (root_entry 1 END 0
    ++ entry Site 1 1 NOSTREAM NOSTREAM 2 0 0
    ++ entry log 2 1 NOSTREAM 3 NOSTREAM END 0
    ++ entry Jets 2 0 NOSTREAM NOSTREAM NOSTREAM END 0)

-- three empty streams in one tree: `c` at its top, `a` on the left, and on the right of that a name of the given unit
unfoldable pub three_siblings : ℕ → Bytes
three_siblings u =
    header END 0
    ++ cells (FATSECT ∷ END ∷ [])
    ++ (root_entry 1 END 0
    ++ entry (0x63 ∷ []) 2 1 2 NOSTREAM NOSTREAM END 0
    ++ entry (0x61 ∷ []) 2 1 NOSTREAM 3 NOSTREAM END 0
    ++ entry (u ∷ []) 2 0 NOSTREAM NOSTREAM NOSTREAM END 0)

-- two empty streams, of one unit each: the first at the top of the tree, the other on its right
unfoldable pub two_siblings : ℕ → ℕ → Bytes
two_siblings u w =
    header END 0
    ++ cells (FATSECT ∷ END ∷ [])
    ++ (root_entry 1 END 0
    ++ entry (u ∷ []) 2 1 NOSTREAM 2 NOSTREAM END 0
    ++ entry (w ∷ []) 2 1 NOSTREAM NOSTREAM NOSTREAM END 0
    ++ blank)

-- A storage `Site` with the streams `log` (70 bytes, mini sectors 0 and 1) and `Jets` (10 bytes, mini sector 2), and five free mini sectors.
-- Sector 0 is the FAT, 1 the directory, 2 the mini FAT, 3 the mini stream. What is no stream's byte is EE.
unfoldable pub site : Bytes
site =
    header 2 1
    ++ cells (FATSECT ∷ END ∷ END ∷ END ∷ [])
    ++ (root_entry 1 3 512
    ++ entry Site 1 1 NOSTREAM NOSTREAM 2 0 0
    ++ entry log 2 1 NOSTREAM 3 NOSTREAM 0 70
    ++ entry Jets 2 0 NOSTREAM NOSTREAM NOSTREAM 2 10)
    ++ cells (1 ∷ END ∷ END ∷ [])
    ++ (replicate 70 0xA0 ++ replicate 58 0xEE ++ replicate 10 0xB0 ++ replicate 374 0xEE)

-- bytes of these images: of entry i; of `site`: of mini cell m, of mini sector m
abbrev pub in_entry : ℕ → ℕ → ℕ
in_entry i field = 1024 + 128 * i + field

abbrev pub mini_cell : ℕ → ℕ
mini_cell m = 1536 + 4 * m

abbrev pub mini_sector : ℕ → ℕ
mini_sector m = 2048 + 64 * m

-- A stream `log` of a given size in sectors 2 to 9, and `free` free sectors behind them; or, of size 0, with no sector.
unfoldable pub large : (size free : ℕ) → Bytes
large size free =
    header END 0
    ++ cells (FATSECT ∷ END ∷ 3 ∷ 4 ∷ 5 ∷ 6 ∷ 7 ∷ 8 ∷ 9 ∷ END ∷ [])
    ++ (root_entry 1 END 0 ++ entry log 2 1 NOSTREAM NOSTREAM NOSTREAM 2 size ++ blank ++ blank)
    ++ replicate 4096 0xA0
    ++ replicate (512 * free) 0xEE

unfoldable pub hollow : (free : ℕ) → Bytes
hollow free =
    header END 0
    ++ cells (FATSECT ∷ END ∷ [])
    ++ (root_entry 1 END 0 ++ entry log 2 1 NOSTREAM NOSTREAM NOSTREAM END 0 ++ blank ++ blank)
    ++ replicate (512 * free) 0xEE

-- `log` of 4,096 bytes in sectors 4 to 11, `Jets` of 10 bytes in mini sector 0, one free mini sector and one free sector
unfoldable pub small_and_large : Bytes
small_and_large =
    header 2 1
    ++ cells (FATSECT ∷ END ∷ END ∷ END ∷ 5 ∷ 6 ∷ 7 ∷ 8 ∷ 9 ∷ 10 ∷ 11 ∷ END ∷ [])
    ++ (root_entry 1 3 128
    ++ entry Site 1 1 NOSTREAM NOSTREAM 2 0 0
    ++ entry log 2 1 NOSTREAM 3 NOSTREAM 4 4096
    ++ entry Jets 2 0 NOSTREAM NOSTREAM NOSTREAM 0 10)
    ++ cells (END ∷ [])
    ++ (replicate 10 0xB0 ++ replicate 502 0xEE)
    ++ replicate 4096 0xA0
    ++ replicate 512 0xEE

-- `site` with free sectors behind it
unfoldable pub roomy : (free : ℕ) → Bytes
roomy free = site ++ replicate (512 * free) 0xEE

-- five empty streams in one tree, over two directory sectors: `d` at its top, `a` and `e` beside it; on the right of `a` is `c`, and on the
-- left of that `b`. Red are `c` and `e`.
unfoldable pub five_siblings : Bytes
five_siblings =
    header END 0
    ++ cells (FATSECT ∷ 2 ∷ END ∷ [])
    ++ (root_entry 1 END 0
    ++ entry (0x64 ∷ []) 2 1 2 5 NOSTREAM END 0
    ++ entry (0x61 ∷ []) 2 1 NOSTREAM 3 NOSTREAM END 0
    ++ entry (0x63 ∷ []) 2 0 4 NOSTREAM NOSTREAM END 0)
    ++ (entry (0x62 ∷ []) 2 1 NOSTREAM NOSTREAM NOSTREAM END 0
    ++ entry (0x65 ∷ []) 2 0 NOSTREAM NOSTREAM NOSTREAM END 0
    ++ blank
    ++ blank)

-- Version 4, in sectors of so many bytes: a root, and a stream `log` of no bytes.
unfoldable pub fourth : (sector directory : ℕ) → Bytes
fourth sector directory =
    header4 sector directory
    ++ cells_in sector (FATSECT ∷ END ∷ [])
    ++ (root_entry 1 END 0 ++ entry log 2 1 NOSTREAM NOSTREAM NOSTREAM END 0 ++ blanks (sector / 128 - 2))

-- all of these, opened at once
unfoldable pub built : Unit {0}
unfolding words header header4 cells cells_in name_field entry blank blanks root_entry Site log LOG Jets gone below smallest with_third bare three_siblings two_siblings five_siblings site large hollow small_and_large roomy fourth
built = tt
