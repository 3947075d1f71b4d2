-- Numbers in a list of bytes, the lowest byte first ("What is handed over").
-- Every read is total: past the end there are no bytes, and a number made of none is 0. Where that matters a rule bounds the place.
use Rattle.std.specs.Prelude.{ℕ, ◌+◌, ◌*◌, ◌/◌, ◌%◌, ◌<◌, Bool, List, [], ◌∷◌, ◌++◌, eqb, get_or, take, drop}
use Rattle.std.proofs.lemmas.List.Edits.{sets}
use Rattle.format.specs.Basics.Lists.{all}

-- an image, and any other run of bytes
abbrev pub Bytes : Type 0
Bytes = List ℕ

-- every number of the list is a byte's
abbrev pub AreBytes : Bytes → Type 0
AreBytes b = (i : ℕ) → get_or b i 0 < 256

unfoldable pub byte_at : Bytes → ℕ → ℕ
byte_at b i = get_or b i 0

-- n bytes from byte i on
unfoldable pub part : Bytes → ℕ → ℕ → Bytes
part b i n = take n (drop i b)

-- the number that bytes make
unfoldable pub number : Bytes → ℕ
number [] = 0
number (x ∷ xs) = x + 256 * number xs

unfoldable pub u16at : Bytes → ℕ → ℕ
u16at b i = number (part b i 2)

unfoldable pub u32at : Bytes → ℕ → ℕ
u32at b i = number (part b i 4)

unfoldable pub u64at : Bytes → ℕ → ℕ
u64at b i = number (part b i 8)

unfoldable pub is_zero : ℕ → Bool
is_zero x = eqb x 0

unfoldable pub all_zero : Bytes → Bool
all_zero b = all is_zero b

-- the two, four and eight bytes of a number
unfoldable pub le16 : ℕ → Bytes
le16 v = v % 256 ∷ v / 256 % 256 ∷ []

unfoldable pub le32 : ℕ → Bytes
le32 v = le16 v ++ le16 (v / 0x1_0000)

unfoldable pub le64 : ℕ → Bytes
le64 v = le32 v ++ le32 (v / 0x1_0000_0000)

-- the bytes with others put over them from byte i on; the length stays
unfoldable pub put_bytes : Bytes → ℕ → Bytes → Bytes
put_bytes b i new = sets b i new

unfoldable pub put16 : Bytes → ℕ → ℕ → Bytes
put16 b i v = put_bytes b i (le16 v)

unfoldable pub put32 : Bytes → ℕ → ℕ → Bytes
put32 b i v = put_bytes b i (le32 v)

unfoldable pub put64 : Bytes → ℕ → ℕ → Bytes
put64 b i v = put_bytes b i (le64 v)
