-- A listing's bytes, read back: what each line says, and nothing else.
-- A name holds no slash and no backslash, and no control unit prints as it is: so lines part at byte 10, names at slashes, and `\` with
-- four digits of base 16 can be undone. The reader is total; on bytes that are no listing it gives something, and no claim speaks of that.
use Rattle.std.specs.Prelude.{ℕ, zero, suc, ◌+◌, ◌-◌, ◌*◌, cond, List, [], ◌∷◌, map, eqb, ltb, drop, get_or}
use Rattle.format.specs.Basics.Bytes.{Bytes, byte_at}
use Rattle.format.specs.Layout.Name.{Name}
use Rattle.format.specs.Layout.Objects.{Object}
use Rattle.format.specs.Calls.Paths.{push_front, split}
use Rattle.format.specs.Calls.Text.{newline, space}

-- ---- pieces

-- the lines, each without the byte that ends it
unfoldable pub lines_of : Bytes → List Bytes
lines_of [] = []
lines_of (x ∷ xs) = cond (eqb x newline) ([] ∷ lines_of xs) (push_front x (lines_of xs))

-- the bytes before the first space, and those after it
unfoldable pub first_word : Bytes → Bytes
first_word [] = []
first_word (x ∷ xs) = cond (eqb x space) [] (x ∷ first_word xs)

unfoldable pub other_words : Bytes → Bytes
other_words [] = []
other_words (x ∷ xs) = cond (eqb x space) xs (other_words xs)

-- ---- numbers and names

-- the number of decimal digits, after the digits of v
unfoldable pub decimal_value : ℕ → Bytes → ℕ
decimal_value v [] = v
decimal_value v (c ∷ cs) = decimal_value (10 * v + (c - 0x30)) cs

unfoldable pub hex_value : ℕ → ℕ
hex_value c = cond (ltb c 0x41) (c - 0x30) (c - 0x37)

-- the units of a printed name; `wait` digits of a unit are still to come, and those before them make v
unfoldable pub read_units : (wait v : ℕ) → Bytes → Name
read_units wait v [] = []
read_units zero v (c ∷ cs) = cond (eqb c 0x5C) (read_units 4 0 cs) (c ∷ read_units 0 0 cs)
read_units (suc zero) v (c ∷ cs) = (16 * v + hex_value c) ∷ read_units 0 0 cs
read_units (suc (suc k)) v (c ∷ cs) = read_units (suc k) (16 * v + hex_value c) cs

unfoldable pub read_name : Bytes → Name
read_name text = read_units 0 0 text

-- ---- a line, and the whole

-- `F` is a stream, `D` a storage
unfoldable pub type_of : ℕ → ℕ
type_of letter = cond (eqb letter 0x46) 2 1

unfoldable pub read_line : Bytes → Object
read_line text =
    let words = other_words text in
    record { type = type_of (byte_at text 0); size = decimal_value 0 (first_word words); path = map read_name (split (other_words words)) }

-- the number in the first line, and the objects of the others
unfoldable pub announced : Bytes → ℕ
announced text = decimal_value 0 (other_words (get_or (lines_of text) 0 []))

unfoldable pub read_listing : Bytes → List Object
read_listing text = map read_line (drop 1 (lines_of text))
