-- Numbers and names as text.
use Rattle.std.specs.Prelude.{ℕ, zero, suc, ◌+◌, ◌/◌, ◌%◌, cond, ◌&&◌, [], ◌∷◌, ◌++◌, ltb, leb}
use Rattle.format.specs.Basics.Bytes.{Bytes}
use Rattle.format.specs.Layout.Name.{Name}

abbrev pub newline : ℕ
newline = 10

abbrev pub space : ℕ
space = 0x20

-- the decimal digits of n, at most so many
unfoldable pub digits : ℕ → ℕ → Bytes
digits zero n = []
digits (suc most) n = let more = digits most (n / 10) ++ ((0x30 + n % 10) ∷ []) in cond (ltb n 10) ((0x30 + n) ∷ []) more

-- a number of 64 bits has at most 20 digits
unfoldable pub decimal : ℕ → Bytes
decimal n = digits 20 n

-- a digit of base 16, a capital from ten on
unfoldable pub hex_digit : ℕ → ℕ
hex_digit d = cond (ltb d 10) (0x30 + d) (0x37 + d)

-- a unit that prints stands for itself, any other is a backslash and four digits of base 16
unfoldable pub print_unit : ℕ → Bytes
print_unit u =
    cond (leb 0x20 u && leb u 0x7E)
    (u ∷ [])
    (0x5C ∷ hex_digit (u / 4096 % 16) ∷ hex_digit (u / 256 % 16) ∷ hex_digit (u / 16 % 16) ∷ hex_digit (u % 16) ∷ [])

unfoldable pub print_name : Name → Bytes
print_name [] = []
print_name (u ∷ us) = print_unit u ++ print_name us
