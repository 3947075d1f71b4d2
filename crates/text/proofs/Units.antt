-- How a unit of a name prints, and a name unit by unit.
use mathlib.Core.Path.{◌≡◌, refl, ap, sym, ◌∙◌}
use mathlib.Core.Bool.{Bool, true, false, cond, ◌&&◌}
use mathlib.Core.List.{[], ◌∷◌, ◌++◌, append_assoc, append-nil}
use Prim.Native.Nat.{ℕ, ◌+◌, ◌*◌, ◌/◌, ◌%◌, ◌≤◌, ◌<◌}
use native.Mathlib.Numerals.{add-one}
use native.Mathlib.Omega.{arith}
use lib.Dec.{leb}
use lib.ListN.{length, take, get_or, set, length-append}
use lib.Seq.{take-suc}
use Rattle.format.specs.Basics.Bytes.{Bytes}
use Rattle.format.specs.Layout.Name.{Name}
use Rattle.format.specs.Calls.Read.{over}
use Rattle.format.specs.Calls.Text.{hex_digit, print_unit, print_name}
use Rattle.text.proofs.Over.{over_sets}

-- ---- a unit

-- a unit that prints
abbrev pub plain : ℕ → Bool
plain u = leb 0x20 u && leb u 0x7E

-- a backslash and four digits
abbrev pub coded : ℕ → Bytes
coded u = 0x5C ∷ hex_digit (u / 4096 % 16) ∷ hex_digit (u / 256 % 16) ∷ hex_digit (u / 16 % 16) ∷ hex_digit (u % 16) ∷ []

pub prints_plain : (u : ℕ) → plain u ≡ true → print_unit u ≡ u ∷ []
unfolding print_unit
prints_plain u h = rw h

pub prints_coded : (u : ℕ) → plain u ≡ false → print_unit u ≡ coded u
unfolding print_unit
prints_coded u h = rw h

pub unit_most : (u : ℕ) → length (print_unit u) ≤ 5
unfolding print_unit
unit_most u = go (plain u)
  where
    go : (b : Bool) → length (cond b (u ∷ []) (coded u)) ≤ 5
    go true = omega arith
    go false = omega arith

-- ---- a unit, written

pub length_plain : (u : ℕ) → plain u ≡ true → length (print_unit u) ≡ 1
length_plain u h = ap length (prints_plain u h)

pub length_coded : (u : ℕ) → plain u ≡ false → length (print_unit u) ≡ 5
length_coded u h = ap length (prints_coded u h)

pub put_plain : (u : ℕ) (out : Bytes) → plain u ≡ true → length (print_unit u) ≤ length out → set out 0 u ≡ over (print_unit u) out
put_plain u out h b = rw (prints_plain u h) (over_sets (u ∷ []) out (omega (arith, length_plain u h)))

pub put_coded : (u : ℕ) (out : Bytes) {a b c d : ℕ} → plain u ≡ false → length (print_unit u) ≤ length out
    → a ≡ hex_digit (u / 4096 % 16) → b ≡ hex_digit (u / 256 % 16) → c ≡ hex_digit (u / 16 % 16) → d ≡ hex_digit (u % 16)
    → set (set (set (set (set out 0 0x5C) 1 a) 2 b) 3 c) 4 d ≡ over (print_unit u) out
put_coded u out h l ea eb ec ed = rw (prints_coded u h, ea, eb, ec, ed) (over_sets (coded u) out (omega (arith, length_coded u h)))

-- ---- a name

pub print_append : (xs ys : Name) → print_name (xs ++ ys) ≡ print_name xs ++ print_name ys
unfolding print_name
print_append [] ys = refl
print_append (x ∷ xs) ys = rw (print_append xs ys) (sym (append_assoc (print_unit x) (print_name xs) (print_name ys)))

print_one : (u : ℕ) → print_name (u ∷ []) ≡ print_unit u
unfolding print_name
print_one u = append-nil (print_unit u)

-- one unit more
pub print_more : (xs : Name) (i : ℕ) → i < length xs → print_name (take (i + 1) xs) ≡ print_name (take i xs) ++ print_unit (get_or xs i 0)
print_more xs i h = rw (add-one i, take-suc xs i 0 h) (print_append (take i xs) (get_or xs i 0 ∷ []) ∙ ap (λ (l : Bytes). print_name (take i xs) ++ l) (print_one (get_or xs i 0)))

pub name_most : (n : Name) → length (print_name n) ≤ 5 * length n
unfolding print_name
name_most [] = omega arith
name_most (u ∷ us) = omega (arith, length-append (print_unit u) (print_name us), unit_most u, name_most us)
