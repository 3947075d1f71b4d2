-- Printed numbers and names, read back.
use Prim.Native.Nat.{ℕ, zero, suc, ◌+◌, ◌-◌, ◌*◌, ◌/◌, ◌%◌, ◌^◌, ◌≤◌, ◌<◌}
use mathlib.Core.Path.{◌≡◌, refl, ap, ◌∙◌}
use mathlib.Core.Logic.{◌≢◌}
use mathlib.Core.Bool.{Bool, true, false, not, cond, ◌&&◌, ◌||◌}
use mathlib.Core.List.{[], ◌∷◌, ◌++◌}
use native.Mathlib.Nat.{pow-zero, pow-suc, div-div-eq-div-mul, mod-eq_of_lt, div-add-mod}
use native.Mathlib.Omega.{arith}
use native.Mathlib.Decide.{dec_lt}
use lib.Dec.{eqb, ltb, leb}
use lib.ListN.{length}
use borrow.Author.Tests.{ltb-true, lt-ltb, le-ltb, leb-true, ne_eqb, eqb-false, not-true}
use Rattle.format.specs.Basics.Lists.{all}
use Rattle.format.specs.Basics.Bytes.{Bytes}
use Rattle.format.specs.Layout.Name.{Name, slash, illegal, legal_unit, legal_name}
use Rattle.format.specs.Calls.Text.{newline, digits, decimal, hex_digit, print_unit, print_name}
use Rattle.format.specs.Claims.ListingText.{decimal_value, hex_value, read_units, read_name}
use Rattle.theory.proofs.Tests.{both, neither, all_joined}
use Rattle.listing_laws.specs.Text.{is_other, lacks}
use Rattle.listing_laws.proofs.Cuts.{lacks_cons}

-- ---- numbers

value_snoc : (v : ℕ) (xs : Bytes) (c : ℕ) → decimal_value v (xs ++ (c ∷ [])) ≡ 10 * decimal_value v xs + (c - 0x30)
unfolding decimal_value
value_snoc v [] c = refl
value_snoc v (x ∷ xs) c = value_snoc (10 * v + (x - 0x30)) xs c

digits_value : (most n : ℕ) → n < 10 ^ most → decimal_value 0 (digits most n) ≡ n
unfolding digits decimal_value
digits_value zero n h = omega (arith, pow-zero 10)
digits_value (suc most) n h = go (ltb n 10) refl (digits_value most (n / 10) (omega (arith, pow-suc 10 most)))
  where
    go : (t : Bool) → ltb n 10 ≡ t → decimal_value 0 (digits most (n / 10)) ≡ n / 10
        → decimal_value 0 (cond t ((0x30 + n) ∷ []) (digits most (n / 10) ++ ((0x30 + n % 10) ∷ []))) ≡ n
    go true e r = omega arith
    go false e r = value_snoc 0 (digits most (n / 10)) (0x30 + n % 10) ∙ omega (arith, r)

pub decimal_back : (n : ℕ) → n < 100_000_000_000_000_000_000 → decimal_value 0 (decimal n) ≡ n
unfolding decimal
decimal_back n h = digits_value 20 n h

-- a digit is none of the bytes that part a listing
lacks_one : (x c : ℕ) → c ≢ x → lacks x (c ∷ []) ≡ true
unfolding all
lacks_one x c h = lacks_cons x c [] h refl

digits_lack : (x : ℕ) → x < 0x30 → (most n : ℕ) → lacks x (digits most n) ≡ true
unfolding digits all
digits_lack x l zero n = refl
digits_lack x l (suc most) n = go (ltb n 10) (digits_lack x l most (n / 10))
  where
    go : (t : Bool) → lacks x (digits most (n / 10)) ≡ true → lacks x (cond t ((0x30 + n) ∷ []) (digits most (n / 10) ++ ((0x30 + n % 10) ∷ []))) ≡ true
    go true r = lacks_one x (0x30 + n) (omega arith)
    go false r = all_joined (is_other x) (digits most (n / 10)) ((0x30 + n % 10) ∷ []) r (lacks_one x (0x30 + n % 10) (omega arith))

pub decimal_lacks : (x n : ℕ) → x < 0x30 → lacks x (decimal n) ≡ true
unfolding decimal
decimal_lacks x n l = digits_lack x l 20 n

-- ---- digits of base 16

hex_value_lem : (d : ℕ) → d < 16 → hex_value (hex_digit d) ≡ d
unfolding hex_value hex_digit
hex_value_lem d h =
    elim (dec_lt d 10) [
      | yes p ↦ rw (lt-ltb d 10 p, lt-ltb (0x30 + d) 0x41 (omega arith)) (omega arith)
      | no p ↦ rw (le-ltb d 10 (omega arith), le-ltb (0x37 + d) 0x41 (omega arith)) (omega arith)
    ]

hex_high : (d : ℕ) → 0x30 ≤ hex_digit d
unfolding hex_digit
hex_high d = go (ltb d 10)
  where
    go : (t : Bool) → 0x30 ≤ cond t (0x30 + d) (0x37 + d)
    go true = omega arith
    go false = omega arith

-- ---- a unit

abbrev is_plain : ℕ → Bool
is_plain u = leb 0x20 u && leb u 0x7E

-- a legal unit has 16 bits, and is no slash and no backslash
legal_says : (u : ℕ) → legal_unit u ≡ true → (u < 0x1_0000) × (u ≢ slash) × (u ≢ 0x5C)
unfolding legal_unit illegal
legal_says u h =
    let a = both (ltb u 0x1_0000) (not (eqb u 0) && not (eqb u slash || eqb u 0x5C || eqb u 0x3A || eqb u 0x21)) h in
    let b =
    not-true (eqb u slash || eqb u 0x5C || eqb u 0x3A || eqb u 0x21)
    (both (not (eqb u 0)) (not (eqb u slash || eqb u 0x5C || eqb u 0x3A || eqb u 0x21)) a.1).1 in
    let c = (neither (eqb u slash || eqb u 0x5C) (eqb u 0x3A) (neither (eqb u slash || eqb u 0x5C || eqb u 0x3A) (eqb u 0x21) b).0).0 in
    let d = neither (eqb u slash) (eqb u 0x5C) c in
    (ltb-true u 0x1_0000 a.0, eqb-false u slash d.0, eqb-false u 0x5C d.1)

read_coded : (a b c d : ℕ) (rest : Bytes) → read_units 0 0 (0x5C ∷ a ∷ b ∷ c ∷ d ∷ rest)
    ≡ (16 * (16 * (16 * (16 * 0 + hex_value a) + hex_value b) + hex_value c) + hex_value d) ∷ read_units 0 0 rest
unfolding read_units
read_coded a b c d rest = refl

read_plain : (u : ℕ) (rest : Bytes) → u ≢ 0x5C → read_units 0 0 (u ∷ rest) ≡ u ∷ read_units 0 0 rest
unfolding read_units
read_plain u rest h = rw (ne_eqb u 0x5C h)

-- a number of 16 bits by its digits of base 16
hex_whole : (u : ℕ) → u < 0x1_0000 → 16 * (16 * (16 * (16 * 0 + u / 4096 % 16) + u / 256 % 16) + u / 16 % 16) + u % 16 ≡ u
hex_whole u h =
    let a : u / 16 / 16 ≡ u / 256 = div-div-eq-div-mul u 16 16 in
    let b : u / 256 / 16 ≡ u / 4096 = div-div-eq-div-mul u 256 16 in
    let c : u / 4096 % 16 ≡ u / 4096 = mod-eq_of_lt (omega arith) in
    let d = div-add-mod u 16 in
    let e = div-add-mod (u / 16) 16 in
    let f = div-add-mod (u / 256) 16 in
    omega (arith, a, b, c, d, e, f)

read_unit : (u : ℕ) (rest : Bytes) → u < 0x1_0000 → u ≢ 0x5C → read_units 0 0 (print_unit u ++ rest) ≡ u ∷ read_units 0 0 rest
unfolding print_unit
read_unit u rest low other = go (is_plain u)
  where
    whole : u < 0x1_0000
        → 16 * (16 * (16 * (16 * 0 + hex_value (hex_digit (u / 4096 % 16))) + hex_value (hex_digit (u / 256 % 16))) + hex_value (hex_digit (u / 16 % 16))) + hex_value (hex_digit (u % 16)) ≡ u
    whole k =
        rw (hex_value_lem (u / 4096 % 16) (omega arith), hex_value_lem (u / 256 % 16) (omega arith), hex_value_lem (u / 16 % 16) (omega arith), hex_value_lem (u % 16) (omega arith))
        (hex_whole u k)

    go : (t : Bool) → read_units 0 0 (cond t (u ∷ []) (0x5C ∷ hex_digit (u / 4096 % 16) ∷ hex_digit (u / 256 % 16) ∷ hex_digit (u / 16 % 16) ∷ hex_digit (u % 16) ∷ []) ++ rest)
        ≡ u ∷ read_units 0 0 rest
    go true = read_plain u rest other
    go false =
        read_coded (hex_digit (u / 4096 % 16)) (hex_digit (u / 256 % 16)) (hex_digit (u / 16 % 16)) (hex_digit (u % 16)) rest
        ∙ ap (λ n. n ∷ read_units 0 0 rest) (whole low)

-- a byte that parts a listing is none of a printed unit's
unit_lacks : (x u : ℕ) → x < 0x30 → (is_plain u ≡ true → u ≢ x) → lacks x (print_unit u) ≡ true
unfolding print_unit all
unit_lacks x u l h = go (is_plain u) h
  where
    other : (d : ℕ) → hex_digit d ≢ x
    other d e = absurd (omega (arith, hex_high d))

    go : (t : Bool) → (t ≡ true → u ≢ x)
        → lacks x (cond t (u ∷ []) (0x5C ∷ hex_digit (u / 4096 % 16) ∷ hex_digit (u / 256 % 16) ∷ hex_digit (u / 16 % 16) ∷ hex_digit (u % 16) ∷ [])) ≡ true
    go true k = lacks_one x u (k refl)
    go false k =
        lacks_cons x 0x5C (hex_digit (u / 4096 % 16) ∷ hex_digit (u / 256 % 16) ∷ hex_digit (u / 16 % 16) ∷ hex_digit (u % 16) ∷ []) (λ e. absurd (omega arith))
        (lacks_cons x (hex_digit (u / 4096 % 16)) (hex_digit (u / 256 % 16) ∷ hex_digit (u / 16 % 16) ∷ hex_digit (u % 16) ∷ []) (other (u / 4096 % 16))
        (lacks_cons x (hex_digit (u / 256 % 16)) (hex_digit (u / 16 % 16) ∷ hex_digit (u % 16) ∷ []) (other (u / 256 % 16))
        (lacks_cons x (hex_digit (u / 16 % 16)) (hex_digit (u % 16) ∷ []) (other (u / 16 % 16)) (lacks_cons x (hex_digit (u % 16)) [] (other (u % 16)) refl))))

plain_not_newline : (u : ℕ) → is_plain u ≡ true → u ≢ newline
plain_not_newline u h e = absurd (omega (arith, leb-true 0x20 u (both (leb 0x20 u) (leb u 0x7E) h).0))

-- ---- a name

units_back : (n : Name) → all legal_unit n ≡ true → read_units 0 0 (print_name n) ≡ n
unfolding print_name read_units all
units_back [] h = refl
units_back (u ∷ us) h =
    let p = both (legal_unit u) (all legal_unit us) h in
    let s = legal_says u p.0 in
    read_unit u (print_name us) s.0 s.2 ∙ ap (λ t. u ∷ t) (units_back us p.1)

units_no_slash : (n : Name) → all legal_unit n ≡ true → lacks slash (print_name n) ≡ true
unfolding print_name all
units_no_slash [] h = refl
units_no_slash (u ∷ us) h =
    let p = both (legal_unit u) (all legal_unit us) h in
    all_joined (is_other slash) (print_unit u) (print_name us) (unit_lacks slash u (omega arith) (λ q. (legal_says u p.0).1)) (units_no_slash us p.1)

pub name_no_newline : (n : Name) → lacks newline (print_name n) ≡ true
unfolding print_name all
name_no_newline [] = refl
name_no_newline (u ∷ us) = all_joined (is_other newline) (print_unit u) (print_name us) (unit_lacks newline u (omega arith) (plain_not_newline u)) (name_no_newline us)

pub legal_units : (n : Name) → legal_name n ≡ true → all legal_unit n ≡ true
unfolding legal_name
legal_units n h = (both (leb 1 (length n) && leb (length n) 31) (all legal_unit n) h).1

-- a slash is no unit of a legal name
pub unit_no_slash : (u : ℕ) → legal_unit u ≡ true → is_other slash u ≡ true
unfolding is_other
unit_no_slash u h = rw (ne_eqb u slash (legal_says u h).1)

pub name_back : (n : Name) → legal_name n ≡ true → read_name (print_name n) ≡ n
unfolding read_name
name_back n h = units_back n (legal_units n h)

pub name_no_slash : (n : Name) → legal_name n ≡ true → lacks slash (print_name n) ≡ true
name_no_slash n h = units_no_slash n (legal_units n h)
