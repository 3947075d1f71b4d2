-- Group 10 as the code reads it.
use Prim.Native.Nat.{ℕ, zero, suc, ◌-◌, ◌≤◌, ◌<◌}
use mathlib.Core.Path.{◌≡◌, refl, sym, ◌∙◌, ap}
use mathlib.Core.Bool.{◌&&◌, ◌||◌}
use mathlib.Core.List.{[], ◌∷◌}
use native.Mathlib.Omega.{arith}
use lib.Dec.{eqb}
use lib.ListN.{length, get_or}
use Rattle.format.specs.Basics.Bytes.{Bytes, u16at, u32at, u64at, part, number, all_zero}
use Rattle.format.specs.Layout.Geometry.{Geometry, counts_directory, header_bytes}
use Rattle.format.specs.Layout.Header.{major_version, directory_count}
use Rattle.format.specs.Layout.Need.{cutoff}
use Rattle.format.specs.Basics.Lists.{equal}
use Rattle.format.specs.Rules.Header.{header_rules, signature, byte_order, mini_shift}
use Rattle.theory.proofs.ByteTests.{Octets, zero_number, zero_split, equal_number, octets_part, length_part}

octets_signature : Octets signature
unfolding signature
octets_signature = record { byte = go }
  where
    go : (i : ℕ) → get_or (0xD0 ∷ 0xCF ∷ 0x11 ∷ 0xE0 ∷ 0xA1 ∷ 0xB1 ∷ 0x1A ∷ 0xE1 ∷ []) i 0 < 256
    go zero = omega arith
    go (suc zero) = omega arith
    go (suc (suc zero)) = omega arith
    go (suc (suc (suc zero))) = omega arith
    go (suc (suc (suc (suc zero)))) = omega arith
    go (suc (suc (suc (suc (suc zero))))) = omega arith
    go (suc (suc (suc (suc (suc (suc zero)))))) = omega arith
    go (suc (suc (suc (suc (suc (suc (suc zero))))))) = omega arith
    go (suc (suc (suc (suc (suc (suc (suc (suc i)))))))) = omega arith

eight : length signature ≡ 8
unfolding signature
eight = refl

value : number signature ≡ 0xE11A_B1A1_E011_CFD0
unfolding signature number
value = refl

signed : (img : Bytes) → 512 ≤ length img → ((i : ℕ) → get_or img i 0 < 256) → equal (part img 0 8) signature ≡ eqb (u64at img 0) 0xE11A_B1A1_E011_CFD0
unfolding u64at
signed img l h =
    equal_number (part img 0 8) signature (length_part img 0 8 (omega arith) ∙ sym eight) (octets_part img 0 8 h) octets_signature
    ∙ ap (λ n. eqb (number (part img 0 8)) n) value

-- group 10, each field one number
pub header_numbers : (g : Geometry) (img : Bytes) → 512 ≤ length img → ((i : ℕ) → get_or img i 0 < 256)
    → header_rules g img
    ≡ (eqb (u64at img 0) 0xE11A_B1A1_E011_CFD0
    && (eqb (u64at img 8) 0 && eqb (u64at img 16) 0)
    && eqb (u16at img 26) g.major
    && eqb (u16at img 28) 0xFFFE
    && eqb (u16at img 30) g.shift
    && eqb (u16at img 32) 6
    && (eqb (u32at img 34) 0 && eqb (u16at img 38) 0)
    && (counts_directory g || eqb (directory_count img) 0)
    && eqb (u32at img 56) 4096
    && all_zero (part img 512 (g.sector_bytes - 512)))
unfolding header_rules major_version header_bytes byte_order mini_shift cutoff u64at u32at u16at
header_numbers g img l h =
    rw (signed img l h, zero_split img 8 8 8, zero_split img 34 4 2, zero_number (part img 8 8), zero_number (part img 16 8), zero_number (part img 34 4), zero_number (part img 38 2))
