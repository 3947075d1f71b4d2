-- Room for a change of length: where the cutoff is not crossed, it is asked in one space alone.
use Prim.Native.Nat.{ℕ, ◌+◌, ◌≤◌, ◌<◌, max}
use mathlib.Core.Path.{◌≡◌, refl, sym, ◌∙◌}
use mathlib.Core.Logic.{◌⊎◌, inl, inr}
use mathlib.Core.Bool.{Bool, true, false, ◌||◌}
use native.Mathlib.Omega.{arith}
use native.Mathlib.Decide.{dec_lt}
use lib.Dec.{ltb}
use lib.ListN.{length}
use borrow.Author.Tests.{lt-ltb, le-ltb}
use Rattle.format.specs.Basics.Bytes.{Bytes}
use Rattle.format.specs.Layout.Geometry.{Geometry, mini_bytes}
use Rattle.format.specs.Layout.Need.{cutoff, round_up, mini_need, sector_need}
use Rattle.format.specs.Layout.Space.{free_units}
use Rattle.format.specs.Layout.Tables.{sector_space}
use Rattle.format.specs.Layout.Volume.{volume, mini_space}
use Rattle.format.specs.Calls.SetLength.{crosses, too_few}
use Rattle.theory.proofs.RoundUp.{round_zero}
use Rattle.frame.specs.Good.{space_of}
use Rattle.frame.proofs.LengthUnits.{sides_uncrossed}

-- ---- a length's need in each space

mini_need_lem : (n : ℕ) → n < 4096 → mini_need n ≡ round_up n 64
unfolding mini_need cutoff mini_bytes
mini_need_lem n h = rw (lt-ltb n 4096 h)

sector_none : (g : Geometry) (n : ℕ) → n < 4096 → sector_need g n ≡ 0
unfolding sector_need cutoff
sector_none g n h = rw (lt-ltb n 4096 h)

-- a large length, and 0
abbrev Large : ℕ → Type 0
Large n = (4096 ≤ n) ⊎ (n ≡ 0)

mini_none : (n : ℕ) → Large n → mini_need n ≡ 0
unfolding mini_need cutoff mini_bytes
mini_none n (inl h) = rw (le-ltb n 4096 h)
mini_none n (inr z) = rw z (round_zero 64 (omega arith))

sector_need_lem : (g : Geometry) → 0 < g.sector_bytes → (n : ℕ) → Large n → sector_need g n ≡ round_up n g.sector_bytes
unfolding sector_need cutoff
sector_need_lem g p n (inl h) = rw (le-ltb n 4096 h)
sector_need_lem g p n (inr z) = rw z (sym (round_zero g.sector_bytes p))

large : (n m : ℕ) → 4096 ≤ m → (ltb n 4096 ≡ ltb m 4096) ⊎ (n ≡ 0) → Large n
large n m h (inr z) = inr z
large n m h (inl e) = inl (borrow.Author.Tests.ltb-false n 4096 (e ∙ le-ltb m 4096 h))

-- ---- both together

nothing_less : (n : ℕ) → ltb n 0 ≡ false
nothing_less n = le-ltb n 0 (omega arith)

or_none : (b : Bool) → b || false ≡ b
or_none true = refl
or_none false = refl

pub too_few_is : (g : Geometry) (img : Bytes) → 0 < g.sector_bytes → (old new : ℕ) → crosses old new ≡ false → let sp = space_of (volume g img) (ltb (max old new) cutoff) in
    too_few g (length (free_units (volume g img).sectors)) (length (free_units (volume g img).minis)) old new ≡ ltb (round_up old sp.unit + length (free_units sp)) (round_up new sp.unit)
unfolding too_few cutoff volume sector_space mini_space mini_bytes
too_few_is g img p old new c =
    elim (dec_lt (max old new) 4096) [
      | yes h ↦ rw (lt-ltb (max old new) 4096 h, sector_none g old (omega arith), sector_none g new (omega arith), mini_need_lem old (omega arith), mini_need_lem new (omega arith), nothing_less (0 + length (free_units (sector_space g img))))
      | no h ↦
          let m : 4096 ≤ max old new = omega arith in
          let s = sides_uncrossed old new c in
          let a = large old (max old new) m s.0 in
          let b = large new (max old new) m s.1 in
          rw (le-ltb (max old new) 4096 m, sector_need_lem g p old a, sector_need_lem g p new b, mini_none old a, mini_none new b, nothing_less (0 + length (free_units (mini_space g img)))) (or_none _)
    ]
