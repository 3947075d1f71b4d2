-- The cells of a fresh FAT, part by part.
use Prim.Native.Nat.{ℕ, suc, ◌≤◌, ◌<◌}
use mathlib.Core.Path.{◌≡◌, ◌∙◌}
use mathlib.Core.Logic.{◌⊎◌, inl, inr}
use native.Mathlib.Omega.{arith}
use native.Mathlib.Decide.{dec_lt, ℕ_discrete}
use borrow.Author.Tests.{lt-ltb, le-ltb, eq-eqb, ne_eqb}
use Rattle.format.specs.Layout.Geometry.{Geometry}
use Rattle.format.specs.Layout.Chain.{FREE, END, FATSECT, DIFSECT}
use Rattle.frame.specs.Kept.{Sized}
use Rattle.format.specs.Fresh.Plan.{Plan, fat_part, difat_from, directory_from, mini_fat_from, mini_stream_from, spare_from}
use Rattle.format.specs.Fresh.Cells.{link_in, fresh_cell}
use Rattle.fresh.specs.Facts.{Planned}
use Rattle.fresh.proofs.Numbers.{Order, order}

-- ---- links

pub link_next : (end s : ℕ) → suc s < end → link_in end s ≡ suc s
unfolding link_in
link_next end s h = rw (ne_eqb (suc s) end (omega arith))

pub link_last : (end s : ℕ) → suc s ≡ end → link_in end s ≡ END
unfolding link_in
link_last end s h = rw (eq-eqb (suc s) end h)

pub link_cases : (end s : ℕ) → s < end → (link_in end s < end) ⊎ (link_in end s ≡ END)
link_cases end s h =
    elim (ℕ_discrete (suc s) end) [
      | yes e ↦ inr (link_last end s e)
      | no n ↦ let k : suc s < end = omega arith in inl (rw (link_next end s k) k)
    ]

-- ---- cells

module _ (g : Geometry) (p : Plan) (z : Sized g) (q : Planned g p) where
  abbrev o : Order g p z q
  o = order g p z q

  abbrev cell : ℕ → ℕ
  cell = fresh_cell g p

  pub cell_fat : (s : ℕ) → s < fat_part g p → cell s ≡ FATSECT
  unfolding fresh_cell
  cell_fat s h = rw (lt-ltb s (difat_from g p) (omega (arith, o)))

  pub cell_difat : (s : ℕ) → fat_part g p ≤ s → s < directory_from g p → cell s ≡ DIFSECT
  unfolding fresh_cell
  cell_difat s a b = rw (le-ltb s (difat_from g p) (omega (arith, o)), lt-ltb s (directory_from g p) b)

  pub cell_directory : (s : ℕ) → directory_from g p ≤ s → s < mini_fat_from g p → cell s ≡ link_in (mini_fat_from g p) s
  unfolding fresh_cell
  cell_directory s a b =
      rw (le-ltb s (difat_from g p) (omega (arith, o)), le-ltb s (directory_from g p) a, lt-ltb s (mini_fat_from g p) b)

  pub cell_mini_fat : (s : ℕ) → mini_fat_from g p ≤ s → s < mini_stream_from g p → cell s ≡ link_in (mini_stream_from g p) s
  unfolding fresh_cell
  cell_mini_fat s a b =
      rw (
        le-ltb s (difat_from g p) (omega (arith, o)),
        le-ltb s (directory_from g p) (omega (arith, o)),
        le-ltb s (mini_fat_from g p) a,
        lt-ltb s (mini_stream_from g p) b,
      )

  pub cell_stream : (s : ℕ) → mini_stream_from g p ≤ s → s < spare_from g p → cell s ≡ link_in (spare_from g p) s
  unfolding fresh_cell
  cell_stream s a b =
      rw (
        le-ltb s (difat_from g p) (omega (arith, o)),
        le-ltb s (directory_from g p) (omega (arith, o)),
        le-ltb s (mini_fat_from g p) (omega (arith, o)),
        le-ltb s (mini_stream_from g p) a,
        lt-ltb s (spare_from g p) b,
      )

  pub cell_free : (s : ℕ) → spare_from g p ≤ s → cell s ≡ FREE
  unfolding fresh_cell
  cell_free s a =
      rw (
        le-ltb s (difat_from g p) (omega (arith, o)),
        le-ltb s (directory_from g p) (omega (arith, o)),
        le-ltb s (mini_fat_from g p) (omega (arith, o)),
        le-ltb s (mini_stream_from g p) (omega (arith, o)),
        le-ltb s (spare_from g p) a,
      )

  -- ---- behind the tables: a sector, END or FREE

  abbrev Plain : ℕ → Type 0
  Plain c = (c < p.sectors) ⊎ ((c ≡ END) ⊎ (c ≡ FREE))

  link_plain : (end s c : ℕ) → end ≤ p.sectors → s < end → c ≡ link_in end s → Plain c
  link_plain end s c h l e =
      elim (link_cases end s l) [
        | inl a ↦ inl (omega arith)
        | inr a ↦ inr (inl (e ∙ a))
      ]

  pub cell_plain : (s : ℕ) → directory_from g p ≤ s → Plain (cell s)
  cell_plain s h =
      elim (dec_lt s (mini_fat_from g p)) [
        | yes a ↦ link_plain (mini_fat_from g p) s (cell s) (omega (arith, o)) a (cell_directory s h a)
        | no a ↦
            elim (dec_lt s (mini_stream_from g p)) [
              | yes b ↦ link_plain (mini_stream_from g p) s (cell s) (omega (arith, o)) b (cell_mini_fat s (omega arith) b)
              | no b ↦
                  elim (dec_lt s (spare_from g p)) [
                    | yes c ↦ link_plain (spare_from g p) s (cell s) (omega (arith, o)) c (cell_stream s (omega arith) c)
                    | no c ↦ inr (inr (cell_free s (omega arith)))
                  ]
            ]
      ]

  -- ---- every cell has four bytes

  plain_small : (c : ℕ) → Plain c → c < 0x1_0000_0000
  plain_small c (inl a) = omega (arith, o)
  plain_small c (inr (inl a)) = omega arith
  plain_small c (inr (inr a)) = omega arith

  pub cell_small : (s : ℕ) → cell s < 0x1_0000_0000
  cell_small s =
      elim (dec_lt s (fat_part g p)) [
        | yes a ↦ omega (arith, cell_fat s a)
        | no a ↦
            elim (dec_lt s (directory_from g p)) [
              | yes b ↦ omega (arith, cell_difat s (omega arith) b)
              | no b ↦ plain_small (cell s) (cell_plain s (omega arith))
            ]
      ]
