-- The sectors of the directory and of the mini FAT, by the cells that name them.
use Prim.Native.Nat.{ℕ, zero, suc, ◌≤◌, ◌<◌}
use mathlib.Core.Path.{◌≡◌, refl, sym, ap, ap₂, ◌∙◌, subst}
use mathlib.Core.Logic.{inl, inr}
use mathlib.Core.Bool.{Bool, true, false, cond}
use mathlib.Core.List.{[], ◌∷◌}
use native.Mathlib.Omega.{arith}
use lib.Dec.{ltb}
use borrow.Author.Tests.{ltb-true}
use Rattle.format.specs.Basics.Lists.{bit, count, join_below}
use Rattle.format.specs.Basics.Bytes.{Bytes}
use Rattle.format.specs.Layout.Geometry.{Geometry, sector_count}
use Rattle.format.specs.Layout.Chain.{units, follow}
use Rattle.format.specs.Layout.Header.{directory_start, mini_fat_start, mini_fat_count}
use Rattle.format.specs.Layout.Tables.{fat_cell, sector_space}
use Rattle.format.specs.Layout.Directory.{directory_sectors}
use Rattle.format.specs.Layout.Volume.{Volume, directory, directory_sectors_of, mini_fat_sectors, system_sectors}
use Rattle.format.specs.Rules.Owners.{own_sectors, owned_sectors}
use Rattle.theory.proofs.Counts.{count_append, eqb_cases}
use Rattle.theory.proofs.Chains.{follow_agree, units_agree}

follow_below : (f : ℕ → ℕ) (N n s x : ℕ) → 0 < count x (follow f N n s) → x < N
unfolding follow
follow_below f N zero s x q = absurd (omega arith)
follow_below f N (suc n) s x q = go (ltb s N) refl q (follow_below f N n (f s) x)
  where
    go : (t : Bool) → ltb s N ≡ t → 0 < count x (cond t (s ∷ follow f N n (f s)) []) → (0 < count x (follow f N n (f s)) → x < N) → x < N
    go true e k r =
        elim (eqb_cases x s) [
          | inl m ↦ subst (λ y. y < N) (sym m.0) (ltb-true s N e)
          | inr m ↦ r (omega (arith, ap bit m.1))
        ]
    go false e k r = absurd (omega arith)

-- the directory's sectors by the cells and the start
dirs_are : (g : Geometry) (img : Bytes) → directory_sectors_of g img ≡ follow (fat_cell g img) (sector_count g img) (sector_count g img) (directory_start img)
unfolding directory_sectors_of directory_sectors sector_space
dirs_are g img = refl

pub dirs_same : (g : Geometry) (a b : Bytes) → sector_count g b ≡ sector_count g a → directory_start b ≡ directory_start a →
    ((s : ℕ) → 0 < count s (directory_sectors_of g a) → fat_cell g b s ≡ fat_cell g a s) → directory_sectors_of g b ≡ directory_sectors_of g a
dirs_same g a b n d c =
    dirs_are g b ∙ ap₂ (λ m s. follow (fat_cell g b) m m s) n d
    ∙ follow_agree (fat_cell g a) (fat_cell g b) (sector_count g a) (sector_count g a) (directory_start a) (λ x q. c x (subst (λ l. 0 < count x l) (sym (dirs_are g a)) q))
    ∙ sym (dirs_are g a)

pub dirs_below : (g : Geometry) (img : Bytes) (s : ℕ) → 0 < count s (directory_sectors_of g img) → s < sector_count g img
unfolding directory_sectors_of directory_sectors sector_space
dirs_below g img s q = follow_below (fat_cell g img) (sector_count g img) (sector_count g img) (directory_start img) s q

pub minis_same : (g : Geometry) (a b : Bytes) → mini_fat_count b ≡ mini_fat_count a → mini_fat_start b ≡ mini_fat_start a →
    ((s : ℕ) → 0 < count s (mini_fat_sectors g a) → fat_cell g b s ≡ fat_cell g a s) → mini_fat_sectors g b ≡ mini_fat_sectors g a
unfolding mini_fat_sectors
minis_same g a b n d c = ap₂ (λ m s. units (fat_cell g b) m s) n d ∙ units_agree (fat_cell g a) (fat_cell g b) (mini_fat_count a) (mini_fat_start a) c

-- the system's sectors are owned
pub system_owned : (v : Volume) (s : ℕ) → count s (system_sectors v) ≤ count s (owned_sectors v)
unfolding owned_sectors
system_owned v s = omega (arith, count_append s (system_sectors v) (join_below v.directory.count (own_sectors v)))
