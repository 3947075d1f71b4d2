-- Writes go by places: two spaces that give the same places to the units at hand are written alike.
use Prim.Native.Nat.{ℕ, suc, ◌+◌, ◌-◌, ◌*◌, ◌/◌, ◌≤◌, ◌<◌, min}
use mathlib.Core.Path.{◌≡◌, refl, ◌∙◌, ap}
use mathlib.Core.Bool.{Bool, true, false, cond}
use mathlib.Core.List.{List, [], ◌∷◌}
use native.Mathlib.Nat.{div-lt_iff_lt-mul}
use native.Mathlib.Omega.{arith}
use lib.Dec.{ltb}
use lib.ListN.{length, get_or, set, drop, replicate, length-replicate}
use Rattle.format.specs.Basics.Lists.{count}
use Rattle.format.specs.Basics.Bytes.{Bytes}
use Rattle.format.specs.Layout.Space.{Space}
use Rattle.format.specs.Calls.Overwrite.{byte_place, put_chain}
use Rattle.format.specs.Calls.SetLength.{release, relinked, zeroed}
use Rattle.theory.proofs.Counts.{count_at, count_split}
use Rattle.spaces.proofs.SameCells.{SameCells, release_same, link_same}
use Rattle.edits.specs.Rewritten.{tail_filled, rewritten}

-- the same places for the units of a list
abbrev pub SameUnits : Space → Space → List ℕ → Type 0
SameUnits sp sq us = (u : ℕ) → 0 < count u us → sp.unit_place u ≡ sq.unit_place u

-- what holds of a list's units holds of those of a part
pub count_drop : (k u : ℕ) (us : List ℕ) → 0 < count u (drop k us) → 0 < count u us
count_drop k u us h = omega (arith, count_split u k us)

module _ (sp sq : Space) where
  pub relinked_same : (us ws : List ℕ) (img : Bytes) → SameCells sp sq us → SameCells sp sq ws → relinked sp us ws img ≡ relinked sq us ws img
  unfolding relinked
  relinked_same us ws img h k =
      let n = min (length us) (length ws) in
      rw (release_same sp sq (drop n us) img (λ u q. h u (count_drop n u us q)))
      (link_same sp sq (drop (n - 1) ws) (release sq (drop n us) img) (λ u q. k u (count_drop (n - 1) u ws q)))

  module _ (e : sp.unit ≡ sq.unit) (z : 0 < sq.unit) (us : List ℕ) (h : SameUnits sp sq us) where
    byte_same : (i : ℕ) → i < length us * sq.unit → byte_place sp us i ≡ byte_place sq us i
    unfolding byte_place
    byte_same i l =
        let q : i / sq.unit < length us = (div-lt_iff_lt-mul z).1 l in
        rw (e, h (get_or us (i / sq.unit) 0) (count_at us (i / sq.unit) 0 q))

    pub put_same : (img : Bytes) (i : ℕ) (xs : Bytes) → i + length xs ≤ length us * sq.unit → put_chain sp us img i xs ≡ put_chain sq us img i xs
    unfolding put_chain
    put_same img i [] l = refl
    put_same img i (x ∷ xs) l = rw (byte_same i (omega arith)) (put_same (set img (byte_place sq us i) x) (suc i) xs (omega arith))

    pub zeroed_same : (img : Bytes) (from : ℕ) → from ≤ length us * sq.unit → zeroed sp us img from ≡ zeroed sq us img from
    unfolding zeroed
    zeroed_same img from l =
        let n = length us * sq.unit - from in
        ap (λ k. put_chain sp us img from (replicate (length us * k - from) 0)) e ∙ put_same img from (replicate n 0) (omega (arith, length-replicate {A = ℕ} n 0))

    filled_same : (img : Bytes) (size length' : ℕ) → (size < length' → size ≤ length us * sq.unit) → tail_filled sp us size length' img ≡ tail_filled sq us size length' img
    unfolding tail_filled
    filled_same img size n l = go (ltb size n) refl
      where
        go : (b : Bool) → ltb size n ≡ b → cond b (zeroed sp us img size) img ≡ cond b (zeroed sq us img size) img
        go true q = zeroed_same img size (l (borrow.Author.Tests.ltb-true size n q))
        go false q = refl

    pub rewritten_same : (place : ℕ) (old : List ℕ) (size n : ℕ) (img : Bytes) → SameCells sp sq old → SameCells sp sq us → (size < n → size ≤ length us * sq.unit)
        → rewritten sp place old us size n img ≡ rewritten sq place old us size n img
    unfolding rewritten
    rewritten_same place old size n img a b l = rw (relinked_same old us img a b, filled_same (relinked sq old us img) size n l)
