-- Bytes put into a chain as code does it: run after run, each inside one unit.
use mathlib.Core.Path.{◌≡◌, refl}
use mathlib.Core.List.{List, [], ◌∷◌, ◌++◌}
use Prim.Native.Nat.{ℕ, suc, ◌+◌, ◌*◌, ◌≤◌, ◌<◌}
use native.Mathlib.Nat.{add-zero, add-suc, suc-add}
use native.Mathlib.Omega.{arith}
use lib.Arith.{digits_div, digits_mod}
use lib.ListN.{length, get_or, set}
use lib.Seq.{sets}
use Rattle.format.specs.Basics.Bytes.{Bytes}
use Rattle.format.specs.Layout.Space.{Space}
use Rattle.format.specs.Calls.Overwrite.{byte_place, put_chain}

pub put_append : (sp : Space) (us : List ℕ) (img : Bytes) (i : ℕ) (xs ys : Bytes)
    → put_chain sp us img i (xs ++ ys) ≡ put_chain sp us (put_chain sp us img i xs) (i + length xs) ys
unfolding put_chain
put_append sp us img i [] ys = rw add-zero
put_append sp us img i (x ∷ xs) ys = rw (add-suc, ← suc-add) (put_append sp us (set img (byte_place sp us i) x) (suc i) xs ys)

-- a run that stays in one unit is one store of a run
pub put_chunk : (sp : Space) (us : List ℕ) (img : Bytes) (k j : ℕ) (vs : Bytes) → j + length vs ≤ sp.unit
    → put_chain sp us img (k * sp.unit + j) vs ≡ sets img (sp.unit_place (get_or us k 0) + j) vs
unfolding put_chain byte_place
put_chunk sp us img k j [] h = refl
put_chunk sp us img k j (v ∷ vs) h =
    let b : j < sp.unit = omega arith in
    rw (digits_div k b, digits_mod k b, ← add-suc, ← add-suc) (put_chunk sp us (set img (sp.unit_place (get_or us k 0) + j) v) k (suc j) vs (omega arith))
