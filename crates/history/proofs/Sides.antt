-- A stream has all its units in one of the two spaces and none in the other: what is said of the one is said of both.
use Prim.Native.Nat.{ℕ, ◌*◌}
use mathlib.Core.Path.{◌≡◌, refl, sym, ◌∙◌}
use mathlib.Core.Bool.{Bool, true, false, cond, beq}
use mathlib.Core.List.{List, []}
use mathlib.Core.Logic.{◌⊎◌, inl, inr}
use native.Mathlib.Omega.{arith}
use lib.ListN.{length}
use Rattle.format.specs.Basics.Bytes.{Bytes}
use Rattle.format.specs.Layout.Space.{Space}
use Rattle.format.specs.Layout.Volume.{Volume}
use Rattle.theory.specs.Owned.{MayBecome}
use Rattle.frame.specs.Edits.{Refilled}
use Rattle.frame.specs.Good.{space_of}

pub cond_nil : (t : Bool) → cond {A = List ℕ} t [] [] ≡ []
cond_nil true = refl
cond_nil false = refl

pub cond_beq_true : (t : Bool) (us : List ℕ) → cond t us [] ≡ cond (beq true t) us []
cond_beq_true true us = refl
cond_beq_true false us = refl

pub cond_beq_false : (t : Bool) (us : List ℕ) → cond t [] us ≡ cond (beq false t) us []
cond_beq_false true us = refl
cond_beq_false false us = refl

pub cond_side : (b side old : Bool) (us : List ℕ) → (old ≡ side) ⊎ (us ≡ []) → cond (beq b old) us [] ≡ cond (beq b side) us []
cond_side b side old us (inl h) = rw h
cond_side b side old us (inr h) = rw h (cond_nil (beq b old) ∙ sym (cond_nil (beq b side)))

-- the content does not matter where there are no units
pub refilled_side : (sp sp' : Space) (img img' : Bytes) (sys ws : List ℕ) (c : Bytes) (t : Bool) → Refilled sp sp' img img' sys (cond t ws []) c →
    Refilled sp sp' img img' sys (cond t ws []) (cond t c [])
refilled_side sp sp' img img' sys ws c true h = h
refilled_side sp sp' img img' sys ws c false h = record { bytes = h.bytes; sized = h.sized }

pub full_side : (v : Volume) (ws : List ℕ) (c : Bool → Bytes) (b side : Bool) → length (c side) ≡ length ws * (space_of v side).unit →
    length (cond (beq b side) (c b) []) ≡ length (cond (beq b side) ws []) * (space_of v b).unit
full_side v ws c true true h = h
full_side v ws c true false h = omega arith
full_side v ws c false true h = omega arith
full_side v ws c false false h = h

becomes_nothing : (N : ℕ) (f : ℕ → ℕ) → MayBecome N f [] []
becomes_nothing N f = record { diff = λ s. omega arith; from = λ s q. absurd (omega arith) }

pub becomes_side : (v : Volume) (us ws : List ℕ) (b side : Bool) → MayBecome (space_of v side).limit (space_of v side).cell us ws →
    MayBecome (space_of v b).limit (space_of v b).cell (cond (beq b side) us []) (cond (beq b side) ws [])
becomes_side v us ws true true h = h
becomes_side v us ws true false h = becomes_nothing v.minis.limit v.minis.cell
becomes_side v us ws false true h = becomes_nothing v.sectors.limit v.sectors.cell
becomes_side v us ws false false h = h
