-- A refusal's number is not that of a call that is done.
use Prim.Native.Nat.{ℕ, zero, suc}
use mathlib.Core.Path.{◌≡◌, refl}
use mathlib.Core.Logic.{◌≢◌}
use native.Mathlib.Omega.{arith}
use Rattle.format.specs.Calls.Answer.{first_of}
use Rattle.format.specs.Calls.Reply.{on_zero}
use Rattle.kinds.specs.Numbers.{refusal_number}
use Rattle.kinds.specs.declared.Refusal.{Refusal}
use Rattle.kinds.specs.declared.Refusal.TheVariants.{BadLength, ShortWork, Header, Tables, Cells, Directory, Entries, Trees, Mini, Streams, Owners, BadPath, NotFound, StreamOnTheWay, NotAStream, Beyond, TooFewFree, OutTooShort, NotEmpty, AlreadyThere, NoBlankEntry, RootRemoved, PlanDoesNotFit, BadEntry}

pub refusal_some : (a : Refusal) → refusal_number a ≢ 0
refusal_some BadLength = λ z. omega arith
refusal_some ShortWork = λ z. omega arith
refusal_some Header = λ z. omega arith
refusal_some Tables = λ z. omega arith
refusal_some Cells = λ z. omega arith
refusal_some Directory = λ z. omega arith
refusal_some Entries = λ z. omega arith
refusal_some Trees = λ z. omega arith
refusal_some Mini = λ z. omega arith
refusal_some Streams = λ z. omega arith
refusal_some Owners = λ z. omega arith
refusal_some BadPath = λ z. omega arith
refusal_some NotFound = λ z. omega arith
refusal_some StreamOnTheWay = λ z. omega arith
refusal_some NotAStream = λ z. omega arith
refusal_some Beyond = λ z. omega arith
refusal_some TooFewFree = λ z. omega arith
refusal_some OutTooShort = λ z. omega arith
refusal_some NotEmpty = λ z. omega arith
refusal_some AlreadyThere = λ z. omega arith
refusal_some NoBlankEntry = λ z. omega arith
refusal_some RootRemoved = λ z. omega arith
refusal_some PlanDoesNotFit = λ z. omega arith
refusal_some BadEntry = λ z. omega arith

-- so it is the first number, whatever comes after it
pub first_refused : (a : Refusal) (m : ℕ) → first_of (refusal_number a) m ≡ refusal_number a
unfolding first_of
first_refused a m = go (refusal_number a) (refusal_some a)
  where
    go : (n : ℕ) → n ≢ 0 → first_of n m ≡ n
    go zero h = absurd (h refl)
    go (suc n) h = refl

-- and what is given where it is 0 is not given
pub else_refused : {A : Type 0} (a : Refusal) (x y : A) → on_zero (refusal_number a) x y ≡ y
unfolding on_zero
else_refused {A} a x y = go (refusal_number a) (refusal_some a)
  where
    go : (n : ℕ) → n ≢ 0 → on_zero n x y ≡ y
    go zero h = absurd (h refl)
    go (suc n) h = refl
