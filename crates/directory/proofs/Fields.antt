-- What `is_none` says of a field that was read.
use Prim.Native.Nat.{ℕ}
use mathlib.Core.Path.{◌≡◌, sym, ◌∙◌}
use mathlib.Core.Logic.{◌≢◌}
use mathlib.Core.Bool.{Bool, true, false}
use borrow.Author.Tests.{eqb-true, eqb-false}
use lib.Dec.{eqb}
use Rattle.format.specs.Layout.Entry.{NOSTREAM}

pub none_yes : {r : Bool} {a f : ℕ} → r ≡ eqb a NOSTREAM → r ≡ true → a ≡ f → f ≡ NOSTREAM
none_yes {a = a} p q e = sym e ∙ eqb-true a NOSTREAM (sym p ∙ q)

pub none_no : {r : Bool} {a f : ℕ} → r ≡ eqb a NOSTREAM → r ≡ false → a ≡ f → f ≢ NOSTREAM
none_no {a = a} p q e z = eqb-false a NOSTREAM (sym p ∙ q) (e ∙ z)
