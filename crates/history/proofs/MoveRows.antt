-- What the three steps of a move do to the rows.
use Prim.Native.Nat.{ℕ, zero, suc, ◌+◌, ◌-◌}
use mathlib.Core.Path.{◌≡◌, refl, ap, ap₂, ◌∙◌}
use mathlib.Core.Bool.{Bool, true, false, cond}
use mathlib.Core.List.{List, [], ◌∷◌, ◌++◌, map}
use native.Mathlib.Omega.{arith}
use lib.ListN.{length, take, drop, replicate, length-take, length-replicate}
use lib.Seq.{sets, sets-eq, take-nil}
use Rattle.format.specs.Basics.Bytes.{Bytes, put_bytes}
use Rattle.format.specs.Basics.Lists.{fit}
use Rattle.format.specs.Calls.Paths.{Path}
use Rattle.format.specs.History.Rows.{Row, means}
use Rattle.format.specs.History.Step.{change, put_into}
use Rattle.theory.proofs.Fits.{fit_zero}

-- one change after the other
pub change_change : (p : Path) (f h : Bytes → Bytes) (rows : List Row) → map (change p f) (map (change p h) rows) ≡ map (change p (λ x. f (h x))) rows
unfolding change means
change_change p f h [] = refl
change_change p f h (r ∷ rows) = ap₂ (λ (x : Row) (xs : List Row). x ∷ xs) (one (means p r)) (change_change p f h rows)
  where
    one : (t : Bool) → ◌≡◌ {A = Row} (record { path = r.path; bytes = cond t (f (cond t (h r.bytes) r.bytes)) (cond t (h r.bytes) r.bytes) })
        (record { path = r.path; bytes = cond t (f (h r.bytes)) r.bytes })
    one true = refl
    one false = refl

abbrev zeros : ℕ → Bytes
zeros n = replicate n 0

drop_zeros : (k n : ℕ) → drop k (zeros n) ≡ zeros (n - k)
drop_zeros zero n = let e : n - 0 ≡ n = omega arith in rw e
drop_zeros (suc k) zero = let e : 0 - suc k ≡ 0 = omega arith in rw e
drop_zeros (suc k) (suc n) = let e : suc n - suc k ≡ n - k = omega arith in rw e (drop_zeros k n)

fit_nil : (new : ℕ) → fit new [] ≡ zeros new
unfolding fit
fit_nil new = let e : new - 0 ≡ new = omega arith in rw (take-nil {A = ℕ} new, e)

-- zeros, and the kept bytes over them
pub kept_fit : (new : ℕ) (c : Bytes) → put_into 0 (take new c) (fit new (fit 0 c)) ≡ fit new c
unfolding put_into put_bytes fit
kept_fit new c =
    let k = length-take new c in
    let l = length-replicate {A = ℕ} new 0 in
    let z = ap (fit new) (fit_zero c) ∙ fit_nil new in
    let e : new - (0 + length (take new c)) ≡ new - length c = omega (arith, k) in
    ap (λ (x : Bytes). sets x 0 (take new c)) z
    ∙ sets-eq (take new c) (zeros new) 0 (omega (arith, k, l))
    ∙ ap (λ (x : Bytes). take new c ++ x) (drop_zeros (0 + length (take new c)) new ∙ ap zeros e)
