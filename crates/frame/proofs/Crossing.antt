-- Two lengths that do not cross the cutoff.
use mathlib.Core.Path.{◌≡◌, sym, ap, ap₂, ◌∙◌, subst}
use mathlib.Core.Bool.{Bool, true, false, ◌&&◌, ◌||◌}
use Prim.Native.Nat.{ℕ, ◌<◌, max}
use native.Mathlib.Decide.{ℕ_discrete}
use native.Mathlib.Omega.{arith}
use lib.Dec.{ltb, leb}
use borrow.Author.Tests.{lt-ltb, ltb-true, ltb-false, le-leb}
use Rattle.format.specs.Layout.Need.{cutoff}
use Rattle.format.specs.Calls.SetLength.{small, crosses}

-- of two lengths that do not cross, one that is not large beside a large one is 0
pub not_crossed : (n new : ℕ) → crosses n new ≡ false → ltb (max n new) cutoff ≡ false → ltb n cutoff ≡ true → n ≡ 0
unfolding crosses small cutoff
not_crossed n new c b s =
    let lb = ltb-false (max n new) 4096 b in
    let ls = ltb-true n 4096 s in
    elim (ℕ_discrete n 0) [
      | yes p ↦ p
      | no p ↦
          absurd (subst (λ (t : Bool). lib.Dec.T t)
          (sym (ap₂ (λ (x y : Bool). (x && ltb n 4096 && y) || (leb 4096 n && (leb 1 new && ltb new 4096))) (le-leb 1 n (omega arith)) (le-leb 4096 new (omega arith))
          ∙ ap (λ (x : Bool). (true && x && true) || (leb 4096 n && (leb 1 new && ltb new 4096))) (lt-ltb n 4096 ls)) ∙ c) tt)
    ]

pub small_both : (n new : ℕ) → ltb (max n new) cutoff ≡ true → ltb n cutoff ≡ true
unfolding cutoff
small_both n new h = let l = ltb-true (max n new) 4096 h in lt-ltb n 4096 (omega arith)

pub small_new : (n new : ℕ) → ltb (max n new) cutoff ≡ true → new < 0x1_0000_0000
unfolding cutoff
small_new n new h = let l = ltb-true (max n new) 4096 h in omega arith
