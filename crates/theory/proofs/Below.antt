-- Lists made of what stands at each number below a limit.
use mathlib.Core.Path.{◌≡◌, refl, sym, ap₂, ◌∙◌}
use mathlib.Core.Logic.{◌≢◌}
use mathlib.Core.List.{List, [], ◌∷◌, ◌++◌}
use Prim.Native.Nat.{ℕ, zero, suc, ◌+◌, ◌<◌}
use native.Mathlib.Numerals.{add-one}
use native.Mathlib.Omega.{arith}
use native.Mathlib.Decide.{ℕ_discrete}
use lib.ListN.{length, get_or, set, drop, length-append, length-set, get_or-append}
use lib.Seq.{ext_get_or, get_or-set_same, get_or-set_other, get_or_at, drop-cons, set_at, append_snoc}
use Rattle.format.specs.Basics.Lists.{list_below, join_below}

pub list_below_ext : {A : Type 0} (n : ℕ) (f h : ℕ → A) → ((i : ℕ) → i < n → h i ≡ f i) → list_below n h ≡ list_below n f
unfolding list_below
list_below_ext zero f h e = refl
list_below_ext (suc n) f h e = rw (list_below_ext n f h (λ i l. e i (omega arith)), e n (omega arith))

pub length_below : {A : Type 0} (n : ℕ) (f : ℕ → A) → length (list_below n f) ≡ n
unfolding list_below
length_below zero f = refl
length_below (suc n) f = omega (arith, length-append (list_below n f) (f n ∷ []), length_below n f)

pub get_or_below : {A : Type 0} (n : ℕ) (f : ℕ → A) (i : ℕ) (d : A) → i < n → get_or (list_below n f) i d ≡ f i
unfolding list_below
get_or_below zero f i d h = absurd (omega arith)
get_or_below (suc n) f i d h =
    elim (ℕ_discrete i n) [
      | yes e ↦ rw e (get_or_at (list_below n f) (f n) [] d n (length_below n f))
      | no q ↦ get_or-append (list_below n f) (f n ∷ []) d i (omega (arith, length_below n f)) ∙ get_or_below n f i d (omega arith)
    ]

-- one place changed
pub below_set : {A : Type 0} (n e : ℕ) (f h : ℕ → A) (d : A) → e < n → ((i : ℕ) → i < n → i ≢ e → h i ≡ f i) → list_below n h ≡ set (list_below n f) e (h e)
below_set n e f h d q same =
    ext_get_or d (list_below n h) (set (list_below n f) e (h e)) (length_below n h ∙ sym (length-set (list_below n f) e (h e) ∙ length_below n f))
    (λ i p.
    let k : i < n = omega (arith, length_below n h) in
    elim (ℕ_discrete i e) [
      | yes z ↦ get_or_below n h i d k ∙ rw z (sym (get_or-set_same (list_below n f) e (h e) d (omega (arith, length_below n f))))
      | no z ↦ get_or_below n h i d k ∙ same i k z ∙ sym (get_or-set_other (list_below n f) e i (h e) d z ∙ get_or_below n f i d k)
    ])

-- one more of these written over another list
pub below_fill : {A : Type 0} (f : ℕ → A) (xs : List A) (i : ℕ) (d : A) → i < length xs → set (list_below i f ++ drop i xs) i (f i) ≡ list_below (i + 1) f ++ drop (i + 1) xs
unfolding list_below
below_fill f xs i d h =
    rw (add-one, drop-cons xs i d h, set_at (list_below i f) (get_or xs i d) (drop (suc i) xs) (f i) i (length_below i f))
    (sym (append_snoc (list_below i f) (f i) (drop (suc i) xs)))

pub join_ext : (n : ℕ) (f h : ℕ → List ℕ) → ((i : ℕ) → i < n → h i ≡ f i) → join_below n h ≡ join_below n f
unfolding join_below
join_ext zero f h k = refl
join_ext (suc n) f h k = ap₂ ◌++◌ (join_ext n f h (λ i q. k i (omega arith))) (k n (omega arith))
