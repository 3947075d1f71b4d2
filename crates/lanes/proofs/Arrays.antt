-- Lanes that stand in two arrays: a step of any of them, and one that is dropped, whose place the last takes.
use Prim.Native.Nat.{ℕ, zero, suc, ◌+◌, ◌-◌, ◌<◌}
use mathlib.Core.Path.{◌≡◌, refl, ap, ◌∙◌}
use mathlib.Core.Logic.{◌≢◌}
use mathlib.Core.Bool.{Bool, ◌&&◌, and_comm}
use mathlib.Core.List.{List, [], ◌∷◌, ◌++◌, append_assoc, append-nil}
use native.Mathlib.Omega.{arith}
use native.Mathlib.Decide.{ℕ_discrete}
use lib.ListN.{length, get_or, set}
use lib.Seq.{get_or-set_same, get_or-set_other}
use Rattle.format.specs.Basics.Lists.{count, all_below, list_below, join_below}
use Rattle.format.specs.Layout.Space.{Space}
use Rattle.theory.specs.Sums.{sum_below}
use Rattle.theory.proofs.Counts.{count_append, sum_ext}
use Rattle.theory.proofs.Below.{list_below_ext}
use Rattle.lanes.specs.Lanes.{Lane, rights, sums, Side}
use Rattle.lanes.specs.Answers.{lane_right, lane_units}
use Rattle.lanes.proofs.ToGo.{rights_move, sums_move}
use Rattle.lanes.proofs.Ends.{side_front, side_back}

abbrev pub lane_at : List ℕ → List ℕ → ℕ → Lane
lane_at here left i = record { left = get_or left i 0; here = get_or here i 0 }

-- the first n
abbrev pub lanes : List ℕ → List ℕ → ℕ → List Lane
lanes here left n = list_below n (lane_at here left)

-- ---- what is in one place

module _ (here left : List ℕ) (i v k : ℕ) where
  pub lane_other : (j : ℕ) → j ≢ i → lane_at (set here i v) (set left i k) j ≡ lane_at here left j
  lane_other j d = rw (get_or-set_other here i j v 0 d, get_or-set_other left i j k 0 d)

  pub lane_same : i < length here → i < length left → lane_at (set here i v) (set left i k) i ≡ record { left = k; here = v }
  lane_same a b = rw (get_or-set_same here i v 0 a, get_or-set_same left i k 0 b)

-- ---- the lanes before and behind one of them

pub record Cut (n i : ℕ) (f : ℕ → Lane) : Type 0 where
  pub front : List Lane
  pub rest : List Lane
  pub whole : (g : ℕ → Lane) → ((j : ℕ) → j ≢ i → g j ≡ f j) → list_below n g ≡ front ++ (g i ∷ rest)

pub cut : (n i : ℕ) (f : ℕ → Lane) → i < n → Cut n i f
unfolding list_below
cut zero i f l = absurd (omega arith)
cut (suc n) i f l =
    elim (ℕ_discrete i n) [
      | yes e ↦ record {
        front = list_below n f;
        rest = [];
        whole = λ g h. rw (e, list_below_ext n f g (λ j k. h j (omega arith)));
      }
      | no e ↦
          let c = cut n i f (omega arith) in
          record {
            front = c.front;
            rest = c.rest ++ (f n ∷ []);
            whole = λ g h. rw (c.whole g h, append_assoc, h n (omega arith));
          }
    ]

module _ {cell : ℕ → ℕ} {limit : ℕ} {goal : Bool} {T : ℕ → ℕ} {shared : Bool} {m : ℕ → ℕ} where
  -- any lane may be the first
  pub side_at : (n i : ℕ) (f : ℕ → Lane) (l : i < n) → Side cell limit goal T shared (list_below n f) m
      → Side cell limit goal T shared (f i ∷ ((cut n i f l).front ++ (cut n i f l).rest)) m
  side_at n i f l w = let c = cut n i f l in side_front c.front (f i) c.rest (rw (c.whole f (λ j d. refl)) at w)

-- another lane in the place of one
module _ {cell : ℕ → ℕ} {limit : ℕ} {goal : Bool} {T : ℕ → ℕ} {shared shared' : Bool} {m m' : ℕ → ℕ} where
  pub side_turn : (n i : ℕ) (f g : ℕ → Lane) → i < n → ((j : ℕ) → j ≢ i → g j ≡ f j)
      → ((ls : List Lane) → Side cell limit goal T shared (f i ∷ ls) m → Side cell limit goal T shared' (g i ∷ ls) m')
      → Side cell limit goal T shared (list_below n f) m → Side cell limit goal T shared' (list_below n g) m'
  side_turn n i f g l h next w =
      let c = cut n i f l in
      rw (c.whole g h) (side_back c.front (g i) c.rest (next (c.front ++ c.rest) (side_at n i f l w)))

  -- a lane is dropped, and the last takes its place
  side_last : (n i : ℕ) (f g : ℕ → Lane) → i < suc n → ((j : ℕ) → j ≢ i → g j ≡ f j) → g i ≡ f n
      → ((ls : List Lane) → Side cell limit goal T shared (f i ∷ ls) m → Side cell limit goal T shared' ls m')
      → Side cell limit goal T shared (list_below (suc n) f) m → Side cell limit goal T shared' (list_below n g) m'
  unfolding list_below
  side_last n i f g l h t next w =
      elim (ℕ_discrete i n) [
        | yes e ↦
            let w₁ : Side cell limit goal T shared (f n ∷ (list_below n f ++ [])) m = side_front (list_below n f) (f n) [] w in
            let w₂ : Side cell limit goal T shared' (list_below n f ++ []) m' = next _ (rw e w₁) in
            rw (list_below_ext n f g (λ j k. h j (omega arith))) (rw append-nil at w₂)
        | no e ↦
            let k : i < n = omega arith in
            let c = cut n i f k in
            let b = c.front in
            let r = c.rest in
            let w₁ : Side cell limit goal T shared (b ++ (f i ∷ (r ++ (f n ∷ [])))) m = rw (c.whole f (λ j d. refl), append_assoc) at w in
            let w₂ : Side cell limit goal T shared' (b ++ (r ++ (f n ∷ []))) m' = next _ (side_front b (f i) (r ++ (f n ∷ [])) w₁) in
            let w₃ : Side cell limit goal T shared' ((b ++ r) ++ (f n ∷ [])) m' = rw append_assoc w₂ in
            let w₄ : Side cell limit goal T shared' (f n ∷ ((b ++ r) ++ [])) m' = side_front (b ++ r) (f n) [] w₃ in
            rw (c.whole g h, t) (side_back b (f n) r (rw append-nil at w₄))
      ]

  pub side_drop : (n i : ℕ) (f g : ℕ → Lane) → i < n → ((j : ℕ) → j ≢ i → g j ≡ f j) → g i ≡ f (n - 1)
      → ((ls : List Lane) → Side cell limit goal T shared (f i ∷ ls) m → Side cell limit goal T shared' ls m')
      → Side cell limit goal T shared (list_below n f) m → Side cell limit goal T shared' (list_below (n - 1) g) m'
  side_drop zero i f g l h t next w = absurd (omega arith)
  side_drop (suc n) i f g l h t next w = let u : suc n - 1 ≡ n = omega arith in rw u (side_last n i f g l h (t ∙ ap f u) next w)

-- ---- all lanes: whether they are right, and how often they meet a unit

module _ (sp : Space) (here left : List ℕ) where
  pub rights_are : (n : ℕ) → rights sp.cell sp.limit (lanes here left n) ≡ all_below n (lane_right sp here left)
  unfolding list_below all_below rights
  rights_are zero = refl
  rights_are (suc n) =
      let a = lane_at here left n in
      rights_move sp.cell sp.limit (lanes here left n) a []
      ∙ ap (λ ls. rights sp.cell sp.limit (a ∷ ls)) (append-nil (lanes here left n))
      ∙ ap (λ t. lane_right sp here left n && t) (rights_are n)
      ∙ and_comm (lane_right sp here left n) (all_below n (lane_right sp here left))

  pub sums_are : (n u : ℕ) → sums sp.cell (lanes here left n) u ≡ count u (join_below n (lane_units sp here left))
  unfolding list_below join_below sums
  sums_are zero u = refl
  sums_are (suc n) u =
      let a = lane_at here left n in
      let e = sums_move sp.cell (lanes here left n) a [] u in
      let z : sums sp.cell (a ∷ (lanes here left n ++ [])) u ≡ sums sp.cell (a ∷ lanes here left n) u = ap (λ ls. sums sp.cell (a ∷ ls) u) (append-nil (lanes here left n)) in
      omega (arith, e, z, sums_are n u, count_append u (join_below n (lane_units sp here left)) (lane_units sp here left n))

-- ---- how many steps are left

abbrev pub steps_left : List ℕ → ℕ → ℕ
steps_left left n = sum_below (λ i. get_or left i 0) n + n

sum_at : (n i : ℕ) (f g : ℕ → ℕ) → i < n → ((j : ℕ) → j ≢ i → g j ≡ f j) → sum_below g n + f i ≡ sum_below f n + g i
sum_at zero i f g l h = absurd (omega arith)
sum_at (suc n) i f g l h =
    elim (ℕ_discrete i n) [
      | yes e ↦ rw e (omega (arith, sum_ext g f n (λ j k. h j (omega arith))))
      | no e ↦ omega (arith, sum_at n i f g (omega arith) h, h n (omega arith))
    ]

set_sum : (left : List ℕ) (n i v : ℕ) → i < n → i < length left → sum_below (λ j. get_or (set left i v) j 0) n + get_or left i 0 ≡ sum_below (λ j. get_or left j 0) n + v
set_sum left n i v l b =
    omega (arith, sum_at n i (λ j. get_or left j 0) (λ j. get_or (set left i v) j 0) l (λ j d. get_or-set_other left i j v 0 d), get_or-set_same left i v 0 b)

pub less_on : (left : List ℕ) (n i v : ℕ) → i < n → i < length left → v < get_or left i 0 → steps_left (set left i v) n < steps_left left n
less_on left n i v l b h = omega (arith, set_sum left n i v l b)

pub less_drop : (left : List ℕ) (n i : ℕ) → i < n → i < length left → steps_left (set left i (get_or left (n - 1) 0)) (n - 1) < steps_left left n
less_drop left zero i l b = absurd (omega arith)
less_drop left (suc n) i l b =
    let e : suc n - 1 ≡ n = omega arith in
    let v = get_or left n 0 in
    rw e
    (elim (ℕ_discrete i n) [
      | yes d ↦ omega (arith, sum_ext (λ j. get_or (set left i v) j 0) (λ j. get_or left j 0) n (λ j k. get_or-set_other left i j v 0 (omega arith)))
      | no d ↦ omega (arith, set_sum left n i v (omega arith) b)
    ])
