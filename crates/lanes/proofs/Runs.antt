-- The loop that marks chains side by side, in any space: how it begins, its turns, and its answers.
use Prim.Native.Nat.{ℕ, ◌+◌, ◌-◌, ◌≤◌, ◌<◌}
use Rattle.std.specs.Prelude.{Some, None}
use mathlib.Core.Path.{◌≡◌, refl, sym, ap, ◌∙◌}
use mathlib.Core.Logic.{⊎_elim}
use mathlib.Core.Bool.{Bool, true, false, not, cond, ◌||◌, or-true, or-false}
use mathlib.Core.List.{List, ◌∷◌, ◌++◌}
use native.Mathlib.Omega.{arith}
use native.Mathlib.Decide.{ℕ_discrete, dec_lt}
use lib.Dec.{ltb, leb}
use borrow.Author.Tests.{le-leb, lt-leb}
use lib.ListN.{length, get_or, set, length-set}
use lib.Seq.{get_or-set_same, get_or-set_other}
use Rattle.format.specs.Basics.Lists.{bit, count, member, all_below, list_below, join_below, pick_below}
use Rattle.format.specs.Layout.Space.{Space}
use Rattle.theory.specs.Marks.{Closed, Owning, MARK, marks_at, InPlace}
use Rattle.theory.proofs.Counts.{count_append}
use Rattle.theory.proofs.Picks.{pick_below_lem}
use Rattle.theory.proofs.Tests.{clash}
use Rattle.tables.specs.Work.{Wrote}
use Rattle.tables.proofs.WorkLaws.{wrote_none}
use Rattle.chains.specs.Answers.{Markable}
use Rattle.chains.proofs.Walks.{mark_is, mark_some, put_mark}
use Rattle.chains.proofs.Owners.{marked_broken}
use Rattle.lanes.specs.Lanes.{Lane, rights, sums, Side}
use Rattle.lanes.specs.Answers.{Stepped, LanesShort, LanesMarked, lane_right, lane_units}
use Rattle.lanes.specs.declared.Step.TheVariants.{Broken, On, Done, Met}
use Rattle.lanes.proofs.Side.{side_step, side_done, side_off, side_out, side_clash, side_meet}
use Rattle.lanes.proofs.Ends.{side_closed, side_right, side_start, side_owning}
use Rattle.lanes.proofs.Arrays.{lane_at, lanes, lane_other, lane_same, side_at, side_turn, side_drop, rights_are, sums_are}

-- ---- turns

-- the lane whose turn it is is one of those that are not done
pub turn_in : (i live : ℕ) {r : ℕ} → r ≡ cond (leb live i) 0 i → r ≤ live - 1
turn_in i live {r} e =
    elim (dec_lt i live) [
      | yes h ↦ let k : r ≡ i = rw (lt-leb live i h) at e in omega arith
      | no h ↦ let k : r ≡ 0 = rw (le-leb live i (omega arith)) at e in omega arith
    ]

-- ---- marks that agree with the cells are those of some owned units, none of them twice

bit_mark : (b : Bool) → b ≡ ltb 0 (bit b)
bit_mark true = refl
bit_mark false = refl

bit_one : (b : Bool) → bit b ≤ 1
bit_one true = omega arith
bit_one false = omega arith

owning_some : {cell : ℕ → ℕ} {limit : ℕ} {m : ℕ → ℕ} → Closed cell limit m → Owning cell limit (pick_below limit (λ u. ltb 0 (m u))) m false
unfolding member
owning_some {limit = limit} {m} c =
    let e : (u : ℕ) → u < limit → count u (pick_below limit (λ u. ltb 0 (m u))) ≡ bit (ltb 0 (m u)) = λ u l. pick_below_lem (λ u. ltb 0 (m u)) u limit l in
    record {
      closed = c;
      marked = λ u l. bit_mark (ltb 0 (m u)) ∙ ap (ltb 0) (sym (e u l));
      single = λ f u l. omega (arith, e u l, bit_one (ltb 0 (m u)));
      double = λ f. absurd (clash f refl);
    }

-- ---- in one space, beside units that are owned already: `first` were the lanes at the start, `ls` are to go

pub record Run (sp : Space) (at : ℕ) (owned : List ℕ) (first : List Lane) (w₀ : List ℕ) (ls : List Lane) (w : List ℕ) (shared : Bool) : Type 0 where
  pub side : Side sp.cell sp.limit (rights sp.cell sp.limit first) (λ u. count u owned + sums sp.cell first u) shared ls (marks_at at w)
  pub place : InPlace sp.cell sp.limit at w
  pub wrote : Wrote w₀ w at sp.limit

-- ---- whatever space the numbers are of: n lanes are to go, and it is lane i's turn

pub record Runs (at limit : ℕ) (w₀ here₀ left₀ : List ℕ) (n₀ : ℕ) (w here left : List ℕ) (n i : ℕ) (met : Bool) : Type 0 where
  pub long : length w ≡ length w₀
  pub few : n ≤ 32
  pub turn : i ≤ n - 1
  pub heres : length here ≡ 32
  pub lefts : length left ≡ 32
  pub short : (j : ℕ) → j < n → get_or left j 0 < 0x1000_0000
  pub along : (sp : Space) → sp.limit ≡ limit → Markable sp at w₀ → (owned : List ℕ) (shared : Bool) → Owning sp.cell sp.limit owned (marks_at at w₀) shared
      → Run sp at owned (lanes here₀ left₀ n₀) w₀ (lanes here left n) w (shared || met)

pub runs_start : {at limit : ℕ} {w here left : List ℕ} {n : ℕ} → LanesShort left n → length here ≡ 32 → length left ≡ 32
    → Runs at limit w here left n w here left n 0 false
runs_start {at} {w = w} {here} {left} {n} s a b =
    record {
      long = refl;
      few = s.few;
      turn = omega arith;
      heres = a;
      lefts = b;
      short = s.short;
      along = λ sp e z owned shared o. record { side = rw or-false (side_start o (lanes here left n)); place = z.place; wrote = wrote_none w at _ };
    }

module _ {at limit : ℕ} {w₀ here₀ left₀ : List ℕ} {n₀ : ℕ} {w here left : List ℕ} {n i : ℕ} {met : Bool} (h : Runs at limit w₀ here₀ left₀ n₀ w here left n i met) where
  abbrev s : ℕ
  s = get_or here i 0

  abbrev k : ℕ
  k = get_or left i 0

  -- ---- the turns

  -- lane i goes on
  pub runs_on : {w' : List ℕ} {v : ℕ} (j : ℕ) → i < n → Stepped at limit s k w w' (On v) → j ≤ n - 1
      → Runs at limit w₀ here₀ left₀ n₀ w' (set here i v) (set left i (k - 1)) n j met
  runs_on {w'} {v} j l r t =
      rw r.0
      record {
        long = length-set w (at + s) (MARK + k) ∙ h.long;
        few = h.few;
        turn = t;
        heres = length-set here i v ∙ h.heres;
        lefts = length-set left i (k - 1) ∙ h.lefts;
        short = λ x y.
            elim (ℕ_discrete x i) [
              | yes d ↦ omega (arith, ap (λ q. get_or (set left i (k - 1)) q 0) d, get_or-set_same left i (k - 1) 0 (omega (arith, h.lefts, h.few)), h.short i l)
              | no d ↦ omega (arith, get_or-set_other left i x (k - 1) 0 d, h.short x y)
            ];
        along = λ sp e z owned shared o.
            let a = h.along sp e z owned shared o in
            let b : s < sp.limit = omega (arith, e, r.1.below) in
            let p = put_mark sp s k (omega (arith, z.room, h.long)) a.place a.wrote r.1.some (h.short i l) b r.2 in
            let f = lane_at here left in
            let g = lane_at (set here i v) (set left i (k - 1)) in
            let c : v ≡ sp.cell s = r.3 ∙ a.place.stands s b p.free in
            let q : g i ≡ record { left = k - 1; here = sp.cell s } = lane_same here left i v (k - 1) (omega (arith, h.heres, h.few)) (omega (arith, h.lefts, h.few)) ∙ rw c in
            record {
              side = side_turn n i f g l (lane_other here left i v (k - 1)) (λ ls x. rw q (side_step _ x r.1.some b p.free p.new p.other)) a.side;
              place = p.place;
              wrote = p.wrote;
            };
      }

  -- lane i is dropped, and the last takes its place
  dropped : {met' : Bool} (j : ℕ) → i < n → j ≤ n - 1 - 1
      → ((sp : Space) → sp.limit ≡ limit → Markable sp at w₀ → (goal shared : Bool) (T : ℕ → ℕ) (ls : List Lane)
      → Side sp.cell sp.limit goal T (shared || met) (lane_at here left i ∷ ls) (marks_at at w) → Side sp.cell sp.limit goal T (shared || met') ls (marks_at at w))
      → Runs at limit w₀ here₀ left₀ n₀ w (set here i (get_or here (n - 1) 0)) (set left i (get_or left (n - 1) 0)) (n - 1) j met'
  dropped j l t next =
      let v = get_or here (n - 1) 0 in
      let m = get_or left (n - 1) 0 in
      record {
        long = h.long;
        few = omega (arith, h.few);
        turn = t;
        heres = length-set here i v ∙ h.heres;
        lefts = length-set left i m ∙ h.lefts;
        short = λ x y.
            elim (ℕ_discrete x i) [
              | yes d ↦ omega (arith, ap (λ q. get_or (set left i m) q 0) d, get_or-set_same left i m 0 (omega (arith, h.lefts, h.few)), h.short (n - 1) (omega arith))
              | no d ↦ omega (arith, get_or-set_other left i x m 0 d, h.short x (omega arith))
            ];
        along = λ sp e z owned shared o.
            let a = h.along sp e z owned shared o in
            record {
              side = side_drop n i (lane_at here left) (lane_at (set here i v) (set left i m)) l (lane_other here left i v m)
                  (lane_same here left i v m (omega (arith, h.heres, h.few)) (omega (arith, h.lefts, h.few)))
                  (λ ls. next sp e z _ shared _ ls) a.side;
              place = a.place;
              wrote = a.wrote;
            };
      }

  pub runs_done : {w' : List ℕ} (j : ℕ) → i < n → Stepped at limit s k w w' Done → j ≤ n - 1 - 1
      → Runs at limit w₀ here₀ left₀ n₀ w' (set here i (get_or here (n - 1) 0)) (set left i (get_or left (n - 1) 0)) (n - 1) j met
  runs_done j l r t = rw r.0 (dropped j l t (λ sp e z goal shared T ls x. side_done x r.1 r.2))

  pub runs_met : {w' : List ℕ} (j : ℕ) → i < n → Stepped at limit s k w w' Met → j ≤ n - 1 - 1
      → Runs at limit w₀ here₀ left₀ n₀ w' (set here i (get_or here (n - 1) 0)) (set left i (get_or left (n - 1) 0)) (n - 1) j true
  runs_met j l r t =
      rw r.0
      (dropped j l t (λ sp e z goal shared T ls x.
      rw or-true (side_meet x r.1.some (omega (arith, e, r.1.below)) (mark_is _ k r.2 r.1.some (h.short i l)))))

  -- ---- the answers

  -- lane i is no chain
  pub runs_broken : {w' : List ℕ} → i < n → Stepped at limit s k w w' Broken → LanesMarked at limit here₀ left₀ n₀ w₀ w' None
  runs_broken l r sp e z =
      let a = h.along sp e z _ false (owning_some z.closed) in
      let x = side_at n i (lane_at here left) l a.side in
      rw r.0
      (marked_broken _
      (sym (rights_are sp here₀ left₀ n₀)
      ∙ ⊎_elim (λ q. side_off x q.0 q.1)
      (⊎_elim (λ q. side_out x q.0 (omega (arith, e, q.1)))
      (λ q.
      let m = mark_some (get_or w (at + s) 0) q.1 in
      side_clash (omega (arith, z.few)) x (omega (arith, e, q.0.below)) (omega (arith, m.0, m.1)) (λ y. q.2 (omega (arith, m.0, m.1, y)))))
      r.1)
      a.wrote)

  -- no lane is left
  pub runs_end : n ≤ 0 → LanesMarked at limit here₀ left₀ n₀ w₀ w (Some met)
  unfolding list_below
  runs_end l sp e z =
      let up : n ≡ 0 = omega arith in
      let own = join_below n₀ (lane_units sp here₀ left₀) in
      let run = h.along sp e z in
      let r = run _ false (owning_some z.closed) in
      let x = rw up at r.side in
      let right : all_below n₀ (lane_right sp here₀ left₀) ≡ true = sym (rights_are sp here₀ left₀ n₀) ∙ side_right x in
      record {
        answer = sym (ap not right);
        stands = λ t. record { few = z.few; room = omega (arith, z.room, h.long); place = r.place; closed = side_closed x };
        owners = λ t owned shared o.
            side_owning (owned ++ own) (λ u. omega (arith, count_append u owned own, sums_are sp here₀ left₀ n₀ u)) (rw up at (run owned shared o).side);
        wrote = r.wrote;
      }
