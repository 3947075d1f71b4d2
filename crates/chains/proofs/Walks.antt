-- The walk that marks a chain in the place of its cells, in any space.
use Prim.Native.Nat.{ℕ, ◌+◌, ◌-◌, ◌≤◌, ◌<◌}
use Rattle.std.specs.Prelude.{Some, None}
use Rattle.std.specs.Bool.{then_some}
use mathlib.Core.Path.{◌≡◌, refl, sym, ◌∙◌, ap}
use mathlib.Core.Logic.{◌≢◌, inl, inr, ⊎_elim}
use mathlib.Core.Bool.{Bool, true, false, not}
use mathlib.Core.List.{List}
use native.Mathlib.Omega.{arith}
use lib.Dec.{eqb}
use lib.ListN.{length, get_or, set, length-set}
use lib.Seq.{get_or-set_same, get_or-set_other}
use borrow.Author.Tests.{ne_eqb, lt-ltb, ltb-true}
use Rattle.format.specs.Basics.Lists.{all}
use Rattle.format.specs.Layout.Chain.{END, chain, units}
use Rattle.format.specs.Layout.Space.{Space}
use Rattle.theory.specs.Marks.{unmarked, MARK, is_mark, mark_of, marks_at, InPlace}
use Rattle.theory.proofs.Counts.{eqb_cases}
use Rattle.theory.proofs.Tests.{clash, both, false_of}
use Rattle.theory.proofs.Chains.{chain_short}
use Rattle.theory.proofs.Marks.{Marking, marking_start, marking_step, marking_end, marking_fresh, marking_done, marking_out, marking_met, marking_clash}
use Rattle.tables.specs.Work.{Wrote}
use Rattle.tables.proofs.WorkLaws.{wrote_none, wrote_set}
use Rattle.chains.specs.Answers.{mark_answer, Markable, ChainWalked}

-- ---- marks as numbers

pub mark_is : (v k : ℕ) → v ≡ MARK + k → 0 < k → k < 0x1000_0000 → mark_of v ≡ k
unfolding mark_of is_mark
mark_is v k e p l = rw (lt-ltb MARK v (omega arith), lt-ltb v 0xFFFF_FFFC (omega arith)) (omega arith)

pub mark_none : (v : ℕ) → is_mark v ≡ false → mark_of v ≡ 0
unfolding mark_of
mark_none v e = rw e

pub mark_some : (v : ℕ) → is_mark v ≡ true → (mark_of v ≡ v - MARK) × (MARK < v)
unfolding mark_of is_mark
mark_some v e = (rw e, ltb-true MARK v (both _ _ e).0)

pub unmarked_is : (v : ℕ) → eqb (mark_of v) 0 ≡ not (is_mark v)
unmarked_is v = go (is_mark v) refl
  where
    go : (b : Bool) → is_mark v ≡ b → eqb (mark_of v) 0 ≡ not (is_mark v)
    go true e = let k = mark_some v e in rw e (ne_eqb (mark_of v) 0 (omega (arith, k.0, k.1)))
    go false e = rw (mark_none v e, e)

-- ---- a mark is written over the cell of unit s, which had none

pub record Put (sp : Space) (at : ℕ) (w₀ w : List ℕ) (s k : ℕ) : Type 0 where
  pub free : marks_at at w s ≡ 0
  pub new : marks_at at (set w (at + s) (MARK + k)) s ≡ k
  pub other : (u : ℕ) → u ≢ s → marks_at at (set w (at + s) (MARK + k)) u ≡ marks_at at w u
  pub place : InPlace sp.cell sp.limit at (set w (at + s) (MARK + k))
  pub wrote : Wrote w₀ (set w (at + s) (MARK + k)) at sp.limit

pub put_mark : (sp : Space) {at : ℕ} {w₀ w : List ℕ} (s k : ℕ) → at + sp.limit ≤ length w → InPlace sp.cell sp.limit at w → Wrote w₀ w at sp.limit
    → 0 < k → k < 0x1000_0000 → s < sp.limit → is_mark (get_or w (at + s) 0) ≡ false → Put sp at w₀ w s k
put_mark sp {at} {w = w} s k room place wrote p f l e =
    let v = MARK + k in
    let new : marks_at at (set w (at + s) v) s ≡ k = mark_is _ k (get_or-set_same w (at + s) v 0 (omega arith)) p f in
    let other : (u : ℕ) → u ≢ s → get_or (set w (at + s) v) (at + u) 0 ≡ get_or w (at + u) 0 = λ u d. get_or-set_other w (at + s) (at + u) v 0 (omega arith) in
    record {
      free = mark_none _ e;
      new = new;
      other = λ u d. ap mark_of (other u d);
      place = record {
        stands = λ u i y.
            ⊎_elim
            (λ d. absurd (omega (arith, new, rw d.0 at y)))
            (λ d. other u d.0 ∙ place.stands u i (rw (other u d.0) at y))
            (eqb_cases u s);
      };
      wrote = wrote_set (at + s) v wrote (omega arith) (omega arith);
    }

-- ---- the answers

module _ (cell : ℕ → ℕ) (limit n s : ℕ) (m : ℕ → ℕ) where
  answer_broken : chain cell limit n s ≡ false → None ≡ mark_answer cell limit n s m
  unfolding mark_answer
  answer_broken h = sym (rw h)

  answer_fresh : chain cell limit n s ≡ true → all (unmarked m) (units cell n s) ≡ true → Some false ≡ mark_answer cell limit n s m
  unfolding mark_answer
  answer_fresh h e = sym (rw (h, e))

  answer_shared : chain cell limit n s ≡ true → all (unmarked m) (units cell n s) ≡ false → Some true ≡ mark_answer cell limit n s m
  unfolding mark_answer
  answer_shared h e = sym (rw (h, e))

-- ---- the walk over a chain of n from s₀: it is at s, with k to go, and the buffer w₀ has become w

pub record Walk (sp : Space) (at : ℕ) (w₀ : List ℕ) (n s₀ : ℕ) (w : List ℕ) (s k : ℕ) : Type 0 where
  pub marking : Marking sp.cell sp.limit n s₀ (marks_at at w₀) k s (marks_at at w)
  pub place : InPlace sp.cell sp.limit at w
  pub wrote : Wrote w₀ w at sp.limit

module _ {sp : Space} {at : ℕ} {w₀ : List ℕ} {n s₀ : ℕ} (z : Markable sp at w₀) where
  pub walk_start : Walk sp at w₀ n s₀ w₀ s₀ n
  walk_start = record { marking = marking_start z.closed; place = z.place; wrote = wrote_none w₀ at _ }

  module _ {w : List ℕ} {s k : ℕ} (h : Walk sp at w₀ n s₀ w s k) where
    pub walk_step : 0 < k → k < 0x1000_0000 → s < sp.limit → is_mark (get_or w (at + s) 0) ≡ false
        → Walk sp at w₀ n s₀ (set w (at + s) (MARK + k)) (get_or w (at + s) 0) (k - 1)
    walk_step p f l e =
        let r = put_mark sp s k (omega (arith, z.room, h.wrote.long)) h.place h.wrote p f l e in
        record {
          marking = rw (h.place.stands s l r.free) (marking_step (marks_at at (set w (at + s) (MARK + k))) h.marking p l r.free r.new r.other);
          place = r.place;
          wrote = r.wrote;
        }

    broken : chain sp.cell sp.limit n s₀ ≡ false → ChainWalked sp at n s₀ w₀ w None
    broken e =
        record {
          answer = answer_broken _ _ _ _ _ e;
          chained = λ t. absurd (clash t e);
          stands = λ t. absurd (clash t e);
          wrote = h.wrote;
        }

    pub walk_out : 0 < k → sp.limit ≤ s → ChainWalked sp at n s₀ w₀ w None
    walk_out p l = broken (marking_out h.marking p l)

    walk_clash : s < sp.limit → is_mark (get_or w (at + s) 0) ≡ true → get_or w (at + s) 0 ≢ MARK + k → ChainWalked sp at n s₀ w₀ w None
    walk_clash l e d =
        let m = mark_some (get_or w (at + s) 0) e in
        broken (marking_clash (omega (arith, z.few)) z.closed h.marking l (omega (arith, m.0, m.1)) (λ y. d (omega (arith, m.0, m.1, y))))

    walk_shared : 0 < k → k < 0x1000_0000 → s < sp.limit → get_or w (at + s) 0 ≡ MARK + k → ChainWalked sp at n s₀ w₀ w (Some true)
    walk_shared p f l e =
        let r = marking_met h.marking p l (mark_is _ k e p f) in
        record {
          answer = answer_shared _ _ _ _ _ r.0 r.1;
          chained = λ t. r.2;
          stands = λ t. record { few = z.few; room = omega (arith, z.room, h.wrote.long); place = h.place; closed = r.2.closed };
          wrote = h.wrote;
        }

    -- the unit has a mark: this very one, or another
    pub walk_met : 0 < k → k < 0x1000_0000 → s < sp.limit → is_mark (get_or w (at + s) 0) ≡ true → ChainWalked sp at n s₀ w₀ w (then_some (eqb (get_or w (at + s) 0) (MARK + k)) true)
    walk_met p f l e =
        elim (eqb_cases (get_or w (at + s) 0) (MARK + k)) [ inl a ↦ rw a.1 (walk_shared p f l a.0) | inr a ↦ rw a.1 (walk_clash l e a.0) ]

    -- no unit is left
    pub walk_end : k ≡ 0 → ChainWalked sp at n s₀ w₀ w (then_some (eqb s END) false)
    walk_end y =
        let m = marking_end h.marking y in
        elim (eqb_cases s END) [
          | inl a ↦
              let d = marking_done h.marking y a.0 in
              rw a.1 record {
                answer = answer_fresh _ _ _ _ _ (m ∙ a.1) (marking_fresh h.marking y);
                chained = λ t. d;
                stands = λ t. record { few = z.few; room = omega (arith, z.room, h.wrote.long); place = h.place; closed = d.closed };
                wrote = h.wrote;
              }
          | inr a ↦ rw a.1 (broken (m ∙ a.1))
        ]

  -- a chain of more units than there are is none
  pub too_long : sp.limit < n → ChainWalked sp at n s₀ w₀ w₀ None
  too_long l = broken walk_start (false_of _ (λ e. omega (arith, chain_short sp.cell sp.limit (omega (arith, z.few)) n s₀ e)))

-- ---- the same, whatever space the numbers are of

pub record Walks (at limit : ℕ) (w₀ : List ℕ) (n s₀ : ℕ) (w : List ℕ) (s k : ℕ) : Type 0 where
  pub long : length w ≡ length w₀
  pub few : k ≤ n
  pub along : (sp : Space) → sp.limit ≡ limit → Markable sp at w₀ → Walk sp at w₀ n s₀ w s k

pub walks_start : {at limit : ℕ} {w₀ : List ℕ} {n s₀ : ℕ} → Walks at limit w₀ n s₀ w₀ s₀ n
walks_start = record { long = refl; few = omega arith; along = λ sp e z. walk_start z }

pub walks_step : {at limit : ℕ} {w₀ : List ℕ} {n s₀ : ℕ} {w : List ℕ} {s k : ℕ} → Walks at limit w₀ n s₀ w s k → 0 < k → k < 0x1000_0000 → s < limit
    → is_mark (get_or w (at + s) 0) ≡ false → Walks at limit w₀ n s₀ (set w (at + s) (MARK + k)) (get_or w (at + s) 0) (k - 1)
walks_step {at} {w = w} {s} {k} h p f l e =
    record {
      long = length-set w (at + s) (MARK + k) ∙ h.long;
      few = omega (arith, h.few);
      along = λ sp q z. walk_step z (h.along sp q z) p f (omega (arith, q)) e;
    }
