-- What marking a further chain says of the owners, by the walk's answer.
use Prim.Native.Nat.{ℕ, ◌+◌, ◌≤◌, ◌<◌}
use Rattle.std.specs.Prelude.{Option, Some, None}
use native.Mathlib.Omega.{arith}
use mathlib.Core.Path.{◌≡◌, refl, sym, ◌∙◌, ap}
use mathlib.Core.Bool.{Bool, true, false, not, cond, ◌||◌, or-true, or-false, or_assoc}
use mathlib.Core.List.{List, ◌++◌, append_assoc}
use mathlib.Core.Logic.{◌⊎◌, inl, inr, ⊎_elim}
use lib.ListN.{get_or}
use borrow.Author.Tests.{not-true, not-false}
use Rattle.format.specs.Basics.Lists.{all}
use Rattle.format.specs.Layout.Chain.{END, chain, units}
use Rattle.theory.specs.Marks.{unmarked, Closed, Owning, mark_of, marks_at}
use Rattle.format.specs.Layout.Space.{Space}
use Rattle.tables.specs.Work.{Wrote}
use Rattle.tables.proofs.WorkLaws.{wrote_two}
use Rattle.theory.proofs.Tests.{clash}
use Rattle.theory.proofs.OwnerMarks.{owning_fresh, owning_shared, owning_same}
use Rattle.chains.specs.Answers.{mark_answer, is_broken, is_shared, Markable, ChainWalked, ChainsMarked}

broken_by : (a b : Bool) → is_broken (cond a (cond b (Some false) (Some true)) None) ≡ not a
broken_by true true = refl
broken_by true false = refl
broken_by false b = refl

shared_by : (b : Bool) → is_shared (cond b (Some false) (Some true)) ≡ not b
shared_by true = refl
shared_by false = refl

module _ {sp : Space} {at n s : ℕ} {w w' : List ℕ} {a : Option Bool} (r : ChainWalked sp at n s w w' a) where
  abbrev right : Bool
  right = chain sp.cell sp.limit n s

  abbrev none : Bool
  none = all (unmarked (marks_at at w)) (units sp.cell n s)

  broken_is : is_broken a ≡ not right
  unfolding mark_answer
  broken_is = ap is_broken r.answer ∙ broken_by right none

  shared_is : right ≡ true → is_shared a ≡ not none
  unfolding mark_answer
  shared_is h = ap is_shared r.answer ∙ rw h (shared_by none)

  -- the chain's units are owned too, and a unit is shared now if one was before or the answer says so
  owning_marked : sp.limit ≤ END → right ≡ true → (owned : List ℕ) (shared : Bool) → Owning sp.cell sp.limit owned (marks_at at w) shared
      → Owning sp.cell sp.limit (owned ++ units sp.cell n s) (marks_at at w') (shared || is_shared a)
  owning_marked b h owned shared o = go none refl
    where
      go : (f : Bool) → none ≡ f → Owning sp.cell sp.limit (owned ++ units sp.cell n s) (marks_at at w') (shared || is_shared a)
      go true f = rw (shared_is h, f, or-false) (owning_fresh b o h (r.chained h) f)
      go false f = rw (shared_is h, f, or-true) (owning_shared b o h (r.chained h) f)

-- ---- chains, one after the other

-- a walk along one chain
pub marked_chain : {sp : Space} {at : ℕ} (n s : ℕ) {w w' : List ℕ} {a : Option Bool} → Markable sp at w → ChainWalked sp at n s w w' a
    → ChainsMarked sp at (chain sp.cell sp.limit n s) (units sp.cell n s) w w' a
marked_chain n s z r = record { answer = broken_is r; stands = r.stands; owners = λ h. owning_marked r (omega (arith, z.few)) h; wrote = r.wrote }

-- walks along chains that are all right, and then others: a unit is shared if either says so
pub marked_both : {sp : Space} {at : ℕ} {r : Bool} {own₁ own₂ w w₁ w₂ : List ℕ} {a b : Bool} → ChainsMarked sp at true own₁ w w₁ (Some a) → ChainsMarked sp at r own₂ w₁ w₂ (Some b)
    → ChainsMarked sp at r (own₁ ++ own₂) w w₂ (Some (a || b))
marked_both {own₁ = own₁} {own₂} {a = a} {b} p q =
    record {
      answer = q.answer;
      stands = q.stands;
      owners = λ h owned shared o. rw (← or_assoc shared a b, ← append_assoc owned own₁ own₂) (q.owners h (owned ++ own₁) (shared || a) (p.owners refl owned shared o));
      wrote = wrote_two p.wrote q.wrote;
    }

-- what the answer says of the chains
module _ {sp : Space} {at : ℕ} {right : Bool} {own w w' : List ℕ} where
  pub is_wrong : ChainsMarked sp at right own w w' None → right ≡ false
  is_wrong m = not-true right (sym m.answer)

  pub is_right : {a : Bool} → ChainsMarked sp at right own w w' (Some a) → right ≡ true
  is_right m = not-false right (sym m.answer)

-- a walk that found a chain broken
pub marked_broken : {sp : Space} {at : ℕ} {right : Bool} (own : List ℕ) {w w' : List ℕ} → right ≡ false → Wrote w w' at sp.limit → ChainsMarked sp at right own w w' None
marked_broken own h r = record { answer = sym (rw h); stands = λ e. absurd (clash e h); owners = λ e. absurd (clash e h); wrote = r }

-- ---- elsewhere

closed_same : {cell : ℕ → ℕ} {limit : ℕ} {m m' : ℕ → ℕ} → ((u : ℕ) → u < limit → m' u ≡ m u) → Closed cell limit m → Closed cell limit m'
closed_same {cell} e c =
    record {
      at = λ u l h.
          ⊎_elim (λ x. inl (e u l ∙ x.0, x.1)) (λ x. inr (x.0, omega (arith, e u l, e (cell u) x.0, x.1), omega (arith, e (cell u) x.0, x.2)))
          (c.at u l (omega (arith, e u l)));
    }

-- marks stay where another part is written
module _ (sp : Space) (at : ℕ) {w w' : List ℕ} {a n : ℕ} (r : Wrote w w' a n) (d : (a + n ≤ at) ⊎ (at + sp.limit ≤ a)) where
  number_kept : (u : ℕ) → u < sp.limit → get_or w' (at + u) 0 ≡ get_or w (at + u) 0
  number_kept u l = r.outside _ (⊎_elim (λ q. inr (omega arith)) (λ q. inl (omega arith)) d)

  pub owning_kept : {owned : List ℕ} {shared : Bool} → Owning sp.cell sp.limit owned (marks_at at w) shared → Owning sp.cell sp.limit owned (marks_at at w') shared
  owning_kept o = owning_same (λ u l. ap mark_of (number_kept u l)) o

  pub markable_kept : Markable sp at w → Markable sp at w'
  markable_kept z =
      record {
        few = z.few;
        room = omega (arith, z.room, r.long);
        place = record { stands = λ u l e. number_kept u l ∙ z.place.stands u l (rw (number_kept u l) at e) };
        closed = closed_same (λ u l. ap mark_of (number_kept u l)) z.closed;
      }
