-- The marks of all chains together, and what they say of group 18: over any space of units.
use mathlib.Core.Path.{◌≡◌, refl, sym, ap, ◌∙◌}
use mathlib.Core.Logic.{inl, inr, ⊎_elim}
use mathlib.Core.Bool.{Bool, true, false, not, ◌&&◌, ◌||◌, or-true, or-false}
use mathlib.Core.List.{List, [], ◌∷◌, ◌++◌}
use Prim.Native.Nat.{ℕ, zero, suc, ◌+◌, ◌≤◌, ◌<◌}
use native.Mathlib.Omega.{arith}
use native.Mathlib.Decide.{dec_lt}
use lib.Dec.{eqb, ltb}
use borrow.Author.Tests.{lt-ltb, le-ltb, ltb-true, ltb-false, eqb-true, eqb-false}
use Rattle.format.specs.Basics.Lists.{all, all_below, count, member}
use Rattle.format.specs.Layout.Chain.{END, FREE, chain, units, is_free}
use Rattle.format.specs.Layout.Space.{Space}
use Rattle.format.specs.Rules.Owners.{owner_rule, owner_right, owners_in}
use Rattle.theory.specs.Marks.{unmarked, ChainMarked, Owning, covered}
use Rattle.theory.proofs.Counts.{bit_self, count_append}
use Rattle.theory.proofs.Tests.{clash, all_at, below_ext}
use Rattle.theory.proofs.Loops.{below_not}
use Rattle.theory.proofs.Chains.{chain_linked, linked_below, linked_once}
use Rattle.theory.proofs.Marks.{closed_none}

-- ---- one chain after the other

-- a test that does not hold everywhere fails somewhere
all_not : (p : ℕ → Bool) (xs : List ℕ) → all p xs ≡ false → (u : ℕ) × (0 < count u xs) × (p u ≡ false)
unfolding all
all_not p [] h = absurd (clash refl h)
all_not p (x ∷ xs) h = go (p x) refl (all_not p xs)
  where
    go : (b : Bool) → p x ≡ b → (all p xs ≡ false → (u : ℕ) × (0 < count u xs) × (p u ≡ false)) → (u : ℕ) × (0 < count u (x ∷ xs)) × (p u ≡ false)
    go false e later = (x, omega (arith, bit_self x), e)
    go true e later = let r = later (rw e at h) in (r.0, omega (arith, r.1), r.2)

pub member_of : (u : ℕ) (xs : List ℕ) → 0 < count u xs → member u xs ≡ true
unfolding member
member_of u xs h = lt-ltb 0 (count u xs) h

member_not : (u : ℕ) (xs : List ℕ) → count u xs ≤ 0 → member u xs ≡ false
unfolding member
member_not u xs h = le-ltb 0 (count u xs) h

pub member_append : (u : ℕ) (xs ys : List ℕ) → member u (xs ++ ys) ≡ (member u xs || member u ys)
member_append u xs ys =
    elim (dec_lt 0 (count u xs)) [
      | yes p ↦ rw (member_of u xs p) (member_of u (xs ++ ys) (omega (arith, count_append u xs ys)))
      | no p ↦
          elim (dec_lt 0 (count u ys)) [
            | yes q ↦ rw (member_of u ys q, or-true) (member_of u (xs ++ ys) (omega (arith, count_append u xs ys)))
            | no q ↦ rw (member_not u xs (omega arith), member_not u ys (omega arith)) (member_not u (xs ++ ys) (omega (arith, count_append u xs ys)))
          ]
    ]

has_mark : (m : ℕ → ℕ) (u : ℕ) → unmarked m u ≡ false → ltb 0 (m u) ≡ true
unfolding unmarked
has_mark m u h = lt-ltb 0 (m u) (omega (arith, eqb-false (m u) 0 h))

no_mark : (m : ℕ → ℕ) (u : ℕ) → unmarked m u ≡ true → ltb 0 (m u) ≡ false
unfolding unmarked
no_mark m u h = le-ltb 0 (m u) (omega (arith, eqb-true (m u) 0 h))

module _ {cell : ℕ → ℕ} {limit : ℕ} where
  pub owning_none : {m : ℕ → ℕ} → ((u : ℕ) → u < limit → m u ≡ 0) → Owning cell limit [] m false
  unfolding member
  owning_none {m} z =
      record {
        closed = closed_none z;
        marked = λ u l. le-ltb 0 (m u) (omega (arith, z u l));
        single = λ e u l. omega arith;
        double = λ e. absurd (clash e refl);
      }

  -- the same marks, wherever they stand
  pub owning_same : {owned : List ℕ} {m m' : ℕ → ℕ} {shared : Bool} → ((u : ℕ) → u < limit → m' u ≡ m u) → Owning cell limit owned m shared → Owning cell limit owned m' shared
  owning_same {m = m} {m'} e o =
      record {
        closed = record {
          at = λ u l h.
              ⊎_elim (λ c. inl (e u l ∙ c.0, c.1)) (λ c. inr (c.0, omega (arith, e u l, e (cell u) c.0, c.1), omega (arith, e (cell u) c.0, c.2)))
              (o.closed.at u l (omega (arith, e u l)));
        };
        marked = λ u l. ap (ltb 0) (e u l) ∙ o.marked u l;
        single = o.single;
        double = o.double;
      }

  -- a further chain: it shares a unit if one of its own had a mark
  module _ {owned : List ℕ} {m m' : ℕ → ℕ} {shared : Bool} {n s : ℕ} (b : limit ≤ END) (o : Owning cell limit owned m shared)
      (h : chain cell limit n s ≡ true) (c : ChainMarked cell limit n s m m') where
    abbrev us : List ℕ
    us = units cell n s

    inside : (u : ℕ) → 0 < count u us → u < limit
    inside = linked_below cell limit us (chain_linked cell limit n s h).0

    once : (u : ℕ) → count u us ≤ 1
    once = linked_once cell limit b us (chain_linked cell limit n s h).0

    owned_none : (u : ℕ) → u < limit → ltb 0 (m u) ≡ false → count u owned ≤ 0
    unfolding member
    owned_none u l e = ltb-false 0 (count u owned) (sym (o.marked u l) ∙ e)

    owned_some : (u : ℕ) → u < limit → ltb 0 (m u) ≡ true → 0 < count u owned
    unfolding member
    owned_some u l e = ltb-true 0 (count u owned) (sym (o.marked u l) ∙ e)

    pub owning_fresh : all (unmarked m) (units cell n s) ≡ true → Owning cell limit (owned ++ units cell n s) m' shared
    owning_fresh f =
        record {
          closed = c.closed;
          marked = λ u l. c.marked u l ∙ rw (o.marked u l) (sym (member_append u owned us));
          single = λ e u l.
              elim (dec_lt 0 (count u us)) [
                | yes p ↦ omega (arith, count_append u owned us, once u, owned_none u l (no_mark m u (all_at (unmarked m) us f u p)))
                | no p ↦ omega (arith, count_append u owned us, o.single e u l)
              ];
          double = λ e. let r = o.double e in (r.0, r.1, omega (arith, count_append r.0 owned us, r.2));
        }

    pub owning_shared : all (unmarked m) (units cell n s) ≡ false → Owning cell limit (owned ++ units cell n s) m' true
    owning_shared f =
        record {
          closed = c.closed;
          marked = λ u l. c.marked u l ∙ rw (o.marked u l) (sym (member_append u owned us));
          single = λ e. absurd (clash refl e);
          double = λ e.
              let r = all_not (unmarked m) us f in
              (r.0, inside r.0 r.1, omega (arith, count_append r.0 owned us, r.1, owned_some r.0 (inside r.0 r.1) (has_mark m r.0 r.2)));
        }

-- ---- group 18 by the marks

rule_none : (n c : ℕ) → n ≡ 0 → owner_rule n c ≡ eqb c FREE
unfolding owner_rule
rule_none n c e = rw e

rule_one : (n c : ℕ) → n ≡ 1 → owner_rule n c ≡ true
unfolding owner_rule
rule_one n c e = rw e

rule_more : (n c : ℕ) → 1 < n → owner_rule n c ≡ false
unfolding owner_rule
rule_more zero c h = absurd (omega arith)
rule_more (suc zero) c h = absurd (omega arith)
rule_more (suc (suc n)) c h = refl

module _ (sp : Space) {m : ℕ → ℕ} {shared : Bool} (owned others all : List ℕ) (o : Owning sp.cell sp.limit owned m shared)
    (sum : (u : ℕ) → count u all ≡ count u others + count u owned)
    (apart : (u : ℕ) → u < sp.limit → 0 < count u others → (count u others ≡ 1) × (count u owned ≡ 0)) where
  one : (u : ℕ) → u < sp.limit → shared ≡ false → owner_right sp all u ≡ covered sp.cell m others u
  unfolding owner_right member covered
  one u l e =
      elim (dec_lt 0 (count u others)) [
        | yes p ↦
            let a = apart u l p in
            rule_one (count u all) (sp.cell u) (omega (arith, sum u)) ∙ sym (rw (lt-ltb 0 (count u others) p, or-true, or-true))
        | no p ↦
            elim (dec_lt 0 (count u owned)) [
              | yes q ↦
                  rule_one (count u all) (sp.cell u) (omega (arith, sum u, o.single e u l))
                  ∙ sym (rw (o.marked u l, lt-ltb 0 (count u owned) q))
              | no q ↦
                  rule_none (count u all) (sp.cell u) (omega (arith, sum u))
                  ∙ sym (rw (o.marked u l, le-ltb 0 (count u owned) (omega arith), le-ltb 0 (count u others) (omega arith)) (or-false (is_free sp.cell u)))
            ]
      ]

  -- group 18 holds in a space where no unit is shared and each is covered
  pub owners_by_marks : owners_in sp all ≡ (not shared && all_below sp.limit (covered sp.cell m others))
  unfolding owners_in owner_right
  owners_by_marks = go shared refl
    where
      go : (b : Bool) → shared ≡ b → owners_in sp all ≡ (not shared && all_below sp.limit (covered sp.cell m others))
      go false e = rw e (below_ext sp.limit (covered sp.cell m others) (owner_right sp all) (λ u l. one u l e))
      go true e =
          let r = o.double e in
          rw e (below_not (owner_right sp all) sp.limit r.0 r.1 (rule_more (count r.0 all) (sp.cell r.0) (omega (arith, sum r.0, r.2))))
