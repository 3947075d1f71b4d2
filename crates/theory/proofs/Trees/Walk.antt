-- The walk over the trees: its start, a turn that marks an entry or skips, a turn that finds the shape wrong, and its end.
use mathlib.Core.Path.{◌≡◌, refl, sym, ap, ◌∙◌}
use mathlib.Core.Logic.{◌≢◌, inl, inr}
use mathlib.Core.Bool.{Bool, true, false, not, ◌&&◌, ◌||◌, and-true, not-eq-not}
use mathlib.Core.List.{List, [], ◌∷◌}
use Prim.Native.Nat.{ℕ, ◌+◌, ◌≤◌, ◌<◌}
use native.Mathlib.Omega.{arith}
use native.Mathlib.Decide.{ℕ_discrete}
use borrow.Author.Tests.{eq-eqb}
use lib.Dec.{eqb}
use lib.ListN.{length, get_or, set, length-set}
use lib.Seq.{get_or-set_same, get_or-set_other}
use Rattle.format.specs.Basics.Lists.{bit, count, all}
use Rattle.format.specs.Layout.Entry.{NOSTREAM}
use Rattle.format.specs.Layout.Directory.{Directory}
use Rattle.format.specs.Layout.Tree.{Forest, named, forest, entries}
use Rattle.format.specs.Rules.Trees.{sound, is_object, reached_right, reached_once}
use Rattle.theory.specs.TreeViews.{rows, left_of, right_of, child_of, at, sound_at, whole, shape_ok}
use Rattle.theory.specs.TreeWalk.{mark, fresh, marked, covered, total, Walk}
use Rattle.theory.proofs.Counts.{eqb_cases, bit_self}
use Rattle.theory.proofs.Tests.{clash, both, and_true_of, below_at, below_of}
use Rattle.theory.proofs.Trees.Lists.{same_test}
use Rattle.theory.proofs.Trees.Grow.{grow_none, Unrolled, unroll, count_node}
use Rattle.theory.proofs.Trees.Depth.{named_inside, sound_node}
use Rattle.theory.proofs.Trees.Nodes.{shape_sound, shape_count}
use Rattle.theory.proofs.Trees.Marks.{zeros_set, zeros_all, fresh_apart}

-- the start: nothing is marked
pub walk_start : (d : Directory) (m : List ℕ) → length m ≡ rows d → ((x : ℕ) → get_or m x 0 ≡ 0) → Walk d 0 (child_of d 0 ∷ []) m
unfolding all
walk_start d m l h = record {
  shape = sym (and-true (sound (whole d)));
  counts = λ s x. let q : mark m x ≡ 0 = rw (h x) in omega arith;
  object = λ x p. absurd (p (h x));
  free = omega (arith, zeros_all m h);
  long = l;
}

-- ---- one turn

module _ (d : Directory) (k : ℕ) (i : ℕ) (is m : List ℕ) (w : Walk d k (i ∷ is) m) where
  pub walk_skip : i ≡ NOSTREAM → Walk d k is m
  unfolding sound entries all
  walk_skip e = record {
    shape = w.shape ∙ rw (grow_none d (rows d) i e);
    counts = λ s x. w.counts s x ∙ rw (grow_none d (rows d) i e) (omega arith);
    object = w.object;
    free = w.free;
    long = w.long;
  }

  module _ (h : i ≢ NOSTREAM) where
    -- what is known of i if the whole is sound
    top_unrolled : sound (whole d) ≡ true → Unrolled d (rows d) (rows d) i
    unfolding all
    top_unrolled s = unroll d (rows d) i (both (sound_at d i) (all (sound_at d) is) (sym w.shape ∙ s)).0 h

    top_counts : sound (whole d) ≡ true → (x : ℕ)
        → count x (entries (whole d))
        ≡ mark m x + ((bit (eqb x i) + (count x (entries (at d (left_of d i))) + (count x (entries (at d (child_of d i))) + count x (entries (at d (right_of d i)))))) + total d x is)
    top_counts s x =
        w.counts s x
        ∙ ap (λ (t : Forest). mark m x + (count x (entries t) + total d x is)) (top_unrolled s).tree
        ∙ ap (λ (n : ℕ). mark m x + (n + total d x is)) (count_node x (at d (left_of d i)) i (at d (child_of d i)) (at d (right_of d i)))

    -- a number that is not fresh stands in no tree of the right shape
    pub walk_wrong : fresh d m i ≡ false → shape_ok d ≡ false
    unfolding fresh
    walk_wrong e =
        (not-eq-not {b = false}).0 (λ ok.
        let s = shape_sound d ok in
        let n = (top_unrolled s).name in
        let c = top_counts s i in
        let r = shape_count d ok i (named_inside d i n) in
        let q = bit_self i in
        clash (and_true_of (named d i) (is_object d i && eqb (get_or m i 0) 0) n (go (is_object d i) (eqb (get_or m i 0) 0) (omega arith))) e)
      where
        go : (a b : Bool) → bit (not b) + 1 ≤ bit a → (a && b) ≡ true
        go true true h = refl
        go true false h = absurd (omega arith)
        go false true h = absurd (omega arith)
        go false false h = absurd (omega arith)

    pub walk_mark : fresh d m i ≡ true → Walk d (k + 1) (right_of d i ∷ (child_of d i ∷ (left_of d i ∷ is))) (set m i 1)
    unfolding all
    walk_mark f = record {
      shape = w.shape
          ∙ ap (λ (a : Bool). a && all (sound_at d) is) (sound_node d i h n)
          ∙ turn (sound_at d (left_of d i)) (sound_at d (child_of d i)) (sound_at d (right_of d i)) (all (sound_at d) is);
      counts = λ s x. moved x (top_counts s x);
      object = λ x p.
          elim (ℕ_discrete x i) [
            | yes e ↦ rw e (fresh_apart d m i f).1
            | no e ↦ w.object x (λ z. p (get_or-set_other m i x 1 0 e ∙ z))
          ];
      free = omega (arith, zeros_set m i inside zero_at_lem, w.free);
      long = simp length-set w.long;
    }
      where
        n : named d i ≡ true
        n = (fresh_apart d m i f).0

        zero_at_lem : get_or m i 0 ≡ 0
        zero_at_lem = (fresh_apart d m i f).2

        inside : i < length m
        inside = rw w.long (named_inside d i n)

        turn : (l b r a : Bool) → ((l && (b && r)) && a) ≡ (r && (b && (l && a)))
        turn true true true a = refl
        turn true true false a = refl
        turn true false true a = refl
        turn true false false a = refl
        turn false true true a = refl
        turn false true false a = refl
        turn false false true a = refl
        turn false false false a = refl

        moved : (x : ℕ)
            → count x (entries (whole d))
            ≡ mark m x + ((bit (eqb x i) + (count x (entries (at d (left_of d i))) + (count x (entries (at d (child_of d i))) + count x (entries (at d (right_of d i)))))) + total d x is)
            → count x (entries (whole d)) ≡ mark (set m i 1) x + total d x (right_of d i ∷ (child_of d i ∷ (left_of d i ∷ is)))
        moved x c =
            elim (eqb_cases x i) [
              | inl e ↦
                  let a : mark m x ≡ 0 = rw (e.0, zero_at_lem) in
                  let b : mark (set m i 1) x ≡ 1 = rw (e.0, get_or-set_same m i 1 0 inside) in
                  let q = ap bit e.1 in
                  omega arith
              | inr e ↦
                  let a : mark (set m i 1) x ≡ mark m x = rw (get_or-set_other m i x 1 0 e.0) in
                  let q = ap bit e.1 in
                  omega arith
            ]

-- ---- the end: nothing is left to follow

module _ (d : Directory) (k : ℕ) (m : List ℕ) (w : Walk d k [] m) where
  -- the whole is sound, and an entry stands in it as often as it is marked
  pub end_sound : sound (whole d) ≡ true
  unfolding all
  end_sound = w.shape

  -- the shape is right exactly if every object is marked
  pub walk_end : covered d m ≡ shape_ok d
  unfolding covered shape_ok reached_once reached_right forest marked
  walk_end =
      same_test (covered d m) (shape_ok d)
      (λ t.
      and_true_of (sound (whole d)) (reached_once d) end_sound
      (below_of (rows d) (reached_right d) (λ x l.
      let c = w.counts end_sound x in
      let q = to (is_object d x) (eqb (get_or m x 0) 0) (below_at (rows d) (marked d m) t x l) (only x) in
      eq-eqb (count x (entries (whole d))) (bit (is_object d x)) (omega arith))))
      (λ ok.
      below_of (rows d) (marked d m) (λ x l.
      let c = w.counts end_sound x in
      let r = shape_count d ok x l in
      of (is_object d x) (eqb (get_or m x 0) 0) (omega arith)))
    where
      only : (x : ℕ) → eqb (get_or m x 0) 0 ≡ false → is_object d x ≡ true
      only x e = w.object x (λ z. clash (eq-eqb (get_or m x 0) 0 z) e)

      to : (a z : Bool) → (not a || not z) ≡ true → (z ≡ false → a ≡ true) → bit (not z) ≡ bit a
      to true true t h = absurd (clash t refl)
      to true false t h = refl
      to false true t h = refl
      to false false t h = absurd (clash (h refl) refl)

      of : (a z : Bool) → bit (not z) ≡ bit a → (not a || not z) ≡ true
      of true true e = absurd (omega arith)
      of true false e = refl
      of false z e = refl
