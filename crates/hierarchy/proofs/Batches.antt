-- The walk with the pairs of names that are noted: q, what was put off, is that each of them rises.
use Prim.Native.Nat.{ℕ, ◌+◌, ◌%◌, ◌<◌}
use mathlib.Core.Path.{◌≡◌, refl, sym, ap, ◌∙◌, subst}
use mathlib.Core.Logic.{inl, inr}
use mathlib.Core.Bool.{Bool, true, false, ◌&&◌, ◌||◌, and-true}
use mathlib.Core.List.{List}
use native.Mathlib.Omega.{arith}
use native.Mathlib.Decide.{dec_lt}
use lib.Dec.{ltb}
use lib.ListN.{length, get_or, set, length-set}
use lib.Seq.{get_or-set_same, get_or-set_other}
use borrow.Author.Tests.{le-ltb}
use Rattle.format.specs.Basics.Bytes.{Bytes}
use Rattle.format.specs.Basics.Lists.{all_below}
use Rattle.format.specs.Layout.Name.{name_less}
use Rattle.format.specs.Rules.Trees.{less, tree_rules}
use Rattle.theory.specs.TreeWalk.{covered}
use Rattle.theory.specs.TreeInorder.{follows}
use Rattle.theory.proofs.Counts.{eqb_cases}
use Rattle.theory.proofs.Loops.{below_none, below_next}
use Rattle.theory.proofs.Tests.{below_ext, neither}
use Rattle.theory.proofs.Trees.Inorder.{inorder_late}
use Rattle.entries.specs.Entry.{name_at}
use Rattle.name_pairs.specs.Pairs.{pair_rises, PairNamed, PairsNamed}
use Rattle.directory.specs.Listed.{entries_of, place_of, DirectoryListed}
use Rattle.directory.specs.declared.Directory.{Directory as Where}
use Rattle.directory.proofs.Places.{count_is, count_short, place_inside, entry_is, named_at}
use Rattle.nodes.specs.Slots.{entry_of}
use Rattle.nodes.specs.Nodes.{marks_of}
use Rattle.nodes.proofs.Slots.{entry_none}
use Rattle.tree_walk.specs.Walking.{Lent, Paired, due_rises, Walking, Gone}
use Rattle.tree_walk.specs.declared.State.{State}
use Rattle.tree_walk.proofs.Siblings.{follows_last}
use Rattle.hierarchy.specs.Walked.{Walked, Noted}

-- ---- one pair more

-- two names that are paired, at their places
module _ {d : Where} {img : Bytes} {w : List ℕ} (l : DirectoryListed d img w) {x y : ℕ} (p : Paired (entries_of d img) x y) where
  placed_pair : PairNamed img (place_of d w x) (place_of d w y)
  placed_pair = record {
    first = named_at l x p.first.inside p.first _ refl;
    second = named_at l y p.second.inside p.second _ refl;
    units = rw (← entry_is l x p.first.inside, ← entry_is l y p.second.inside) p.units;
  }

  placed_less : name_less (name_at img (place_of d w x)) (name_at img (place_of d w y)) ≡ less (entries_of d img) x y
  unfolding less
  placed_less = rw (← entry_is l x p.first.inside, ← entry_is l y p.second.inside)

  -- the second is an entry's
  pub paired_real : {slot : ℕ} → y ≡ entry_of slot → 0 < slot
  paired_real {slot} e =
      elim (dec_lt 0 slot) [
        | yes h ↦ h
        | no h ↦ absurd (omega (arith, e, entry_none slot (omega arith), p.second.inside, count_is l, count_short l))
      ]

-- a place is a number of 32 bits
pub place_low : {d : Where} {img : Bytes} {w : List ℕ} (l : DirectoryListed d img w) (x : ℕ) → x < (entries_of d img).count → place_of d w x < 0x1_0000_0000
place_low l x h = omega (arith, place_inside l x h, l.sized.short)

-- a number noted behind the first k
module _ (xs : List ℕ) (k v : ℕ) (h : k < length xs) where
  noted_same : (i : ℕ) → i < k → get_or (set xs k v) i 0 ≡ get_or xs i 0
  noted_same i l = get_or-set_other xs k i v 0 (omega arith)

  noted_new : get_or (set xs k v) k 0 ≡ v
  noted_new = get_or-set_same xs k v 0 h

module _ (img : Bytes) (low high : List ℕ) (k p q : ℕ) (hl : k < length low) (hh : k < length high) where
  rises_more : all_below (k + 1) (pair_rises img (set low k p) (set high k q)) ≡ (all_below k (pair_rises img low high) && name_less (name_at img p) (name_at img q))
  rises_more =
      below_next (pair_rises img (set low k p) (set high k q)) k
      ∙ rw (below_ext k (pair_rises img low high) (pair_rises img (set low k p) (set high k q)) (λ i l. rw (noted_same low k p hl i l, noted_same high k q hh i l)), noted_new low k p hl, noted_new high k q hh)

  named_more : PairsNamed img low high k → k < 64 → PairNamed img p q → PairsNamed img (set low k p) (set high k q) (k + 1)
  named_more n f x = record {
    few = omega arith;
    pairs = λ i l.
        elim (dec_lt i k) [
          | yes j ↦ rw (noted_same low k p hl i j, noted_same high k q hh i j) (n.pairs i j)
          | no j ↦ let e : i ≡ k = omega arith in rw (e, noted_new low k p hl, noted_new high k q hh) x
        ];
  }

-- ---- the walk

-- k pairs are noted
pub record Batch (d : Where) (img : Bytes) (w low high : List ℕ) (k : ℕ) (s : State) : Type 0 where
  pub on : Walking d img w (all_below k (pair_rises img low high)) s
  pub named : PairsNamed img low high k
  pub lows : length low ≡ 64
  pub highs : length high ≡ 64

pub batch_start : {d : Where} {img : Bytes} {w low high : List ℕ} {s : State} → Walking d img w true s → length low ≡ 64 → length high ≡ 64 → Batch d img w low high 0 s
batch_start {img = img} {low = low} {high} g a b =
    record { on = rw (below_none (pair_rises img low high)) g; named = record { few = omega arith; pairs = λ i l. absurd (omega arith) }; lows = a; highs = b }

-- a turn leads on, and what it puts off is noted
pub batch_turn : {d : Where} {img : Bytes} {w low high : List ℕ} {k : ℕ} {s : State} {v : List ℕ} {t : State} {low' high' : List ℕ} {k' : ℕ} → Batch d img w low high k s → k < 64
    → Gone d img w (all_below k (pair_rises img low high)) s v t → DirectoryListed d img v → Noted d v t.due.0 t.before.0 low low' high high' k k' → Batch d img v low' high' k' t
batch_turn {d} {img} {low = low} {high} {k} {v = v} {t} b f g l n =
    elim (eqb_cases t.due.0 0) [
      | inl z ↦
          let Q = all_below k (pair_rises img low high) in
          let e : (Q && due_rises (entries_of d img) t) ≡ Q = ap (λ (x : ℕ). Q && follows (less (entries_of d img)) x (entry_of t.before.0)) z.0 ∙ and-true Q in
          rw (n.pairs, n.lows, n.highs, z.1)
          (record { on = subst (λ (q : Bool). Walking d img v q t) e g.on; named = b.named; lows = b.lows; highs = b.highs })
      | inr z ↦
          let p = g.due (omega (arith, z.0)) in
          let hl : k < length low = omega (arith, b.lows) in
          let hh : k < length high = omega (arith, b.highs) in
          rw (n.pairs, n.lows, n.highs, z.1)
          (record {
            on = rw (rises_more img low high k _ _ hl hh, placed_less l p, ← follows_last (entries_of d img) t.due.0 (entry_of t.before.0) (omega (arith, z.0))) g.on;
            named = named_more img low high k _ _ hl hh b.named f (placed_pair l p);
            lows = length-set low k _ ∙ b.lows;
            highs = length-set high k _ ∙ b.highs;
          })
    ]

-- there is room for one more, or all rise and none is left to test
pub batch_room : {d : Where} {img : Bytes} {w low high : List ℕ} {k : ℕ} {s : State} → Batch d img w low high k s → (ltb k 64 || all_below k (pair_rises img low high)) ≡ true → Batch d img w low high (k % 64) s
batch_room {img = img} {low = low} {high} {k} b r =
    elim (dec_lt k 64) [
      | yes h ↦ let e : k % 64 ≡ k = omega arith in rw e b
      | no h ↦
          let e : k ≡ 64 = omega (arith, b.named.few) in
          let z : k % 64 ≡ 0 = omega arith in
          let q : all_below k (pair_rises img low high) ≡ true = rw (le-ltb k 64 (omega arith)) at r in
          rw z (batch_start (rw q at b.on) b.lows b.highs)
    ]

module _ {d : Where} {img : Bytes} {w low high : List ℕ} {k : ℕ} {s : State} (b : Batch d img w low high k s) where
  -- one of them does not rise
  falls : all_below k (pair_rises img low high) ≡ false → tree_rules (entries_of d img) ≡ false
  falls r = inorder_late (entries_of d img) (rw r at b.on.inorder)

  pub batch_full : (ltb k 64 || all_below k (pair_rises img low high)) ≡ false → tree_rules (entries_of d img) ≡ false
  batch_full r = falls (neither (ltb k 64) (all_below k (pair_rises img low high)) r).1

  -- the walk is done: what is left is that the pairs rise
  pub batch_end : {v : List ℕ} (r : Bool) → r ≡ all_below k (pair_rises img low high)
      → Lent d img v × (all_below k (pair_rises img low high) ≡ true → covered (entries_of d img) (marks_of (entries_of d img) v) ≡ tree_rules (entries_of d img)) → Walked d img v r
  batch_end true e t = (t.0, t.1 (sym e))
  batch_end false e t = falls (sym e)
