-- The loop over all entries that marks the chains of the streams, block by block.
use Prim.Native.Nat.{ℕ, ◌+◌, ◌-◌, ◌≤◌}
use Rattle.std.specs.Prelude.{Some, None}
use mathlib.Core.Path.{◌≡◌, refl, sym, ap, ◌∙◌, subst}
use mathlib.Core.Bool.{Bool, true, false, ◌||◌}
use mathlib.Core.List.{List, ◌++◌}
use native.Mathlib.Omega.{arith}
use borrow.Author.Tests.{not-true, not-false}
use Rattle.format.specs.Basics.Bytes.{Bytes}
use Rattle.format.specs.Basics.Lists.{all_below, join_below}
use Rattle.format.specs.Layout.Volume.{Volume}
use Rattle.format.specs.Rules.Streams.{stream_right, stream_rules}
use Rattle.format.specs.Rules.Owners.{own_sectors, own_minis, owned_minis}
use Rattle.theory.proofs.Loops.{below_none, below_join}
use Rattle.tables.specs.Views.{volume_of}
use Rattle.tables.specs.declared.Tables.{Tables}
use Rattle.tables.proofs.WorkLaws.{wrote_two}
use Rattle.directory.specs.declared.Directory.{Directory}
use Rattle.stream_chains.specs.Asked.{right_from, sectors_from, minis_from}
use Rattle.stream_chains.proofs.Joins.{join_none, join_add, below_longer}
use Rattle.minis.specs.declared.Minis.{Minis}
use Rattle.owners.specs.Streams.{StreamsMarkable, BothMarked, BlockMarked, StreamsMarked}
use Rattle.owners.proofs.Both.{both_none, both_then, both_broken}

module _ (t : Tables) (m : Minis) (d : Directory) (img : Bytes) where
  abbrev v : Volume
  v = volume_of t.geometry img

  -- the first i entries are right and have been marked; `a` says whether a unit had a mark
  pub record Marking (i : ℕ) (w₀ w : List ℕ) (a : Bool) : Type 0 where
    pub within : i ≤ v.directory.count
    pub rights : all_below i (stream_right v) ≡ true
    pub marked : BothMarked t m d img true (join_below i (own_sectors v)) (join_below i (own_minis v)) w₀ w (Some a)

module _ {t : Tables} {m : Minis} {d : Directory} {img : Bytes} where
  pub marking_start : {w : List ℕ} → StreamsMarkable t m d img w → Marking t m d img 0 w w false
  marking_start z = record { within = omega arith; rights = below_none _; marked = rw (join_none (own_sectors (v t m d img)), join_none (own_minis (v t m d img))) (both_none z) }

  module _ {i : ℕ} {w₀ w : List ℕ} {a : Bool} (h : Marking t m d img i w₀ w a) where
    -- the entries from i up to e
    module _ {e : ℕ} (o : i ≤ e) (l : e ≤ (v t m d img).directory.count) where
      ends : i + (e - i) ≡ e
      ends = omega arith

      right_to : {u : Bool} → all_below (e - i) (right_from (v t m d img) i) ≡ u → all_below e (stream_right (v t m d img)) ≡ u
      right_to q = rw (← ends) (sym (below_join (stream_right (v t m d img)) (right_from (v t m d img) i) i (e - i) (sym h.rights) (sym q) (λ j s. refl)))

      sectors_to : join_below i (own_sectors (v t m d img)) ++ join_below (e - i) (sectors_from (v t m d img) i) ≡ join_below e (own_sectors (v t m d img))
      sectors_to = sym (join_add (own_sectors (v t m d img)) i (e - i)) ∙ ap (λ n. join_below n (own_sectors (v t m d img))) ends

      minis_to : join_below i (own_minis (v t m d img)) ++ join_below (e - i) (minis_from (v t m d img) i) ≡ join_below e (own_minis (v t m d img))
      minis_to = sym (join_add (own_minis (v t m d img)) i (e - i)) ∙ ap (λ n. join_below n (own_minis (v t m d img))) ends

      pub marking_step : {w' : List ℕ} {b : Bool} → BlockMarked t m d img i (e - i) w w' (Some b) → Marking t m d img e w₀ w' (a || b)
      marking_step k =
          let x = not-false _ (sym k.answer) in
          record {
            within = l;
            rights = right_to x;
            marked = rw (← sectors_to, ← minis_to) (both_then h.marked (rw x at k));
          }

      pub marking_broken : {w' : List ℕ} → BlockMarked t m d img i (e - i) w w' None → StreamsMarked t m d img w₀ w' None
      unfolding stream_rules
      marking_broken k =
          let x = below_longer (stream_right (v t m d img)) e _ l (right_to (not-true _ (sym k.answer))) in
          both_broken _ _ x (wrote_two h.marked.wrote k.wrote)

    pub marking_end : (v t m d img).directory.count ≤ i → StreamsMarked t m d img w₀ w (Some a)
    unfolding stream_rules owned_minis
    marking_end l =
        let e : i ≡ (v t m d img).directory.count = omega (arith, h.within) in
        subst (λ k. BothMarked t m d img (all_below k (stream_right (v t m d img))) (join_below k (own_sectors (v t m d img))) (join_below k (own_minis (v t m d img))) w₀ w (Some a)) e (rw h.rights h.marked)
