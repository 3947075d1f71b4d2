-- An edit of one chain: the owners stay in order, the chain has the new content, and the other chains have theirs.
use mathlib.Core.Path.{◌≡◌, refl, sym, ◌∙◌}
use mathlib.Core.Logic.{◌≢◌}
use mathlib.Core.Bool.{Bool, true, false, cond}
use mathlib.Core.List.{List, [], ◌++◌}
use Prim.Native.Nat.{ℕ, ◌*◌, ◌≤◌, ◌<◌}
use native.Mathlib.Omega.{arith}
use native.Mathlib.Decide.{dec_lt}
use lib.Dec.{ltb}
use lib.ListN.{length, take, get_or}
use lib.Seq.{take-append-le, take-take, length-take-le}
use borrow.Author.Tests.{ltb-true, ltb-false}
use Rattle.format.specs.Basics.Lists.{count, fit}
use Rattle.format.specs.Layout.Chain.{END}
use Rattle.format.specs.Layout.Space.{laid}
use Rattle.theory.specs.Owned.{MayBecome}
use Rattle.theory.specs.Blocks.{scatter, Table, Kept, Edited, target, zero_behind}
use Rattle.theory.proofs.OwnerCounts.{owners_at, owners_two}
use Rattle.theory.proofs.Chains.{linked_below, linked_not_free}
use Rattle.theory.proofs.Contents.{laid_agree, laid_length, laid_take, laid_scatter, scatter_out}
use Rattle.theory.proofs.Fits.{length_fit, fit_cut, take_fit}
use Rattle.theory.proofs.Owned.{untouched, came_free}

module _ (N B : ℕ) (lim : N ≤ END) (sys : List ℕ) (t : Table) (L : List (List ℕ)) (o : Kept N B sys t L) where
  -- the units of a chain have a block's length
  pub blocks_full : (i : ℕ) → i < length L → (s : ℕ) → 0 < count s (get_or L i []) → length (t.blocks s) ≡ B
  blocks_full i h s q = o.sized s (linked_below t.cells N (get_or L i []) (o.owned.chains i h) s q)

  module _ (i : ℕ) (hi : i < length L) (ws : List ℕ) (k : MayBecome N t.cells (get_or L i []) ws) where
    -- the new units are not the system's
    not_system : (s : ℕ) → 0 < count s ws → count s sys ≡ 0
    not_system s p =
        let a = o.owned.single s in
        let b = owners_at s i L in
        elim (dec_lt 0 (count s (get_or L i []))) [
          | yes y ↦ omega arith
          | no q ↦ omega (arith, came_free N lim sys t.cells L o.owned i hi ws k s p (omega arith))
        ]

    module _ (c : List ℕ) (e : length c ≡ length ws * B) (t' : Table) (x : Edited N B sys t (get_or L i []) ws c t') where
      pub edited_content : laid t'.blocks ws ≡ c
      edited_content =
          laid_agree (scatter B ws c t.blocks) t'.blocks ws (λ s q. x.blocks s (k.from s q).0 (not_system s q))
          ∙ laid_scatter B t.blocks ws c k.diff e

      pub edited_others : (j : ℕ) → j < length L → j ≢ i → laid t'.blocks (get_or L j []) ≡ laid t.blocks (get_or L j [])
      edited_others j h z =
          laid_agree t.blocks t'.blocks (get_or L j [])
          (λ s q.
          let l = o.owned.chains j h in
          let a = owners_two s j i L z in
          let b = o.owned.single s in
          x.blocks s (linked_below t.cells N (get_or L j []) l s q) (omega arith)
          ∙ scatter_out B t.blocks ws c s
          (untouched N lim sys t.cells L o.owned i hi ws k s (linked_not_free t.cells N lim (get_or L j []) l s q) (omega arith)))

-- a change of length, by the content
module _ (B : ℕ) (d : ℕ → List ℕ) (us fr : List ℕ) (h : (s : ℕ) → 0 < count s us → length (d s) ≡ B) (a b m : ℕ) (ha : a ≤ length us * B) (hb : b ≤ m * B) where
  pub target_length : ((s : ℕ) → 0 < count s (take m (us ++ fr)) → length (d s) ≡ B) → length (target B d us (take m (us ++ fr)) a b) ≡ length (take m (us ++ fr)) * B
  unfolding target zero_behind
  target_length g = go (ltb a b)
    where
      go : (t : Bool) → length (cond t (zero_behind (length (take m (us ++ fr)) * B) a (laid d us)) (laid d (take m (us ++ fr)))) ≡ length (take m (us ++ fr)) * B
      go true = length_fit _ _
      go false = laid_length B d (take m (us ++ fr)) g

  -- the first b of the new content are the first a of the old, cut or with zeros added
  pub target_is : length (take m (us ++ fr)) ≡ m → (b ≤ a → m ≤ length us) → take b (target B d us (take m (us ++ fr)) a b) ≡ fit b (take a (laid d us))
  unfolding target zero_behind
  target_is l s = go (ltb a b) refl
    where
      n : length (take a (laid d us)) ≡ a
      n = length-take-le a (laid d us) (rw (laid_length B d us h) ha)

      go : (t : Bool) → ltb a b ≡ t → take b (cond t (zero_behind (length (take m (us ++ fr)) * B) a (laid d us)) (laid d (take m (us ++ fr)))) ≡ fit b (take a (laid d us))
      go true e =
          let p = ltb-true a b e in
          rw l (take_fit b (m * B) (take a (laid d us)) (omega (arith, n)) hb)
      go false e =
          let p = ltb-false a b e in
          rw (take-append-le m us fr (s p), laid_take B d us h m (s p), take-take b (m * B) (laid d us) hb)
          (sym (fit_cut b (take a (laid d us)) (omega (arith, n)) ∙ take-take b a (laid d us) p))
