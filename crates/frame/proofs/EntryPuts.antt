-- Bytes put into the entries of a directory: the entry written, the others, and all that is kept.
use mathlib.Core.Path.{◌≡◌, refl, sym, ap, ◌∙◌, subst}
use mathlib.Core.Logic.{◌≢◌}
use mathlib.Core.Bool.{Bool, true, false, cond}
use mathlib.Core.List.{List, [], ◌∷◌, ◌++◌}
use Prim.Native.Nat.{ℕ, ◌+◌, ◌*◌, ◌≤◌, ◌<◌}
use native.Mathlib.Omega.{arith}
use lib.Dec.{ltb}
use lib.ListN.{length, length-append}
use lib.Seq.{sets}
use Rattle.format.specs.Basics.Lists.{count}
use Rattle.format.specs.Basics.Bytes.{Bytes, part, le32, put_bytes}
use Rattle.format.specs.Layout.Geometry.{Geometry, place_in, entries_in, entry_bytes}
use Rattle.format.specs.Layout.Entry.{black}
use Rattle.format.specs.Layout.Directory.{entry_place, entry_count, entry_in}
use Rattle.format.specs.Layout.Tree.{Forest, empty, broken, node, siblings}
use Rattle.format.specs.Layout.Siblings.{top}
use Rattle.format.specs.Layout.Volume.{Volume}
use Rattle.format.specs.Calls.Remove.{siblings_written}
use borrow.Author.Tests.{lt-ltb, ltb-true}
use Rattle.theory.proofs.Counts.{bit_self}
use Rattle.theory.proofs.Bytes.{length_le32}
use Rattle.theory.proofs.Trees.Faces.{count_siblings_node}
use Rattle.theory.proofs.Trees.Ways.{apart_of}
use Rattle.frame.specs.Kept.{Sized, Kept, Off, Table}
use Rattle.frame.specs.Redraw.{Penned}
use Rattle.frame.proofs.Kept.{kept_refl, kept_trans}
use Rattle.frame.proofs.Things.{thing_other, thing_same, thing_kept}
use Rattle.frame.proofs.Entry.{S128, sector_some}

module _ (g : Geometry) (z : Sized g) (len : ℕ) (secs : List ℕ) (t : Table g len secs) where
  module _ (img : Bytes) (e j : ℕ) (vs : Bytes) (he : e < entry_count g secs) (fits : j + length vs ≤ 128) where
    pub put_kept_lem : Kept g (Off secs) img (put_bytes img (entry_place g secs e + j) vs)
    unfolding put_bytes entry_place entry_bytes entry_count
    put_kept_lem = thing_kept g 128 (entries_in g) (S128 g z) (sector_some g z) len secs t img e j vs he fits secs (λ x q. q)

    pub put_other : (i : ℕ) → i ≢ e → entry_in g (put_bytes img (entry_place g secs e + j) vs) secs i ≡ entry_in g img secs i
    unfolding put_bytes entry_place entry_bytes entry_count entry_in
    put_other i q = go (ltb i (entries_in g * length secs)) refl
      where
        go : (b : Bool) → ltb i (entries_in g * length secs) ≡ b
            → cond b (part (sets img (place_in g secs (128 * e) + j) vs) (place_in g secs (128 * i)) 128) []
            ≡ cond b (part img (place_in g secs (128 * i)) 128) []
        go true h = thing_other g 128 (entries_in g) (S128 g z) (sector_some g z) len secs t img e j vs he fits i (ltb-true i (entries_in g * length secs) h) q
        go false h = refl

    pub put_same : entry_in g (put_bytes img (entry_place g secs e + j) vs) secs e ≡ sets (entry_in g img secs e) j vs
    unfolding put_bytes entry_place entry_bytes entry_count entry_in
    put_same =
        rw (lt-ltb e (entries_in g * length secs) he)
        (thing_same g 128 (entries_in g) (S128 g z) (sector_some g z) len secs t img e j vs he fits)

  -- ---- the siblings of a tree drawn anew

  abbrev pens : Forest → Forest → Bytes
  pens l r = black ∷ (le32 (top l) ++ le32 (top r))

  pens_long : (l r : Forest) → length (pens l r) ≡ 9
  pens_long l r = omega (arith, length-append (le32 (top l)) (le32 (top r)), length_le32 (top l), length_le32 (top r))

  pub penned_same : (a b a' b' : ℕ → Bytes) (f : Forest) → ((y : ℕ) → 0 < count y (siblings f) → (a' y ≡ a y) × (b' y ≡ b y)) → Penned a b f → Penned a' b' f
  unfolding siblings
  penned_same a b a' b' empty h p = tt
  penned_same a b a' b' broken h p = tt
  penned_same a b a' b' (node l e m r) h p =
      let k = h e (omega (arith, count_siblings_node e l e m r, bit_self e)) in (
        k.1 ∙ p.0 ∙ ap (λ (c : Bytes). sets c 67 (pens l r)) (sym k.0),
        penned_same a b a' b' l (λ y c. h y (omega (arith, count_siblings_node y l e m r))) p.1,
        penned_same a b a' b' r (λ y c. h y (omega (arith, count_siblings_node y l e m r))) p.2,
      )

  module _ (v : Volume) (places : (y : ℕ) → v.entry_place y ≡ entry_place g secs y) where
    here : Forest → ℕ → Forest → Bytes → Bytes
    here l e r img = put_bytes img (entry_place g secs e + 67) (pens l r)

    drawn_node : (l : Forest) (e : ℕ) (m r : Forest) (img : Bytes) → siblings_written v (node l e m r) img ≡ siblings_written v r (siblings_written v l (here l e r img))
    unfolding siblings_written here
    drawn_node l e m r img = ap (λ (p : ℕ). siblings_written v r (siblings_written v l (put_bytes img (p + 67) (pens l r)))) (places e)

    module _ (l : Forest) (e : ℕ) (r : Forest) (img : Bytes) (he : e < entry_count g secs) where
      long : 67 + length (pens l r) ≤ 128
      long = omega (arith, pens_long l r)

      here_kept : Kept g (Off secs) img (here l e r img)
      unfolding here
      here_kept = put_kept_lem img e 67 (pens l r) he long

      here_other : (i : ℕ) → i ≢ e → entry_in g (here l e r img) secs i ≡ entry_in g img secs i
      unfolding here
      here_other = put_other img e 67 (pens l r) he long

      here_same : entry_in g (here l e r img) secs e ≡ sets (entry_in g img secs e) 67 (pens l r)
      unfolding here
      here_same = put_same img e 67 (pens l r) he long

    pub drawn_kept : (f : Forest) (img : Bytes) → ((y : ℕ) → 0 < count y (siblings f) → y < entry_count g secs) → Kept g (Off secs) img (siblings_written v f img)
    unfolding siblings_written siblings
    drawn_kept empty img h = kept_refl g (Off secs) img
    drawn_kept broken img h = kept_refl g (Off secs) img
    drawn_kept (node l e m r) img h =
        let he = h e (omega (arith, count_siblings_node e l e m r, bit_self e)) in
        let i1 = here l e r img in
        let i2 = siblings_written v l i1 in
        subst (λ (b : Bytes). Kept g (Off secs) img b) (sym (drawn_node l e m r img))
        (kept_trans g (Off secs) img i1 (siblings_written v r i2) (here_kept l e r img he)
        (kept_trans g (Off secs) i1 i2 (siblings_written v r i2)
        (drawn_kept l i1 (λ y c. h y (omega (arith, count_siblings_node y l e m r))))
        (drawn_kept r i2 (λ y c. h y (omega (arith, count_siblings_node y l e m r))))))

    pub drawn_out : (f : Forest) (img : Bytes) → ((y : ℕ) → 0 < count y (siblings f) → y < entry_count g secs)
        → (y : ℕ) → count y (siblings f) ≡ 0 → entry_in g (siblings_written v f img) secs y ≡ entry_in g img secs y
    unfolding siblings_written siblings
    drawn_out empty img h y c = refl
    drawn_out broken img h y c = refl
    drawn_out (node l e m r) img h y c =
        let he = h e (omega (arith, count_siblings_node e l e m r, bit_self e)) in
        let i1 = here l e r img in
        let i2 = siblings_written v l i1 in
        let k = count_siblings_node y l e m r in
        ap (λ (b : Bytes). entry_in g b secs y) (drawn_node l e m r img)
        ∙ drawn_out r i2 (λ w q. h w (omega (arith, count_siblings_node w l e m r))) y (omega arith)
        ∙ drawn_out l i1 (λ w q. h w (omega (arith, count_siblings_node w l e m r))) y (omega arith)
        ∙ here_other l e r img he y (apart_of y e (omega arith))

    pub drawn_penned : (f : Forest) (img : Bytes) → ((y : ℕ) → 0 < count y (siblings f) → y < entry_count g secs) → ((y : ℕ) → count y (siblings f) ≤ 1)
        → Penned (entry_in g img secs) (entry_in g (siblings_written v f img) secs) f
    unfolding siblings_written siblings
    drawn_penned empty img h o = tt
    drawn_penned broken img h o = tt
    drawn_penned (node l e m r) img h o =
        let he = h e (omega (arith, count_siblings_node e l e m r, bit_self e)) in
        let i1 = here l e r img in
        let i2 = siblings_written v l i1 in
        let i3 = siblings_written v r i2 in
        let hl : (y : ℕ) → 0 < count y (siblings l) → y < entry_count g secs = λ y c. h y (omega (arith, count_siblings_node y l e m r)) in
        let hr : (y : ℕ) → 0 < count y (siblings r) → y < entry_count g secs = λ y c. h y (omega (arith, count_siblings_node y l e m r)) in
        let a = drawn_penned l i1 hl (λ y. omega (arith, count_siblings_node y l e m r, o y)) in
        let b = drawn_penned r i2 hr (λ y. omega (arith, count_siblings_node y l e m r, o y)) in
        let out1 = here_other l e r img he in
        let out2 = drawn_out l i1 hl in
        let out3 = drawn_out r i2 hr in
        subst (λ (w : Bytes). Penned (entry_in g img secs) (entry_in g w secs) (node l e m r)) (sym (drawn_node l e m r img)) (
          out3 e (omega (arith, count_siblings_node e l e m r, o e, bit_self e)) ∙ out2 e (omega (arith, count_siblings_node e l e m r, o e, bit_self e)) ∙ here_same l e r img he,
          penned_same (entry_in g i1 secs) (entry_in g i2 secs) (entry_in g img secs) (entry_in g i3 secs) l
              (λ y c. (
                sym (out1 y (apart_of y e (omega (arith, count_siblings_node y l e m r, o y)))),
                out3 y (omega (arith, count_siblings_node y l e m r, o y)),
              )) a,
          penned_same (entry_in g i2 secs) (entry_in g i3 secs) (entry_in g img secs) (entry_in g i3 secs) r
              (λ y c. (
                sym (out2 y (omega (arith, count_siblings_node y l e m r, o y)) ∙ out1 y (apart_of y e (omega (arith, count_siblings_node y l e m r, o y)))),
                refl,
              )) b,
        )
