-- A removal by the few fields that it changes leaves the image that `format` says.
use mathlib.Core.Path.{◌≡◌, refl, sym, ap, ◌∙◌, subst, subst₂}
use mathlib.Core.Logic.{◌≢◌, ◌⊎◌, inl, inr}
use mathlib.Core.List.{List}
use Prim.Native.Nat.{ℕ, ◌+◌, ◌≤◌, ◌<◌}
use native.Mathlib.Omega.{arith}
use native.Mathlib.Decide.{ℕ_discrete}
use lib.Dec.{eqb}
use lib.ListN.{length, get_or}
use borrow.Author.Tests.{eq-eqb, ne_eqb}
use Rattle.format.specs.Basics.Lists.{bit, count}
use Rattle.format.specs.Basics.Bytes.{Bytes, put_bytes}
use Rattle.format.specs.Layout.Geometry.{Geometry}
use Rattle.format.specs.Layout.Entry.{NOSTREAM, Field, left_field, right_field, name_bytes, right}
use Rattle.format.specs.Layout.NewEntry.{blank_entry}
use Rattle.format.specs.Layout.Directory.{Directory, directory_of, entry_place, entry_count}
use Rattle.format.specs.Layout.Tree.{Forest, empty, broken, node, entries, siblings}
use Rattle.format.specs.Layout.Siblings.{Slot, top, greatest, sides_joined}
use Rattle.format.specs.Layout.Volume.{volume, directory_sectors_of}
use Rattle.format.specs.Rules.Verdict.{Accepted}
use Rattle.format.specs.Calls.Remove.{entry_removed_at}
use Rattle.theory.specs.TreeViews.{left_of, right_of, at, Standing}
use Rattle.theory.specs.TreeOrder.{Rules}
use Rattle.theory.specs.TreeDraw.{Draws}
use Rattle.theory.specs.TreeWays.{Way, plug, slot_entry}
use Rattle.theory.specs.TreeUnlink.{Rightward, Located}
use Rattle.theory.specs.TreeHeir.{above_greatest}
use Rattle.theory.proofs.Counts.{bit_self}
use Rattle.theory.proofs.Trees.Grow.{count_node}
use Rattle.theory.proofs.Trees.Draw.{draws_at}
use Rattle.theory.proofs.Trees.Ways.{count_plug, still_or_deep}
use Rattle.theory.proofs.Trees.Parts.{draws_part, draws_none}
use Rattle.theory.proofs.Trees.Heirs.{joined_none, joined_right}
use Rattle.theory.proofs.Trees.HeirWays.{heir_way}
use Rattle.frame.specs.Kept.{Sized, Kept, Off, Table}
use Rattle.frame.specs.Unlink.{slot_of, owner_of, link_put, heir_put, heir_in, unlinked_at, blackened_at, unlinked_image, LinkSet, Linked}
use Rattle.frame.proofs.Kept.{kept_trans}
use Rattle.frame.proofs.Redrawing.{dirs_table}
use Rattle.frame.proofs.LinkPuts.{link_kept, link_set}
use Rattle.frame.proofs.Unlinking.{node_drawn, past_side, near_heir, far_heir}
use Rattle.frame.proofs.Blanking.{linked_set, linked_two}
use Rattle.frame.proofs.Blanking as blanking

module _ (g : Geometry) (z : Sized g) (img : Bytes) (acc : Accepted g img) where
  abbrev dirs : List ℕ
  dirs = directory_sectors_of g img

  abbrev d : Directory
  d = directory_of g img dirs

  abbrev dir_of : Bytes → Directory
  dir_of a = directory_of g a dirs

  abbrev place : ℕ → ℕ
  place = entry_place g dirs

  abbrev tb : Table g (length img) dirs
  tb = dirs_table g z img acc

  module _ (w v : Way) (t l : Forest) (x : ℕ) (r : Forest) (c : Located d w v t l x r) (k : Rules d)
      (names : (y : ℕ) → 0 < y → name_bytes (d.entry y) ≤ 64) (before : (i : ℕ) → get_or img i 0 < 256) (ys : List ℕ)
      (listed : (y : ℕ) → count y ys ≡ count y (siblings t)) where
    abbrev it : Forest
    it = node l x empty r

    abbrev last : Bytes → Bytes
    last a = put_bytes (blackened_at place ys a) (place x) blank_entry

    abbrev Right : Bytes → Type 0
    Right a = blanking.Right g z img acc w v t l x r c k names before ys listed a

    abbrev finish : (a : Bytes) → Kept g (Off dirs) img a → Linked d (dir_of a) → blanking.Unlinks g z img acc w v t l x r c k names before ys listed a → Right a
    finish = blanking.finish g z img acc w v t l x r c k names before ys listed

    abbrev it_stands : (y : ℕ) → 0 < count y (entries it) → Standing d y
    it_stands = blanking.it_stands g z img acc w v t l x r c k names before ys listed

    abbrev x_stands : Standing d x
    x_stands = blanking.x_stands g z img acc w v t l x r c k names before ys listed

    abbrev inside : (y : ℕ) → Standing d y → y < entry_count g dirs
    inside = blanking.inside g z img acc w v t l x r c k names before ys listed

    abbrev owner_inside : owner_of w v < entry_count g dirs
    owner_inside = blanking.owner_inside g z img acc w v t l x r c k names before ys listed

    abbrev left_small : (y : ℕ) → left_of d y < 0x1_0000_0000
    left_small = blanking.left_small g z img acc w v t l x r c k names before ys listed

    abbrev right_small : (y : ℕ) → right_of d y < 0x1_0000_0000
    right_small = blanking.right_small g z img acc w v t l x r c k names before ys listed

    abbrev stands_small : (y : ℕ) → Standing d y → y < 0x1_0000_0000
    stands_small = blanking.stands_small g z img acc w v t l x r c k names before ys listed

    -- ---- the links

    drawn : Draws d it
    drawn = node_drawn d w v t l x r c k

    module _ (h : Slot) (he : h.entry ≡ owner_of w v) (hf : h.field ≡ slot_of w v) where
      module _ (y : ℕ) (hy : y < 0x1_0000_0000) where
        abbrev named : Bytes
        named = link_put place h y img

        in_owner : h.entry < entry_count g dirs
        in_owner = rw he owner_inside

        named_kept : Kept g (Off dirs) img named
        named_kept = link_kept g z (length img) dirs tb img h.field h.entry y in_owner refl hy

        named_set : LinkSet d (dir_of named) (slot_of w v) (owner_of w v) y
        named_set =
            subst₂ (λ (f : Field) (e : ℕ). LinkSet d (dir_of named) f e y) hf he
            (link_set g z (length img) dirs tb img h.field h.entry y in_owner refl hy)

      -- one side is empty
      one_side : (y : ℕ) → y < 0x1_0000_0000 → y ≡ top (sides_joined l r) → (l ≡ empty) ⊎ (r ≡ empty) → Right (link_put place h y img)
      one_side y hy e o =
          let s = named_set y hy in
          finish (link_put place h y img) (named_kept y hy) (linked_set d (dir_of (link_put place h y img)) (slot_of w v) (owner_of w v) y s)
          (λ on b. past_side d (dir_of (link_put place h y img)) (dir_of (last (link_put place h y img))) w v t l x r c k on b
          (subst (λ (i : ℕ). LinkSet d (dir_of (link_put place h y img)) (slot_of w v) (owner_of w v) i) e s) o)

      -- with an heir y
      module _ (u : Way) (hl : Forest) (y : ℕ) (hb : Forest) (cl : l ≡ plug u (node hl y hb empty)) (right : Rightward u) (some : r ≢ empty) where
        abbrev up : ℕ
        up = slot_entry u x

        located : Located d w v t (plug u (node hl y hb empty)) x r
        located = subst (λ (f : Forest). Located d w v t f x r) cl c

        parts : (e : ℕ) → count e (entries it)
            ≡ count e (entries (plug u empty)) + count e (entries (node hl y hb empty)) + bit (eqb e x) + count e (entries r)
        unfolding entries
        parts e =
            omega (arith, count_node e l x empty r, ap (λ (f : Forest). count e (entries f)) cl, count_plug e u (node hl y hb empty))

        y_stands : Standing d y
        y_stands = it_stands y (omega (arith, parts y, count_node y hl y hb empty, bit_self y))

        up_inside : up < entry_count g dirs
        up_inside =
            elim (still_or_deep u left_field x) [
              | inl q ↦ omega (arith, q.entry, inside x x_stands)
              | inr q ↦ inside up (it_stands up (omega (arith, parts up, q.outside)))
            ]

        own_left : left_of d y ≡ top hl
        own_left = (draws_part d u (node hl y hb empty) (subst (Draws d) cl drawn.1)).0.lefts

        abbrev a₁ : Bytes
        a₁ = link_put place h y img

        abbrev put : Field → ℕ → ℕ → Bytes → Bytes
        put f e n a = link_put place (record { entry = e; field = f }) n a

        k₁ : Kept g (Off dirs) img a₁
        k₁ = named_kept y (stands_small y y_stands)

        s₁ : LinkSet d (dir_of a₁) (slot_of w v) (owner_of w v) y
        s₁ = named_set y (stands_small y y_stands)

        l₁ : Linked d (dir_of a₁)
        l₁ = linked_set d (dir_of a₁) (slot_of w v) (owner_of w v) y s₁

        module _ (a : Bytes) (K : Kept g (Off dirs) img a) (L : Linked d (dir_of a)) (f : Field) (e n : ℕ) (i : e < entry_count g dirs) (b : n < 0x1_0000_0000) where
          put_set : LinkSet (dir_of a) (dir_of (put f e n a)) f e n
          put_set = link_set g z (length img) dirs tb a f e n i K.size b

          put_keeps : Kept g (Off dirs) img (put f e n a)
          put_keeps = kept_trans g (Off dirs) img a (put f e n a) K (link_kept g z (length img) dirs tb a f e n i K.size b)

          put_linked : Linked d (dir_of (put f e n a))
          put_linked = linked_two d (dir_of a) (dir_of (put f e n a)) L (linked_set (dir_of a) (dir_of (put f e n a)) f e n put_set)

        in_y : y < entry_count g dirs
        in_y = inside y y_stands

        as_right : (a b : Directory) → LinkSet a b right_field y (right_of d x) → LinkSet a b right_field y (top r)
        as_right a b s = subst (λ (n : ℕ). LinkSet a b right_field y n) drawn.0.rights s

        near : up ≡ x → Right (put right_field y (right_of d x) a₁)
        near e =
            let a₄ = put right_field y (right_of d x) a₁ in
            let s = put_set a₁ k₁ l₁ right_field y (right_of d x) in_y (right_small x) in
            finish a₄ (put_keeps a₁ k₁ l₁ right_field y (right_of d x) in_y (right_small x)) (put_linked a₁ k₁ l₁ right_field y (right_of d x) in_y (right_small x))
            (λ on b. near_heir d (dir_of (last a₄)) w v u t hl y hb x r located k right some b (dir_of a₄) on (dir_of a₁) s₁ (as_right (dir_of a₁) (dir_of a₄) s) e)

        module _ (e : up ≢ x) where
          abbrev b₂ : Bytes
          b₂ = put right_field up (left_of d y) a₁

          abbrev b₃ : Bytes
          b₃ = put left_field y (left_of d x) b₂

          abbrev b₄ : Bytes
          b₄ = put right_field y (right_of d x) b₃

          k₂ : Kept g (Off dirs) img b₂
          k₂ = put_keeps a₁ k₁ l₁ right_field up (left_of d y) up_inside (left_small y)

          l₂ : Linked d (dir_of b₂)
          l₂ = put_linked a₁ k₁ l₁ right_field up (left_of d y) up_inside (left_small y)

          k₃ : Kept g (Off dirs) img b₃
          k₃ = put_keeps b₂ k₂ l₂ left_field y (left_of d x) in_y (left_small x)

          l₃ : Linked d (dir_of b₃)
          l₃ = put_linked b₂ k₂ l₂ left_field y (left_of d x) in_y (left_small x)

          s₂ : LinkSet (dir_of a₁) (dir_of b₂) right_field up (top hl)
          s₂ = subst (λ (n : ℕ). LinkSet (dir_of a₁) (dir_of b₂) right_field up n) own_left (put_set a₁ k₁ l₁ right_field up (left_of d y) up_inside (left_small y))

          s₃ : LinkSet (dir_of b₂) (dir_of b₃) left_field y (top (plug u (node hl y hb empty)))
          s₃ =
              subst (λ (n : ℕ). LinkSet (dir_of b₂) (dir_of b₃) left_field y n) (drawn.0.lefts ∙ ap top cl)
              (put_set b₂ k₂ l₂ left_field y (left_of d x) in_y (left_small x))

          far : Right b₄
          far =
              finish b₄ (put_keeps b₃ k₃ l₃ right_field y (right_of d x) in_y (right_small x)) (put_linked b₃ k₃ l₃ right_field y (right_of d x) in_y (right_small x))
              (λ on b. far_heir d (dir_of (last b₄)) w v u t hl y hb x r located k right some b (dir_of b₄) on (dir_of a₁) (dir_of b₂) (dir_of b₃) s₁ s₂ s₃
              (as_right (dir_of b₃) (dir_of b₄) (put_set b₃ k₃ l₃ right_field y (right_of d x) in_y (right_small x))) e)

        heir_right : (i : ℕ) → i ≡ up → Right (heir_in place d h x i y img)
        unfolding heir_put
        heir_right i q =
            elim (ℕ_discrete up x) [
              | yes e ↦ rw (q, eq-eqb up x e) (near e)
              | no e ↦ rw (q, ne_eqb up x e) (far e)
            ]

      -- ---- by what the entry's fields hold

      some_left : (la : Forest) (e : ℕ) (lb lr : Forest) → l ≡ node la e lb lr → r ≢ empty
          → Right (heir_in place d h x (above_greatest x (left_of d x) (at d (right_of d (left_of d x)))) (greatest (left_of d x) (at d (right_of d (left_of d x)))) img)
      some_left la e lb lr q some =
          let dl = subst (Draws d) q drawn.1 in
          let hw = heir_way d x e la lb lr dl.3 in
          let el : left_of d x ≡ e = drawn.0.lefts ∙ ap top q in
          let er : at d (right_of d e) ≡ lr = ap (at d) dl.0.rights ∙ draws_at d lr dl.3 in
          let ea : above_greatest x (left_of d x) (at d (right_of d (left_of d x))) ≡ above_greatest x e lr = rw (el, er) in
          let eg : greatest (left_of d x) (at d (right_of d (left_of d x))) ≡ greatest e lr = rw (el, er) in
          subst₂ (λ (a y : ℕ). Right (heir_in place d h x a y img)) (sym ea) (sym eg)
          (heir_right hw.way hw.lefts (greatest e lr) hw.below (q ∙ hw.tree) hw.right some (above_greatest x e lr) (sym hw.above))

      unlinks : Right (unlinked_at place d h x img)
      unfolding unlinked_at
      unlinks =
          elim (ℕ_discrete (left_of d x) NOSTREAM) [
            | yes e ↦
                let q = draws_none d l drawn.1 (sym drawn.0.lefts ∙ e) in
                rw (eq-eqb (left_of d x) NOSTREAM e)
                (one_side (right_of d x) (right_small x) (drawn.0.rights ∙ ap top (sym (joined_right r)) ∙ ap (λ (f : Forest). top (sides_joined f r)) (sym q)) (inl q))
            | no e ↦
                elim (ℕ_discrete (right_of d x) NOSTREAM) [
                  | yes i ↦
                      let q = draws_none d r drawn.3 (sym drawn.0.rights ∙ i) in
                      rw (ne_eqb (left_of d x) NOSTREAM e, eq-eqb (right_of d x) NOSTREAM i)
                      (one_side (left_of d x) (left_small x)
                      (drawn.0.lefts ∙ ap top (sym (joined_none d l drawn.1)) ∙ ap (λ (f : Forest). top (sides_joined l f)) (sym q)) (inr q))
                  | no i ↦
                      rw (ne_eqb (left_of d x) NOSTREAM e, ne_eqb (right_of d x) NOSTREAM i)
                      (both_sides l refl drawn.1 (λ q. e (drawn.0.lefts ∙ ap top q)) (λ q. i (drawn.0.rights ∙ ap top q)))
                ]
          ]
        where
          both_sides : (f : Forest) → l ≡ f → Draws d f → l ≢ empty → r ≢ empty
              → Right (heir_in place d h x (above_greatest x (left_of d x) (at d (right_of d (left_of d x)))) (greatest (left_of d x) (at d (right_of d (left_of d x)))) img)
          both_sides empty q b n m = absurd (n q)
          both_sides broken q b n m = absurd b
          both_sides (node la e lb lr) q b n m = some_left la e lb lr q m

      pub unlinked_is : ((i : ℕ) → get_or (unlinked_image place d h x ys img) i 0 < 256)
          → unlinked_image place d h x ys img ≡ entry_removed_at (volume g img) img (slot_entry w 0) t x
      unfolding unlinked_image
      unlinked_is after = unlinks after
