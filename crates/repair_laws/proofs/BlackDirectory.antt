-- A directory whose entries became black: what it shows stays.
use Prim.Native.Nat.{ℕ, zero, suc, ◌<◌}
use mathlib.Core.Path.{◌≡◌, refl, ap, ap₂, ◌∙◌, fun_ext}
use mathlib.Core.Bool.{Bool, ◌&&◌}
use mathlib.Core.List.{List, [], ◌∷◌, ◌++◌}
use native.Mathlib.Omega.{arith}
use native.Mathlib.Decide.{dec_lt}
use lib.Dec.{eqb, ltb}
use lib.ListN.{length}
use Rattle.format.specs.Basics.Lists.{count, pick_below}
use Rattle.format.specs.Basics.Bytes.{Bytes}
use Rattle.format.specs.Layout.Name.{Name, slash}
use Rattle.format.specs.Layout.Entry.{NOSTREAM, name, kind, left, right, child, size}
use Rattle.format.specs.Layout.Directory.{Directory, size_of, blanks, blank_at}
use Rattle.format.specs.Layout.Tree.{Forest, empty, broken, node, tree_of, grow, forest, entries}
use Rattle.format.specs.Calls.Text.{print_name}
use Rattle.format.specs.Calls.Listing.{line, lines, listing}
use Rattle.format.specs.History.Storages.{storages_in}
use Rattle.theory.proofs.Counts.{bit_self}
use Rattle.theory.proofs.Trees.Grow.{count_node}
use Rattle.repair_laws.specs.Black.{black_entry, IsBlack, NamesLie}
use Rattle.repair_laws.proofs.BlackFields.{black_kind, black_left, black_right, black_child, black_size, black_name}

module _ (d d' : Directory) (b : IsBlack d d') where
  -- a field that the colour does not touch
  pub field_same : {T : Type 0} (f : Bytes → T) → ((e : Bytes) → f (black_entry e) ≡ f e) → (i : ℕ) → f (d'.entry i) ≡ f (d.entry i)
  field_same f h i =
      elim (dec_lt i d.count) [
        | yes l ↦ ap f (b.inside i l) ∙ h (d.entry i)
        | no l ↦ ap f (b.outside i (omega arith))
      ]

  pub kind_same : (i : ℕ) → kind (d'.entry i) ≡ kind (d.entry i)
  kind_same = field_same kind black_kind

  pub size_same : (i : ℕ) → size_of d' i ≡ size_of d i
  unfolding size_of
  size_same i = ap (λ (n : ℕ). size n (d'.entry i)) b.counted ∙ field_same (size d.size_width) (black_size d.size_width) i

  -- ---- trees go by links alone

  grow_same : (depth x : ℕ) → grow d' depth x ≡ grow d depth x
  unfolding grow
  grow_same zero x = refl
  grow_same (suc depth) x =
      ap₂ (λ m t. tree_of (eqb x NOSTREAM) (ltb 0 x && ltb x m) t) b.rows
      (rw (
        field_same left black_left x,
        field_same right black_right x,
        field_same child black_child x,
        grow_same depth (left (d.entry x)),
        grow_same depth (child (d.entry x)),
        grow_same depth (right (d.entry x)),
      ))

  pub forest_same : forest d' ≡ forest d
  unfolding forest
  forest_same = ap₂ (λ m x. grow d' m x) b.rows (field_same child black_child 0) ∙ grow_same d.count (child (d.entry 0))

  pub blanks_same : length (blanks d') ≡ length (blanks d)
  unfolding blanks blank_at
  blanks_same = ap₂ (λ (n : ℕ) (p : ℕ → Bool). length (pick_below n p)) b.rows (fun_ext (λ i. ap (λ (m : ℕ). eqb m 0) (kind_same i)))

  -- ---- where the names lie in their fields

  module _ (named : NamesLie d) where
    pub name_same : (x : ℕ) → 0 < count x (entries (forest d)) → name (d'.entry x) ≡ name (d.entry x)
    name_same x q = let k = named x q in ap name (b.inside x k.0) ∙ black_name (d.entry x) k.1

    line_same : (x : ℕ) (p : Bytes) → line d' x p ≡ line d x p
    unfolding line
    line_same x p = rw (kind_same x, size_same x)

    -- a part of the forest
    abbrev Within : Forest → Type 0
    Within t = (x : ℕ) → 0 < count x (entries t) → 0 < count x (entries (forest d))

    lines_same : (before : Bytes) (t : Forest) → Within t → lines d' before t ≡ lines d before t
    unfolding lines
    lines_same before empty h = refl
    lines_same before broken h = refl
    lines_same before (node l e m r) h =
        let p = before ++ print_name (name (d.entry e)) in
        rw (
          name_same e (h e (omega (arith, count_node e l e m r, bit_self e))),
          line_same e p,
          lines_same before l (λ x q. h x (omega (arith, count_node x l e m r))),
          lines_same (p ++ (slash ∷ [])) m (λ x q. h x (omega (arith, count_node x l e m r))),
          lines_same before r (λ x q. h x (omega (arith, count_node x l e m r))),
        )

    pub listing_same : listing d' ≡ listing d
    unfolding listing
    listing_same = rw (forest_same, lines_same [] (forest d) (λ x q. q))

    storages_in_lem : (before : List Name) (t : Forest) → Within t → storages_in d' before t ≡ storages_in d before t
    unfolding storages_in
    storages_in_lem before empty h = refl
    storages_in_lem before broken h = refl
    storages_in_lem before (node l e m r) h =
        rw (
          name_same e (h e (omega (arith, count_node e l e m r, bit_self e))),
          kind_same e,
          storages_in_lem before l (λ x q. h x (omega (arith, count_node x l e m r))),
          storages_in_lem (before ++ (name (d.entry e) ∷ [])) m (λ x q. h x (omega (arith, count_node x l e m r))),
          storages_in_lem before r (λ x q. h x (omega (arith, count_node x l e m r))),
        )

    pub storages_same : storages_in d' [] (forest d') ≡ storages_in d [] (forest d)
    storages_same = ap (storages_in d' []) forest_same ∙ storages_in_lem [] (forest d) (λ x q. q)
