-- One name further from an entry, and a whole path name by name.
use Prim.Native.Nat.{ℕ, ◌+◌, ◌<◌}
use mathlib.Core.Path.{◌≡◌, refl, ap, sym, ◌∙◌}
use mathlib.Core.Logic.{◌≢◌, inl, inr}
use mathlib.Core.Bool.{Bool, true, false, cond, ◌&&◌, ◌||◌}
use native.Mathlib.Omega.{arith}
use borrow.Author.Tests.{eqb-true}
use lib.Dec.{eqb}
use lib.ListN.{length, get_or, drop, drop_of_length-le}
use lib.Seq.{drop-cons}
use mathlib.Core.List.{List}
use native.Mathlib.Numerals.{add-one}
use Rattle.format.specs.Basics.Bytes.{Bytes, part, all_zero}
use Rattle.format.specs.Layout.Name.{Name, name_equal}
use Rattle.format.specs.Layout.Entry.{NOSTREAM, name, left, right, child, is_blank, is_storage, is_stream}
use Rattle.format.specs.Layout.Directory.{Directory}
use Rattle.format.specs.Layout.Tree.{Forest}
use Rattle.format.specs.Rules.Entries.{blank_fields, storage_fields, stream_fields, common_fields, entry_fields, entry_right, entry_rules}
use Rattle.format.specs.Rules.Trees.{sound, is_object, every_node, tree_rules}
use Rattle.format.specs.Calls.Paths.{Path, split, well_formed}
use Rattle.format.specs.Calls.Find.{Child, missing, present, or_else, child_named, Found, refused, found_child, enter, descend, resolve}
use Rattle.theory.specs.TreeViews.{rows, left_of, right_of, child_of, at, sound_at}
use Rattle.theory.specs.TreeFind.{Searchable, reached}
use Rattle.theory.proofs.Counts.{eqb_cases}
use Rattle.theory.proofs.Tests.{both, neither, or_only, below_at}
use Rattle.theory.proofs.Trees.Grow.{grow_none}
use Rattle.theory.proofs.Trees.Stand.{tree_ind}
use Rattle.theory.proofs.Trees.Rules.{rules_apart}
use Rattle.theory.proofs.Trees.Find.{searchable_root, searchable_object}
use Rattle.theory.proofs.Trees.Paths.{resolve_formed, descend_refused}
use Rattle.entry_rules.proofs.Fields.{fields_other}
use Rattle.paths.proofs.Splits.{names_split, names_none}

-- ---- below every entry a search may start

-- an entry that is no object and not the root has no child
pub blank_child : (i : ℕ) (e : Bytes) → i ≢ 0 → (is_storage e || is_stream e) ≡ false → entry_fields i e ≡ true → child e ≡ NOSTREAM
unfolding blank_fields
blank_child i e h o f =
    let n = neither (is_storage e) (is_stream e) o in
    let kinds = (is_blank e && blank_fields e) || (is_storage e && storage_fields e) || (is_stream e && stream_fields e) in
    let k = (both kinds (common_fields e) (sym (fields_other i e h) ∙ f)).0 in
    let b = or_only (is_blank e && blank_fields e) (or_only ((is_blank e && blank_fields e) || false) (rw (n.0, n.1) at k)) in
    let front = all_zero (part e 0 68) && eqb (left e) NOSTREAM && eqb (right e) NOSTREAM in
    let a = (both (front && eqb (child e) NOSTREAM) (all_zero (part e 80 48)) (both (is_blank e) (blank_fields e) b).1).0 in
    eqb-true (child e) NOSTREAM (both front (eqb (child e) NOSTREAM) a).1

module _ (d : Directory) where
  searchable_none : (y : ℕ) → y ≡ NOSTREAM → Searchable d y
  unfolding sound every_node
  searchable_none y e = record { tree_sound = rw (grow_none d (rows d) y e); sorted = rw (grow_none d (rows d) y e) }

  pub searchable_below : entry_rules d ≡ true → tree_rules d ≡ true → (x : ℕ) → x < rows d → Searchable d (child_of d x)
  unfolding entry_rules entry_right
  searchable_below f t x l =
      elim (eqb_cases x 0) [
        | inl e ↦ rw e.0 (searchable_root d (rules_apart d t))
        | inr e ↦ go (is_object d x) refl e.0
      ]
    where
      go : (b : Bool) → is_object d x ≡ b → x ≢ 0 → Searchable d (child_of d x)
      go true o h = searchable_object d (rules_apart d t) x l o
      go false o h = searchable_none (child_of d x) (blank_child x (d.entry x) h o (below_at (rows d) (λ i. entry_fields i (d.entry i)) f x l))

  -- a child found by its name is an entry
  child_inside : (n : Name) (y : ℕ) (b : Forest) (x : ℕ) → sound_at d x ≡ true → child_named d n (at d x) ≡ present y b → y < rows d
  unfolding child_named or_else
  child_inside n y b =
      tree_ind d (λ x t. child_named d n t ≡ present y b → y < rows d) (λ x e h. absurd (none h))
      (λ x s hl hb hr h.
      let l = child_named d n (at d (left_of d x)) in
      let r = child_named d n (at d (right_of d x)) in
      go l r (name_equal n (name (d.entry x))) (at d (child_of d x)) x s.inside hl hr h)
    where
      none : missing ≡ present y b → ⊥
      none h = let k : ◌≡◌ {A = ℕ} 0 1 = cc in omega arith

      go : (a c : Child) (q : Bool) (t : Forest) (x : ℕ) → x < rows d → (a ≡ present y b → y < rows d) → (c ≡ present y b → y < rows d)
          → or_else a (or_else (cond q (present x t) missing) c) ≡ present y b → y < rows d
      go (present u f) c q t x k p r h = p h
      go missing c true t x k p r h = let e : x ≡ y = cc in omega arith
      go missing c false t x k p r h = r h

  -- ---- one name further

  module _ (x : ℕ) (n : Name) where
    pub enter_stream : is_stream (d.entry x) ≡ true → refused 22 ≡ enter d (reached d x) n
    unfolding enter
    enter_stream s = rw s

    module _ (s : is_stream (d.entry x) ≡ false) where
      pub enter_missing : missing ≡ child_named d n (at d (child_of d x)) → refused 21 ≡ enter d (reached d x) n
      unfolding enter found_child
      enter_missing e = rw (s, ← e)

      pub enter_present : (y : ℕ) → present y (at d (child_of d y)) ≡ child_named d n (at d (child_of d x)) → reached d y ≡ enter d (reached d x) n
      unfolding enter found_child
      enter_present y e = rw (s, ← e)

    -- an entry that is reached is one of the directory's
    pub enter_inside : Searchable d (child_of d x) → (y : ℕ) → reached d y ≡ enter d (reached d x) n → y < rows d
    unfolding enter found_child
    enter_inside k y e = go (is_stream (d.entry x)) (child_named d n (at d (child_of d x))) (λ b. child_inside n y b (child_of d x) k.tree_sound) e
      where
        go : (s : Bool) (c : Child) → ((b : Forest) → c ≡ present y b → y < rows d) → reached d y ≡ cond s (refused 22) (found_child c) → y < rows d
        go true c h e = absurd (let k : ◌≡◌ {A = ℕ} 0 1 = cc in omega arith)
        go false missing h e = absurd (let k : ◌≡◌ {A = ℕ} 0 1 = cc in omega arith)
        go false (present z b) h e = let w : z ≡ y = cc in h b (ap (λ u. present u b) w)

  -- ---- a path name by name: from the entry reached, the names that are left lead on

  pub way_none : (p : Path) → well_formed p ≡ true → length p ≡ 0 → reached d 0 ≡ resolve d p
  unfolding descend
  way_none p w h = sym (resolve_formed d p w ∙ rw (names_none p h))

  pub way_start : (p : Path) → well_formed p ≡ true → length p ≢ 0 → resolve d p ≡ descend d (reached d 0) (split p)
  way_start p w h = resolve_formed d p w ∙ ap (descend d (reached d 0)) (names_split p h)

  module _ (p : Path) (ns : List Name) (i x : ℕ) (e : resolve d p ≡ descend d (reached d x) (drop i ns)) where
    module _ {n : Name} (h : i < length ns) (k : n ≡ get_or ns i n) where
      pub way_on : (f : Found) → f ≡ enter d (reached d x) n → resolve d p ≡ descend d f (drop (i + 1) ns)
      unfolding descend
      way_on f z = e ∙ rw (drop-cons ns i n h, ← k, z, add-one)

      pub way_refused : (a : ℕ) → refused a ≡ enter d (reached d x) n → refused a ≡ resolve d p
      way_refused a z = sym (way_on (refused a) z ∙ descend_refused d a (drop (i + 1) ns))

    pub way_end : i ≡ length ns → reached d x ≡ resolve d p
    unfolding descend
    way_end h = sym (e ∙ rw (drop_of_length-le ns {i = i} (omega arith)))
