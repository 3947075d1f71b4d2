-- A file whose objects' names have no unit that is folded anew keeps its verdict.
use Prim.Native.Nat.{ℕ, zero, suc}
use mathlib.Core.Path.{◌≡◌, refl, sym, ◌∙◌}
use mathlib.Core.Bool.{Bool, true, false, not, cond, ◌&&◌, ◌||◌}
use mathlib.Core.List.{List, [], ◌∷◌, ◌++◌, map}
use native.Mathlib.Omega.{arith}
use lib.Dec.{eqb, ltb, leb}
use lib.ListN.{length}
use borrow.Author.Tests.{eqb-true, ltb-true}
use Rattle.format.specs.Basics.Lists.{all, all_below, list_below}
use Rattle.format.specs.Basics.Bytes.{Bytes, part, all_zero, u16at, number}
use Rattle.format.specs.Layout.Geometry.{Geometry}
use Rattle.format.specs.Layout.Name.{Name, small_by20, small_by50, fold, name_less}
use Rattle.format.specs.Layout.Entry.{NOSTREAM, name, name_bytes, left, right, child, is_blank, is_storage, is_stream}
use Rattle.format.specs.Layout.Directory.{Directory}
use Rattle.format.specs.Layout.Tree.{Forest, empty, broken, node, named, tree_of, grow, forest, entries, siblings}
use Rattle.format.specs.Layout.Volume.{volume, directory}
use Rattle.format.specs.Rules.Length.{length_allowed, work_need}
use Rattle.format.specs.Rules.Header.{header_rules}
use Rattle.format.specs.Rules.Tables.{table_rules}
use Rattle.format.specs.Rules.Cells.{cell_rules}
use Rattle.format.specs.Rules.Directory.{directory_rules}
use Rattle.format.specs.Rules.Entries.{blank_fields, storage_fields, stream_fields, common_fields, entry_fields, entry_right, entry_rules}
use Rattle.format.specs.Rules.Trees.{is_object, every_node, less, greater, sides_ordered, tree_rules}
use Rattle.format.specs.Rules.Mini.{mini_rules}
use Rattle.format.specs.Rules.Streams.{stream_rules}
use Rattle.format.specs.Rules.Owners.{owner_rules}
use Rattle.format.specs.Rules.Verdict.{check, volume_groups, groups, verdict}
use Rattle.format.specs.Claims.Folding.{former_fold, former_less, former_before, former_after, former_sides, former_trees, former_late, former_verdict, steady_unit, steady_name, steady_names, plain_unit, plain_name, plain_names, KeepsVerdict, PlainKeepsVerdict}
use Rattle.theory.proofs.Tests.{both, neither, or_only, below_at, below_of, all_append, all_weaker}
use Rattle.theory.proofs.ByteTests.{zero_number, zero_split}

-- ---- names

pub fold_same : (n : Name) → all steady_unit n ≡ true → map former_fold n ≡ map fold n
unfolding all steady_unit
fold_same [] h = refl
fold_same (u ∷ us) h =
    let q = both (eqb (fold u) (former_fold u)) (all steady_unit us) h in
    let a = eqb-true (fold u) (former_fold u) q.0 in
    let b = fold_same us q.1 in
    rw (a, b)

less_same : (a b : Name) → all steady_unit a ≡ true → all steady_unit b ≡ true → former_less a b ≡ name_less a b
unfolding former_less name_less
less_same a b h k = rw (fold_same a h, fold_same b k)

-- ---- trees

module _ (d : Directory) where
  abbrev pub steady : ℕ → Bool
  steady x = all steady_unit (name (d.entry x))

  all_same : (p q : ℕ → Bool) → ((x : ℕ) → steady x ≡ true → p x ≡ q x) → (xs : List ℕ) → all steady xs ≡ true → all p xs ≡ all q xs
  unfolding all
  all_same p q f [] h = refl
  all_same p q f (x ∷ xs) h =
      let k = both (steady x) (all steady xs) h in
      rw (f x k.0, all_same p q f xs k.1)

  -- the entries of a node are all steady
  pub record Node (l : Forest) (e : ℕ) (b r : Forest) : Type 0 where
    pub on_left : all steady (entries l) ≡ true
    pub here : steady e ≡ true
    pub below : all steady (entries b) ≡ true
    pub on_right : all steady (entries r) ≡ true

  pub node_apart : (l : Forest) (e : ℕ) (b r : Forest) → all steady (entries (node l e b r)) ≡ true → Node l e b r
  unfolding entries all
  node_apart l e b r h =
      let s : (all steady (entries l) && (steady e && all steady (entries b ++ entries r))) ≡ true =
      sym (all_append steady (entries l) (e ∷ (entries b ++ entries r))) ∙ h in
      let p = both (all steady (entries l)) (steady e && all steady (entries b ++ entries r)) s in
      let q = both (steady e) (all steady (entries b ++ entries r)) p.1 in
      let t = both (all steady (entries b)) (all steady (entries r)) (sym (all_append steady (entries b) (entries r)) ∙ q.1) in
      record { on_left = p.0; here = q.0; below = t.0; on_right = t.1 }

  siblings_steady : (t : Forest) → all steady (entries t) ≡ true → all steady (siblings t) ≡ true
  unfolding siblings all
  siblings_steady empty h = refl
  siblings_steady broken h = refl
  siblings_steady (node l e b r) h =
      let n = node_apart l e b r h in
      all_append steady (siblings l) (e ∷ siblings r)
      ∙ rw (siblings_steady l n.on_left, n.here, siblings_steady r n.on_right)

  sides_same : (l : Forest) (e : ℕ) (b r : Forest) → Node l e b r → former_sides d l e b r ≡ sides_ordered d l e b r
  unfolding former_sides sides_ordered former_after former_before greater less
  sides_same l e b r n =
      let f = all_same (former_after d e) (greater d e) (λ x h. less_same (name (d.entry x)) (name (d.entry e)) h n.here) (siblings l)
      (siblings_steady l n.on_left) in
      let k = all_same (former_before d e) (less d e) (λ x h. less_same (name (d.entry e)) (name (d.entry x)) n.here h) (siblings r)
      (siblings_steady r n.on_right) in
      rw (f, k)

  every_same : (t : Forest) → all steady (entries t) ≡ true → every_node (former_sides d) t ≡ every_node (sides_ordered d) t
  unfolding every_node
  every_same empty h = refl
  every_same broken h = refl
  every_same (node l e b r) h =
      let n = node_apart l e b r h in
      rw (sides_same l e b r n, every_same l n.on_left, every_same b n.below, every_same r n.on_right)

  -- ---- every entry that a tree can hold is steady

  module _ (names : (x : ℕ) → named d x ≡ true → steady x ≡ true) where
    grow_steady : (f x : ℕ) → all steady (entries (grow d f x)) ≡ true
    unfolding grow tree_of entries all
    grow_steady zero x = none (eqb x NOSTREAM)
      where
        none : (t : Bool) → all steady (entries (tree_of t false broken)) ≡ true
        none true = refl
        none false = refl
    grow_steady (suc f) x =
        some (eqb x NOSTREAM) (named d x) refl (grow_steady f (left (d.entry x))) (grow_steady f (child (d.entry x))) (grow_steady f (right (d.entry x)))
      where
        some : (t n : Bool) → named d x ≡ n
            → all steady (entries (grow d f (left (d.entry x)))) ≡ true
            → all steady (entries (grow d f (child (d.entry x)))) ≡ true
            → all steady (entries (grow d f (right (d.entry x)))) ≡ true
            → all steady (entries (tree_of t n (node (grow d f (left (d.entry x))) x (grow d f (child (d.entry x))) (grow d f (right (d.entry x)))))) ≡ true
        some true n q a b c = refl
        some false false q a b c = refl
        some false true q a b c =
            all_append steady (entries (grow d f (left (d.entry x)))) (x ∷ (entries (grow d f (child (d.entry x))) ++ entries (grow d f (right (d.entry x)))))
            ∙ rw (a, names x q, all_append steady (entries (grow d f (child (d.entry x)))) (entries (grow d f (right (d.entry x)))), b, c)

    trees_same : former_trees d ≡ tree_rules d
    unfolding former_trees tree_rules forest
    trees_same = rw (every_same (grow d d.count (child (d.entry 0))) (grow_steady d.count (child (d.entry 0))))

-- ---- the names of a directory whose fields are right

blank_nameless : (e : Bytes) → blank_fields e ≡ true → name_bytes e ≡ 0
unfolding blank_fields name_bytes u16at
blank_nameless e h =
    let zeros = all_zero (part e 0 68) in
    let f1 = zeros && eqb (left e) NOSTREAM in
    let f2 = f1 && eqb (right e) NOSTREAM in
    let f3 = f2 && eqb (child e) NOSTREAM in
    let z = (both zeros (eqb (left e) NOSTREAM) (both f1 (eqb (right e) NOSTREAM) (both f2 (eqb (child e) NOSTREAM) (both f3 (all_zero (part e 80 48)) h).0).0).0).0 in
    let a = (both (all_zero (part e 0 64)) (all_zero (part e 64 4)) (sym (zero_split e 0 64 4) ∙ z)).1 in
    let b = (both (all_zero (part e 64 2)) (all_zero (part e 66 2)) (sym (zero_split e 64 2 2) ∙ a)).0 in
    eqb-true (number (part e 64 2)) 0 (sym (zero_number (part e 64 2)) ∙ b)

blank_steady : (e : Bytes) → blank_fields e ≡ true → all steady_unit (name e) ≡ true
unfolding name list_below all
blank_steady e h = rw (blank_nameless e h)

not_object : (i : ℕ) (e : Bytes) → (is_storage e || is_stream e) ≡ false → entry_fields (suc i) e ≡ true → blank_fields e ≡ true
unfolding entry_fields
not_object i e o f =
    let n = neither (is_storage e) (is_stream e) o in
    let kinds = (is_blank e && blank_fields e) || (is_storage e && storage_fields e) || (is_stream e && stream_fields e) in
    let k = (both kinds (common_fields e) f).0 in
    let b = or_only (is_blank e && blank_fields e) (or_only ((is_blank e && blank_fields e) || false) (rw (n.0, n.1) at k)) in
    (both (is_blank e) (blank_fields e) b).1

module _ (d : Directory) (fields : entry_rules d ≡ true) (ok : steady_names d ≡ true) where
  named_steady : (x : ℕ) → named d x ≡ true → steady d x ≡ true
  unfolding entry_rules entry_right steady_names steady_name
  named_steady zero h = absurd (omega (arith, ltb-true 0 0 (both (ltb 0 0) (ltb 0 d.count) h).0))
  named_steady (suc i) h =
      let inside = ltb-true (suc i) d.count (both (ltb 0 (suc i)) (ltb (suc i) d.count) h).1 in
      go (is_object d (suc i)) refl (below_at d.count (steady_name d) ok (suc i) inside) (below_at d.count (entry_right d) fields (suc i) inside)
    where
      go : (t : Bool) → is_object d (suc i) ≡ t → (not (is_object d (suc i)) || steady d (suc i)) ≡ true → entry_fields (suc i) (d.entry (suc i)) ≡ true
          → steady d (suc i) ≡ true
      go true q s f = rw q at s
      go false q s f = blank_steady (d.entry (suc i)) (not_object i (d.entry (suc i)) q f)

  pub former_trees_lem : former_trees d ≡ tree_rules d
  former_trees_lem = trees_same d named_steady

  -- no tree has an entry of another name
  pub forest_steady : all (steady d) (entries (forest d)) ≡ true
  unfolding forest
  forest_steady = grow_steady d named_steady d.count (child (d.entry 0))

-- ---- the verdict

-- from group 15 on
late_same : (trees mini streams owners : Bool)
    → let late = check trees 15 (check mini 16 (check streams 17 (check owners 18 0))) in
    cond (ltb 0 late && ltb late 15) late late ≡ late
unfolding check
late_same false mini streams owners = refl
late_same true false streams owners = refl
late_same true true false owners = refl
late_same true true true false = refl
late_same true true true true = refl

-- the rules in their order, of which group 15 (`trees`) may be asked otherwise (`former`) where group 14 (`e`) holds
verdict_same : (l w h t c d e trees former mini streams owners : Bool) → (e ≡ true → former ≡ trees)
    → let late = check mini 16 (check streams 17 (check owners 18 0)) in
    let now = check l 1 (check w 2 (check h 10 (check t 11 (check c 12 (check d 13 (check e 14 (check trees 15 late))))))) in
    cond (ltb 0 now && ltb now 15) now (check former 15 late) ≡ now
unfolding check
verdict_same false w h t c d e x y m s o q = refl
verdict_same true false h t c d e x y m s o q = refl
verdict_same true true false t c d e x y m s o q = refl
verdict_same true true true false c d e x y m s o q = refl
verdict_same true true true true false d e x y m s o q = refl
verdict_same true true true true true false e x y m s o q = refl
verdict_same true true true true true true false x y m s o q = refl
verdict_same true true true true true true true x y m s o q = rw (q refl) (late_same x m s o)

pub keeps_verdict : (g : Geometry) → KeepsVerdict g
unfolding former_verdict former_late verdict groups volume_groups volume
keeps_verdict g img work ok =
    verdict_same (length_allowed g (length img)) (leb (work_need (length img)) work) (header_rules g img) (table_rules g img)
    (cell_rules (volume g img).sectors) (directory_rules (volume g img)) (entry_rules (directory g img)) (tree_rules (directory g img)) (former_trees (directory g img))
    (mini_rules (volume g img)) (stream_rules (volume g img)) (owner_rules (volume g img)) (λ e. former_trees_lem (directory g img) e ok)

-- ---- names below 0080

units_steady : all_below 0x80 steady_unit ≡ true
unfolding all_below steady_unit fold small_by20 small_by50 former_fold
units_steady = refl

pub plain_steady : (u : ℕ) → plain_unit u ≡ true → steady_unit u ≡ true
unfolding plain_unit
plain_steady u h = below_at 0x80 steady_unit units_steady u (ltb-true u 0x80 h)

or_implied : (a b c : Bool) → (b ≡ true → c ≡ true) → (a || b) ≡ true → (a || c) ≡ true
or_implied true b c h k = refl
or_implied false b c h k = h k

name_steady : (d : Directory) (i : ℕ) → plain_name d i ≡ true → steady_name d i ≡ true
unfolding plain_name steady_name
name_steady d i h =
    let n = name (d.entry i) in
    or_implied (not (is_object d i)) (all plain_unit n) (all steady_unit n) (all_weaker plain_unit steady_unit plain_steady n) h

pub names_steady : (d : Directory) → plain_names d ≡ true → steady_names d ≡ true
unfolding steady_names plain_names
names_steady d ok = below_of d.count (steady_name d) (λ i h. name_steady d i (below_at d.count (plain_name d) ok i h))

pub plain_keeps_verdict : (g : Geometry) → PlainKeepsVerdict g
plain_keeps_verdict g img work ok = keeps_verdict g img work (names_steady (directory g img) ok)
