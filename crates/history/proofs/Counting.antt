-- The allocated units are the system's and what the rows need, and the others are free.
use Prim.Native.Nat.{ℕ, ◌+◌, ◌*◌, ◌<◌}
use mathlib.Core.Path.{◌≡◌, refl, sym, ap, ◌∙◌}
use mathlib.Core.Logic.{inl, inr}
use mathlib.Core.Bool.{Bool, true, false, cond, ◌&&◌, ◌||◌, or-true, beq}
use mathlib.Core.List.{List, [], ◌∷◌, ◌++◌, map}
use native.Mathlib.Omega.{arith}
use lib.Dec.{ltb, eqb}
use lib.ListN.{length}
use Rattle.format.specs.Basics.Lists.{count, bit, sum}
use Rattle.format.specs.Basics.Bytes.{Bytes}
use Rattle.format.specs.Layout.Need.{cutoff, round_up}
use Rattle.format.specs.Layout.Space.{allocated, free_units}
use Rattle.format.specs.Layout.Name.{Name}
use Rattle.format.specs.Layout.Entry.{name, kind, is_stream}
use Rattle.format.specs.Layout.Tree.{Forest, empty, broken, node, forest, entries}
use Rattle.format.specs.Layout.Volume.{Volume}
use Rattle.format.specs.Layout.Stream.{stream_units, contents, stream_size}
use Rattle.format.specs.Rules.Trees.{is_object}
use Rattle.format.specs.History.Rows.{Row, rows_in, total, need_of}
use Rattle.theory.specs.Sums.{sum_below, lengths}
use Rattle.theory.specs.TreeOrder.{Rules}
use Rattle.theory.proofs.Counts.{sum_ext, eqb_cases, bit_self}
use Rattle.theory.proofs.Owned.{allocated_is, free_count}
use Rattle.theory.proofs.ListSums.{lengths_below, sum_map_append, sum_map_count}
use Rattle.theory.proofs.Trees.Grow.{count_node}
use Rattle.theory.proofs.Trees.Nodes.{reached_inside, shape_count}
use Rattle.theory.proofs.Trees.Rules.{rules_apart}
use Rattle.frame.specs.Good.{space_of, system_of, units_of, entry_units, Good, side_of}
use Rattle.history.proofs.Filled.{Sized, length_contents}

-- ---- the rows' needs

-- the need in the space b
unfoldable pub space_need : Volume → Bool → ℕ → ℕ
space_need v b n = cond (beq b (ltb n cutoff)) (round_up n (space_of v b).unit) 0

-- what the entry x adds to a sum of needs
unfoldable pub entry_need : Volume → (ℕ → ℕ) → ℕ → ℕ
entry_need v need x = cond (is_stream (v.directory.entry x)) (need (stream_size v x)) 0

module _ (v : Volume) (img : Bytes) (o : Good v) (sized : Sized v img) where
  rows_need : (need : ℕ → ℕ) (before : List Name) (t : Forest) → ((s : ℕ) → 0 < count s (entries t) → s < v.directory.count) →
      total need (rows_in v img before t) ≡ sum (map (entry_need v need) (entries t))
  unfolding rows_in entries total need_of sum entry_need
  rows_need need before empty h = refl
  rows_need need before broken h = refl
  rows_need need before (node l e b r) h =
      let path = before ++ (name (v.directory.entry e) ∷ []) in
      let st = is_stream (v.directory.entry e) in
      let row : Row = record { path = path; bytes = contents v img e } in
      let p = rows_need need before l (λ s q. h s (omega (arith, count_node s l e b r))) in
      let q = rows_need need path b (λ s q. h s (omega (arith, count_node s l e b r))) in
      let u = rows_need need before r (λ s q. h s (omega (arith, count_node s l e b r))) in
      let b1 = sum_map_append (need_of need) (rows_in v img before l ++ cond st (row ∷ []) [] ++ rows_in v img path b) (rows_in v img before r) in
      let b2 = sum_map_append (need_of need) (rows_in v img before l ++ cond st (row ∷ []) []) (rows_in v img path b) in
      let b3 = sum_map_append (need_of need) (rows_in v img before l) (cond st (row ∷ []) []) in
      let c1 = sum_map_append (entry_need v need) (entries l) (e ∷ (entries b ++ entries r)) in
      let c2 = sum_map_append (entry_need v need) (entries b) (entries r) in
      let d = one_row st refl path (h e (omega (arith, count_node e l e b r, bit_self e))) in
      omega arith
    where
      one_row : (st : Bool) → is_stream (v.directory.entry e) ≡ st → (path : List Name) → e < v.directory.count →
          total need (cond st (record { path = path; bytes = contents v img e } ∷ []) []) ≡ cond st (need (stream_size v e)) 0
      one_row true z path k = rw (length_contents v img o sized e k z) (omega arith)
      one_row false z path k = refl

  abbrev rules : Rules v.directory
  rules = rules_apart v.directory o.trees

  pub inside_forest : (s : ℕ) → 0 < count s (entries (forest v.directory)) → s < v.directory.count
  unfolding forest
  inside_forest = reached_inside v.directory rules.shape

  pub reached : (s : ℕ) → s < v.directory.count → count s (entries (forest v.directory)) ≡ bit (is_object v.directory s)
  unfolding forest
  reached = shape_count v.directory rules.shape

  entries_need : (need : ℕ → ℕ) → sum (map (entry_need v need) (entries (forest v.directory))) ≡ sum_below (entry_need v need) v.directory.count
  unfolding entry_need
  entries_need need =
      sum_map_count (entry_need v need) v.directory.count (entries (forest v.directory)) inside_forest
      ∙ sum_ext (λ s. count s (entries (forest v.directory)) * entry_need v need s) (entry_need v need) v.directory.count
      (λ s h. rw (reached s h) (go (kind (v.directory.entry s)) (need (stream_size v s))))
    where
      go : (k m : ℕ) → bit (eqb k 1 || eqb k 2) * cond (eqb k 2) m 0 ≡ cond (eqb k 2) m 0
      go k m =
          elim (eqb_cases k 2) [
            | inl e ↦ rw (e.1, or-true (eqb k 1)) (omega arith)
            | inr e ↦ rw e.1 (omega arith)
          ]

  unit_need : (b : Bool) (i : ℕ) → i < v.directory.count → length (units_of v b i) ≡ entry_need v (space_need v b) i
  unfolding entry_need units_of space_need
  unit_need b i h = go (is_stream (v.directory.entry i)) (λ st. (o.chains i h st).long)
    where
      side_need : (b side : Bool) (n : ℕ) (us : List ℕ) → length us ≡ round_up n (space_of v side).unit →
          length (cond (beq b side) us []) ≡ cond (beq b side) (round_up n (space_of v b).unit) 0
      side_need true true n us k = k
      side_need true false n us k = refl
      side_need false true n us k = refl
      side_need false false n us k = k

      go : (st : Bool) → (st ≡ true → length (stream_units v i) ≡ round_up (stream_size v i) (space_of v (side_of v i)).unit) →
          length (cond (st && beq b (side_of v i)) (stream_units v i) [])
          ≡ cond st (cond (beq b (side_of v i)) (round_up (stream_size v i) (space_of v b).unit) 0) 0
      go true k = side_need b (side_of v i) (stream_size v i) (stream_units v i) (k refl)
      go false k = refl

  entry_units_need : (b : Bool) → lengths (entry_units v b) ≡ total (space_need v b) (rows_in v img [] (forest v.directory))
  unfolding entry_units
  entry_units_need b =
      lengths_below v.directory.count (units_of v b)
      ∙ sum_ext (λ i. length (units_of v b i)) (entry_need v (space_need v b)) v.directory.count (unit_need b)
      ∙ sym (rows_need (space_need v b) [] (forest v.directory) inside_forest ∙ entries_need (space_need v b))

  pub allocated_by_rows : (b : Bool) → allocated (space_of v b) ≡ length (system_of v b) + total (space_need v b) (rows_in v img [] (forest v.directory))
  unfolding allocated
  allocated_by_rows b =
      let sp = space_of v b in
      allocated_is sp.limit (o.lim b) (system_of v b) sp.cell (entry_units v b) (o.owned b)
      ∙ ap (λ k. length (system_of v b) + k) (entry_units_need b)

  pub free_by_rows : (b : Bool) → length (system_of v b) + total (space_need v b) (rows_in v img [] (forest v.directory)) + length (free_units (space_of v b))
      ≡ (space_of v b).limit
  unfolding free_units
  free_by_rows b =
      let sp = space_of v b in
      let k = free_count sp.limit (o.lim b) (system_of v b) sp.cell (entry_units v b) (o.owned b) in
      omega (arith, entry_units_need b)
