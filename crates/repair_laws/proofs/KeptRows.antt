-- Where a repair answers 0, every stream has the bytes that it had.
use Prim.Native.Nat.{ℕ, ◌*◌, ◌≤◌, ◌<◌}
use mathlib.Core.Path.{◌≡◌, refl, sym, ap, ap₂, ◌∙◌, subst}
use mathlib.Core.Bool.{Bool, true, false, cond}
use mathlib.Core.List.{List, [], ◌∷◌, ◌++◌}
use native.Mathlib.Omega.{arith}
use lib.Dec.{ltb, eqb}
use lib.ListN.{length, take}
use Rattle.format.specs.Basics.Lists.{count}
use Rattle.format.specs.Basics.Bytes.{Bytes, part}
use Rattle.format.specs.Layout.Geometry.{Geometry, sector_count, mini_bytes, place_in}
use Rattle.format.specs.Layout.Need.{cutoff, round_up}
use Rattle.format.specs.Layout.Chain.{END, units}
use Rattle.format.specs.Layout.Space.{units_for, block, laid}
use Rattle.format.specs.Layout.Name.{Name}
use Rattle.format.specs.Layout.Entry.{name, start, is_stream}
use Rattle.format.specs.Layout.Directory.{size_of}
use Rattle.format.specs.Layout.Tables.{fat_cell, sector_space}
use Rattle.format.specs.Layout.Tree.{Forest, empty, broken, node, forest, entries}
use Rattle.format.specs.Layout.Volume.{Volume, volume, mini_space, mini_stream_sectors, directory}
use Rattle.format.specs.Layout.Stream.{stream_size, stream_units, contents}
use Rattle.format.specs.Rules.Length.{length_allowed}
use Rattle.format.specs.Rules.Verdict.{Accepted}
use Rattle.format.specs.Calls.RepairSteps.{repaired}
use Rattle.format.specs.History.Rows.{Row, rows_in, rows_of}
use Rattle.theory.specs.Links.{Linked}
use Rattle.theory.proofs.Counts.{bit_self}
use Rattle.theory.proofs.Trees.Grow.{count_node}
use Rattle.theory.proofs.Chains.{units_agree, linked_below, linked_not_free}
use Rattle.theory.proofs.Contents.{laid_agree}
use Rattle.frame.specs.Kept.{Sized}
use Rattle.frame.specs.Groups.{ImageGroups}
use Rattle.frame.proofs.Accepted.{accepted_kept}
use Rattle.frame.proofs.Sound.{Sound, sound_of}
use Rattle.frame.proofs.Streams.{space_large, space_small, stream_in_sectors, stream_in_minis, stream_apart}
use Rattle.repair_laws.specs.Steps.{after4, Taken}
use Rattle.repair_laws.proofs.SameLists.{cell_AE, sector_AE, system_off, mini_AE, mini_stream_off, mini_cell_AE, limit_CE}
use Rattle.repair_laws.proofs.BlackFields.{black_start}
use Rattle.repair_laws.proofs.BlackDirectory.{field_same, kind_same, size_same, name_same, forest_same}
use Rattle.repair_laws.proofs.Listed.{acc_E, good_E, black_AE, names_AE}

module _ (g : Geometry) (z : Sized g) (A : Bytes) (ok : length_allowed g (length A) ≡ true) (k : Taken g A) (acc : Accepted g (repaired g A)) where
  abbrev E : Bytes
  E = after4 g A

  abbrev v_A : Volume
  v_A = volume g A

  abbrev v_E : Volume
  v_E = volume g E

  groups_E : ImageGroups g E
  groups_E = accepted_kept g E (acc_E g z A ok k acc)

  sound_E : Sound g E
  sound_E = sound_of g z E groups_E

  limit : sector_count g E ≤ END
  limit = omega (arith, sound_E.few)

  -- a chain of the outcome is one of the image
  chain_AE : (n s : ℕ) → Linked (fat_cell g E) (sector_count g E) (units (fat_cell g E) n s) → units (fat_cell g A) n s ≡ units (fat_cell g E) n s
  chain_AE n s l =
      units_agree (fat_cell g E) (fat_cell g A) n s
      (λ u q. cell_AE g z A ok k acc u (linked_below (fat_cell g E) (sector_count g E) (units (fat_cell g E) n s) l u q) (linked_not_free (fat_cell g E) (sector_count g E) limit (units (fat_cell g E) n s) l u q))

  size_AE : (i : ℕ) → size_of v_E.directory i ≡ size_of v_A.directory i
  size_AE = size_same v_A.directory v_E.directory (black_AE g z A ok k acc)

  stream_size_AE : (i : ℕ) → stream_size v_E i ≡ stream_size v_A i
  unfolding stream_size
  stream_size_AE i = size_AE i

  start_AE : (i : ℕ) → start (v_E.directory.entry i) ≡ start (v_A.directory.entry i)
  start_AE i = field_same v_A.directory v_E.directory (black_AE g z A ok k acc) start black_start i

  sectors_units : (img : Bytes) (n s : ℕ) → units_for (volume g img).sectors n s ≡ units (fat_cell g img) (round_up n g.sector_bytes) s
  unfolding units_for volume sector_space
  sectors_units img n s = refl

  sector_block_is : (c d img : Bytes) (u : ℕ) → block (volume g c).sectors img u ≡ block (volume g d).sectors img u
  unfolding block volume sector_space
  sector_block_is c d img u = refl

  -- ---- a large stream

  module _ (i : ℕ) (inside : i < v_E.directory.count) (st : is_stream (v_E.directory.entry i) ≡ true) (large : ltb (stream_size v_E i) cutoff ≡ false) where
    units_E : stream_units v_E i ≡ units (fat_cell g E) (round_up (stream_size v_E i) g.sector_bytes) (start (v_E.directory.entry i))
    unfolding stream_units
    units_E = ap (λ sp. units_for sp (stream_size v_E i) (start (v_E.directory.entry i))) (space_large v_E (stream_size v_E i) large) ∙ sectors_units E (stream_size v_E i) (start (v_E.directory.entry i))

    large_A : ltb (stream_size v_A i) cutoff ≡ false
    large_A = ap (λ n. ltb n cutoff) (sym (stream_size_AE i)) ∙ large

    units_A : stream_units v_A i ≡ stream_units v_E i
    unfolding stream_units
    units_A =
        ap (λ sp. units_for sp (stream_size v_A i) (start (v_A.directory.entry i))) (space_large v_A (stream_size v_A i) large_A)
        ∙ ap₂ (λ n s. units_for v_A.sectors n s) (sym (stream_size_AE i)) (sym (start_AE i))
        ∙ sectors_units A (stream_size v_E i) (start (v_E.directory.entry i))
        ∙ chain_AE (round_up (stream_size v_E i) g.sector_bytes) (start (v_E.directory.entry i)) (subst (λ l. Linked (fat_cell g E) (sector_count g E) l) units_E (stream_in_sectors g z E groups_E i inside st large))
        ∙ sym units_E

    pub large_same : contents v_E E i ≡ contents v_A A i
    unfolding contents
    large_same =
        ap₂ (λ n l. take n l) (stream_size_AE i)
        (ap (λ sp. laid (block sp E) (stream_units v_E i)) (space_large v_E (stream_size v_E i) large)
        ∙ laid_agree (block v_A.sectors A) (block v_E.sectors E) (stream_units v_E i)
        (λ u q. sector_block_is E A E u ∙ sector_AE g z A ok k acc A u (system_off g z A ok k acc u (stream_apart g z E groups_E i inside st large u q)))
        ∙ ap (laid (block v_A.sectors A)) (sym units_A)
        ∙ sym (ap (λ sp. laid (block sp A) (stream_units v_A i)) (space_large v_A (stream_size v_A i) large_A)))

  -- ---- the mini stream

  root_stream : (img : Bytes) → mini_stream_sectors g img ≡ units (fat_cell g img) (round_up (size_of (volume g img).directory 0) g.sector_bytes) (start ((volume g img).directory.entry 0))
  unfolding mini_stream_sectors units_for sector_space volume
  root_stream img = refl

  stream_linked : Linked (fat_cell g E) (sector_count g E) (mini_stream_sectors g E)
  unfolding volume sector_space
  stream_linked = (good_E g z A ok k acc).mini_stream.linked

  pub mini_stream_AE : mini_stream_sectors g A ≡ mini_stream_sectors g E
  mini_stream_AE =
      root_stream A
      ∙ ap₂ (λ n s. units (fat_cell g A) (round_up n g.sector_bytes) s) (sym (size_AE 0)) (sym (start_AE 0))
      ∙ chain_AE (round_up (size_of v_E.directory 0) g.sector_bytes) (start (v_E.directory.entry 0)) (subst (λ l. Linked (fat_cell g E) (sector_count g E) l) (root_stream E) stream_linked)
      ∙ sym (root_stream E)

  mini_units_are : (img : Bytes) (n s : ℕ) → units_for (volume g img).minis n s ≡ units (volume g img).minis.cell (round_up n 64) s
  unfolding units_for volume mini_space mini_bytes
  mini_units_are img n s = refl

  mini_block_is : (u : ℕ) → block v_E.minis A u ≡ block v_A.minis A u
  unfolding block volume mini_space
  mini_block_is u = ap (λ (l : List ℕ). part A (place_in g l (mini_bytes * u)) mini_bytes) (sym mini_stream_AE)

  -- ---- a small stream

  module _ (i : ℕ) (inside : i < v_E.directory.count) (st : is_stream (v_E.directory.entry i) ≡ true) (small : ltb (stream_size v_E i) cutoff ≡ true) where
    small_A : ltb (stream_size v_A i) cutoff ≡ true
    small_A = ap (λ n. ltb n cutoff) (sym (stream_size_AE i)) ∙ small

    minis_linked : Linked v_E.minis.cell v_E.minis.limit (stream_units v_E i)
    minis_linked = stream_in_minis g z E groups_E i inside st small

    minis_E : stream_units v_E i ≡ units v_E.minis.cell (round_up (stream_size v_E i) 64) (start (v_E.directory.entry i))
    unfolding stream_units
    minis_E = ap (λ sp. units_for sp (stream_size v_E i) (start (v_E.directory.entry i))) (space_small v_E (stream_size v_E i) small) ∙ mini_units_are E (stream_size v_E i) (start (v_E.directory.entry i))

    below_K : (u : ℕ) → 0 < count u (stream_units v_E i) → u < v_E.minis.limit
    below_K u q = linked_below v_E.minis.cell v_E.minis.limit (stream_units v_E i) minis_linked u q

    minis_A : stream_units v_A i ≡ stream_units v_E i
    unfolding stream_units
    minis_A =
        ap (λ sp. units_for sp (stream_size v_A i) (start (v_A.directory.entry i))) (space_small v_A (stream_size v_A i) small_A)
        ∙ ap₂ (λ n s. units_for v_A.minis n s) (sym (stream_size_AE i)) (sym (start_AE i))
        ∙ mini_units_are A (stream_size v_E i) (start (v_E.directory.entry i))
        ∙ units_agree v_E.minis.cell v_A.minis.cell (round_up (stream_size v_E i) 64) (start (v_E.directory.entry i))
        (λ u q.
        let q' = subst (λ l. 0 < count u l) (sym minis_E) q in
        mini_cell_AE g z A ok k acc u (subst (λ n. u < n) (sym (limit_CE g z A ok k acc)) (below_K u q')) (linked_not_free v_E.minis.cell v_E.minis.limit ((good_E g z A ok k acc).lim true) (stream_units v_E i) minis_linked u q'))
        ∙ sym minis_E

    pub small_same : contents v_E E i ≡ contents v_A A i
    unfolding contents
    small_same =
        ap₂ (λ n l. take n l) (stream_size_AE i)
        (ap (λ sp. laid (block sp E) (stream_units v_E i)) (space_small v_E (stream_size v_E i) small)
        ∙ laid_agree (block v_A.minis A) (block v_E.minis E) (stream_units v_E i) (λ u q. mini_AE g z A ok k acc (mini_stream_off g z A ok k acc) u (below_K u q) ∙ mini_block_is u)
        ∙ ap (laid (block v_A.minis A)) (sym minis_A)
        ∙ sym (ap (λ sp. laid (block sp A) (stream_units v_A i)) (space_small v_A (stream_size v_A i) small_A)))

  pub contents_AE : (i : ℕ) → i < v_E.directory.count → is_stream (v_E.directory.entry i) ≡ true → contents v_E E i ≡ contents v_A A i
  contents_AE i h st = go (ltb (stream_size v_E i) cutoff) refl
    where
      go : (t : Bool) → ltb (stream_size v_E i) cutoff ≡ t → contents v_E E i ≡ contents v_A A i
      go true s = small_same i h st s
      go false s = large_same i h st s

  -- ---- the rows

  row_same : (before : List Name) (y : ℕ) (t : Bool) → is_stream (v_E.directory.entry y) ≡ t → y < v_E.directory.count →
      ◌≡◌ {A = List Row} (cond t (record { path = before; bytes = contents v_E E y } ∷ []) []) (cond t (record { path = before; bytes = contents v_A A y } ∷ []) [])
  row_same before y true e h = ap (λ b. record { path = before; bytes = b } ∷ []) (contents_AE y h e)
  row_same before y false e h = refl

  rows_same : (before : List Name) (t : Forest) → ((x : ℕ) → 0 < count x (entries t) → 0 < count x (entries (forest v_A.directory))) → rows_in v_E E before t ≡ rows_in v_A A before t
  unfolding rows_in
  rows_same before empty h = refl
  rows_same before broken h = refl
  rows_same before (node l y b r) h =
      let black = black_AE g z A ok k acc in
      let lie = names_AE g z A ok k acc in
      let hy = h y (omega (arith, count_node y l y b r, bit_self y)) in
      let path = before ++ (name (v_A.directory.entry y) ∷ []) in
      let inside : y < v_E.directory.count = omega (arith, black.rows, (lie y hy).0) in
      let one = row_same path y (is_stream (v_E.directory.entry y)) refl inside in
      rw (name_same v_A.directory v_E.directory black lie y hy)
      (ap₂ ◌++◌ (ap₂ ◌++◌ (ap₂ ◌++◌ (rows_same before l (λ x q. h x (omega (arith, count_node x l y b r))))
      (one ∙ ap (λ n. cond (eqb n 2) (record { path = path; bytes = contents v_A A y } ∷ []) []) (kind_same v_A.directory v_E.directory black y)))
      (rows_same path b (λ x q. h x (omega (arith, count_node x l y b r)))))
      (rows_same before r (λ x q. h x (omega (arith, count_node x l y b r)))))

  pub rows_AE : rows_of g E ≡ rows_of g A
  unfolding rows_of
  rows_AE = ap (rows_in v_E E []) (forest_same v_A.directory v_E.directory (black_AE g z A ok k acc)) ∙ rows_same [] (forest v_A.directory) (λ x q. q)
