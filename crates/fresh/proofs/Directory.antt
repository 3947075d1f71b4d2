-- The directory of a fresh image: its chain, its entries, and groups 13 to 15.
use Prim.Native.Nat.{ℕ, zero, suc, ◌+◌, ◌*◌, ◌≤◌, ◌<◌}
use mathlib.Core.Path.{◌≡◌, refl, sym, ap, ◌∙◌}
use mathlib.Core.Bool.{Bool, true, false, cond, ◌||◌}
use native.Mathlib.Nat.{mod-eq_of_lt, mul-le-mul}
use native.Mathlib.Omega.{arith}
use lib.ListN.{length}
use lib.Dec.{eqb}
use borrow.Author.Tests.{lt-ltb, eq-eqb}
use Rattle.format.specs.Basics.Lists.{all, fit}
use Rattle.format.specs.Basics.Bytes.{Bytes, byte_at, part, number, u32at, is_zero, all_zero, le16, le32, le64}
use Rattle.format.specs.Layout.Geometry.{Geometry, size_width, entries_in, sector_count}
use Rattle.format.specs.Layout.Chain.{END, chain, units}
use Rattle.format.specs.Layout.Header.{directory_start}
use Rattle.format.specs.Layout.Tables.{fat_cell, sector_space}
use Rattle.format.specs.Layout.Entry.{NOSTREAM, kind, colour, left, right, child, created, size, start, is_stream}
use Rattle.format.specs.Layout.Directory.{Directory, directory_sectors, entry_count, entry_in, directory_of, size_of}
use Rattle.format.specs.Layout.NewEntry.{new_entry, entry_rest, utf16_bytes, no_links}
use Rattle.format.specs.Layout.Tree.{empty, forest, grow, tree_of, entries}
use Rattle.format.specs.Layout.Volume.{directory_sectors_of, directory}
use Rattle.format.specs.Rules.Entries.{root_fields, common_fields, entry_fields, entry_right, entry_rules}
use Rattle.format.specs.Rules.Trees.{sound, reached_right, reached_once, is_object, every_node, top_black, tree_rules}
use Rattle.theory.specs.Links.{Linked}
use Rattle.theory.proofs.Bytes.{number_le32, number_le64}
use Rattle.theory.proofs.Chains.{linked_chain, follow_is}
use Rattle.theory.proofs.Tests.{below_of}
use Rattle.frame.specs.Kept.{Sized}
use Rattle.frame.proofs.MadeEntries.{fields_blank, kind_blank}
use Rattle.format.specs.Fresh.Plan.{Plan, directory_from, mini_fat_from, mini_stream_from, start_from, mini_stream_bytes, mini_stream_part}
use Rattle.format.specs.Fresh.Cells.{link_in, fresh_cell}
use Rattle.format.specs.Fresh.Image.{root_name, root_entry, fresh_entry, directory_entry, directory_block, fresh_image}
use Rattle.fresh.specs.Facts.{Headed, Planned}
use Rattle.fresh.specs.Run.{run}
use Rattle.fresh.proofs.Runs.{length_run, start_run, run_linked}
use Rattle.fresh.proofs.Numbers.{Order, order, entries_some, stream_short}
use Rattle.fresh.proofs.Blocks.{length_entry, directory_sector}
use Rattle.fresh.proofs.Header.{sector_count_lem, directory_start_lem, start_below}
use Rattle.fresh.proofs.Cells.{cell_directory}
use Rattle.fresh.proofs.Places.{entry_read}
use Rattle.fresh.proofs.Tables.{fat_cell_is}

-- ---- the two kinds of entry

abbrev pub kind_of : ℕ → ℕ
kind_of zero = 5
kind_of (suc i) = 0

module _ (s n : ℕ) (hs : s < 0x1_0000_0000) (hn : n < 0x1_0000_0000) where
  abbrev root₀ : Bytes
  root₀ = root_entry s n

  pub root_kind : kind root₀ ≡ 5
  unfolding root_entry root_name new_entry fit utf16_bytes entry_rest no_links kind byte_at le16 le32 le64
  root_kind = refl

  pub root_child : child root₀ ≡ NOSTREAM
  unfolding root_entry root_name new_entry fit utf16_bytes entry_rest no_links child u32at number part le16 le32 le64
  root_child = refl

  pub root_start_lem : start root₀ ≡ s
  unfolding root_entry root_name new_entry fit utf16_bytes entry_rest no_links start u32at part le16 le32 le64
  root_start_lem = number_le32 s ∙ mod-eq_of_lt hs

  -- both ways of reading a size
  root_size_4 : size 4 root₀ ≡ n
  unfolding root_entry root_name new_entry fit utf16_bytes entry_rest no_links size part le16 le32 le64
  root_size_4 = number_le32 n ∙ mod-eq_of_lt hn

  root_size_8 : size 8 root₀ ≡ n
  unfolding root_entry root_name new_entry fit utf16_bytes entry_rest no_links size part le16 le32 le64
  root_size_8 = number_le64 n (omega arith)

  pub root_size_lem : (g : Geometry) → size (size_width g) root₀ ≡ n
  unfolding size_width
  root_size_lem g = go (eqb g.major 3)
    where
      go : (b : Bool) → size (cond {A = ℕ} b 4 8) root₀ ≡ n
      go true = root_size_4
      go false = root_size_8

  pub root_fields_lem : entry_fields zero root₀ ≡ true
  unfolding entry_fields root_entry root_name new_entry fit utf16_bytes entry_rest no_links root_fields common_fields kind colour left right created byte_at u32at number part all_zero all is_zero le16 le32 le64
  root_fields_lem = refl

-- ---- a part whose cells are links is a chain

module _ (g : Geometry) (p : Plan) (h : Headed g) (q : Planned g p) where
  abbrev z : Sized g
  z = h.sized

  abbrev img : Bytes
  img = fresh_image g p

  abbrev o : Order g p z q
  o = order g p z q

  pub limit_end : sector_count g img ≤ END
  limit_end = rw (sector_count_lem g p h q) (omega (arith, o))

  pub part_linked : (from n end : ℕ) → end ≡ from + n → end ≤ p.sectors → ((u : ℕ) → from ≤ u → u < end → fresh_cell g p u ≡ link_in end u)
      → Linked (fat_cell g img) (sector_count g img) (run from n)
  part_linked from n end e l links =
      rw (sector_count_lem g p h q)
      (run_linked (fat_cell g img) p.sectors from n (omega arith) (λ u a b. fat_cell_is g p h q u ∙ rw (← e) (links u a (omega arith))))

  -- the units that a chain of so many from there has
  pub part_units : (from n : ℕ) → Linked (fat_cell g img) (sector_count g img) (run from n)
      → (chain (fat_cell g img) (sector_count g img) n (start_from from n) ≡ true) × (units (fat_cell g img) n (start_from from n) ≡ run from n)
  part_units from n l =
      linked_chain (fat_cell g img) (sector_count g img) n (start_from from n) (run from n) l (length_run from n) (start_run from n)

  -- ---- the directory's chain

  pub directory_linked : Linked (fat_cell g img) (sector_count g img) (run (directory_from g p) p.directory)
  directory_linked =
      part_linked (directory_from g p) p.directory (mini_fat_from g p) (omega (arith, o)) (omega (arith, o)) (cell_directory g p z q)

  pub directory_head : start_from (directory_from g p) p.directory ≡ directory_from g p
  unfolding start_from
  directory_head = go p.directory o.some
    where
      go : (n : ℕ) → 1 ≤ n → start_from (directory_from g p) n ≡ directory_from g p
      go zero l = absurd (omega arith)
      go (suc n) l = refl

  pub directory_starts : directory_start img ≡ start_from (directory_from g p) p.directory
  directory_starts = directory_start_lem g p h q ∙ sym directory_head

  pub directory_sectors_are : directory_sectors_of g img ≡ run (directory_from g p) p.directory
  unfolding directory_sectors_of directory_sectors sector_space
  directory_sectors_are =
      let u = part_units (directory_from g p) p.directory directory_linked in
      rw (directory_starts)
      (follow_is (fat_cell g img) (sector_count g img) p.directory (start_from (directory_from g p) p.directory) limit_end u.0 ∙ u.1)

  -- as many as the plan says
  pub directory_sectors_many : length (directory_sectors_of g img) ≡ p.directory
  directory_sectors_many = rw directory_sectors_are (length_run (directory_from g p) p.directory)

  -- ---- the entries

  pub entry_count_is : (directory g img).count ≡ entries_in g * p.directory
  unfolding directory directory_of entry_count
  entry_count_is = rw (directory_sectors_are, length_run (directory_from g p) p.directory)

  pub entry_is : (i : ℕ) → i < entries_in g * p.directory → (directory g img).entry i ≡ fresh_entry g p i
  unfolding directory directory_of entry_in entry_count directory_block directory_entry
  entry_is i l =
      rw (directory_sectors_are, length_run (directory_from g p) p.directory, lt-ltb i (entries_in g * p.directory) l)
      (entry_read g p z (fresh_entry g p) (λ i. length_entry g p i) (directory_from g p) p.directory i (directory_sector g p z q) (omega (arith, o)) l)

  pub entries_exist : 0 < entries_in g * p.directory
  entries_exist = omega (arith, mul-le-mul (entries_some g z) o.some)

  -- the root
  abbrev root_start : ℕ
  root_start = start_from (mini_stream_from g p) (mini_stream_part g p)

  start_small : root_start < 0x1_0000_0000
  start_small = start_below (mini_stream_from g p) (mini_stream_part g p) (omega (arith, o))

  size_small : mini_stream_bytes p < 0x1_0000_0000
  size_small = omega (arith, stream_short g p z q)

  pub root_is : (directory g img).entry 0 ≡ root_entry root_start (mini_stream_bytes p)
  unfolding fresh_entry
  root_is = entry_is 0 entries_exist

  pub root_starts : start ((directory g img).entry 0) ≡ root_start
  root_starts = ap start root_is ∙ root_start_lem root_start (mini_stream_bytes p) start_small size_small

  pub root_has : size_of (directory g img) 0 ≡ mini_stream_bytes p
  unfolding size_of directory directory_of
  root_has = ap (size (size_width g)) root_is ∙ root_size_lem root_start (mini_stream_bytes p) start_small size_small g

  -- ---- GROUP 14

  fields_at : (i : ℕ) → entry_fields i (fresh_entry g p i) ≡ true
  unfolding fresh_entry
  fields_at zero = root_fields_lem root_start (mini_stream_bytes p) start_small size_small
  fields_at (suc i) = fields_blank i

  pub entry_rule : entry_rules (directory g img) ≡ true
  unfolding entry_rules entry_right
  entry_rule =
      below_of (directory g img).count (entry_right (directory g img)) (λ i l. rw (entry_is i (rw entry_count_is at l)) (fields_at i))

  -- ---- GROUP 15: there is no tree

  grow_none : (d : Directory) (n : ℕ) → grow d n NOSTREAM ≡ empty
  unfolding grow tree_of
  grow_none d zero = refl
  grow_none d (suc n) = refl

  pub forest_empty : forest (directory g img) ≡ empty
  unfolding forest
  forest_empty =
      ap (grow (directory g img) (directory g img).count) (ap child root_is ∙ root_child root_start (mini_stream_bytes p) start_small size_small)
      ∙ grow_none (directory g img) (directory g img).count

  -- the type of each entry
  pub kind_at : (i : ℕ) → kind (fresh_entry g p i) ≡ kind_of i
  unfolding fresh_entry
  kind_at zero = root_kind root_start (mini_stream_bytes p) start_small size_small
  kind_at (suc i) = kind_blank

  pub no_object : (i : ℕ) → i < entries_in g * p.directory → is_object (directory g img) i ≡ false
  no_object i l = rw (entry_is i l, kind_at i) (go i)
    where
      go : (i : ℕ) → (eqb (kind_of i) 1 || eqb (kind_of i) 2) ≡ false
      go zero = refl
      go (suc i) = refl

  pub no_stream : (i : ℕ) → i < entries_in g * p.directory → is_stream ((directory g img).entry i) ≡ false
  no_stream i l = rw (entry_is i l, kind_at i) (go i)
    where
      go : (i : ℕ) → eqb (kind_of i) 2 ≡ false
      go zero = refl
      go (suc i) = refl

  reached_rule : reached_once (directory g img) ≡ true
  unfolding reached_once reached_right entries
  reached_rule =
      below_of (directory g img).count (reached_right (directory g img))
      (λ i l. rw (forest_empty, no_object i (rw entry_count_is at l)) (eq-eqb 0 0 refl))

  pub tree_rule : tree_rules (directory g img) ≡ true
  unfolding tree_rules sound every_node top_black
  tree_rule = rw (reached_rule, forest_empty)
