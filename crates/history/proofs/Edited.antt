-- An accepted edit of a good volume leaves a good volume.
use Prim.Native.Nat.{ℕ, zero, suc, ◌+◌, ◌-◌, ◌≤◌, ◌<◌}
use mathlib.Core.Path.{◌≡◌, refl, sym, ap, ap₂, ◌∙◌, subst}
use mathlib.Core.Logic.{◌≢◌}
use mathlib.Core.Bool.{Bool, true, false, ◌||◌}
use mathlib.Core.List.{List, ◌++◌}
use native.Mathlib.Omega.{arith}
use native.Mathlib.Decide.{ℕ_discrete}
use lib.Dec.{ltb}
use lib.ListN.{length}
use Rattle.format.specs.Rules.Directory.{count_right}
use Rattle.format.specs.Basics.Lists.{all_below, count}
use Rattle.format.specs.Basics.Bytes.{Bytes}
use Rattle.format.specs.Layout.Need.{cutoff, round_up}
use Rattle.format.specs.Layout.Chain.{FREE, END, start_of}
use Rattle.format.specs.Layout.Entry.{name, kind, colour, left, right, child, is_stream, size, start}
use Rattle.format.specs.Layout.Directory.{size_of}
use Rattle.format.specs.Layout.Volume.{Volume, root, root_size, system_sectors}
use Rattle.format.specs.Layout.Stream.{stream_units, stream_size}
use Rattle.format.specs.Rules.Cells.{plain_cell, rest_free, cell_rules, table_mark, spare_cell_free, fat_cell_right}
use Rattle.format.specs.Rules.Entries.{entry_rules, entry_fields, entry_right}
use Rattle.theory.specs.Links.{Linked}
use Rattle.theory.proofs.Counts.{count_append}
use Rattle.theory.proofs.OwnerCounts.{owners_at}
use Rattle.theory.proofs.Chains.{linked_agree}
use Rattle.theory.proofs.Owned.{stays}
use Rattle.theory.proofs.Tests.{both, and_true_of, below_at, below_of, clash}
use Rattle.frame.specs.Good.{space_of, units_of, entry_units, Chain, Good, side_of}
use Rattle.history.specs.Changed.{Changed}
use Rattle.history.specs.Alike.{Alike}
use Rattle.history.proofs.Alike.{trees_same}
use Rattle.history.proofs.EditedUnits.{edit_becomes, edit_cells, edited_units, in_entry_units, limit_same, unit_same, units_other, cells_same, edit_linked, other_chain, owned_after, size_other}
use Rattle.history.proofs.CellCases.{rechain_cases, or_more, plain_free, plain_end, plain_number}
use Rattle.frame.proofs.EntryFacts.{entry_fields_lem, root_no_stream, edited_fields}

-- ---- the edit

module _ {v w : Volume} {img img' : Bytes} {e new : ℕ} {ws : Bool → List ℕ} {c : Bool → Bytes} (o : Good v) (x : Changed v w img img' e new ws c) where
  -- the system's cells stay
  system_cells_stay : (s : ℕ) → 0 < count s (system_sectors v) → w.sectors.cell s ≡ v.sectors.cell s
  system_cells_stay s h =
      let d = o.owned false in
      stays v.sectors.limit (o.lim false) (system_sectors v) v.sectors.cell (entry_units v false) d e (in_entry_units o x false) (ws false)
      (edit_becomes o x false)
      w.sectors.cell (edit_cells o x false) s (d.within s h) (d.system s h) (omega (arith, owners_at s e (entry_units v false), d.single s))

  system_chain_stays : (us : List ℕ) (s n : ℕ) → ((t : ℕ) → 0 < count t us → 0 < count t (system_sectors v)) → Chain v.sectors us s n → Chain w.sectors us s n
  system_chain_stays us s n inside k =
      record {
        linked = rw x.parts.sector_limit (linked_agree v.sectors.cell w.sectors.cell v.sectors.limit us (λ t q. system_cells_stay t (inside t q))
            k.linked);
        head = k.head;
        long = k.long;
      }

  counts_in_system : (t : ℕ) → (count t v.directory_sectors ≤ count t (system_sectors v)) × (count t v.mini_fat ≤ count t (system_sectors v)) ×
      (count t v.mini_stream ≤ count t (system_sectors v))
  unfolding system_sectors
  counts_in_system t =
      let a = count_append t (v.fat ++ v.difat) v.directory_sectors in
      let b = count_append t (v.fat ++ v.difat ++ v.directory_sectors) v.mini_fat in
      let d = count_append t (v.fat ++ v.difat ++ v.directory_sectors ++ v.mini_fat) v.mini_stream in
      (omega arith, omega arith, omega arith)

  -- cells
  plain_same : (b : Bool) (y : ℕ) → plain_cell (space_of w b) y ≡ plain_cell (space_of v b) y
  unfolding plain_cell
  plain_same b y = rw (limit_same o x b)

  plain_kept : (P : ℕ → Bool) (b : Bool) → P FREE ≡ true → P END ≡ true → ((t : ℕ) → t < (space_of v b).limit → P t ≡ true) → (s : ℕ) → s < (space_of v b).limit →
      P ((space_of v b).cell s) ≡ true → P ((space_of w b).cell s) ≡ true
  plain_kept P b pf pe pn s h k =
      rw ((x.cells b).cells s h)
      (rechain_cases (λ y. P y ≡ true) (units_of v b e) (ws b) (space_of v b).cell s pf pe (λ t q. pn t ((x.becomes b).from t q).0) k)

  rest_kept : (b : Bool) → rest_free (space_of v b) ≡ true → rest_free (space_of w b) ≡ true
  unfolding rest_free spare_cell_free
  rest_kept b h =
      rw (limit_same o x b, cells_same o x b)
      (below_of ((space_of v b).cells - (space_of v b).limit) _
      (λ i q. rw (limit_same o x b, (x.cells b).rest ((space_of v b).limit + i) (omega arith)) (below_at ((space_of v b).cells - (space_of v b).limit) _ h i q)))

  cells_after : cell_rules w.sectors ≡ true
  unfolding cell_rules fat_cell_right
  cells_after =
      let r = both (all_below v.sectors.limit (fat_cell_right v.sectors)) (rest_free v.sectors) o.cells in
      and_true_of (all_below w.sectors.limit (fat_cell_right w.sectors)) (rest_free w.sectors)
      (below_of w.sectors.limit _
      (λ s h'.
      let h : s < v.sectors.limit = omega (arith, x.parts.sector_limit) in
      rw (plain_same false (w.sectors.cell s))
      (plain_kept (λ y. table_mark y || plain_cell v.sectors y) false
      (or_more (table_mark FREE) _ (plain_free v.sectors)) (or_more (table_mark END) _ (plain_end v.sectors))
      (λ t q. or_more (table_mark t) _ (plain_number v.sectors t q)) s h
      (below_at v.sectors.limit (fat_cell_right v.sectors) r.0 s h))))
      (rest_kept false r.1)

  mini_cells_after : (m : ℕ) → m < w.minis.limit → plain_cell w.minis (w.minis.cell m) ≡ true
  mini_cells_after m h' =
      let h : m < v.minis.limit = omega (arith, x.parts.mini_limit) in
      rw (plain_same true (w.minis.cell m))
      (plain_kept (plain_cell v.minis) true (plain_free v.minis) (plain_end v.minis) (plain_number v.minis) m h (o.mini_cells m h))

  -- entries
  pub not_root : e ≢ 0
  not_root z = clash x.stream (ap (λ i. is_stream (v.directory.entry i)) z ∙ root_no_stream o (omega (arith, x.inside)))

  edited_entry : entry_fields e (w.directory.entry e) ≡ true
  edited_entry = go e refl
    where
      go : (i : ℕ) → i ≡ e → entry_fields i (w.directory.entry e) ≡ true
      go zero z = absurd (not_root (sym z))
      go (suc i) z = edited_fields (v.directory.entry e) i (w.directory.entry e) x.stream x.fields (rw z (entry_fields_lem o e x.inside))

  entries_after : entry_rules w.directory ≡ true
  unfolding entry_rules entry_right
  entries_after =
      below_of w.directory.count (entry_right w.directory)
      (λ i h'.
      let h : i < v.directory.count = omega (arith, x.parts.entry_count) in
      elim (ℕ_discrete i e) [ yes z ↦ rw z edited_entry | no z ↦ rw (x.others i z) (entry_fields_lem o i h) ])

  pub alike : Alike v.directory w.directory
  alike =
      record {
        count = x.parts.entry_count;
        name = λ i. elim (ℕ_discrete i e) [ yes z ↦ rw z x.fields.name | no z ↦ ap name (x.others i z) ];
        kind = λ i. elim (ℕ_discrete i e) [ yes z ↦ rw z x.fields.kind | no z ↦ ap kind (x.others i z) ];
        colour = λ i. elim (ℕ_discrete i e) [ yes z ↦ rw z x.fields.colour | no z ↦ ap colour (x.others i z) ];
        left = λ i. elim (ℕ_discrete i e) [ yes z ↦ rw z x.fields.left | no z ↦ ap left (x.others i z) ];
        right = λ i. elim (ℕ_discrete i e) [ yes z ↦ rw z x.fields.right | no z ↦ ap right (x.others i z) ];
        child = λ i. elim (ℕ_discrete i e) [ yes z ↦ rw z x.fields.child | no z ↦ ap child (x.others i z) ];
      }

  root_same : root w ≡ root v
  unfolding root
  root_same = x.others 0 (λ z. not_root (sym z))

  root_size_same : root_size w ≡ root_size v
  unfolding root_size size_of root
  root_size_same = ap₂ size x.parts.size_width root_same

  counted_same : count_right w ≡ true
  unfolding count_right
  counted_same = rw (x.parts.geometry, x.parts.directory_count, x.parts.directory_sectors) o.directory_counted

  streams_after : (i : ℕ) → i < w.directory.count → is_stream (w.directory.entry i) ≡ true
      → Chain (space_of w (side_of w i)) (stream_units w i) (start (w.directory.entry i))
      (round_up (stream_size w i) (space_of w (side_of w i)).unit)
  streams_after i h' st =
      let h : i < v.directory.count = omega (arith, x.parts.entry_count) in
      elim (ℕ_discrete i e) [
        | yes z ↦
            rw (z, x.size, x.start, edited_units o x)
            (record {
              linked = rw (limit_same o x (ltb new cutoff)) (edit_linked o x (ltb new cutoff));
              head = refl;
              long = rw (unit_same o x (ltb new cutoff)) x.need;
            })
        | no z ↦
            let sv : is_stream (v.directory.entry i) ≡ true = rw (x.others i z) at st in
            rw (x.others i z, size_other o x i z, units_other o x i h z sv)
            (record {
              linked = rw (limit_same o x (side_of v i)) (other_chain o x i h z sv);
              head = (o.chains i h sv).head;
              long = rw (unit_same o x (side_of v i)) (o.chains i h sv).long;
            })
      ]

  pub changed_good : Good w
  changed_good =
      record {
        lim = λ b. rw (limit_same o x b) (o.lim b);
        unit = λ b. rw (unit_same o x b) (o.unit b);
        cells = cells_after;
        entries = entries_after;
        trees = trees_same v.directory w.directory alike ∙ o.trees;
        directory = rw (x.parts.directory_sectors, x.parts.directory_start)
            (system_chain_stays v.directory_sectors v.directory_start (length v.directory_sectors) (λ t q. omega (arith, (counts_in_system t).0)) o.directory);
        directory_long = rw x.parts.directory_sectors o.directory_long;
        directory_counted = counted_same;
        mini_fat = rw (x.parts.mini_fat, x.parts.mini_fat_start, x.parts.mini_fat_count)
            (system_chain_stays v.mini_fat v.mini_fat_start v.mini_fat_count (λ t q. omega (arith, (counts_in_system t).1)) o.mini_fat);
        mini_stream =
            let k = system_chain_stays v.mini_stream (start (root v)) (round_up (root_size v) v.sectors.unit) (λ t q. omega (arith, (counts_in_system t).2))
            o.mini_stream in
            record {
              linked = subst (λ us. Linked w.sectors.cell w.sectors.limit us) (sym x.parts.mini_stream) k.linked;
              head = ap start_of x.parts.mini_stream ∙ k.head ∙ sym (ap start root_same);
              long = ap length x.parts.mini_stream ∙ k.long ∙ sym (ap₂ round_up root_size_same x.parts.sector_unit);
            };
        root_size = rw root_size_same o.root_size;
        mini_table = rw (x.parts.mini_limit, x.parts.mini_cells) o.mini_table;
        mini_cells = mini_cells_after;
        mini_rest = rest_kept true o.mini_rest;
        chains = streams_after;
        owned = owned_after o x;
      }
