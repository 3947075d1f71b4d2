-- A good volume whose directory was redrawn is good again, where groups 14 and 15 hold.
use Prim.Native.Nat.{ℕ, ◌+◌, ◌-◌, ◌<◌}
use mathlib.Core.Path.{◌≡◌, refl, sym, ap, ap₂, ◌∙◌, subst, fun_ext}
use mathlib.Core.Logic.{◌⊎◌, inl, inr}
use mathlib.Core.Bool.{Bool, true, false, cond, beq, ◌&&◌}
use mathlib.Core.List.{List, []}
use native.Mathlib.Omega.{arith}
use lib.ListN.{length}
use Rattle.format.specs.Basics.Lists.{all_below, list_below, count}
use Rattle.format.specs.Basics.Bytes.{Bytes}
use Rattle.format.specs.Layout.Geometry.{Geometry}
use Rattle.format.specs.Layout.Need.{round_up}
use Rattle.format.specs.Layout.Chain.{start_of, units, is_free}
use Rattle.format.specs.Layout.Space.{units_for}
use Rattle.format.specs.Layout.Entry.{is_stream, start}
use Rattle.format.specs.Layout.Volume.{Volume, volume, root, root_size, system_sectors}
use Rattle.format.specs.Layout.Stream.{space_for, stream_units, stream_size}
use Rattle.format.specs.Rules.Length.{length_allowed}
use Rattle.format.specs.Rules.Verdict.{Accepted}
use Rattle.format.specs.Rules.Cells.{plain_cell, rest_free, cell_rules, spare_cell_free, fat_cell_right}
use Rattle.format.specs.Rules.Directory.{count_right}
use Rattle.format.specs.Rules.Entries.{entry_rules}
use Rattle.format.specs.Rules.Trees.{tree_rules}
use Rattle.theory.specs.Links.{Linked}
use Rattle.theory.specs.Owned.{Owned}
use Rattle.theory.proofs.Below.{list_below_ext}
use Rattle.theory.proofs.Tests.{below_ext}
use Rattle.theory.proofs.RoundUp.{round_zero}
use Rattle.frame.specs.Edits.{SameParts}
use Rattle.frame.specs.Good.{space_of, system_of, units_of, entry_units, Chain, Good, side_of}
use Rattle.frame.specs.Redraw.{IsRedrawn, SameStream, NoUnits}
use Rattle.frame.proofs.Accepted.{accepted_kept, kept_accepted}
use Rattle.frame.proofs.GoodBack.{good_groups}

module _ {v w : Volume} (o : Good v) (p : SameParts v w) (cs : (u : ℕ) → w.sectors.cell u ≡ v.sectors.cell u) (cm : (u : ℕ) → w.minis.cell u ≡ v.minis.cell u)
    (streams : (i : ℕ) → i < v.directory.count → (SameStream v w i) ⊎ (NoUnits v w i)) where
  pub limit_same : (b : Bool) → (space_of w b).limit ≡ (space_of v b).limit
  limit_same true = p.mini_limit
  limit_same false = p.sector_limit

  pub unit_same : (b : Bool) → (space_of w b).unit ≡ (space_of v b).unit
  unit_same true = p.mini_unit
  unit_same false = p.sector_unit

  cells_same : (b : Bool) → (space_of w b).cells ≡ (space_of v b).cells
  cells_same true = p.mini_cells
  cells_same false = p.sector_cells

  pub cell_same : (b : Bool) → (space_of w b).cell ≡ (space_of v b).cell
  cell_same true = fun_ext cm
  cell_same false = fun_ext cs

  pub system_same : system_sectors w ≡ system_sectors v
  unfolding system_sectors
  system_same = rw (p.fat, p.difat, p.directory_sectors, p.mini_fat, p.mini_stream)

  systems_same : (b : Bool) → system_of w b ≡ system_of v b
  systems_same true = refl
  systems_same false = system_same

  -- ---- the units of the streams

  space_units : (i : ℕ) → stream_units w i ≡ units (space_of w (side_of w i)).cell (round_up (stream_size w i) (space_of w (side_of w i)).unit) (start (w.directory.entry i))
  unfolding stream_units units_for space_for
  space_units i = refl

  space_units_v : (i : ℕ) → stream_units v i ≡ units (space_of v (side_of v i)).cell (round_up (stream_size v i) (space_of v (side_of v i)).unit) (start (v.directory.entry i))
  unfolding stream_units units_for space_for
  space_units_v i = refl

  pub stays_units : (i : ℕ) → SameStream v w i → stream_units w i ≡ stream_units v i
  stays_units i s =
      space_units i ∙ rw (s.size, s.start, cell_same (side_of v i), unit_same (side_of v i)) (sym (space_units_v i))

  no_units_w : (i : ℕ) → stream_size w i ≡ 0 → stream_units w i ≡ []
  unfolding units
  no_units_w i q =
      space_units i
      ∙ ap (λ (k : ℕ). units (space_of w (side_of w i)).cell k (start (w.directory.entry i)))
      (ap (λ (n : ℕ). round_up n (space_of w (side_of w i)).unit) q ∙ round_zero (space_of w (side_of w i)).unit (rw (unit_same (side_of w i)) (o.unit (side_of w i))))

  no_units_v : (i : ℕ) → stream_size v i ≡ 0 → stream_units v i ≡ []
  unfolding units
  no_units_v i q =
      space_units_v i
      ∙ ap (λ (k : ℕ). units (space_of v (side_of v i)).cell k (start (v.directory.entry i)))
      (ap (λ (n : ℕ). round_up n (space_of v (side_of v i)).unit) q ∙ round_zero (space_of v (side_of v i)).unit (o.unit (side_of v i)))

  cond_none : (t : Bool) (us : List ℕ) → (t ≡ true → us ≡ []) → cond t us [] ≡ []
  cond_none true us h = h refl
  cond_none false us h = refl

  and_left : (a b : Bool) → (a && b) ≡ true → a ≡ true
  and_left true b h = refl
  and_left false b h = h

  units_same : (b : Bool) (i : ℕ) → i < v.directory.count → units_of w b i ≡ units_of v b i
  unfolding units_of
  units_same b i h =
      elim (streams i h) [
        | inl s ↦ rw (s.stream, s.size, stays_units i s)
        | inr n ↦
            cond_none (is_stream (w.directory.entry i) && beq b (side_of w i)) (stream_units w i)
            (λ q. no_units_w i (n.after (and_left (is_stream (w.directory.entry i)) (beq b (side_of w i)) q)).0)
            ∙ sym (cond_none (is_stream (v.directory.entry i) && beq b (side_of v i)) (stream_units v i)
            (λ q. no_units_v i (n.before (and_left (is_stream (v.directory.entry i)) (beq b (side_of v i)) q))))
      ]

  pub entry_units_same : (b : Bool) → entry_units w b ≡ entry_units v b
  unfolding entry_units
  entry_units_same b =
      ap (λ (n : ℕ). list_below n (units_of w b)) p.entry_count ∙ list_below_ext v.directory.count (units_of v b) (units_of w b) (units_same b)

  owned : (b : Bool) → Owned (space_of w b).limit (system_of w b) (space_of w b).cell (entry_units w b)
  owned b = rw (limit_same b, systems_same b, cell_same b, entry_units_same b) (o.owned b)

  -- ---- cells

  plain_same : (b : Bool) (y : ℕ) → plain_cell (space_of w b) y ≡ plain_cell (space_of v b) y
  unfolding plain_cell
  plain_same b y = rw (limit_same b)

  rest_same : (b : Bool) → rest_free (space_of w b) ≡ rest_free (space_of v b)
  unfolding rest_free spare_cell_free
  rest_same b =
      ap₂ (λ (l c : ℕ). all_below (c - l) (spare_cell_free (space_of w b))) (limit_same b) (cells_same b)
      ∙ below_ext ((space_of v b).cells - (space_of v b).limit) (spare_cell_free (space_of v b)) (spare_cell_free (space_of w b))
      (λ i h. ap₂ (λ (l : ℕ) (c : ℕ → ℕ). is_free c (l + i)) (limit_same b) (cell_same b))

  right_same : (s : ℕ) → fat_cell_right w.sectors s ≡ fat_cell_right v.sectors s
  unfolding fat_cell_right
  right_same s = rw (cs s, plain_same false (v.sectors.cell s))

  cells_after : cell_rules w.sectors ≡ cell_rules v.sectors
  unfolding cell_rules
  cells_after =
      let a : all_below w.sectors.limit (fat_cell_right w.sectors) ≡ all_below v.sectors.limit (fat_cell_right v.sectors) =
      ap (λ (n : ℕ). all_below n (fat_cell_right w.sectors)) p.sector_limit
      ∙ below_ext v.sectors.limit (fat_cell_right v.sectors) (fat_cell_right w.sectors) (λ s h. right_same s) in
      ap₂ ◌&&◌ a (rest_same false)

  chain_same : (us : List ℕ) (s n : ℕ) → Chain v.sectors us s n → Chain w.sectors us s n
  chain_same us s n k =
      record {
        linked = rw (p.sector_limit, cell_same false) k.linked;
        head = k.head;
        long = k.long;
      }

  streams_after : (i : ℕ) → i < w.directory.count → is_stream (w.directory.entry i) ≡ true
      → Chain (space_of w (side_of w i)) (stream_units w i) (start (w.directory.entry i)) (round_up (stream_size w i) (space_of w (side_of w i)).unit)
  streams_after i h' st =
      let h : i < v.directory.count = omega (arith, p.entry_count) in
      elim (streams i h) [
        | inl s ↦
            let k = o.chains i h (sym s.stream ∙ st) in
            rw (s.size, s.start, stays_units i s)
            (record {
              linked = rw (limit_same (side_of v i), cell_same (side_of v i)) k.linked;
              head = k.head;
              long = rw (unit_same (side_of v i)) k.long;
            })
        | inr n ↦
            let k = n.after st in
            let u = no_units_w i k.0 in
            record {
              linked = subst (λ (us : List ℕ). Linked (space_of w (side_of w i)).cell (space_of w (side_of w i)).limit us) (sym u) tt;
              head = ap start_of u ∙ sym k.1;
              long = ap length u ∙ sym (ap (λ (m : ℕ). round_up m (space_of w (side_of w i)).unit) k.0
                  ∙ round_zero (space_of w (side_of w i)).unit (rw (unit_same (side_of w i)) (o.unit (side_of w i))));
            }
      ]

  module _ (entries : entry_rules w.directory ≡ true) (trees : tree_rules w.directory ≡ true)
      (root_start : start (root w) ≡ start (root v)) (root_bytes : root_size w ≡ root_size v) where
    counted_same : count_right w ≡ true
    unfolding count_right
    counted_same = rw (p.geometry, p.directory_count, p.directory_sectors) o.directory_counted

    pub redrawn_good : Good w
    redrawn_good =
        record {
          lim = λ b. rw (limit_same b) (o.lim b);
          unit = λ b. rw (unit_same b) (o.unit b);
          cells = cells_after ∙ o.cells;
          entries = entries;
          trees = trees;
          directory = rw (p.directory_sectors, p.directory_start) (chain_same v.directory_sectors v.directory_start (length v.directory_sectors) o.directory);
          directory_long = rw p.directory_sectors o.directory_long;
          directory_counted = counted_same;
          mini_fat = rw (p.mini_fat, p.mini_fat_start, p.mini_fat_count) (chain_same v.mini_fat v.mini_fat_start v.mini_fat_count o.mini_fat);
          mini_stream =
              let k = chain_same v.mini_stream (start (root v)) (round_up (root_size v) v.sectors.unit) o.mini_stream in
              record {
                linked = subst (λ (us : List ℕ). Linked w.sectors.cell w.sectors.limit us) (sym p.mini_stream) k.linked;
                head = ap start_of p.mini_stream ∙ k.head ∙ sym root_start;
                long = ap length p.mini_stream ∙ k.long ∙ sym (ap₂ round_up root_bytes p.sector_unit);
              };
          root_size = rw root_bytes o.root_size;
          mini_table = rw (p.mini_limit, p.mini_cells) o.mini_table;
          mini_cells = λ m h. rw (plain_same true (w.minis.cell m), cm m) (o.mini_cells m (omega (arith, p.mini_limit)));
          mini_rest = rest_same true ∙ o.mini_rest;
          chains = streams_after;
          owned = owned;
        }

-- a redrawn image with a good volume is accepted
pub redrawn_accepted : (g : Geometry) (img img' : Bytes) → Accepted g img → IsRedrawn g img img' → Good (volume g img') → Accepted g img'
redrawn_accepted g img img' acc r good =
    let j = accepted_kept g img acc in
    kept_accepted g img'
    (record {
      allowed = ap (length_allowed g) r.kept.length ∙ j.allowed;
      header = r.kept.header;
      tables = r.kept.tables;
      volume = good_groups (volume g img') good;
    })
