-- What groups 10 and 11 say, and what stays of it when sectors are written; the first step.
use Prim.Native.Nat.{ℕ, zero, suc, ◌+◌, ◌-◌, ◌*◌, ◌≤◌, ◌<◌}
use mathlib.Core.Path.{◌≡◌, refl, sym, ap, ◌∙◌}
use mathlib.Core.Logic.{◌⊎◌, inl, inr}
use mathlib.Core.Bool.{true, ◌&&◌, beq}
use mathlib.Core.List.{List, [], ◌∷◌, ◌++◌}
use native.Mathlib.Omega.{arith}
use native.Mathlib.Decide.{dec_lt}
use lib.Dec.{eqb, leb}
use lib.ListN.{length}
use borrow.Author.Tests.{eqb-true, leb-true, ltb-true}
use Rattle.format.specs.Basics.Lists.{all, count, bit, member, distinct, list_below}
use Rattle.format.specs.Basics.Bytes.{Bytes}
use Rattle.format.specs.Layout.Geometry.{Geometry, sector_count, cells_in}
use Rattle.format.specs.Layout.Header.{fat_count, difat_count}
use Rattle.format.specs.Layout.Chain.{END, FATSECT, DIFSECT, start_of}
use Rattle.format.specs.Layout.Space.{Space}
use Rattle.format.specs.Layout.Tables.{fat_sectors, difat_sectors, fat_cells, fat_cell, cell_in, sector_space}
use Rattle.format.specs.Layout.Volume.{volume}
use Rattle.format.specs.Rules.Header.{header_rules}
use Rattle.format.specs.Rules.Length.{length_allowed}
use Rattle.format.specs.Rules.Tables.{difat_need, table_counts, difat_ends, difat_rest, is_sector, table_sectors, mark_right, table_marks, table_rules}
use Rattle.format.specs.Calls.RepairSteps.{tables_hold, rest_unit, rest_units, rest_freed}
use Rattle.theory.specs.Links.{Linked, freed}
use Rattle.theory.proofs.Counts.{count_append, eqb_cases}
use Rattle.theory.proofs.Tests.{both, below_at, all_at, beq_equal}
use Rattle.theory.proofs.OwnerMarks.{member_of}
use Rattle.theory.proofs.Loops.{distinct_once}
use Rattle.theory.proofs.Relinks.{freed_out, freed_ext}
use Rattle.theory.proofs.Chains.{linked_below}
use Rattle.frame.specs.Kept.{Sized, Kept, Off, Table}
use Rattle.frame.proofs.Kept.{place_in_lem}
use Rattle.frame.proofs.Lengths.{allowed_long, allowed_few}
use Rattle.frame.proofs.Parts.{fat_cells_is, fat_cell_is}
use Rattle.frame.proofs.Change.{sectors_place}
use Rattle.frame.proofs.Views.{kept_cell, kept_tables, kept_fat, kept_difat, kept_sector_count, kept_difat_count, kept_fat_count}
use Rattle.frame.proofs.Relink.{release_kept, release_cells}
use Rattle.repair_laws.specs.Tables.{Tabled, SameTables}

-- of an image of whole sectors, not too many
pub tabled_of : (g : Geometry) (img : Bytes) → length img ≡ (sector_count g img + 1) * g.sector_bytes → sector_count g img < 0x100_0000 → table_rules g img ≡ true → Tabled g img
unfolding table_rules table_counts table_sectors table_marks mark_right is_sector
tabled_of g img long few r =
    let F = fat_sectors g img in
    let D = difat_sectors g img in
    let N = sector_count g img in
    let a = both (table_counts g img && difat_ends g img && difat_rest g img && table_sectors g img) (table_marks g img) r in
    let b = both (table_counts g img && difat_ends g img && difat_rest g img) (table_sectors g img) a.0 in
    let c = both (table_counts g img && difat_ends g img) (difat_rest g img) b.0 in
    let k = (both (table_counts g img) (difat_ends g img) c.0).0 in
    let l = both (leb 1 (fat_count img) && leb N (fat_cells g img)) (eqb (difat_count img) (difat_need g (fat_count img))) k in
    let m = both (leb 1 (fat_count img)) (leb N (fat_cells g img)) l.0 in
    let s2 = both (all (is_sector g img) (F ++ D)) (distinct (F ++ D)) b.1 in
    record {
      long = long;
      few = few;
      needs = eqb-true (difat_count img) (difat_need g (fat_count img)) l.1;
      enough = leb-true N (fat_cells g img) m.1;
      once = λ s. omega (arith, count_append s F D, distinct_once (F ++ D) s s2.1);
      below = λ s q. ltb-true s N (all_at (is_sector g img) (F ++ D) s2.0 s (omega (arith, count_append s F D)));
      marks = λ s q.
          let y = below_at N (mark_right g img) a.1 s q in
          let x = both (beq (eqb (fat_cell g img s) FATSECT) (member s F)) (beq (eqb (fat_cell g img s) DIFSECT) (member s D)) y in
          (beq_equal (eqb (fat_cell g img s) FATSECT) (member s F) x.0, beq_equal (eqb (fat_cell g img s) DIFSECT) (member s D) x.1);
    }

pub tabled : (g : Geometry) → Sized g → (img : Bytes) → length_allowed g (length img) ≡ true → tables_hold g img ≡ true → Tabled g img
unfolding tables_hold
tabled g z img h t = tabled_of g img (allowed_long g img h z) (allowed_few g img h z) (both (header_rules g img) (table_rules g img) t).1

-- ---- the same tables in another image

pub tabled_same : (g : Geometry) (a b : Bytes) → Tabled g a → SameTables g a b → Tabled g b
unfolding fat_cells
tabled_same g a b t k =
    record {
      long = k.size ∙ t.long ∙ ap (λ n. (n + 1) * g.sector_bytes) (sym k.sectors);
      few = omega (arith, k.sectors, t.few);
      needs = k.difats ∙ t.needs ∙ ap (difat_need g) (sym k.fats);
      enough = omega (arith, k.sectors, t.enough, ap (λ n. cells_in g * n) k.fats);
      once = λ s. omega (arith, t.once s, ap (count s) k.fat, ap (count s) k.difat);
      below = λ s q. omega (arith, k.sectors, t.below s (omega (arith, ap (count s) k.fat, ap (count s) k.difat)));
      marks = λ s q.
          let i : s < sector_count g a = omega (arith, k.sectors) in
          let m = t.marks s i in
          (ap (λ c. eqb c FATSECT) (k.cells s i) ∙ m.0 ∙ ap (member s) (sym k.fat), ap (λ c. eqb c DIFSECT) (k.cells s i) ∙ m.1 ∙ ap (member s) (sym k.difat));
    }

-- written off the tables
pub tables_off : (g : Geometry) → Sized g → (T : List ℕ) (a b : Bytes) → Tabled g a → Kept g (Off T) a b →
    ((s : ℕ) → 0 < count s (fat_sectors g a) + count s (difat_sectors g a) → count s T ≡ 0) → SameTables g a b × ((s : ℕ) → fat_cell g b s ≡ fat_cell g a s)
tables_off g z T a b t x off = (record { size = x.size; sectors = kept_sector_count g z T a b x; fats = kept_fat_count g z T a b x; difats = kept_difat_count g z T a b x; fat = fat; difat = kept_difat g z T a b x t.needs off_difat; cells = λ s h. cells s }, cells)
  where
    off_difat : (s : ℕ) → 0 < count s (difat_sectors g a) → count s T ≡ 0
    off_difat s q = off s (omega arith)

    fat : fat_sectors g b ≡ fat_sectors g a
    fat = kept_fat g z T a b x t.needs off_difat

    cells : (s : ℕ) → fat_cell g b s ≡ fat_cell g a s
    cells s =
        fat_cell_is g b s ∙ ap (λ (l : List ℕ). cell_in g b l (cells_in g * length l) s) fat
        ∙ kept_cell g z T a b x (fat_sectors g a) (λ u q. off u (omega arith)) s ∙ sym (fat_cell_is g a s)

-- group 11 holds of both images or of neither
pub rules_same : (g : Geometry) → Sized g → (T : List ℕ) (a b : Bytes) → Tabled g a → SameTables g a b → Kept g (Off T) a b →
    ((s : ℕ) → 0 < count s (difat_sectors g a) → count s T ≡ 0) → table_rules g b ≡ table_rules g a
rules_same g z T a b t k x off = kept_tables g z T a b x t.needs off (λ s l. (ap (λ c. eqb c FATSECT) (k.cells s l), ap (λ c. eqb c DIFSECT) (k.cells s l)))

-- ---- a chain enters no FAT or DIFAT sector

start_low : (f : ℕ → ℕ) (N : ℕ) (us : List ℕ) → Linked f N us → (start_of us ≡ END) ⊎ (start_of us < N)
start_low f N [] l = inl refl
start_low f N (u ∷ us) l = inr l.0

linked_cell : (f : ℕ → ℕ) (N : ℕ) (us : List ℕ) → Linked f N us → (s : ℕ) → 0 < count s us → (f s ≡ END) ⊎ (f s < N)
linked_cell f N [] l s q = absurd (omega arith)
linked_cell f N (u ∷ us) l s q =
    elim (eqb_cases s u) [
      | inl e ↦
          elim (start_low f N us l.2) [
            | inl k ↦ inl (ap f e.0 ∙ l.1 ∙ k)
            | inr k ↦ inr (omega (arith, ap f e.0 ∙ l.1))
          ]
      | inr e ↦ linked_cell f N us l.2 s (omega (arith, ap bit e.1))
    ]

pub linked_off : (g : Geometry) (img : Bytes) → Tabled g img → (us : List ℕ) → Linked (fat_cell g img) (sector_count g img) us →
    (s : ℕ) → 0 < count s us → count s (fat_sectors g img) + count s (difat_sectors g img) ≡ 0
linked_off g img t us l s q =
    elim (dec_lt 0 (count s (fat_sectors g img))) [
      | yes k ↦ absurd (not_mark FATSECT (eqb-true (fat_cell g img s) FATSECT (marks.0 ∙ member_of s (fat_sectors g img) k)) (omega arith) (omega arith))
      | no k ↦
          elim (dec_lt 0 (count s (difat_sectors g img))) [
            | yes j ↦ absurd (not_mark DIFSECT (eqb-true (fat_cell g img s) DIFSECT (marks.1 ∙ member_of s (difat_sectors g img) j)) (omega arith) (omega arith))
            | no j ↦ omega arith
          ]
    ]
  where
    marks : (eqb (fat_cell g img s) FATSECT ≡ member s (fat_sectors g img)) × (eqb (fat_cell g img s) DIFSECT ≡ member s (difat_sectors g img))
    marks = t.marks s (linked_below (fat_cell g img) (sector_count g img) us l s q)

    not_mark : (m : ℕ) → fat_cell g img s ≡ m → m < END → 0x100_0000 ≤ m → ⊥
    not_mark m e h k =
        elim (linked_cell (fat_cell g img) (sector_count g img) us l s q) [
          | inl c ↦ omega (arith, c, e)
          | inr c ↦ omega (arith, c, e, t.few)
        ]

-- ---- the first step

pub rest_range : (sp : Space) (n u : ℕ) → 0 < count u (list_below n (rest_unit sp)) → (sp.limit ≤ u) × (u < sp.limit + n)
unfolding list_below rest_unit
rest_range sp zero u q = absurd (omega arith)
rest_range sp (suc n) u q =
    let a = count_append u (list_below n (rest_unit sp)) ((sp.limit + n) ∷ []) in
    elim (eqb_cases u (sp.limit + n)) [
      | inl e ↦ (omega (arith, e.0), omega (arith, e.0))
      | inr e ↦ let r = rest_range sp n u (omega (arith, a, ap bit e.1)) in (r.0, omega (arith, r.1))
    ]

module _ (g : Geometry) (z : Sized g) (A : Bytes) (t : Tabled g A) where
  abbrev F : List ℕ
  F = fat_sectors g A

  abbrev N : ℕ
  N = sector_count g A

  abbrev B : Bytes
  B = rest_freed (volume g A).sectors A

  pub fat_table : Table g (length A) F
  fat_table =
      record {
        once = λ s. omega (arith, t.once s);
        room = λ s q. rw t.long (place_in_lem g N s g.sector_bytes (t.below s (omega arith)) (omega arith));
      }

  rest_in : (u : ℕ) → 0 < count u (rest_units (volume g A).sectors) → (N ≤ u) × (u < cells_in g * length F)
  unfolding rest_units volume sector_space
  rest_in u q =
      let r = rest_range (volume g A).sectors (fat_cells g A - N) u q in
      (r.0, omega (arith, r.1, t.enough, fat_cells_is g A))

  pub first_kept : Kept g (Off F) A B
  unfolding rest_freed
  first_kept = release_kept g z (length A) F fat_table (volume g A).sectors (sectors_place g A) F (λ s q. q) (rest_units (volume g A).sectors) (λ u q. (rest_in u q).1) A

  first_off : (s : ℕ) → 0 < count s (difat_sectors g A) → count s F ≡ 0
  first_off s q = omega (arith, t.once s)

  first_fat : fat_sectors g B ≡ F
  first_fat = kept_fat g z F A B first_kept t.needs first_off

  pub first_cells : (s : ℕ) → fat_cell g B s ≡ freed (rest_units (volume g A).sectors) (fat_cell g A) s
  unfolding rest_freed
  first_cells s =
      fat_cell_is g B s ∙ ap (λ (l : List ℕ). cell_in g B l (cells_in g * length l) s) first_fat
      ∙ release_cells g z (length A) F fat_table (volume g A).sectors (sectors_place g A) (rest_units (volume g A).sectors) (λ u q. (rest_in u q).1) A refl s
      ∙ freed_ext (rest_units (volume g A).sectors) (cell_in g A F (cells_in g * length F)) (fat_cell g A) s (sym (fat_cell_is g A s))

  first_cell : (s : ℕ) → s < N → fat_cell g B s ≡ fat_cell g A s
  first_cell s h = first_cells s ∙ freed_out (rest_units (volume g A).sectors) (fat_cell g A) s (none (dec_lt 0 (count s (rest_units (volume g A).sectors))))
    where
      none : Dec (0 < count s (rest_units (volume g A).sectors)) → count s (rest_units (volume g A).sectors) ≡ 0
      none (yes k) = absurd (omega (arith, (rest_in s k).0))
      none (no k) = omega arith

  pub first_tables : SameTables g A B
  first_tables =
      record {
        size = first_kept.size;
        sectors = kept_sector_count g z F A B first_kept;
        fats = kept_fat_count g z F A B first_kept;
        difats = kept_difat_count g z F A B first_kept;
        fat = first_fat;
        difat = kept_difat g z F A B first_kept t.needs first_off;
        cells = first_cell;
      }
