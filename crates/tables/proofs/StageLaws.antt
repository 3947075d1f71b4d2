-- Group 11 as a whole: from stage to stage, and from the stages to the test.
use Prim.Native.Nat.{ℕ, ◌+◌, ◌-◌, ◌*◌, ◌≤◌, ◌<◌}
use mathlib.Core.Path.{◌≡◌, refl, sym, ◌∙◌}
use mathlib.Core.Bool.{Bool, true, false, ◌&&◌, and-false}
use mathlib.Core.List.{List}
use mathlib.Core.Logic.{inr}
use native.Mathlib.Omega.{arith}
use lib.Dec.{eqb, leb}
use lib.ListN.{length, get_or}
use borrow.Author.Tests.{leb-true, eqb-true, ltb-true}
use Rattle.format.specs.Basics.Bytes.{Bytes}
use Rattle.format.specs.Basics.Lists.{all_below}
use Rattle.format.specs.Layout.Geometry.{Geometry, sector_count, cells_in}
use Rattle.format.specs.Layout.Header.{fat_count, difat_count}
use Rattle.format.specs.Layout.Tables.{difat_sector, difat_entry, fat_cells}
use Rattle.format.specs.Rules.Tables.{difat_need, table_counts, difat_ends, difat_rest, table_sectors, table_marks, table_rules}
use Rattle.format.specs.Calls.Buffers.{work_cleared}
use Rattle.theory.proofs.Tests.{clash, both, below_at}
use Rattle.header.specs.Sized.{ImageSized, F, D, W}
use Rattle.tables.specs.Work.{Wrote, Holds}
use Rattle.tables.specs.Listed.{FatListedAt, list_place}
use Rattle.tables.specs.Stages.{Counted, difat_below, DifatListed, Difats, ListMarked, ListLeft, StageArgs, Built, ListsLeft, MarksLeft, TablesLeft}
use Rattle.tables.proofs.WorkLaws.{wrote_two, wrote_wider, holds_kept, cleared, wrote_cleared}
use Rattle.tables.proofs.SectorLaws.{Unmarked, apart, few_tables, difats_out, fat_in, sectors_pass}

-- ---- the test, stage by stage

last : (c e r s m : Bool) → (e && r) ≡ false → (c && e && r && s && m) ≡ false
last true true true s m h = absurd (clash refl h)
last true true false s m h = refl
last true false r s m h = refl
last false e r s m h = refl

module _ (g : Geometry) (img : Bytes) where
  pub rules_counts : table_counts g img ≡ false → table_rules g img ≡ false
  unfolding table_rules
  rules_counts h = rw h

  sectors_none : table_sectors g img ≡ false → table_rules g img ≡ false
  unfolding table_rules
  sectors_none h = rw (h, and-false (table_counts g img && difat_ends g img && difat_rest g img))

  pub rules_many : sector_count g img < F img + D img → table_rules g img ≡ false
  rules_many h = sectors_none (go (table_sectors g img) refl)
    where
      go : (t : Bool) → table_sectors g img ≡ t → t ≡ false
      go false e = refl
      go true e = absurd (omega (arith, few_tables g img e))

  pub rules_lists : (all_below (D img) (difat_below g img) && difat_ends g img && difat_rest g img) ≡ false → table_rules g img ≡ false
  unfolding table_rules
  rules_lists h = go (all_below (D img) (difat_below g img)) refl
    where
      go : (t : Bool) → all_below (D img) (difat_below g img) ≡ t → (table_counts g img && difat_ends g img && difat_rest g img && table_sectors g img && table_marks g img) ≡ false
      go true e = last (table_counts g img) (difat_ends g img) (difat_rest g img) _ _ (rw e at h)
      go false e = sectors_none (difats_out g img e)

  pub rules_marks : table_counts g img ≡ true → (all_below (D img) (difat_below g img) && difat_ends g img && difat_rest g img) ≡ true → table_rules g img ≡ (table_sectors g img && table_marks g img)
  unfolding table_rules
  rules_marks a b =
      let p = both (all_below (D img) (difat_below g img) && difat_ends g img) (difat_rest g img) b in
      let q = both (all_below (D img) (difat_below g img)) (difat_ends g img) p.0 in
      rw (a, q.1, p.1)

  pub counted : ImageSized g img → table_counts g img ≡ true → F img + D img ≤ sector_count g img → Counted g img
  unfolding table_counts fat_count difat_count fat_cells
  counted s h l =
      let p = both (leb 1 (F img) && leb (sector_count g img) (cells_in g * F img)) (eqb (D img) (difat_need g (F img))) h in
      let q = both (leb 1 (F img)) (leb (sector_count g img) (cells_in g * F img)) p.0 in
      record { sized = s; one = leb-true _ _ q.0; covers = leb-true _ _ q.1; need = eqb-true _ _ p.1; few = l }

  pub difats_below : (all_below (D img) (difat_below g img) && difat_ends g img) ≡ true → (j : ℕ) → j < D img → difat_sector g img j < sector_count g img
  unfolding difat_below
  difats_below h j l = ltb-true _ _ (below_at (D img) (difat_below g img) (both (all_below (D img) (difat_below g img)) (difat_ends g img) h).0 j l)

-- ---- the lists

module _ {g : Geometry} {img : Bytes} {w₁ w₂ : List ℕ} {n f d list : ℕ} (a : StageArgs g img w₁ n f d list) where
  -- what the listing of the DIFAT's sectors left, in the image's own numbers
  pub left_listed : {r : Bool} → DifatListed g img w₁ w₂ (list + f) r → DifatListed g img w₁ w₂ (list + F img) r
  left_listed l = rw a.fats at l

  module _ {r : Bool} (l : DifatListed g img w₁ w₂ (list + F img) r) where
    pub lists_difats : r ≡ true → Difats g img w₂ (list + F img)
    lists_difats e = record { counted = a.counted; holds = l.holds e; below = difats_below g img (sym l.answer ∙ e) }

    pub lists_left : r ≡ true → {w₃ : List ℕ} → Wrote w₂ w₃ list (F img) → Holds w₃ list (F img) (difat_entry g img) → {t : Bool} → t ≡ difat_rest g img → ListsLeft g img w₁ w₃ list t
    lists_left e wr h x =
        record {
          answer = x ∙ sym (rw (sym l.answer ∙ e));
          wrote = wrote_two (wrote_wider list (F img + D img) l.wrote (omega arith) (omega arith)) (wrote_wider list (F img + D img) wr (omega arith) (omega arith));
          built = λ y. record { fats = h; difats = holds_kept (l.holds e) wr (inr (omega arith)); below = difats_below g img (sym l.answer ∙ e) };
        }

-- ---- the marks

-- a buffer of the same length
stage_same : {g : Geometry} {img : Bytes} {w₀ w₁ : List ℕ} {n f d list : ℕ} → StageArgs g img w₀ n f d list → length w₁ ≡ length w₀ → StageArgs g img w₁ n f d list
stage_same a e = record { counted = a.counted; room = omega (arith, a.room); sectors = a.sectors; fats = a.fats; difats = a.difats; place = a.place }

-- the marks are taken away
module _ {g : Geometry} {img : Bytes} {w₀ w₁ : List ℕ} {n f d list : ℕ} (a : StageArgs g img w₀ n f d list) (e : w₁ ≡ work_cleared n w₀) where
  pub unmarked_wrote : Wrote w₀ w₁ 0 (sector_count g img)
  unmarked_wrote = wrote_cleared (sector_count g img) w₀ w₁ (rw a.sectors at e) (omega (arith, a.room, a.counted.sized.many))

  pub unmarked_args : StageArgs g img w₁ n f d list
  unmarked_args = stage_same a unmarked_wrote.long

  pub unmarked : Built g img w₀ list → Unmarked g img w₁ list
  unmarked b =
      record {
        built = record {
          fats = holds_kept b.fats unmarked_wrote (inr (omega (arith, apart a)));
          difats = holds_kept b.difats unmarked_wrote (inr (omega (arith, apart a)));
          below = b.below;
        };
        clear = cleared (sector_count g img) w₀ w₁ (rw a.sectors at e);
      }

module _ {g : Geometry} {img : Bytes} {w : List ℕ} {n f d list : ℕ} (a : StageArgs g img w n f d list) where
  -- what each marking left, in the image's own numbers
  pub left_fats : {w₂ : List ℕ} {r t : Bool} → ListLeft w w₂ n list f 1 r → r ≡ t → ListLeft w w₂ (sector_count g img) list (F img) 1 t
  left_fats l e = rw (a.sectors, a.fats, e) at l

  pub left_difats : {w₂ w₃ : List ℕ} {r t : Bool} → ListLeft w₂ w₃ n (list + f) d 2 r → r ≡ t → ListLeft w₂ w₃ (sector_count g img) (list + F img) (D img) 2 t
  left_difats l e = rw (a.sectors, a.fats, a.difats, e) at l

pub marks_fail : {g : Geometry} {img : Bytes} {w₁ w₂ : List ℕ} {list : ℕ} → table_sectors g img ≡ false → Wrote w₁ w₂ 0 (sector_count g img) → MarksLeft g img w₁ w₂ list false
marks_fail h wr = record { answer = sym (rw h); wrote = wr; listed = λ e. absurd (clash e refl) }

module _ {g : Geometry} {img : Bytes} {w₁ w₂ w₃ : List ℕ} {n f d list : ℕ} (a : StageArgs g img w₁ n f d list) (m : Unmarked g img w₁ list)
    (wr : Wrote w₁ w₂ 0 (sector_count g img)) (one : ListMarked w₁ w₂ (sector_count g img) list (F img) 1)
    (wr₃ : Wrote w₂ w₃ 0 (sector_count g img)) (two : ListMarked w₂ w₃ (sector_count g img) (list + F img) (D img) 2) where
  -- the list, for the lookup of cells
  pub built_listed : (n : ℕ) → n ≡ sector_count g img → FatListedAt g img w₃ n list
  built_listed n e =
      let h = holds_kept m.built.fats (wrote_two wr wr₃) (inr (omega (arith, apart a))) in
      record {
        sized = a.counted.sized;
        count = e;
        apart = apart a;
        room = h.room;
        covers = a.counted.covers;
        few = omega (arith, a.counted.few);
        fats = h.here;
        below = fat_in a m wr one two;
      }

  pub marks_left : {w₀ : List ℕ} {r : Bool} → Wrote w₀ w₁ 0 (sector_count g img) → r ≡ table_marks g img → MarksLeft g img w₀ w₃ list r
  marks_left k h = record { answer = h ∙ sym (rw (sectors_pass a m wr one two)); wrote = wrote_two k (wrote_two wr wr₃); listed = λ x. built_listed (sector_count g img) refl }

-- ---- the whole

-- refused, with nothing past our part of the work buffer changed
pub not_left : (g : Geometry) (img : Bytes) (w₀ w : List ℕ) → ((i : ℕ) → W img ≤ i → get_or w i 0 ≡ get_or w₀ i 0) → TablesLeft g img w₀ w false
not_left g img w₀ w h = record { rest = h; listed = λ e. absurd (clash e refl) }

pub stage_start : {g : Geometry} {img : Bytes} {w : List ℕ} (n f d list : ℕ) → Counted g img → W img ≤ length w → n ≡ sector_count g img → f ≡ F img → d ≡ D img
    → list ≡ W img - (f + d) → StageArgs g img w n f d list
stage_start n f d list c w a b e h =
    record { counted = c; room = w; sectors = a; fats = b; difats = e; place = omega (arith, c.few, c.sized.many) }

module _ {g : Geometry} {img : Bytes} {w₀ w₁ : List ℕ} {n f d list : ℕ} (a : StageArgs g img w₀ n f d list) (wr : Wrote w₀ w₁ list (F img + D img)) where
  pub stage_kept : StageArgs g img w₁ n f d list
  stage_kept = stage_same a wr.long

  pub tables_left : {w₂ : List ℕ} {r : Bool} → MarksLeft g img w₁ w₂ list r → TablesLeft g img w₀ w₂ r
  tables_left {r = r} m =
      let p : list ≡ list_place img = omega (arith, a.place) in
      record {
        rest = λ i h. m.wrote.outside i (inr (omega (arith, a.counted.sized.many))) ∙ wr.outside i (inr (omega (arith, a.place)));
        listed = λ e. rw (← p) (m.listed e);
      }

  pub lists_refused : TablesLeft g img w₀ w₁ false
  lists_refused = not_left g img w₀ w₁ (λ i h. wr.outside i (inr (omega (arith, a.place))))
