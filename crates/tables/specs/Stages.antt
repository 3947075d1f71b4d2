-- The stages of group 11: what each is called with, and what it leaves in the work buffer.
use Rattle.std.specs.Prelude.{ℕ, ◌+◌, ◌*◌, ◌≤◌, ◌<◌, ◌≡◌, Bool, true, false, ◌&&◌, List, ◌⊎◌, ltb, length, get_or}
use Rattle.format.specs.Basics.Lists.{all_below, list_below, count, bit}
use Rattle.format.specs.Basics.Bytes.{Bytes}
use Rattle.format.specs.Layout.Geometry.{Geometry, sector_count, cells_in}
use Rattle.format.specs.Layout.Tables.{difat_entry, difat_sector, fat_sectors, difat_sectors}
use Rattle.format.specs.Rules.Tables.{difat_need, difat_ends, difat_rest, table_sectors, table_marks}
use Rattle.header.specs.Sized.{ImageSized, F, D, W}
use Rattle.tables.specs.Work.{Wrote, Holds}
use Rattle.tables.specs.Listed.{FatListedAt, list_place}

-- ---- the counts

-- the counts are right, and there are no more table sectors than sectors
pub record Counted (g : Geometry) (img : Bytes) : Type 0 where
  pub sized : ImageSized g img
  pub one : 1 ≤ F img
  pub covers : sector_count g img ≤ cells_in g * F img
  pub need : D img ≡ difat_need g (F img)
  pub few : F img + D img ≤ sector_count g img

unfoldable pub difat_below : Geometry → Bytes → ℕ → Bool
difat_below g img j = ltb (difat_sector g img j) (sector_count g img)

-- the arguments of the listing of the DIFAT's sectors, and what it leaves
pub record DifatArgs (g : Geometry) (img : Bytes) (work : List ℕ) (n at d : ℕ) : Type 0 where
  pub sized : ImageSized g img
  pub count : n ≡ sector_count g img
  pub many : d ≡ D img
  pub room : at + D img ≤ length work

pub record DifatListed (g : Geometry) (img : Bytes) (before after : List ℕ) (at : ℕ) (r : Bool) : Type 0 where
  pub answer : r ≡ (all_below (D img) (difat_below g img) && difat_ends g img)
  pub wrote : Wrote before after at (D img)
  pub holds : r ≡ true → Holds after at (D img) (difat_sector g img)

-- the DIFAT's sectors stand in the work buffer, each below N
pub record Difats (g : Geometry) (img : Bytes) (work : List ℕ) (at : ℕ) : Type 0 where
  pub counted : Counted g img
  pub holds : Holds work at (D img) (difat_sector g img)
  pub below : (j : ℕ) → j < D img → difat_sector g img j < sector_count g img

-- ---- marking a list of sectors

-- number k of a list in the work buffer
unfoldable pub listed : List ℕ → ℕ → ℕ → ℕ
listed w at k = get_or w (at + k) 0

-- how often s stands in the list
unfoldable pub times : List ℕ → ℕ → ℕ → ℕ → ℕ
times w at n s = count s (list_below n (listed w at))

pub record ListArgs (work : List ℕ) (n at count v : ℕ) : Type 0 where
  pub apart : n ≤ at
  pub room : at + count ≤ length work
  pub mark : 0 < v
  pub small : n < 4_294_967_296

-- each of the list is below n, different from the others and had no mark, and has one now
pub record ListMarked (before after : List ℕ) (n at count v : ℕ) : Type 0 where
  pub below : (k : ℕ) → k < count → listed before at k < n
  pub marked : (s : ℕ) → s < n
      → ((times before at count s ≡ 0) × (get_or after s 0 ≡ get_or before s 0))
      ⊎ ((times before at count s ≡ 1) × (get_or before s 0 ≡ 0) × (get_or after s 0 ≡ v))

-- one is not below n; or one stands twice, or had a mark
abbrev pub ListFails : List ℕ → ℕ → ℕ → ℕ → Type 0
ListFails w n at count =
    ((k : ℕ) × (k < count) × (n ≤ listed w at k)) ⊎ ((s : ℕ) × (s < n) × (1 < bit (ltb 0 (get_or w s 0)) + times w at count s))

abbrev pub ListAnswer : List ℕ → List ℕ → ℕ → ℕ → ℕ → ℕ → Bool → Type 0
ListAnswer before after n at count v true = ListMarked before after n at count v
ListAnswer before after n at count v false = ListFails before n at count

pub record ListLeft (before after : List ℕ) (n at count v : ℕ) (r : Bool) : Type 0 where
  pub wrote : Wrote before after 0 n
  pub answer : ListAnswer before after n at count v r

-- the marks that group 11 makes: 1 for a FAT sector, 2 for a DIFAT sector
pub record TableMarked (g : Geometry) (img : Bytes) (work : List ℕ) : Type 0 where
  pub mark : (s : ℕ) → s < sector_count g img → get_or work s 0 ≡ count s (fat_sectors g img) + 2 * count s (difat_sectors g img)
  pub single : (s : ℕ) → count s (fat_sectors g img) + count s (difat_sectors g img) ≤ 1

-- ---- group 11 as a whole

pub record TablesLeft (g : Geometry) (img : Bytes) (before after : List ℕ) (r : Bool) : Type 0 where
  pub rest : (i : ℕ) → W img ≤ i → get_or after i 0 ≡ get_or before i 0
  pub listed : r ≡ true → FatListedAt g img after (sector_count g img) (list_place img)

-- what the stages after the counts are called with
pub record StageArgs (g : Geometry) (img : Bytes) (work : List ℕ) (n f d list : ℕ) : Type 0 where
  pub counted : Counted g img
  pub room : W img ≤ length work
  pub sectors : n ≡ sector_count g img
  pub fats : f ≡ F img
  pub difats : d ≡ D img
  pub place : list + (F img + D img) ≡ W img

-- the lists stand in the work buffer
pub record Built (g : Geometry) (img : Bytes) (w : List ℕ) (list : ℕ) : Type 0 where
  pub fats : Holds w list (F img) (difat_entry g img)
  pub difats : Holds w (list + F img) (D img) (difat_sector g img)
  pub below : (j : ℕ) → j < D img → difat_sector g img j < sector_count g img

pub record ListsLeft (g : Geometry) (img : Bytes) (before after : List ℕ) (list : ℕ) (r : Bool) : Type 0 where
  pub answer : r ≡ (all_below (D img) (difat_below g img) && difat_ends g img && difat_rest g img)
  pub wrote : Wrote before after list (F img + D img)
  pub built : r ≡ true → Built g img after list

pub record MarksLeft (g : Geometry) (img : Bytes) (before after : List ℕ) (list : ℕ) (r : Bool) : Type 0 where
  pub answer : r ≡ (table_sectors g img && table_marks g img)
  pub wrote : Wrote before after 0 (sector_count g img)
  pub listed : r ≡ true → FatListedAt g img after (sector_count g img) list
