-- The number that a repair of an accepted image gives is that of its red entries; of a repaired one it is 0.
use Prim.Native.Nat.{ℕ, zero, suc, ◌+◌, ◌≤◌, ◌<◌}
use mathlib.Core.Path.{◌≡◌, refl, sym, ap, ap₂, ◌∙◌, subst}
use mathlib.Core.Bool.{Bool, true, false, not, cond, ◌&&◌, and-false}
use mathlib.Core.List.{List, []}
use native.Mathlib.Nat.{zero-add}
use native.Mathlib.Omega.{arith}
use lib.Dec.{eqb, leb}
use lib.ListN.{length}
use borrow.Author.Tests.{lt-ltb, leb-true, eq-eqb, ne_eqb}
use Rattle.format.specs.Basics.Lists.{pick_below}
use Rattle.format.specs.Basics.Bytes.{Bytes, byte_at, u32at, part}
use Rattle.format.specs.Layout.Geometry.{Geometry, entry_bytes}
use Rattle.format.specs.Layout.Space.{Space}
use Rattle.format.specs.Layout.Entry.{colour}
use Rattle.format.specs.Layout.Directory.{Directory, directory_of, entry_place, entry_in, entry_count}
use Rattle.format.specs.Layout.Tables.{sector_space, cell_place_in}
use Rattle.format.specs.Layout.Volume.{Volume, volume, directory, directory_sectors_of, mini_space}
use Rattle.format.specs.Rules.Trees.{red}
use Rattle.format.specs.Rules.Verdict.{Accepted}
use Rattle.format.specs.Calls.Reply.{counted, on_zero}
use Rattle.format.specs.Calls.RepairSteps.{has_colour}
use Rattle.format.specs.Calls.Repair.{repair_answer, repair_reply_by, cell_differs, colour_differs, differences}
use Rattle.format.specs.Claims.Repair.{RepairBuffers, is_red, red_entries}
use Rattle.theory.proofs.Picks.{pick_skip, pick_same}
use Rattle.frame.specs.Kept.{Sized}
use Rattle.frame.proofs.Good.{accepted_good}
use Rattle.frame.proofs.EntryFacts.{entry_fields_lem}
use Rattle.frame.proofs.Redrawing.{entry_long_lem}
use Rattle.frame.proofs.SameEntries.{get_d_part}
use Rattle.repair_laws.specs.Black.{black_entry, IsBlack}
use Rattle.repair_laws.specs.Steps.{after4}
use Rattle.repair_laws.proofs.BlackFields.{black_body, black_colour, plain_same}
use Rattle.repair_laws.proofs.BlackRules.{colour_fits}
use Rattle.repair_laws.proofs.FreeAgain.{Reads, sectors_read, minis_read}
use Rattle.repair_laws.proofs.Outcome.{outcome_black}
use Rattle.repair_laws.proofs.Answered.{takes_all, through, answers_0}

none_picked : (n : ℕ) (p : ℕ → Bool) → ((i : ℕ) → i < n → p i ≡ false) → length (pick_below n p) ≡ 0
none_picked n p h = ap length (pick_skip p 0 n (omega arith) (λ u a b. h u b))

-- ---- cells

-- two images that read a space's cells alike, at the same places
cells_same : (sp sp' : Space) (a b : Bytes) → Reads sp a → Reads sp' b → sp'.cells ≡ sp.cells → ((u : ℕ) → sp'.cell u ≡ sp.cell u) → ((u : ℕ) → sp'.cell_place u ≡ sp.cell_place u)
    → length (pick_below sp'.cells (cell_differs sp' a b)) ≡ 0
unfolding cell_differs
cells_same sp sp' a b r r' n c p =
    none_picked sp'.cells (cell_differs sp' a b)
    (λ u h. ap not (eq-eqb (u32at a (sp'.cell_place u)) (u32at b (sp'.cell_place u)) (ap (u32at a) (p u) ∙ sym (r u (omega (arith, n))) ∙ sym (c u) ∙ r' u h)))

-- ---- colours

colour_there : (g : Geometry) (img : Bytes) (i : ℕ) → i < (volume g img).directory.count → byte_at img ((volume g img).entry_place i + 67) ≡ colour ((volume g img).directory.entry i)
unfolding volume directory directory_of entry_in colour entry_bytes byte_at
colour_there g img i h =
    let dirs = directory_sectors_of g img in
    sym (ap (λ (t : Bool). byte_at (cond t (part img (entry_place g dirs i) 128) []) 67) (lt-ltb i (entry_count g dirs) h) ∙ get_d_part img (entry_place g dirs i) 128 67 (omega arith))

red_differs : (e : Bytes) → length e ≡ 128 → leb (colour e) 1 ≡ true → not (eqb (colour e) (colour (black_entry e))) ≡ (has_colour e && eqb (colour e) 0)
red_differs e l h = go (has_colour e) refl
  where
    small : (c : ℕ) → c ≤ 1 → not (eqb c 1) ≡ eqb c 0
    small zero k = refl
    small (suc c) k = rw (eq-eqb (suc c) 1 (omega arith), ne_eqb (suc c) 0 (λ q. absurd (omega arith)))

    go : (t : Bool) → has_colour e ≡ t → not (eqb (colour e) (colour (black_entry e))) ≡ (t && eqb (colour e) 0)
    go true q = ap (λ n. not (eqb (colour e) n)) (black_colour e l q) ∙ small (colour e) (leb-true (colour e) 1 h)
    go false q = ap not (eq-eqb (colour e) (colour (black_entry e)) (ap colour (sym (plain_same e q))))

-- ---- an accepted image

module _ (g : Geometry) (z : Sized g) (A : Bytes) (acc : Accepted g A) (spare : Bytes) (work : List ℕ) (enough : RepairBuffers A spare work) where
  abbrev E : Bytes
  E = after4 g A

  abbrev v_A : Volume
  v_A = volume g A

  abbrev v_E : Volume
  v_E = volume g E

  answered : repair_answer g A spare work ≡ 0
  answered = answers_0 g z A acc spare work enough

  black : IsBlack v_A.directory v_E.directory
  black = subst (λ (x : Bytes). IsBlack v_A.directory (volume g x).directory) (takes_all g z A acc) (outcome_black g z A spare work answered)

  sector_places : (u : ℕ) → v_E.sectors.cell_place u ≡ v_A.sectors.cell_place u
  unfolding volume sector_space
  sector_places u = ap (λ (l : List ℕ). cell_place_in g l u) (through g z A acc (λ v. v.fat) (λ a b r. r.kept.parts.fat))

  mini_places : (u : ℕ) → v_E.minis.cell_place u ≡ v_A.minis.cell_place u
  unfolding volume mini_space
  mini_places u = ap (λ (l : List ℕ). cell_place_in g l u) (through g z A acc (λ v. v.mini_fat) (λ a b r. r.kept.parts.mini_fat))

  entry_places : (i : ℕ) → v_E.entry_place i ≡ v_A.entry_place i
  unfolding volume
  entry_places i = ap (λ (l : List ℕ). entry_place g l i) (through g z A acc (λ v. v.directory_sectors) (λ a b r. r.kept.parts.directory_sectors))

  colours : (i : ℕ) → i < v_A.directory.count → colour_differs v_E A E i ≡ is_red v_A.directory i
  unfolding colour_differs is_red red
  colours i h =
      let e = v_A.directory.entry i in
      let h' : i < v_E.directory.count = omega (arith, black.rows) in
      let good = accepted_good g A (let w = z.wide in omega arith) acc in
      ap₂ (λ (m n : ℕ). not (eqb m n)) (ap (λ (p : ℕ). byte_at A (p + 67)) (entry_places i) ∙ colour_there g A i h) (colour_there g E i h' ∙ ap colour (black.inside i h))
      ∙ red_differs e (entry_long_lem g z A acc i h) (colour_fits e i (entry_fields_lem good i h))

  red_counted : differences v_E A E ≡ red_entries v_A.directory
  unfolding differences red_entries
  red_counted =
      ap₂ ◌+◌
      (ap₂ ◌+◌
      (cells_same v_A.sectors v_E.sectors A E (sectors_read g A) (sectors_read g E) (through g z A acc (λ v. v.sectors.cells) (λ a b r. r.kept.parts.sector_cells))
      (λ u. through g z A acc (λ v. v.sectors.cell u) (λ a b r. r.sector_cells u)) sector_places)
      (cells_same v_A.minis v_E.minis A E (minis_read g A) (minis_read g E) (through g z A acc (λ v. v.minis.cells) (λ a b r. r.kept.parts.mini_cells))
      (λ u. through g z A acc (λ v. v.minis.cell u) (λ a b r. r.mini_cells u)) mini_places))
      (ap length (ap (λ (n : ℕ). pick_below n (colour_differs v_E A E)) black.rows ∙ pick_same (is_red v_A.directory) (colour_differs v_E A E) v_A.directory.count colours))
      ∙ zero-add (length (pick_below v_A.directory.count (is_red v_A.directory)))

  pub counts : repair_reply_by g A spare work ≡ counted (red_entries v_A.directory)
  unfolding repair_reply_by on_zero
  counts = rw (answered, takes_all g z A acc) (ap counted red_counted)

-- ---- a repaired image has no red entry

pub none_red : (d d' : Directory) → IsBlack d d' → ((i : ℕ) → i < d'.count → length (d'.entry i) ≡ 128) → red_entries d' ≡ 0
unfolding red_entries is_red red
none_red d d' b long = none_picked d'.count (is_red d') (λ i h. black_at i h (has_colour (d.entry i)) refl)
  where
    black_at : (i : ℕ) → i < d'.count → (t : Bool) → has_colour (d.entry i) ≡ t → (has_colour (d'.entry i) && eqb (colour (d'.entry i)) 0) ≡ false
    black_at i h true q =
        let e = b.inside i (omega (arith, h, b.rows)) in
        let l : length (d.entry i) ≡ 128 = sym (black_body (d.entry i)).size ∙ ap length (sym e) ∙ long i h in
        ap (λ t. has_colour (d'.entry i) && t) (ap (λ x. eqb (colour x) 0) e ∙ ap (λ n. eqb n 0) (black_colour (d.entry i) l q)) ∙ and-false (has_colour (d'.entry i))
    black_at i h false q =
        let e = b.inside i (omega (arith, h, b.rows)) in
        ap (λ t. t && eqb (colour (d'.entry i)) 0) (ap has_colour (e ∙ plain_same (d.entry i) q) ∙ q)
