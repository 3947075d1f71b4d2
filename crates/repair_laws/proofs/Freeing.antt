-- The third and the fourth step: they write cells of the FAT and of the mini FAT alone.
use Prim.Native.Nat.{ℕ, ◌+◌, ◌-◌, ◌*◌, ◌≤◌, ◌<◌}
use mathlib.Core.Path.{◌≡◌, refl, sym, ap, ◌∙◌}
use mathlib.Core.Logic.{◌≢◌}
use mathlib.Core.Bool.{true, not, ◌&&◌}
use mathlib.Core.List.{List, ◌++◌}
use native.Mathlib.Omega.{arith}
use native.Mathlib.Decide.{dec_lt}
use lib.Dec.{ltb, leb}
use lib.ListN.{length}
use borrow.Author.Tests.{lt-ltb, leb-true}
use Rattle.format.specs.Basics.Lists.{bit, count, member, pick_below, all_below}
use Rattle.format.specs.Basics.Bytes.{Bytes}
use Rattle.format.specs.Layout.Geometry.{Geometry, sector_count, cells_in}
use Rattle.format.specs.Layout.Chain.{FREE}
use Rattle.format.specs.Layout.Space.{Space}
use Rattle.format.specs.Layout.Header.{fat_count, difat_count, mini_fat_start, mini_fat_count}
use Rattle.format.specs.Rules.Tables.{difat_need}
use Rattle.format.specs.Layout.Tables.{fat_cell, fat_sectors, difat_sectors, cell_in, sector_space}
use Rattle.format.specs.Layout.Volume.{Volume, volume, mini_fat_sectors, mini_space}
use Rattle.format.specs.Rules.Mini.{mini_fat_chain, mini_stream_chain, mini_cell_right, mini_tables}
use Rattle.format.specs.Rules.Owners.{owned_sectors, owned_minis}
use Rattle.format.specs.Calls.SetLength.{release}
use Rattle.format.specs.Calls.RepairSteps.{rest_units, rest_freed, is_unowned, unowned_freed_in, unowned_freed}
use Rattle.theory.specs.Links.{Linked, freed}
use Rattle.theory.proofs.Counts.{count_append}
use Rattle.theory.proofs.Tests.{both}
use Rattle.theory.proofs.Picks.{pick_below_lem, pick_above}
use Rattle.theory.proofs.Relinks.{freed_in, freed_out, freed_ext}
use Rattle.theory.proofs.Chains.{chain_linked, linked_below, linked_once}
use Rattle.frame.specs.Kept.{Sized, Kept, Off, Table}
use Rattle.frame.proofs.Kept.{place_in_lem, kept_trans, kept_sub}
use Rattle.frame.proofs.Parts.{fat_cells_is, fat_cell_is, mini_cells_is}
use Rattle.frame.proofs.Change.{sectors_place, minis_place}
use Rattle.frame.proofs.Views.{kept_cell, kept_fat, kept_difat, kept_fat_count, kept_difat_count}
use Rattle.frame.proofs.Relink.{release_kept, release_cells}
use Rattle.repair_laws.specs.Tables.{Tabled, SameTables}
use Rattle.repair_laws.proofs.Tabled.{tables_off, linked_off, rest_range, fat_table}

-- ---- the mini FAT of an image whose mini FAT is a chain

module _ (g : Geometry) (z : Sized g) (C : Bytes) (t : Tabled g C) (h : mini_fat_chain (volume g C) ≡ true) where
  abbrev mf : List ℕ
  mf = mini_fat_sectors g C

  pub mini_linked : Linked (fat_cell g C) (sector_count g C) mf
  unfolding mini_fat_chain volume mini_fat_sectors sector_space
  mini_linked = (chain_linked (fat_cell g C) (sector_count g C) (mini_fat_count C) (mini_fat_start C) h).0

  pub mini_table_lem : Table g (length C) mf
  mini_table_lem =
      record {
        once = λ s. linked_once (fat_cell g C) (sector_count g C) (omega (arith, t.few)) mf mini_linked s;
        room = λ s q. rw t.long (place_in_lem g (sector_count g C) s g.sector_bytes (linked_below (fat_cell g C) (sector_count g C) mf mini_linked s q) (omega arith));
      }

  pub mini_off : (s : ℕ) → 0 < count s (fat_sectors g C) + count s (difat_sectors g C) → count s mf ≡ 0
  mini_off s q = go (dec_lt 0 (count s mf))
    where
      go : Dec (0 < count s mf) → count s mf ≡ 0
      go (yes k) = absurd (omega (arith, linked_off g C t mf mini_linked s k))
      go (no k) = omega arith

-- ---- the third step

module _ (g : Geometry) (z : Sized g) (C : Bytes) (t : Tabled g C) (h : mini_tables (volume g C) ≡ true) where
  abbrev sp : Space
  sp = (volume g C).minis

  abbrev D : Bytes
  D = rest_freed (volume g C).minis C

  pub mini_parts : (mini_fat_chain (volume g C) ≡ true) × (sp.limit ≤ sp.cells)
  mini_parts =
      let v = volume g C in
      let a = (both (mini_fat_chain v && mini_stream_chain v && leb v.minis.limit v.minis.cells) (all_below v.minis.limit (mini_cell_right v.minis)) h).0 in
      let b = both (mini_fat_chain v && mini_stream_chain v) (leb v.minis.limit v.minis.cells) a in
      ((both (mini_fat_chain v) (mini_stream_chain v) b.0).0, leb-true v.minis.limit v.minis.cells b.1)

  cells_are : sp.cells ≡ cells_in g * length (mini_fat_sectors g C)
  unfolding volume mini_space
  cells_are = mini_cells_is g C

  third_in : (u : ℕ) → 0 < count u (rest_units sp) → (sp.limit ≤ u) × (u < cells_in g * length (mini_fat_sectors g C))
  unfolding rest_units
  third_in u q = let r = rest_range sp (sp.cells - sp.limit) u q in (r.0, omega (arith, r.1, mini_parts.1, cells_are))

  pub third_kept : Kept g (Off (mini_fat_sectors g C)) C D
  unfolding rest_freed
  third_kept =
      release_kept g z (length C) (mini_fat_sectors g C) (mini_table_lem g z C t mini_parts.0) sp (minis_place g C) (mini_fat_sectors g C) (λ s q. q) (rest_units sp) (λ u q. (third_in u q).1) C

  pub third_tables : SameTables g C D × ((s : ℕ) → fat_cell g D s ≡ fat_cell g C s)
  third_tables = tables_off g z (mini_fat_sectors g C) C D t third_kept (mini_off g z C t mini_parts.0)

  abbrev pub cells_C : Bytes → ℕ → ℕ
  cells_C x = cell_in g x (mini_fat_sectors g C) (cells_in g * length (mini_fat_sectors g C))

  pub third_cells : (m : ℕ) → cells_C D m ≡ freed (rest_units sp) (cells_C C) m
  unfolding rest_freed
  third_cells m = release_cells g z (length C) (mini_fat_sectors g C) (mini_table_lem g z C t mini_parts.0) sp (minis_place g C) (rest_units sp) (λ u q. (third_in u q).1) C refl m

  -- the mini cells below K stay
  pub third_cell : (m : ℕ) → m < sp.limit → cells_C D m ≡ cells_C C m
  third_cell m k = third_cells m ∙ freed_out (rest_units sp) (cells_C C) m (none (dec_lt 0 (count m (rest_units sp))))
    where
      none : Dec (0 < count m (rest_units sp)) → count m (rest_units sp) ≡ 0
      none (yes q) = absurd (omega (arith, (third_in m q).0))
      none (no q) = omega arith

-- ---- the fourth step

unowned_below : (owned : List ℕ) (n u : ℕ) → 0 < count u (pick_below n (is_unowned owned)) → u < n
unowned_below owned n u q = go (dec_lt u n)
  where
    go : Dec (u < n) → u < n
    go (yes k) = k
    go (no k) = absurd (omega (arith, pick_above (is_unowned owned) u n (omega arith)))

owned_not : (owned : List ℕ) (n u : ℕ) → 0 < count u owned → count u (pick_below n (is_unowned owned)) ≡ 0
unfolding is_unowned member
owned_not owned n u q = go (dec_lt u n)
  where
    go : Dec (u < n) → count u (pick_below n (λ x. not (ltb 0 (count x owned)))) ≡ 0
    go (yes k) = pick_below_lem (λ x. not (ltb 0 (count x owned))) u n k ∙ ap (λ b. bit (not b)) (lt-ltb 0 (count u owned) q)
    go (no k) = pick_above (λ x. not (ltb 0 (count x owned))) u n (omega arith)

module _ (g : Geometry) (z : Sized g) (D : Bytes) (t : Tabled g D) (h : mini_fat_chain (volume g D) ≡ true) (room : (volume g D).minis.limit ≤ (volume g D).minis.cells) where
  abbrev v : Volume
  v = volume g D

  abbrev F : List ℕ
  F = fat_sectors g D

  abbrev us : List ℕ
  us = pick_below v.sectors.limit (is_unowned (owned_sectors v))

  abbrev ms : List ℕ
  ms = pick_below v.minis.limit (is_unowned (owned_minis v))

  abbrev E1 : Bytes
  E1 = release v.sectors us D

  abbrev E : Bytes
  E = release v.minis ms E1

  abbrev pub outcome : Bytes
  outcome = E

  pub outcome_is : unowned_freed v D ≡ outcome
  unfolding unowned_freed unowned_freed_in
  outcome_is = refl

  limit_is : v.sectors.limit ≡ sector_count g D
  unfolding volume sector_space
  limit_is = refl

  cells_is : v.minis.cells ≡ cells_in g * length (mini_fat_sectors g D)
  unfolding volume mini_space
  cells_is = mini_cells_is g D

  us_in : (u : ℕ) → 0 < count u us → u < cells_in g * length F
  us_in u q = omega (arith, unowned_below (owned_sectors v) v.sectors.limit u q, t.enough, limit_is, fat_cells_is g D)

  ms_in : (u : ℕ) → 0 < count u ms → u < cells_in g * length (mini_fat_sectors g D)
  ms_in u q = omega (arith, unowned_below (owned_minis v) v.minis.limit u q, room, cells_is)

  abbrev mf_D : List ℕ
  mf_D = mini_fat_sectors g D

  one_kept : Kept g (Off F) D E1
  one_kept = release_kept g z (length D) F (fat_table g z D t) v.sectors (sectors_place g D) F (λ s q. q) us us_in D

  two_kept : Kept g (Off mf_D) E1 E
  two_kept = release_kept g z (length D) mf_D (mini_table_lem g z D t h) v.minis (minis_place g D) mf_D (λ s q. q) ms ms_in E1

  pub fourth_kept : Kept g (Off (F ++ mf_D)) D E
  fourth_kept =
      kept_trans g (Off (F ++ mf_D)) D E1 E
      (kept_sub g (Off F) (Off (F ++ mf_D)) D E1 (λ s k l q. omega (arith, count_append s F mf_D)) one_kept)
      (kept_sub g (Off mf_D) (Off (F ++ mf_D)) E1 E (λ s k l q. omega (arith, count_append s F mf_D)) two_kept)

  one_off : (s : ℕ) → 0 < count s (difat_sectors g D) → count s F ≡ 0
  one_off s q = omega (arith, t.once s)

  one_fat : fat_sectors g E1 ≡ F
  one_fat = kept_fat g z F D E1 one_kept t.needs one_off

  one_difat : difat_sectors g E1 ≡ difat_sectors g D
  one_difat = kept_difat g z F D E1 one_kept t.needs one_off

  one_needs : difat_count E1 ≡ difat_need g (fat_count E1)
  one_needs = kept_difat_count g z F D E1 one_kept ∙ t.needs ∙ ap (difat_need g) (sym (kept_fat_count g z F D E1 one_kept))

  two_off : (s : ℕ) → 0 < count s (difat_sectors g E1) → count s mf_D ≡ 0
  two_off s q = mini_off g z D t h s (omega (arith, ap (count s) one_difat))

  pub fourth_fat : fat_sectors g E ≡ F
  fourth_fat = kept_fat g z mf_D E1 E two_kept one_needs two_off ∙ one_fat

  pub fourth_difat : difat_sectors g E ≡ difat_sectors g D
  fourth_difat = kept_difat g z mf_D E1 E two_kept one_needs two_off ∙ one_difat

  -- ---- the cells after it

  pub fourth_cells : (s : ℕ) → fat_cell g E s ≡ freed us (fat_cell g D) s
  fourth_cells s =
      fat_cell_is g E s ∙ ap (λ (l : List ℕ). cell_in g E l (cells_in g * length l) s) fourth_fat
      ∙ kept_cell g z mf_D E1 E two_kept F (λ u k. mini_off g z D t h u (omega arith)) s
      ∙ release_cells g z (length D) F (fat_table g z D t) v.sectors (sectors_place g D) us us_in D refl s
      ∙ freed_ext us (cell_in g D F (cells_in g * length F)) (fat_cell g D) s (sym (fat_cell_is g D s))

  abbrev pub cells_D : Bytes → ℕ → ℕ
  cells_D x = cell_in g x mf_D (cells_in g * length mf_D)

  -- the FAT's cells are none of the mini FAT's
  pub between_mini : (m : ℕ) → cells_D E1 m ≡ cells_D D m
  between_mini m = kept_cell g z F D E1 one_kept mf_D (λ s k. omega (arith, linked_off g D t mf_D (mini_linked g z D t h) s k)) m

  pub fourth_minis : (m : ℕ) → cells_D E m ≡ freed ms (cells_D D) m
  fourth_minis m =
      release_cells g z (length D) mf_D (mini_table_lem g z D t h) v.minis (minis_place g D) ms ms_in E1 one_kept.size m
      ∙ freed_ext ms (cells_D E1) (cells_D D) m (between_mini m)

  -- an owned sector's cell stays
  pub fourth_cell : (s : ℕ) → 0 < count s (owned_sectors v) → fat_cell g E s ≡ fat_cell g D s
  fourth_cell s q = fourth_cells s ∙ freed_out us (fat_cell g D) s (owned_not (owned_sectors v) v.sectors.limit s q)

  -- a cell of the outcome that is not free is the image's before the step
  pub fourth_alive : (s : ℕ) → fat_cell g E s ≢ FREE → fat_cell g E s ≡ fat_cell g D s
  fourth_alive s q =
      elim (dec_lt 0 (count s us)) [
        | yes k ↦ absurd (q (fourth_cells s ∙ freed_in us (fat_cell g D) s k))
        | no k ↦ fourth_cells s ∙ freed_out us (fat_cell g D) s (omega arith)
      ]

  pub fourth_mini_alive : (m : ℕ) → cells_D E m ≢ FREE → cells_D E m ≡ cells_D D m
  fourth_mini_alive m q =
      elim (dec_lt 0 (count m ms)) [
        | yes k ↦ absurd (q (fourth_minis m ∙ freed_in ms (cells_D D) m k))
        | no k ↦ fourth_minis m ∙ freed_out ms (cells_D D) m (omega arith)
      ]
