-- Freeing cells that are free changes nothing.
use Prim.Native.Nat.{ℕ, zero, suc, ◌+◌, ◌-◌, ◌≤◌, ◌<◌}
use mathlib.Core.Path.{◌≡◌, refl, sym, ap, ◌∙◌}
use mathlib.Core.Bool.{Bool, true, not}
use mathlib.Core.List.{List, [], ◌∷◌}
use native.Mathlib.Omega.{arith}
use native.Mathlib.Decide.{dec_lt}
use lib.Dec.{ltb}
use lib.ListN.{get_or, set}
use lib.Seq.{set-get_or}
use borrow.Author.Tests.{eqb-true, lt-ltb}
use Rattle.format.specs.Basics.Lists.{bit, count, member, pick_below}
use Rattle.format.specs.Basics.Bytes.{Bytes, u32at, put32, AreBytes}
use Rattle.format.specs.Layout.Geometry.{Geometry}
use Rattle.format.specs.Layout.Chain.{FREE}
use Rattle.format.specs.Layout.Space.{Space}
use Rattle.format.specs.Layout.Tables.{cell_in, fat_cell, sector_space}
use Rattle.format.specs.Layout.Volume.{volume, mini_space, mini_cells}
use Rattle.format.specs.Rules.Cells.{spare_cell_free, rest_free}
use Rattle.format.specs.Rules.Owners.{owner_rule, owner_right, owners_in}
use Rattle.format.specs.Calls.SetLength.{put_cell, release}
use Rattle.format.specs.Calls.RepairSteps.{rest_units, rest_freed, is_unowned, unowned_freed_in}
use Rattle.theory.proofs.Bytes.{u32_bytes, put32_sets}
use Rattle.theory.proofs.Counts.{bit_self}
use Rattle.theory.proofs.Picks.{pick_below_lem, pick_above}
use Rattle.theory.proofs.Tests.{below_at}
use Rattle.repair_laws.proofs.Tabled.{rest_range}

-- four bytes that make FREE are FREE's
put_free : (img : Bytes) (o : ℕ) → AreBytes img → u32at img o ≡ FREE → put32 img o FREE ≡ img
put_free img o b h =
    let w = u32_bytes img o in
    let e0 : get_or img o 0 ≡ 255 = omega (arith, w, b o, b (o + 1), b (o + 2), b (o + 3)) in
    let e1 : get_or img (o + 1) 0 ≡ 255 = omega (arith, w, b o, b (o + 1), b (o + 2), b (o + 3)) in
    let e2 : get_or img (o + 2) 0 ≡ 255 = omega (arith, w, b o, b (o + 1), b (o + 2), b (o + 3)) in
    let e3 : get_or img (o + 3) 0 ≡ 255 = omega (arith, w, b o, b (o + 1), b (o + 2), b (o + 3)) in
    put32_sets img o FREE ∙ rw (stays o e0, stays (o + 1) e1, stays (o + 2) e2, stays (o + 3) e3)
  where
    stays : (i : ℕ) → get_or img i 0 ≡ 255 → set img i 255 ≡ img
    stays i e = ap (set img i) (sym e) ∙ set-get_or img i 0

release_free : (sp : Space) (us : List ℕ) (img : Bytes) → AreBytes img → ((u : ℕ) → 0 < count u us → u32at img (sp.cell_place u) ≡ FREE) → release sp us img ≡ img
unfolding release put_cell
release_free sp [] img b h = refl
release_free sp (u ∷ us) img b h =
    ap (release sp us) (put_free img (sp.cell_place u) b (h u (omega (arith, bit_self u)))) ∙ release_free sp us img b (λ x q. h x (omega arith))

-- ---- a space's cells stand at their places

abbrev pub Reads : Space → Bytes → Type 0
Reads sp img = (u : ℕ) → u < sp.cells → sp.cell u ≡ u32at img (sp.cell_place u)

pub sectors_read : (g : Geometry) (img : Bytes) → Reads (volume g img).sectors img
unfolding volume sector_space fat_cell cell_in
sectors_read g img u h = rw (lt-ltb u _ h)

pub minis_read : (g : Geometry) (img : Bytes) → Reads (volume g img).minis img
unfolding volume mini_space cell_in
minis_read g img u h = rw (lt-ltb u (mini_cells g img) h)

-- ---- the cells from the limit on

pub rest_cell : (sp : Space) → rest_free sp ≡ true → (u : ℕ) → 0 < count u (rest_units sp) → (u < sp.cells) × (sp.cell u ≡ FREE)
unfolding rest_units rest_free spare_cell_free
rest_cell sp h u q =
    let n = sp.cells - sp.limit in
    let k = rest_range sp n u q in
    let i : u ≡ sp.limit + (u - sp.limit) = omega (arith, k.0) in
    let f = below_at n (spare_cell_free sp) h (u - sp.limit) (omega (arith, k.0, k.1)) in
    (omega (arith, k.0, k.1), ap sp.cell i ∙ eqb-true (sp.cell (sp.limit + (u - sp.limit))) FREE f)

pub rest_again : (sp : Space) (img : Bytes) → AreBytes img → Reads sp img → rest_free sp ≡ true → rest_freed sp img ≡ img
unfolding rest_freed
rest_again sp img b r h = release_free sp (rest_units sp) img b (λ u q. let k = rest_cell sp h u q in sym (r u k.0) ∙ k.1)

-- ---- the cells that nobody owns

unowned_count : (owned : List ℕ) (u : ℕ) → 0 < bit (is_unowned owned u) → count u owned ≡ 0
unfolding is_unowned member
unowned_count owned u h = go (dec_lt 0 (count u owned)) h
  where
    go : Dec (0 < count u owned) → 0 < bit (not (ltb 0 (count u owned))) → count u owned ≡ 0
    go (yes k) q = absurd (omega (arith, q, ap (λ (t : Bool). bit (not t)) (lt-ltb 0 (count u owned) k)))
    go (no k) q = omega arith

unowned_free : (n c : ℕ) → n ≡ 0 → owner_rule n c ≡ true → c ≡ FREE
unfolding owner_rule
unowned_free zero c e h = eqb-true c FREE h
unowned_free (suc n) c e h = absurd (omega arith)

pub unowned_cell : (sp : Space) (owned : List ℕ) → owners_in sp owned ≡ true → (u : ℕ) → 0 < count u (pick_below sp.limit (is_unowned owned))
    → (u < sp.limit) × (sp.cell u ≡ FREE)
unfolding owners_in owner_right
unowned_cell sp owned h u q =
    elim (dec_lt u sp.limit) [
      | yes k ↦
          let c = unowned_count owned u (omega (arith, q, pick_below_lem (is_unowned owned) u sp.limit k)) in
          (k, unowned_free (count u owned) (sp.cell u) c (below_at sp.limit (λ x. owner_rule (count x owned) (sp.cell x)) h u k))
      | no k ↦ absurd (omega (arith, q, pick_above (is_unowned owned) u sp.limit (omega arith)))
    ]

pub unowned_again : (sp : Space) (owned : List ℕ) (img : Bytes) → AreBytes img → Reads sp img → sp.limit ≤ sp.cells → owners_in sp owned ≡ true
    → unowned_freed_in sp owned img ≡ img
unfolding unowned_freed_in
unowned_again sp owned img b r room h =
    release_free sp (pick_below sp.limit (is_unowned owned)) img b (λ u q. let k = unowned_cell sp owned h u q in sym (r u (omega (arith, k.0))) ∙ k.1)
