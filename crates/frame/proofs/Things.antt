-- A run of bytes put inside one thing of a table: that thing, the others, and all that is kept.
use mathlib.Core.Path.{◌≡◌, refl, sym, ap, ◌∙◌}
use mathlib.Core.Logic.{◌≢◌, inl, inr}
use mathlib.Core.List.{List}
use mathlib.Core.Bool.{Bool, true, false, cond}
use Prim.Native.Nat.{ℕ, ◌+◌, ◌*◌, ◌/◌, ◌%◌, ◌≤◌, ◌<◌}
use native.Mathlib.Nat.{add_assoc, add-zero}
use native.Mathlib.Omega.{arith}
use lib.Dec.{eqb, ltb}
use lib.ListN.{length, get_or, drop}
use lib.Seq.{sets, length-sets}
use borrow.Author.Tests.{lt-ltb, ltb-true}
use Rattle.format.specs.Basics.Lists.{count}
use Rattle.format.specs.Basics.Bytes.{Bytes, part, number, u32at, le32, put32, put_bytes}
use Rattle.format.specs.Layout.Geometry.{Geometry, sector_place, place_in, cells_in}
use Rattle.format.specs.Layout.Chain.{FREE}
use Rattle.format.specs.Layout.Tables.{cell_place_in, cell_in}
use Rattle.theory.proofs.Counts.{eqb_cases, count_at, once_at}
use Rattle.theory.proofs.Sets.{drop_sets_add, take_sets_in, get_or_sets_out}
use Rattle.frame.specs.Kept.{Sized, Kept, Off, Table}
use Rattle.theory.proofs.Bytes.{part_same, u32_put, length_le32}
use Rattle.frame.proofs.Kept.{place_eq, kept_sets}
use Rattle.frame.proofs.Places.{thing_fits, things_apart, thing_index}

-- ---- things of w bytes, c to a sector

module _ (g : Geometry) (w c : ℕ) (e : g.sector_bytes ≡ c * w) (z : 0 < g.sector_bytes) (len : ℕ) (secs : List ℕ) (t : Table g len secs) where
  pub thing_far : (x y i j : ℕ) → x ≢ y → x < c * length secs → y < c * length secs → i < w → j < w
      → place_in g secs (w * x) + i ≢ place_in g secs (w * y) + j
  unfolding place_in
  thing_far x y i j n hx hy hi hj q =
      let fx = thing_fits g.sector_bytes w c e z x in
      let fy = thing_fits g.sector_bytes w c e z y in
      let kx = w * x / g.sector_bytes in
      let ky = w * y / g.sector_bytes in
      let rx = w * x % g.sector_bytes in
      let ry = w * y % g.sector_bytes in
      let p =
      place_eq g (get_or secs kx 0) (get_or secs ky 0) (rx + i) (ry + j) (omega arith) (omega arith)
      (sym (add_assoc (sector_place g (get_or secs kx 0)) rx i) ∙ q ∙ add_assoc (sector_place g (get_or secs ky 0)) ry j) in
      let k =
      once_at secs t.once kx ky (thing_index g.sector_bytes w c e z (length secs) x hx) (thing_index g.sector_bytes w c e z (length secs) y hy) p.0 in
      elim (things_apart g.sector_bytes w c e z x y n k) [ inl h ↦ omega (arith, p.1) | inr h ↦ omega (arith, p.1) ]

  -- the sector of a thing is one of the table's
  pub thing_sector : (y : ℕ) → y < c * length secs → 0 < count (get_or secs (w * y / g.sector_bytes) 0) secs
  thing_sector y hy = count_at secs (w * y / g.sector_bytes) 0 (thing_index g.sector_bytes w c e z (length secs) y hy)

  -- it lies in the image
  pub thing_room : (y : ℕ) → y < c * length secs → place_in g secs (w * y) + w ≤ len
  unfolding place_in
  thing_room y hy =
      let a = t.room (get_or secs (w * y / g.sector_bytes) 0) (thing_sector y hy) in
      let b = thing_fits g.sector_bytes w c e z y in
      omega arith

  module _ (img : Bytes) (y j : ℕ) (vs : Bytes) (hy : y < c * length secs) (fits : j + length vs ≤ w) where
    pub thing_other : (x : ℕ) → x < c * length secs → x ≢ y
        → part (sets img (place_in g secs (w * y) + j) vs) (place_in g secs (w * x)) w ≡ part img (place_in g secs (w * x)) w
    thing_other x hx n =
        part_same (sets img (place_in g secs (w * y) + j) vs) img (place_in g secs (w * x)) w (length-sets img (place_in g secs (w * y) + j) vs)
        (λ i l. get_or_sets_out img (place_in g secs (w * y) + j) vs (place_in g secs (w * x) + i) 0
        (λ k b q. thing_far x y i (j + k) n hx hy l (omega arith) (q ∙ add_assoc (place_in g secs (w * y)) j k)))

    pub thing_same : part (sets img (place_in g secs (w * y) + j) vs) (place_in g secs (w * y)) w ≡ sets (part img (place_in g secs (w * y)) w) j vs
    unfolding part
    thing_same = rw (drop_sets_add, take_sets_in w (drop (place_in g secs (w * y)) img) j vs fits)

    pub thing_kept : (T : List ℕ) → ((s : ℕ) → 0 < count s secs → 0 < count s T) → Kept g (Off T) img (sets img (place_in g secs (w * y) + j) vs)
    unfolding place_in
    thing_kept T h =
        let s = get_or secs (w * y / g.sector_bytes) 0 in
        let a = h s (thing_sector y hy) in
        let f = thing_fits g.sector_bytes w c e z y in
        rw (add_assoc (sector_place g s) (w * y % g.sector_bytes) j)
        (kept_sets g (Off T) img s (w * y % g.sector_bytes + j) vs (omega arith) (λ k l m o. omega arith))

-- ---- cells

four : (g : Geometry) → Sized g → g.sector_bytes ≡ cells_in g * 4
unfolding cells_in
four g z = let a = z.even in omega arith

some : (g : Geometry) → Sized g → 0 < g.sector_bytes
some g z = let a = z.wide in omega arith

-- theory's table with one cell written
abbrev pub written : ℕ → ℕ → (ℕ → ℕ) → ℕ → ℕ
written u c f s = cond (eqb s u) c (f s)

module _ (g : Geometry) (z : Sized g) (len : ℕ) (secs : List ℕ) (t : Table g len secs) where
  pub cell_put : (img : Bytes) → length img ≡ len → (u c : ℕ) → u < cells_in g * length secs → c < 0x1_0000_0000
      → (s : ℕ) → cell_in g (put32 img (cell_place_in g secs u) c) secs (cells_in g * length secs) s ≡ written u c (cell_in g img secs (cells_in g * length secs)) s
  unfolding cell_in put32 put_bytes cell_place_in u32at
  cell_put img l u c hu hc s =
      let p = place_in g secs (4 * u) in
      elim (eqb_cases s u) [
        | inl q ↦
            let r = thing_room g 4 (cells_in g) (four g z) (some g z) len secs t u hu in
            let k = cell_read img p c (omega arith) hc in
            rw (q.1, lt-ltb s (cells_in g * length secs) (omega arith)) (ap (λ (x : ℕ). number (part (sets img p (le32 c)) (place_in g secs (4 * x)) 4)) q.0 ∙ k)
        | inr q ↦ rw q.1 (go q (ltb s (cells_in g * length secs)) refl)
      ]
    where
      cell_read : (img : Bytes) (p c : ℕ) → p + 4 ≤ length img → c < 0x1_0000_0000 → number (part (sets img p (le32 c)) p 4) ≡ c
      cell_read img p c h b = u32_put img p c h b

      go : (s ≢ u) × (eqb s u ≡ false) → (b : Bool) → ltb s (cells_in g * length secs) ≡ b
          → cond b (number (part (sets img (place_in g secs (4 * u)) (le32 c)) (place_in g secs (4 * s)) 4)) FREE ≡ cond b (number (part img (place_in g secs (4 * s)) 4)) FREE
      go q true h =
          ap number (rw add-zero at (thing_other g 4 (cells_in g) (four g z) (some g z) len secs t img u 0 (le32 c) hu (omega (arith, length_le32 c)) s (ltb-true s (cells_in g * length secs) h) q.0))
      go q false h = refl

  pub put_kept_lem : (img : Bytes) (u c : ℕ) → u < cells_in g * length secs → (T : List ℕ) → ((s : ℕ) → 0 < count s secs → 0 < count s T)
      → Kept g (Off T) img (put32 img (cell_place_in g secs u) c)
  unfolding put32 put_bytes cell_place_in
  put_kept_lem img u c hu T h =
      rw add-zero at (thing_kept g 4 (cells_in g) (four g z) (some g z) len secs t img u 0 (le32 c) hu (omega (arith, length_le32 c)) T h)
