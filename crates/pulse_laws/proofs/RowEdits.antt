-- What the edits of demand 3 make of the row that a path means: another path's edit leaves it.
use mathlib.Core.Path.{◌≡◌, refl, ap, ap₂, ◌∙◌}
use mathlib.Core.Bool.{Bool, true, false, cond, ◌||◌}
use mathlib.Core.List.{List, [], ◌∷◌, map}
use Rattle.format.specs.Basics.Lists.{any, without}
use Rattle.format.specs.Basics.Bytes.{Bytes}
use Rattle.format.specs.Layout.PathOrder.{path_less, insert, same_path}
use Rattle.format.specs.Calls.Paths.{Path, names}
use Rattle.format.specs.History.Rows.{Row, means, has_row}
use Rattle.format.specs.History.Step.{change, row_path}
use Rattle.theory.proofs.Tests.{clash, false_of}
use Rattle.pulse_laws.proofs.EqualPaths.{same_alike, same_sym}
use Rattle.pulse_laws.proofs.RowBytes.{row_bytes}

-- the row that a path means is the same in both
pub record RowStays (rows rows' : List Row) (p : Path) : Type 0 where
  pub bytes : row_bytes rows' p ≡ row_bytes rows p
  pub there : has_row rows' p ≡ has_row rows p

-- ---- an edit of a path's row

change_means : (q p : Path) (f : Bytes → Bytes) (r : Row) → means p (change q f r) ≡ means p r
unfolding means change
change_means q p f r = refl

same_means : (q p : Path) (r : Row) → same_path (names q) (names p) ≡ true → means q r ≡ means p r
unfolding means
same_means q p r h = same_alike (names q) (names p) r.path h

other_means : (q p : Path) (r : Row) → same_path (names q) (names p) ≡ false → means p r ≡ true → means q r ≡ false
unfolding means
other_means q p r h k =
    false_of (same_path (names q) r.path) (λ e. clash (same_alike (names q) r.path (names p) e ∙ same_sym (names p) r.path k) h)

pub has_row_changed : (rows : List Row) (q p : Path) (f : Bytes → Bytes) → has_row (map (change q f) rows) p ≡ has_row rows p
unfolding has_row any
has_row_changed [] q p f = refl
has_row_changed (r ∷ rs) q p f = ap₂ ◌||◌ (change_means q p f r) (has_row_changed rs q p f)

bytes_of : (q : Path) (f : Bytes → Bytes) (r : Row) → (change q f r).bytes ≡ cond (means q r) (f r.bytes) r.bytes
unfolding change
bytes_of q f r = refl

pub row_changed : (rows : List Row) (q p : Path) (f : Bytes → Bytes) → same_path (names q) (names p) ≡ true → has_row rows p ≡ true →
    row_bytes (map (change q f) rows) p ≡ f (row_bytes rows p)
unfolding row_bytes has_row any
row_changed [] q p f s h = absurd (clash h refl)
row_changed (r ∷ rs) q p f s h =
    rw (change_means q p f r, bytes_of q f r, same_means q p r s) (go (means p r) h (row_changed rs q p f s))
  where
    go : (t : Bool) → (t || has_row rs p) ≡ true → (has_row rs p ≡ true → row_bytes (map (change q f) rs) p ≡ f (row_bytes rs p)) →
        cond t (cond t (f r.bytes) r.bytes) (row_bytes (map (change q f) rs) p) ≡ f (cond t r.bytes (row_bytes rs p))
    go true h k = refl
    go false h k = k h

pub row_left : (rows : List Row) (q p : Path) (f : Bytes → Bytes) → same_path (names q) (names p) ≡ false → row_bytes (map (change q f) rows) p ≡ row_bytes rows p
unfolding row_bytes
row_left [] q p f s = refl
row_left (r ∷ rs) q p f s = rw (change_means q p f r, bytes_of q f r) (go (means p r) refl (row_left rs q p f s))
  where
    go : (t : Bool) → means p r ≡ t → row_bytes (map (change q f) rs) p ≡ row_bytes rs p →
        cond t (cond (means q r) (f r.bytes) r.bytes) (row_bytes (map (change q f) rs) p) ≡ cond t r.bytes (row_bytes rs p)
    go true e h = rw (other_means q p r s e)
    go false e h = h

-- paths that are equal as names mean the same row
pub same_row : (rows : List Row) (q p : Path) → same_path (names q) (names p) ≡ true → (row_bytes rows q ≡ row_bytes rows p) × (has_row rows q ≡ has_row rows p)
unfolding row_bytes has_row any
same_row [] q p s = (refl, refl)
same_row (r ∷ rs) q p s =
    let k = same_row rs q p s in
    (rw (same_means q p r s, k.0), ap₂ ◌||◌ (same_means q p r s) k.1)

-- ---- a row put in, and rows taken out

pub row_put : (new : Row) (p : Path) → means p new ≡ false → (rows : List Row) → RowStays rows (insert row_path new rows) p
unfolding insert row_bytes has_row any
row_put new p h [] = record { bytes = rw h; there = rw h }
row_put new p h (r ∷ rs) = go (path_less new.path r.path) (row_put new p h rs)
  where
    go : (t : Bool) → RowStays rs (insert row_path new rs) p → RowStays (r ∷ rs) (cond t (new ∷ (r ∷ rs)) (r ∷ insert row_path new rs)) p
    go true i = record { bytes = rw h; there = rw h }
    go false i = record { bytes = ap (λ (b : Bytes). cond (means p r) r.bytes b) i.bytes; there = ap (λ (t : Bool). means p r || t) i.there }

pub row_without : (q p : Path) → same_path (names q) (names p) ≡ false → (rows : List Row) → RowStays rows (without (means q) rows) p
unfolding without row_bytes has_row any
row_without q p s [] = record { bytes = refl; there = refl }
row_without q p s (r ∷ rs) = go (means p r) refl (means q r) refl (row_without q p s rs)
  where
    go : (t : Bool) → means p r ≡ t → (u : Bool) → means q r ≡ u → RowStays rs (without (means q) rs) p
        → RowStays (r ∷ rs) (cond u (without (means q) rs) (r ∷ without (means q) rs)) p
    go true e true k i = absurd (clash k (other_means q p r s e))
    go true e false k i = record { bytes = rw e; there = rw e }
    go false e true k i = record { bytes = rw e i.bytes; there = rw e i.there }
    go false e false k i = record { bytes = rw e i.bytes; there = rw e i.there }
