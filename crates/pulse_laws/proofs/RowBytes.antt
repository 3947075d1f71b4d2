-- The bytes of the row that a path means, and whose they are.
use Prim.Native.Nat.{ℕ}
use mathlib.Core.Path.{◌≡◌, refl, ap, ◌∙◌}
use mathlib.Core.Logic.{inl, inr}
use mathlib.Core.Bool.{true, cond}
use mathlib.Core.List.{List, [], ◌∷◌}
use native.Mathlib.Omega.{arith}
use lib.ListN.{length}
use Rattle.format.specs.Basics.Bytes.{Bytes}
use Rattle.format.specs.Layout.Entry.{is_stream}
use Rattle.format.specs.Layout.Volume.{Volume}
use Rattle.format.specs.Layout.Stream.{contents}
use Rattle.format.specs.Layout.PathOrder.{same_path}
use Rattle.format.specs.Calls.Paths.{Path, names}
use Rattle.format.specs.History.Rows.{Row, means, row_length}
use Rattle.theory.specs.TreeObjects.{Object, gathered, meant, rows_from}
use Rattle.theory.proofs.Trees.Insert.{either}
use Rattle.theory.proofs.Trees.Rows.{row_stream, row_none}

unfoldable pub row_bytes : List Row → Path → Bytes
row_bytes [] p = []
row_bytes (r ∷ rs) p = cond (means p r) r.bytes (row_bytes rs p)

pub row_length_is : (rows : List Row) (p : Path) → row_length rows p ≡ length (row_bytes rows p)
unfolding row_length row_bytes
row_length_is [] p = refl
row_length_is (r ∷ rs) p = elim (either (means p r)) [ inl h ↦ rw h | inr h ↦ rw h (row_length_is rs p) ]

-- where the path means one object, a stream: its bytes
pub meant_bytes : (v : Volume) (img : Bytes) (p : Path) (os : List Object) (e : ℕ) → meant (names p) os ≡ e ∷ [] → is_stream (v.directory.entry e) ≡ true →
    row_bytes (rows_from v img [] os) p ≡ contents v img e
unfolding gathered row_bytes means
meant_bytes v img p [] e h st = let z : ◌≡◌ {A = ℕ} 0 1 = cc in absurd (omega arith)
meant_bytes v img p (o ∷ os) e h st =
    elim (either (same_path (names p) o.path)) [
      | inl q ↦
          let k : (o.entry ∷ meant (names p) os) ≡ (e ∷ []) = rw q at h in
          let z : o.entry ≡ e = cc in
          rw (row_stream v img o (ap (λ (i : ℕ). is_stream (v.directory.entry i)) z ∙ st), q) (ap (contents v img) z)
      | inr q ↦
          let i = meant_bytes v img p os e (rw q at h) st in
          elim (either (is_stream (v.directory.entry o.entry))) [ inl s ↦ rw (row_stream v img o s, q) i | inr s ↦ rw (row_none v img o s) i ]
    ]
