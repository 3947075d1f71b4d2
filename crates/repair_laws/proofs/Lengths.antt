-- A repair leaves the image's length, and bytes are bytes. What answers 0 is accepted.
use Prim.Native.Nat.{ℕ, ◌+◌, ◌≤◌, ◌<◌}
use mathlib.Core.Path.{◌≡◌, refl, sym, ap, ◌∙◌, subst}
use mathlib.Core.Bool.{true, ◌&&◌, and-true}
use mathlib.Core.List.{List, [], ◌∷◌}
use native.Mathlib.Omega.{arith}
use native.Mathlib.Decide.{dec_lt, ℕ_discrete}
use lib.Dec.{leb}
use lib.ListN.{length, get_or, set}
use lib.Seq.{length-sets, set_out, get_or-set_same, get_or-set_other}
use borrow.Author.Tests.{le-leb}
use Rattle.format.specs.Basics.Bytes.{Bytes, put_bytes, put32, le32, AreBytes}
use Rattle.format.specs.Layout.Geometry.{Geometry}
use Rattle.format.specs.Layout.Space.{Space}
use Rattle.format.specs.Layout.Volume.{Volume}
use Rattle.format.specs.Layout.Chain.{FREE}
use Rattle.format.specs.Layout.Entry.{black}
use Rattle.format.specs.Rules.Length.{length_allowed, work_need}
use Rattle.format.specs.Rules.Verdict.{check, groups, verdict, Accepted}
use Rattle.format.specs.Calls.SetLength.{put_cell}
use Rattle.format.specs.Calls.RepairSteps.{blackened, repaired}
use Rattle.format.specs.Calls.Repair.{repair_answer}
use Rattle.theory.proofs.Bytes.{put32_sets}
use Rattle.frame.proofs.Accepted.{check_zero}
use Rattle.repair_laws.proofs.Keeps.{black_keeps, repaired_keeps}

-- ---- the length

cell_long : (n : ℕ) (sp : Space) (img : Bytes) (u : ℕ) → length img ≡ n → length (put_cell sp img u FREE) ≡ n
unfolding put_cell put32 put_bytes
cell_long n sp img u h = length-sets img (sp.cell_place u) (le32 FREE) ∙ h

colour_long : (n : ℕ) (img : Bytes) (i : ℕ) → length img ≡ n → length (put_bytes img i (black ∷ [])) ≡ n
unfolding put_bytes
colour_long n img i h = length-sets img i (black ∷ []) ∙ h

pub repaired_length : (g : Geometry) (img : Bytes) → length (repaired g img) ≡ length img
repaired_length g img = repaired_keeps (λ x. length x ≡ length img) (cell_long (length img)) (colour_long (length img)) g img refl

-- ---- the bytes

set_bytes : (l : Bytes) (i a : ℕ) → a < 256 → AreBytes l → AreBytes (set l i a)
set_bytes l i a s h j =
    elim (ℕ_discrete j i) [
      | yes e ↦
          elim (dec_lt i (length l)) [
            | yes k ↦ omega (arith, s, ap (λ (n : ℕ). get_or (set l i a) n 0) e, get_or-set_same l i a 0 k)
            | no k ↦ omega (arith, h j, ap (λ (x : Bytes). get_or x j 0) (set_out l i a (omega arith)))
          ]
      | no e ↦ omega (arith, h j, get_or-set_other l i j a 0 e)
    ]

cell_bytes : (sp : Space) (img : Bytes) (u : ℕ) → AreBytes img → AreBytes (put_cell sp img u FREE)
unfolding put_cell
cell_bytes sp img u h =
    let o = sp.cell_place u in
    let one = set img o 255 in
    let two = set one (o + 1) 255 in
    let three = set two (o + 2) 255 in
    subst AreBytes (sym (put32_sets img o FREE))
    (set_bytes three (o + 3) 255 (omega arith) (set_bytes two (o + 2) 255 (omega arith) (set_bytes one (o + 1) 255 (omega arith) (set_bytes img o 255 (omega arith) h))))

colour_bytes : (img : Bytes) (i : ℕ) → AreBytes img → AreBytes (put_bytes img i (black ∷ []))
unfolding put_bytes
colour_bytes img i h = set_bytes img i 1 (omega arith) h

pub black_bytes : (v : Volume) (img : Bytes) → AreBytes img → AreBytes (blackened v img)
black_bytes = black_keeps AreBytes cell_bytes colour_bytes

-- ---- the answer

-- is the verdict on the outcome, where the spare buffer is long enough
pub judged : (g : Geometry) (img spare : Bytes) (work : List ℕ) → length img ≤ length spare → repair_answer g img spare work ≡ verdict g (repaired g img) (length work)
unfolding repair_answer verdict
judged g img spare work h =
    rw (repaired_length g img, le-leb (length img) (length spare) h, and-true (leb (work_need (length img)) (length work)))

pub answered_allowed : (g : Geometry) (img spare : Bytes) (work : List ℕ) → repair_answer g img spare work ≡ 0 → length_allowed g (length img) ≡ true
unfolding repair_answer
answered_allowed g img spare work h = (check_zero (length_allowed g (length img)) 1 _ (omega arith) h).0

pub repaired_accepted : (g : Geometry) (img spare : Bytes) (work : List ℕ) → repair_answer g img spare work ≡ 0 → Accepted g (repaired g img)
unfolding repair_answer verdict check
repaired_accepted g img spare work h =
    let w = leb (work_need (length img)) (length work) && leb (length img) (length spare) in
    let a = check_zero (length_allowed g (length img)) 1 (check w 2 (groups g (repaired g img))) (omega arith) h in
    let b = check_zero w 2 (groups g (repaired g img)) (omega arith) a.1 in
    rw (ap (length_allowed g) (repaired_length g img) ∙ a.0, self (work_need (length (repaired g img)))) b.1
  where
    self : (n : ℕ) → leb n n ≡ true
    self n = le-leb n n (omega arith)
