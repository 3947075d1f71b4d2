-- How long a line is, and its parts.
use mathlib.Core.Path.{◌≡◌, refl, ap, ◌∙◌}
use mathlib.Core.Bool.{Bool, true, false, cond}
use mathlib.Core.List.{[], ◌∷◌, ◌++◌}
use Prim.Native.Nat.{ℕ, zero, suc, ◌+◌, ◌≤◌, ◌<◌}
use native.Mathlib.Omega.{arith}
use lib.ListN.{length, take, length-append}
use lib.Seq.{length-take-le}
use Rattle.format.specs.Basics.Bytes.{Bytes}
use Rattle.format.specs.Layout.Name.{slash}
use Rattle.format.specs.Layout.Entry.{name, size, is_stream}
use Rattle.format.specs.Calls.Text.{space, decimal, print_name}
use Rattle.entries.specs.Entry.{entry_at, NamedAt}
use Rattle.text.proofs.Decimals.{decimal_most}
use Rattle.text.proofs.Units.{name_most}
use Rattle.text.proofs.Names.{units_most}
use Rattle.lines.specs.Lines.{head, before, before_length, line_text, line_length}

-- ---- what stands before the path

pub head_stream : (width : ℕ) (e : Bytes) → is_stream e ≡ true → head width e ≡ ((0x46 ∷ space ∷ []) ++ decimal (size width e)) ++ (space ∷ [])
unfolding head
head_stream width e h = rw h

pub head_storage : (width : ℕ) (e : Bytes) → is_stream e ≡ false → head width e ≡ 0x44 ∷ space ∷ 0x30 ∷ space ∷ []
unfolding head
head_storage width e h = rw h

pub stream_length : (width : ℕ) (e : Bytes) → is_stream e ≡ true → length (head width e) ≡ length (decimal (size width e)) + 3
stream_length width e h =
    ap length (head_stream width e h)
    ∙ omega (arith, length-append ((0x46 ∷ space ∷ []) ++ decimal (size width e)) (space ∷ []), length-append (0x46 ∷ space ∷ []) (decimal (size width e)))

pub storage_length : (width : ℕ) (e : Bytes) → is_stream e ≡ false → length (head width e) ≡ 4
storage_length width e h = ap length (head_storage width e h)

pub head_most : (width : ℕ) (e : Bytes) → length (head width e) ≤ 23
unfolding head
head_most width e =
    let d = decimal (size width e) in
    go (is_stream e) d (decimal_most (size width e))
  where
    go : (b : Bool) (d : Bytes) → length d ≤ 20 → length (cond b (0x46 ∷ space ∷ d) (0x44 ∷ space ∷ 0x30 ∷ []) ++ (space ∷ [])) ≤ 23
    go true d h = omega (arith, length-append (0x46 ∷ space ∷ d) (space ∷ []))
    go false d h = omega arith

-- ---- what stands in a path before the name

pub before_length_lem : (parent : ℕ) (text : Bytes) → parent ≤ length text → length (before parent text) ≡ before_length parent
unfolding before before_length
before_length_lem zero text h = refl
before_length_lem (suc n) text h = length-append (take (suc n) text) (slash ∷ []) ∙ ap (λ (k : ℕ). k + 1) (length-take-le (suc n) text h)

pub none_before : (parent : ℕ) (text : Bytes) → parent ≡ 0 → before parent text ≡ []
unfolding before
none_before parent text e = rw e

pub none_length : (parent : ℕ) → parent ≡ 0 → before_length parent ≡ 0
unfolding before_length
none_length parent e = rw e

pub some_before : (parent : ℕ) (text : Bytes) → 0 < parent → before parent text ≡ take parent text ++ (slash ∷ [])
unfolding before
some_before zero text h = absurd (omega arith)
some_before (suc n) text h = refl

pub some_length : (parent : ℕ) → 0 < parent → before_length parent ≡ parent + 1
unfolding before_length
some_length zero h = absurd (omega arith)
some_length (suc n) h = refl

pub before_most : (parent : ℕ) → before_length parent ≤ parent + 1
unfolding before_length
before_most zero = omega arith
before_most (suc n) = omega arith

-- ---- the line

pub length_line : (width : ℕ) (e path : Bytes) → length (line_text width e path) ≡ length (head width e) + length path + 1
length_line width e path = simp length-append

pub length_parts : (width : ℕ) (e : Bytes) (parent : ℕ) → line_length width e parent ≡ length (head width e) + before_length parent + length (print_name (name e)) + 1
unfolding line_length
length_parts width e parent = omega arith

-- of a path that goes on behind the parent's
pub line_length_lem : (width : ℕ) (e : Bytes) (parent : ℕ) (text : Bytes) → parent ≤ length text
    → length (line_text width e (before parent text ++ print_name (name e))) ≡ line_length width e parent
unfolding line_length
line_length_lem width e parent text h =
    omega (arith, length_line width e (before parent text ++ print_name (name e)), length-append (before parent text) (print_name (name e)), before_length_lem parent text h)

-- so that its parts can be added up
pub parts_few : (width : ℕ) (img : Bytes) (p : ℕ) → NamedAt img p → length (head width (entry_at img p)) + length (print_name (name (entry_at img p))) ≤ 178
parts_few width img p n =
    let e = entry_at img p in
    omega (arith, head_most width e, name_most (name e), units_most n)
