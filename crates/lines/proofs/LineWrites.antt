-- The parts of a line, written one behind the other.
use mathlib.Core.Path.{◌≡◌, refl, ap, sym, ◌∙◌}
use mathlib.Core.List.{[], ◌∷◌, ◌++◌, append_assoc}
use Prim.Native.Nat.{ℕ, zero, suc, ◌+◌, ◌-◌, ◌≤◌, ◌<◌}
use native.Mathlib.Nat.{add-zero}
use native.Mathlib.Numerals.{add-one}
use native.Mathlib.Omega.{arith}
use lib.ListN.{length, take, drop, get_or, set, length-append, length-drop, take-append-drop, get_or-append}
use lib.Seq.{paste, paste-suc, length-take-le, get_or-take, get_or-drop}
use Rattle.format.specs.Basics.Bytes.{Bytes, part}
use Rattle.format.specs.Layout.Name.{slash}
use Rattle.format.specs.Layout.Entry.{name}
use Rattle.format.specs.Calls.Read.{over}
use Rattle.format.specs.Calls.Text.{newline, print_name}
use Rattle.theory.proofs.ByteTests.{length_part}
use Rattle.text.proofs.Filled.{Filled, filled_start, filled_lent, filled_behind, filled_set, filled_end, filled_kept}
use Rattle.lines.specs.Lines.{head, before, before_length, line_text, line_length, put_at, before_put, line_put}
use Rattle.lines.proofs.LineLengths.{before_length_lem, none_before, none_length, some_before, some_length, length_parts, line_length_lem}

-- one byte more copied from a place to a later one
pub copied_more : (out : Bytes) (from to i : ℕ) → from + i < to → to + i < length out
    → set (paste out to (drop from out) i) (to + i) (get_or (paste out to (drop from out) i) (from + i) 0) ≡ paste out to (drop from out) (i + 1)
copied_more out from to i h b =
    let t : length (take to out) ≡ to = length-take-le to out (omega arith) in
    let r : get_or (paste out to (drop from out) i) (from + i) 0 ≡ get_or (drop from out) i 0 =
    rw (append_assoc (take to out) (take i (drop from out)) (drop (to + i) out), get_or-append (take to out) (take i (drop from out) ++ drop (to + i) out) 0 (from + i) (omega arith), get_or-take to out (from + i) 0 h)
    (sym (get_or-drop from out i 0)) in
    rw (r, add-one i) (paste-suc out to (drop from out) i 0 b (omega (arith, length-drop from out)))

pub copied : (out : Bytes) (from to i : ℕ) {n : ℕ} → i ≡ n → paste out to (drop from out) i ≡ put_at out to n (part out from n)
unfolding part
copied out from to i e = rw (← e) (append_assoc (take to out) (take i (drop from out)) (drop (to + i) out))

-- ---- what stands in a path before the name

module _ (out : Bytes) (at from parent : ℕ) (b : at + before_length parent ≤ length out) where
  pub put_none : parent ≡ 0 → out ≡ before_put at from parent out
  put_none z = rw (none_before parent (drop from out) z, none_length parent z, add-zero at) (sym (take-append-drop at out))

  -- the parent's path is copied
  pub put_parent : {new : Bytes} → 0 < parent → from + parent ≤ at → new ≡ put_at out at parent (part out from parent)
      → Filled out (take at out ++ part out from parent) new (at + parent)
  put_parent p h q =
      filled_behind (filled_start out at (omega arith)) (part out from parent)
      (omega (arith, length_part out from parent (omega arith), some_length parent p)) (sym (length_part out from parent (omega arith))) q

  -- and the slash
  pub put_slash : {now : Bytes} → 0 < parent → from + parent ≤ at → Filled out (take at out ++ part out from parent) now (at + parent)
      → set now (at + parent) slash ≡ before_put at from parent out
  unfolding part
  put_slash {now} p h w =
      let s : Filled out (take at out ++ before parent (drop from out)) (set now (at + parent) slash) (at + parent + 1) =
      rw (some_before parent (drop from out) p, ← append_assoc (take at out) (take parent (drop from out)) (slash ∷ [])) (filled_set w slash (omega (arith, some_length parent p))) in
      filled_end at (before parent (drop from out)) s (omega arith) (sym (before_length_lem parent (drop from out) (omega (arith, length-drop from out))))

-- ---- the line

before_same : (parent : ℕ) (s t : Bytes) → take parent s ≡ take parent t → before parent s ≡ before parent t
unfolding before
before_same zero s t e = refl
before_same (suc n) s t e = ap (λ (l : Bytes). l ++ (slash ∷ [])) e

-- the bytes before the name
abbrev pub nameless : ℕ → Bytes → Bytes → ℕ → ℕ → ℕ → Bytes
nameless width out e at from parent = take at out ++ head width e ++ before parent (drop from out)

-- the head, what is before the name, the name, and the end of the line
module _ (width : ℕ) (out e : Bytes) (at from parent : ℕ) (h : from + parent ≤ at) (b : at + line_length width e parent ≤ length out) where
  path_before : length (before parent (drop from out)) ≡ before_length parent
  path_before = before_length_lem parent (drop from out) (omega (arith, length-drop from out))

  pub line_head : {n : ℕ} {new : Bytes} → n ≡ length (head width e) → new ≡ over (head width e) (take (length out - at) (drop at out))
      → Filled out (take at out ++ head width e) (take at out ++ (new ++ drop (length out - at) (drop at out))) (at + n)
  line_head {n} {new} l q = filled_lent (filled_start out at (omega arith)) (head width e) {new = new} (omega (arith, length_parts width e parent)) l q

  pub line_before : {now new : Bytes} {k n : ℕ} → Filled out (take at out ++ head width e) now k → n ≡ before_length parent
      → new ≡ before_put k from parent now
      → Filled out (nameless width out e at from parent) new (k + n)
  line_before {now} {new} {k} {n} w l q =
      let s = before_same parent (drop from now) (drop from out) (filled_kept at (head width e) w (omega arith) from parent h) in
      filled_behind w (before parent (drop from out)) {new = new}
      (omega (arith, length_parts width e parent, path_before, w.count, length-append (take at out) (head width e), length-take-le at out (omega arith))) (l ∙ sym path_before) (rw (l, ← s) q)

  name_place : {now : Bytes} {k : ℕ} → Filled out (nameless width out e at from parent) now k → k ≡ at + length (head width e) + before_length parent
  name_place w =
      omega (arith, w.count, path_before, length-append (take at out ++ head width e) (before parent (drop from out)), length-append (take at out) (head width e), length-take-le at out (omega arith))

  pub name_room : {now : Bytes} {k : ℕ} → Filled out (nameless width out e at from parent) now k → k + length (print_name (name e)) < length out
  name_room w = omega (arith, name_place w, length_parts width e parent)

  pub line_name : {now new : Bytes} {k n : ℕ} → Filled out (nameless width out e at from parent) now k → n ≡ length (print_name (name e)) → new ≡ over (print_name (name e)) (take (length now - k) (drop k now))
      → Filled out (nameless width out e at from parent ++ print_name (name e)) (take k now ++ (new ++ drop (length now - k) (drop k now))) (k + n)
  line_name {new = new} w l q = filled_lent w (print_name (name e)) {new = new} (omega (arith, name_room w)) l q

  pub line_end : {now : Bytes} {k : ℕ} → Filled out (nameless width out e at from parent ++ print_name (name e)) now k → k < length out
      → set now k newline ≡ line_put width e at from parent out
  line_end {now} {k} w r =
      let p = before parent (drop from out) ++ print_name (name e) in
      let s : Filled out (take at out ++ line_text width e p) (set now k newline) (k + 1) = simp append_assoc (simp append_assoc at (filled_set w newline r)) in
      filled_end at (line_text width e p) s (omega arith) (sym (line_length_lem width e parent (drop from out) (omega (arith, length-drop from out))))
