-- Bytes put at the front of an out buffer, written from the front or from the back.
use mathlib.Core.Path.{◌≡◌, refl, sym, ◌∙◌}
use mathlib.Core.List.{[], ◌++◌, append_assoc, append-nil}
use Prim.Native.Nat.{ℕ, suc, ◌+◌, ◌-◌, ◌≤◌, ◌<◌}
use native.Mathlib.Nat.{zero-add}
use native.Mathlib.Omega.{arith}
use lib.ListN.{length, take, drop, get_or, set, length-append, length-drop, take-append-drop, drop_of_length-le, get_or-append}
use lib.Seq.{take_all, sets, sets-eq, set_at, take-suc, drop-cons, drop-drop, length-take-le, append_snoc, take-append_seam, drop-append_seam}
use Rattle.format.specs.Basics.Bytes.{Bytes}
use Rattle.format.specs.Calls.Read.{over}

pub over_none : (out : Bytes) → over [] out ≡ out
unfolding over
over_none out = refl

pub over_length : (new out : Bytes) → length new ≤ length out → length (over new out) ≡ length out
unfolding over
over_length new out h = simp (length-append, length-drop) (omega arith)

pub over_in : (new out : Bytes) (i : ℕ) → i < length new → get_or (over new out) i 0 ≡ get_or new i 0
unfolding over
over_in new out i h = get_or-append new (drop (length new) out) 0 i h

-- bytes written one after the other
pub over_sets : (new out : Bytes) → length new ≤ length out → sets out 0 new ≡ over new out
unfolding over
over_sets new out h = sets-eq new out 0 (omega arith) ∙ rw zero-add

-- ---- more bytes behind those that are there

pub over_rest : (a out : Bytes) → drop (length a) (over a out) ≡ drop (length a) out
unfolding over
over_rest a out = drop-append_seam a (drop (length a) out)

pub over_more : (a b out : Bytes) → take (length a) (over a out) ++ over b (drop (length a) (over a out)) ≡ over (a ++ b) out
unfolding over
over_more a b out =
    rw (take-append_seam a (drop (length a) out), drop-append_seam a (drop (length a) out), drop-drop (length b) (length a) out, length-append a b)
    (sym (append_assoc a b (drop (length a + length b) out)))

-- those that a call writes, which is lent what is left of the buffer
pub over_lent : (a b out₀ out : Bytes) (k : ℕ) {new : Bytes} → out ≡ over a out₀ → k ≡ length a → new ≡ over b (take (length out - k) (drop k out))
    → take k out ++ (new ++ drop (length out - k) (drop k out)) ≡ over (a ++ b) out₀
over_lent a b out₀ out k e l q =
    rw (
      q,
      take_all (length out - k) (drop k out) (omega (arith, length-drop k out)),
      drop_of_length-le (drop k out) {i = length out - k} (omega (arith, length-drop k out)),
      append-nil (over b (drop k out)),
    )
    (rw (e, l) (over_more a b out₀))

-- ---- written from the back: from i on the bytes are there

pub back_start : (new out : Bytes) → out ≡ take (length new) out ++ drop (length new) (over new out)
back_start new out = rw (over_rest new out) (sym (take-append-drop (length new) out))

pub back_more : (new out : Bytes) (i : ℕ) → i < length new → length new ≤ length out
    → set (take (suc i) out ++ drop (suc i) (over new out)) i (get_or new i 0) ≡ take i out ++ drop i (over new out)
back_more new out i h b =
    rw (take-suc out i 0 (omega arith), drop-cons (over new out) i 0 (omega (arith, over_length new out b)), over_in new out i h, append_snoc)
    (set_at (take i out) (get_or out i 0) (drop (suc i) (over new out)) (get_or new i 0) i (length-take-le i out (omega arith)))
