-- Bytes put at the front of a buffer, one part behind the other.
use mathlib.Core.Path.{◌≡◌, refl, ap, sym, ◌∙◌}
use mathlib.Core.List.{[], ◌∷◌, ◌++◌, append_assoc}
use Prim.Native.Nat.{ℕ, suc, ◌+◌, ◌-◌, ◌≤◌, ◌<◌}
use native.Mathlib.Numerals.{add-one}
use native.Mathlib.Omega.{arith}
use lib.ListN.{length, take, drop, get_or, set, length-append, take-append-drop}
use lib.Seq.{take_at, take-append_seam, drop-append_seam, drop-cons, drop-drop, set_at, append_snoc, length-take-le}
use Rattle.format.specs.Basics.Bytes.{Bytes}
use Rattle.format.specs.Calls.Read.{over}
use Rattle.theory.proofs.Sets.{sub_take}
use Rattle.text.proofs.Over.{over_length, over_lent}

pub over_set : (a out : Bytes) (v : ℕ) {k : ℕ} → k ≡ length a → k < length out → set (over a out) k v ≡ over (a ++ (v ∷ [])) out
unfolding over
over_set a out v e h =
    rw (e, drop-cons out (length a) 0 (omega arith), length-append a (v ∷ []), add-one (length a))
    (set_at a (get_or out (length a) 0) (drop (suc (length a)) out) v (length a) refl ∙ sym (append_snoc a v (drop (suc (length a)) out)))

over_front : (out : Bytes) (k : ℕ) → k ≤ length out → over (take k out) out ≡ out
unfolding over
over_front out k h = rw (length-take-le k out h) (take-append-drop k out)

over_behind : (a b out : Bytes) {k m : ℕ} → k ≡ length a → m ≡ length b → take k (over a out) ++ (b ++ drop (k + m) (over a out)) ≡ over (a ++ b) out
unfolding over
over_behind a b out e l =
    rw (
      e,
      l,
      ← drop-drop (length b) (length a) (a ++ drop (length a) out),
      take-append_seam a (drop (length a) out),
      drop-append_seam a (drop (length a) out),
      drop-drop (length b) (length a) out,
      length-append a b,
    )
    (sym (append_assoc a b (drop (length a + length b) out)))

-- so many new bytes stand at the front of a buffer
pub record Filled (out₀ new out : Bytes) (k : ℕ) : Type 0 where
  pub bytes : out ≡ over new out₀
  pub count : k ≡ length new
  pub room : k ≤ length out₀

-- at first those before a place, which stay
pub filled_start : (out : Bytes) (k : ℕ) → k ≤ length out → Filled out (take k out) out k
filled_start out k h = record { bytes = sym (over_front out k h); count = sym (length-take-le k out h); room = h }

-- or new ones, copied
pub filled_copied : (out : Bytes) {word new : Bytes} → new ≡ word → length word ≤ length out → Filled out word (new ++ drop (length word) out) (length word)
unfolding over
filled_copied out e h = record { bytes = rw e; count = refl; room = h }

module _ {out₀ a out : Bytes} {k : ℕ} (w : Filled out₀ a out k) where
  pub filled_length : length out ≡ length out₀
  filled_length = ap length w.bytes ∙ over_length a out₀ (omega (arith, w.count, w.room))

  -- a call wrote them into what it was lent
  pub filled_lent : (b : Bytes) {n : ℕ} {new : Bytes} → k + length b ≤ length out₀ → n ≡ length b → new ≡ over b (take (length out - k) (drop k out))
      → Filled out₀ (a ++ b) (take k out ++ (new ++ drop (length out - k) (drop k out))) (k + n)
  filled_lent b {n} {new} h e q =
      record {
        bytes = over_lent a b out₀ out k {new = new} w.bytes w.count q;
        count = omega (arith, w.count, length-append a b);
        room = omega arith;
      }

  -- or into the whole buffer
  pub filled_behind : (b : Bytes) {n : ℕ} {new : Bytes} → k + length b ≤ length out₀ → n ≡ length b → new ≡ take k out ++ (b ++ drop (k + n) out)
      → Filled out₀ (a ++ b) new (k + n)
  filled_behind b {n} {new} h e q =
      record {
        bytes = q ∙ rw w.bytes (over_behind a b out₀ w.count e);
        count = omega (arith, w.count, length-append a b);
        room = omega arith;
      }

  pub filled_set : (v : ℕ) → k < length out₀ → Filled out₀ (a ++ (v ∷ [])) (set out k v) (k + 1)
  filled_set v h =
      record {
        bytes = rw w.bytes (over_set a out₀ v w.count h);
        count = omega (arith, w.count, length-append a (v ∷ []));
        room = omega arith;
      }

module _ {out₀ out : Bytes} {k : ℕ} (at : ℕ) (b : Bytes) (w : Filled out₀ (take at out₀ ++ b) out k) (h : at ≤ length out₀) where
  -- as a contract says it
  pub filled_end : {n : ℕ} → n ≡ length b → out ≡ take at out₀ ++ (b ++ drop (at + n) out₀)
  unfolding over
  filled_end e =
      w.bytes ∙ rw (e, length-append (take at out₀) b, length-take-le at out₀ h) (append_assoc (take at out₀) b (drop (at + length b) out₀))

  -- a part of the bytes that stay
  pub filled_kept : (n m : ℕ) → n + m ≤ at → take m (drop n out) ≡ take m (drop n out₀)
  filled_kept n m i =
      sym (sub_take m n at out i)
      ∙ ap (λ (l : Bytes). take m (drop n l)) (ap (take at) (filled_end refl) ∙ take_at (take at out₀) (b ++ drop (at + length b) out₀) at (length-take-le at out₀ h))
      ∙ sub_take m n at out₀ i
