-- Bytes put into units run after run: the walk is at byte o of unit number k, and the first i bytes are put.
use Prim.Native.Nat.{ℕ, ◌+◌, ◌-◌, ◌*◌, ◌/◌, ◌%◌, ◌≤◌, ◌<◌, min}
use mathlib.Core.Path.{◌≡◌, refl, sym, ◌∙◌, ap}
use mathlib.Core.List.{List, ◌++◌}
use native.Mathlib.Nat.{div-add-mod', mod-lt, lt_of_mul-lt-mul_right, add-mul}
use native.Mathlib.Omega.{arith}
use lib.ListN.{length, get_or, take, drop, take-append-drop, drop_of_length-le}
use lib.Seq.{length-sets, drop-drop, get_or-take}
use Rattle.format.specs.Basics.Bytes.{Bytes, part, put_bytes}
use Rattle.format.specs.Layout.Space.{Space}
use Rattle.format.specs.Calls.Overwrite.{put_chain}
use Rattle.theory.proofs.ByteTests.{length_part}
use Rattle.frame.proofs.Chunks.{put_append, put_chunk}

pub record Putting (sp : Space) (us : List ℕ) (offset : ℕ) (bytes img₀ img : Bytes) (k o i : ℕ) : Type 0 where
  pub some : i ≤ length bytes
  pub inner : o < sp.unit
  pub long : length img ≡ length img₀
  -- after the last byte k and o say nothing
  pub here : i < length bytes → offset + i ≡ k * sp.unit + o
  pub left : put_chain sp us img (offset + i) (drop i bytes) ≡ put_chain sp us img₀ offset bytes

module _ (sp : Space) (us : List ℕ) (offset : ℕ) (bytes img₀ : Bytes) where
  pub putting_start : 0 < sp.unit → Putting sp us offset bytes img₀ img₀ (offset / sp.unit) (offset % sp.unit) 0
  putting_start z =
      let e = div-add-mod' offset sp.unit in
      let n : offset + 0 ≡ offset = omega arith in
      record { some = omega arith; inner = mod-lt offset z; long = refl; here = λ h. omega arith; left = rw n }

  module _ {img : Bytes} {k o i : ℕ} (a : Putting sp us offset bytes img₀ img k o i) where
    pub putting_done : length bytes ≤ i → img ≡ put_chain sp us img₀ offset bytes
    unfolding put_chain
    putting_done h = rw (drop_of_length-le bytes {i = i} h) at a.left

    module _ (h : i < length bytes) where
      -- the unit at hand is one of the stream's
      pub putting_below : (n : ℕ) → offset + length bytes ≤ n * sp.unit → k < n
      putting_below n f = lt_of_mul-lt-mul_right sp.unit (omega (arith, a.here h))

      module _ (r : ℕ) (e : r ≡ min (sp.unit - o) (length bytes - i)) where
        -- there is a byte to put, and no more than are left
        more : (0 < r) × (i + r ≤ length bytes)
        more = let w = a.inner in (omega arith, omega arith)

        -- the bytes that are left are this run and what follows it
        run : drop i bytes ≡ part bytes i r ++ drop (i + r) bytes
        unfolding part
        run = sym (take-append-drop r (drop i bytes)) ∙ ap (λ t. take r (drop i bytes) ++ t) (drop-drop r i bytes)

        run_put : put_chain sp us img (offset + i) (drop i bytes) ≡ put_chain sp us (put_bytes img (sp.unit_place (get_or us k 0) + o) (part bytes i r)) (offset + (i + r)) (drop (i + r) bytes)
        unfolding put_bytes
        run_put =
            let w = a.inner in
            let l = length_part bytes i r more.1 in
            let s : offset + i + r ≡ offset + (i + r) = omega arith in
            let p : put_chain sp us img (offset + i) (part bytes i r) ≡ put_bytes img (sp.unit_place (get_or us k 0) + o) (part bytes i r) = rw (a.here h) (put_chunk sp us img k o (part bytes i r) (omega arith)) in
            rw run (rw (put_append, l, s, p))

        step : (next : Bytes) → next ≡ put_bytes img (sp.unit_place (get_or us k 0) + o) (part bytes i r) → Putting sp us offset bytes img₀ next (k + 1) 0 (i + r)
        unfolding put_bytes
        step next q =
            let w = a.inner in
            let m = more in
            record {
              some = m.1;
              inner = omega arith;
              long = ap length q ∙ simp length-sets a.long;
              here = λ t. omega (arith, a.here h, add-mul k 1 sp.unit);
              left = rw q (sym run_put ∙ a.left);
            }

-- the units are the first n of the work buffer, and `unit` is how many bytes a unit has
module _ (sp : Space) (work : List ℕ) (n offset : ℕ) (bytes img₀ : Bytes) (f : offset + length bytes ≤ n * sp.unit) {img : Bytes} {k o i : ℕ} (a : Putting sp (take n work) offset bytes img₀ img k o i) where
  pub putting_step : i < length bytes → (unit p r : ℕ) → unit ≡ sp.unit → p ≡ sp.unit_place (get_or work k 0) → r ≡ min (unit - o) (length bytes - i)
      → (next : Bytes) → next ≡ put_bytes img (p + o) (part bytes i r)
      → Putting sp (take n work) offset bytes img₀ next (k + 1) 0 (i + r)
  putting_step h unit p r u q e next x =
      let b = putting_below sp (take n work) offset bytes img₀ a h n f in
      let m : p ≡ sp.unit_place (get_or (take n work) k 0) = q ∙ ap sp.unit_place (sym (get_or-take n work k 0 b)) in
      step sp (take n work) offset bytes img₀ a h r (rw u at e) next (rw m at x)
