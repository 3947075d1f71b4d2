-- Units filled with zeros one after the other, the first from its middle on: the walk is at byte o of unit number k.
use Prim.Native.Nat.{ℕ, ◌+◌, ◌-◌, ◌*◌, ◌/◌, ◌%◌, ◌≤◌, ◌<◌}
use mathlib.Core.Path.{◌≡◌, refl, sym, ◌∙◌, ap}
use mathlib.Core.List.{List, ◌++◌}
use native.Mathlib.Nat.{div-add-mod', mod-lt, mul-le-mul_right, add-mul}
use native.Mathlib.Omega.{arith}
use lib.ListN.{length, get_or, take, drop, replicate, length-replicate, replicate-append-replicate}
use lib.Seq.{sets, length-sets, get_or-take, length-take-le}
use Rattle.format.specs.Basics.Bytes.{Bytes, part}
use Rattle.format.specs.Layout.Space.{Space}
use Rattle.format.specs.Calls.Overwrite.{put_chain}
use Rattle.format.specs.Calls.SetLength.{zeroed}
use Rattle.theory.proofs.ByteTests.{length_part}
use Rattle.frame.proofs.Chunks.{put_append, put_chunk}
use Rattle.theory.proofs.Sets.{lent_back}

-- n zeros
abbrev pub zeros : ℕ → Bytes
zeros n = replicate n 0

pub record Zeroing (sp : Space) (us : List ℕ) (from : ℕ) (img₀ img : Bytes) (k o : ℕ) : Type 0 where
  pub inner : o < sp.unit
  pub long : length img ≡ length img₀
  pub left : zeroed sp us img (k * sp.unit + o) ≡ zeroed sp us img₀ from

module _ (sp : Space) (us : List ℕ) (from : ℕ) (img₀ : Bytes) where
  pub zeroing_start : 0 < sp.unit → Zeroing sp us from img₀ img₀ (from / sp.unit) (from % sp.unit)
  zeroing_start z = record { inner = mod-lt from z; long = refl; left = rw (div-add-mod' from sp.unit) }

  module _ {img : Bytes} {k o : ℕ} (a : Zeroing sp us from img₀ img k o) where
    -- the zeros that are left are those of this unit and those of the units behind it
    zeros_split : k < length us → zeros (length us * sp.unit - (k * sp.unit + o)) ≡ zeros (sp.unit - o) ++ zeros (length us * sp.unit - (k + 1) * sp.unit)
    zeros_split h =
        let q : (k + 1) * sp.unit ≤ length us * sp.unit = mul-le-mul_right sp.unit (omega arith) in
        let e = add-mul k 1 sp.unit in
        let w = a.inner in
        let n : length us * sp.unit - (k * sp.unit + o) ≡ (sp.unit - o) + (length us * sp.unit - (k + 1) * sp.unit) = omega arith in
        rw n (sym (replicate-append-replicate (sp.unit - o) (length us * sp.unit - (k + 1) * sp.unit) 0))

    unit_zeroed : k < length us → zeroed sp us img (k * sp.unit + o) ≡ zeroed sp us (sets img (sp.unit_place (get_or us k 0) + o) (zeros (sp.unit - o))) ((k + 1) * sp.unit)
    unfolding zeroed
    unit_zeroed h =
        let l : length (zeros (sp.unit - o)) ≡ sp.unit - o = length-replicate (sp.unit - o) 0 in
        let w = a.inner in
        let e : k * sp.unit + o + (sp.unit - o) ≡ (k + 1) * sp.unit = omega (arith, add-mul k 1 sp.unit) in
        rw (zeros_split h, put_append, l, e, put_chunk sp us img k o (zeros (sp.unit - o)) (omega arith))

    step : k < length us → (next : Bytes) → next ≡ sets img (sp.unit_place (get_or us k 0) + o) (zeros (sp.unit - o)) → Zeroing sp us from img₀ next (k + 1) 0
    step h next e =
        let w = a.inner in
        let z : (k + 1) * sp.unit + 0 ≡ (k + 1) * sp.unit = omega arith in
        record {
          inner = omega arith;
          long = ap length e ∙ simp length-sets a.long;
          left = rw (z, e) (sym (unit_zeroed h) ∙ a.left);
        }

    done : length us ≤ k → img ≡ zeroed sp us img₀ from
    unfolding zeroed put_chain
    done h =
        let q : length us * sp.unit ≤ k * sp.unit = mul-le-mul_right sp.unit h in
        let z : length us * sp.unit - (k * sp.unit + o) ≡ 0 = omega arith in
        rw z at a.left

-- a part that was lent and comes back with zeros in it
zeros_back : (b x : Bytes) (start end : ℕ) → start ≤ end → end ≤ length b → x ≡ zeros (length (take (end - start) (drop start b)))
    → take start b ++ (x ++ drop (end - start) (drop start b)) ≡ sets b start (zeros (end - start))
unfolding part
zeros_back b x start end h r e =
    let l : length (take (end - start) (drop start b)) ≡ end - start = length_part b start (end - start) (omega arith) in
    let z : length (zeros (end - start)) ≡ end - start = length-replicate (end - start) 0 in
    rw (e, l) (lent_back b (zeros (end - start)) start end (omega arith) r)

-- the units are the first n of the work buffer, and `bytes` is how many bytes a unit has
module _ (sp : Space) (work : List ℕ) (n : ℕ) (room : n ≤ length work) (from : ℕ) (img₀ : Bytes) {img : Bytes} {k o : ℕ} (a : Zeroing sp (take n work) from img₀ img k o) where
  pub zeroing_step : k < n → (bytes p : ℕ) → bytes ≡ sp.unit → p ≡ sp.unit_place (get_or work k 0) → p + bytes ≤ length img → (x : Bytes)
      → x ≡ zeros (length (take (p + bytes - (p + o)) (drop (p + o) img)))
      → Zeroing sp (take n work) from img₀ (take (p + o) img ++ (x ++ drop (p + bytes - (p + o)) (drop (p + o) img))) (k + 1) 0
  zeroing_step h bytes p u q r x e =
      let w = a.inner in
      let l = length-take-le n work room in
      let z : p + bytes - (p + o) ≡ sp.unit - o = omega arith in
      let t : zeros (p + bytes - (p + o)) ≡ zeros (sp.unit - o) = ap zeros z in
      let m : p ≡ sp.unit_place (get_or (take n work) k 0) = q ∙ ap sp.unit_place (sym (get_or-take n work k 0 h)) in
      step sp (take n work) from img₀ a (omega arith) _ (zeros_back img x (p + o) (p + bytes) (omega arith) r e ∙ rw (t, m))

  pub zeroing_done : n ≤ k → img ≡ zeroed sp (take n work) img₀ from
  zeroing_done h = let l = length-take-le n work room in done sp (take n work) from img₀ a (omega arith)
