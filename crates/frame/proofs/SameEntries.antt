-- Two images that differ in a table's sectors alone are one image where all its entries are the same.
use mathlib.Core.Path.{◌≡◌, sym, ap, ◌∙◌}
use mathlib.Core.Logic.{inl, inr}
use mathlib.Core.List.{List, [], ◌∷◌}
use Prim.Native.Nat.{ℕ, suc, ◌+◌, ◌-◌, ◌*◌, ◌/◌, ◌%◌, ◌<◌}
use native.Mathlib.Nat.{add-mul-div_right, add-mul-mod_self_right, div-eq_of_lt, mod-eq_of_lt, div-add-mod', mod-lt, mul-le-mul_left, mul_comm, zero-add}
use native.Mathlib.Decide.{dec_lt}
use native.Mathlib.Omega.{arith}
use lib.ListN.{length, get_or, drop}
use lib.Seq.{ext_get_or, get_or-take, get_or-drop}
use borrow.Author.Tests.{lt-ltb}
use Rattle.format.specs.Basics.Lists.{count}
use Rattle.format.specs.Basics.Bytes.{Bytes, part}
use Rattle.format.specs.Layout.Geometry.{Geometry, sector_place, place_in, entries_in, entry_bytes}
use Rattle.format.specs.Layout.Directory.{entry_place, entry_count, entry_in}
use Rattle.theory.proofs.Counts.{eqb_cases}
use Rattle.frame.specs.Kept.{Sized, Kept, Off}
use Rattle.frame.proofs.Entry.{S128, sector_some}

-- what stands in a list has a place there
pub found_at : (s : ℕ) (xs : List ℕ) → 0 < count s xs → (i : ℕ) × (i < length xs) × (get_or xs i 0 ≡ s)
found_at s [] h = absurd (omega arith)
found_at s (x ∷ xs) h =
    elim (eqb_cases s x) [
      | inl e ↦ (0, omega arith, sym e.0)
      | inr e ↦ let r = found_at s xs (omega (arith, h, ap Rattle.format.specs.Basics.Lists.bit e.1)) in (suc r.0, omega (arith, r.1), r.2)
    ]

-- byte j of a part
pub get_d_part : (b : Bytes) (p n j : ℕ) → j < n → get_or (part b p n) j 0 ≡ get_or b (p + j) 0
unfolding part
get_d_part b p n j h = get_or-take n (drop p b) j 0 h ∙ get_or-drop p b j 0

module _ (g : Geometry) (z : Sized g) (secs : List ℕ) where
  abbrev B : ℕ
  B = g.sector_bytes

  abbrev c : ℕ
  c = entries_in g

  -- byte k of sector m of the table is one of entry m c + k / 128
  entry_of : (m k : ℕ) → k < B → entry_place g secs (m * c + k / 128) + k % 128 ≡ sector_place g (get_or secs m 0) + k
  unfolding entry_place entry_bytes place_in
  entry_of m k h =
      let e : 128 * (m * c + k / 128) ≡ 128 * (k / 128) + m * B = omega (arith, S128 g z, ap (λ (i : ℕ). m * i) (S128 g z)) in
      let low : 128 * (k / 128) < B = omega arith in
      let a : (128 * (k / 128) + m * B) / B ≡ m = add-mul-div_right (128 * (k / 128)) m (sector_some g z) ∙ ap (λ (i : ℕ). i + m) (div-eq_of_lt low) ∙ zero-add m in
      let r : (128 * (k / 128) + m * B) % B ≡ 128 * (k / 128) = add-mul-mod_self_right (128 * (k / 128)) m B ∙ mod-eq_of_lt low in
      rw (e, a, r) (omega arith)

  entry_in_lem : (m k : ℕ) → m < length secs → k < B → m * c + k / 128 < entry_count g secs
  unfolding entry_count
  entry_in_lem m k hm hk =
      let q : k / 128 < c = omega (arith, S128 g z) in
      let r = mul-le-mul_left c hm in
      omega (arith, q, r, mul_comm c (suc m), mul_comm m c)

  module _ (img a b : Bytes) (ka : Kept g (Off secs) img a) (kb : Kept g (Off secs) img b)
      (same : (y : ℕ) → y < entry_count g secs → entry_in g a secs y ≡ entry_in g b secs y) where
    entry_byte : (y j : ℕ) → y < entry_count g secs → j < 128 → get_or a (entry_place g secs y + j) 0 ≡ get_or b (entry_place g secs y + j) 0
    unfolding entry_in entry_bytes
    entry_byte y j h l =
        let e : part a (entry_place g secs y) 128 ≡ part b (entry_place g secs y) 128 = rw (lt-ltb y (entry_count g secs) h) at (same y h) in
        sym (get_d_part a (entry_place g secs y) 128 j l) ∙ ap (λ (x : Bytes). get_or x j 0) e ∙ get_d_part b (entry_place g secs y) 128 j l

    sector_byte : (s k : ℕ) → k < B → get_or a (sector_place g s + k) 0 ≡ get_or b (sector_place g s + k) 0
    sector_byte s k h =
        elim (dec_lt 0 (count s secs)) [
          | yes p ↦
              let f = found_at s secs p in
              let q = entry_of f.0 k h ∙ ap (λ (i : ℕ). sector_place g i + k) f.2 in
              rw (← q) (entry_byte (f.0 * c + k / 128) (k % 128) (entry_in_lem f.0 k f.1 h) (omega arith))
          | no p ↦ ka.body s k h (omega arith) ∙ sym (kb.body s k h (omega arith))
        ]

    byte : (i : ℕ) → get_or a i 0 ≡ get_or b i 0
    unfolding sector_place
    byte i =
        elim (dec_lt i B) [
          | yes p ↦ ka.head i p ∙ sym (kb.head i p)
          | no p ↦
              let d = div-add-mod' i B in
              let m = mod-lt i (sector_some g z) in
              let some : 0 < i / B = below i p d m in
              let e : (i / B - 1 + 1) * B + i % B ≡ i = ap (λ (n : ℕ). n * B + i % B) (let q : i / B - 1 + 1 ≡ i / B = omega arith in q) ∙ d in
              rw e at (sector_byte (i / B - 1) (i % B) m)
        ]
      where
        below : (i : ℕ) → (i < B → ⊥) → i / B * B + i % B ≡ i → i % B < B → 0 < i / B
        below i p d m = elim (dec_lt 0 (i / B)) [ yes q ↦ q | no q ↦ absurd (let r : i / B ≡ 0 = omega arith in omega (arith, d, m, ap (λ (n : ℕ). n * B) r)) ]

    pub same_image : a ≡ b
    same_image = ext_get_or 0 a b (ka.size ∙ sym kb.size) (λ i l. byte i)
