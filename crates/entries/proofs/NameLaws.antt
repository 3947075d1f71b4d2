-- The name of an entry unit by unit.
use Prim.Native.Nat.{ℕ, zero, suc, ◌+◌, ◌-◌, ◌*◌, ◌/◌, ◌≤◌, ◌<◌}
use mathlib.Core.Path.{◌≡◌, refl, ap, sym, ◌∙◌}
use native.Mathlib.Decide.{dec_lt, ℕ_discrete}
use native.Mathlib.Numerals.{add-one}
use native.Mathlib.Omega.{arith}
use lib.ListN.{length, get_or}
use Rattle.format.specs.Basics.Bytes.{Bytes, AreBytes, u16at, u32at, u64at}
use Rattle.format.specs.Layout.Name.{Name, fold}
use Rattle.format.specs.Layout.Entry.{name_bytes, name_unit, name}
use Rattle.theory.proofs.Below.{length_below, get_or_below}
use Rattle.theory.proofs.Bytes.{u16_bytes, u32_bytes, u64_halves}
use Rattle.theory.proofs.NameCompare.{Comparing, comparing_start, turn_on}
use Rattle.entries.proofs.EntryLaws.{u16_in}
use Rattle.entries.specs.Entry.{entry_at, Field, NamedAt, Alike}

module _ (e : Bytes) where
  pub name_length : length (name e) ≡ name_bytes e / 2 - 1
  unfolding name
  name_length = length_below (name_bytes e / 2 - 1) (name_unit e)

  pub name_unit_lem : (i : ℕ) → i < name_bytes e / 2 - 1 → get_or (name e) i 0 ≡ name_unit e i
  unfolding name
  name_unit_lem i h = get_or_below (name_bytes e / 2 - 1) (name_unit e) i 0 h

  -- the folded unit number i
  pub unit_folded : (i u x : ℕ) → i < length (name e) → u ≡ name_unit e i → x ≡ fold u → x ≡ fold (get_or (name e) i 0)
  unit_folded i u x h p q = q ∙ ap fold (p ∙ sym (name_unit_lem i (omega (arith, name_length))))

-- a unit of a name that lies in its place
pub unit_inside : {img : Bytes} {p : ℕ} → NamedAt img p → (i : ℕ) → i < length (name (entry_at img p)) → Field img p (2 * i) 2
unit_inside {img} {p} n i h = record { whole = n.whole; inside = omega (arith, n.named.most, name_length (entry_at img p)) }

-- ---- units alike, four at once

halves : (b : Bytes) (o : ℕ) → u32at b o ≡ u16at b o + 65536 * u16at b (o + 2)
halves b o = let e : o + 2 + 1 ≡ o + 3 = omega arith in omega (arith, u32_bytes b o, u16_bytes b o, rw e at (u16_bytes b (o + 2)))

u16_lt : (b : Bytes) (o : ℕ) → AreBytes b → u16at b o < 65536
u16_lt b o h = omega (arith, u16_bytes b o, h o, h (o + 1))

-- eight bytes as four units
quarters : (b : Bytes) (o : ℕ) → u64at b o ≡ u16at b o + 65536 * u16at b (o + 2) + 4294967296 * u16at b (o + 4) + 281474976710656 * u16at b (o + 6)
quarters b o = let e : o + 4 + 2 ≡ o + 6 = omega arith in omega (arith, u64_halves b o, halves b o, rw e at (halves b (o + 4)))

-- eight bytes alike are four units alike
module _ (b : Bytes) (h : AreBytes b) (x y : ℕ) (e : u64at b x ≡ u64at b y) where
  words_alike : (u16at b x ≡ u16at b y) × (u16at b (x + 2) ≡ u16at b (y + 2)) × (u16at b (x + 4) ≡ u16at b (y + 4)) × (u16at b (x + 6) ≡ u16at b (y + 6))
  words_alike =
      let k : (o : ℕ) → u16at b o < 65536 = λ o. u16_lt b o h in
      let f = quarters b x in
      let g = quarters b y in
      let a = k x in
      let c = k (x + 2) in
      let d = k (x + 4) in
      let l = k (x + 6) in
      let m = k y in
      let n = k (y + 2) in
      let p = k (y + 4) in
      let q = k (y + 6) in
      (omega (arith, e, f, g, a, c, d, l, m, n, p, q), omega (arith, e, f, g, a, c, d, l, m, n, p, q), omega (arith, e, f, g, a, c, d, l, m, n, p, q), omega (arith, e, f, g, a, c, d, l, m, n, p, q))

-- a unit of a name, by its place in the image
unit_at_lem : (img : Bytes) (p : ℕ) → NamedAt img p → (j : ℕ) → j < length (name (entry_at img p)) → (o : ℕ) → o ≡ p + 2 * j → get_or (name (entry_at img p)) j 0 ≡ u16at img o
unfolding name_unit
unit_at_lem img p n j l o e =
    let z = name_length (entry_at img p) in
    name_unit_lem (entry_at img p) j (omega (arith, z)) ∙ u16_in img p (2 * j) (omega (arith, n.named.most, z)) ∙ ap (u16at img) (sym e)

-- two names that have i units alike, and then eight bytes
pub alike_more : (img : Bytes) (p q i : ℕ) → AreBytes img → NamedAt img p → NamedAt img q → i + 4 ≤ length (name (entry_at img p)) → i + 4 ≤ length (name (entry_at img q))
    → u64at img (p + 2 * i) ≡ u64at img (q + 2 * i) → Alike (name (entry_at img p)) (name (entry_at img q)) i → Alike (name (entry_at img p)) (name (entry_at img q)) (i + 4)
alike_more img p q i h np nq l m e a =
    let f = words_alike img h (p + 2 * i) (q + 2 * i) e in
    record {
      within = l;
      same = λ j r.
          elim (dec_lt j i) [
            | yes k ↦ a.same j k
            | no k ↦
                let one : (o : ℕ) → o ≡ p + 2 * j → get_or (name (entry_at img p)) j 0 ≡ u16at img o = unit_at_lem img p np j (omega arith) in
                let two : (o : ℕ) → o ≡ q + 2 * j → get_or (name (entry_at img q)) j 0 ≡ u16at img o = unit_at_lem img q nq j (omega arith) in
                elim (ℕ_discrete j i) [
                  | yes z ↦ one (p + 2 * i) (omega arith) ∙ f.0 ∙ sym (two (q + 2 * i) (omega arith))
                  | no z ↦
                      elim (ℕ_discrete j (i + 1)) [
                        | yes y ↦ one (p + 2 * i + 2) (omega arith) ∙ f.1 ∙ sym (two (q + 2 * i + 2) (omega arith))
                        | no y ↦
                            elim (ℕ_discrete j (i + 2)) [
                              | yes x ↦ one (p + 2 * i + 4) (omega arith) ∙ f.2 ∙ sym (two (q + 2 * i + 4) (omega arith))
                              | no x ↦ one (p + 2 * i + 6) (omega arith) ∙ f.3 ∙ sym (two (q + 2 * i + 6) (omega arith))
                            ]
                      ]
                ]
          ];
    }

pub alike_none : (a b : Name) → Alike a b 0
alike_none a b = record { within = omega arith; same = λ i h. absurd (omega arith) }

-- two names whose first eight bytes are alike
pub alike_first : (img : Bytes) (p q : ℕ) → AreBytes img → NamedAt img p → NamedAt img q → 4 ≤ length (name (entry_at img p)) → 4 ≤ length (name (entry_at img q))
    → u64at img p ≡ u64at img q → Alike (name (entry_at img p)) (name (entry_at img q)) 4
alike_first img p q h np nq l m e =
    let a : p + 2 * 0 ≡ p = omega arith in
    let b : q + 2 * 0 ≡ q = omega arith in
    alike_more img p q 0 h np nq l m (rw (a, b) e) (alike_none (name (entry_at img p)) (name (entry_at img q)))

-- what is alike is even
pub comparing_alike : (f : ℕ → ℕ) (a b : Name) (i : ℕ) → length a ≡ length b → Alike a b i → Comparing f a b i
comparing_alike f a b zero e h = comparing_start f a b e
comparing_alike f a b (suc i) e h =
    let k = comparing_alike f a b i e (record { within = omega (arith, h.within); same = λ j l. h.same j (omega arith) }) in
    let q = ap f (h.same i (omega arith)) in
    rw (← add-one i) (turn_on (record { so_far = k; inside = omega (arith, h.within); one = refl; two = refl }) (omega (arith, q)) (omega (arith, q)))
