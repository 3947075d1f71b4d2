-- A link put into an entry: that link, the others, the colour.
use Prim.Native.Nat.{ℕ, zero, suc, ◌+◌, ◌≤◌, ◌<◌}
use mathlib.Core.Path.{◌≡◌, refl, sym, ap, ◌∙◌}
use mathlib.Core.Logic.{◌≢◌, ◌⊎◌, inl, inr}
use mathlib.Core.List.{◌∷◌, ◌++◌}
use native.Mathlib.Nat.{mod-eq_of_lt}
use native.Mathlib.Omega.{arith}
use lib.ListN.{length, get_or, length-append}
use lib.Seq.{sets}
use Rattle.format.specs.Basics.Bytes.{Bytes, byte_at, part, number, u32at, le16, le32}
use Rattle.format.specs.Layout.Entry.{Field, left_field, child_field, right_field, field_byte, left, right, child, colour, black}
use Rattle.format.specs.Layout.Directory.{Directory}
use Rattle.theory.specs.TreeDraw.{link}
use Rattle.theory.proofs.Sets.{get_or_sets_in, get_or_sets_out}
use Rattle.theory.proofs.Bytes.{number_same, number_put, number_le32, length_le32}

-- the fields by their bytes
pub link_reads : (d : Directory) (k : Field) (y : ℕ) → link d k y ≡ number (part (d.entry y) (field_byte k) 4)
unfolding left right child u32at
link_reads d left_field y = refl
link_reads d child_field y = refl
link_reads d right_field y = refl

fields_apart : (j k : Field) → j ≢ k → (field_byte j + 4 ≤ field_byte k) ⊎ (field_byte k + 4 ≤ field_byte j)
fields_apart left_field left_field q = absurd (q refl)
fields_apart left_field child_field q = inl (omega arith)
fields_apart left_field right_field q = inl (omega arith)
fields_apart child_field left_field q = inr (omega arith)
fields_apart child_field child_field q = absurd (q refl)
fields_apart child_field right_field q = inr (omega arith)
fields_apart right_field left_field q = inr (omega arith)
fields_apart right_field child_field q = inl (omega arith)
fields_apart right_field right_field q = absurd (q refl)

field_room : (k : Field) → (68 ≤ field_byte k) × (field_byte k + 4 ≤ 80)
field_room left_field = (omega arith, omega arith)
field_room child_field = (omega arith, omega arith)
field_room right_field = (omega arith, omega arith)

word_put : (a : Bytes) (j x : ℕ) → j + 4 ≤ length a → x < 0x1_0000_0000 → number (part (sets a j (le32 x)) j 4) ≡ x
unfolding le32 le16
word_put a j x h l = number_put a j (le32 x) h ∙ number_le32 x ∙ mod-eq_of_lt l

-- ---- one link put

module _ (d d₂ : Directory) (y x : ℕ) (k : Field) (e : d₂.entry y ≡ sets (d.entry y) (field_byte k) (le32 x)) where
  pub link_put_lem : length (d.entry y) ≡ 128 → x < 0x1_0000_0000 → link d₂ k y ≡ x
  link_put_lem l h =
      link_reads d₂ k y ∙ ap (λ (b : Bytes). number (part b (field_byte k) 4)) e
      ∙ word_put (d.entry y) (field_byte k) x (omega (arith, l, (field_room k).1)) h

  pub link_other : (j : Field) → j ≢ k → link d₂ j y ≡ link d j y
  link_other j q =
      link_reads d₂ j y ∙ ap (λ (b : Bytes). number (part b (field_byte j) 4)) e
      ∙ number_same (sets (d.entry y) (field_byte k) (le32 x)) (d.entry y) (field_byte j) (field_byte j) 4
      (λ i l. get_or_sets_out (d.entry y) (field_byte k) (le32 x) (field_byte j + i) 0
      (λ m c z. elim (fields_apart j k q) [ inl u ↦ omega (arith, length_le32 x) | inr u ↦ omega (arith, length_le32 x) ]))
      ∙ sym (link_reads d j y)

  pub colour_off : colour (d₂.entry y) ≡ colour (d.entry y)
  unfolding colour byte_at
  colour_off =
      ap (λ (b : Bytes). get_or b 67 0) e ∙ get_or_sets_out (d.entry y) (field_byte k) (le32 x) 67 0 (λ m c z. omega (arith, (field_room k).0))

-- ---- colour, left and right put

module _ (d d₂ : Directory) (y l r : ℕ) (e : d₂.entry y ≡ sets (d.entry y) 67 (black ∷ (le32 l ++ le32 r))) (long : length (d.entry y) ≡ 128) where
  pen_long : length (black ∷ (le32 l ++ le32 r)) ≡ 9
  pen_long = omega (arith, length-append (le32 l) (le32 r), length_le32 l, length_le32 r)

  pen_at : (i : ℕ) → i < 9 → get_or (sets (d.entry y) 67 (black ∷ (le32 l ++ le32 r))) (67 + i) 0 ≡ get_or (black ∷ (le32 l ++ le32 r)) i 0
  pen_at i h = get_or_sets_in (d.entry y) 67 (black ∷ (le32 l ++ le32 r)) i 0 (omega (arith, pen_long)) (omega (arith, pen_long, long))

  pub pen_colour : colour (d₂.entry y) ≡ 1
  unfolding colour byte_at
  pen_colour = ap (λ (b : Bytes). get_or b 67 0) e ∙ pen_at 0 (omega arith)

  -- four bytes of what was put
  four : (o : ℕ) (vs : Bytes) → ((i : ℕ) → i < 4 → get_or (black ∷ (le32 l ++ le32 r)) (o + i) 0 ≡ get_or vs (0 + i) 0) → o + 4 ≤ 9
      → number (part (sets (d.entry y) 67 (black ∷ (le32 l ++ le32 r))) (67 + o) 4) ≡ number (part vs 0 4)
  four o vs h q =
      number_same (sets (d.entry y) 67 (black ∷ (le32 l ++ le32 r))) vs (67 + o) 0 4
      (λ i c. ap (λ (m : ℕ). get_or (sets (d.entry y) 67 (black ∷ (le32 l ++ le32 r))) m 0) (let z : 67 + o + i ≡ 67 + (o + i) = omega arith in z) ∙ pen_at (o + i) (omega arith) ∙ h i c)

  le_part : (v : ℕ) → number (part (le32 v) 0 4) ≡ number (le32 v)
  unfolding le32 le16 part
  le_part v = refl

  first_bytes : (i : ℕ) → i < 4 → get_or (black ∷ (le32 l ++ le32 r)) (1 + i) 0 ≡ get_or (le32 l) (0 + i) 0
  unfolding le32 le16
  first_bytes zero h = refl
  first_bytes (suc zero) h = refl
  first_bytes (suc (suc zero)) h = refl
  first_bytes (suc (suc (suc zero))) h = refl
  first_bytes (suc (suc (suc (suc i)))) h = absurd (omega arith)

  second_bytes : (i : ℕ) → i < 4 → get_or (black ∷ (le32 l ++ le32 r)) (5 + i) 0 ≡ get_or (le32 r) (0 + i) 0
  unfolding le32 le16
  second_bytes zero h = refl
  second_bytes (suc zero) h = refl
  second_bytes (suc (suc zero)) h = refl
  second_bytes (suc (suc (suc zero))) h = refl
  second_bytes (suc (suc (suc (suc i)))) h = absurd (omega arith)

  pub pen_left : l < 0x1_0000_0000 → left (d₂.entry y) ≡ l
  unfolding left u32at
  pen_left h = ap (λ (b : Bytes). number (part b 68 4)) e ∙ four 1 (le32 l) first_bytes (omega arith) ∙ le_part l ∙ number_le32 l ∙ mod-eq_of_lt h

  pub pen_right : r < 0x1_0000_0000 → right (d₂.entry y) ≡ r
  unfolding right u32at
  pen_right h = ap (λ (b : Bytes). number (part b 72 4)) e ∙ four 5 (le32 r) second_bytes (omega arith) ∙ le_part r ∙ number_le32 r ∙ mod-eq_of_lt h

  pub pen_child : child (d₂.entry y) ≡ child (d.entry y)
  unfolding child u32at
  pen_child =
      ap (λ (b : Bytes). number (part b 76 4)) e
      ∙ number_same (sets (d.entry y) 67 (black ∷ (le32 l ++ le32 r))) (d.entry y) 76 76 4
      (λ i c. get_or_sets_out (d.entry y) 67 (black ∷ (le32 l ++ le32 r)) (76 + i) 0 (λ m u z. omega (arith, pen_long)))
