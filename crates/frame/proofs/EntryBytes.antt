-- An entry by its colour and links, where its other bytes are known.
use mathlib.Core.Path.{◌≡◌, sym, ap, ◌∙◌}
use mathlib.Core.Logic.{◌≢◌}
use mathlib.Core.List.{◌∷◌, ◌++◌}
use Prim.Native.Nat.{ℕ, zero, suc, ◌+◌, ◌-◌, ◌≤◌, ◌<◌}
use native.Mathlib.Decide.{dec_lt}
use native.Mathlib.Omega.{arith}
use lib.ListN.{length, get_or, length-append, get_or-append}
use lib.Seq.{sets, length-sets, ext_get_or, get_or-append-add}
use Rattle.format.specs.Basics.Bytes.{Bytes, byte_at, u32at, le16, le32}
use Rattle.format.specs.Layout.Entry.{colour, left, right, child, black}
use Rattle.theory.proofs.Sets.{get_or_sets_in, get_or_sets_out}
use Rattle.theory.proofs.Bytes.{u32_bytes, length_le32}
use Rattle.frame.specs.Redraw.{SameBody}

-- a number's four bytes are those that it was read from
pub field_byte_lem : (b : Bytes) (o : ℕ) → ((i : ℕ) → get_or b i 0 < 256) → (k : ℕ) → k < 4 → get_or (le32 (u32at b o)) k 0 ≡ get_or b (o + k) 0
unfolding le32 le16
field_byte_lem b o h zero l = omega (arith, u32_bytes b o, h o, h (o + 1), h (o + 2), h (o + 3), ap (λ (i : ℕ). get_or b i 0) (let q : o + 0 ≡ o = omega arith in q))
field_byte_lem b o h (suc zero) l = omega (arith, u32_bytes b o, h o, h (o + 1), h (o + 2), h (o + 3))
field_byte_lem b o h (suc (suc zero)) l = omega (arith, u32_bytes b o, h o, h (o + 1), h (o + 2), h (o + 3))
field_byte_lem b o h (suc (suc (suc zero))) l = omega (arith, u32_bytes b o, h o, h (o + 1), h (o + 2), h (o + 3))
field_byte_lem b o h (suc (suc (suc (suc k)))) l = absurd (omega arith)

-- two fields of one number have the same bytes
field_same : (a b : Bytes) (o : ℕ) → ((i : ℕ) → get_or a i 0 < 256) → ((i : ℕ) → get_or b i 0 < 256) → u32at b o ≡ u32at a o
    → (k : ℕ) → k < 4 → get_or b (o + k) 0 ≡ get_or a (o + k) 0
field_same a b o ha hb e k l = sym (field_byte_lem b o hb k l) ∙ ap (λ (v : ℕ). get_or (le32 v) k 0) e ∙ field_byte_lem a o ha k l

-- equal in all regions
by_regions : (b c : Bytes) → length b ≡ length c → ((i : ℕ) → i < 67 → get_or b i 0 ≡ get_or c i 0) → get_or b 67 0 ≡ get_or c 67 0
    → ((k : ℕ) → k < 4 → get_or b (68 + k) 0 ≡ get_or c (68 + k) 0) → ((k : ℕ) → k < 4 → get_or b (72 + k) 0 ≡ get_or c (72 + k) 0)
    → ((k : ℕ) → k < 4 → get_or b (76 + k) 0 ≡ get_or c (76 + k) 0) → ((i : ℕ) → 80 ≤ i → get_or b i 0 ≡ get_or c i 0) → b ≡ c
by_regions b c n front mid l r d back = ext_get_or 0 b c n (λ i h. at i (dec_lt i 67) (dec_lt i 68) (dec_lt i 72) (dec_lt i 76) (dec_lt i 80))
  where
    move : (i j : ℕ) → i ≡ j → get_or b j 0 ≡ get_or c j 0 → get_or b i 0 ≡ get_or c i 0
    move i j e q = rw e q

    at : (i : ℕ) → Dec (i < 67) → Dec (i < 68) → Dec (i < 72) → Dec (i < 76) → Dec (i < 80) → get_or b i 0 ≡ get_or c i 0
    at i (yes p) p₁ p₂ p₃ p₄ = front i p
    at i (no p) (yes p₁) p₂ p₃ p₄ = move i 67 (omega arith) mid
    at i (no p) (no p₁) (yes p₂) p₃ p₄ = move i (68 + (i - 68)) (omega arith) (l (i - 68) (omega arith))
    at i (no p) (no p₁) (no p₂) (yes p₃) p₄ = move i (72 + (i - 72)) (omega arith) (r (i - 72) (omega arith))
    at i (no p) (no p₁) (no p₂) (no p₃) (yes p₄) = move i (76 + (i - 76)) (omega arith) (d (i - 76) (omega arith))
    at i (no p) (no p₁) (no p₂) (no p₃) (no p₄) = back i (omega arith)

module _ (a b : Bytes) (s : SameBody a b) (ha : (i : ℕ) → get_or a i 0 < 256) (hb : (i : ℕ) → get_or b i 0 < 256) where
  -- nothing has changed
  pub body_same : colour b ≡ colour a → left b ≡ left a → right b ≡ right a → child b ≡ child a → b ≡ a
  unfolding colour left right child byte_at
  body_same c l r d = by_regions b a s.size s.front c (field_same a b 68 ha hb l) (field_same a b 72 ha hb r) (field_same a b 76 ha hb d) s.back

  module _ (n : length a ≡ 128) where
    -- another child
    pub body_child : (v : ℕ) → colour b ≡ colour a → left b ≡ left a → right b ≡ right a → child b ≡ v → b ≡ sets a 76 (le32 v)
    unfolding colour left right child byte_at
    body_child v c l r d =
        by_regions b (sets a 76 (le32 v)) (s.size ∙ sym (length-sets a 76 (le32 v)))
        (λ i h. s.front i h ∙ out i (λ k q e. omega (arith, length_le32 v)))
        (c ∙ out 67 (λ k q e. omega (arith, length_le32 v)))
        (λ k h. field_same a b 68 ha hb l k h ∙ out (68 + k) (λ j q e. omega (arith, length_le32 v)))
        (λ k h. field_same a b 72 ha hb r k h ∙ out (72 + k) (λ j q e. omega (arith, length_le32 v)))
        (λ k h. sym (field_byte_lem b 76 hb k h) ∙ ap (λ (x : ℕ). get_or (le32 x) k 0) d ∙ sym (get_or_sets_in a 76 (le32 v) k 0 (omega (arith, length_le32 v)) (omega (arith, length_le32 v))))
        (λ i h. s.back i h ∙ out i (λ k q e. omega (arith, length_le32 v)))
      where
        out : (i : ℕ) → ((k : ℕ) → k < length (le32 v) → i ≢ 76 + k) → get_or a i 0 ≡ get_or (sets a 76 (le32 v)) i 0
        out i h = sym (get_or_sets_out a 76 (le32 v) i 0 h)

    -- black, with other siblings
    pub body_sides : (l r : ℕ) → colour b ≡ black → left b ≡ l → right b ≡ r → child b ≡ child a → b ≡ sets a 67 (black ∷ (le32 l ++ le32 r))
    unfolding colour left right child byte_at
    body_sides l r c p q d =
        by_regions b (sets a 67 vs) (s.size ∙ sym (length-sets a 67 vs))
        (λ i h. s.front i h ∙ out i (λ k m e. omega (arith, long)))
        (c ∙ sym (put 0 (omega (arith, long))))
        (λ k h. sym (field_byte_lem b 68 hb k h) ∙ ap (λ (x : ℕ). get_or (le32 x) k 0) p
        ∙ sym (get_or-append (le32 l) (le32 r) 0 k (omega (arith, length_le32 l))) ∙ sym (put (suc k) (omega (arith, long)))
        ∙ ap (λ (i : ℕ). get_or (sets a 67 vs) i 0) (let w : 67 + suc k ≡ 68 + k = omega arith in w))
        (λ k h. sym (field_byte_lem b 72 hb k h) ∙ ap (λ (x : ℕ). get_or (le32 x) k 0) q
        ∙ sym (get_or-append-add (le32 l) (le32 r) k 0) ∙ sym (put (suc (length (le32 l) + k)) (omega (arith, long, length_le32 l)))
        ∙ ap (λ (i : ℕ). get_or (sets a 67 vs) i 0) (let w : 67 + suc (length (le32 l) + k) ≡ 72 + k = omega (arith, length_le32 l) in w))
        (λ k h. field_same a b 76 ha hb d k h ∙ out (76 + k) (λ j m e. omega (arith, long)))
        (λ i h. s.back i h ∙ out i (λ k m e. omega (arith, long)))
      where
        vs : Bytes
        vs = black ∷ (le32 l ++ le32 r)

        long : length vs ≡ 9
        long = omega (arith, length-append (le32 l) (le32 r), length_le32 l, length_le32 r)

        out : (i : ℕ) → ((k : ℕ) → k < length vs → i ≢ 67 + k) → get_or a i 0 ≡ get_or (sets a 67 vs) i 0
        out i h = sym (get_or_sets_out a 67 vs i 0 h)

        put : (k : ℕ) → k < length vs → get_or (sets a 67 vs) (67 + k) 0 ≡ get_or vs k 0
        put k h = get_or_sets_in a 67 vs k 0 h (omega (arith, long))
