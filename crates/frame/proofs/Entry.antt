-- Start and size written into an entry.
use mathlib.Core.Path.{◌≡◌, refl, ap, ◌∙◌}
use mathlib.Core.Logic.{◌≢◌, ◌⊎◌, inl, inr}
use mathlib.Core.List.{List, [], ◌∷◌, ◌++◌}
use mathlib.Core.Bool.{Bool, true, false, cond}
use Prim.Native.Nat.{ℕ, suc, ◌+◌, ◌-◌, ◌*◌, ◌/◌, ◌≤◌, ◌<◌}
use native.Mathlib.Nat.{add-zero, add-suc, suc-add, mod-eq_of_lt}
use native.Mathlib.Omega.{arith}
use lib.Dec.{eqb, ltb}
use lib.ListN.{length, get_or, take, drop, set, length-drop}
use lib.Seq.{sets, length-sets, ext_get_or, get_or-take, get_or-drop, length-take-le}
use borrow.Author.Tests.{lt-ltb, ltb-true}
use Rattle.format.specs.Basics.Bytes.{Bytes, byte_at, part, number, u16at, u32at, le16, le32, le64, put_bytes, put32, put64}
use Rattle.format.specs.Layout.Geometry.{Geometry, size_width, place_in, entries_in, entry_bytes}
use Rattle.format.specs.Layout.Entry.{name_bytes, name, kind, colour, left, right, child, clsid, created, modified, start, size, name_unit}
use Rattle.format.specs.Layout.Directory.{entry_in, entry_place, entry_count}
use Rattle.format.specs.Rules.Entries.{name_fields, stream_fields, common_fields}
use Rattle.theory.proofs.Sets.{get_or_sets_in, get_or_sets_out}
use Rattle.frame.specs.Kept.{Sized, Kept, Off, Table}
use Rattle.frame.specs.Edits.{SameFields}
use Rattle.theory.proofs.Bytes.{part_same, number_same, number_put, number_le32, number_le64, length_le32, length_le64}
use Rattle.frame.proofs.Kept.{kept_trans}
use Rattle.frame.proofs.Things.{thing_other, thing_same, thing_kept, thing_room}
use Rattle.theory.proofs.Below.{list_below_ext}

-- the entry with another start and size
unfoldable pub stamped : Bytes → ℕ → ℕ → Bytes
stamped b s n = sets (sets b 116 (le32 s)) 120 (le64 n)

-- the image with entry e so
unfoldable pub stamped_in : Geometry → List ℕ → Bytes → ℕ → ℕ → ℕ → Bytes
stamped_in g secs img e s n = put64 (put32 img (entry_place g secs e + 116) s) (entry_place g secs e + 120) n

pub S128 : (g : Geometry) → Sized g → g.sector_bytes ≡ entries_in g * 128
unfolding entries_in entry_bytes
S128 g z = let e = z.even in omega arith

pub sector_some : (g : Geometry) → Sized g → 0 < g.sector_bytes
sector_some g z = let w = z.wide in omega arith

module _ (g : Geometry) (z : Sized g) (len : ℕ) (secs : List ℕ) (t : Table g len secs) (img : Bytes) (e s n : ℕ) (he : e < entry_count g secs) where
  pub stamp_kept : Kept g (Off secs) img (stamped_in g secs img e s n)
  unfolding stamped_in put64 put32 put_bytes entry_place entry_bytes entry_count
  stamp_kept =
      let p = place_in g secs (128 * e) in
      kept_trans g (Off secs) img (sets img (p + 116) (le32 s)) (sets (sets img (p + 116) (le32 s)) (p + 120) (le64 n))
      (thing_kept g 128 (entries_in g) (S128 g z) (sector_some g z) len secs t img e 116 (le32 s) he (omega (arith, length_le32 s)) secs (λ x q. q))
      (thing_kept g 128 (entries_in g) (S128 g z) (sector_some g z) len secs t (sets img (p + 116) (le32 s)) e 120 (le64 n) he (omega (arith, length_le64 n)) secs (λ x q. q))

  pub stamp_other : (i : ℕ) → i ≢ e → entry_in g (stamped_in g secs img e s n) secs i ≡ entry_in g img secs i
  unfolding stamped_in put64 put32 put_bytes entry_place entry_bytes entry_count entry_in
  stamp_other i q = go (ltb i (entries_in g * length secs)) refl
    where
      go : (b : Bool) → ltb i (entries_in g * length secs) ≡ b
          → cond b (part (sets (sets img (place_in g secs (128 * e) + 116) (le32 s)) (place_in g secs (128 * e) + 120) (le64 n)) (place_in g secs (128 * i)) 128) []
          ≡ cond b (part img (place_in g secs (128 * i)) 128) []
      go true h =
          let hi = ltb-true i (entries_in g * length secs) h in
          let p = place_in g secs (128 * e) in
          thing_other g 128 (entries_in g) (S128 g z) (sector_some g z) len secs t (sets img (p + 116) (le32 s)) e 120 (le64 n) he (omega (arith, length_le64 n)) i hi q
          ∙ thing_other g 128 (entries_in g) (S128 g z) (sector_some g z) len secs t img e 116 (le32 s) he (omega (arith, length_le32 s)) i hi q
      go false h = refl

  pub stamp_same : entry_in g (stamped_in g secs img e s n) secs e ≡ stamped (entry_in g img secs e) s n
  unfolding stamped_in put64 put32 put_bytes entry_place entry_bytes entry_count entry_in stamped
  stamp_same =
      let p = place_in g secs (128 * e) in
      rw (lt-ltb e (entries_in g * length secs) he)
      (thing_same g 128 (entries_in g) (S128 g z) (sector_some g z) len secs t (sets img (p + 116) (le32 s)) e 120 (le64 n) he (omega (arith, length_le64 n))
      ∙ ap (λ (b : Bytes). sets b 120 (le64 n)) (thing_same g 128 (entries_in g) (S128 g z) (sector_some g z) len secs t img e 116 (le32 s) he (omega (arith, length_le32 s))))

  pub entry_length : length img ≡ len → length (entry_in g img secs e) ≡ 128
  unfolding entry_place entry_bytes entry_count entry_in part
  entry_length l =
      let p = place_in g secs (128 * e) in
      let r = thing_room g 128 (entries_in g) (S128 g z) (sector_some g z) len secs t e he in
      rw (lt-ltb e (entries_in g * length secs) he) (length-take-le 128 (drop p img) (rw (length-drop p img) (omega arith)))

-- ---- the fields

pub part_put : (b : Bytes) (p : ℕ) (vs : Bytes) → p + length vs ≤ length b → part (sets b p vs) p (length vs) ≡ vs
unfolding part
part_put b p vs h =
    let l = length-take-le (length vs) (drop p (sets b p vs)) (rw (length-drop p (sets b p vs), length-sets b p vs) (omega arith)) in
    ext_get_or 0 (take (length vs) (drop p (sets b p vs))) vs l
    (λ i q. let k : i < length vs = omega arith in
    get_or-take (length vs) (drop p (sets b p vs)) i 0 k ∙ get_or-drop p (sets b p vs) i 0 ∙ get_or_sets_in b p vs i 0 k h)

sets_append : (b : Bytes) (i : ℕ) (xs ys : Bytes) → sets b i (xs ++ ys) ≡ sets (sets b i xs) (i + length xs) ys
sets_append b i [] ys = rw add-zero
sets_append b i (x ∷ xs) ys = rw (add-suc, ← suc-add) (sets_append (set b i x) (suc i) xs ys)

number_put4 : (b : Bytes) (s : ℕ) → length b ≡ 128 → number (part (sets b 116 (le32 s)) 116 4) ≡ number (le32 s)
unfolding le32 le16
number_put4 b s l = number_put b 116 (le32 s) (omega arith)

number_put8 : (b : Bytes) (n : ℕ) → length b ≡ 128 → number (part (sets b 120 (le64 n)) 120 8) ≡ number (le64 n)
unfolding le64 le32 le16
number_put8 b n l = number_put b 120 (le64 n) (omega arith)

-- the lower half of eight bytes that are written
low_of : (b : Bytes) (n : ℕ) → length b ≡ 128 → n < 0x1_0000_0000 → number (part (sets b 120 (le64 n)) 120 4) ≡ n
unfolding le64 le32 le16
low_of b n l h =
    let c = sets b 120 (le32 n) in
    let k : length c ≡ 128 = length-sets b 120 (le32 n) ∙ l in
    ap (λ (x : Bytes). number (part x 120 4)) (sets_append b 120 (le32 n) (le32 (n / 0x1_0000_0000)))
    ∙ number_same (sets c 124 (le32 (n / 0x1_0000_0000))) c 120 120 4 (λ i q. get_or_sets_out c 124 (le32 (n / 0x1_0000_0000)) (120 + i) 0 (λ k c e. omega arith))
    ∙ number_put b 120 (le32 n) (omega arith)
    ∙ number_le32 n
    ∙ mod-eq_of_lt h

-- as many bytes of a size count as the version says: four or eight
pub size_counts : (g : Geometry) → (size_width g ≡ 4) ⊎ (size_width g ≡ 8)
unfolding size_width
size_counts g = go (eqb g.major 3)
  where
    go : (t : Bool) → (cond {A = ℕ} t 4 8 ≡ 4) ⊎ (cond {A = ℕ} t 4 8 ≡ 8)
    go true = inl refl
    go false = inr refl

module _ (b : Bytes) (s n : ℕ) where
  -- the bytes below 116
  byte_low : (i : ℕ) → i < 116 → get_or (stamped b s n) i 0 ≡ get_or b i 0
  unfolding stamped
  byte_low i h =
      get_or_sets_out (sets b 116 (le32 s)) 120 (le64 n) i 0 (λ k l e. omega arith) ∙ get_or_sets_out b 116 (le32 s) i 0 (λ k l e. omega arith)

  length_stamped : length (stamped b s n) ≡ length b
  unfolding stamped
  length_stamped = length-sets (sets b 116 (le32 s)) 120 (le64 n) ∙ length-sets b 116 (le32 s)

  pub part_low : (p k : ℕ) → p + k ≤ 116 → part (stamped b s n) p k ≡ part b p k
  part_low p k h = part_same (stamped b s n) b p k length_stamped (λ i l. byte_low (p + i) (omega arith))

  u16_low : (p : ℕ) → p + 2 ≤ 116 → u16at (stamped b s n) p ≡ u16at b p
  unfolding u16at
  u16_low p h = ap number (part_low p 2 h)

  u32_low : (p : ℕ) → p + 4 ≤ 116 → u32at (stamped b s n) p ≡ u32at b p
  unfolding u32at
  u32_low p h = ap number (part_low p 4 h)

  name_bytes_low : name_bytes (stamped b s n) ≡ name_bytes b
  unfolding name_bytes
  name_bytes_low = u16_low 64 (omega arith)

  name_low : name_bytes b ≤ 64 → name (stamped b s n) ≡ name b
  unfolding name name_unit
  name_low h =
      rw name_bytes_low (list_below_ext (name_bytes b / 2 - 1) (name_unit b) (name_unit (stamped b s n)) (λ i l. u16_low (2 * i) (omega arith)))

  kind_low : kind (stamped b s n) ≡ kind b
  unfolding kind byte_at
  kind_low = byte_low 66 (omega arith)

  colour_low : colour (stamped b s n) ≡ colour b
  unfolding colour byte_at
  colour_low = byte_low 67 (omega arith)

  left_low : left (stamped b s n) ≡ left b
  unfolding left
  left_low = u32_low 68 (omega arith)

  right_low : right (stamped b s n) ≡ right b
  unfolding right
  right_low = u32_low 72 (omega arith)

  child_low : child (stamped b s n) ≡ child b
  unfolding child
  child_low = u32_low 76 (omega arith)

  rules_low : name_bytes b ≤ 64 → stream_fields (stamped b s n) ≡ stream_fields b
  unfolding stream_fields name_fields clsid created modified
  rules_low h =
      rw (name_bytes_low, name_low h, u16_low (name_bytes b - 2) (omega arith), child_low, part_low 80 16 (omega arith), part_low 100 8 (omega arith), part_low 108 8 (omega arith))

  module _ (l : length b ≡ 128) (hs : s < 0x1_0000_0000) (hn : n < 0x1_0000_0000) where
    pub start_new : start (stamped b s n) ≡ s
    unfolding start u32at stamped
    start_new =
        number_same (sets (sets b 116 (le32 s)) 120 (le64 n)) (sets b 116 (le32 s)) 116 116 4
        (λ i q. get_or_sets_out (sets b 116 (le32 s)) 120 (le64 n) (116 + i) 0 (λ k c e. omega arith))
        ∙ put4 ∙ number_le32 s ∙ mod-eq_of_lt hs
      where
        put4 : number (part (sets b 116 (le32 s)) 116 4) ≡ number (le32 s)
        put4 = number_put4 b s l

    pub size_new : (c : ℕ) → (c ≡ 4) ⊎ (c ≡ 8) → size c (stamped b s n) ≡ n
    unfolding size stamped
    size_new c (inl q) = rw q (low_of (sets b 116 (le32 s)) n (length-sets b 116 (le32 s) ∙ l) hn)
    size_new c (inr q) = rw q (number_put8 (sets b 116 (le32 s)) n (length-sets b 116 (le32 s) ∙ l) ∙ number_le64 n (omega arith))

    common_new : common_fields b ≡ true → common_fields (stamped b s n) ≡ true
    unfolding common_fields
    common_new h = rw colour_low h

    pub fields_new : name_bytes b ≤ 64 → common_fields b ≡ true → SameFields b (stamped b s n)
    fields_new h c =
        record {
          name = name_low h;
          kind = kind_low;
          colour = colour_low;
          left = left_low;
          right = right_low;
          child = child_low;
          rules = rules_low h;
          common = common_new c;
        }
