-- Entries made from nothing: their length and their fields.
use mathlib.Core.Path.{◌≡◌, refl, sym, ap, ap₂, ◌∙◌}
use mathlib.Core.Logic.{◌⊎◌, inl, inr}
use mathlib.Core.Bool.{true, ◌&&◌, not}
use mathlib.Core.List.{List, [], ◌∷◌, ◌++◌, append_assoc}
use Prim.Native.Nat.{ℕ, zero, suc, ◌+◌, ◌-◌, ◌*◌, ◌/◌, ◌%◌, ◌≤◌, ◌<◌}
use native.Mathlib.Nat.{zero-add, add-zero, suc-add, mod-eq_of_lt}
use native.Mathlib.Omega.{arith}
use native.Mathlib.Decide.{dec_lt}
use lib.Dec.{eqb, ltb, leb}
use lib.ListN.{length, take, drop, get_or, replicate, length-append, length-replicate, length-take, get_or-replicate, get_or-append}
use lib.Seq.{sets, length-sets, ext_get_or}
use borrow.Author.Tests.{leb-true, ltb-true, eq-eqb, le-leb}
use Rattle.format.specs.Basics.Lists.{fit, all, list_below}
use Rattle.format.specs.Basics.Bytes.{Bytes, byte_at, part, number, u16at, u32at, le16, le32, le64, is_zero, all_zero}
use Rattle.format.specs.Layout.Name.{Name, illegal, legal_name, legal_unit}
use Rattle.format.specs.Layout.Entry.{NOSTREAM, name_bytes, name_unit, name, kind, colour, left, right, child, clsid, created, modified, start, size, size_field}
use Rattle.format.specs.Layout.NewEntry.{new_entry, blank_entry, entry_rest, no_links, utf16_bytes}
use Rattle.format.specs.Rules.Entries.{blank_fields, name_fields, stream_fields, storage_fields, common_fields, entry_fields}
use Rattle.theory.proofs.Sets.{get_or_sets_in}
use Rattle.theory.proofs.Bytes.{u16_bytes, number_le32}
use Rattle.theory.proofs.Below.{get_or_below, length_below}
use Rattle.theory.proofs.Tests.{both}

-- ---- the length of a made entry

pub fit_long : (n : ℕ) (xs : List ℕ) → length (fit n xs) ≡ n
unfolding fit
fit_long n xs =
    elim (dec_lt (length xs) n) [
      | yes h ↦ omega (arith, length-append (take n xs) (replicate (n - length xs) 0), length-replicate {A = ℕ} (n - length xs) 0, length-take n xs)
      | no h ↦ omega (arith, length-append (take n xs) (replicate (n - length xs) 0), length-replicate {A = ℕ} (n - length xs) 0, length-take n xs)
    ]

pub rest_long : (n k s c : ℕ) → length (entry_rest n k s c) ≡ 64
unfolding entry_rest no_links le16 le32 le64
rest_long n k s c = refl

pub new_long : (n : Name) (k s c : ℕ) → length (new_entry n k s c) ≡ 128
unfolding new_entry
new_long n k s c =
    omega (arith, length-append (fit 64 (utf16_bytes n)) (entry_rest (2 * length n + 2) k s c), fit_long 64 (utf16_bytes n), rest_long (2 * length n + 2) k s c)

pub blank_long : length blank_entry ≡ 128
unfolding blank_entry no_links le32 le16
blank_long = refl

-- a whole entry written
pub sets_whole : (b vs : Bytes) → length b ≡ length vs → sets b 0 vs ≡ vs
sets_whole b vs h =
    ext_get_or 0 (sets b 0 vs) vs (length-sets b 0 vs ∙ h)
    (λ i l. ap (λ (k : ℕ). get_or (sets b 0 vs) k 0) (sym (zero-add i)) ∙ get_or_sets_in b 0 vs i 0 (omega (arith, length-sets b 0 vs)) (omega arith))

-- ---- reading behind a list

drop_past : (xs ys : Bytes) (j : ℕ) → drop (length xs + j) (xs ++ ys) ≡ drop j ys
drop_past [] ys j = ap (λ (k : ℕ). drop k ys) (zero-add j)
drop_past (x ∷ xs) ys j = ap (λ (k : ℕ). drop k (x ∷ (xs ++ ys))) (suc-add (length xs) j) ∙ drop_past xs ys j

get_past : (xs ys : Bytes) (j : ℕ) → get_or (xs ++ ys) (length xs + j) 0 ≡ get_or ys j 0
get_past [] ys j = ap (λ (k : ℕ). get_or ys k 0) (zero-add j)
get_past (x ∷ xs) ys j = ap (λ (k : ℕ). get_or (x ∷ (xs ++ ys)) k 0) (suc-add (length xs) j) ∙ get_past xs ys j

part_behind : (a b : Bytes) (j m : ℕ) → length a ≡ 64 → part (a ++ b) (64 + j) m ≡ part b j m
unfolding part
part_behind a b j m h = ap (take m) (ap (λ (k : ℕ). drop (k + j) (a ++ b)) (sym h) ∙ drop_past a b j)

byte_behind : (a b : Bytes) (j : ℕ) → length a ≡ 64 → get_or (a ++ b) (64 + j) 0 ≡ get_or b j 0
byte_behind a b j h = ap (λ (k : ℕ). get_or (a ++ b) (k + j) 0) (sym h) ∙ get_past a b j

take_all : (m : ℕ) (xs : Bytes) → length xs ≤ m → take m xs ≡ xs
take_all m [] h = take_none m
  where
    take_none : (m : ℕ) → take m (let z : Bytes = [] in z) ≡ []
    take_none zero = refl
    take_none (suc m) = refl
take_all zero (x ∷ xs) h = absurd (omega arith)
take_all (suc m) (x ∷ xs) h = ap (λ (l : Bytes). x ∷ l) (take_all m xs (omega arith))

-- ---- the units of a name

pub units_long : (n : Name) → length (utf16_bytes n) ≡ 2 * length n
unfolding utf16_bytes le16
units_long [] = refl
units_long (u ∷ us) = omega (arith, units_long us)

unit_low : (n : Name) (r : Bytes) (i : ℕ) → i < length n → (get_or (utf16_bytes n ++ r) (2 * i) 0 ≡ get_or n i 0 % 256) × (get_or (utf16_bytes n ++ r) (2 * i + 1) 0 ≡ get_or n i 0 / 256 % 256)
unfolding utf16_bytes le16
unit_low [] r i h = absurd (omega arith)
unit_low (u ∷ us) r zero h = (refl, refl)
unit_low (u ∷ us) r (suc i) h =
    let k = unit_low us r i (omega arith) in
    let a : 2 * suc i ≡ suc (suc (2 * i)) = omega arith in
    let b : 2 * suc i + 1 ≡ suc (suc (2 * i + 1)) = omega arith in
    let l = u % 256 ∷ u / 256 % 256 ∷ (utf16_bytes us ++ r) in (
      ap (λ (j : ℕ). get_or l j 0) a ∙ k.0,
      ap (λ (j : ℕ). get_or l j 0) b ∙ k.1,
    )

unit_small : (n : Name) → all legal_unit n ≡ true → (i : ℕ) → i < length n → get_or n i 0 < 65536
unfolding all legal_unit
unit_small [] h i l = absurd (omega arith)
unit_small (u ∷ us) h zero l =
    ltb-true u 65536 (both (ltb u 65536) (not (eqb u 0) && not (illegal u)) (both (legal_unit u) (all legal_unit us) h).0).0
unit_small (u ∷ us) h (suc i) l = unit_small us (both (legal_unit u) (all legal_unit us) h).1 i (omega arith)

-- ---- a new entry

module _ (n : Name) (k s : ℕ) (legal : legal_name n ≡ true) where
  abbrev front : Bytes
  front = fit 64 (utf16_bytes n)

  abbrev rest : Bytes
  rest = entry_rest (2 * length n + 2) k s 0

  abbrev e : Bytes
  e = new_entry n k s 0

  legal_all : all legal_unit n ≡ true
  unfolding legal_name
  legal_all = (both (leb 1 (length n) && leb (length n) 31) (all legal_unit n) legal).1

  lengths : (1 ≤ length n) × (length n ≤ 31)
  unfolding legal_name
  lengths =
      let p = (both (leb 1 (length n) && leb (length n) 31) (all legal_unit n) legal).0 in
      let q = both (leb 1 (length n)) (leb (length n) 31) p in
      (leb-true 1 (length n) q.0, leb-true (length n) 31 q.1)

  e_part : (j m : ℕ) → part e (64 + j) m ≡ part rest j m
  unfolding new_entry
  e_part j m = part_behind front rest j m (fit_long 64 (utf16_bytes n))

  e_byte : (j : ℕ) → get_or e (64 + j) 0 ≡ get_or rest j 0
  unfolding new_entry
  e_byte j = byte_behind front rest j (fit_long 64 (utf16_bytes n))

  pub kind_new : kind e ≡ k
  unfolding kind byte_at entry_rest le16
  kind_new = e_byte 2

  pub colour_new : colour e ≡ 1
  unfolding colour byte_at entry_rest le16
  colour_new = e_byte 3

  pub left_new : left e ≡ NOSTREAM
  unfolding left u32at entry_rest no_links le16 le32 part number
  left_new = ap number (e_part 4 4)

  pub right_new : right e ≡ NOSTREAM
  unfolding right u32at entry_rest no_links le16 le32 part number
  right_new = ap number (e_part 8 4)

  pub child_new : child e ≡ NOSTREAM
  unfolding child u32at entry_rest no_links le16 le32 part number
  child_new = ap number (e_part 12 4)

  pub start_made : s < 0x1_0000_0000 → start e ≡ s
  unfolding start u32at entry_rest no_links le16 le32 part
  start_made h = ap number (e_part 52 4) ∙ number_le32 s ∙ mod-eq_of_lt h

  pub size_made : (c : ℕ) → (c ≡ 4) ⊎ (c ≡ 8) → size c e ≡ 0
  unfolding size entry_rest no_links le16 le32 le64 part number
  size_made c (inl q) = rw q (ap number (e_part 56 4))
  size_made c (inr q) = rw q (ap number (e_part 56 8))

  name_bytes_new : name_bytes e ≡ 2 * length n + 2
  unfolding name_bytes u16at entry_rest le16 part number
  name_bytes_new = ap number (e_part 0 2) ∙ two (2 * length n + 2) (omega (arith, lengths.1))
    where
      two : (v : ℕ) → v < 65536 → v % 256 + 256 * (v / 256 % 256 + 256 * 0) ≡ v
      two v h = omega arith

  -- the name's units, and zeros behind them
  e_units : e ≡ utf16_bytes n ++ (replicate (64 - 2 * length n) 0 ++ rest)
  unfolding new_entry fit
  e_units =
      let l = units_long n in
      rw (take_all 64 (utf16_bytes n) (omega (arith, lengths.1)), l) (append_assoc (utf16_bytes n) (replicate (64 - 2 * length n) 0) rest)

  unit_new : (i : ℕ) → i < length n → name_unit e i ≡ get_or n i 0
  unfolding name_unit
  unit_new i h =
      let r = replicate (64 - 2 * length n) 0 ++ rest in
      let u = unit_low n r i h in
      ap (λ (b : Bytes). u16at b (2 * i)) e_units ∙ u16_bytes (utf16_bytes n ++ r) (2 * i) ∙ ap₂ (λ (a b : ℕ). a + 256 * b) u.0 u.1 ∙ whole (get_or n i 0) (unit_small n legal_all i h)
    where
      whole : (v : ℕ) → v < 65536 → v % 256 + 256 * (v / 256 % 256) ≡ v
      whole v h = omega arith

  pub name_new : name e ≡ n
  unfolding name
  name_new =
      let q : name_bytes e / 2 - 1 ≡ length n = omega (arith, name_bytes_new) in
      ap (λ (j : ℕ). list_below j (name_unit e)) q
      ∙ ext_get_or 0 (list_below (length n) (name_unit e)) n (length_below (length n) (name_unit e))
      (λ i h. let l : i < length n = omega (arith, length_below (length n) (name_unit e)) in get_or_below (length n) (name_unit e) i 0 l ∙ unit_new i l)

  zero_at_lem : (i : ℕ) → i < 2 → get_or e (2 * length n + i) 0 ≡ 0
  zero_at_lem i h =
      let l = units_long n in
      let z : Bytes = replicate (64 - 2 * length n) 0 in
      ap (λ (b : Bytes). get_or b (2 * length n + i) 0) e_units
      ∙ ap (λ (j : ℕ). get_or (utf16_bytes n ++ (z ++ rest)) (j + i) 0) (sym l)
      ∙ get_past (utf16_bytes n) (z ++ rest) i
      ∙ get_or-append z rest 0 i (omega (arith, length-replicate {A = ℕ} (64 - 2 * length n) 0, lengths.1))
      ∙ get_or-replicate {A = ℕ} (64 - 2 * length n) i 0 0 (omega (arith, lengths.1))

  end_new : u16at e (name_bytes e - 2) ≡ 0
  end_new =
      let q : name_bytes e - 2 ≡ 2 * length n = omega (arith, name_bytes_new) in
      let a = zero_at_lem 0 (omega arith) in
      let b = zero_at_lem 1 (omega arith) in
      ap (u16at e) q ∙ u16_bytes e (2 * length n) ∙ omega (arith, ap (λ (j : ℕ). get_or e j 0) (add-zero (2 * length n)), a, b)

  name_fields_new : name_fields e ≡ true
  unfolding name_fields
  name_fields_new =
      let l = lengths in
      rw (end_new, name_new, name_bytes_new, legal, eq-eqb ((2 * length n + 2) % 2) 0 (omega arith), le-leb 4 (2 * length n + 2) (omega arith), le-leb (2 * length n + 2) 64 (omega arith))

  clsid_is : all_zero (clsid e) ≡ true
  unfolding clsid entry_rest no_links le16 le32 part all_zero all is_zero
  clsid_is = ap all_zero (e_part 16 16)

  created_is : all_zero (created e) ≡ true
  unfolding created entry_rest no_links le16 le32 part all_zero all is_zero
  created_is = ap all_zero (e_part 36 8)

  modified_is : all_zero (modified e) ≡ true
  unfolding modified entry_rest no_links le16 le32 part all_zero all is_zero
  modified_is = ap all_zero (e_part 44 8)

  stream_fields_new : stream_fields e ≡ true
  unfolding stream_fields
  stream_fields_new = rw (name_fields_new, child_new, clsid_is, created_is, modified_is)

  size_zero : all_zero (part e size_field 8) ≡ true
  unfolding entry_rest no_links le16 le32 le64 part all_zero all is_zero
  size_zero = ap all_zero (e_part 56 8)

  storage_fields_new : s ≡ 0 → storage_fields e ≡ true
  unfolding storage_fields
  storage_fields_new q =
      let k = start_made (omega (arith, q)) ∙ q in
      rw (name_fields_new, k, size_zero)

-- group 14 of new entries
pub fields_stream : (i : ℕ) (n : Name) (s : ℕ) → legal_name n ≡ true → entry_fields (suc i) (new_entry n 2 s 0) ≡ true
unfolding entry_fields common_fields
fields_stream i n s h = rw (kind_new n 2 s h, stream_fields_new n 2 s h, colour_new n 2 s h)

pub fields_storage : (i : ℕ) (n : Name) → legal_name n ≡ true → entry_fields (suc i) (new_entry n 1 0 0) ≡ true
unfolding entry_fields common_fields
fields_storage i n h = rw (kind_new n 1 0 h, storage_fields_new n 1 0 h refl, colour_new n 1 0 h)

-- ---- the blank entry

pub fields_blank : (i : ℕ) → entry_fields (suc i) blank_entry ≡ true
unfolding entry_fields blank_fields common_fields blank_entry no_links kind byte_at colour left right child u32at part number le32 le16 all_zero is_zero all
fields_blank i = refl

pub kind_blank : kind blank_entry ≡ 0
unfolding kind byte_at blank_entry no_links le32 le16
kind_blank = refl
