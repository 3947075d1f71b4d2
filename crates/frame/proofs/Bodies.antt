-- An entry with other links and another colour: its name, kind, start and size, and group 14.
use Prim.Native.Nat.{ℕ, zero, suc, ◌+◌, ◌-◌, ◌*◌, ◌/◌, ◌≤◌}
use mathlib.Core.Path.{◌≡◌, refl, sym, ap, ◌∙◌, subst}
use mathlib.Core.Bool.{Bool, true, false, ◌&&◌, ◌||◌}
use native.Mathlib.Omega.{arith}
use lib.Dec.{eqb, leb}
use lib.ListN.{length}
use lib.Seq.{sets, length-sets}
use borrow.Author.Tests.{eqb-true}
use Rattle.format.specs.Basics.Bytes.{Bytes, byte_at, part, number, u16at, u32at, all_zero}
use Rattle.format.specs.Layout.Geometry.{Geometry, size_width}
use Rattle.format.specs.Layout.Directory.{directory_of, size_of}
use Rattle.format.specs.Layout.Volume.{volume, directory}
use Rattle.format.specs.Layout.Stream.{stream_size}
use Rattle.format.specs.Layout.Entry.{NOSTREAM, name_bytes, name_unit, name, kind, is_blank, is_storage, is_stream, is_root, colour, left, right, child, clsid, created, modified, start, size}
use Rattle.format.specs.Rules.Entries.{blank_fields, name_fields, stream_fields, storage_fields, root_fields, common_fields, entry_fields}
use Rattle.theory.proofs.Sets.{get_or_sets_out}
use Rattle.theory.proofs.Bytes.{part_same}
use Rattle.theory.proofs.Below.{list_below_ext}
use Rattle.theory.proofs.Tests.{both, and_true_of, clash}
use Rattle.frame.specs.Redraw.{SameBody, SameStream}
use Rattle.frame.proofs.EntryFacts.{name_bytes_short, stream_fields_say, storage_fields_say, stream_fields_of, storage_fields_of}

-- bytes put between 67 and 79
pub body_sets : (a : Bytes) (j : ℕ) (vs : Bytes) → 67 ≤ j → j + length vs ≤ 80 → SameBody a (sets a j vs)
body_sets a j vs p q =
    record {
      size = length-sets a j vs;
      front = λ i h. get_or_sets_out a j vs i 0 (λ k l e. omega arith);
      back = λ i h. get_or_sets_out a j vs i 0 (λ k l e. omega arith);
    }

pub body_refl : (a : Bytes) → SameBody a a
body_refl a = record { size = refl; front = λ i h. refl; back = λ i h. refl }

pub body_eq : (a b : Bytes) → b ≡ a → SameBody a b
body_eq a b e = subst (λ (x : Bytes). SameBody a x) (sym e) (body_refl a)

module _ (a b : Bytes) (s : SameBody a b) where
  part_front : (p k : ℕ) → p + k ≤ 67 → part b p k ≡ part a p k
  part_front p k h = part_same b a p k s.size (λ i l. s.front (p + i) (omega arith))

  part_back : (p k : ℕ) → 80 ≤ p → part b p k ≡ part a p k
  part_back p k h = part_same b a p k s.size (λ i l. s.back (p + i) (omega arith))

  u16_front : (p : ℕ) → p + 2 ≤ 67 → u16at b p ≡ u16at a p
  unfolding u16at
  u16_front p h = ap number (part_front p 2 h)

  pub kind_body : kind b ≡ kind a
  unfolding kind byte_at
  kind_body = s.front 66 (omega arith)

  name_bytes_body : name_bytes b ≡ name_bytes a
  unfolding name_bytes
  name_bytes_body = u16_front 64 (omega arith)

  pub name_body : name_bytes a ≤ 64 → name b ≡ name a
  unfolding name name_unit
  name_body h =
      rw name_bytes_body (list_below_ext (name_bytes a / 2 - 1) (name_unit a) (name_unit b) (λ i l. u16_front (2 * i) (omega arith)))

  pub start_body : start b ≡ start a
  unfolding start u32at
  start_body = ap number (part_back 116 4 (omega arith))

  pub size_body : (c : ℕ) → size c b ≡ size c a
  unfolding size
  size_body c = ap number (part_back 120 c (omega arith))

  names_same : name_bytes a ≤ 64 → name_fields b ≡ name_fields a
  unfolding name_fields
  names_same h = rw (name_bytes_body, name_body h, u16_front (name_bytes a - 2) (omega arith))

  -- ---- group 14

  stream_body : stream_fields a ≡ true → child b ≡ NOSTREAM → stream_fields b ≡ true
  unfolding stream_fields clsid created modified
  stream_body f c =
      let k = stream_fields_say a f in
      let h = name_bytes_short a k.0 in
      let same : stream_fields b ≡ stream_fields a =
      rw (names_same h, c, k.1, part_back 80 16 (omega arith), part_back 100 8 (omega arith), part_back 108 8 (omega arith)) in
      same ∙ f

  storage_body : storage_fields a ≡ true → storage_fields b ≡ true
  unfolding storage_fields
  storage_body f =
      let h = name_bytes_short a (storage_fields_say a f) in
      let same : storage_fields b ≡ storage_fields a = rw (names_same h, start_body, part_back 120 8 (omega arith)) in
      same ∙ f

  root_body : root_fields a ≡ true → left b ≡ NOSTREAM → right b ≡ NOSTREAM → root_fields b ≡ true
  unfolding root_fields created
  root_body f l r =
      let k = (both (eqb (left a) NOSTREAM && eqb (right a) NOSTREAM) (all_zero (part a 100 8)) f).1 in
      rw (l, r, part_back 100 8 (omega arith)) k

  pub fields_body : (i : ℕ) → entry_fields i a ≡ true → is_blank a ≡ false → leb (colour b) 1 ≡ true → (is_stream a ≡ true → child b ≡ NOSTREAM)
      → (is_root a ≡ true → (left b ≡ NOSTREAM) × (right b ≡ NOSTREAM)) → entry_fields i b ≡ true
  unfolding entry_fields common_fields
  fields_body zero f n c st ro =
      let q = both (is_root a) (root_fields a) (both (is_root a && root_fields a) (common_fields a) f).0 in
      let k = ro q.0 in
      and_true_of (is_root b && root_fields b) (common_fields b)
      (and_true_of (is_root b) (root_fields b) (ap (λ (m : ℕ). eqb m 5) kind_body ∙ q.0) (root_body q.1 k.0 k.1)) c
  fields_body (suc i) f n c st ro = go (is_stream a) refl (is_storage a) refl
    where
      go : (t : Bool) → is_stream a ≡ t → (u : Bool) → is_storage a ≡ u
          → (((is_blank b && blank_fields b) || (is_storage b && storage_fields b) || (is_stream b && stream_fields b)) && leb (colour b) 1) ≡ true
      go true h u k =
          let e = eqb-true (kind a) 2 h in
          rw (kind_body, e, c) (and_true_of (stream_fields b) true (stream_body (stream_fields_of a (suc i) f h) (st h)) refl)
      go false h true k =
          let e = eqb-true (kind a) 1 k in
          rw (kind_body, e, c, storage_body (storage_fields_of a (suc i) f k))
      go false h false k = absurd (clash (rw (n, h, k) at f) refl)

-- as a stream it is what it was
pub same_stream : (g : Geometry) (img img' : Bytes) (y : ℕ) → SameBody ((volume g img).directory.entry y) ((volume g img').directory.entry y)
    → SameStream (volume g img) (volume g img') y
unfolding stream_size size_of volume directory directory_of
same_stream g img img' y b =
    let a = (volume g img).directory.entry y in
    let c = (volume g img').directory.entry y in
    record {
      stream = ap (λ (m : ℕ). eqb m 2) (kind_body a c b);
      start = start_body a c b;
      size = size_body a c b (size_width g);
    }
