-- What group 14 says of a stream, of a storage and of the root, as facts.
use Prim.Native.Nat.{ℕ, zero, suc, ◌%◌, ◌-◌, ◌<◌, ◌≤◌}
use mathlib.Core.Logic.{◌≢◌, inl, inr}
use mathlib.Core.Path.{◌≡◌, ap, refl, ◌∙◌}
use mathlib.Core.Bool.{true, false, not, ◌&&◌, ◌||◌}
use native.Mathlib.Omega.{arith}
use native.Mathlib.Decide.{dec_lt}
use lib.Dec.{eqb, leb}
use borrow.Author.Tests.{eqb-true, le-ltb, leb-true}
use Rattle.format.specs.Basics.Bytes.{Bytes, u16at, part, all_zero, byte_at}
use Rattle.format.specs.Layout.Name.{legal_name}
use Rattle.format.specs.Layout.Entry.{NOSTREAM, name, name_bytes, kind, left, right, child, clsid, created, modified, is_stream, is_storage, is_root, start, size_field, is_blank}
use Rattle.format.specs.Layout.Volume.{Volume, volume, directory}
use Rattle.format.specs.Layout.Geometry.{Geometry}
use Rattle.format.specs.Layout.Directory.{directory_of, entry_in}
use Rattle.format.specs.Rules.Entries.{entry_fields, stream_fields, storage_fields, name_fields, common_fields, root_fields, entry_right, blank_fields, entry_rules}
use Rattle.theory.specs.TreeObjects.{Searched}
use Rattle.theory.proofs.Tests.{clash, both, below_at, or_only, and_true_of}
use Rattle.theory.proofs.Trees.Insert.{either}
use Rattle.theory.proofs.Trees.Rules.{rules_apart}
use Rattle.frame.specs.Edits.{SameFields}
use Rattle.frame.specs.Good.{Good}

module _ (a : Bytes) where
  -- ---- a stream, a storage

  pub name_fields_legal : name_fields a ≡ true → legal_name (name a) ≡ true
  unfolding name_fields
  name_fields_legal h = (both (eqb (name_bytes a % 2) 0 && leb 4 (name_bytes a) && leb (name_bytes a) 64 && eqb (u16at a (name_bytes a - 2)) 0) (legal_name (name a)) h).1

  pub name_bytes_short : name_fields a ≡ true → name_bytes a ≤ 64
  unfolding name_fields
  name_bytes_short h =
      let even = eqb (name_bytes a % 2) 0 in
      let some = leb 4 (name_bytes a) in
      let short = leb (name_bytes a) 64 in
      let ends = eqb (u16at a (name_bytes a - 2)) 0 in
      leb-true (name_bytes a) 64 (both (even && some) short (both (even && some && short) ends (both (even && some && short && ends) (legal_name (name a)) h).0).0).1

  pub stream_fields_say : stream_fields a ≡ true → (name_fields a ≡ true) × (child a ≡ NOSTREAM)
  unfolding stream_fields
  stream_fields_say h =
      let front = name_fields a && eqb (child a) NOSTREAM in
      let c = (both (front && all_zero (clsid a) && all_zero (created a)) (all_zero (modified a)) h).0 in
      let b = (both (front && all_zero (clsid a)) (all_zero (created a)) c).0 in
      let p = both (name_fields a) (eqb (child a) NOSTREAM) (both front (all_zero (clsid a)) b).0 in
      (p.0, eqb-true (child a) NOSTREAM p.1)

  pub storage_fields_say : storage_fields a ≡ true → name_fields a ≡ true
  unfolding storage_fields
  storage_fields_say h = (both (name_fields a) (eqb (start a) 0) (both (name_fields a && eqb (start a) 0) (all_zero (part a size_field 8)) h).0).0

  -- ---- which fields an entry has

  root_kind : entry_fields 0 a ≡ true → kind a ≡ 5
  unfolding entry_fields
  root_kind h = eqb-true (kind a) 5 (both (is_root a) (root_fields a) (both (is_root a && root_fields a) (common_fields a) h).0).0

  pub stream_not_root : (i : ℕ) → entry_fields i a ≡ true → is_stream a ≡ true → i ≢ 0
  stream_not_root zero h st = absurd (omega (arith, root_kind h, eqb-true (kind a) 2 st))
  stream_not_root (suc i) h st = λ e. omega arith

  pub stream_fields_of : (i : ℕ) → entry_fields i a ≡ true → is_stream a ≡ true → stream_fields a ≡ true
  unfolding entry_fields
  stream_fields_of zero h st = absurd (omega (arith, root_kind h, eqb-true (kind a) 2 st))
  stream_fields_of (suc i) h st = let k = eqb-true (kind a) 2 st in (both (stream_fields a) (common_fields a) (rw k at h)).0

  pub storage_fields_of : (i : ℕ) → entry_fields i a ≡ true → is_storage a ≡ true → storage_fields a ≡ true
  unfolding entry_fields
  storage_fields_of zero h st = absurd (omega (arith, root_kind h, eqb-true (kind a) 1 st))
  storage_fields_of (suc i) h st = let k = eqb-true (kind a) 1 st in or_only (storage_fields a) (both (storage_fields a || false) (common_fields a) (rw k at h)).0

  pub common_fields_of : (i : ℕ) → entry_fields i a ≡ true → common_fields a ≡ true
  unfolding entry_fields
  common_fields_of zero h = (both (is_root a && root_fields a) (common_fields a) h).1
  common_fields_of (suc i) h = (both ((is_blank a && blank_fields a) || (is_storage a && storage_fields a) || (is_stream a && stream_fields a)) (common_fields a) h).1

  -- an edited stream's entry has the fields again
  pub edited_fields : (i : ℕ) (b : Bytes) → is_stream a ≡ true → SameFields a b → entry_fields (suc i) a ≡ true → entry_fields (suc i) b ≡ true
  unfolding entry_fields
  edited_fields i b st t h =
      let k = eqb-true (kind a) 2 st in
      let r = (both (stream_fields a) (common_fields a) (rw k at h)).0 in
      rw (t.kind, k, t.common, t.rules) (and_true_of (stream_fields a) true r refl)

-- ---- an object: a storage or a stream

-- its name is short
pub object_short : (a : Bytes) (i : ℕ) → entry_fields i a ≡ true → (is_storage a || is_stream a) ≡ true → name_bytes a ≤ 64
object_short a i f o =
    elim (either (is_stream a)) [
      | inl s ↦ name_bytes_short a (stream_fields_say a (stream_fields_of a i f s)).0
      | inr s ↦ name_bytes_short a (storage_fields_say a (storage_fields_of a i f (or_only (is_storage a) (rw s at o))))
    ]

pub object_kinds : (a : Bytes) → (is_storage a || is_stream a) ≡ true → is_storage a ≡ not (is_stream a)
object_kinds a o =
    elim (either (is_stream a)) [
      | inl s ↦ let k = eqb-true (kind a) 2 s in rw k
      | inr s ↦ rw s (or_only (is_storage a) (rw s at o))
    ]

pub object_not_blank : (a : Bytes) → (is_storage a || is_stream a) ≡ true → is_blank a ≡ false
object_not_blank a o =
    elim (either (is_blank a)) [
      | inl s ↦ let k = eqb-true (kind a) 0 s in absurd (clash o (rw k))
      | inr s ↦ s
    ]

pub object_not_root : (a : Bytes) → (is_storage a || is_stream a) ≡ true → is_root a ≡ false
object_not_root a o =
    elim (either (is_root a)) [
      | inl s ↦ let k = eqb-true (kind a) 5 s in absurd (clash o (rw k))
      | inr s ↦ s
    ]

-- ---- the root

pub root_links : (a : Bytes) → entry_fields 0 a ≡ true → (left a ≡ NOSTREAM) × (right a ≡ NOSTREAM)
unfolding entry_fields root_fields
root_links a f =
    let q = (both (is_root a) (root_fields a) (both (is_root a && root_fields a) (common_fields a) f).0).1 in
    let k = both (eqb (left a) NOSTREAM) (eqb (right a) NOSTREAM) (both (eqb (left a) NOSTREAM && eqb (right a) NOSTREAM) (all_zero (created a)) q).0 in
    (eqb-true (left a) NOSTREAM k.0, eqb-true (right a) NOSTREAM k.1)

pub root_not_blank : (a : Bytes) → entry_fields 0 a ≡ true → is_blank a ≡ false
root_not_blank a f = ap (λ (m : ℕ). eqb m 0) (root_kind a f)

-- ---- the entries of a good volume

module _ {v : Volume} (o : Good v) where
  pub entry_fields_lem : (i : ℕ) → i < v.directory.count → entry_fields i (v.directory.entry i) ≡ true
  unfolding entry_rules entry_right
  entry_fields_lem = below_at v.directory.count (entry_right v.directory) o.entries

  pub root_no_stream : 0 < v.directory.count → is_stream (v.directory.entry 0) ≡ false
  root_no_stream h = ap (λ n. eqb n 2) (root_kind (v.directory.entry 0) (entry_fields_lem 0 h))

-- entry 0 of an image is neither stream nor storage: it is the root, or there is no entry at all
root_other : (g : Geometry) (img : Bytes) → Good (volume g img) → (k : ℕ) → eqb 5 k ≡ false → eqb 0 k ≡ false → eqb (kind ((volume g img).directory.entry 0)) k ≡ false
unfolding volume directory directory_of entry_in kind byte_at
root_other g img o k five none =
    elim (dec_lt 0 (volume g img).directory.count) [
      | yes p ↦ ap (λ n. eqb n k) (root_kind ((volume g img).directory.entry 0) (entry_fields_lem o 0 p)) ∙ five
      | no q ↦ rw (le-ltb 0 (volume g img).directory.count (omega arith)) none
    ]

pub root_plain_lem : (g : Geometry) (img : Bytes) → Good (volume g img) → is_stream ((volume g img).directory.entry 0) ≡ false
root_plain_lem g img o = root_other g img o 2 refl refl

pub root_no_storage : (g : Geometry) (img : Bytes) → Good (volume g img) → is_storage ((volume g img).directory.entry 0) ≡ false
root_no_storage g img o = root_other g img o 1 refl refl

-- what finding by names needs
pub good_searched : (g : Geometry) (img : Bytes) → Good (volume g img) → Searched (volume g img).directory
good_searched g img o =
    record {
      rules = rules_apart (volume g img).directory o.trees;
      leaves = λ x h st. let a = (volume g img).directory.entry x in (stream_fields_say a (stream_fields_of a x (entry_fields_lem o x h) st)).1;
      root_plain_lem = root_plain_lem g img o;
    }
