-- Every object of an accepted image prints so that it can be read back; and there are not too many to count.
use Prim.Native.Nat.{ℕ, ◌≤◌, ◌<◌}
use mathlib.Core.Path.{◌≡◌, refl, sym, ◌∙◌}
use mathlib.Core.Logic.{◌⊎◌, inl, inr}
use mathlib.Core.Bool.{Bool, true, false, ◌&&◌, ◌||◌}
use native.Mathlib.Omega.{arith}
use lib.Dec.{eqb}
use lib.ListN.{length}
use borrow.Author.Tests.{eqb-true}
use Rattle.format.specs.Basics.Lists.{bit, count}
use Rattle.format.specs.Basics.Bytes.{Bytes, part, number, u32at, u64at, all_zero}
use Rattle.format.specs.Layout.Geometry.{Geometry, size_width}
use Rattle.format.specs.Layout.Name.{legal_name}
use Rattle.format.specs.Layout.Entry.{name, kind, size, size_field, start, is_storage, is_stream}
use Rattle.format.specs.Layout.Directory.{Directory, directory_of, size_of}
use Rattle.format.specs.Layout.Stream.{stream_size}
use Rattle.format.specs.Layout.Tree.{forest, entries}
use Rattle.format.specs.Layout.Volume.{volume, directory}
use Rattle.format.specs.Rules.Entries.{entry_fields, name_fields, storage_fields}
use Rattle.format.specs.Rules.Trees.{is_object}
use Rattle.format.specs.Rules.Verdict.{Accepted}
use Rattle.theory.proofs.Bytes.{u64_halves}
use Rattle.theory.proofs.ByteTests.{zero_number}
use Rattle.theory.proofs.Counts.{pigeonhole}
use Rattle.theory.proofs.Tests.{both, or_only}
use Rattle.frame.specs.Kept.{Sized}
use Rattle.frame.specs.Good.{Good}
use Rattle.frame.proofs.Bounds.{stream_short, entries_short}
use Rattle.frame.proofs.EntryFacts.{entry_fields_lem, storage_fields_of}
use Rattle.frame.proofs.Entry.{size_counts}
use Rattle.listing_laws.specs.Text.{Printable}

-- ---- an entry

-- eight zero bytes are no size, whichever of them count
zero_front : (e : Bytes) (c : ℕ) → (c ≡ 4) ⊎ (c ≡ 8) → all_zero (part e size_field 8) ≡ true → number (part e size_field c) ≡ 0
unfolding u64at u32at
zero_front e c (inr q) h = rw q (eqb-true (number (part e size_field 8)) 0 (sym (zero_number (part e size_field 8)) ∙ h))
zero_front e c (inl q) h =
    rw q (let k = eqb-true (number (part e size_field 8)) 0 (sym (zero_number (part e size_field 8)) ∙ h) in omega (arith, k, u64_halves e size_field))

storage_size : (c : ℕ) (e : Bytes) → (c ≡ 4) ⊎ (c ≡ 8) → storage_fields e ≡ true → size c e ≡ 0
unfolding storage_fields size
storage_size c e q h = zero_front e c q (both (name_fields e && eqb (start e) 0) (all_zero (part e size_field 8)) h).1

entry_printable : (x c : ℕ) (e : Bytes) → (c ≡ 4) ⊎ (c ≡ 8) → (is_stream e ≡ true → size c e ≤ 0x400_0000) → entry_fields x e ≡ true
    → (is_storage e || is_stream e) ≡ true → legal_name (name e) ≡ true → Printable c e
entry_printable x c e w short f o l = record { legal = l; kinds = go (is_stream e) refl o }
  where
    go : (t : Bool) → is_stream e ≡ t → (is_storage e || t) ≡ true → ((kind e ≡ 2) × (size c e < 100_000_000_000_000_000_000)) ⊎ ((kind e ≡ 1) × (size c e ≡ 0))
    go true s k = inl (eqb-true (kind e) 2 s, omega (arith, short s))
    go false s k = let st = or_only (is_storage e) k in inr (eqb-true (kind e) 1 st, storage_size c e w (storage_fields_of e x f st))

-- ---- all objects

bit_true : (b : Bool) → 0 < bit b → b ≡ true
bit_true true h = refl
bit_true false h = absurd (omega arith)

bit_one : (b : Bool) → bit b ≤ 1
bit_one true = omega arith
bit_one false = omega arith

module _ (g : Geometry) (z : Sized g) (img : Bytes) (acc : Accepted g img) (o : Good (volume g img)) where
  abbrev d : Directory
  d = (volume g img).directory

  module _ (once : (x : ℕ) → count x (entries (forest d)) ≡ bit (is_object d x)) (inside : (x : ℕ) → 0 < count x (entries (forest d)) → x < d.count) where
    pub objects_printable : ((x : ℕ) → 0 < count x (entries (forest d)) → legal_name (name (d.entry x)) ≡ true) →
        (x : ℕ) → 0 < count x (entries (forest d)) → Printable d.size_width (d.entry x)
    unfolding stream_size size_of volume directory directory_of
    objects_printable legal x k =
        let i = inside x k in
        entry_printable x (size_width g) (d.entry x) (size_counts g) (stream_short g z img acc x i) (entry_fields_lem o x i)
        (bit_true (is_object d x) (omega (arith, once x))) (legal x k)

    pub objects_few : length (entries (forest d)) < 100_000_000_000_000_000_000
    objects_few =
        omega (arith, entries_short g z img acc, pigeonhole (entries (forest d)) d.count inside (λ x. omega (arith, once x, bit_one (is_object d x))))
