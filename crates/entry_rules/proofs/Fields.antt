-- The fields of one entry: of entry 0 and of the others, the rule of a name's, and what they say of a name's length.
use Prim.Native.Nat.{ℕ, zero, suc, ◌-◌, ◌/◌, ◌%◌, ◌≤◌, ◌<◌}
use mathlib.Core.Path.{◌≡◌, refl, sym, ◌∙◌}
use mathlib.Core.Bool.{true, false, ◌&&◌, ◌||◌, and-true, and-false, or-false}
use native.Mathlib.Omega.{arith}
use native.Mathlib.Decide.{dec_lt}
use borrow.Author.Tests.{lt-leb, le-leb, ne_eqb}
use lib.Dec.{eqb}
use Rattle.format.specs.Basics.Lists.{all_below}
use Rattle.format.specs.Basics.Bytes.{Bytes, part, number, u16at}
use Rattle.format.specs.Layout.Name.{legal_unit, legal_name}
use Rattle.format.specs.Layout.Entry.{name_bytes, name_unit, name, kind, is_root, is_blank, is_storage, is_stream}
use Rattle.format.specs.Rules.Entries.{name_fields, entry_fields, root_fields, common_fields, blank_fields, storage_fields, stream_fields}
use Rattle.theory.proofs.Tests.{clash}
use Rattle.theory.proofs.Below.{length_below}
use Rattle.theory.proofs.Loops.{all_below_lem}
use Rattle.theory.proofs.ByteTests.{zero_number, zero_split}
use Rattle.entries.specs.Entry.{Named}
use Rattle.entry_rules.specs.Names.{unit_legal}

-- ---- entry 0, and the others

pub fields_first : (i : ℕ) (e : Bytes) → i ≡ 0 → entry_fields i e ≡ (is_root e && root_fields e && common_fields e)
unfolding entry_fields
fields_first zero e h = refl
fields_first (suc i) e h = absurd (omega arith)

pub fields_other : (i : ℕ) (e : Bytes) → (i ≡ 0 → ⊥) → entry_fields i e ≡ (((is_blank e && blank_fields e) || (is_storage e && storage_fields e) || (is_stream e && stream_fields e)) && common_fields e)
unfolding entry_fields
fields_other zero e h = absurd (h refl)
fields_other (suc i) e h = refl

-- an entry other than the root, by its colour and its type
module _ (i : ℕ) (e : Bytes) (n : i ≡ 0 → ⊥) where
  pub fields_colour : common_fields e ≡ false → entry_fields i e ≡ false
  fields_colour c = rw (fields_other i e n, c, and-false)

  module _ (c : common_fields e ≡ true) where
    fields_types : entry_fields i e ≡ ((is_blank e && blank_fields e) || (is_storage e && storage_fields e) || (is_stream e && stream_fields e))
    fields_types = rw (fields_other i e n, c, and-true)

    pub fields_stream : kind e ≡ 2 → entry_fields i e ≡ stream_fields e
    fields_stream k = rw (fields_types, k)

    pub fields_storage : kind e ≡ 1 → entry_fields i e ≡ storage_fields e
    fields_storage k = rw (fields_types, k, or-false)

    pub fields_rest : (kind e ≡ 2 → ⊥) → (kind e ≡ 1 → ⊥) → entry_fields i e ≡ (is_blank e && blank_fields e)
    fields_rest s d = rw (fields_types, ne_eqb (kind e) 2 s, ne_eqb (kind e) 1 d) (simp or-false)

-- ---- the name's fields

module _ (e : Bytes) where
  legal_is : 4 ≤ name_bytes e → name_bytes e ≤ 64 → legal_name (name e) ≡ all_below (name_bytes e / 2 - 1) (unit_legal e)
  unfolding legal_name name
  legal_is l h =
      rw (length_below (name_bytes e / 2 - 1) (name_unit e), le-leb 1 (name_bytes e / 2 - 1) (omega arith), le-leb (name_bytes e / 2 - 1) 31 (omega arith))
      (all_below_lem legal_unit (name_bytes e / 2 - 1) (name_unit e))

  pub name_short : name_bytes e < 4 → false ≡ name_fields e
  unfolding name_fields
  name_short h = sym (rw (lt-leb 4 (name_bytes e) h, and-false))

  pub name_long : 64 < name_bytes e → false ≡ name_fields e
  unfolding name_fields
  name_long h = sym (rw (lt-leb (name_bytes e) 64 h, and-false))

  pub name_right : 4 ≤ name_bytes e → name_bytes e ≤ 64
      → (eqb (name_bytes e % 2) 0 && eqb (u16at e (name_bytes e - 2)) 0 && all_below (name_bytes e / 2 - 1) (unit_legal e)) ≡ name_fields e
  unfolding name_fields
  name_right l h = rw (legal_is l h, le-leb 4 (name_bytes e) l, le-leb (name_bytes e) 64 h) (simp and-true)

-- ---- by group 14 the name of every entry but the root lies in its place

module _ (e : Bytes) (h : 64 < name_bytes e) where
  long_blank : blank_fields e ≡ false
  unfolding blank_fields name_bytes u16at
  long_blank =
      rw (zero_split e 0 64 4, zero_split e 64 2 2, zero_number (part e 64 2), ne_eqb (number (part e 64 2)) 0 (λ z. omega arith), and-false)

  long_storage : storage_fields e ≡ false
  unfolding storage_fields
  long_storage = rw (← name_long e h)

  long_stream : stream_fields e ≡ false
  unfolding stream_fields
  long_stream = rw (← name_long e h)

pub name_fits : (i : ℕ) (e : Bytes) → (i ≡ 0 → ⊥) → entry_fields i e ≡ true → Named e
name_fits i e n t =
    elim (dec_lt 64 (name_bytes e)) [
      | yes h ↦ absurd (clash t (fields_other i e n ∙ simp (long_blank e h, long_storage e h, long_stream e h, and-false)))
      | no h ↦ record { most = omega arith }
    ]
