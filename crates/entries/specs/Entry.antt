-- An entry of 128 bytes that stands at a byte place of an image.
use Rattle.std.specs.Prelude.{ℕ, ◌+◌, ◌≤◌, ◌<◌, ◌≡◌, length, get_or}
use Rattle.format.specs.Basics.Bytes.{Bytes, part}
use Rattle.format.specs.Layout.Name.{Name}
use Rattle.format.specs.Layout.Entry.{name_bytes, name}

abbrev pub entry_at : Bytes → ℕ → Bytes
entry_at img p = part img p 128

abbrev pub name_at : Bytes → ℕ → Name
name_at img p = name (entry_at img p)

-- n bytes at offset o of the entry at p
pub record Field (img : Bytes) (p o n : ℕ) : Type 0 where
  pub whole : p + 128 ≤ length img
  pub inside : o + n ≤ 128

-- a name that lies in the entry's place for it
pub record Named (e : Bytes) : Type 0 where
  pub most : name_bytes e ≤ 64

-- an entry with such a name
pub record NamedAt (img : Bytes) (p : ℕ) : Type 0 where
  pub whole : p + 128 ≤ length img
  pub named : Named (entry_at img p)

-- two names have their first n units alike
pub record Alike (a b : Name) (n : ℕ) : Type 0 where
  pub within : n ≤ length a
  pub same : (i : ℕ) → i < n → get_or a i 0 ≡ get_or b i 0
