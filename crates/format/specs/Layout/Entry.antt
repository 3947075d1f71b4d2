-- The fields of a directory entry's 128 bytes (group 14).
use Rattle.std.specs.Prelude.{ℕ, ◌-◌, ◌*◌, ◌/◌, Bool, eqb}
use Rattle.format.specs.Basics.Lists.{list_below}
use Rattle.format.specs.Basics.Bytes.{Bytes, byte_at, number, u16at, u32at, part}
use Rattle.format.specs.Layout.Name.{Name}

-- what left, right and child hold where they name no entry
abbrev pub NOSTREAM : ℕ
NOSTREAM = 0xFFFF_FFFF

-- ---- the name: its units from byte 0 on, and its length in bytes with the zero unit that ends it

unfoldable pub name_bytes : Bytes → ℕ
name_bytes e = u16at e 64

unfoldable pub name_unit : Bytes → ℕ → ℕ
name_unit e i = u16at e (2 * i)

-- without the zero unit
unfoldable pub name : Bytes → Name
name e = list_below (name_bytes e / 2 - 1) (name_unit e)

-- ---- the kind of entry

unfoldable pub kind : Bytes → ℕ
kind e = byte_at e 66

abbrev pub is_blank : Bytes → Bool
is_blank e = eqb (kind e) 0

abbrev pub is_storage : Bytes → Bool
is_storage e = eqb (kind e) 1

abbrev pub is_stream : Bytes → Bool
is_stream e = eqb (kind e) 2

abbrev pub is_root : Bytes → Bool
is_root e = eqb (kind e) 5

-- ---- the place in the trees

-- the three fields that name entries, and the byte of the entry where each stands
pub data Field : Type 0 where
  left_field : Field
  child_field : Field
  right_field : Field

abbrev pub field_byte : Field → ℕ
field_byte left_field = 68
field_byte child_field = 76
field_byte right_field = 72

-- where the colour stands, just before them; 0 is red
abbrev pub colour_byte : ℕ
colour_byte = 67

abbrev pub black : ℕ
black = 1

unfoldable pub colour : Bytes → ℕ
colour e = byte_at e 67

unfoldable pub left : Bytes → ℕ
left e = u32at e 68

unfoldable pub right : Bytes → ℕ
right e = u32at e 72

unfoldable pub child : Bytes → ℕ
child e = u32at e 76

-- ---- what is kept beside the data

unfoldable pub clsid : Bytes → Bytes
clsid e = part e 80 16

unfoldable pub created : Bytes → Bytes
created e = part e 100 8

unfoldable pub modified : Bytes → Bytes
modified e = part e 108 8

-- ---- where the data is

abbrev pub start_field : ℕ
start_field = 116

abbrev pub size_field : ℕ
size_field = 120

unfoldable pub start : Bytes → ℕ
start e = u32at e start_field

-- the size as read, of which so many bytes count
unfoldable pub size : ℕ → Bytes → ℕ
size counted e = number (part e size_field counted)
