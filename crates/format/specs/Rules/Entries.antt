-- Group 14: the fields of the entries.
use Rattle.std.specs.Prelude.{ℕ, zero, suc, ◌-◌, ◌%◌, Bool, ◌&&◌, ◌||◌, eqb, leb}
use Rattle.format.specs.Basics.Lists.{all_below}
use Rattle.format.specs.Basics.Bytes.{Bytes, u16at, part, all_zero}
use Rattle.format.specs.Layout.Name.{legal_name}
use Rattle.format.specs.Layout.Entry.{NOSTREAM, name_bytes, name, colour, left, right, child, clsid, created, modified, size_field, start, is_blank, is_storage, is_stream, is_root}
use Rattle.format.specs.Layout.Directory.{Directory}

-- ---- each kind of entry

-- type 0: zero bytes, but for the three fields that name entries
unfoldable pub blank_fields : Bytes → Bool
blank_fields e =
    all_zero (part e 0 68)
    && eqb (left e) NOSTREAM
    && eqb (right e) NOSTREAM
    && eqb (child e) NOSTREAM
    && all_zero (part e 80 48)

-- types 1 and 2: an even number of name bytes, 4 to 64, of which the last two are a zero unit; the units before it make a legal name.
-- What stands behind the name is not looked at.
unfoldable pub name_fields : Bytes → Bool
name_fields e =
    eqb (name_bytes e % 2) 0
    && leb 4 (name_bytes e)
    && leb (name_bytes e) 64
    && eqb (u16at e (name_bytes e - 2)) 0
    && legal_name (name e)

-- type 2. The state bits are not looked at.
unfoldable pub stream_fields : Bytes → Bool
stream_fields e =
    name_fields e
    && eqb (child e) NOSTREAM
    && all_zero (clsid e)
    && all_zero (created e)
    && all_zero (modified e)

-- type 1
unfoldable pub storage_fields : Bytes → Bool
storage_fields e = name_fields e && eqb (start e) 0 && all_zero (part e size_field 8)

-- type 5. Name and name bytes are not looked at.
unfoldable pub root_fields : Bytes → Bool
root_fields e = eqb (left e) NOSTREAM && eqb (right e) NOSTREAM && all_zero (created e)

-- every type: a colour
unfoldable pub common_fields : Bytes → Bool
common_fields e = leb (colour e) 1

-- ---- all entries

-- entry 0 is the root, and no other is
unfoldable pub entry_fields : ℕ → Bytes → Bool
entry_fields zero e = is_root e && root_fields e && common_fields e
entry_fields (suc i) e =
    ((is_blank e && blank_fields e) || (is_storage e && storage_fields e) || (is_stream e && stream_fields e)) && common_fields e

unfoldable pub entry_right : Directory → ℕ → Bool
entry_right d i = entry_fields i (d.entry i)

-- GROUP 14
unfoldable pub entry_rules : Directory → Bool
entry_rules d = all_below d.count (entry_right d)
