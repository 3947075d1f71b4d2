-- An entry with a black colour: every other field stays.
use Prim.Native.Nat.{ℕ, ◌+◌, ◌≤◌}
use mathlib.Core.Path.{◌≡◌, refl}
use mathlib.Core.Bool.{Bool, true, false, cond}
use mathlib.Core.List.{[], ◌∷◌}
use native.Mathlib.Omega.{arith}
use lib.ListN.{length, set}
use lib.Seq.{sets, get_or-set_other, get_or-set_same}
use Rattle.format.specs.Basics.Bytes.{Bytes, byte_at, part, number, u16at, u32at}
use Rattle.format.specs.Layout.Entry.{name_bytes, name, kind, colour, left, right, child, start, size}
use Rattle.format.specs.Calls.RepairSteps.{has_colour}
use Rattle.theory.proofs.Bytes.{number_same}
use Rattle.frame.specs.Redraw.{SameBody}
use Rattle.repair_laws.specs.Black.{black_entry}
use Rattle.frame.proofs.Bodies.{body_sets, body_refl, kind_body, name_body, start_body, size_body}

pub black_body : (e : Bytes) → SameBody e (black_entry e)
unfolding black_entry
black_body e = go (has_colour e) _
  where
    go : (t : Bool) (c : ℕ) → SameBody e (cond t (sets e 67 (c ∷ [])) e)
    go true c = body_sets e 67 (c ∷ []) (omega arith) (omega arith)
    go false c = body_refl e

pub black_kind : (e : Bytes) → kind (black_entry e) ≡ kind e
black_kind e = kind_body e (black_entry e) (black_body e)

pub black_start : (e : Bytes) → start (black_entry e) ≡ start e
black_start e = start_body e (black_entry e) (black_body e)

pub black_size : (c : ℕ) (e : Bytes) → size c (black_entry e) ≡ size c e
black_size c e = size_body e (black_entry e) (black_body e) c

-- a name that lies in its field
pub black_name : (e : Bytes) → name_bytes e ≤ 64 → name (black_entry e) ≡ name e
black_name e h = name_body e (black_entry e) (black_body e) h

pub black_name_bytes : (e : Bytes) → name_bytes (black_entry e) ≡ name_bytes e
unfolding name_bytes u16at
black_name_bytes e = number_same (black_entry e) e 64 64 2 (λ i l. (black_body e).front (64 + i) (omega arith))

-- the links stand behind the colour
black_link : (e : Bytes) (o : ℕ) → 68 ≤ o → u32at (black_entry e) o ≡ u32at e o
unfolding black_entry u32at
black_link e o h = go (has_colour e) _
  where
    go : (t : Bool) (c : ℕ) → number (part (cond t (set e 67 c) e) o 4) ≡ number (part e o 4)
    go true c = number_same (set e 67 c) e o o 4 (λ i l. get_or-set_other e 67 (o + i) c 0 (λ q. absurd (omega arith)))
    go false c = refl

pub black_left : (e : Bytes) → left (black_entry e) ≡ left e
unfolding left
black_left e = black_link e 68 (omega arith)

pub black_right : (e : Bytes) → right (black_entry e) ≡ right e
unfolding right
black_right e = black_link e 72 (omega arith)

pub black_child : (e : Bytes) → child (black_entry e) ≡ child e
unfolding child
black_child e = black_link e 76 (omega arith)

-- ---- the colour

pub black_colour : (e : Bytes) → length e ≡ 128 → has_colour e ≡ true → colour (black_entry e) ≡ 1
unfolding black_entry colour byte_at
black_colour e l h = rw h (get_or-set_same e 67 1 0 (omega (arith, l)))

pub plain_same : (e : Bytes) → has_colour e ≡ false → black_entry e ≡ e
unfolding black_entry
plain_same e h = rw h
