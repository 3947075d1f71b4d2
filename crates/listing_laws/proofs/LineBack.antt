-- A line of a listing, read back: it is the object.
use Prim.Native.Nat.{ℕ, ◌<◌}
use mathlib.Core.Path.{◌≡◌, refl, sym, ap, ap₂, ◌∙◌}
use mathlib.Core.Logic.{◌⊎◌, inl, inr}
use mathlib.Core.Bool.{Bool, true, false, cond}
use mathlib.Core.List.{List, [], ◌∷◌, ◌++◌, map, append_assoc}
use native.Mathlib.Omega.{arith}
use lib.Dec.{eqb}
use Rattle.format.specs.Basics.Lists.{all}
use Rattle.format.specs.Basics.Bytes.{Bytes, byte_at}
use Rattle.format.specs.Layout.Name.{Name, slash, legal_name}
use Rattle.format.specs.Layout.Entry.{name, kind, size, is_stream}
use Rattle.format.specs.Calls.Paths.{split}
use Rattle.format.specs.Calls.Text.{newline, space, decimal, print_name}
use Rattle.format.specs.Claims.ListingText.{other_words, decimal_value, read_name, type_of, read_line}
use Rattle.theory.proofs.Tests.{both, all_joined}
use Rattle.listing_laws.specs.Text.{is_other, lacks, above, line_text, Printable}
use Rattle.listing_laws.proofs.Cuts.{lacks_cons, word_cut, split_cut, split_whole}
use Rattle.listing_laws.proofs.Texts.{decimal_back, decimal_lacks, name_back, name_no_newline, name_no_slash}

-- ---- paths

pub above_snoc : (ns : List Name) (n : Name) → above (ns ++ (n ∷ [])) ≡ above ns ++ print_name n ++ (slash ∷ [])
unfolding above
above_snoc [] n = refl
above_snoc (m ∷ ns) n =
    ap (λ t. print_name m ++ (slash ∷ t)) (above_snoc ns n)
    ∙ sym (ap (λ t. t ++ (slash ∷ [])) (append_assoc (print_name m) (slash ∷ above ns) (print_name n)) ∙ append_assoc (print_name m) (slash ∷ (above ns ++ print_name n)) (slash ∷ []))

path_back : (ns : List Name) (n : Name) → all legal_name ns ≡ true → legal_name n ≡ true → map read_name (split (above ns ++ print_name n)) ≡ ns ++ (n ∷ [])
unfolding above all
path_back [] n h k = ap (map read_name) (split_whole (print_name n) (name_no_slash n k)) ∙ ap (λ t. t ∷ []) (name_back n k)
path_back (m ∷ ns) n h k =
    let p = both (legal_name m) (all legal_name ns) h in
    ap (λ t. map read_name (split t)) (append_assoc (print_name m) (slash ∷ above ns) (print_name n))
    ∙ ap (map read_name) (split_cut (print_name m) (above ns ++ print_name n) (name_no_slash m p.0))
    ∙ ap₂ ◌∷◌ (name_back m p.0) (path_back ns n p.1 k)

above_no_newline : (ns : List Name) → lacks newline (above ns) ≡ true
unfolding above all
above_no_newline [] = refl
above_no_newline (n ∷ ns) =
    all_joined (is_other newline) (print_name n) (slash ∷ above ns) (name_no_newline n)
    (lacks_cons newline slash (above ns) (λ e. absurd (omega arith)) (above_no_newline ns))

-- ---- the line

stream_text : (c : ℕ) (e path : Bytes) → kind e ≡ 2 → line_text c e path ≡ 0x46 ∷ space ∷ (decimal (size c e) ++ (space ∷ path))
unfolding line_text
stream_text c e path h = rw h

storage_text : (c : ℕ) (e path : Bytes) → kind e ≡ 1 → line_text c e path ≡ 0x44 ∷ space ∷ 0x30 ∷ space ∷ path
unfolding line_text
storage_text c e path h = rw h

read_words : (letter : ℕ) (number path : Bytes) → eqb letter space ≡ false → lacks space number ≡ true →
    read_line (letter ∷ space ∷ (number ++ (space ∷ path))) ≡ record { type = type_of letter; size = decimal_value 0 number; path = map read_name (split path) }
unfolding read_line other_words byte_at
read_words letter number path h k =
    let w = word_cut number path k in
    rw (h, w.0, w.1)

zero_value : decimal_value 0 (0x30 ∷ []) ≡ 0
unfolding decimal_value
zero_value = refl

zero_lacks : lacks space (0x30 ∷ []) ≡ true
unfolding all is_other
zero_lacks = refl

pub line_back : (c : ℕ) (e : Bytes) (ns : List Name) → Printable c e → all legal_name ns ≡ true
    → read_line (line_text c e (above ns ++ print_name (name e))) ≡ record { type = kind e; size = size c e; path = ns ++ (name e ∷ []) }
unfolding type_of
line_back c e ns p h = go p.kinds
  where
    go : ((kind e ≡ 2) × (size c e < 100_000_000_000_000_000_000)) ⊎ ((kind e ≡ 1) × (size c e ≡ 0)) →
        read_line (line_text c e (above ns ++ print_name (name e))) ≡ record { type = kind e; size = size c e; path = ns ++ (name e ∷ []) }
    go (inl k) =
        ap read_line (stream_text c e (above ns ++ print_name (name e)) k.0)
        ∙ read_words 0x46 (decimal (size c e)) (above ns ++ print_name (name e)) refl (decimal_lacks space (size c e) (omega arith))
        ∙ rw (decimal_back (size c e) k.1, path_back ns (name e) h p.legal, k.0)
    go (inr k) =
        ap read_line (storage_text c e (above ns ++ print_name (name e)) k.0)
        ∙ read_words 0x44 (0x30 ∷ []) (above ns ++ print_name (name e)) refl zero_lacks
        ∙ rw (path_back ns (name e) h p.legal, zero_value, k.0, k.1)

pub line_no_newline : (c : ℕ) (e : Bytes) (ns : List Name) → lacks newline (line_text c e (above ns ++ print_name (name e))) ≡ true
unfolding line_text all is_other
line_no_newline c e ns =
    all_joined (is_other newline) (cond (is_stream e) (0x46 ∷ space ∷ decimal (size c e)) (0x44 ∷ space ∷ 0x30 ∷ [])) (space ∷ (above ns ++ print_name (name e)))
    (go (is_stream e)) (all_joined (is_other newline) (above ns) (print_name (name e)) (above_no_newline ns) (name_no_newline (name e)))
  where
    go : (t : Bool) → lacks newline (cond t (0x46 ∷ space ∷ decimal (size c e)) (0x44 ∷ space ∷ 0x30 ∷ [])) ≡ true
    go true = decimal_lacks newline (size c e) (omega arith)
    go false = refl
