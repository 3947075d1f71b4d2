-- A listing, read back: its lines are the objects, in order, and its first line says how many.
use Prim.Native.Nat.{ℕ, ◌<◌}
use mathlib.Core.Path.{◌≡◌, refl, sym, ap, ◌∙◌}
use mathlib.Core.Bool.{true}
use mathlib.Core.List.{List, [], ◌∷◌, ◌++◌, map, append_assoc, append-nil}
use native.Mathlib.Omega.{arith}
use lib.ListN.{length, drop, get_or}
use Rattle.format.specs.Basics.Lists.{all, count}
use Rattle.format.specs.Basics.Bytes.{Bytes}
use Rattle.format.specs.Layout.Name.{Name, slash, legal_name}
use Rattle.format.specs.Layout.Entry.{name}
use Rattle.format.specs.Layout.Directory.{Directory, size_of}
use Rattle.format.specs.Layout.Tree.{Forest, empty, broken, node, forest, entries}
use Rattle.format.specs.Layout.Objects.{Object, object_at, objects_in, objects_of}
use Rattle.format.specs.Calls.Text.{newline, space, decimal, print_name}
use Rattle.format.specs.Calls.Listing.{line, lines, first_line, listing}
use Rattle.format.specs.Claims.ListingText.{lines_of, other_words, decimal_value, read_line, announced, read_listing}
use Rattle.theory.specs.TreePaths.{path_below}
use Rattle.theory.proofs.Counts.{bit_self}
use Rattle.theory.proofs.Tests.{and_true_of, all_joined}
use Rattle.theory.proofs.Trees.Grow.{count_node}
use Rattle.listing_laws.specs.Text.{is_other, lacks, above, line_text, first_text, Printable}
use Rattle.listing_laws.proofs.Cuts.{lines_cut}
use Rattle.listing_laws.proofs.Texts.{decimal_back, decimal_lacks}
use Rattle.listing_laws.proofs.LineBack.{above_snoc, line_back, line_no_newline}

-- ---- the lines of a tree

line_is : (d : Directory) (x : ℕ) (path : Bytes) → line d x path ≡ line_text d.size_width (d.entry x) path ++ (newline ∷ [])
unfolding line line_text size_of
line_is d x path = refl

-- one line, and what comes behind it
line_first : (d : Directory) (x : ℕ) (ns : List Name) (ys : Bytes) → Printable d.size_width (d.entry x) → all legal_name ns ≡ true →
    map read_line (lines_of (line d x (above ns ++ print_name (name (d.entry x))) ++ ys)) ≡ object_at d x (path_below d ns x) ∷ map read_line (lines_of ys)
unfolding object_at size_of
line_first d x ns ys p h =
    let e = d.entry x in
    let text = line_text d.size_width e (above ns ++ print_name (name e)) in
    ap (λ t. map read_line (lines_of (t ++ ys))) (line_is d x (above ns ++ print_name (name e)))
    ∙ ap (λ t. map read_line (lines_of t)) (append_assoc text (newline ∷ []) ys)
    ∙ ap (map read_line) (lines_cut text ys (line_no_newline d.size_width e ns))
    ∙ ap (λ o. o ∷ map read_line (lines_of ys)) (line_back d.size_width e ns p h)

legal_snoc : (ns : List Name) (n : Name) → all legal_name ns ≡ true → legal_name n ≡ true → all legal_name (ns ++ (n ∷ [])) ≡ true
unfolding all
legal_snoc ns n h k = all_joined legal_name ns (n ∷ []) h (and_true_of (legal_name n) true k refl)

regroup : (a b c d e : Bytes) → a ++ b ++ c ++ d ++ e ≡ a ++ (b ++ (c ++ (d ++ e)))
regroup a b c d e = append_assoc (a ++ b ++ c) d e ∙ append_assoc (a ++ b) c (d ++ e) ∙ append_assoc a b (c ++ (d ++ e))

close : (a : List Object) (o : Object) (b c e : List Object) → a ++ (o ∷ (b ++ (c ++ e))) ≡ (a ++ (o ∷ (b ++ c))) ++ e
close a o b c e = ap (λ t. a ++ (o ∷ t)) (sym (append_assoc b c e)) ∙ sym (append_assoc a (o ∷ (b ++ c)) e)

lines_back : (d : Directory) (ns : List Name) (t : Forest) (ys : Bytes) → ((x : ℕ) → 0 < count x (entries t) → Printable d.size_width (d.entry x)) →
    all legal_name ns ≡ true → map read_line (lines_of (lines d (above ns) t ++ ys)) ≡ objects_in d ns t ++ map read_line (lines_of ys)
unfolding lines objects_in
lines_back d ns empty ys p h = refl
lines_back d ns broken ys p h = refl
lines_back d ns (node l x b r) ys p h =
    let n = name (d.entry x) in
    let own = above ns ++ print_name n in
    let px = p x (omega (arith, count_node x l x b r, bit_self x)) in
    let bs = lines d (own ++ (slash ∷ [])) b in
    let rs = lines d (above ns) r in
    ap (λ t. map read_line (lines_of t)) (regroup (lines d (above ns) l) (line d x own) bs rs ys)
    ∙ lines_back d ns l (line d x own ++ (bs ++ (rs ++ ys))) (λ y k. p y (omega (arith, count_node y l x b r))) h
    ∙ ap (λ t. objects_in d ns l ++ t) (line_first d x ns (bs ++ (rs ++ ys)) px h
    ∙ ap (λ t. object_at d x (ns ++ (n ∷ [])) ∷ t) (ap (λ t. map read_line (lines_of (lines d t b ++ (rs ++ ys)))) (sym (above_snoc ns n))
    ∙ lines_back d (ns ++ (n ∷ [])) b (rs ++ ys) (λ y k. p y (omega (arith, count_node y l x b r))) (legal_snoc ns n h px.legal)
    ∙ ap (λ t. objects_in d (ns ++ (n ∷ [])) b ++ t) (lines_back d ns r ys (λ y k. p y (omega (arith, count_node y l x b r))) h)))
    ∙ close (objects_in d ns l) (object_at d x (ns ++ (n ∷ []))) (objects_in d (ns ++ (n ∷ [])) b) (objects_in d ns r) (map read_line (lines_of ys))

-- ---- the whole

first_lacks : (n : ℕ) → lacks newline (first_text n) ≡ true
unfolding first_text all is_other
first_lacks n = decimal_lacks newline n (omega arith)

first_lines : (n : ℕ) (ys : Bytes) → lines_of (first_line n ++ ys) ≡ first_text n ∷ lines_of ys
unfolding first_line first_text
first_lines n ys =
    ap (λ t. lines_of (0x6F ∷ 0x62 ∷ 0x6A ∷ 0x65 ∷ 0x63 ∷ 0x74 ∷ 0x73 ∷ space ∷ t)) (append_assoc (decimal n) (newline ∷ []) ys)
    ∙ lines_cut (first_text n) ys (first_lacks n)

first_number : (n : ℕ) → other_words (first_text n) ≡ decimal n
unfolding other_words first_text
first_number n = refl

pub listing_back : (d : Directory) → ((x : ℕ) → 0 < count x (entries (forest d)) → Printable d.size_width (d.entry x)) → read_listing (listing d) ≡ objects_of d
unfolding read_listing listing objects_of above lines_of all
listing_back d p =
    let n = length (entries (forest d)) in
    ap (λ t. map read_line (drop 1 t)) (first_lines n (lines d [] (forest d)))
    ∙ ap (λ t. map read_line (lines_of t)) (sym (append-nil (lines d [] (forest d))))
    ∙ lines_back d [] (forest d) [] p refl
    ∙ append-nil (objects_in d [] (forest d))

pub announced_back : (d : Directory) → length (entries (forest d)) < 100_000_000_000_000_000_000 → announced (listing d) ≡ length (entries (forest d))
unfolding announced listing
announced_back d h =
    let n = length (entries (forest d)) in
    ap (λ t. decimal_value 0 (other_words (get_or t 0 []))) (first_lines n (lines d [] (forest d))) ∙ ap (decimal_value 0) (first_number n) ∙ decimal_back n h
