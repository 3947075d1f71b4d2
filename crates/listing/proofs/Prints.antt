-- How long an object's name is in print, and what stands in a path before it.
use Prim.Native.Nat.{ℕ, zero, suc, ◌+◌, ◌≤◌, ◌<◌}
use mathlib.Core.Path.{◌≡◌, refl, ap, sym, ◌∙◌}
use mathlib.Core.Bool.{Bool, true, false, ◌&&◌, ◌||◌}
use mathlib.Core.List.{[], ◌∷◌, ◌++◌}
use native.Mathlib.Omega.{arith}
use lib.Dec.{leb}
use lib.ListN.{length, take, length-append}
use lib.Seq.{take_all, take-take, take-append-le, length-take-le}
use borrow.Author.Tests.{leb-true}
use Rattle.format.specs.Basics.Bytes.{Bytes}
use Rattle.format.specs.Basics.Lists.{all}
use Rattle.format.specs.Layout.Name.{Name, slash, legal_unit, legal_name}
use Rattle.format.specs.Layout.Entry.{name, is_storage, is_stream}
use Rattle.format.specs.Layout.Directory.{Directory}
use Rattle.format.specs.Rules.Entries.{entry_fields, entry_right, entry_rules, name_fields}
use Rattle.format.specs.Rules.Trees.{is_object}
use Rattle.format.specs.Calls.Text.{print_unit, print_name}
use Rattle.theory.proofs.Tests.{both, below_at}
use Rattle.frame.proofs.EntryFacts.{name_fields_legal, stream_fields_of, stream_fields_say, storage_fields_of, storage_fields_say}
use Rattle.text.proofs.Units.{plain, length_plain, length_coded, name_most}
use Rattle.lines.specs.Lines.{before, before_length}

-- ---- an object's name

unit_some : (u : ℕ) → 0 < length (print_unit u)
unit_some u = go (plain u) refl
  where
    go : (b : Bool) → plain u ≡ b → 0 < length (print_unit u)
    go true e = omega (arith, length_plain u e)
    go false e = omega (arith, length_coded u e)

name_some : (xs : Name) → 0 < length xs → 0 < length (print_name xs)
unfolding print_name
name_some [] h = absurd (omega arith)
name_some (u ∷ us) h = omega (arith, unit_some u, length-append (print_unit u) (print_name us))

legal_length : (xs : Name) → legal_name xs ≡ true → (0 < length xs) × (length xs ≤ 31)
unfolding legal_name
legal_length xs h =
    let u = both (leb 1 (length xs)) (leb (length xs) 31) (both (leb 1 (length xs) && leb (length xs) 31) (all legal_unit xs) h).0 in
    (leb-true 1 (length xs) u.0, leb-true (length xs) 31 u.1)

module _ (e : Directory) (rules : entry_rules e ≡ true) (x : ℕ) (l : x < e.count) (o : is_object e x ≡ true) where
  fields : entry_fields x (e.entry x) ≡ true
  unfolding entry_rules entry_right
  fields = below_at e.count (entry_right e) rules x l

  name_right : name_fields (e.entry x) ≡ true
  name_right = go (is_storage (e.entry x)) (is_stream (e.entry x)) refl refl o
    where
      go : (a b : Bool) → is_storage (e.entry x) ≡ a → is_stream (e.entry x) ≡ b → (a || b) ≡ true → name_fields (e.entry x) ≡ true
      go true b p q h = storage_fields_say (e.entry x) (storage_fields_of (e.entry x) x fields p)
      go false b p q h = (stream_fields_say (e.entry x) (stream_fields_of (e.entry x) x fields (q ∙ h))).0

  name_long : (0 < length (name (e.entry x))) × (length (name (e.entry x)) ≤ 31)
  name_long = legal_length (name (e.entry x)) (name_fields_legal (e.entry x) name_right)

  pub print_some : 0 < length (print_name (name (e.entry x)))
  print_some = name_some (name (e.entry x)) name_long.0

  pub print_most : length (print_name (name (e.entry x))) ≤ 155
  print_most = omega (arith, name_most (name (e.entry x)), name_long.1)

-- ---- what stands before a name

pub before_most : (parent : ℕ) → before_length parent ≤ parent + 1
unfolding before_length
before_most zero = omega arith
before_most (suc n) = omega arith

pub before_least : (n : ℕ) → n ≤ before_length n
unfolding before_length
before_least zero = omega arith
before_least (suc n) = omega arith

-- a whole path before a name
pub before_whole : (n : ℕ) (t : Bytes) → n ≡ length t → 0 < n → before n t ≡ t ++ (slash ∷ [])
unfolding before
before_whole zero t e h = absurd (omega arith)
before_whole (suc n) t e h = ap (λ (s : Bytes). s ++ (slash ∷ [])) (take_all (suc n) t (omega arith))

-- only a text's first bytes matter
pub before_front : (k n : ℕ) (t s : Bytes) → k ≤ n → take n t ≡ take n s → before k t ≡ before k s
unfolding before
before_front zero n t s h q = refl
before_front (suc k) n t s h q =
    ap (λ (r : Bytes). r ++ (slash ∷ []))
    (sym (take-take (suc k) n t h) ∙ ap (take (suc k)) q ∙ take-take (suc k) n s h)

-- a path begins with its parent's
pub before_kept : (n : ℕ) (t s : Bytes) → n ≤ length t → take n (before n t ++ s) ≡ take n t
unfolding before
before_kept zero t s h = refl
before_kept (suc n) t s h =
    let l = length-take-le (suc n) t h in
    let m = length-append (take (suc n) t) (slash ∷ []) in
    take-append-le (suc n) (take (suc n) t ++ (slash ∷ [])) s (omega (arith, l, m))
    ∙ take-append-le (suc n) (take (suc n) t) (slash ∷ []) (omega (arith, l))
    ∙ take-take (suc n) (suc n) t (omega arith)
