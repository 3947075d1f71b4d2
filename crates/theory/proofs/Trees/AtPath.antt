-- The edits at a path: the storage that its names before the last lead to, the node of its last name, and what the path finds afterwards.
use mathlib.Core.Path.{◌≡◌, refl, ap₂, ◌∙◌}
use mathlib.Core.Bool.{Bool, true, false, cond}
use mathlib.Core.List.{List, [], ◌∷◌, ◌++◌}
use Prim.Native.Nat.{ℕ}
use native.Mathlib.Omega.{arith}
use Rattle.format.specs.Layout.Name.{Name, name_equal}
use Rattle.format.specs.Layout.Entry.{name, is_stream}
use Rattle.format.specs.Layout.Directory.{Directory}
use Rattle.format.specs.Layout.Tree.{Forest, node}
use Rattle.format.specs.Layout.PathOrder.{same_path}
use Rattle.format.specs.Calls.Find.{Child, missing, present, child_named, Found, at as found_at, refused, found_child, enter, descend}
use Rattle.theory.proofs.Tests.{clash, both, and_true_of}

-- ---- the last name

pub descend_last : (d : Directory) (f : Found) (ns : List Name) (n : Name) → descend d f (ns ++ (n ∷ [])) ≡ enter d (descend d f ns) n
unfolding descend
descend_last d f [] n = refl
descend_last d f (m ∷ ns) n = descend_last d (enter d f m) ns n

-- where it is found, the names before it lead to an entry that is no stream, and it is a child there
pub enter_found : (d : Directory) (f : Found) (n : Name) (x : ℕ) (c : Forest) → enter d f n ≡ found_at x c
    → (s : ℕ) × (b : Forest) × (f ≡ found_at s b) × (is_stream (d.entry s) ≡ false) × (child_named d n b ≡ present x c)
unfolding enter found_child
enter_found d (refused a) n x c h = let z : ◌≡◌ {A = ℕ} 0 1 = cc in absurd (omega arith)
enter_found d (found_at s b) n x c h = go (is_stream (d.entry s)) refl (child_named d n b) refl h
  where
    go : (st : Bool) → is_stream (d.entry s) ≡ st → (k : Child) → child_named d n b ≡ k → cond st (refused 22) (found_child k) ≡ found_at x c
        → (s₂ : ℕ) × (b₂ : Forest) × (found_at s b ≡ found_at s₂ b₂) × (is_stream (d.entry s₂) ≡ false) × (child_named d n b₂ ≡ present x c)
    go true e k i h = let z : ◌≡◌ {A = ℕ} 0 1 = cc in absurd (omega arith)
    go false e missing i h = let z : ◌≡◌ {A = ℕ} 0 1 = cc in absurd (omega arith)
    go false e (present y a) i h =
        let p : y ≡ x = cc in
        let q : a ≡ c = cc in
        (s, b, refl, e, i ∙ ap₂ present p q)

pub same_path_last : (ns ps : List Name) (n m : Name) → same_path ns ps ≡ true → name_equal n m ≡ true → same_path (ns ++ (n ∷ [])) (ps ++ (m ∷ [])) ≡ true
unfolding same_path
same_path_last [] [] n m h e = rw e
same_path_last [] (p ∷ ps) n m h e = absurd (clash h refl)
same_path_last (a ∷ ns) [] n m h e = absurd (clash h refl)
same_path_last (a ∷ ns) (p ∷ ps) n m h e =
    let u = both (name_equal a p) (same_path ns ps) h in
    and_true_of (name_equal a p) (same_path (ns ++ (n ∷ [])) (ps ++ (m ∷ []))) u.0 (same_path_last ns ps n m u.1 e)
