-- The stack at the start of the work buffer, and the descent that puts a left spine on it.
use Prim.Native.Nat.{ℕ, zero, suc, ◌+◌, ◌*◌, ◌≤◌, ◌<◌}
use mathlib.Core.Path.{◌≡◌, refl, ap, sym, ◌∙◌}
use mathlib.Core.Logic.{◌≢◌}
use mathlib.Core.Bool.{true}
use mathlib.Core.List.{List, [], ◌∷◌, ◌++◌, append_assoc}
use native.Mathlib.Omega.{arith}
use native.Mathlib.Numerals.{add-one}
use lib.ListN.{length, get_or, set, length-append, length-set}
use lib.Seq.{get_or-set_same, get_or-set_other}
use Rattle.format.specs.Basics.Bytes.{Bytes}
use Rattle.format.specs.Layout.Entry.{NOSTREAM}
use Rattle.format.specs.Layout.Directory.{Directory}
use Rattle.format.specs.Layout.Tree.{Forest, entries}
use Rattle.theory.specs.TreeViews.{rows, left_of, at, sound_at, Standing}
use Rattle.theory.proofs.Trees.Grow.{grow_none}
use Rattle.theory.proofs.Trees.Stand.{stand, standing}
use Rattle.tables.specs.Work.{Wrote}
use Rattle.tables.proofs.WorkLaws.{wrote_none, wrote_set, wrote_two}
use Rattle.directory.specs.Listed.{count_of, entries_of, DirectoryListed}
use Rattle.directory.specs.declared.Directory.{Directory as Where}
use Rattle.directory.proofs.Places.{directory_kept}
use Rattle.listing.specs.Walks.{pairs, entry_on, parent_on, spine}

-- ---- pairs

pub pairs_long : (w : List ℕ) (n : ℕ) → length (pairs w n) ≡ n
unfolding pairs
pairs_long w zero = refl
pairs_long w (suc n) = ap suc (pairs_long w n)

pub pairs_kept : (w v : List ℕ) (n : ℕ) → ((i : ℕ) → i < 2 * n → get_or v i 0 ≡ get_or w i 0) → pairs v n ≡ pairs w n
unfolding pairs
pairs_kept w v zero h = refl
pairs_kept w v (suc n) h =
    let a = h (2 * n) (omega arith) in
    let b = h (2 * n + 1) (omega arith) in
    let r = pairs_kept w v n (λ i l. h i (omega arith)) in
    rw (a, b, r)

pub pairs_top : (w : List ℕ) (n : ℕ) → pairs w (n + 1) ≡ (entry_on w n, parent_on w n) ∷ pairs w n
unfolding pairs
pairs_top w n = rw (add-one n)

pub pairs_push : (w : List ℕ) (n x p : ℕ) → 2 * n + 1 < length w → pairs (set (set w (2 * n) x) (2 * n + 1) p) (n + 1) ≡ (x, p) ∷ pairs w n
pairs_push w n x p h =
    let v = set w (2 * n) x in
    let a = get_or-set_other v (2 * n + 1) (2 * n) p 0 (omega arith) ∙ get_or-set_same w (2 * n) x 0 (omega arith) in
    let b = get_or-set_same v (2 * n + 1) p 0 (simp length-set h) in
    let r = pairs_kept w (set v (2 * n + 1) p) n (λ i l. get_or-set_other v (2 * n + 1) i p 0 (omega arith) ∙ get_or-set_other w (2 * n) i x 0 (omega arith)) in
    pairs_top (set v (2 * n + 1) p) n ∙ rw (a, b, r)

-- ---- the descent

-- the descent from x is at y
pub record Pushing (d : Where) (img : Bytes) (x p : ℕ) (w₀ : List ℕ) (n₀ y : ℕ) (w : List ℕ) (n : ℕ) : Type 0 where
  pub listed : DirectoryListed d img w
  pub apart : 2 * count_of d ≤ d.list
  pub tree_sound : sound_at (entries_of d img) y ≡ true
  pub same : spine p (at (entries_of d img) y) ++ pairs w n ≡ spine p (at (entries_of d img) x) ++ pairs w₀ n₀
  pub room : n + length (entries (at (entries_of d img) y)) ≤ count_of d
  pub wrote : Wrote w₀ w 0 (2 * count_of d)

module _ {d : Where} {img : Bytes} {x p : ℕ} {w₀ : List ℕ} {n₀ y : ℕ} {w : List ℕ} {n : ℕ} (s : Pushing d img x p w₀ n₀ y w n) where
  abbrev e : Directory
  e = entries_of d img

  pub push_done : y ≡ NOSTREAM → pairs w n ≡ spine p (at e x) ++ pairs w₀ n₀
  unfolding spine
  push_done z = ap (λ (t : Forest). spine p t ++ pairs w n) (sym (grow_none e (rows e) y z)) ∙ s.same

  module _ (h : y ≢ NOSTREAM) where
    pub push_stands : Standing e y
    push_stands = stand e y h s.tree_sound

    push_entries : length (entries (at e (left_of e y))) + 1 ≤ length (entries (at e y))
    unfolding entries
    push_entries =
        rw ((standing e y push_stands).tree, length-append)
        (omega arith)

    pub push_room : n < count_of d
    push_room = omega (arith, push_entries, s.room)

    pub push_inside : 2 * n + 1 < length w
    push_inside = omega (arith, push_room, s.apart, s.listed.room)

    push_spine : spine p (at e y) ++ pairs w n ≡ spine p (at e (left_of e y)) ++ ((y, p) ∷ pairs w n)
    unfolding spine
    push_spine = rw (standing e y push_stands).tree (append_assoc (spine p (at e (left_of e y))) ((y, p) ∷ []) (pairs w n))

    pub push_wrote : Wrote w (set (set w (2 * n) y) (2 * n + 1) p) 0 (2 * count_of d)
    push_wrote =
        wrote_set (2 * n + 1) p (wrote_set (2 * n) y (wrote_none w 0 (2 * count_of d)) (omega arith) (omega (arith, push_room))) (omega arith) (omega (arith, push_room))

    pub push_more : Pushing d img x p w₀ n₀ (left_of e y) (set (set w (2 * n) y) (2 * n + 1) p) (n + 1)
    push_more = record {
      listed = directory_kept s.listed push_wrote (omega (arith, s.apart));
      apart = s.apart;
      tree_sound = (standing e y push_stands).left_sound;
      same = rw (pairs_push w n y p push_inside) (sym push_spine ∙ s.same);
      room = omega (arith, push_entries, s.room);
      wrote = wrote_two s.wrote push_wrote;
    }
