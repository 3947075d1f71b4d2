-- A turn of the walk: an entry is taken off the stack, its right side and the tree below it are put on.
use Prim.Native.Nat.{ℕ, ◌+◌, ◌*◌, ◌≤◌, ◌<◌}
use mathlib.Core.Path.{◌≡◌, ap, sym, ◌∙◌}
use mathlib.Core.Bool.{true}
use mathlib.Core.List.{List, [], ◌∷◌, ◌++◌}
use native.Mathlib.Omega.{arith}
use lib.ListN.{length, length-append}
use Rattle.format.specs.Basics.Bytes.{Bytes}
use Rattle.format.specs.Layout.Entry.{name}
use Rattle.format.specs.Layout.Directory.{Directory}
use Rattle.format.specs.Layout.Tree.{Forest, empty, broken, node, entries}
use Rattle.format.specs.Rules.Entries.{entry_rules}
use Rattle.format.specs.Calls.Text.{print_name}
use Rattle.theory.specs.TreeViews.{right_of, child_of, at, sound_at}
use Rattle.theory.proofs.Trees.Stand.{standing}
use Rattle.tables.specs.Work.{Wrote}
use Rattle.entries.specs.Entry.{entry_at, NamedAt}
use Rattle.directory.specs.Listed.{count_of, entries_of, place_of, DirectoryListed}
use Rattle.directory.specs.declared.Directory.{Directory as Where}
use Rattle.directory.proofs.Places.{directory_kept, entry_is, named_at}
use Rattle.entry_rules.proofs.Ruled.{ruled}
use Rattle.lines.specs.Lines.{before_length}
use Rattle.listing.specs.Walks.{pairs, spine, path_length, turned, Turning}
use Rattle.listing.proofs.Stack.{pairs_long}

spine_few : (n : ℕ) (f : Forest) → length (spine n f) ≤ length (entries f)
unfolding spine entries
spine_few n empty = omega arith
spine_few n broken = omega arith
spine_few n (node l x b r) =
    omega (arith, spine_few n l, length-append (spine n l) ((x, n) ∷ []), length-append (entries l) (x ∷ (entries b ++ entries r)))

module _ {d : Where} {img : Bytes} {w : List ℕ} {k x n : ℕ} (l : DirectoryListed d img w) (t : Turning (entries_of d img) (count_of d) k x n) where
  abbrev e : Directory
  e = entries_of d img

  pub turn_named : entry_rules e ≡ true → (p : ℕ) → p ≡ place_of d w x → NamedAt img p
  turn_named h = named_at l x t.stands.inside ((ruled e h).names x t.stands.above t.stands.inside)

  module _ (a : 2 * count_of d ≤ d.list) where
    pub turn_inside : 2 * k + 1 < length w
    turn_inside = omega (arith, t.room, a, l.room)

    -- the right side y is put on first
    module _ {y : ℕ} (ey : y ≡ right_of e x) where
      pub right_sound : sound_at e y ≡ true
      right_sound = rw ey (standing e x t.stands).right_sound

      pub right_room : k + length (entries (at e y)) ≤ count_of d
      right_room = rw ey (omega (arith, t.room))

      module _ {w₁ : List ℕ} (n₁ : ℕ) (s₁ : pairs w₁ n₁ ≡ spine n (at e y) ++ pairs w k) (r₁ : Wrote w w₁ 0 (2 * count_of d)) where
        pub right_listed : DirectoryListed d img w₁
        right_listed = directory_kept l r₁ (omega (arith, a))

        height : n₁ ≤ k + length (entries (at e (right_of e x)))
        height =
            let s : pairs w₁ n₁ ≡ spine n (at e (right_of e x)) ++ pairs w k = rw ey at s₁ in
            omega (arith, ap length s, length-append (spine n (at e (right_of e x))) (pairs w k), pairs_long w₁ n₁, pairs_long w k, spine_few n (at e (right_of e x)))

        -- then the tree z below
        module _ {z : ℕ} (ez : z ≡ child_of e x) where
          pub below_sound : sound_at e z ≡ true
          below_sound = rw ez (standing e x t.stands).below_sound

          pub below_room : n₁ + length (entries (at e z)) ≤ count_of d
          below_room = rw ez (omega (arith, t.room, height))

          pub turn_done : {ps : List (ℕ × ℕ)} {p q : ℕ} → p ≡ place_of d w x → q ≡ before_length n + length (print_name (name (entry_at img p)))
              → ps ≡ spine q (at e z) ++ pairs w₁ n₁ → ps ≡ turned e x n (pairs w k)
          unfolding turned path_length
          turn_done {ps} {p} {q} ep eq s₂ =
              let b : entry_at img p ≡ e.entry x = ap (λ (i : ℕ). entry_at img i) ep ∙ sym (entry_is l x t.stands.inside) in
              let f : q ≡ before_length n + length (print_name (name (e.entry x))) = eq ∙ ap (λ (c : Bytes). before_length n + length (print_name (name c))) b in
              s₂ ∙ rw (s₁, f, ey, ez)
