-- What a removal answers, by the entry that the path leads to.
use Prim.Native.Nat.{ℕ, ◌<◌}
use mathlib.Core.Path.{◌≡◌, refl, sym, ap, ◌∙◌}
use mathlib.Core.Logic.{◌≢◌}
use mathlib.Core.Bool.{Bool, true, false, not, cond, ◌&&◌}
use native.Mathlib.Decide.{ℕ_discrete}
use lib.Dec.{eqb}
use borrow.Author.Tests.{eqb-true, eq-eqb, ne_eqb}
use Rattle.std.proofs.Common.{Err}
use Rattle.format.specs.Layout.Entry.{NOSTREAM, is_storage, is_stream}
use Rattle.format.specs.Layout.Directory.{Directory}
use Rattle.format.specs.Layout.Tree.{is_empty}
use Rattle.format.specs.Rules.Entries.{entry_fields, entry_right, entry_rules}
use Rattle.format.specs.Rules.Trees.{tree_rules}
use Rattle.format.specs.Calls.Paths.{Path}
use Rattle.format.specs.Calls.Find.{resolve}
use Rattle.format.specs.Calls.Answer.{remove_answer}
use Rattle.theory.specs.TreeViews.{rows, child_of, at, sound_at}
use Rattle.theory.specs.TreeFind.{reached}
use Rattle.theory.proofs.Tests.{below_at, clash}
use Rattle.theory.proofs.Trees.Grow.{grow_none}
use Rattle.theory.proofs.Trees.Stand.{stand, standing}
use Rattle.frame.proofs.EntryFacts.{stream_fields_of, stream_fields_say}
use Rattle.kinds.specs.declared.Refusal.{Refusal}
use Rattle.paths.specs.Found.{found_of}
use Rattle.paths.proofs.Steps.{blank_child, searchable_below}
use Rattle.removal.specs.Leads.{holds_some, RemovableAt, RemovalRight}

-- a tree that a number names is empty exactly if that is NOSTREAM
empty_is : (e : Directory) (y : ℕ) → sound_at e y ≡ true → is_empty (at e y) ≡ eqb y NOSTREAM
unfolding is_empty
empty_is e y s =
    elim (ℕ_discrete y NOSTREAM) [
      | yes h ↦ rw (grow_none e (rows e) y h, eq-eqb y NOSTREAM h)
      | no h ↦ rw ((standing e y (stand e y h s)).tree, ne_eqb y NOSTREAM h)
    ]

module _ (e : Directory) (f : entry_rules e ≡ true) (t : tree_rules e ≡ true) (p : Path) (x : ℕ) (h : x < e.count) (q : reached e x ≡ resolve e p) where
  sound : sound_at e (child_of e x) ≡ true
  sound = (searchable_below e f t x h).tree_sound

  -- the answer by the two tests
  answer_is : remove_answer e (resolve e p) ≡ cond (holds_some e x) 28 (cond (eqb x 0) 31 0)
  unfolding remove_answer holds_some
  answer_is = ap (remove_answer e) (sym q) ∙ rw (empty_is e (child_of e x) sound)

  pub filled_answer : holds_some e x ≡ true → ◌≡◌ {A = ℕ} 28 (remove_answer e (resolve e p))
  filled_answer s = sym (answer_is ∙ rw s)

  pub root_answer : holds_some e x ≡ false → x ≡ 0 → ◌≡◌ {A = ℕ} 31 (remove_answer e (resolve e p))
  root_answer s z = sym (answer_is ∙ rw (s, eq-eqb x 0 z))

  fields : entry_fields x (e.entry x) ≡ true
  unfolding entry_rules entry_right
  fields = below_at e.count (λ i. entry_fields i (e.entry i)) f x h

  childless : holds_some e x ≡ false → x ≢ 0 → child_of e x ≡ NOSTREAM
  unfolding holds_some
  childless s n = go (is_storage (e.entry x)) refl (is_stream (e.entry x)) refl (eqb (child_of e x) NOSTREAM) refl s
    where
      go : (a : Bool) → is_storage (e.entry x) ≡ a → (b : Bool) → is_stream (e.entry x) ≡ b → (c : Bool) → eqb (child_of e x) NOSTREAM ≡ c
          → (is_storage (e.entry x) && not (eqb (child_of e x) NOSTREAM)) ≡ false → child_of e x ≡ NOSTREAM
      go a i b j true k s = eqb-true (child_of e x) NOSTREAM k
      go true i b j false k s = absurd (clash refl (rw (i, k) at s))
      go false i true j false k s = (stream_fields_say (e.entry x) (stream_fields_of (e.entry x) x fields j)).1
      go false i false j false k s = blank_child x (e.entry x) n (rw (i, j)) fields

  pub removable_at : holds_some e x ≡ false → x ≢ 0 → RemovableAt e p x
  removable_at s n =
      record { answer = answer_is ∙ rw (s, ne_eqb x 0 n); inside = h; leads = record { entry = x; found = q; other = n; bare = childless s n }; entry = refl }

-- ---- as the code finds it

pub found_none : (e : Directory) (p : Path) (a : Refusal) → found_of e (Err a) ≡ resolve e p → RemovalRight e p (Err a)
unfolding remove_answer
found_none e p a q = ap (remove_answer e) q
