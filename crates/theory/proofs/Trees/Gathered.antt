-- What is gathered from the objects one by one, and what becomes of it where one directory has one object more than another.
use Prim.Native.Nat.{ℕ, ◌+◌, ◌<◌}
use mathlib.Core.Path.{◌≡◌, refl, sym, ap, ap₂, ◌∙◌}
use mathlib.Core.Logic.{◌≢◌, inl, inr}
use mathlib.Core.Bool.{Bool, true, false}
use mathlib.Core.List.{List, [], ◌∷◌, ◌++◌, map}
use native.Mathlib.Omega.{arith}
use Rattle.format.specs.Basics.Lists.{count, without}
use Rattle.format.specs.Layout.Name.{Name}
use Rattle.format.specs.Layout.PathOrder.{insert, same_path}
use Rattle.format.specs.Layout.Directory.{Directory}
use Rattle.format.specs.Layout.Tree.{entries}
use Rattle.format.specs.Claims.PathOrder.{rising}
use Rattle.theory.specs.TreeViews.{whole}
use Rattle.theory.specs.TreeOrder.{Rules}
use Rattle.theory.specs.TreeObjects.{Object, entry_of, objects, gathered, meant, OneMore, Searched}
use Rattle.theory.proofs.Counts.{bit_self, count_append}
use Rattle.theory.proofs.Trees.Nodes.{entries_once}
use Rattle.theory.proofs.Trees.Insert.{either}
use Rattle.theory.proofs.Trees.Listed.{less_entries, more_entries}
use Rattle.theory.proofs.Trees.Found.{before_unmeant, after_unmeant}
use Rattle.theory.proofs.Trees.Objects.{gathered_append}
use Rattle.theory.proofs.Trees.Rising.{insert_place}

gathered_same : {A : Type 0} (f f₂ : Object → List A) (os : List Object) → ((o : Object) → 0 < count o.entry (map entry_of os) → f₂ o ≡ f o)
    → gathered f₂ os ≡ gathered f os
unfolding gathered
gathered_same f f₂ [] h = refl
gathered_same f f₂ (o ∷ os) h = ap₂ (λ a b. a ++ b) (h o (omega (arith, bit_self o.entry))) (gathered_same f f₂ os (λ u c. h u (omega arith)))

without_append : {A : Type 0} (q : A → Bool) (xs ys : List A) → without q (xs ++ ys) ≡ without q xs ++ without q ys
unfolding without
without_append q [] ys = refl
without_append q (x ∷ xs) ys =
    elim (either (q x)) [
      | inl h ↦ rw h (without_append q xs ys)
      | inr h ↦ rw h (ap (λ k. x ∷ k) (without_append q xs ys))
    ]

-- all stay where no object is meant, if what comes of an object that is not meant stays
gathered_kept : {A : Type 0} (q : A → Bool) (f : Object → List A) (ns : List Name) → ((o : Object) → same_path ns o.path ≡ false → without q (f o) ≡ f o)
    → (os : List Object) → meant ns os ≡ [] → without q (gathered f os) ≡ gathered f os
unfolding gathered without
gathered_kept q f ns h [] e = refl
gathered_kept q f ns h (o ∷ os) e =
    elim (either (same_path ns o.path)) [
      | inl k ↦ let z : ◌≡◌ {A = ℕ} 0 1 = clashing (rw k at e) in absurd (omega arith)
      | inr k ↦ without_append q (f o) (gathered f os) ∙ ap₂ (λ a b. a ++ b) (h o k) (gathered_kept q f ns h os (rw k at e))
    ]
  where
    clashing : (o.entry ∷ []) ++ meant ns os ≡ [] → ◌≡◌ {A = ℕ} 0 1
    clashing q = cc

-- ---- one object more

module _ {A : Type 0} (d d₂ : Directory) (f f₂ : Object → List A) (new : Object) (m : OneMore d d₂ new) (r₂ : Rules d₂)
    (same : (o : Object) → o.entry ≢ new.entry → 0 < count o.entry (entries (whole d)) → f₂ o ≡ f o) where
  abbrev ahead : List A
  ahead = gathered f m.before

  abbrev behind : List A
  behind = gathered f m.after

  -- the new entry is not among the others
  others : (o : Object) → 0 < count o.entry (map entry_of m.before) + count o.entry (map entry_of m.after) → f₂ o ≡ f o
  others o h =
      let y = o.entry in
      let a = ap (count y) (less_entries d d₂ new m) in
      let b = count_append y (map entry_of m.before) (map entry_of m.after) in
      same o (λ e.
      let x = new.entry in
      let c = ap (count x) (more_entries d d₂ new m) in
      let k = count_append x (map entry_of m.before) (x ∷ map entry_of m.after) in
      let g = ap (λ (i : ℕ). count i (map entry_of m.before) + count i (map entry_of m.after)) e in
      omega (arith, entries_once d₂ r₂.shape x, bit_self x)) (omega arith)

  less : gathered f (objects d (whole d)) ≡ ahead ++ behind
  less = ap (gathered f) m.less_objects ∙ gathered_append f m.before m.after

  more : gathered f₂ (objects d₂ (whole d₂)) ≡ ahead ++ (f₂ new ++ behind)
  unfolding gathered
  more =
      ap (gathered f₂) m.more_objects ∙ gathered_append f₂ m.before (new ∷ m.after)
      ∙ ap₂ (λ (a b : List A). a ++ (f₂ new ++ b)) (gathered_same f f₂ m.before (λ o c. others o (omega arith))) (gathered_same f f₂ m.after (λ o c. others o (omega arith)))

  -- an object of which nothing comes
  pub one_none : f₂ new ≡ [] → gathered f₂ (objects d₂ (whole d₂)) ≡ gathered f (objects d (whole d))
  one_none h = more ∙ rw h (sym less)

  -- what comes of the new object stands at the place of its path
  pub one_placed : (key : A → List Name) (x : A) → f₂ new ≡ x ∷ [] → rising (map key (gathered f₂ (objects d₂ (whole d₂)))) ≡ true
      → gathered f₂ (objects d₂ (whole d₂)) ≡ insert key x (gathered f (objects d (whole d)))
  one_placed key x h r =
      let a : gathered f₂ (objects d₂ (whole d₂)) ≡ ahead ++ (x ∷ behind) = more ∙ rw h in
      a ∙ sym (ap (insert key x) less ∙ insert_place key x ahead behind (ap (λ xs. rising (map key xs)) (sym a) ∙ r))

  -- seen from the directory with the object: without what its path means
  pub one_dropped : Searched d₂ → (q : A → Bool) (ns : List Name) → same_path ns new.path ≡ true → ((o : Object) → same_path ns o.path ≡ false → without q (f o) ≡ f o)
      → without q (f₂ new) ≡ [] → gathered f (objects d (whole d)) ≡ without q (gathered f₂ (objects d₂ (whole d₂)))
  one_dropped s₂ q ns h kept gone =
      less
      ∙ sym (ap (without q) more ∙ without_append q ahead (f₂ new ++ behind) ∙ ap (λ (k : List A). without q ahead ++ k) (without_append q (f₂ new) behind)
      ∙ rw (gone, gathered_kept q f ns kept m.before (before_unmeant d d₂ new m s₂ ns h), gathered_kept q f ns kept m.after (after_unmeant d d₂ new m s₂ ns h)))
