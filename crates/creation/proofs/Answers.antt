-- What the search for the new object's place says of the answer of a creation, and of the image that it leaves.
use Prim.Native.Nat.{ℕ}
use mathlib.Core.Path.{◌≡◌, sym, ◌∙◌, ap}
use mathlib.Core.Logic.{◌≢◌}
use mathlib.Core.Bool.{cond}
use mathlib.Core.List.{[]}
use native.Mathlib.Omega.{arith}
use borrow.Author.Tests.{eq-eqb, ne_eqb}
use lib.Dec.{eqb}
use lib.ListN.{length}
use Rattle.format.specs.Basics.Bytes.{Bytes}
use Rattle.format.specs.Layout.Geometry.{Geometry}
use Rattle.format.specs.Layout.Name.{Name}
use Rattle.format.specs.Layout.Directory.{Directory, blanks}
use Rattle.format.specs.Layout.Tree.{Forest}
use Rattle.format.specs.Layout.Siblings.{Slot, slot_in, goes_left}
use Rattle.format.specs.Layout.Volume.{Volume}
use Rattle.format.specs.Calls.Paths.{Path, last_name}
use Rattle.format.specs.Calls.Find.{missing, present, child_named, refused, found_child, answer_of, entry_of, below_of, resolve, resolve_parent}
use Rattle.format.specs.Calls.Create.{NewKind, lowest_blank, slot_for, entry_created, object_created}
use Rattle.format.specs.Calls.Call.{Call, create}
use Rattle.format.specs.Calls.Answer.{first_of, create_answer, answer_in}
use Rattle.format.specs.Calls.Reply.{on_zero}
use Rattle.format.specs.Calls.Buffers.{edited}
use Rattle.theory.specs.TreeViews.{at, child_of}
use Rattle.theory.specs.TreeFind.{reached}
use Rattle.kinds.specs.Numbers.{refusal_number}
use Rattle.kinds.specs.declared.Refusal.{Refusal}
use Rattle.kinds.specs.declared.Refusal.TheVariants.{AlreadyThere}
use Rattle.kinds.proofs.Refusals.{first_refused, else_refused}
use Rattle.lookup.specs.Slots.{child_slot}
use Rattle.paths.proofs.Parents.{found_child_lem, found_root}
use Rattle.queries.specs.Inside.{image_in}

module _ (g : Geometry) (v : Volume) (img : Bytes) (o : NewKind) (p : Path) where
  abbrev d : Directory
  d = v.directory

  abbrev call : Call
  call = create o p []

  -- a number and an image are those of the call
  abbrev pub Right : ℕ → Bytes → Type 0
  Right a after = (a ≡ answer_in g v call) × (after ≡ image_in g v img call)

  create_refused : (a : Refusal) → answer_in g v call ≡ refusal_number a → Right (refusal_number a) img
  unfolding image_in
  create_refused a e = (sym e, sym (rw e (else_refused a _ _)))

  -- the names before the last lead to no storage
  pub parent_stopped : (a : Refusal) → refused (refusal_number a) ≡ resolve_parent d p → Right (refusal_number a) img
  unfolding answer_in create_answer answer_of
  parent_stopped a e = create_refused a (rw (← e) (first_refused a _))

  module _ (s : ℕ) (e : reached d s ≡ resolve_parent d p) where
    answer_is : answer_in g v call ≡ cond (eqb (answer_of (resolve d p)) 0) 29 (cond (eqb (length (blanks d)) 0) 30 0)
    unfolding answer_in create_answer answer_of first_of
    answer_is = rw (← e)

    -- something is there
    there : answer_of (resolve d p) ≡ 0 → Right 29 img
    there h = create_refused AlreadyThere (answer_is ∙ rw (eq-eqb (answer_of (resolve d p)) 0 h))

    pub there_root : length p ≡ 0 → Right 29 img
    unfolding answer_of
    there_root h = there (ap answer_of (sym (found_root d p s e h)))

    module _ (h : length p ≢ 0) (n : Name) (q : n ≡ last_name p) where
      leads : resolve d p ≡ found_child (child_named d n (at d (child_of d s)))
      leads = rw q (found_child_lem d p s e h)

      pub there_child : (x : ℕ) (b : Forest) → child_named d n (at d (child_of d s)) ≡ present x b → Right 29 img
      unfolding answer_of found_child
      there_child x b k = there (ap answer_of (leads ∙ ap found_child k))

      -- nothing is: what is created stands where the descent ended
      module _ (k : child_named d n (at d (child_of d s)) ≡ missing) where
        answer_free : answer_in g v call ≡ cond (eqb (length (blanks d)) 0) 30 0
        unfolding answer_of found_child
        answer_free = answer_is ∙ rw (ne_eqb (answer_of (resolve d p)) 0 (λ z. absurd (omega (arith, z, ap answer_of (leads ∙ ap found_child k)))))

        pub free_right : (h : Slot) → h ≡ slot_in (goes_left d n) (child_slot s) (at d (child_of d s)) → (a : ℕ) (after : Bytes)
            → a ≡ cond (eqb (length (blanks d)) 0) 30 0 → after ≡ on_zero a (entry_created v img o n h (lowest_blank d)) img → Right a after
        unfolding image_in edited object_created slot_for entry_of below_of
        free_right h z a after i j =
            let m = i ∙ sym answer_free in
            (m, j ∙ rw (m, z, q, ← e))
