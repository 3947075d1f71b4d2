-- Two siblings, one visited after the other: their names, by the units that the nodes hold.
use Prim.Native.Nat.{ℕ, zero, suc, ◌+◌, ◌≤◌, ◌<◌}
use mathlib.Core.Path.{◌≡◌, refl, ap, ◌∙◌}
use mathlib.Core.Bool.{true, false, not}
use mathlib.Core.Logic.{inl, inr}
use mathlib.Core.List.{List}
use native.Mathlib.Omega.{arith}
use native.Mathlib.Decide.{dec_lt}
use borrow.Author.Tests.{ltb-true, ltb-false, lt-ltb, le-ltb, ne_eqb, eqb-false, not-true}
use lib.Dec.{eqb, ltb}
use lib.ListN.{length}
use Rattle.format.specs.Basics.Bytes.{Bytes}
use Rattle.format.specs.Layout.Name.{name_less}
use Rattle.format.specs.Layout.Entry.{name}
use Rattle.format.specs.Layout.Directory.{Directory}
use Rattle.format.specs.Rules.Trees.{is_object, less}
use Rattle.theory.specs.TreeViews.{rows}
use Rattle.theory.specs.TreeInorder.{follows, object_in, LastIn}
use Rattle.theory.proofs.Counts.{eqb_cases}
use Rattle.theory.proofs.Tests.{clash, both}
use Rattle.directory.specs.Listed.{entries_of, NamedIn}
use Rattle.directory.specs.declared.Directory.{Directory as Where}
use Rattle.nodes.specs.Slots.{entry_of}
use Rattle.nodes.proofs.Slots.{entry_some}
use Rattle.tree_walk.specs.Walking.{Lent, units_at, shorter, due_slot, Paired}

-- an object is an entry other than the root, so its name lies in its place
module _ {d : Where} {img : Bytes} {w : List ℕ} (l : Lent d img w) (x : ℕ) (o : object_in (entries_of d img) x ≡ true) where
  object_apart : (x < rows (entries_of d img)) × (is_object (entries_of d img) x ≡ true)
  object_apart = let u = both (ltb x (rows (entries_of d img))) (is_object (entries_of d img) x) o in (ltb-true x (rows (entries_of d img)) u.0, u.1)

  object_above : 0 < x
  object_above =
      elim (dec_lt 0 x) [
        | yes h ↦ h
        | no h ↦ let z : x ≡ 0 = omega arith in absurd (clash object_apart.1 (ap (is_object (entries_of d img)) z ∙ l.nodes.root))
      ]

  object_named : NamedIn (entries_of d img) x
  object_named = l.ruled.names x object_above object_apart.0

-- the sibling visited last, as an entry
last_object : (e : Directory) (before : ℕ) → 0 < before → LastIn e before → object_in e (entry_of before) ≡ true
unfolding entry_of
last_object e zero h l = absurd (omega arith)
last_object e (suc b) h l = l

pub follows_last : (e : Directory) (before y : ℕ) → 0 < before → follows (less e) before y ≡ less e (entry_of before) y
unfolding entry_of
follows_last e zero y h = absurd (omega arith)
follows_last e (suc b) y h = refl

-- an entry that is visited after the sibling `before`, if there is one
pub record Visited (d : Where) (img : Bytes) (w : List ℕ) (before at units : ℕ) : Type 0 where
  pub lent : Lent d img w
  pub last : LastIn (entries_of d img) before
  pub object : object_in (entries_of d img) (entry_of at) ≡ true
  pub real : 0 < at
  pub units_are : units ≡ length (name ((entries_of d img).entry (entry_of at)))

module _ {d : Where} {img : Bytes} {w : List ℕ} {before at units : ℕ} (v : Visited d img w before at units) where
  abbrev e : Directory
  e = entries_of d img

  -- the units of the sibling before, if there is one
  abbrev last : ℕ
  last = units_at w before

  module _ (h : 0 < before) where
    object : object_in e (entry_of before) ≡ true
    object = last_object e before h v.last

    slot_is : before ≡ entry_of before + 1
    slot_is = entry_some before h

    last_units : last ≡ length (name (e.entry (entry_of before)))
    last_units =
        let u = object_apart v.lent (entry_of before) object in
        ap (λ (i : ℕ). units_at w i) slot_is ∙ ((v.lent.nodes.nodes (entry_of before) u.0).object u.1).units_are

    rises : last < units → follows (less e) before (entry_of at) ≡ true
    unfolding less name_less
    rises l =
        follows_last e before (entry_of at) h
        ∙ rw (lt-ltb (length (name (e.entry (entry_of before)))) (length (name (e.entry (entry_of at)))) (omega (arith, last_units, v.units_are)))

    falls : units < last → follows (less e) before (entry_of at) ≡ false
    unfolding less name_less
    falls l =
        let n = length (name (e.entry (entry_of before))) in
        let m = length (name (e.entry (entry_of at))) in
        follows_last e before (entry_of at) h ∙ rw (le-ltb n m (omega (arith, last_units, v.units_are)), ne_eqb n m (omega (arith, last_units, v.units_are)))

    paired : units ≡ last → Paired e (entry_of before) (entry_of at)
    paired q = record {
      first = object_named v.lent (entry_of before) object;
      second = object_named v.lent (entry_of at) v.object;
      units = omega (arith, last_units, v.units_are);
    }

  -- it has fewer units than the sibling before
  pub shorter_falls : shorter before units last ≡ true → follows (less e) before (entry_of at) ≡ false
  shorter_falls q =
      let u = both (not (eqb before 0)) (ltb units last) q in
      falls (omega (arith, eqb-false before 0 (not-true (eqb before 0) u.0))) (ltb-true units last u.1)

  -- it has not: what is left of the order is that of the names of as many units
  module _ (q : shorter before units last ≡ false) where
    no_fewer : 0 < before → last ≤ units
    no_fewer h = ltb-false units last (rw (ne_eqb before 0 (omega arith)) at q)

    pub due_follows : follows (less e) before (entry_of at) ≡ follows (less e) (due_slot before units last) (entry_of at)
    due_follows =
        elim (eqb_cases units last) [
          | inl u ↦ rw u.1
          | inr u ↦ rw u.1
              (elim (dec_lt 0 before) [
                | yes h ↦ rises h (omega (arith, no_fewer h, u.0))
                | no h ↦ let z : before ≡ 0 = omega arith in rw z
              ])
        ]

    pub due_paired : 0 < due_slot before units last → Paired e (entry_of (due_slot before units last)) (entry_of at)
    due_paired h =
        elim (eqb_cases units last) [
          | inl u ↦ rw u.1 (paired (rw u.1 at h) u.0)
          | inr u ↦ absurd (omega (arith, rw u.1 at h))
        ]
