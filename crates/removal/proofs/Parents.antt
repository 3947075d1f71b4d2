-- A path that leads to an entry other than the root: its last name is a child of what the names before it lead to.
use Prim.Native.Nat.{ℕ}
use mathlib.Core.Path.{◌≡◌, refl, sym, ap, ◌∙◌}
use mathlib.Core.Logic.{◌≢◌}
use mathlib.Core.Bool.{Bool, true, false}
use native.Mathlib.Omega.{arith}
use native.Mathlib.Decide.{ℕ_discrete}
use lib.ListN.{length}
use Rattle.format.specs.Layout.Entry.{is_stream}
use Rattle.format.specs.Layout.Directory.{Directory}
use Rattle.format.specs.Layout.Tree.{Forest, forest}
use Rattle.format.specs.Calls.Paths.{Path, well_formed, names_before, last_name}
use Rattle.format.specs.Calls.Find.{Found, missing, present, at as found_at, refused, found_child, child_named, enter, descend, resolve, need_parent, resolve_parent}
use Rattle.theory.specs.TreeViews.{at, child_of}
use Rattle.theory.specs.TreeFind.{reached}
use Rattle.theory.proofs.Trees.AtPath.{descend_last, enter_found}
use Rattle.theory.proofs.Trees.Paths.{resolve_formed, resolve_malformed}
use Rattle.paths.proofs.Steps.{way_none}
use Rattle.paths.proofs.Parents.{names_last, found_child_lem, found_root}
use Rattle.removal.specs.Leads.{LeadsTo}

refused_not : (a x : ℕ) (b : Forest) → refused a ≡ found_at x b → ⊥
refused_not a x b h = let z : ◌≡◌ {A = ℕ} 0 1 = cc in omega arith

pub entry_same : (x y : ℕ) (a b : Forest) → found_at x a ≡ found_at y b → x ≡ y
entry_same x y a b h = cc

module _ (d : Directory) (p : Path) (m : LeadsTo d p) where
  abbrev before : Found
  before = descend d (reached d 0) (names_before p)

  found_not : (a : ℕ) → resolve d p ≡ refused a → ⊥
  found_not a h = refused_not a m.entry (at d (child_of d m.entry)) (sym (m.found ∙ h))

  -- the last name is entered
  entered : well_formed p ≡ true → length p ≢ 0 → enter d before (last_name p) ≡ reached d m.entry
  entered w n =
      sym (m.found ∙ resolve_formed d p w ∙ ap (descend d (reached d 0)) (names_last p n) ∙ descend_last d (reached d 0) (names_before p) (last_name p))

  parent_is : well_formed p ≡ true → resolve_parent d p ≡ need_parent d before
  unfolding resolve_parent forest
  parent_is w = rw w

  need_plain : (s : ℕ) (b : Forest) → is_stream (d.entry s) ≡ false → need_parent d (found_at s b) ≡ found_at s b
  unfolding need_parent
  need_plain s b h = rw h

  -- the names before the last are not refused
  pub not_refused : (a : ℕ) → refused a ≡ resolve_parent d p → ⊥
  not_refused a h = go (well_formed p) refl
    where
      go : (w : Bool) → well_formed p ≡ w → ⊥
      go false w = found_not 20 (resolve_malformed d p w)
      go true w =
          elim (ℕ_discrete (length p) 0) [
            | yes z ↦
                m.other
                (entry_same m.entry 0 (at d (child_of d m.entry)) (at d (child_of d 0)) (m.found ∙ sym (way_none d p w z)))
            | no n ↦
                let r = enter_found d before (last_name p) m.entry (at d (child_of d m.entry)) (entered w n) in
                refused_not a r.0 r.1 (h ∙ parent_is w ∙ ap (need_parent d) r.2 ∙ need_plain r.0 r.1 r.3)
          ]

  module _ (s : ℕ) (e : reached d s ≡ resolve_parent d p) where
    pub some_name : length p ≢ 0
    some_name z =
        m.other (entry_same m.entry 0 (at d (child_of d m.entry)) (at d (child_of d 0)) (m.found ∙ sym (found_root d p s e z)))

    pub not_missing : child_named d (last_name p) (at d (child_of d s)) ≡ missing → ⊥
    unfolding found_child
    not_missing h = found_not 21 (found_child_lem d p s e some_name ∙ ap found_child h)

    pub child_is : (y : ℕ) (b : Forest) → child_named d (last_name p) (at d (child_of d s)) ≡ present y b → y ≡ m.entry
    unfolding found_child
    child_is y b h =
        entry_same y m.entry b (at d (child_of d m.entry)) (sym (m.found ∙ found_child_lem d p s e some_name ∙ ap found_child h))
