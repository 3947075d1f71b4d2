-- A path followed name by name, where the entry that was reached stands for its tree.
use mathlib.Core.Path.{◌≡◌, refl}
use mathlib.Core.Bool.{true, false}
use mathlib.Core.List.{List, [], ◌∷◌}
use Prim.Native.Nat.{ℕ}
use Rattle.format.specs.Layout.Name.{Name}
use Rattle.format.specs.Layout.Directory.{Directory}
use Rattle.format.specs.Layout.Tree.{forest}
use Rattle.format.specs.Calls.Paths.{Path, names, well_formed, names_before}
use Rattle.format.specs.Calls.Find.{refused, enter, descend, resolve, need_parent, resolve_parent}
use Rattle.theory.specs.TreeFind.{reached}

module _ (d : Directory) where
  pub resolve_formed : (p : Path) → well_formed p ≡ true → resolve d p ≡ descend d (reached d 0) (names p)
  unfolding resolve forest
  resolve_formed p w = rw w

  pub resolve_malformed : (p : Path) → well_formed p ≡ false → resolve d p ≡ refused 20
  unfolding resolve
  resolve_malformed p w = rw w

  pub parent_formed : (p : Path) → well_formed p ≡ true → resolve_parent d p ≡ need_parent d (descend d (reached d 0) (names_before p))
  unfolding resolve_parent forest
  parent_formed p w = rw w

  pub parent_malformed : (p : Path) → well_formed p ≡ false → resolve_parent d p ≡ refused 20
  unfolding resolve_parent
  parent_malformed p w = rw w

  -- an answer stands, whatever names are left
  pub descend_refused : (a : ℕ) (ns : List Name) → descend d (refused a) ns ≡ refused a
  unfolding descend enter
  descend_refused a [] = refl
  descend_refused a (n ∷ ns) = descend_refused a ns
