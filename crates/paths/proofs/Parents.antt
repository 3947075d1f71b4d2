-- The last name below the storage that it stands in: what the whole path leads to.
use Prim.Native.Nat.{ℕ, suc, ◌+◌, ◌-◌, ◌≤◌}
use mathlib.Core.Path.{◌≡◌, refl, ap, sym, ◌∙◌}
use mathlib.Core.Logic.{◌≢◌}
use mathlib.Core.List.{[], ◌∷◌, ◌++◌}
use mathlib.Core.Bool.{Bool, true, false, cond, ◌&&◌}
use native.Mathlib.Omega.{arith}
use borrow.Author.Tests.{leb-true}
use lib.Dec.{leb}
use lib.ListN.{length, take}
use lib.Seq.{take-suc, take-length}
use Rattle.format.specs.Basics.Lists.{all}
use Rattle.format.specs.Layout.Name.{legal_unit, legal_name}
use Rattle.format.specs.Layout.Entry.{is_stream}
use Rattle.format.specs.Layout.Directory.{Directory}
use Rattle.format.specs.Layout.Tree.{forest}
use Rattle.format.specs.Calls.Paths.{Path, names, well_formed, names_before, last_name}
use Rattle.format.specs.Calls.Find.{Found, at as found_at, refused, found_child, child_named, enter, descend, resolve, need_parent, resolve_parent}
use Rattle.theory.specs.TreeViews.{at, child_of}
use Rattle.theory.specs.TreeFind.{reached}
use Rattle.theory.proofs.Tests.{both, all_append}
use Rattle.theory.proofs.Trees.Paths.{resolve_formed}
use Rattle.theory.proofs.Trees.AtPath.{descend_last}
use Rattle.paths.proofs.Splits.{names_split}
use Rattle.paths.proofs.Steps.{way_none}
use Rattle.paths.proofs.LastNames.{split_some}

-- a path that is not empty has a last name
pub names_last : (p : Path) → length p ≢ 0 → names p ≡ names_before p ++ (last_name p ∷ [])
unfolding names_before last_name
names_last p h =
    let s = split_some p in
    let l : length (names p) ≡ suc (length s.1) = ap length (names_split p h ∙ s.2) in
    let n = length (names p) - 1 in
    let k : length (names p) ≡ suc n = omega arith in
    sym (take-length (names p)) ∙ ap (λ i. take i (names p)) k ∙ take-suc (names p) n [] (omega arith)

last_legal : (p : Path) → length p ≢ 0 → well_formed p ≡ true → legal_name (last_name p) ≡ true
unfolding well_formed all
last_legal p h w =
    let q = names_before p in
    let n = last_name p in
    let a = (both (all legal_name q) (legal_name n && true) (sym (all_append legal_name q (n ∷ [])) ∙ ap (all legal_name) (sym (names_last p h)) ∙ w)).1 in
    (both (legal_name n) true a).0

-- ---- where the last name's storage is found

module _ (d : Directory) (p : Path) (s : ℕ) (e : reached d s ≡ resolve_parent d p) where
  pub found_formed : (well_formed p ≡ true) × ((descend d (reached d 0) (names_before p) ≡ reached d s) × (is_stream (d.entry s) ≡ false))
  unfolding resolve_parent need_parent forest
  found_formed = go (well_formed p) (descend d (reached d 0) (names_before p)) e
    where
      go : (w : Bool) (f : Found) → reached d s ≡ cond w (need_parent d f) (refused 20) → (w ≡ true) × ((f ≡ reached d s) × (is_stream (d.entry s) ≡ false))
      go false f k = absurd (let z : ◌≡◌ {A = ℕ} 0 1 = cc in omega arith)
      go true (refused a) k = absurd (let z : ◌≡◌ {A = ℕ} 0 1 = cc in omega arith)
      go true (found_at x b) k = by (is_stream (d.entry x)) refl k
        where
          by : (q : Bool) → is_stream (d.entry x) ≡ q → reached d s ≡ cond q (refused 22) (found_at x b)
              → (true ≡ true) × ((found_at x b ≡ reached d s) × (is_stream (d.entry s) ≡ false))
          by true i k = absurd (let z : ◌≡◌ {A = ℕ} 0 1 = cc in omega arith)
          by false i k = let z : s ≡ x = cc in (refl, (sym k, rw z i))

  pub found_short : length p ≢ 0 → length (last_name p) ≤ 31
  unfolding legal_name
  found_short h =
      let n = last_name p in
      let a = (both (leb 1 (length n) && leb (length n) 31) (all legal_unit n) (last_legal p h found_formed.0)).0 in
      leb-true (length n) 31 (both (leb 1 (length n)) (leb (length n) 31) a).1

  -- the whole path leads to the child of its last name
  pub found_child_lem : length p ≢ 0 → resolve d p ≡ found_child (child_named d (last_name p) (at d (child_of d s)))
  unfolding enter
  found_child_lem h =
      let f = found_formed in
      resolve_formed d p f.0
      ∙ ap (descend d (reached d 0)) (names_last p h)
      ∙ descend_last d (reached d 0) (names_before p) (last_name p)
      ∙ rw (f.1.0, f.1.1)

  -- the empty path to the root
  pub found_root : length p ≡ 0 → reached d 0 ≡ resolve d p
  found_root h = way_none d p found_formed.0 h
