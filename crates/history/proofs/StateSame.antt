-- Where directories look alike, storages and blank entries are the same: an edit of a stream changes the rows alone.
use Prim.Native.Nat.{ℕ}
use mathlib.Core.Path.{◌≡◌, refl, ap, ap₂, ◌∙◌, fun_ext}
use mathlib.Core.Bool.{Bool}
use mathlib.Core.List.{List, [], ◌∷◌, ◌++◌}
use lib.Dec.{eqb}
use lib.ListN.{length}
use Rattle.format.specs.Basics.Lists.{pick_below}
use Rattle.format.specs.Basics.Bytes.{Bytes}
use Rattle.format.specs.Layout.Geometry.{Geometry}
use Rattle.format.specs.Layout.Name.{Name}
use Rattle.format.specs.Layout.Entry.{name, kind}
use Rattle.format.specs.Layout.Directory.{Directory, blanks, blank_at}
use Rattle.format.specs.Layout.Tree.{Forest, empty, broken, node, forest}
use Rattle.format.specs.Layout.Volume.{volume, directory}
use Rattle.format.specs.History.Rows.{Row}
use Rattle.format.specs.History.Setting.{Setting, setting_of}
use Rattle.format.specs.History.Storages.{storages_in, storages_of, blank_count_of}
use Rattle.format.specs.History.State.{State, state_in, with_rows}
use Rattle.history.specs.Alike.{Alike}
use Rattle.history.specs.Step.{Step, Next}
use Rattle.history.proofs.Alike.{forest_same}

module _ (d d' : Directory) (a : Alike d d') where
  storages_in_lem : (before : List Name) (t : Forest) → storages_in d' before t ≡ storages_in d before t
  unfolding storages_in
  storages_in_lem before empty = refl
  storages_in_lem before broken = refl
  storages_in_lem before (node l e b r) =
      let m = name (d.entry e) in
      rw (a.name e, a.kind e, storages_in_lem before l, storages_in_lem (before ++ (m ∷ [])) b, storages_in_lem before r)

  blanks_same : length (blanks d') ≡ length (blanks d)
  unfolding blanks blank_at
  blanks_same = ap₂ (λ (n : ℕ) (p : ℕ → Bool). length (pick_below n p)) a.count (fun_ext (λ i. ap (λ (k : ℕ). eqb k 0) (a.kind i)))

unfoldable pub state : Setting → List Row → List (List Name) → ℕ → State
state s r q n = record { setting = s; rows = r; storages = q; blank_count = n }

pub step_next : (g : Geometry) (img img' : Bytes) (rows' : List Row) → Step g img img' rows' → Next g img img' (with_rows (state_in g img) rows')
unfolding state_in with_rows storages_of blank_count_of state volume
step_next g img img' rows' s =
    let d = directory g img in
    let d' = directory g img' in
    let q : storages_in d' [] (forest d') ≡ storages_in d [] (forest d) =
    ap (storages_in d' []) (forest_same d d' s.alike) ∙ storages_in_lem d d' s.alike [] (forest d) in
    record {
      accepted = s.accepted;
      kept = s.kept;
      state =
          ap₂ (λ (a : Setting) (b : List Row). state a b (storages_in d' [] (forest d')) (length (blanks d'))) s.setting s.rows
          ∙ ap₂ (λ (a : List (List Name)) (b : ℕ). state (setting_of g img) rows' a b) q (blanks_same d d' s.alike);
    }
