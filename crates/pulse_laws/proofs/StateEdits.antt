-- A call that does not edit a stream leaves its row, by the state of demand 3.
use mathlib.Core.Path.{◌≡◌, refl, ap, ◌∙◌}
use mathlib.Core.Logic.{◌≢◌, inl, inr}
use mathlib.Core.Bool.{Bool, true, false, not, cond, ◌&&◌}
use mathlib.Core.List.{List, [], ◌∷◌, ◌++◌, map}
use lib.Dec.{ltb, leb}
use lib.ListN.{length}
use Rattle.format.specs.Basics.Lists.{any, fit}
use Rattle.format.specs.Basics.Bytes.{Bytes}
use Rattle.format.specs.Layout.Name.{Name}
use Rattle.format.specs.Layout.PathOrder.{same_path}
use Rattle.format.specs.Calls.Paths.{Path, names, well_formed, names_before, last_name}
use Rattle.format.specs.Calls.Create.{stream, storage}
use Rattle.format.specs.Calls.Call.{Call, validate, find, read, overwrite, set_length, create, remove, list, read_at}
use Rattle.format.specs.History.Rows.{Row, means, has_row}
use Rattle.format.specs.History.Storages.{has_storage, spelled, is_storage_or_root}
use Rattle.format.specs.History.State.{State, with_rows}
use Rattle.format.specs.History.Accepts.{may_create, accepts}
use Rattle.format.specs.History.Step.{change, put_into, new_path, with_object, without_object, changed, state_step}
use Rattle.theory.proofs.Tests.{both, clash, false_of}
use Rattle.theory.proofs.Trees.AtPath.{same_path_last}
use Rattle.theory.proofs.Trees.Insert.{either}
use Rattle.theory.proofs.Trees.PathOrder.{name_self}
use Rattle.theory.proofs.LastNames.{names_last}
use Rattle.pulse_laws.specs.Actions.{edits_path}
use Rattle.pulse_laws.proofs.EqualPaths.{same_alike, same_sym}
use Rattle.pulse_laws.proofs.RowEdits.{RowStays, has_row_changed, row_left, row_put, row_without}

-- ---- the setting stays

changed_setting : (s : State) (c : Call) → (changed s c).setting ≡ s.setting
unfolding changed with_rows with_object without_object
changed_setting s (validate work) = refl
changed_setting s (find path work) = refl
changed_setting s (read path offset out work) = refl
changed_setting s (overwrite path offset bytes work) = refl
changed_setting s (set_length path new work) = refl
changed_setting s (create stream path work) = refl
changed_setting s (create storage path work) = refl
changed_setting s (remove path work) = refl
changed_setting s (list out work) = refl
changed_setting s (read_at entry position out work) = refl

pub step_setting : (s : State) (c : Call) → (state_step s c).setting ≡ s.setting
unfolding state_step
step_setting s c = go (accepts s c)
  where
    go : (t : Bool) → (cond t (changed s c) s).setting ≡ s.setting
    go true = changed_setting s c
    go false = refl

-- ---- a new stream's path is the call's, as names

root_spelled : (storages : List (List Name)) → same_path [] (spelled storages []) ≡ true
unfolding spelled same_path
root_spelled [] = refl
root_spelled (q ∷ qs) = elim (either (same_path [] q)) [ inl e ↦ rw e e | inr e ↦ rw e (root_spelled qs) ]

storage_spelled : (storages : List (List Name)) (ns : List Name) → has_storage storages ns ≡ true → same_path ns (spelled storages ns) ≡ true
unfolding spelled has_storage any
storage_spelled [] ns h = absurd (clash h refl)
storage_spelled (q ∷ qs) ns h = elim (either (same_path ns q)) [ inl e ↦ rw e e | inr e ↦ rw e (storage_spelled qs ns (rw e at h)) ]

place_spelled : (storages : List (List Name)) (ns : List Name) → is_storage_or_root storages ns ≡ true → same_path ns (spelled storages ns) ≡ true
unfolding is_storage_or_root
place_spelled storages [] h = root_spelled storages
place_spelled storages (n ∷ ns) h = storage_spelled storages (n ∷ ns) h

some_names : (storages : List (List Name)) (ns : List Name) → not (is_storage_or_root storages ns) ≡ true → ns ≢ []
unfolding is_storage_or_root
some_names storages ns h e = clash h (ap (λ (l : List Name). not (is_storage_or_root storages l)) e)

new_same : (s : State) (path : Path) → may_create s path ≡ true → same_path (names path) (new_path s path) ≡ true
unfolding may_create new_path
new_same s path h =
    let a = well_formed path in
    let b = is_storage_or_root s.storages (names_before path) in
    let c = not (has_row s.rows path) in
    let d = not (is_storage_or_root s.storages (names path)) in
    let u = both (a && b && c && d) (ltb 0 s.blank_count) h in
    let w = both (a && b && c) d u.0 in
    let k = both a b (both (a && b) c w.0).0 in
    let ns = spelled s.storages (names_before path) ++ (last_name path ∷ []) in
    ap (λ (l : List Name). same_path l ns) (names_last path (some_names s.storages (names path) w.1))
    ∙ same_path_last (names_before path) (spelled s.storages (names_before path)) (last_name path) (last_name path)
    (place_spelled s.storages (names_before path) k.1) (name_self (last_name path))

new_apart : (s : State) (path to : Path) (bytes : Bytes) → same_path (names path) (names to) ≡ false → may_create s path ≡ true →
    means to (record { path = new_path s path; bytes = bytes }) ≡ false
unfolding means
new_apart s path to bytes h k =
    false_of (same_path (names to) (new_path s path))
    (λ e. clash (same_alike (names path) (new_path s path) (names to) (new_same s path k) ∙ same_sym (names to) (new_path s path) e) h)

-- ---- another path's edit, and every other call

stays : (rows : List Row) (to : Path) → RowStays rows rows to
stays rows to = record { bytes = refl; there = refl }

change_stays : (rows : List Row) (q to : Path) (f : Bytes → Bytes) → same_path (names q) (names to) ≡ false → RowStays rows (map (change q f) rows) to
change_stays rows q to f h = record { bytes = row_left rows q to f h; there = has_row_changed rows q to f }

changed_left : (s : State) (to : Path) (c : Call) → edits_path to c ≡ false → accepts s c ≡ true → RowStays s.rows (changed s c).rows to
unfolding changed edits_path accepts with_rows with_object without_object
changed_left s to (validate work) h a = stays s.rows to
changed_left s to (find path work) h a = stays s.rows to
changed_left s to (read path offset out work) h a = stays s.rows to
changed_left s to (overwrite path offset bytes work) h a = change_stays s.rows path to (put_into offset bytes) h
changed_left s to (set_length path new work) h a = change_stays s.rows path to (fit new) h
changed_left s to (create stream path work) h a =
    row_put (record { path = new_path s path; bytes = [] }) to (new_apart s path to [] h (both (leb s.setting.work (length work)) (may_create s path) a).1) s.rows
changed_left s to (create storage path work) h a = stays s.rows to
changed_left s to (remove path work) h a = row_without path to h s.rows
changed_left s to (list out work) h a = stays s.rows to
changed_left s to (read_at entry position out work) h a = stays s.rows to

pub step_left : (s : State) (to : Path) (c : Call) → edits_path to c ≡ false → RowStays s.rows (state_step s c).rows to
unfolding state_step
step_left s to c h = go (accepts s c) refl
  where
    go : (t : Bool) → accepts s c ≡ t → RowStays s.rows (cond t (changed s c) s).rows to
    go true a = changed_left s to c h a
    go false a = stays s.rows to
