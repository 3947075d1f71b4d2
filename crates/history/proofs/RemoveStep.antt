-- A removal that answers 0 leaves an accepted image of the state that the history says.
use Prim.Native.Nat.{ℕ, suc, ◌+◌, ◌<◌}
use mathlib.Core.Path.{◌≡◌, refl, sym, ap, ◌∙◌, subst, subst₂}
use mathlib.Core.Logic.{inl, inr}
use mathlib.Core.Bool.{Bool, true, false, cond}
use mathlib.Core.List.{List, [], ◌∷◌, map}
use native.Mathlib.Omega.{arith}
use native.Mathlib.Decide.{ℕ_discrete}
use lib.Dec.{eqb}
use lib.ListN.{length}
use borrow.Author.Tests.{le-ltb, eqb-true}
use Rattle.format.specs.Basics.Lists.{fit, without}
use Rattle.format.specs.Basics.Bytes.{Bytes}
use Rattle.format.specs.Layout.Geometry.{Geometry, mini_bytes}
use Rattle.format.specs.Layout.Need.{cutoff, round_up, mini_need, sector_need}
use Rattle.format.specs.Layout.Entry.{kind, is_stream}
use Rattle.format.specs.Layout.Directory.{Directory}
use Rattle.format.specs.Layout.Tree.{Forest}
use Rattle.format.specs.Layout.Volume.{volume, directory}
use Rattle.format.specs.Layout.Stream.{stream_size}
use Rattle.format.specs.Layout.PathOrder.{same_path}
use Rattle.format.specs.Rules.Verdict.{Accepted, verdict}
use Rattle.format.specs.Calls.Paths.{Path, names}
use Rattle.format.specs.Calls.Find.{resolve_stream, need_stream, Found, resolve, entry_of, at as found_at}
use Rattle.format.specs.Calls.SetLength.{too_few, resized}
use Rattle.format.specs.Calls.Remove.{entry_removed, cut_to_zero, object_removed}
use Rattle.format.specs.Calls.Answer.{answer, answer_in, remove_answer}
use Rattle.format.specs.Calls.Call.{remove, work_of}
use Rattle.format.specs.History.Rows.{Row, rows_of, means}
use Rattle.format.specs.History.State.{State, state_in, with_rows}
use Rattle.format.specs.History.Step.{without_object, change}
use Rattle.theory.proofs.Tests.{clash}
use Rattle.theory.proofs.Trees.Insert.{either}
use Rattle.theory.proofs.Refusals.{first_zero}
use Rattle.frame.specs.Frame.{Frame}
use Rattle.frame.specs.Place.{MayRemove}
use Rattle.frame.proofs.Good.{accepted_good}
use Rattle.frame.proofs.RemovedPath.{may_remove_lem, parent_of, removed_image, erasing, own_path_lem}
use Rattle.history.specs.Step.{Next, Step, Cut, length_rows}
use Rattle.history.proofs.SamePaths.{resolve_same}
use Rattle.history.proofs.EditStep.{preserved_itself, preserved_trans}
use Rattle.history.proofs.LengthStep.{alike_itself, resized_same, length_may, length_step}
use Rattle.history.proofs.Moving.{cut_within}
use Rattle.history.proofs.StateSame.{state, step_next}
use Rattle.history.proofs.RemovedState.{erase_next}

-- a row that goes may be changed before
without_changed : (p : Path) (f : Bytes → Bytes) (rs : List Row) → without (means p) (map (change p f) rs) ≡ without (means p) rs
unfolding without means change
without_changed p f [] = refl
without_changed p f (r ∷ rs) =
    elim (either (same_path (names p) r.path)) [
      | inl h ↦ rw h (without_changed p f rs)
      | inr h ↦ rw h (ap (λ (k : List Row). r ∷ k) (without_changed p f rs))
    ]

remove_answer_is : (g : Geometry) (img : Bytes) → (p : Path) (work : List ℕ) → answer g img (remove p work) ≡ 0
    → remove_answer (volume g img).directory (resolve (volume g img).directory p) ≡ 0
unfolding answer answer_in work_of
remove_answer_is g img p work h = (first_zero (verdict g img (length work)) (remove_answer (volume g img).directory (resolve (volume g img).directory p)) h).1

stream_found_lem : (d : Directory) (p : Path) (x : ℕ) (b : Forest) → resolve d p ≡ found_at x b → is_stream (d.entry x) ≡ true → resolve_stream d p ≡ found_at x b
unfolding resolve_stream need_stream
stream_found_lem d p x b h st = rw (h, st)

dropped_stream : (g : Geometry) (img : Bytes) (p : Path) (x : ℕ) (b : Forest) → resolve (volume g img).directory p ≡ found_at x b → is_stream ((volume g img).directory.entry x) ≡ true
    → object_removed (volume g img) img p ≡ entry_removed (volume g (resized (volume g img) img x 0)) (resized (volume g img) img x 0) p
unfolding object_removed cut_to_zero entry_of volume
dropped_stream g img p x b h st =
    ap (λ (f : Found). cut (cut_to_zero (volume g img) img (entry_of f))) h ∙ ap cut (ap (λ (t : Bool). cond t (resized (volume g img) img x 0) img) st)
  where
    cut : Bytes → Bytes
    cut i = entry_removed (volume (volume g img).geometry i) i p

dropped_storage : (g : Geometry) (img : Bytes) (p : Path) (x : ℕ) (b : Forest) → resolve (volume g img).directory p ≡ found_at x b → is_stream ((volume g img).directory.entry x) ≡ false
    → object_removed (volume g img) img p ≡ entry_removed (volume g img) img p
unfolding object_removed cut_to_zero entry_of volume
dropped_storage g img p x b h st =
    ap (λ (f : Found). cut (cut_to_zero (volume g img) img (entry_of f))) h ∙ ap cut (ap (λ (t : Bool). cond t (resized (volume g img) img x 0) img) st)
  where
    cut : Bytes → Bytes
    cut i = entry_removed (volume (volume g img).geometry i) i p

without_cut : (st : State) (p : Path) → without_object (with_rows st (length_rows p 0 st.rows)) p ≡ without_object st p
unfolding without_object with_rows state
without_cut st p = ap (λ (rs : List Row). state st.setting rs (without (same_path (names p)) st.storages) (suc st.blank_count)) (without_changed p (fit 0) st.rows)

module _ (g : Geometry) (pos : 0 < g.sector_bytes) (fr : Frame g) (img : Bytes) (acc : Accepted g img) where
  -- an object that has no units
  erase_path : (p : Path) (q : MayRemove (volume g img).directory p) → (is_stream ((volume g img).directory.entry q.x) ≡ true → stream_size (volume g img) q.x ≡ 0)
      → Next g img (entry_removed (volume g img) img p) (without_object (state_in g img) p)
  erase_path p q bare =
      let d = (volume g img).directory in
      let good = accepted_good g img pos acc in
      let k = parent_of d p q in
      subst (λ (i : Bytes). Next g img i (without_object (state_in g img) p)) (removed_image (volume g img) img p k.s k.t q.x q.b k.parent q.found)
      (erase_next g pos fr img acc (erasing g fr img acc good p q bare) p (own_path_lem g fr img acc good p q bare))

-- nothing needs no room
pub cut_room : (g : Geometry) (fs fm old : ℕ) → too_few g fs fm old 0 ≡ false
unfolding too_few sector_need mini_need cutoff round_up mini_bytes
cut_room g fs fm old = rw (le-ltb (sector_need g old + fs) 0 (omega arith), le-ltb (mini_need old + fm) 0 (omega arith))

module _ (g : Geometry) (pos : 0 < g.sector_bytes) (fr : Frame g) (img : Bytes) (acc : Accepted g img) where
  -- a stream is cut to 0 first
  cut_step : (p : Path) (q : MayRemove (volume g img).directory p) → is_stream ((volume g img).directory.entry q.x) ≡ true
      → Step g img (resized (volume g img) img q.x 0) (length_rows p 0 (rows_of g img))
  cut_step p q st =
      length_step g pos fr img acc p 0 (stream_found_lem (volume g img).directory p q.x q.b q.found st) (cut_within (stream_size (volume g img) q.x))
      (cut_room g _ _ (stream_size (volume g img) q.x))

  -- what the entry is taken from, be it a stream's or not
  pub cut_left : (p : Path) (q : MayRemove (volume g img).directory p) → Cut g img (cut_to_zero (volume g img) img q.x)
  unfolding cut_to_zero
  cut_left p q =
      elim (either (is_stream ((volume g img).directory.entry q.x))) [
        | inl st ↦ let k = cut_step p q st in rw st (record { accepted = k.accepted; kept = k.kept; alike = k.alike })
        | inr st ↦ rw st (record { accepted = acc; kept = preserved_itself g img acc; alike = alike_itself (volume g img) })
      ]

  cut_size : (p : Path) (q : MayRemove (volume g img).directory p) → is_stream ((volume g img).directory.entry q.x) ≡ true
      → stream_size (volume g (resized (volume g img) img q.x 0)) q.x ≡ 0
  cut_size p q st =
      let v = volume g img in
      let x = q.x in
      elim (ℕ_discrete 0 (stream_size v x)) [
        | yes z ↦ ap (λ (i : Bytes). stream_size (volume g i) x) (resized_same v img x 0 z) ∙ sym z
        | no z ↦
            (fr.resizing img x 0
            (length_may g pos fr img acc p 0 (stream_found_lem v.directory p x q.b q.found st) (cut_within (stream_size v x)) (cut_room g _ _ (stream_size v x)) z)
            ).size
      ]

  stream_next : (p : Path) (q : MayRemove (volume g img).directory p) → is_stream ((volume g img).directory.entry q.x) ≡ true
      → Next g img (object_removed (volume g img) img p) (without_object (state_in g img) p)
  unfolding state_in
  stream_next p q st =
      let d = (volume g img).directory in
      let cut = resized (volume g img) img q.x 0 in
      let k = cut_step p q st in
      let e = (volume g cut).directory in
      let f = resolve_same d e k.alike p ∙ q.found in
      let st₂ : is_stream (e.entry q.x) ≡ true = ap (λ (m : ℕ). eqb m 2) (k.alike.kind q.x) ∙ st in
      let gone : MayRemove e p = record {
        x = q.x;
        b = q.b;
        formed = q.formed;
        found = f;
        below = λ so. absurd (omega (arith, eqb-true (kind (e.entry q.x)) 1 so, eqb-true (kind (e.entry q.x)) 2 st₂));
        real = q.real;
      } in
      let n = erase_path g pos fr cut k.accepted p gone (λ so. cut_size p q st) in
      let m = step_next g img cut (length_rows p 0 (rows_of g img)) k in
      subst₂ (λ (i : Bytes) (s : State). Next g img i s) (sym (dropped_stream g img p q.x q.b q.found st))
      (ap (λ (s : State). without_object s p) m.state ∙ without_cut (state_in g img) p) (record { accepted = n.accepted; kept = preserved_trans k.kept n.kept; state = n.state })

  pub remove_answered_0 : (p : Path) (work : List ℕ) → answer g img (remove p work) ≡ 0
      → Next g img (object_removed (volume g img) img p) (without_object (state_in g img) p)
  remove_answered_0 p work a =
      let d = (volume g img).directory in
      let q = may_remove_lem d p (remove_answer_is g img p work a) in
      elim (either (is_stream (d.entry q.x))) [
        | inl st ↦ stream_next p q st
        | inr st ↦ subst (λ (i : Bytes). Next g img i (without_object (state_in g img) p)) (sym (dropped_storage g img p q.x q.b q.found st)) (erase_path g pos fr img acc p q (λ so. absurd (clash so st)))
      ]
