-- The next call on an accepted image answers 0, and 26, exactly if the rows say so.
use Prim.Native.Nat.{ℕ, ◌+◌, ◌≤◌, ◌<◌}
use mathlib.Core.Path.{◌≡◌, refl, sym, ap, ap₂, ◌∙◌}
use mathlib.Core.Logic.{◌≢◌, ◌↔◌}
use mathlib.Core.Bool.{Bool, true, false, not, cond, ◌&&◌, and-false}
use mathlib.Core.List.{List}
use native.Mathlib.Omega.{arith}
use lib.Dec.{ltb, leb}
use lib.ListN.{length}
use Rattle.format.specs.Basics.Bytes.{Bytes}
use Rattle.format.specs.Layout.Geometry.{Geometry}
use Rattle.format.specs.Layout.Space.{free_units}
use Rattle.format.specs.Layout.Entry.{is_stream}
use Rattle.format.specs.Layout.Tree.{Forest}
use Rattle.format.specs.Layout.Volume.{Volume, volume, directory}
use Rattle.format.specs.Layout.Stream.{stream_size}
use Rattle.format.specs.Rules.Length.{work_need}
use Rattle.format.specs.Rules.Verdict.{Accepted}
use Rattle.format.specs.Calls.Answer.{first_of, target, target_answer, beyond, length_answer, answer_in, answer}
use Rattle.format.specs.Calls.Paths.{Path}
use Rattle.format.specs.Calls.Find.{Found, at, refused, resolve, resolve_stream, answer_of, entry_of}
use Rattle.format.specs.Calls.SetLength.{too_few}
use Rattle.format.specs.Calls.Listing.{listing}
use Rattle.format.specs.Calls.Cursor.{stream_answer}
use Rattle.format.specs.Calls.Call.{Call, validate, find, read, overwrite, set_length, create, remove, list, read_at, work_of}
use Rattle.format.specs.History.Rows.{Row, rows_of, has_row, row_length}
use Rattle.format.specs.History.Setting.{Setting, setting_of}
use Rattle.format.specs.History.State.{State, state_in}
use Rattle.format.specs.History.Accepts.{reaches_row, lacks_room, accepts, answers26}
use Rattle.format.specs.History.Claim.{is_edit}
use Rattle.theory.proofs.Tests.{leb_not, clash}
use Rattle.theory.proofs.Refusals.{RefusedLow, resolve_low, resolve_stream_low}
use Rattle.frame.specs.Good.{Good}
use Rattle.frame.proofs.Accepted.{verdict_accepted}
use Rattle.frame.proofs.Good.{accepted_good}
use Rattle.frame.proofs.EntryFacts.{root_plain_lem}
use Rattle.history.proofs.Filled.{Sized}
use Rattle.history.proofs.Finding.{refused_has_no_row, has_row_lem, row_length_lem}
use Rattle.history.proofs.CreateAnswer.{create_iff, create_not_26}
use Rattle.history.proofs.RemoveAnswer.{remove_iff, remove_not_26}
use Rattle.history.proofs.AnswerNumbers.{cond_not_26, first_not_26, iff_along, iff_never, length_26_iff, length_zero_iff, work_first_not_26, refused_not_0_26, refused_not_26, write_zero_iff}
use Rattle.history.proofs.Room.{free_minis_lem, free_sectors_lem}

module _ (g : Geometry) (pos : 0 < g.sector_bytes) (img : Bytes) (acc : Accepted g img) (sized : Sized (volume g img) img) where
  abbrev v : Volume
  v = volume g img

  abbrev rows : List Row
  rows = rows_of g img

  abbrev s : Setting
  s = setting_of g img

  abbrev st : State
  st = state_in g img

  abbrev work_fits : List ℕ → Bool
  work_fits work = leb (work_need (length img)) (length work)

  abbrev good : Good v
  good = accepted_good g img pos acc

  root_plain : is_stream (v.directory.entry 0) ≡ false
  root_plain = root_plain_lem g img good

  pub write_answer : (p : Path) (offset : ℕ) (bytes : Bytes) (work : List ℕ) (f : Found) → resolve_stream v.directory p ≡ f →
      answer g img (overwrite p offset bytes work) ≡ first_of (cond (work_fits work) 0 2)
      (first_of (answer_of f) (cond (ltb (stream_size v (entry_of f)) (offset + length bytes)) 24 0))
  unfolding answer answer_in work_of target target_answer beyond
  write_answer p offset bytes work f e = rw (verdict_accepted g img (length work) acc, e)

  pub length_answer_lem : (p : Path) (new : ℕ) (work : List ℕ) (f : Found) → resolve_stream v.directory p ≡ f →
      answer g img (set_length p new work) ≡ first_of (cond (work_fits work) 0 2) (first_of (answer_of f)
      (cond (too_few g (length (free_units v.sectors)) (length (free_units v.minis)) (stream_size v (entry_of f)) new) 26 0))
  unfolding answer answer_in work_of target target_answer length_answer
  length_answer_lem p new work f e = rw (verdict_accepted g img (length work) acc, e)

  -- what the rows say of the same call
  rows_say : (p : Path) (e : ℕ) (b : Forest) → resolve_stream v.directory p ≡ at e b → (k : Bool → ℕ → Bool) →
      k (has_row rows p) (row_length rows p) ≡ k true (stream_size v e)
  unfolding rows_of
  rows_say p e b f k = ap₂ k (has_row_lem v img good sized root_plain p f) (row_length_lem v img good sized root_plain p f)

  refused_no_row : (p : Path) (n : ℕ) → resolve_stream v.directory p ≡ refused n → has_row rows p ≡ false
  unfolding rows_of
  refused_no_row p n f = refused_has_no_row v img good sized root_plain p n f

  write_accepts : (p : Path) (offset : ℕ) (bytes : Bytes) (work : List ℕ) (e : ℕ) (b : Forest) → resolve_stream v.directory p ≡ at e b →
      accepts st (overwrite p offset bytes work) ≡ (work_fits work && true && not (ltb (stream_size v e) (offset + length bytes)))
  unfolding accepts reaches_row rows_of setting_of state_in
  write_accepts p offset bytes work e b f =
      rw (has_row_lem v img good sized root_plain p f, row_length_lem v img good sized root_plain p f, leb_not (offset + length bytes) (stream_size v e))

  lacks_found : (p : Path) (new e : ℕ) (b : Forest) → resolve_stream v.directory p ≡ at e b →
      lacks_room s rows p new ≡ too_few g (length (free_units v.sectors)) (length (free_units v.minis)) (stream_size v e) new
  unfolding lacks_room rows_of setting_of
  lacks_found p new e b f =
      ap₂ (λ a b. too_few g a b (row_length rows p) new) (free_sectors_lem g pos img acc sized) (free_minis_lem g pos img acc sized)
      ∙ ap (λ n. too_few g (length (free_units v.sectors)) (length (free_units v.minis)) n new) (row_length_lem v img good sized root_plain p f)

  length_accepts : (p : Path) (new : ℕ) (work : List ℕ) (e : ℕ) (b : Forest) → resolve_stream v.directory p ≡ at e b →
      accepts st (set_length p new work) ≡ (work_fits work && true && not (too_few g (length (free_units v.sectors)) (length (free_units v.minis)) (stream_size v e) new))
  unfolding accepts reaches_row setting_of state_in
  length_accepts p new work e b f =
      rw (lacks_found p new e b f) (rows_say p e b f (λ h n. work_fits work && h && not (too_few g (length (free_units v.sectors)) (length (free_units v.minis)) (stream_size v e) new)))

  length_answers26 : (p : Path) (new : ℕ) (work : List ℕ) (e : ℕ) (b : Forest) → resolve_stream v.directory p ≡ at e b →
      answers26 st (set_length p new work) ≡ (work_fits work && true && too_few g (length (free_units v.sectors)) (length (free_units v.minis)) (stream_size v e) new)
  unfolding answers26 reaches_row setting_of state_in
  length_answers26 p new work e b f =
      rw (lacks_found p new e b f) (rows_say p e b f (λ h n. work_fits work && h && too_few g (length (free_units v.sectors)) (length (free_units v.minis)) (stream_size v e) new))

  found_write : (offset : ℕ) (bytes : Bytes) (work : List ℕ) (e : ℕ) (b : Forest) →
      first_of (cond (work_fits work) 0 2) (first_of (answer_of (at e b)) (cond (ltb (stream_size v (entry_of (at e b))) (offset + length bytes)) 24 0))
      ≡ first_of (cond (work_fits work) 0 2) (cond (ltb (stream_size v e) (offset + length bytes)) 24 0)
  unfolding first_of answer_of entry_of
  found_write offset bytes work e b = refl

  found_length : (new : ℕ) (work : List ℕ) (e : ℕ) (b : Forest) →
      first_of (cond (work_fits work) 0 2) (first_of (answer_of (at e b))
      (cond (too_few g (length (free_units v.sectors)) (length (free_units v.minis)) (stream_size v (entry_of (at e b))) new) 26 0))
      ≡ first_of (cond (work_fits work) 0 2) (cond (too_few g (length (free_units v.sectors)) (length (free_units v.minis)) (stream_size v e) new) 26 0)
  unfolding first_of answer_of entry_of
  found_length new work e b = refl

  refused_write : (offset : ℕ) (bytes : Bytes) (work : List ℕ) (n : ℕ) → (20 ≤ n) × (n ≤ 23) →
      first_of (cond (work_fits work) 0 2) (first_of (answer_of (refused n)) (cond (ltb (stream_size v (entry_of (refused n))) (offset + length bytes)) 24 0)) ≢ 0
  unfolding answer_of
  refused_write offset bytes work n l = (refused_not_0_26 (work_fits work) n (cond (ltb (stream_size v (entry_of (refused n))) (offset + length bytes)) 24 0) l.0 l.1).0

  refused_length : (new : ℕ) (work : List ℕ) (n : ℕ) → (20 ≤ n) × (n ≤ 23) →
      (first_of (cond (work_fits work) 0 2) (first_of (answer_of (refused n))
      (cond (too_few g (length (free_units v.sectors)) (length (free_units v.minis)) (stream_size v (entry_of (refused n))) new) 26 0)) ≢ 0)
      × (first_of (cond (work_fits work) 0 2) (first_of (answer_of (refused n))
      (cond (too_few g (length (free_units v.sectors)) (length (free_units v.minis)) (stream_size v (entry_of (refused n))) new) 26 0)) ≢ 26)
  unfolding answer_of
  refused_length new work n l =
      refused_not_0_26 (work_fits work) n (cond (too_few g (length (free_units v.sectors)) (length (free_units v.minis)) (stream_size v (entry_of (refused n))) new) 26 0) l.0 l.1

  unreached_write : (p : Path) (offset : ℕ) (bytes : Bytes) (work : List ℕ) → reaches_row s rows p work ≡ false → accepts st (overwrite p offset bytes work) ≡ false
  unfolding accepts state_in
  unreached_write p offset bytes work h = rw h

  unreached_length : (p : Path) (new : ℕ) (work : List ℕ) → reaches_row s rows p work ≡ false →
      (accepts st (set_length p new work) ≡ false) × (answers26 st (set_length p new work) ≡ false)
  unfolding accepts answers26 state_in
  unreached_length p new work h = (rw h, rw h)

  -- a path that leads nowhere
  refused_unreached : (p : Path) (n : ℕ) → resolve_stream v.directory p ≡ refused n → (work : List ℕ) → reaches_row s rows p work ≡ false
  unfolding reaches_row
  refused_unreached p n f work = rw (refused_no_row p n f) (and-false (leb s.work (length work)))

  write_iff : (p : Path) (offset : ℕ) (bytes : Bytes) (work : List ℕ) (f : Found) → resolve_stream v.directory p ≡ f → RefusedLow f →
      (answer g img (overwrite p offset bytes work) ≡ 0) ↔ (accepts st (overwrite p offset bytes work) ≡ true)
  write_iff p offset bytes work (at e b) h l =
      iff_along (answer g img (overwrite p offset bytes work)) _ (accepts st (overwrite p offset bytes work)) _ 0
      (write_answer p offset bytes work (at e b) h ∙ found_write offset bytes work e b) (write_accepts p offset bytes work e b h)
      (write_zero_iff (work_fits work) (ltb (stream_size v e) (offset + length bytes)))
  write_iff p offset bytes work (refused n) h l =
      iff_never (answer g img (overwrite p offset bytes work)) 0 (accepts st (overwrite p offset bytes work))
      (λ z. refused_write offset bytes work n l (sym (write_answer p offset bytes work (refused n) h) ∙ z))
      (unreached_write p offset bytes work (refused_unreached p n h work))

  length_iff : (p : Path) (new : ℕ) (work : List ℕ) (f : Found) → resolve_stream v.directory p ≡ f → RefusedLow f →
      ((answer g img (set_length p new work) ≡ 0) ↔ (accepts st (set_length p new work) ≡ true))
      × ((answer g img (set_length p new work) ≡ 26) ↔ (answers26 st (set_length p new work) ≡ true))
  length_iff p new work (at e b) h l =
      let t = too_few g (length (free_units v.sectors)) (length (free_units v.minis)) (stream_size v e) new in
      let a = length_answer_lem p new work (at e b) h ∙ found_length new work e b in (
        iff_along (answer g img (set_length p new work)) _ (accepts st (set_length p new work)) _ 0 a (length_accepts p new work e b h)
            (length_zero_iff (work_fits work) t),
        iff_along (answer g img (set_length p new work)) _ (answers26 st (set_length p new work)) _ 26 a (length_answers26 p new work e b h)
            (length_26_iff (work_fits work) t),
      )
  length_iff p new work (refused n) h l =
      let a = length_answer_lem p new work (refused n) h in
      let r = refused_unreached p n h work in (
        iff_never (answer g img (set_length p new work)) 0 (accepts st (set_length p new work)) (λ z. (refused_length new work n l).0 (sym a ∙ z))
            (unreached_length p new work r).0,
        iff_never (answer g img (set_length p new work)) 26 (answers26 st (set_length p new work)) (λ z. (refused_length new work n l).1 (sym a ∙ z))
            (unreached_length p new work r).1,
      )

  pub answers_0_iff : (c : Call) → is_edit c ≡ true → (answer g img c ≡ 0) ↔ (accepts st c ≡ true)
  unfolding is_edit
  answers_0_iff (validate work) h = absurd (clash h refl)
  answers_0_iff (find p work) h = absurd (clash h refl)
  answers_0_iff (read p offset out work) h = absurd (clash h refl)
  answers_0_iff (overwrite p offset bytes work) h = write_iff p offset bytes work (resolve_stream v.directory p) refl (resolve_stream_low v.directory p)
  answers_0_iff (set_length p new work) h = (length_iff p new work (resolve_stream v.directory p) refl (resolve_stream_low v.directory p)).0
  answers_0_iff (create made p work) h = create_iff g pos img acc sized made p work
  answers_0_iff (remove p work) h = remove_iff g pos img acc sized p work
  answers_0_iff (list out work) h = absurd (clash h refl)
  answers_0_iff (read_at entry position out work) h = absurd (clash h refl)

  other_not_26 : (c : Call) → (n : ℕ) → answer_in g v c ≡ n → n ≢ 26 → answer g img c ≢ 26
  unfolding answer
  other_not_26 c n e h z =
      work_first_not_26 (leb (work_need (length img)) (length (work_of c))) n h (sym (ap₂ first_of (verdict_accepted g img (length (work_of c)) acc) e) ∙ z)

  pub answers_26_iff : (c : Call) → (answer g img c ≡ 26) ↔ (answers26 st c ≡ true)
  unfolding answers26 answer_in target_answer beyond stream_answer
  answers_26_iff (validate work) = iff_never _ 26 false (other_not_26 (validate work) 0 refl (omega arith)) refl
  answers_26_iff (find p work) = iff_never _ 26 false (other_not_26 (find p work) _ refl (refused_not_26 (resolve v.directory p) (resolve_low v.directory p))) refl
  answers_26_iff (read p offset out work) =
      iff_never _ 26 false (other_not_26 (read p offset out work) _ refl
      (first_not_26 (answer_of (resolve_stream v.directory p)) _ (refused_not_26 (resolve_stream v.directory p) (resolve_stream_low v.directory p))
      (cond_not_26 (ltb (stream_size v (target v p)) offset) 24 0 (omega arith) (omega arith)))) refl
  answers_26_iff (overwrite p offset bytes work) =
      iff_never _ 26 false (other_not_26 (overwrite p offset bytes work) _ refl
      (first_not_26 (answer_of (resolve_stream v.directory p)) _ (refused_not_26 (resolve_stream v.directory p) (resolve_stream_low v.directory p))
      (cond_not_26 (ltb (stream_size v (target v p)) (offset + length bytes)) 24 0 (omega arith) (omega arith)))) refl
  answers_26_iff (set_length p new work) = (length_iff p new work (resolve_stream v.directory p) refl (resolve_stream_low v.directory p)).1
  answers_26_iff (create made p work) = iff_never _ 26 false (other_not_26 (create made p work) _ refl (create_not_26 v.directory p)) refl
  answers_26_iff (remove p work) = iff_never _ 26 false (other_not_26 (remove p work) _ refl (remove_not_26 v.directory (resolve v.directory p) (resolve_low v.directory p))) refl
  answers_26_iff (list out work) =
      iff_never _ 26 false (other_not_26 (list out work) _ refl (cond_not_26 (ltb (length out) (length (listing v.directory))) 27 0 (omega arith) (omega arith))) refl
  answers_26_iff (read_at entry position out work) =
      iff_never _ 26 false (other_not_26 (read_at entry position out work) _ refl
      (first_not_26 (stream_answer v entry) _
      (cond_not_26 (ltb entry v.directory.count && is_stream (v.directory.entry entry)) 0 33 (omega arith) (omega arith))
      (cond_not_26 (ltb (stream_size v entry) position) 24 0 (omega arith) (omega arith)))) refl
