-- A create answers 0 exactly if the state says so, and never 26.
use Prim.Native.Nat.{ℕ, zero, suc, ◌<◌}
use mathlib.Core.Path.{◌≡◌, refl, sym, ◌∙◌}
use mathlib.Core.Logic.{◌≢◌, ◌↔◌}
use mathlib.Core.Bool.{Bool, true, false, not, cond, ◌&&◌}
use mathlib.Core.List.{List}
use native.Mathlib.Omega.{arith}
use lib.Dec.{eqb, ltb, leb}
use lib.ListN.{length}
use borrow.Author.Tests.{ne_eqb, lt-ltb}
use Rattle.format.specs.Basics.Bytes.{Bytes}
use Rattle.format.specs.Layout.Geometry.{Geometry}
use Rattle.format.specs.Layout.Entry.{is_stream}
use Rattle.format.specs.Layout.Directory.{Directory, blanks}
use Rattle.format.specs.Layout.Volume.{volume, directory}
use Rattle.format.specs.Rules.Length.{work_need}
use Rattle.format.specs.Rules.Verdict.{Accepted}
use Rattle.format.specs.Calls.Answer.{first_of, answer, answer_in, create_answer}
use Rattle.format.specs.Calls.Paths.{Path, names, well_formed, names_before}
use Rattle.format.specs.Calls.Find.{Found, at as found_at, refused, resolve, descend, answer_of, need_parent, resolve_parent}
use Rattle.format.specs.Calls.Create.{NewKind}
use Rattle.format.specs.Calls.Call.{create, work_of}
use Rattle.format.specs.History.Rows.{rows_of, has_row}
use Rattle.format.specs.History.Setting.{setting_of}
use Rattle.format.specs.History.Storages.{storages_of, blank_count_of, is_storage_or_root}
use Rattle.format.specs.History.State.{state_in}
use Rattle.format.specs.History.Accepts.{accepts, may_create}
use Rattle.theory.specs.TreeFind.{reached}
use Rattle.theory.proofs.Refusals.{RefusedLow, resolve_low, descend_low, parent_low}
use Rattle.theory.proofs.Trees.Paths.{resolve_formed, parent_formed, parent_malformed}
use Rattle.frame.proofs.Accepted.{verdict_accepted}
use Rattle.history.proofs.Filled.{Sized}
use Rattle.history.proofs.AnswerNumbers.{cond_not_26, first_not_26, refused_not_26, zero_iff, low_not_0, low_first_not_0}
use Rattle.history.proofs.StateFound.{stream_found, place_found, row_found, place_found_lem}

pub create_not_26 : (d : Directory) (p : Path) → create_answer d (resolve_parent d p) (resolve d p) ≢ 26
unfolding create_answer
create_not_26 d p =
    first_not_26 (answer_of (resolve_parent d p)) _ (refused_not_26 (resolve_parent d p) (parent_low d p))
    (cond_not_26 (eqb (answer_of (resolve d p)) 0) 29 _ (omega arith) (cond_not_26 (eqb (length (blanks d)) 0) 30 0 (omega arith) (omega arith)))

bad_first : (m : ℕ) → eqb (first_of (answer_of (refused 20)) m) 0 ≡ false
unfolding first_of answer_of
bad_first m = refl

some_blank : (m : ℕ) → eqb (cond {A = ℕ} (eqb m 0) 30 0) 0 ≡ ltb 0 m
some_blank zero = refl
some_blank (suc m) = rw (ne_eqb (suc m) 0 (λ z. omega arith)) (sym (lt-ltb 0 (suc m) (omega arith)))

and_four : (a b c e f : Bool) → (a && b && c && e && f) ≡ (a && (b && (c && e && f)))
and_four true true c e f = refl
and_four true false c e f = refl
and_four false b c e f = refl

module _ (g : Geometry) (pos : 0 < g.sector_bytes) (img : Bytes) (acc : Accepted g img) (sized : Sized (volume g img) img) where
  abbrev d : Directory
  d = (volume g img).directory

  blanks_are : blank_count_of g img ≡ length (blanks d)
  unfolding blank_count_of volume
  blanks_are = refl

  module _ (p : Path) where
    -- what the answer and the state say after the parent
    abbrev later : ℕ
    later = cond (eqb (answer_of (resolve d p)) 0) 29 (cond (eqb (length (blanks d)) 0) 30 0)

    abbrev rest : Bool
    rest = not (has_row (rows_of g img) p) && not (is_storage_or_root (storages_of g img) (names p)) && ltb 0 (blank_count_of g img)

    absent_bool : well_formed p ≡ true → (r : Found) → resolve d p ≡ r → RefusedLow r
        → eqb (cond (eqb (answer_of r) 0) 29 (cond {A = ℕ} (eqb (length (blanks d)) 0) 30 0)) 0 ≡ rest
    unfolding answer_of stream_found place_found
    absent_bool w (found_at e b) h l =
        rw (row_found g pos img acc sized p (found_at e b) h, place_found_lem g pos img acc sized (names p) (found_at e b) (sym (resolve_formed d p w) ∙ h)) (go (is_stream (d.entry e)))
      where
        go : (t : Bool) → false ≡ (not t && not (not t) && ltb 0 (blank_count_of g img))
        go true = refl
        go false = refl
    absent_bool w (refused a) h l =
        rw (
          row_found g pos img acc sized p (refused a) h,
          place_found_lem g pos img acc sized (names p) (refused a) (sym (resolve_formed d p w) ∙ h),
          low_not_0 a l.0,
          blanks_are,
        )
        (some_blank (length (blanks d)))

    parent_bool : well_formed p ≡ true → (f : Found) → RefusedLow f → eqb (first_of (answer_of (need_parent d f)) later) 0 ≡ (place_found d f && rest)
    unfolding need_parent answer_of place_found first_of
    parent_bool w (found_at s b) l = go (is_stream (d.entry s))
      where
        go : (t : Bool) → eqb (first_of (answer_of (cond t (refused 22) (found_at s b))) later) 0 ≡ (not t && rest)
        go true = refl
        go false = absent_bool w (resolve d p) refl (resolve_low d p)
    parent_bool w (refused a) l = low_first_not_0 a later l.0

    create_bool : eqb (create_answer d (resolve_parent d p) (resolve d p)) 0 ≡ may_create (state_in g img) p
    unfolding create_answer may_create state_in
    create_bool =
        go (well_formed p) refl
        ∙ sym (and_four (well_formed p) (is_storage_or_root (storages_of g img) (names_before p)) (not (has_row (rows_of g img) p)) (not (is_storage_or_root (storages_of g img) (names p))) (ltb 0 (blank_count_of g img)))
      where
        go : (t : Bool) → well_formed p ≡ t
            → eqb (first_of (answer_of (resolve_parent d p)) later) 0 ≡ (well_formed p && (is_storage_or_root (storages_of g img) (names_before p) && rest))
        go false w = rw (w, parent_malformed d p w) (bad_first later)
        go true w =
            let f = descend d (reached d 0) (names_before p) in
            rw (w, parent_formed d p w, place_found_lem g pos img acc sized (names_before p) f refl) (parent_bool w f (descend_low d (names_before p) (reached d 0) tt))

  pub create_iff : (made : NewKind) (p : Path) (work : List ℕ) → (answer g img (create made p work) ≡ 0) ↔ (accepts (state_in g img) (create made p work) ≡ true)
  unfolding answer answer_in work_of accepts state_in setting_of
  create_iff made p work =
      rw (verdict_accepted g img (length work) acc)
      (zero_iff (leb (work_need (length img)) (length work)) (create_answer d (resolve_parent d p) (resolve d p)) (may_create (state_in g img) p) (create_bool p))
