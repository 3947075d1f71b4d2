-- A call on an opened volume: its answer is 0, or 20 or more, and its reply is what comes after validation.
use Prim.Native.Nat.{ℕ, zero, suc, ◌+◌, ◌≤◌}
use mathlib.Core.Path.{◌≡◌, refl, sym, ◌∙◌}
use mathlib.Core.Logic.{◌⊎◌, inl, inr, ⊎_elim}
use mathlib.Core.Bool.{Bool, true, false, not, cond, ◌&&◌}
use mathlib.Core.List.{List}
use native.Mathlib.Omega.{arith}
use borrow.Author.Tests.{le-leb}
use lib.Dec.{eqb, ltb, leb}
use lib.ListN.{length}
use Rattle.std.proofs.Common.{Ok}
use Rattle.format.specs.Basics.Bytes.{Bytes}
use Rattle.format.specs.Layout.Geometry.{Geometry}
use Rattle.format.specs.Layout.Entry.{is_storage, is_stream}
use Rattle.format.specs.Layout.Directory.{Directory, blanks}
use Rattle.format.specs.Layout.Tree.{is_empty}
use Rattle.format.specs.Layout.Volume.{Volume, volume}
use Rattle.format.specs.Rules.Length.{length_allowed, work_need}
use Rattle.format.specs.Rules.Verdict.{check, groups, verdict, Accepted}
use Rattle.format.specs.Layout.Space.{free_units}
use Rattle.format.specs.Layout.Stream.{stream_size}
use Rattle.format.specs.Calls.Paths.{Path}
use Rattle.format.specs.Calls.SetLength.{too_few}
use Rattle.format.specs.Calls.Listing.{listing}
use Rattle.format.specs.Calls.Find.{Found, at, refused, answer_of, resolve, resolve_stream, resolve_parent}
use Rattle.format.specs.Calls.Call.{Call, validate, find, read, overwrite, set_length, create, remove, list, read_at, work_of}
use Rattle.format.specs.Calls.Cursor.{stream_answer}
use Rattle.format.specs.Calls.Answer.{first_of, target, target_answer, beyond, length_answer, create_answer, remove_answer, answer_in, answer}
use Rattle.format.specs.Calls.Reply.{reply_by}
use Rattle.format.specs.Calls.Buffers.{work_cleared, image_after_by, out_after_by, work_after_by}
use Rattle.theory.proofs.Refusals.{RefusedLow, resolve_low, resolve_stream_low, parent_low}
use Rattle.tables.specs.Work.{Wrote}
use Rattle.frame.proofs.Accepted.{accepted_kept}
use Rattle.volume.specs.Opened.{OpenedRight}
use Rattle.volume.specs.declared.Volume.{Volume as Place}
use Rattle.volume.proofs.Opening.{left_cleared}
use Rattle.queries.specs.Inside.{Open, reply_in, out_in, image_in}
use Rattle.opened.proofs.Validated.{left_is}

-- ---- answers after validation

abbrev pub Late : ℕ → Type 0
Late n = (n ≡ 0) ⊎ (20 ≤ n)

pub late_either : (b : Bool) (m n : ℕ) → Late m → Late n → Late (cond b m n)
late_either true m n h k = h
late_either false m n h k = k

pub late_first : (m n : ℕ) → Late m → Late n → Late (first_of m n)
unfolding first_of
late_first zero n h k = k
late_first (suc m) n h k = h

late_found : (f : Found) → RefusedLow f → Late (answer_of f)
unfolding answer_of
late_found (at e b) h = inl refl
late_found (refused a) h = inr h.0

late_beyond : (size place : ℕ) → Late (beyond size place)
unfolding beyond
late_beyond size place = late_either (ltb size place) 24 0 (inr (omega arith)) (inl refl)

late_length : (g : Geometry) (v : Volume) (old new : ℕ) → Late (length_answer g v old new)
unfolding length_answer
late_length g v old new = late_either (too_few g (length (free_units v.sectors)) (length (free_units v.minis)) old new) 26 0 (inr (omega arith)) (inl refl)

late_target : (v : Volume) (p : Path) → Late (target_answer v p)
unfolding target_answer
late_target v p = late_found (resolve_stream v.directory p) (resolve_stream_low v.directory p)

late_create : (d : Directory) (p : Path) → Late (create_answer d (resolve_parent d p) (resolve d p))
unfolding create_answer
late_create d p =
    late_first (answer_of (resolve_parent d p)) _ (late_found (resolve_parent d p) (parent_low d p))
    (late_either (eqb (answer_of (resolve d p)) 0) 29 _ (inr (omega arith)) (late_either (eqb (length (blanks d)) 0) 30 0 (inr (omega arith)) (inl refl)))

late_remove : (d : Directory) (f : Found) → RefusedLow f → Late (remove_answer d f)
unfolding remove_answer
late_remove d (at e b) h =
    late_either (is_storage (d.entry e) && not (is_empty b)) 28 _ (inr (omega arith)) (late_either (eqb e 0) 31 0 (inr (omega arith)) (inl refl))
late_remove d (refused a) h = inr h.0

late_stream : (v : Volume) (e : ℕ) → Late (stream_answer v e)
unfolding stream_answer
late_stream v e = late_either (ltb e v.directory.count && is_stream (v.directory.entry e)) 0 33 (inl refl) (inr (omega arith))

pub late : (g : Geometry) (v : Volume) (c : Call) → Late (answer_in g v c)
unfolding answer_in
late g v (validate work) = inl refl
late g v (find path work) = late_found (resolve v.directory path) (resolve_low v.directory path)
late g v (read path offset out work) = late_first (target_answer v path) (beyond (stream_size v (target v path)) offset) (late_target v path) (late_beyond (stream_size v (target v path)) offset)
late g v (overwrite path offset bytes work) =
    late_first (target_answer v path) (beyond (stream_size v (target v path)) (offset + length bytes)) (late_target v path) (late_beyond (stream_size v (target v path)) (offset + length bytes))
late g v (set_length path new work) = late_first (target_answer v path) (length_answer g v (stream_size v (target v path)) new) (late_target v path) (late_length g v (stream_size v (target v path)) new)
late g v (create made path work) = late_create v.directory path
late g v (remove path work) = late_remove v.directory (resolve v.directory path) (resolve_low v.directory path)
late g v (list out work) = late_either (ltb (length out) (length (listing v.directory))) 27 0 (inr (omega arith)) (inl refl)
late g v (read_at entry position out work) =
    late_first (stream_answer v entry) (beyond (stream_size v entry) position) (late_stream v entry) (late_beyond (stream_size v entry) position)

-- ---- the call, where the verdict is 0

module _ (g : Geometry) (img : Bytes) (c : Call) (h : verdict g img (length (work_of c)) ≡ 0) where
  pub answer_in_lem : answer g img c ≡ answer_in g (volume g img) c
  unfolding answer first_of
  answer_in_lem = rw h

  pub reply_in_lem : reply_by g img c ≡ reply_in g (volume g img) c
  unfolding reply_by reply_in
  reply_in_lem = rw answer_in_lem

  pub out_in_lem : out_after_by g img c ≡ out_in g (volume g img) img c
  unfolding out_after_by out_in
  out_in_lem = rw answer_in_lem

  pub image_in_lem : image_after_by g img c ≡ image_in g (volume g img) img c
  unfolding image_after_by image_in
  image_in_lem = rw answer_in_lem

  pub work_in : {w₁ w₂ : List ℕ} → Wrote (work_of c) w₁ 0 (work_need (length img)) → w₂ ≡ work_cleared (work_need (length img)) w₁ → w₂ ≡ work_after_by g img c
  work_in r e =
      let l = late g (volume g img) c in
      left_cleared (answer g img c) img (work_of c) (⊎_elim (λ z. omega (arith, z, answer_in_lem)) (λ z. omega (arith, z, answer_in_lem)) l) (⊎_elim (λ z. omega (arith, z, answer_in_lem)) (λ z. omega (arith, z, answer_in_lem)) l) r e
      ∙ sym (left_is g img c)

-- ---- what an opened volume is

-- no matter how long the work buffer is
accepted_any : (g : Geometry) (img : Bytes) (n : ℕ) → verdict g img n ≡ 0 → Accepted g img
unfolding verdict check
accepted_any g img n h = go (length_allowed g (length img)) (leb (work_need (length img)) n) h
  where
    go : (a b : Bool) → check a 1 (check b 2 (groups g img)) ≡ 0 → check a 1 (check (leb (work_need (length img)) (work_need (length img))) 2 (groups g img)) ≡ 0
    go true true e = rw (le-leb (work_need (length img)) (work_need (length img)) (omega arith)) e
    go true false e = absurd (omega (arith, e))
    go false b e = absurd (omega (arith, e))

pub ready_open : (g : Geometry) (img : Bytes) (w w₁ : List ℕ) (v : Place) → OpenedRight g img w w₁ (Ok v) → Open v img w₁
ready_open g img w w₁ v o =
    let a = accepted_kept g img (accepted_any g img (length w) o.0) in
    record { ready = o.1.1.0; groups = rw o.1.0 a }
