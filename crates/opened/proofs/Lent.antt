-- What the work buffer holds is no part of what a call gives and leaves; and an edit gives no value, so its reply is its number.
use Prim.Native.Nat.{ℕ}
use mathlib.Core.Path.{◌≡◌, refl, sym, ◌∙◌, ap}
use mathlib.Core.Bool.{true}
use mathlib.Core.List.{List}
use Rattle.format.specs.Basics.Bytes.{Bytes}
use Rattle.format.specs.Layout.Geometry.{Geometry}
use Rattle.format.specs.Layout.Volume.{Volume}
use Rattle.format.specs.Calls.Call.{Call, validate, find, read, overwrite, set_length, create, remove, list, read_at, work_of, out_of}
use Rattle.format.specs.Calls.Answer.{answer_in}
use Rattle.format.specs.Calls.Reply.{plain, done}
use Rattle.format.specs.Calls.Buffers.{edited, handed_out}
use Rattle.format.specs.History.Claim.{is_edit}
use Rattle.theory.proofs.Tests.{clash}
use Rattle.queries.specs.Inside.{reply_in, out_in, image_in}
use Rattle.opened.specs.Sequence.{lent}
use Rattle.opened.proofs.Validated.{plain_either}

pub lent_work : (w : List ℕ) (c : Call) → work_of (lent w c) ≡ w
unfolding lent work_of
lent_work w (validate work) = refl
lent_work w (find path work) = refl
lent_work w (read path offset out work) = refl
lent_work w (overwrite path offset bytes work) = refl
lent_work w (set_length path new work) = refl
lent_work w (create made path work) = refl
lent_work w (remove path work) = refl
lent_work w (list out work) = refl
lent_work w (read_at entry position out work) = refl

pub lent_kept : (w : List ℕ) (c : Call) → out_of (lent w c) ≡ out_of c
unfolding lent out_of
lent_kept w (validate work) = refl
lent_kept w (find path work) = refl
lent_kept w (read path offset out work) = refl
lent_kept w (overwrite path offset bytes work) = refl
lent_kept w (set_length path new work) = refl
lent_kept w (create made path work) = refl
lent_kept w (remove path work) = refl
lent_kept w (list out work) = refl
lent_kept w (read_at entry position out work) = refl

module _ (g : Geometry) (v : Volume) where
  pub lent_reply : (w : List ℕ) (c : Call) → reply_in g v c ≡ reply_in g v (lent w c)
  unfolding lent reply_in answer_in done
  lent_reply w (validate work) = refl
  lent_reply w (find path work) = refl
  lent_reply w (read path offset out work) = refl
  lent_reply w (overwrite path offset bytes work) = refl
  lent_reply w (set_length path new work) = refl
  lent_reply w (create made path work) = refl
  lent_reply w (remove path work) = refl
  lent_reply w (list out work) = refl
  lent_reply w (read_at entry position out work) = refl

  pub lent_out : (img : Bytes) (w : List ℕ) (c : Call) → out_in g v img c ≡ out_in g v img (lent w c)
  unfolding lent out_in answer_in handed_out out_of
  lent_out img w (validate work) = refl
  lent_out img w (find path work) = refl
  lent_out img w (read path offset out work) = refl
  lent_out img w (overwrite path offset bytes work) = refl
  lent_out img w (set_length path new work) = refl
  lent_out img w (create made path work) = refl
  lent_out img w (remove path work) = refl
  lent_out img w (list out work) = refl
  lent_out img w (read_at entry position out work) = refl

  pub lent_image : (img : Bytes) (w : List ℕ) (c : Call) → image_in g v img c ≡ image_in g v img (lent w c)
  unfolding lent image_in answer_in edited
  lent_image img w (validate work) = refl
  lent_image img w (find path work) = refl
  lent_image img w (read path offset out work) = refl
  lent_image img w (overwrite path offset bytes work) = refl
  lent_image img w (set_length path new work) = refl
  lent_image img w (create made path work) = refl
  lent_image img w (remove path work) = refl
  lent_image img w (list out work) = refl
  lent_image img w (read_at entry position out work) = refl

  edit_done : (c : Call) → is_edit c ≡ true → done v c ≡ plain 0
  unfolding is_edit done
  edit_done (validate work) h = absurd (clash h refl)
  edit_done (find path work) h = absurd (clash h refl)
  edit_done (read path offset out work) h = absurd (clash h refl)
  edit_done (overwrite path offset bytes work) h = refl
  edit_done (set_length path new work) h = refl
  edit_done (create made path work) h = refl
  edit_done (remove path work) h = refl
  edit_done (list out work) h = absurd (clash h refl)
  edit_done (read_at entry position out work) h = absurd (clash h refl)

  pub edit_reply : (c : Call) → is_edit c ≡ true → {n : ℕ} → n ≡ answer_in g v c → plain n ≡ reply_in g v c
  unfolding reply_in
  edit_reply c h e = ap plain e ∙ sym (rw (edit_done c h) (plain_either (answer_in g v c)))
