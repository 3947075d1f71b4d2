-- A call on an opened volume: it gives and leaves what the plain call does, and the volume stays opened.
use Prim.Native.Nat.{ℕ, ◌≤◌, ◌<◌}
use mathlib.Core.Path.{◌≡◌, sym, ◌∙◌, ap, subst}
use mathlib.Core.Bool.{true, cond}
use mathlib.Core.List.{List}
use native.Mathlib.Omega.{arith}
use lib.ListN.{length}
use Rattle.std.proofs.Common.{Result, Ok, Err}
use borrow.Author.Tests.{le-leb}
use Rattle.format.specs.Basics.Bytes.{Bytes}
use Rattle.format.specs.Layout.Geometry.{Geometry}
use Rattle.format.specs.Layout.Volume.{volume}
use Rattle.format.specs.Rules.Length.{work_need}
use Rattle.format.specs.Rules.Version.{version_of}
use Rattle.format.specs.Rules.Verdict.{verdict, Accepted}
use Rattle.format.specs.Calls.Call.{Call, work_of}
use Rattle.format.specs.Calls.Answer.{answer_in}
use Rattle.format.specs.Calls.Reply.{plain, reply}
use Rattle.format.specs.Calls.Buffers.{image_after, out_after}
use Rattle.format.specs.History.Claim.{is_edit}
use Rattle.frame.specs.Groups.{ImageGroups}
use Rattle.frame.specs.Kept.{Sized}
use Rattle.frame.proofs.Accepted.{accepted_kept, kept_accepted, verdict_accepted}
use Rattle.frame.proofs.Final.{frame}
use Rattle.frame.proofs.Versions.{version_cases, accepted_version}
use Rattle.history.specs.Step.{CallStep}
use Rattle.history.proofs.Demand.{call_step}
use Rattle.kinds.specs.Sizes.{geometry_of}
use Rattle.kinds.specs.declared.Refusal.{Refusal}
use Rattle.tables.specs.Work.{Wrote}
use Rattle.volume.specs.Opened.{OpenedRight}
use Rattle.volume.specs.declared.Volume.{Volume}
use Rattle.volume.proofs.ListsKept.{ready_kept}
use Rattle.queries.specs.Inside.{reply_in, out_in, image_in}
use Rattle.edits.proofs.Gathering.{gathered_within}
use Rattle.opened.proofs.Inside.{reply_in_lem, image_in_lem, out_in_lem, ready_open}
use Rattle.opened.proofs.Lent.{lent_work, lent_reply, lent_out, lent_image, edit_reply}
use Rattle.opened.specs.OpenVolume.{OpenVolume}
use Rattle.opened.specs.Sequence.{lent, Left}
use Rattle.opened.specs.Opening.{OpeningRight}
use Rattle.lengths.proofs.Kept.{readied_after}

module _ {v : Volume} {img : Bytes} {w : List ℕ} (s : OpenVolume v img w) where
  abbrev g : Geometry
  g = version_of img

  pub opened_accepted : Accepted g img
  opened_accepted = kept_accepted g img (subst (λ x. ImageGroups x img) s.version s.opened.groups)

  opened_sized : Sized g
  opened_sized =
      let z = s.opened.ready.lists.mini.fat.sized in
      subst Sized s.version (record { wide = z.wide; even = z.even })

  pub opened_zero : (n : ℕ) → work_need (length img) ≤ n → verdict g img n ≡ 0
  opened_zero n h = verdict_accepted g img n opened_accepted ∙ ap (λ t. cond t 0 2) (le-leb (work_need (length img)) n h)

  pub opened_short : length img < 0x1_0000_0000
  opened_short = omega (arith, s.opened.ready.lists.mini.fat.sized.short)

  -- ---- what it gives: the contract of what follows validation names its call with any work buffer

  module _ (c : Call) (w' : List ℕ) (h : work_need (length img) ≤ length w') where
    pub long_zero : verdict g img (length (work_of (lent w' c))) ≡ 0
    long_zero = opened_zero (length (work_of (lent w' c))) (omega (arith, ap length (lent_work w' c)))

    pub long_reply : reply_in (geometry_of v.tables.geometry) (volume (geometry_of v.tables.geometry) img) c ≡ reply img (lent w' c)
    long_reply = rw s.version (lent_reply g (volume g img) w' c ∙ sym (reply_in_lem g img (lent w' c) long_zero))

    pub long_out : out_in (geometry_of v.tables.geometry) (volume (geometry_of v.tables.geometry) img) img c ≡ out_after img (lent w' c)
    long_out = rw s.version (lent_out g (volume g img) img w' c ∙ sym (out_in_lem g img (lent w' c) long_zero))

    pub long_image : image_in (geometry_of v.tables.geometry) (volume (geometry_of v.tables.geometry) img) img c ≡ image_after img (lent w' c)
    long_image = rw s.version (lent_image g (volume g img) img w' c ∙ sym (image_in_lem g img (lent w' c) long_zero))

  -- so a call that names this work buffer gives and leaves what the plain call does
  module _ (call : Call) (e : work_of call ≡ w) where
    zero : verdict g img (length (work_of call)) ≡ 0
    zero = opened_zero (length (work_of call)) (omega (arith, ap length e, s.room))

    pub opened_reply : reply_in (geometry_of v.tables.geometry) (volume (geometry_of v.tables.geometry) img) call ≡ reply img call
    opened_reply = rw s.version (sym (reply_in_lem g img call zero))

    pub opened_out : out_in (geometry_of v.tables.geometry) (volume (geometry_of v.tables.geometry) img) img call ≡ out_after img call
    opened_out = rw s.version (sym (out_in_lem g img call zero))

    pub opened_image : image_in (geometry_of v.tables.geometry) (volume (geometry_of v.tables.geometry) img) img call ≡ image_after img call
    opened_image = rw s.version (sym (image_in_lem g img call zero))

  -- ---- what it leaves

  step : (call : Call) → CallStep g img call
  step call = let z = opened_sized in call_step g (omega (arith, z.wide)) (frame g z) img opened_accepted call

  pub opened_length : (call : Call) → length (image_after img call) ≡ length img
  opened_length call = (step call).kept.length

  -- whatever the call answered
  pub opened_after : (call : Call) {w₁ : List ℕ} → Wrote w w₁ 0 v.stream → OpenVolume v (image_after img call) w₁
  opened_after call {w₁} r =
      let c = step call in
      let o = accepted_kept g (image_after img call) c.accepted in
      let k = c.kept in
      record {
        opened = record {
          ready = readied_after (rw s.version k) (rw s.version o) (ready_kept r (omega arith) s.opened.ready);
          groups = rw s.version o;
        };
        version = s.version ∙ sym (accepted_version g (image_after img call) (version_cases img) c.accepted);
        room = omega (arith, ap work_need k.length, s.room, r.long);
      }

  pub opened_edit : (c : Call) → is_edit c ≡ true → {n : ℕ} {img₁ : Bytes} {w₁ : List ℕ}
      → n ≡ answer_in (geometry_of v.tables.geometry) (volume (geometry_of v.tables.geometry) img) c
      → img₁ ≡ image_in (geometry_of v.tables.geometry) (volume (geometry_of v.tables.geometry) img) img c → Wrote w w₁ 0 v.stream
      → (plain n ≡ reply img (lent w c)) × Left v img w c img₁ w₁
  opened_edit c h {w₁ = w₁} e i r =
      let k = i ∙ long_image c w s.room in (
        edit_reply _ _ c h e ∙ long_reply c w s.room,
        record { image = k; opened = subst (λ j. OpenVolume v j w₁) (sym k) (opened_after (lent w c) r); wrote = gathered_within s.opened.ready r },
      )

  -- a call that is lent the image to read
  pub opened_same : {w₁ : List ℕ} → Wrote w w₁ 0 v.stream → OpenVolume v img w₁ × Wrote w w₁ 0 (work_need (length img))
  opened_same r = (
    record {
      opened = record { ready = ready_kept r (omega arith) s.opened.ready; groups = s.opened.groups };
      version = s.version;
      room = omega (arith, s.room, r.long);
    },
    gathered_within s.opened.ready r,
  )

-- ---- opening

pub opening_right : (img : Bytes) (w w₁ : List ℕ) (r : Result Volume Refusal) → OpenedRight (version_of img) img w w₁ r → OpeningRight img w w₁ r
opening_right img w w₁ (Err a) o = o
opening_right img w w₁ (Ok v) o =
    let room : work_need (length img) ≤ length w₁ = omega (arith, o.1.1.1.0, o.1.1.1.1.long) in
    (o.0, (record { opened = ready_open (version_of img) img w w₁ v o; version = o.1.0; room = room }, o.1.1.1.1))
