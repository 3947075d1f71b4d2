-- Opening, any list of calls and closing give and leave what a validation and the same plain calls do.
use Prim.Native.Nat.{ℕ, zero, suc, ◌≤◌}
use mathlib.Core.Path.{◌≡◌, refl, sym, ◌∙◌, ap, ap₂, subst}
use mathlib.Core.Bool.{true, false}
use mathlib.Core.List.{List, [], ◌∷◌}
use native.Mathlib.Omega.{arith}
use lib.ListN.{length}
use Rattle.std.proofs.Common.{Ok, Err}
use Rattle.format.specs.Basics.Bytes.{Bytes}
use Rattle.format.specs.Rules.Length.{work_need}
use Rattle.format.specs.Rules.Version.{version_of}
use Rattle.format.specs.Calls.Paths.{Path}
use Rattle.format.specs.Calls.Call.{Call, validate, find, read, overwrite, set_length, create, remove, list, read_at, work_of, out_of}
use Rattle.format.specs.Calls.Reply.{Reply, plain, reply, on_zero}
use Rattle.format.specs.Calls.Buffers.{work_cleared, handed_out, image_after, out_after, out_after_by, work_after}
use Rattle.format.specs.History.Claim.{is_edit}
use Rattle.theory.proofs.Tests.{clash}
use Rattle.kinds.specs.Numbers.{refusal_number}
use Rattle.kinds.specs.declared.Refusal.{Refusal}
use Rattle.tables.specs.Work.{Wrote}
use Rattle.tables.proofs.WorkLaws.{wrote_none, wrote_two, wrote_cleared}
use Rattle.volume.specs.declared.Volume.{Volume as Place}
use Rattle.volume.specs.Opened.{OpenedRight}
use Rattle.volume.proofs.Opening.{cleared_same}
use Rattle.opened.proofs.Inside.{work_in}
use Rattle.opened.proofs.Validated.{reply_is, call_refused, call_kept, call_unchanged}
use Rattle.opened.proofs.Lent.{lent_work, lent_kept}
use Rattle.opened.proofs.Numbers.{reading_keeps, reading_at_keeps}
use Rattle.opened.specs.OpenVolume.{OpenVolume}
use Rattle.opened.specs.Opening.{OpeningRight}
use Rattle.opened.specs.Sequence.{lent, Given, given, plain_given, plain_image, plain_work, Left, OpenedCalls}
use Rattle.opened.proofs.Calls.{long_zero, long_reply, long_out, long_image, opened_length}

-- ---- one call

module _ {v : Place} {img : Bytes} {w : List ℕ} (s : OpenVolume v img w) (c : Call) where
  module _ (w' : List ℕ) (h : work_need (length img) ≤ length w') where
    -- the plain call, lent another work buffer
    pub step_given : given img (lent w c) ≡ given img (lent w' c)
    step_given =
        ap₂ (λ (r : Reply) (o : Bytes). record { reply = r; out = o })
        (sym (long_reply s c w s.room) ∙ long_reply s c w' h)
        (sym (long_out s c w s.room) ∙ long_out s c w' h)

    pub step_image : image_after img (lent w c) ≡ image_after img (lent w' c)
    step_image = sym (long_image s c w s.room) ∙ long_image s c w' h

    step_work : work_after img (lent w' c) ≡ work_cleared (work_need (length img)) w'
    step_work = sym (work_in (version_of img) img (lent w' c) (long_zero s c w' h) (wrote_none _ 0 _) refl) ∙ ap (work_cleared (work_need (length img))) (lent_work w' c)

  -- where the plain calls' work buffer is the opened volume's, cleared, it is so again
  pub step_cleared : {img₁ : Bytes} {w₁ : List ℕ} → Left v img w c img₁ w₁ → (w' : List ℕ) → w' ≡ work_cleared (work_need (length img)) w
      → (work_need (length img) ≤ length w') × (work_after img (lent w' c) ≡ work_cleared (work_need (length img₁)) w₁)
  step_cleared {img₁} {w₁} l w' e =
      let q = wrote_cleared (work_need (length img)) w w' e s.room in
      let h : work_need (length img) ≤ length w' = omega (arith, q.long, s.room) in
      let k : length img₁ ≡ length img = ap length l.image ∙ opened_length s (lent w c) in
      (h, step_work w' h ∙ cleared_same (work_need (length img)) q ∙ sym (cleared_same (work_need (length img)) l.wrote) ∙ ap (λ n. work_cleared (work_need n) w₁) (sym k))

-- ---- any list of calls

abbrev Same : Bytes → List ℕ → List Call → List Given → Bytes → List ℕ → Type 0
Same img w cs xs img' w' = (xs ≡ plain_given img w cs) × ((img' ≡ plain_image img w cs) × (work_cleared (work_need (length img')) w' ≡ plain_work img w cs))

sequence_same : (v : Place) (img : Bytes) (w p : List ℕ) (cs : List Call) (xs : List Given) (img' : Bytes) (w' : List ℕ)
    → OpenVolume v img w → p ≡ work_cleared (work_need (length img)) w → OpenedCalls v img w cs xs img' w' → Same img p cs xs img' w'
unfolding plain_given plain_image plain_work
sequence_same v img w p [] [] img' w' s e o = (refl, (o.0, ap₂ (λ i k. work_cleared (work_need (length i)) k) o.0 o.1 ∙ sym e))
sequence_same v img w p [] (x ∷ xs) img' w' s e o = absurd o
sequence_same v img w p (c ∷ cs) [] img' w' s e o = absurd o
sequence_same v img w p (c ∷ cs) (x ∷ xs) img' w' s e (img₁, w₁, (y, (l, o))) =
    let k = step_cleared s c l p e in
    let i = l.image ∙ step_image s c p k.0 in
    let r = sequence_same v img₁ w₁ (work_after img (lent p c)) cs xs img' w' l.opened k.1 o in
    let t = subst (λ j. Same j (work_after img (lent p c)) cs xs img' w') i r in
    (ap₂ (λ (a : Given) (b : List Given). a ∷ b) (y ∙ step_given s c p k.0) t.0, t.1)

-- ---- what a call hands out: without an out buffer nothing beside its reply

handed : (img : Bytes) (c : Call) {r : Reply} {o : Bytes} → r ≡ reply img c → o ≡ out_after img c → record { reply = r; out = o } ≡ given img c
handed img c e h = ap₂ (λ (a : Reply) (b : Bytes). record { reply = a; out = b }) e h

nothing : (n : ℕ) → on_zero {A = Bytes} n [] [] ≡ []
unfolding on_zero
nothing zero = refl
nothing (suc n) = refl

module _ (img : Bytes) (w : List ℕ) where
  validate_out : out_after img (validate w) ≡ []
  unfolding out_after_by handed_out out_of
  validate_out = nothing _

  find_out : (path : Path) → out_after img (find path w) ≡ []
  unfolding out_after_by handed_out out_of
  find_out path = nothing _

  edit_out : (c : Call) → is_edit c ≡ true → out_after img (lent w c) ≡ []
  unfolding out_after_by handed_out out_of lent is_edit
  edit_out (validate work) h = validate_out
  edit_out (find path work) h = find_out path
  edit_out (read path offset out work) h = absurd (clash h refl)
  edit_out (overwrite path offset bytes work) h = nothing _
  edit_out (set_length path new work) h = nothing _
  edit_out (create made path work) h = nothing _
  edit_out (remove path work) h = nothing _
  edit_out (list out work) h = absurd (clash h refl)
  edit_out (read_at entry position out work) h = absurd (clash h refl)

-- ---- opening is a validation

pub open_once : (v : Place) (img : Bytes) (w w₁ : List ℕ) (cs : List Call) (xs : List Given) (img' : Bytes) (w₂ w₃ : List ℕ)
    → OpeningRight img w w₁ (Ok v) → OpenedCalls v img w₁ cs xs img' w₂ → w₃ ≡ work_cleared (work_need (length img')) w₂
    → let first : Given = record { reply = plain 0; out = [] } in
    (first ∷ xs ≡ plain_given img w (validate [] ∷ cs)) × ((img' ≡ plain_image img w (validate [] ∷ cs)) × (w₃ ≡ plain_work img w (validate [] ∷ cs)))
unfolding plain_given plain_image plain_work lent
open_once v img w w₁ cs xs img' w₂ w₃ q o e =
    let s = q.1.0 in
    let h : work_need (length img) ≤ length w = omega (arith, q.1.1.long, s.room) in
    let p = step_work s (validate []) w h ∙ sym (cleared_same (work_need (length img)) q.1.1) in
    let r = sequence_same v img w₁ (work_after img (validate w)) cs xs img' w₂ s p o in
    let i : img ≡ image_after img (validate w) = sym (reading_keeps (version_of img) img w [] 0 []).0 in
    let t = subst (λ j. Same j (work_after img (validate w)) cs xs img' w₂) i r in
    let first = handed img (validate w) (sym (reply_is (version_of img) img w ∙ ap plain q.0)) (sym (validate_out img w)) in
    (ap₂ (λ (a : Given) (b : List Given). a ∷ b) first t.0, (t.1.0, e ∙ t.1.1))

-- ---- a call that is lent the image to read: an edit's contract says in so many words what it leaves

reading_same : (img : Bytes) (w : List ℕ) (c : Call) → is_edit c ≡ false → image_after img (lent w c) ≡ img
unfolding lent is_edit
reading_same img w (validate work) h = (reading_keeps (version_of img) img w [] 0 []).0
reading_same img w (find path work) h = (reading_keeps (version_of img) img w path 0 []).1.0
reading_same img w (read path offset out work) h = (reading_keeps (version_of img) img w path offset out).1.1.0
reading_same img w (overwrite path offset bytes work) h = absurd (clash refl h)
reading_same img w (set_length path new work) h = absurd (clash refl h)
reading_same img w (create made path work) h = absurd (clash refl h)
reading_same img w (remove path work) h = absurd (clash refl h)
reading_same img w (list out work) h = (reading_keeps (version_of img) img w [] 0 out).1.1.1
reading_same img w (read_at entry position out work) h = reading_at_keeps (version_of img) img w entry position out

-- a listing
pub left_read : {v : Place} {img : Bytes} {w w₁ : List ℕ} (c : Call) → is_edit c ≡ false → OpenVolume v img w₁ → Wrote w w₁ 0 (work_need (length img)) → Left v img w c img w₁
left_read {img = img} {w = w} c e k r = record { image = sym (reading_same img w c e); opened = k; wrote = r }

-- a find and a read leave the work buffer too
pub left_same : {v : Place} {img : Bytes} {w : List ℕ} (c : Call) → is_edit c ≡ false → OpenVolume v img w → Left v img w c img w
left_same {w = w} c e k = left_read c e k (wrote_none w 0 _)

-- ---- what a call on an opened volume ensures makes one step of a list of calls

abbrev pub Step : Place → Bytes → List ℕ → Call → Given → Bytes → List ℕ → Type 0
Step v img w c x img₁ w₁ = (x ≡ given img (lent w c)) × Left v img w c img₁ w₁

pub edit_step : {v : Place} (img : Bytes) {img₁ : Bytes} {w w₁ : List ℕ} (c : Call) {r : Reply} → is_edit c ≡ true
    → (r ≡ reply img (lent w c)) × ((img₁ ≡ image_after img (lent w c)) × (OpenVolume v img₁ w₁ × Wrote w w₁ 0 (work_need (length img))))
    → Step v img w c (record { reply = r; out = [] }) img₁ w₁
edit_step img {w = w} c h i =
    (handed img (lent w c) i.0 (sym (edit_out img w c h)), record { image = i.1.0; opened = i.1.1.0; wrote = i.1.1.1 })

pub list_step : {v : Place} {img : Bytes} {w w₁ : List ℕ} (c : Call) {r : Reply} {o : Bytes} → is_edit c ≡ false
    → (r ≡ reply img (lent w c)) × ((o ≡ out_after img (lent w c)) × (OpenVolume v img w₁ × Wrote w w₁ 0 (work_need (length img))))
    → Step v img w c (record { reply = r; out = o }) img w₁
list_step {img = img} {w = w} c h i = (handed img (lent w c) i.0 i.1.0, left_read c h i.1.1.0 i.1.1.1)

pub read_step : {v : Place} {img : Bytes} {w : List ℕ} (c : Call) {r : Reply} {o : Bytes} → is_edit c ≡ false → OpenVolume v img w
    → (r ≡ reply img (lent w c)) × (o ≡ out_after img (lent w c)) → Step v img w c (record { reply = r; out = o }) img w
read_step {img = img} {w = w} c h k i = (handed img (lent w c) i.0 i.1, left_same c h k)

pub find_step : {v : Place} {img : Bytes} {w : List ℕ} (path : Path) {r : Reply} → OpenVolume v img w → r ≡ reply img (find path w)
    → Step v img w (find path []) (record { reply = r; out = [] }) img w
unfolding lent is_edit
find_step {img = img} {w = w} path k i = read_step (find path []) refl k (i, sym (find_out img w path))

-- the volume is opened behind the list too
pub still_opened : (v : Place) (img : Bytes) (w : List ℕ) (cs : List Call) (xs : List Given) (img' : Bytes) (w' : List ℕ)
    → OpenVolume v img w → OpenedCalls v img w cs xs img' w' → OpenVolume v img' w'
still_opened v img w [] [] img' w' s o = rw (o.0, o.1) s
still_opened v img w [] (x ∷ xs) img' w' s o = absurd o
still_opened v img w (c ∷ cs) [] img' w' s o = absurd o
still_opened v img w (c ∷ cs) (x ∷ xs) img' w' s (img₁, w₁, (y, (l, o))) = still_opened v img₁ w₁ cs xs img' w' l.opened o

-- ---- a plain call is an opening, the call on the opened volume, and a closing

module _ {v : Place} {img : Bytes} {w w₁ : List ℕ} (q : OpeningRight img w w₁ (Ok v)) (c : Call) where
  long_enough : work_need (length img) ≤ length w
  long_enough = omega (arith, q.1.1.long, q.1.0.room)

  pub same_reply : reply img (lent w₁ c) ≡ reply img (lent w c)
  same_reply = ap (λ (x : Given). x.reply) (step_given q.1.0 c w long_enough)

  pub same_out : out_after img (lent w₁ c) ≡ out_after img (lent w c)
  same_out = ap (λ (x : Given). x.out) (step_given q.1.0 c w long_enough)

  pub same_work : {w₂ w₃ : List ℕ} → Wrote w₁ w₂ 0 (work_need (length img)) → w₃ ≡ work_cleared (work_need (length img)) w₂ → w₃ ≡ work_after img (lent w c)
  same_work r e = e ∙ cleared_same (work_need (length img)) (wrote_two q.1.1 r) ∙ sym (step_work q.1.0 c w long_enough)

  -- an edit
  pub same_edit : {img₁ : Bytes} {w₂ w₃ : List ℕ} → Left v img w₁ c img₁ w₂ → w₃ ≡ work_cleared (work_need (length img₁)) w₂
      → (img₁ ≡ image_after img (lent w c)) × (w₃ ≡ work_after img (lent w c))
  same_edit {w₂ = w₂} l e =
      let k = ap length l.image ∙ opened_length q.1.0 (lent w₁ c) in
      (l.image ∙ step_image q.1.0 c w long_enough, same_work l.wrote (e ∙ ap (λ n. work_cleared (work_need n) w₂) k))

-- where the opening refuses
pub record CallRefused (img : Bytes) (w w₁ : List ℕ) (a : Refusal) (c : Call) : Type 0 where
  pub number : plain (refusal_number a) ≡ reply img (lent w c)
  pub out : out_of c ≡ out_after img (lent w c)
  pub image : img ≡ image_after img (lent w c)
  pub work : w₁ ≡ work_after img (lent w c)

pub same_refused : (img : Bytes) (w w₁ : List ℕ) (a : Refusal) → OpeningRight img w w₁ (Err a) → (c : Call) → CallRefused img w w₁ a c
same_refused img w w₁ a o c =
    let q : OpenedRight (version_of img) img (work_of (lent w c)) w₁ (Err a) = rw (lent_work w c) o in
    let r = call_refused (version_of img) img (lent w c) w₁ a q in
    record {
      number = r.0;
      out = sym (lent_kept w c) ∙ call_kept (version_of img) img (lent w c) w₁ a q;
      image = call_unchanged (version_of img) img (lent w c) w₁ a q;
      work = r.1;
    }
