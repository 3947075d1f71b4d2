-- A refusal gives no value and leaves the image; and where 26 stands among an addition's refusals.
use Prim.Native.Nat.{ℕ, zero, suc}
use mathlib.Core.Path.{◌≡◌, refl, sym, ap, ap₂, ◌∙◌}
use mathlib.Core.Logic.{◌≢◌}
use mathlib.Core.Bool.{Bool, true, false, cond}
use mathlib.Core.List.{List}
use native.Mathlib.Omega.{arith}
use lib.ListN.{length}
use borrow.Author.Tests.{ne_eqb, le-ltb}
use Rattle.format.specs.Basics.Bytes.{Bytes}
use Rattle.format.specs.Layout.Geometry.{Geometry}
use Rattle.format.specs.Layout.Space.{free_units}
use Rattle.format.specs.Layout.Volume.{Volume, volume}
use Rattle.format.specs.Layout.Stream.{stream_size}
use Rattle.format.specs.Rules.Version.{version_of, own_volume}
use Rattle.format.specs.Rules.Verdict.{check, volume_groups, groups, verdict}
use Rattle.format.specs.Calls.Paths.{Path}
use Rattle.format.specs.Calls.Find.{resolve_stream, answer_of}
use Rattle.format.specs.Calls.SetLength.{too_few}
use Rattle.format.specs.Calls.Call.{work_of}
use Rattle.format.specs.Calls.Answer.{first_of, target, target_answer, beyond, length_answer, answer_in, answer}
use Rattle.format.specs.Calls.Reply.{on_zero}
use Rattle.format.specs.History.Event.{after}
use Rattle.theory.proofs.Refusals.{resolve_stream_low}
use Rattle.history.proofs.AnswerNumbers.{first_not_26, refused_not_26}
use Rattle.pulse_laws.specs.Pulse.{Pulse, count, total, pulse_at}
use Rattle.pulse_laws.specs.Added.{longer}
use Rattle.pulse_laws.specs.Calls.{contents_at, reader_answer, pulses_answer, summary_answer, record_answer, ticks_answer, grow_answer, add_answer, PulseReply, number_alone, summary_given, pulse_given, summary_reply, record_reply, add_reply, counts_as, image_added}
use Rattle.pulse_laws.specs.Claim.{RefusalsLeave, but26, RefusalsPass}

-- ---- no value, and the image as before

alone : (a n : ℕ) (r : PulseReply) → r.number ≡ 0 → (on_zero a r (number_alone a)).number ≡ suc n → on_zero a r (number_alone a) ≡ number_alone (suc n)
unfolding on_zero number_alone
alone zero n r z h = absurd (omega arith)
alone (suc a) n r z h = ap number_alone h

refused_image : (img : Bytes) (path : Path) (p : Pulse) (work : List ℕ) (n : ℕ) → add_answer img path p work ≡ suc n → image_added img path p work ≡ img
unfolding image_added counts_as on_zero after
refused_image img path p work n h = rw h

pub refusals_leave : RefusalsLeave
unfolding summary_reply record_reply add_reply number_alone summary_given pulse_given
refusals_leave img path work n =
    let s = contents_at img path in
    record {
      of_summary = alone (summary_answer img path work) n (summary_given (count s) (total s)) refl;
      of_record = λ k. alone (record_answer img path k work) n (pulse_given (pulse_at s k)) refl;
      of_addition = λ p h. (ap number_alone h, refused_image img path p work n h);
    }

-- ---- no verdict is 26

check_not : (t : Bool) (n later : ℕ) → n ≢ 26 → later ≢ 26 → check t n later ≢ 26
unfolding check
check_not true n later h k e = k e
check_not false n later h k e = h e

groups_not_26 : (v : Volume) → volume_groups v ≢ 26
unfolding volume_groups
groups_not_26 v =
    check_not _ 12 _ (omega arith) (check_not _ 13 _ (omega arith) (check_not _ 14 _ (omega arith) (check_not _ 15 _ (omega arith)
    (check_not _ 16 _ (omega arith) (check_not _ 17 _ (omega arith) (check_not _ 18 0 (omega arith) (omega arith)))))))

verdict_not_26 : (g : Geometry) (img : Bytes) (n : ℕ) → verdict g img n ≢ 26
unfolding verdict groups
verdict_not_26 g img n =
    check_not _ 1 _ (omega arith) (check_not _ 2 _ (omega arith) (check_not _ 10 _ (omega arith) (check_not _ 11 _ (omega arith) (groups_not_26 (volume g img)))))

-- ---- what a reader and the change of length ask alike: the verdict and the path

shared : Bytes → Path → List ℕ → ℕ
shared img path work = first_of (verdict (version_of img) img (length work)) (target_answer (own_volume img) path)

shared_not_26 : (img : Bytes) (path : Path) (work : List ℕ) → shared img path work ≢ 26
unfolding shared target_answer
shared_not_26 img path work =
    let d = (own_volume img).directory in
    first_not_26 (verdict (version_of img) img (length work)) (answer_of (resolve_stream d path)) (verdict_not_26 (version_of img) img (length work))
    (refused_not_26 (resolve_stream d path) (resolve_stream_low d path))

first_first : (a b c : ℕ) → first_of a (first_of b c) ≡ first_of (first_of a b) c
unfolding first_of
first_first zero b c = refl
first_first (suc a) b c = refl

first_none : (a : ℕ) → first_of a 0 ≡ a
unfolding first_of
first_none zero = refl
first_none (suc a) = refl

reader_is : (img : Bytes) (path : Path) (work : List ℕ) → reader_answer img path work ≡ shared img path work
unfolding reader_answer answer answer_in work_of beyond shared
reader_is img path work =
    let v = own_volume img in
    rw (le-ltb (stream_size v (target v path)) 0 (omega arith), first_none (target_answer v path))

-- behind them the change of length asks for room
no_room : Bytes → Path → Bool
no_room img path =
    let v = own_volume img in
    too_few (version_of img) (length (free_units v.sectors)) (length (free_units v.minis)) (stream_size v (target v path)) (longer (contents_at img path))

grower_is : (img : Bytes) (path : Path) (work : List ℕ) → grow_answer img path work ≡ first_of (shared img path work) (cond (no_room img path) 26 0)
unfolding grow_answer answer answer_in work_of length_answer shared no_room
grower_is img path work = first_first (verdict (version_of img) img (length work)) (target_answer (own_volume img) path) _

-- ---- the order

in_order : (a : ℕ) → a ≢ 26 → (full : Bool) (b c : ℕ)
    → first_of (first_of a b) (first_of c (first_of a (cond full 26 0))) ≡ but26 (first_of a (cond full 26 0)) (first_of b c)
unfolding but26 first_of
in_order zero h true b c = first_first b c 26
in_order zero h false b c = ap (first_of b) (first_none c)
in_order (suc a) h full b c = rw (ne_eqb (suc a) 26 h)

pub refusals_pass : RefusalsPass
unfolding add_answer summary_answer
refusals_pass img path p work =
    let b = pulses_answer (contents_at img path) in
    let c = ticks_answer p in
    ap₂ (λ (x y : ℕ). first_of (first_of x b) (first_of c y)) (reader_is img path work) (grower_is img path work)
    ∙ in_order (shared img path work) (shared_not_26 img path work) (no_room img path) b c
    ∙ ap (λ (n : ℕ). but26 n (first_of b c)) (sym (grower_is img path work))
