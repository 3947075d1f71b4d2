-- What an answer of 0 says.
use Prim.Native.Nat.{ℕ, zero, suc, ◌≤◌}
use mathlib.Core.Path.{◌≡◌, refl, sym, ◌∙◌}
use mathlib.Core.Bool.{Bool, true, false, cond}
use mathlib.Core.List.{List}
use native.Mathlib.Omega.{arith}
use lib.Dec.{eqb, leb}
use lib.ListN.{length}
use borrow.Author.Tests.{le-ltb}
use Rattle.format.specs.Basics.Bytes.{Bytes}
use Rattle.format.specs.Layout.Stream.{stream_size}
use Rattle.format.specs.Rules.Length.{work_need}
use Rattle.format.specs.Rules.Version.{version_of, own_volume}
use Rattle.format.specs.Rules.Verdict.{verdict, Accepted}
use Rattle.format.specs.Calls.Paths.{Path}
use Rattle.format.specs.Calls.Call.{work_of}
use Rattle.format.specs.Calls.Answer.{first_of, target, target_answer, beyond, answer_in, answer}
use Rattle.format.specs.Calls.Reply.{on_zero}
use Rattle.format.specs.History.Rows.{has_row}
use Rattle.format.specs.History.State.{state_of}
use Rattle.theory.proofs.Refusals.{first_zero}
use Rattle.frame.proofs.Accepted.{verdict_kept, kept_accepted, verdict_accepted}
use Rattle.pulse_laws.specs.Pulse.{Pulse, is_pulse_stream, count, total}
use Rattle.pulse_laws.specs.Calls.{contents_at, reader_answer, pulses_answer, summary_answer, ticks_answer, grow_answer, add_answer, summary_given, summary_reply}
use Rattle.pulse_laws.proofs.Streams.{stream_meant, stream_row}

-- ---- of a summary

-- the image is accepted, the work buffer is long enough, and the path means the row of a pulse stream
pub record Readable (img : Bytes) (to : Path) (work : List ℕ) : Type 0 where
  pub accepted : Accepted (version_of img) img
  pub fits : leb (work_need (length img)) (length work) ≡ true
  pub there : has_row (state_of img).rows to ≡ true
  pub pulses : is_pulse_stream (contents_at img to) ≡ true

fits_zero : (t : Bool) → cond {A = ℕ} t 0 2 ≡ 0 → t ≡ true
fits_zero true k = refl
fits_zero false k = absurd (omega arith)

pulses_zero : (t : Bool) → cond {A = ℕ} t 0 40 ≡ 0 → t ≡ true
pulses_zero true k = refl
pulses_zero false k = absurd (omega arith)

pub summary_zero : (img : Bytes) (to : Path) (work : List ℕ) → summary_answer img to work ≡ 0 → Readable img to work
unfolding summary_answer reader_answer pulses_answer answer answer_in work_of
summary_zero img to work h =
    let g = version_of img in
    let v = own_volume img in
    let n = length work in
    let a = first_zero (reader_answer img to work) (pulses_answer (contents_at img to)) h in
    let b = first_zero (verdict g img n) _ a.0 in
    let c = first_zero (target_answer v to) _ b.1 in
    let acc = kept_accepted g img (verdict_kept g img n b.0) in
    record {
      accepted = acc;
      fits = fits_zero (leb (work_need (length img)) n) (sym (verdict_accepted g img n acc) ∙ b.0);
      there = stream_row img acc to c.0;
      pulses = pulses_zero (is_pulse_stream (contents_at img to)) a.1;
    }

-- and the other way round
summary_answer_lem : (img : Bytes) (to : Path) (work : List ℕ) → Readable img to work → summary_answer img to work ≡ 0
unfolding summary_answer reader_answer pulses_answer answer answer_in work_of beyond first_of
summary_answer_lem img to work r =
    let v = own_volume img in
    rw (
      verdict_accepted (version_of img) img (length work) r.accepted,
      r.fits,
      (stream_meant img r.accepted to r.there).found,
      le-ltb (stream_size v (target v to)) 0 (omega arith),
      r.pulses,
    )

pub summary_is : (img : Bytes) (to : Path) (work : List ℕ) → Readable img to work
    → summary_reply img to work ≡ summary_given (count (contents_at img to)) (total (contents_at img to))
unfolding summary_reply on_zero
summary_is img to work r = rw (summary_answer_lem img to work r)

-- ---- of an addition

-- a pulse stream that can be read, ticks to add, and room
pub record CanAdd (img : Bytes) (to : Path) (p : Pulse) (work : List ℕ) : Type 0 where
  pub readable : Readable img to work
  pub some : 1 ≤ p.ticks
  pub grow : grow_answer img to work ≡ 0

some_ticks : (n : ℕ) → cond {A = ℕ} (eqb n 0) 41 0 ≡ 0 → 1 ≤ n
some_ticks zero h = absurd (omega arith)
some_ticks (suc n) h = omega arith

pub add_zero : (img : Bytes) (to : Path) (p : Pulse) (work : List ℕ) → add_answer img to p work ≡ 0 → CanAdd img to p work
unfolding add_answer ticks_answer
add_zero img to p work h =
    let a = first_zero (summary_answer img to work) _ h in
    let b = first_zero (cond (eqb p.ticks 0) 41 0) (grow_answer img to work) a.1 in
    record { readable = summary_zero img to work a.0; some = some_ticks p.ticks b.0; grow = b.1 }
