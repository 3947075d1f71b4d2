-- What the program writes, by the answer of its one call.
use mathlib.Core.Path.{◌≡◌, refl, ap, sym, ◌∙◌}
use mathlib.Core.List.{List}
use Prim.Native.Nat.{ℕ, zero, suc, ◌≤◌, ◌<◌}
use native.Mathlib.Decide.{dec_lt}
use native.Mathlib.Omega.{arith}
use borrow.Author.Tests.{lt-ltb, le-ltb}
use lib.ListN.{length, take, drop, replicate, length-append, length-replicate}
use lib.Seq.{take_all, take-append_seam, length-take-le}
use Rattle.format.specs.Basics.Bytes.{Bytes}
use Rattle.format.specs.Layout.Geometry.{Geometry}
use Rattle.format.specs.Layout.Volume.{volume}
use Rattle.format.specs.Rules.Length.{work_need}
use Rattle.format.specs.Calls.Read.{over}
use Rattle.format.specs.Calls.Listing.{listing}
use Rattle.format.specs.Calls.Call.{list, work_of, out_of}
use Rattle.format.specs.Calls.Answer.{answer_in, answer}
use Rattle.format.specs.Calls.Reply.{plain, counted, on_zero, done, reply_by}
use Rattle.format.specs.Calls.Buffers.{handed_out, out_after_by}
use Rattle.format.specs.Calls.Program.{program_capacity, refused_line, program_call, program_output_by, program_output}
use Rattle.kinds.specs.Numbers.{refusal_number}
use Rattle.kinds.specs.declared.Refusal.{Refusal}
use Rattle.kinds.proofs.Refusals.{refusal_some}

-- ---- the bytes at the front

pub front_is : (new out : Bytes) → take (length new) (over new out) ≡ new
unfolding over
front_is new out = take-append_seam new (drop (length new) out)

pub front_room : (new out : Bytes) → length new ≤ length (over new out)
unfolding over
front_room new out = omega (arith, length-append new (drop (length new) out))

-- a line that was put there
pub written : (line : Bytes) (out : Bytes) {n : ℕ} {out₁ text : Bytes} → n ≡ length line → out₁ ≡ over line out → line ≡ text → (n ≤ length out₁) × (take n out₁ ≡ text)
written line out l o e = rw (l, o) (front_room line out, front_is line out ∙ e)

pub room : {n : ℕ} → n ≡ program_capacity → 29 ≤ n
unfolding program_capacity
room e = omega (arith, e)

-- ---- the lengths of the program's buffers

pub capacity_work : 1664 ≡ work_need program_capacity
unfolding work_need program_capacity
capacity_work = refl

pub capacity_out : {n : ℕ} → n ≡ 65536 → n ≡ program_capacity
unfolding program_capacity
capacity_out e = e

-- ---- too many bytes

module _ (g : Geometry) (input : Bytes) where
  pub output_over : 65536 < length input → program_output_by g input ≡ refused_line 1
  unfolding program_output_by program_capacity
  output_over h = rw (lt-ltb 65536 (length input) h)

  abbrev answered : ℕ → Bytes
  answered a = on_zero a (listing (volume g input).directory) (refused_line a)

  pub output_within : length input ≤ 65536 → program_output_by g input ≡ answered (answer g input program_call)
  unfolding program_output_by program_capacity
  output_within h = rw (le-ltb 65536 (length input) h)

-- the first 65,537 bytes say what is written, whatever follows them
pub first_bytes_decide : (input : Bytes) → program_output (take 65537 input) ≡ program_output input
first_bytes_decide input =
    elim (dec_lt 65536 (length input)) [
      | yes h ↦ output_over _ (take 65537 input) (omega (arith, length-take-le 65537 input (omega arith))) ∙ sym (output_over _ input h)
      | no h ↦ ap program_output (take_all 65537 input (omega arith))
    ]

-- ---- the call's answer goes by the lengths of its buffers

module _ (g : Geometry) (img : Bytes) where
  answer_by_lengths : (out out₁ : Bytes) (work work₁ : List ℕ) → length out ≡ length out₁ → length work ≡ length work₁ → answer g img (list out work) ≡ answer g img (list out₁ work₁)
  unfolding answer answer_in work_of
  answer_by_lengths out out₁ work work₁ e f = rw (e, f)

  program_answer : (out : Bytes) (work : List ℕ) → length work ≡ work_need program_capacity → length out ≡ program_capacity → answer g img (list out work) ≡ answer g img program_call
  unfolding program_call
  program_answer out work f e =
      answer_by_lengths out (replicate program_capacity 0) work (replicate (work_need program_capacity) 0) (e ∙ sym (length-replicate program_capacity 0)) (f ∙ sym (length-replicate (work_need program_capacity) 0))

-- ---- the answers

module _ (g : Geometry) (input out : Bytes) (work : List ℕ) (short : length input ≤ 65536) (f : length work ≡ work_need program_capacity) (e : length out ≡ program_capacity) where
  same : program_output_by g input ≡ answered g input (answer g input (list out work))
  same = output_within g input short ∙ ap (answered g input) (sym (program_answer g input out work f e))

  abbrev text : Bytes
  text = listing (volume g input).directory

  listed_by : (a n : ℕ) {out₁ : Bytes} → counted n ≡ on_zero a (counted (length text)) (plain a) → out₁ ≡ on_zero a (over text out) out → (n ≤ length out₁) × (take n out₁ ≡ answered g input a)
  unfolding on_zero counted plain
  listed_by zero n r o = let k = ap (λ z. z.count) r in rw (o, k) (front_room text out, front_is text out)
  listed_by (suc a) n r o = absurd (omega (arith, ap (λ z. z.number) r))

  refused_by : (n : ℕ) (a : Refusal) → plain (refusal_number a) ≡ on_zero n (counted (length text)) (plain n) → refused_line (refusal_number a) ≡ answered g input n
  unfolding on_zero counted plain
  refused_by zero a r = absurd (refusal_some a (ap (λ z. z.number) r))
  refused_by (suc n) a r = ap (λ z. refused_line z.number) r

  -- a count is the listing's
  pub listed : (n : ℕ) {out₁ : Bytes} → counted n ≡ reply_by g input (list out work) → out₁ ≡ out_after_by g input (list out work) → (n ≤ length out₁) × (take n out₁ ≡ program_output_by g input)
  unfolding reply_by done out_after_by handed_out out_of
  listed n r o = rw same (listed_by (answer g input (list out work)) n r o)

  -- a refusal is the program's
  pub refused : (a : Refusal) → plain (refusal_number a) ≡ reply_by g input (list out work) → refused_line (refusal_number a) ≡ program_output_by g input
  unfolding reply_by done
  refused a r = refused_by (answer g input (list out work)) a r ∙ sym same
