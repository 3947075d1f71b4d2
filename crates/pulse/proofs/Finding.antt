-- A pulse stream that is looked for.
use Prim.Native.Nat.{ℕ}
use mathlib.Core.Path.{◌≡◌, refl, sym, ap, ◌∙◌}
use mathlib.Core.Bool.{Bool, true, false, cond}
use mathlib.Core.List.{List}
use native.Mathlib.Omega.{arith}
use lib.ListN.{length}
use Rattle.format.specs.Basics.Bytes.{Bytes}
use Rattle.format.specs.Layout.Stream.{contents}
use Rattle.format.specs.Rules.Version.{own_volume}
use Rattle.format.specs.Calls.Paths.{Path}
use Rattle.format.specs.Calls.Answer.{first_of}
use Rattle.kinds.specs.Numbers.{refusal_number}
use Rattle.kinds.specs.declared.Refusal.{Refusal}
use Rattle.kinds.proofs.Refusals.{first_refused}
use Rattle.volume.specs.declared.Volume.{Volume}
use Rattle.queries.specs.declared.find.Object.{Object}
use Rattle.streams.specs.Found.{StreamFound}
use Rattle.streams.specs.Listed.{OpenStream}
use Rattle.pulse_laws.specs.Pulse.{is_pulse_stream}
use Rattle.pulse_laws.specs.Calls.{contents_at, reader_answer, pulses_answer, summary_answer}
use Rattle.pulse_records.specs.declared.Trailer.{Trailer}
use Rattle.pulse.specs.Parsed.{trailer_for, parsed_as}
use Rattle.pulse.specs.Found.{PulsesAt}
use Rattle.std.specs.Prelude.{Some, None, Ok, Err}
use Rattle.pulse.proofs.WorkLengths.{summary_long}

-- ---- what parsing says

parsed_other : (s : Bytes) → None ≡ parsed_as s → is_pulse_stream s ≡ false
unfolding parsed_as
parsed_other s e = go (is_pulse_stream s) e
  where
    go : (b : Bool) → None ≡ cond b (Some (trailer_for s)) None → b ≡ false
    go true h = absurd (let z : ◌≡◌ {A = ℕ} 0 1 = cc in omega arith)
    go false h = refl

parsed_pulses : (s : Bytes) (t : Trailer) → Some t ≡ parsed_as s → (is_pulse_stream s ≡ true) × (t ≡ trailer_for s)
unfolding parsed_as
parsed_pulses s t e = go (is_pulse_stream s) e
  where
    go : (b : Bool) → Some t ≡ cond b (Some (trailer_for s)) None → (b ≡ true) × (t ≡ trailer_for s)
    go true h = (refl, cc)
    go false h = absurd (let z : ◌≡◌ {A = ℕ} 0 1 = cc in omega arith)

-- ---- the stream at a path

module _ (img : Bytes) (path : Path) (w : List ℕ) where
  pub find_refused : (a : Refusal) → StreamFound img path w (Err a) → summary_answer img path w ≡ refusal_number a
  unfolding summary_answer reader_answer
  find_refused a h = rw h (first_refused a _)

  module _ (e : Object) (f : StreamFound img path w (Ok e)) where
    abbrev s : Bytes
    s = contents (own_volume img) img e.id.0

    same_bytes : s ≡ contents_at img path
    unfolding contents_at
    same_bytes = ap (contents (own_volume img) img) f.1.1

    parsed_as_lem : (b : Bool) → is_pulse_stream s ≡ b → summary_answer img path w ≡ cond b 0 40
    unfolding summary_answer reader_answer pulses_answer first_of
    parsed_as_lem b h = let k : is_pulse_stream (contents_at img path) ≡ b = ap is_pulse_stream (sym same_bytes) ∙ h in rw (f.0, k)

    pub found_other : None ≡ parsed_as s → summary_answer img path w ≡ 40
    found_other h = parsed_as_lem false (parsed_other s h)

    -- its units are listed in the work buffer by now
    pub found_pulses : {v : Volume} {w₁ : List ℕ} (t : Trailer) → length w₁ ≡ length w → OpenStream v img w₁ e → Some t ≡ parsed_as s
        → PulsesAt v img path w₁ (record { object = e; trailer = t })
    found_pulses {w₁ = w₁} t n l h =
        let q = parsed_pulses s t h in
        record {
          answer = summary_long w₁ w n img path ∙ parsed_as_lem true q.0;
          listed = l;
          bytes = same_bytes;
          trailer = q.1 ∙ ap trailer_for same_bytes;
        }
