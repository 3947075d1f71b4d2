use Rattle.std.proofs.Common.{arith, ◌≡◌, ◌+◌, ◌≤◌, ◌∙◌, sym, ap, length, ℕ, [], ◌∷◌, ◌++◌}
use Rattle.format.specs.Basics.Bytes.{Bytes}
use Rattle.format.specs.Layout.Entry.{is_stream, size}
use Rattle.format.specs.Calls.Read.{over}
use Rattle.format.specs.Calls.Text.{space, decimal}
use Rattle.entries.specs.Entry.{entry_at}
use Rattle.text.proofs.Filled.{filled_copied, filled_lent, filled_set}
use Rattle.lines.specs.Lines.{width_of}
use Rattle.lines.proofs.LineLengths.{head_stream, head_storage, stream_length, storage_length}
use Rattle.lines.proofs.put_head.Goals as goal

pub returns-then-is_stream-clause-written : goal.returns-then-is_stream-clause-written
returns-then-is_stream-clause-written c =
    let e = entry_at c.args.img.now c.args.p in
    let w = width_of c.args.g in
    let out = c.args.out.now in
    let told : c.is_stream.result ≡ is_stream e = rw (← c.entry_type.ensures) c.is_stream.ensures in
    let h = sym told ∙ c.if-is_stream.true in
    let n = c.size.result in
    let room : length (decimal n) + 3 ≤ length out = omega (arith, stream_length w e h, ap (λ (k : ℕ). length (decimal k)) c.size.ensures) in
    let copied = filled_copied out {word = 0x46 ∷ space ∷ []} c.copy_from_slice.ensures.after (omega arith) in
    let numbered = filled_lent copied (decimal n) (omega arith) c.put_decimal-n.ensures.count c.put_decimal-n.ensures.written in
    (filled_set numbered space (omega arith)).bytes
    ∙ ap (λ (b : Bytes). over b out) (ap (λ (k : ℕ). ((0x46 ∷ space ∷ []) ++ decimal k) ++ (space ∷ [])) c.size.ensures ∙ sym (head_stream w e h))

pub returns-clause-written : goal.returns-clause-written
returns-clause-written c =
    let e = entry_at c.args.img.now c.args.p in
    let w = width_of c.args.g in
    let out = c.args.out.now in
    let told : c.is_stream.result ≡ is_stream e = rw (← c.entry_type.ensures) c.is_stream.ensures in
    let h = sym told ∙ c.if-is_stream.false in
    (filled_copied out {word = 0x44 ∷ space ∷ 0x30 ∷ space ∷ []} c.copy_from_slice-2.ensures.after (omega (arith, storage_length w e h))).bytes
    ∙ ap (λ (b : Bytes). over b out) (sym (head_storage w e h))
