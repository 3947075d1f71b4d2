use borrow.Author.Rules.{rules}
use mathlib.Core.Path.{◌≡◌}
use native.Mathlib.Omega.{arith}
use Rattle.format.specs.Calls.SetLength.{resized}
use Rattle.history.proofs.Moving.{crossed_some, cut_within, grow_within}
use Rattle.tables.specs.Work.{Wrote}
use Rattle.tables.proofs.WorkLaws.{wrote_wider}
use Rattle.spaces.specs.Spaces.{volume_in}
use Rattle.lengths.proofs.Moves.{lists_fit, cut_gathered, grow_asks, put_asks, put_image}
use Rattle.lengths.proofs.across.refill.Goals as goal

pub resize-requires : goal.resize-requires
resize-requires c = record { fact = c.requires.fact; stream_at = c.requires.stream_at; value = cut_within c.args.e.size; size_nonzero = (λ z. omega (arith, z, (crossed_some _ _ c.requires.value).0)); gathered = cut_gathered c.requires.fact c.requires.stream_at c.args.new c.requires.value _ _ c.requires.both_listed }

pub move_down-requires : goal.move_down-requires
move_down-requires c = omega (arith, lists_fit c.requires.fact c.requires.stream_at c.args.new c.requires.value _ _ c.requires.both_listed, c.requires.fact.ready.stream.room)

pub resize-requires-2 : goal.resize-requires-2
resize-requires-2 c =
    let wrote' : let a = c.args in Wrote a.work.now c.move_down.new.work 0 a.v.stream = wrote_wider 0 _ c.move_down.ensures.wrote (omega arith) (omega (arith, lists_fit c.requires.fact c.requires.stream_at c.args.new c.requires.value _ _ c.requires.both_listed)) in
    let k = grow_asks c.requires.fact c.requires.stream_at c.args.new c.requires.value _ _ c.requires.both_listed c.move_down.ensures.front wrote' c.resize.ensures in rw c.with_size.ensures (record { fact = k.0; stream_at = k.1.0; value = grow_within c.args.new; size_nonzero = (λ z. omega (arith, z, (crossed_some _ _ c.requires.value).1)); gathered = k.1.1 })

pub put_bytes-requires : goal.put_bytes-requires
put_bytes-requires c =
    let grown : let a = c.args in let cut = c.resize.new.img in c.resize-2.new.img ≡ resized (volume_in a.v cut) cut a.e.id.0 a.new = rw c.with_size.ensures at c.resize-2.ensures in
    let wrote' : let a = c.args in Wrote a.work.now c.move_down.new.work 0 a.v.stream = wrote_wider 0 _ c.move_down.ensures.wrote (omega arith) (omega (arith, lists_fit c.requires.fact c.requires.stream_at c.args.new c.requires.value _ _ c.requires.both_listed)) in
    rw c.kind_for.ensures
    (let r = put_asks c.requires.fact c.requires.stream_at c.args.new c.requires.value _ _ c.requires.both_listed c.move_down.ensures.front wrote' c.requires.bytes_value c.resize.ensures grown in record { writable = r.0; bytes_bound = r.1 })

pub returns : goal.returns
returns c =
    let grown : let a = c.args in let cut = c.resize.new.img in c.resize-2.new.img ≡ resized (volume_in a.v cut) cut a.e.id.0 a.new = rw c.with_size.ensures at c.resize-2.ensures in
    let wrote' : let a = c.args in Wrote a.work.now c.move_down.new.work 0 a.v.stream = wrote_wider 0 _ c.move_down.ensures.wrote (omega arith) (omega (arith, lists_fit c.requires.fact c.requires.stream_at c.args.new c.requires.value _ _ c.requires.both_listed)) in
    record { image = put_image c.requires.fact c.requires.stream_at c.args.new c.requires.value _ _ c.requires.both_listed c.move_down.ensures.front wrote' c.requires.bytes_value c.resize.ensures grown (rw c.kind_for.ensures at c.put_bytes.ensures); wrote = wrote' }
