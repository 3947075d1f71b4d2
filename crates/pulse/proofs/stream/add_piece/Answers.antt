use mathlib.Core.Path.{◌≡◌, ap, ◌∙◌}
use mathlib.Core.List.{◌++◌}
use Prim.Native.Nat.{◌*◌}
use native.Mathlib.Omega.{arith}
use lib.ListN.{length, take, drop}
use lib.Seq.{take_at, length-take-le}
use Rattle.format.specs.Basics.Bytes.{part}
use Rattle.format.specs.Layout.Stream.{contents}
use Rattle.format.specs.Rules.Version.{own_volume}
use Rattle.pulse_records.specs.Records.{sum_from}
use Rattle.pulse.proofs.Pieces.{sum_piece}
use Rattle.pulse.proofs.stream.add_piece.Goals as goal

pub returns : goal.returns
returns c =
    let n = c.bytes-size.result in
    let s = contents (own_volume c.args.image.now) c.args.image.now c.args.e.id.0 in
    let front : length (take n c.args.piece.now) ≡ n = length-take-le n c.args.piece.now (omega (arith, c.bytes-size.ensures, c.requires.n_bound.1)) in
    let filled : take n (c.read_part.new.out ++ drop n c.args.piece.now) ≡ part s c.args.at (8 * c.args.n.0) =
    take_at c.read_part.new.out _ n (c.read_part.auto.out ∙ front) ∙ c.read_part.ensures ∙ ap (part s c.args.at) (front ∙ c.bytes-size.ensures) in
    c.add_records.ensures ∙ ap (λ b. sum_from b 0 c.args.n.0 c.args.before.0) filled ∙ sum_piece s c.args.at c.args.n.0 c.args.before.0
