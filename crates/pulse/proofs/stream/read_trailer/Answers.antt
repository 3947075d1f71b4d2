use Prim.Native.Nat.{◌-◌}
use mathlib.Core.Path.{sym, ap, ◌∙◌}
use native.Mathlib.Omega.{arith}
use Rattle.format.specs.Basics.Bytes.{part}
use Rattle.format.specs.Layout.Stream.{contents}
use Rattle.format.specs.Rules.Version.{own_volume}
use Rattle.pulse_records.specs.Records.{trailer_in}
use Rattle.pulse.proofs.Listed.{stream_long}
use Rattle.pulse.proofs.Parsing.{trailer_read}
use Rattle.pulse.proofs.stream.read_trailer.Goals as goal

pub returns : goal.returns
returns c =
    let s = contents (own_volume c.args.image.now) c.args.image.now c.args.e.id.0 in
    let l = stream_long c.requires.open_stream.opened c.requires.open_stream.stream in
    c.trailer_at.ensures
    ∙ ap trailer_in (c.read_part.ensures ∙ ap (λ n. part s (n - 16) 16) (sym l))
    ∙ trailer_read s (omega (arith, l, c.requires.le_size))
