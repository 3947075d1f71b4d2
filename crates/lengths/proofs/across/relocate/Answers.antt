use borrow.Author.Rules.{rules}
use mathlib.Core.Path.{◌≡◌, ◌∙◌}
use native.Mathlib.Omega.{arith}
use lib.ListN.{take}
use Rattle.format.specs.Layout.Stream.{contents}
use Rattle.spaces.specs.Spaces.{volume_in}
use Rattle.lengths.proofs.MoveAnswers.{kept_are}
use Rattle.lengths.proofs.across.relocate.Goals as goal

pub read_stream-requires : goal.read_stream-requires
read_stream-requires c = record { fact = c.requires.fact; stream_at = c.requires.stream_at; out_bound = omega (arith, c.requires.kept_len) }

pub refill-requires : goal.refill-requires
refill-requires c =
    let kept : let a = c.args in c.read_stream.new.out ≡ take a.new (contents (volume_in a.v a.img.now) a.img.now a.e.id.0) = c.read_stream.ensures ∙ kept_are c.requires.fact c.requires.stream_at c.args.new c.requires.value c.requires.kept_len in
    record { fact = c.requires.fact; stream_at = c.requires.stream_at; value = c.requires.value; both_listed = c.requires.both_listed; bytes_value = kept }

pub returns : goal.returns
returns c =
    let kept : let a = c.args in c.read_stream.new.out ≡ take a.new (contents (volume_in a.v a.img.now) a.img.now a.e.id.0) = c.read_stream.ensures ∙ kept_are c.requires.fact c.requires.stream_at c.args.new c.requires.value c.requires.kept_len in
    record { image = c.refill.ensures.image; bytes = kept; wrote = c.refill.ensures.wrote }
