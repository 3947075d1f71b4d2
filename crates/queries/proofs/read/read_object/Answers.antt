use borrow.Author.Rules.{rules}
use mathlib.Core.Path.{sym, ◌∙◌, ap}
use native.Mathlib.Omega.{arith}
use lib.ListN.{drop, length-append, length-drop}
use lib.Seq.{length-take-le}
use Rattle.format.specs.Basics.Bytes.{part}
use Rattle.format.specs.Layout.Stream.{contents}
use Rattle.spaces.specs.Spaces.{volume_in}
use Rattle.queries.proofs.AtEntry.{at_beyond, at_count, at_whole}
use Rattle.queries.proofs.StreamBytes.{contents_length}
use Rattle.queries.proofs.read.read_object.Goals as goal

pub returns-then-e-offset : goal.returns-then-e-offset
returns-then-e-offset c = let r = at_beyond _ _ c.args.img.now c.args.offset c.args.out.now c.requires.stream_at c.if-e-offset.true in record { result_value = r.0; out_after = r.1 }

pub slice_bounds-read_stream-end : goal.slice_bounds-read_stream-end
slice_bounds-read_stream-end c = omega (arith, c.least-n.ensures)

pub slice_bounds-read_stream-end-2 : goal.slice_bounds-read_stream-end-2
slice_bounds-read_stream-end-2 c = sym (length-take-le _ _ (omega (arith, c.least-n.ensures)))

pub read_stream-requires : goal.read_stream-requires
read_stream-requires c = let m = c.least-n.ensures in record { fact = c.requires.fact; stream_at = c.requires.stream_at; out_bound = omega (arith, m, c.if-e-offset.false, length-take-le c.least-n.result c.args.out.now (omega (arith, m))) }

pub returns : goal.returns
returns c =
    let a = c.args in
    let v = volume_in a.v a.img.now in
    let l = c.if-e-offset.false in
    let m = c.least-n.ensures in
    let n = c.least-n.result in
    let t = length-take-le n a.out.now (omega (arith, m)) in record {
      result_value = at_count _ v a.img.now a.offset a.out.now c.requires.stream_at (omega (arith, l)) n m;
      out_after = at_whole _ v a.img.now a.offset a.out.now c.requires.stream_at (omega (arith, l)) n m _
          (contents_length c.requires.fact c.requires.stream_at) (c.read_stream.auto.out ∙ t)
          (c.read_stream.ensures ∙ ap (λ k. part (contents v a.img.now a.e.id.0) a.offset k) t);
    }
