use mathlib.Core.Path.{◌∙◌}
use mathlib.Core.List.{[]}
use Rattle.format.specs.Calls.Call.{read_at}
use Rattle.opened.specs.Sequence.{lent}
use Rattle.opened.proofs.Calls.{long_reply, long_out}
use Rattle.opened.proofs.read_at_opened.Goals as goal

pub returns : goal.returns
unfolding lent
returns c =
    let a = c.args in
    let q = read_at a.entry.0 a.position a.out.now [] in
    record {
      result_value = c.read_at_in.ensures.result_value ∙ long_reply c.requires q _ c.requires.room;
      out_after = c.read_at_in.ensures.out_after ∙ long_out c.requires q _ c.requires.room;
    }
