use mathlib.Core.Path.{◌∙◌}
use mathlib.Core.List.{[]}
use Rattle.format.specs.Calls.Call.{list}
use Rattle.opened.specs.Sequence.{lent}
use Rattle.opened.proofs.Calls.{long_reply, long_out, opened_same}
use Rattle.opened.proofs.list_opened.Goals as goal

pub returns : goal.returns
unfolding lent
returns c =
    let q = list c.args.out.now [] in
    let l = opened_same c.requires c.list_in.ensures.wrote in
    record {
      result_value = c.list_in.ensures.result_value ∙ long_reply c.requires q _ c.requires.room;
      out_after = c.list_in.ensures.out_after ∙ long_out c.requires q _ c.requires.room;
      open_volume = l.0;
      wrote = l.1;
    }
