use native.Mathlib.Omega.{arith}
use mathlib.Core.Path.{sym}
use Rattle.cfbls.proofs.Output.{written, room, output_over, listed, refused}
use Rattle.cfbls.proofs.report.Goals as goal

pub put_refused-requires : goal.put_refused-requires
put_refused-requires c = room c.requires.out_len

pub returns-then-input-gt65536 : goal.returns-then-input-gt65536
returns-then-input-gt65536 c = let r = written _ _ c.put_refused.ensures.count c.put_refused.ensures.written (sym (output_over _ c.args.input.now (omega arith))) in record { upper_bound = r.0; out_after = r.1 }

pub put_refused-requires-in-Err : goal.put_refused-requires-in-Err
put_refused-requires-in-Err c = omega (arith, room c.requires.out_len, c.list.auto)

pub returns-in-Ok : goal.returns-in-Ok
returns-in-Ok c = let r = listed _ c.args.input.now c.args.out.now c.args.work.now (omega arith) c.requires.work_len c.requires.out_len c.in-Ok.n c.in-Ok.ensures.result_value c.list.ensures.out_after in record { upper_bound = r.0; out_after = r.1 }

pub returns-in-Err : goal.returns-in-Err
returns-in-Err c = let q = refused _ c.args.input.now c.args.out.now c.args.work.now (omega arith) c.requires.work_len c.requires.out_len c.in-Err.a c.in-Err.ensures.result_value in let r = written _ _ c.put_refused-in-Err.ensures.count c.put_refused-in-Err.ensures.written q in record { upper_bound = r.0; out_after = r.1 }
