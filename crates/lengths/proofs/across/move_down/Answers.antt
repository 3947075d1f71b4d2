use borrow.Author.Rules.{rules}
use Prim.Native.Nat.{◌+◌, ◌-◌}
use mathlib.Core.Logic.{⊎_elim}
use native.Mathlib.Omega.{arith}
use Rattle.lengths.proofs.Shifts.{copied_front}
use Rattle.lengths.proofs.across.move_down.Goals as goal

pub returns : goal.returns
returns c =
    let a = c.args in
    let e = c.copy_within.ensures in
    record {
      front = copied_front a.work.now a.from a.n (a.from + a.n - a.from) c.requires (omega arith) e.after;
      wrote = record { long = e.len; outside = λ i p. e.by_index.2 i 0 (⊎_elim (λ q. omega arith) (λ q. omega arith) p) };
    }
