use Prim.Native.Nat.{◌<◌}
use mathlib.Core.Path.{◌≡◌}
use lib.ListN.{length, drop}
use Rattle.format.specs.Calls.Paths.{split}
use Rattle.format.specs.Calls.Find.{descend, resolve}
use Rattle.theory.specs.TreeFind.{reached}
use Rattle.directory.specs.Listed.{entries_of}
use Rattle.paths.proofs.find_entry.Given as goal

abbrev pub invariant-loop-name : goal.invariant-loop-name
invariant-loop-name l =
    let e = entries_of l.d l.img in
    (l.x.0 < e.count) × (resolve e l.path ≡ descend e (reached e l.x.0) (drop (length l.yielded) (split l.path)))
