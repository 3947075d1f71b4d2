use Rattle.std.proofs.Common.{◌≡◌, ◌+◌, ◌*◌, ◌%◌, ◌<◌, fold, take}
use Rattle.run_output.proofs.digest.Given as goal

abbrev pub invariant-loop-x : goal.invariant-loop-x
invariant-loop-x l =
    (l.h < 0x1_0000_0000) × (l.h ≡ fold (λ h x. (h * 16777619 + x) % 0x1_0000_0000) 1 (take l.x-index l.b))
