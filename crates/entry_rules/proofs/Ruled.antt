-- What the whole group says of names.
use mathlib.Core.Path.{◌≡◌}
use mathlib.Core.Bool.{true}
use native.Mathlib.Omega.{arith}
use Rattle.format.specs.Layout.Directory.{Directory}
use Rattle.format.specs.Rules.Entries.{entry_right, entry_rules}
use Rattle.theory.proofs.Tests.{below_at}
use Rattle.directory.specs.Listed.{Ruled}
use Rattle.entry_rules.proofs.Fields.{name_fits}

-- group 14 holds: every name but the root's lies in its place
pub ruled : (e : Directory) → entry_rules e ≡ true → Ruled e
unfolding entry_rules entry_right
ruled e h = record { names = λ x p l. record { inside = l; named = name_fits x (e.entry x) (omega arith) (below_at e.count (entry_right e) h x l) } }
