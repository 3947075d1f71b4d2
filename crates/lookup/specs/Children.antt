-- The child of a name among siblings, and what an answer about it says.
use Rattle.std.specs.Prelude.{ℕ, Option, Some, None}
use Rattle.format.specs.Layout.Name.{Name}
use Rattle.format.specs.Layout.Directory.{Directory}
use Rattle.format.specs.Calls.Find.{Child, missing, present, child_named}
use Rattle.theory.specs.TreeViews.{child_of, at}
use Rattle.kinds.specs.declared.EntryId.{EntryId}

-- the child of a name in the tree that `top` names
abbrev pub child_among : Directory → Name → ℕ → Child
child_among e want top = child_named e want (at e top)

abbrev pub answer_of : Directory → Option EntryId → Child
answer_of e None = missing
answer_of e (Some x) = present x.0 (at e (child_of e x.0))
