-- What a turn of the walk and the whole walk say by their answers.
use Prim.Native.Nat.{ℕ}
use mathlib.Core.Path.{◌≡◌, sym, ap, ◌∙◌, subst}
use mathlib.Core.Bool.{Bool, true, false}
use mathlib.Core.List.{List}
use Rattle.format.specs.Basics.Bytes.{Bytes}
use Rattle.format.specs.Basics.Lists.{all_below}
use Rattle.format.specs.Rules.Trees.{tree_rules}
use Rattle.theory.specs.TreeWalk.{covered}
use Rattle.directory.specs.Listed.{count_of, entries_of}
use Rattle.directory.specs.declared.Directory.{Directory as Where}
use Rattle.nodes.specs.Nodes.{marks_of}
use Rattle.nodes.proofs.Marks.{covered_reached}
use Rattle.tree_walk.specs.Walking.{Lent, Gone, Turned, TurnFrom}
use Rattle.tree_walk.specs.declared.State.{State}
use Rattle.tree_walk.proofs.Lends.{rows_are}
use Rattle.hierarchy.specs.Walked.{Walked, WalkLeft, reached_in}
use Rattle.tree_walk.specs.declared.Turn.{Turn}
use Rattle.tree_walk.specs.declared.Turn.TheVariants.{Go, Wrong, Done}

module _ {d : Where} {img : Bytes} {w : List ℕ} {q : Bool} {s : State} {v : List ℕ} {r : Turn} (l : TurnFrom d img w q s v r) where
  pub turn_on : {t : State} → r ≡ Go t → Gone d img w q s v t
  turn_on e = subst (Turned d img w q s v) e l.turned

  pub turn_wrong : r ≡ Wrong → tree_rules (entries_of d img) ≡ false
  turn_wrong e = subst (Turned d img w q s v) e l.turned

  pub turn_done : r ≡ Done → Lent d img v × (q ≡ true → covered (entries_of d img) (marks_of (entries_of d img) v) ≡ tree_rules (entries_of d img))
  turn_done e = subst (Turned d img w q s v) e l.turned

-- the verdict
module _ {d : Where} {img : Bytes} {w v : List ℕ} {r : Bool} (l : WalkLeft d img w v r) where
  pub walked_right : r ≡ true → {n : ℕ} {a : Bool} → n ≡ count_of d → a ≡ all_below n (reached_in v) → a ≡ tree_rules (entries_of d img)
  walked_right e {n} {a} en ea =
      let k : Walked d img v true = subst (Walked d img v) e l.walked in
      ea ∙ ap (λ (m : ℕ). all_below m (reached_in v)) (en ∙ sym (rows_are k.0)) ∙ sym (covered_reached (entries_of d img) v k.0.nodes) ∙ k.1
