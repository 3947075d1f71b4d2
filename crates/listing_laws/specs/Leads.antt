-- Where the paths of objects lead.
use Rattle.std.specs.Prelude.{ℕ, ◌≡◌, true, List, [], ◌∷◌}
use Rattle.format.specs.Basics.Lists.{all}
use Rattle.format.specs.Layout.Name.{Name, legal_name}
use Rattle.format.specs.Layout.Directory.{Directory}
use Rattle.format.specs.Layout.Tree.{Forest, forest}
use Rattle.format.specs.Layout.Objects.{Object, object_at}
use Rattle.format.specs.Calls.Find.{at, descend}

-- the names lead from the root to the entry e, with the tree t below it
abbrev pub Reached : Directory → List Name → ℕ → Forest → Type 0
Reached d ns e t = descend d (at 0 (forest d)) ns ≡ at e t

-- an object's path has legal names and leads to e, and the object says of e what is so
pub record Led (d : Directory) (o : Object) (e : ℕ) : Type 0 where
  pub below : Forest
  pub reached : Reached d o.path e below
  pub says : o ≡ object_at d e o.path
  pub legal : all legal_name o.path ≡ true

-- of each object of a list and the entry at its place in another
abbrev pub AllLed : Directory → List Object → List ℕ → Type 0
AllLed d [] [] = Unit {0}
AllLed d [] (e ∷ es) = ⊥
AllLed d (o ∷ os) [] = ⊥
AllLed d (o ∷ os) (e ∷ es) = Led d o e × AllLed d os es
