-- The heir of a node's left side: the way to it, and the walk down the right spine that finds it.
use mathlib.Core.Path.{◌≡◌, refl, ap}
use mathlib.Core.Logic.{◌≢◌}
use Prim.Native.Nat.{ℕ, ◌<◌}
use Rattle.format.specs.Layout.Entry.{NOSTREAM}
use Rattle.format.specs.Layout.Directory.{Directory}
use Rattle.format.specs.Layout.Tree.{Forest, empty, broken, node}
use Rattle.format.specs.Layout.Siblings.{greatest}
use Rattle.theory.specs.TreeViews.{rows, right_of, at, Standing}
use Rattle.theory.specs.TreeDraw.{Draws}
use Rattle.theory.specs.TreeWays.{here, into_right}
use Rattle.theory.specs.TreeHeir.{above_greatest, HeirWay, HeirWalk, HeirIs}
use Rattle.theory.proofs.Trees.Grow.{grow_none}
use Rattle.theory.proofs.Trees.Stand.{standing, right_stands}

pub heir_way : (d : Directory) (p e : ℕ) (l b r : Forest) → Draws d r → HeirWay p e l b r
unfolding greatest above_greatest
heir_way d p e l b empty q = record { way = here; lefts = l; below = b; tree = refl; right = tt; above = refl }
heir_way d p e l b broken q = absurd q
heir_way d p e l b (node l₂ e₂ b₂ r₂) q =
    let k = heir_way d e e₂ l₂ b₂ r₂ q.3 in
    record {
      way = into_right l e b k.way;
      lefts = k.lefts;
      below = k.below;
      tree = ap (λ (f : Forest). node l e b f) k.tree;
      right = k.right;
      above = k.above;
    }

module _ (d : Directory) (x y : ℕ) where
  pub heir_start : x < rows d → Standing d y → HeirWalk d x y x y
  heir_start h s = record { stands = s; inside = h; last = refl; above = refl }

  module _ (u z : ℕ) (w : HeirWalk d x y u z) where
    pub heir_step : right_of d z ≢ NOSTREAM → HeirWalk d x y z (right_of d z)
    unfolding greatest above_greatest
    heir_step h =
        let s = right_stands d z w.stands h in
        let t = (standing d (right_of d z) s).tree in
        record {
          stands = s;
          inside = w.stands.inside;
          last = (rw t at w.last);
          above = (rw t at w.above);
        }

    pub heir_end : right_of d z ≡ NOSTREAM → HeirIs d x y u z
    unfolding greatest above_greatest
    heir_end h =
        let t = grow_none d (rows d) (right_of d z) h in
        record { stands = w.stands; inside = w.inside; last = (rw t at w.last); above = (rw t at w.above) }
