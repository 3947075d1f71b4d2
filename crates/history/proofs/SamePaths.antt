-- Where directories look alike, every path leads to the same entry.
use mathlib.Core.Path.{◌≡◌, refl}
use mathlib.Core.List.{List, [], ◌∷◌}
use Rattle.format.specs.Layout.Name.{Name}
use Rattle.format.specs.Layout.Directory.{Directory}
use Rattle.format.specs.Layout.Tree.{Forest, empty, broken, node, forest}
use Rattle.format.specs.Calls.Paths.{Path, names}
use Rattle.format.specs.Calls.Find.{child_named, Found, at, refused, enter, descend, resolve, need_stream, resolve_stream}
use Rattle.history.specs.Alike.{Alike}
use Rattle.history.proofs.Alike.{forest_same}

module _ (d d' : Directory) (a : Alike d d') where
  child_same : (n : Name) (t : Forest) → child_named d' n t ≡ child_named d n t
  unfolding child_named
  child_same n empty = refl
  child_same n broken = refl
  child_same n (node l e b r) = rw (child_same n l, child_same n r, a.name e)

  enter_same : (f : Found) (n : Name) → enter d' f n ≡ enter d f n
  unfolding enter
  enter_same (at e b) n = rw (a.kind e, child_same n b)
  enter_same (refused k) n = refl

  descend_same : (ns : List Name) (f : Found) → descend d' f ns ≡ descend d f ns
  unfolding descend
  descend_same [] f = refl
  descend_same (n ∷ ns) f = rw (enter_same f n) (descend_same ns (enter d f n))

  pub resolve_same : (p : Path) → resolve d' p ≡ resolve d p
  unfolding resolve
  resolve_same p = rw (forest_same d d' a, descend_same (names p) (at 0 (forest d)))

  need_same : (f : Found) → need_stream d' f ≡ need_stream d f
  unfolding need_stream
  need_same (at e b) = rw (a.kind e)
  need_same (refused k) = refl

  pub resolve_stream_same : (p : Path) → resolve_stream d' p ≡ resolve_stream d p
  unfolding resolve_stream
  resolve_stream_same p = rw (resolve_same p) (need_same (resolve d p))
