-- The order of paths is one that a list can be sorted by; lists of paths that are, and that have no path twice.
use Rattle.std.specs.Prelude.{◌≡◌, ◌⊎◌, Bool, true, false, not, ◌&&◌, List, [], ◌∷◌}
use Rattle.format.specs.Basics.Lists.{all}
use Rattle.format.specs.Layout.Name.{Name}
use Rattle.format.specs.Layout.PathOrder.{path_less, same_path}

-- two paths are equal, or one of them comes first
pub record PathsOrdered : Type 0 where
  pub strict : (p : List Name) → path_less p p ≡ false
  pub trans : (p q r : List Name) → path_less p q ≡ true → path_less q r ≡ true → path_less p r ≡ true
  pub apart : (p q : List Name) → path_less p q ≡ true → same_path p q ≡ false
  pub total : (p q : List Name) → (path_less p q ≡ true) ⊎ ((same_path p q ≡ true) ⊎ (path_less q p ≡ true))

-- each path comes before every later one
unfoldable pub rising : List (List Name) → Bool
rising [] = true
rising (p ∷ ps) = all (path_less p) ps && rising ps

unfoldable pub other_path : List Name → List Name → Bool
other_path p q = not (same_path p q)

-- no two are equal as names
unfoldable pub none_twice : List (List Name) → Bool
none_twice [] = true
none_twice (p ∷ ps) = all (other_path p) ps && none_twice ps
