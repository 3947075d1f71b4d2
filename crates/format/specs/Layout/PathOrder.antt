-- When two paths are equal, and which comes first. Both go name by name, and small letters count as capitals, as in names. The order is the
-- listing's: siblings as their names are ordered, and a path before all that is below it.
use Rattle.std.specs.Prelude.{Bool, true, false, cond, ◌&&◌, ◌||◌, List, [], ◌∷◌}
use Rattle.format.specs.Layout.Name.{Name, name_less, name_equal}

unfoldable pub same_path : List Name → List Name → Bool
same_path [] [] = true
same_path [] (b ∷ bs) = false
same_path (a ∷ more) [] = false
same_path (a ∷ more) (b ∷ bs) = name_equal a b && same_path more bs

-- the first name that differs decides; a beginning comes before what continues it
unfoldable pub path_less : List Name → List Name → Bool
path_less [] [] = false
path_less [] (b ∷ bs) = true
path_less (a ∷ more) [] = false
path_less (a ∷ more) (b ∷ bs) = name_less a b || (name_equal a b && path_less more bs)

-- the second path is that of something below the first
unfoldable pub is_below : List Name → List Name → Bool
is_below [] [] = false
is_below [] (b ∷ bs) = true
is_below (a ∷ more) [] = false
is_below (a ∷ more) (b ∷ bs) = name_equal a b && is_below more bs

-- x inserted by its path, which f gives: before the first that comes after it
unfoldable pub insert : {A : Type 0} → (A → List Name) → A → List A → List A
insert f x [] = x ∷ []
insert f x (y ∷ ys) = cond (path_less (f x) (f y)) (x ∷ (y ∷ ys)) (y ∷ insert f x ys)
