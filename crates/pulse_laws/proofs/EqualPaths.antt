-- Paths that are equal as names.
use mathlib.Core.Path.{◌≡◌, refl, sym, ap₂, ◌∙◌}
use mathlib.Core.Bool.{true, ◌&&◌}
use mathlib.Core.List.{List, [], ◌∷◌}
use Rattle.format.specs.Layout.Name.{Name, name_equal}
use Rattle.format.specs.Layout.PathOrder.{same_path}
use Rattle.theory.proofs.Tests.{both, clash}
use Rattle.theory.proofs.Trees.PathOrder.{name_alike, same_self}

-- they are equal to the same paths
pub same_alike : (a b c : List Name) → same_path a b ≡ true → same_path a c ≡ same_path b c
unfolding same_path
same_alike [] [] c h = refl
same_alike [] (b ∷ bs) c h = absurd (clash h refl)
same_alike (a ∷ more) [] c h = absurd (clash h refl)
same_alike (a ∷ more) (b ∷ bs) [] h = refl
same_alike (a ∷ more) (b ∷ bs) (c ∷ cs) h =
    let u = both (name_equal a b) (same_path more bs) h in
    ap₂ ◌&&◌ (name_alike a b c u.0) (same_alike more bs cs u.1)

pub same_sym : (a b : List Name) → same_path a b ≡ true → same_path b a ≡ true
same_sym a b h = sym (same_alike a b a h) ∙ same_self a
