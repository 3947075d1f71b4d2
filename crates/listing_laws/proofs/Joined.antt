-- The path that legal names make has these names again.
use mathlib.Core.Path.{◌≡◌, refl, ap, ◌∙◌}
use mathlib.Core.Bool.{true, false}
use mathlib.Core.List.{List, [], ◌∷◌}
use Rattle.format.specs.Basics.Lists.{all}
use Rattle.format.specs.Layout.Name.{Name, slash, legal_unit, legal_name}
use Rattle.format.specs.Calls.Paths.{split, names, joined}
use Rattle.theory.proofs.Tests.{clash, both, all_weaker}
use Rattle.listing_laws.specs.Text.{is_other, lacks}
use Rattle.listing_laws.proofs.Cuts.{split_cut, split_whole}
use Rattle.listing_laws.proofs.Texts.{legal_units, unit_no_slash}

legal_no_slash : (n : Name) → legal_name n ≡ true → lacks slash n ≡ true
legal_no_slash n h = all_weaker legal_unit (is_other slash) unit_no_slash n (legal_units n h)

split_joined : (n : Name) (ns : List Name) → all legal_name (n ∷ ns) ≡ true → split (joined (n ∷ ns)) ≡ n ∷ ns
unfolding joined all
split_joined n [] h = split_whole n (legal_no_slash n (both (legal_name n) true h).0)
split_joined n (m ∷ ns) h =
    let p = both (legal_name n) (all legal_name (m ∷ ns)) h in
    split_cut n (joined (m ∷ ns)) (legal_no_slash n p.0) ∙ ap (λ t. n ∷ t) (split_joined m ns p.1)

none_illegal : legal_name [] ≡ false
unfolding legal_name
none_illegal = refl

pub names_joined : (ns : List Name) → all legal_name ns ≡ true → names (joined ns) ≡ ns
unfolding names joined all
names_joined [] h = refl
names_joined ([] ∷ ns) h = absurd (clash (both (legal_name []) (all legal_name ns) h).0 none_illegal)
names_joined ((u ∷ us) ∷ []) h = split_joined (u ∷ us) [] h
names_joined ((u ∷ us) ∷ m ∷ ns) h = split_joined (u ∷ us) (m ∷ ns) h
