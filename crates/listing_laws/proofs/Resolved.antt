-- A path leads to an entry exactly if it is the root's or equals, as names, a listed object's; else it is refused by 21 or 22.
use Prim.Native.Nat.{ℕ}
use mathlib.Core.Path.{◌≡◌, refl, ◌∙◌}
use mathlib.Core.Logic.{◌⊎◌, inl, inr}
use mathlib.Core.Bool.{Bool, true, false, cond, ◌||◌}
use mathlib.Core.List.{List, [], ◌∷◌}
use Rattle.format.specs.Basics.Lists.{all, any}
use Rattle.format.specs.Layout.Name.{Name, legal_name}
use Rattle.format.specs.Layout.PathOrder.{same_path}
use Rattle.format.specs.Layout.Directory.{Directory}
use Rattle.format.specs.Layout.Tree.{Forest, forest, entries}
use Rattle.format.specs.Layout.Objects.{Object, objects_of}
use Rattle.format.specs.Calls.Paths.{Path, names, well_formed}
use Rattle.format.specs.Calls.Find.{Found, at, refused, descend, resolve, answer_of}
use Rattle.format.specs.Claims.Listing.{is_named, is_known}
use Rattle.theory.proofs.Tests.{clash}
use Rattle.theory.proofs.Refusals.{RefusedBy, descend_refused_by}
use Rattle.listing_laws.specs.Leads.{Reached, Led, AllLed}
use Rattle.listing_laws.proofs.Descents.{refused_not_at, descend_alike, legal_alike, descend_listed}

-- an object of these names, where there is one
named_led : (d : Directory) (ns : List Name) (os : List Object) (es : List ℕ) → AllLed d os es → any (is_named ns) os ≡ true →
    (o : Object) × (e : ℕ) × Led d o e × (same_path ns o.path ≡ true)
unfolding any is_named
named_led d ns [] es k h = absurd (clash h refl)
named_led d ns (o ∷ os) [] k h = absurd k
named_led d ns (o ∷ os) (e ∷ es) k h = go (same_path ns o.path) refl h (named_led d ns os es k.1)
  where
    go : (t : Bool) → same_path ns o.path ≡ t → (t || any (is_named ns) os) ≡ true →
        (any (is_named ns) os ≡ true → (o : Object) × (e : ℕ) × Led d o e × (same_path ns o.path ≡ true)) → (o : Object) × (e : ℕ) × Led d o e × (same_path ns o.path ≡ true)
    go true s h r = (o, e, k.0, s)
    go false s h r = r h

module _ (d : Directory) (p : Path) where
  resolve_legal : all legal_name (names p) ≡ true → resolve d p ≡ descend d (at 0 (forest d)) (names p)
  unfolding resolve well_formed
  resolve_legal h = rw h

  resolve_at : (e : ℕ) (b : Forest) → resolve d p ≡ at e b → Reached d (names p) e b
  unfolding resolve
  resolve_at e b h = go (well_formed p) h
    where
      go : (t : Bool) → cond t (descend d (at 0 (forest d)) (names p)) (refused 20) ≡ at e b → Reached d (names p) e b
      go true k = k
      go false k = absurd (refused_not_at 20 e b k)

  -- a path whose names equal those of an object's path leads to that object's entry
  pub resolve_led : (o : Object) (e : ℕ) (l : Led d o e) → same_path (names p) o.path ≡ true → resolve d p ≡ at e l.below
  resolve_led o e l s = resolve_legal (legal_alike (names p) o.path s l.legal) ∙ descend_alike d (at 0 (forest d)) (names p) o.path s ∙ l.reached

  pub found_known : (e : ℕ) (b : Forest) → resolve d p ≡ at e b → is_known (objects_of d) (names p) ≡ true
  unfolding is_known objects_of same_path
  found_known e b h = go (names p) (resolve_at e b h)
    where
      go : (ns : List Name) → Reached d ns e b → is_known (objects_of d) ns ≡ true
      go [] k = refl
      go (n ∷ ns) k = descend_listed d ns n 0 (forest d) [] [] e b refl k

  pub known_found : AllLed d (objects_of d) (entries (forest d)) → is_known (objects_of d) (names p) ≡ true → (e : ℕ) × (b : Forest) × (resolve d p ≡ at e b)
  unfolding is_known all descend
  known_found led h = go (names p) refl h
    where
      go : (ns : List Name) → names p ≡ ns → is_known (objects_of d) ns ≡ true → (e : ℕ) × (b : Forest) × (resolve d p ≡ at e b)
      go [] q k = (0, forest d, resolve_legal (rw q refl) ∙ rw q)
      go (n ∷ ns) q k =
          let w = named_led d (n ∷ ns) (objects_of d) (entries (forest d)) led k in
          (w.1, w.2.below, resolve_led w.0 w.1 w.2 (rw q w.3))

  pub unknown_refused : well_formed p ≡ true → is_known (objects_of d) (names p) ≡ false → (answer_of (resolve d p) ≡ 21) ⊎ (answer_of (resolve d p) ≡ 22)
  unfolding answer_of well_formed
  unknown_refused w h = go (resolve d p) refl (rw (← (resolve_legal w)) at (descend_refused_by (λ a. (a ≡ 21) ⊎ (a ≡ 22)) (inl refl) (inr refl) d (names p) (at 0 (forest d)) tt))
    where
      go : (f : Found) → resolve d p ≡ f → RefusedBy (λ a. (a ≡ 21) ⊎ (a ≡ 22)) f → (answer_of f ≡ 21) ⊎ (answer_of f ≡ 22)
      go (at e b) q k = absurd (clash (found_known e b q) h)
      go (refused a) q k = k
