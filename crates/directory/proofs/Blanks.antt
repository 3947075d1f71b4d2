-- The search for the lowest blank entry: none below the one at hand is blank.
use mathlib.Core.Path.{◌≡◌, sym, ap, ◌∙◌}
use mathlib.Core.Bool.{true, false}
use mathlib.Core.List.{List, [], ◌∷◌, ◌++◌}
use Prim.Native.Nat.{ℕ, ◌+◌, ◌≤◌, ◌<◌}
use native.Mathlib.Omega.{arith}
use native.Mathlib.Decide.{ℕ_discrete}
use lib.ListN.{length, get_or}
use Rattle.format.specs.Basics.Lists.{pick_below}
use Rattle.format.specs.Layout.Directory.{Directory, blank_at, blanks}
use Rattle.format.specs.Calls.Create.{lowest_blank}
use Rattle.theory.proofs.Picks.{pick_skip, pick_more, pick_front}

pub record NoneBlank (e : Directory) (i : ℕ) : Type 0 where
  pub most : i ≤ e.count
  pub none : (u : ℕ) → u < i → blank_at e u ≡ false

pub none_start : (e : Directory) → NoneBlank e 0
none_start e = record { most = omega arith; none = λ u h. absurd (omega arith) }

module _ {e : Directory} {i : ℕ} (n : NoneBlank e i) where
  pub none_step : i < e.count → blank_at e i ≡ false → NoneBlank e (i + 1)
  none_step h b = record {
    most = omega arith;
    none = λ u l. elim (ℕ_discrete u i) [
      | yes q ↦ rw q b
      | no q ↦ n.none u (omega arith)
    ];
  }

  none_before : pick_below i (blank_at e) ≡ []
  none_before = pick_skip (blank_at e) 0 i (omega arith) (λ u a b. n.none u b)

  pub none_found : i < e.count → blank_at e i ≡ true → (i < e.count) × ((0 < length (blanks e)) × (i ≡ lowest_blank e))
  unfolding blanks lowest_blank
  none_found h b =
      let f = pick_front (blank_at e) (i + 1) e.count (omega arith) in
      let q : blanks e ≡ i ∷ f.0 = f.1 ∙ ap (λ (xs : List ℕ). xs ++ f.0) (pick_more (blank_at e) i b ∙ ap (λ (xs : List ℕ). xs ++ (i ∷ [])) none_before) in
      (h, (omega (arith, ap length q), sym (ap (λ (xs : List ℕ). get_or xs 0 0) q)))

  pub none_left : e.count ≤ i → blanks e ≡ []
  unfolding blanks
  none_left h = let q : e.count ≡ i = omega (arith, n.most) in ap (λ k. pick_below k (blank_at e)) q ∙ none_before
