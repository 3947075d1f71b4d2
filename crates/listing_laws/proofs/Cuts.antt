-- A text cut at a byte that its first part lacks: lines, words and names.
use Prim.Native.Nat.{ℕ}
use mathlib.Core.Path.{◌≡◌, refl, ap}
use mathlib.Core.Logic.{◌≢◌}
use mathlib.Core.Bool.{true, false, not}
use mathlib.Core.List.{[], ◌∷◌, ◌++◌}
use lib.Dec.{eqb}
use borrow.Author.Tests.{not-true, ne_eqb}
use Rattle.format.specs.Basics.Lists.{all}
use Rattle.format.specs.Basics.Bytes.{Bytes}
use Rattle.format.specs.Layout.Name.{slash}
use Rattle.format.specs.Calls.Paths.{push_front, split}
use Rattle.format.specs.Calls.Text.{newline, space}
use Rattle.format.specs.Claims.ListingText.{lines_of, first_word, other_words}
use Rattle.theory.proofs.Tests.{both}
use Rattle.listing_laws.specs.Text.{is_other, lacks}

pub lacks_cons : (x c : ℕ) (cs : Bytes) → c ≢ x → lacks x cs ≡ true → lacks x (c ∷ cs) ≡ true
unfolding all is_other
lacks_cons x c cs h k = rw (ne_eqb c x h, k)

first_other : (x c : ℕ) (cs : Bytes) → lacks x (c ∷ cs) ≡ true → (eqb c x ≡ false) × (lacks x cs ≡ true)
unfolding all is_other
first_other x c cs h = let p = both (not (eqb c x)) (lacks x cs) h in (not-true (eqb c x) p.0, p.1)

pub lines_cut : (x ys : Bytes) → lacks newline x ≡ true → lines_of (x ++ (newline ∷ ys)) ≡ x ∷ lines_of ys
unfolding lines_of push_front
lines_cut [] ys h = refl
lines_cut (c ∷ x) ys h = let p = first_other newline c x h in rw (p.0, lines_cut x ys p.1)

pub word_cut : (x ys : Bytes) → lacks space x ≡ true → (first_word (x ++ (space ∷ ys)) ≡ x) × (other_words (x ++ (space ∷ ys)) ≡ ys)
unfolding first_word other_words
word_cut [] ys h = (refl, refl)
word_cut (c ∷ x) ys h =
    let p = first_other space c x h in
    let r = word_cut x ys p.1 in
    (rw p.0 (ap (λ t. c ∷ t) r.0), rw p.0 r.1)

pub split_cut : (x ys : Bytes) → lacks slash x ≡ true → split (x ++ (slash ∷ ys)) ≡ x ∷ split ys
unfolding split push_front
split_cut [] ys h = refl
split_cut (c ∷ x) ys h = let p = first_other slash c x h in rw (p.0, split_cut x ys p.1)

pub split_whole : (x : Bytes) → lacks slash x ≡ true → split x ≡ x ∷ []
unfolding split push_front
split_whole [] h = refl
split_whole (c ∷ x) h = let p = first_other slash c x h in rw (p.0, split_whole x p.1)
