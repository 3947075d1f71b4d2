-- A change of length on a good volume: which units the stream gets, and in which space.
use Prim.Native.Nat.{ℕ, ◌+◌, ◌≤◌, ◌<◌, max}
use mathlib.Core.Path.{◌≡◌, refl, sym, ap, ◌∙◌, subst}
use mathlib.Core.Logic.{◌⊎◌, inl, inr}
use mathlib.Core.Bool.{Bool, true, false, ◌&&◌}
use mathlib.Core.List.{List, [], ◌∷◌, ◌++◌}
use native.Mathlib.Omega.{arith}
use native.Mathlib.Decide.{ℕ_discrete, dec_lt}
use lib.Dec.{ltb, leb}
use lib.ListN.{length, take, length-append}
use lib.Seq.{length-take-le}
use borrow.Author.Tests.{lt-ltb, le-ltb, le-leb}
use Rattle.format.specs.Layout.Need.{cutoff, round_up}
use Rattle.format.specs.Layout.Space.{Space, free_units}
use Rattle.format.specs.Layout.Chain.{free_below}
use Rattle.format.specs.Layout.Entry.{is_stream}
use Rattle.format.specs.Layout.Volume.{Volume}
use Rattle.format.specs.Layout.Stream.{space_for, stream_units, stream_size}
use Rattle.format.specs.Calls.SetLength.{small, crosses, edit_space, new_units}
use Rattle.theory.specs.Links.{Linked}
use Rattle.theory.specs.Owned.{MayBecome}
use Rattle.theory.proofs.FreeUnits.{resized_becomes}
use Rattle.theory.proofs.RoundUp.{round_zero}
use Rattle.theory.proofs.Tests.{clash, neither}
use Rattle.frame.specs.Good.{space_of, Good}

-- two lengths that do not cross lie in the space of the greater, or are 0
pub sides_uncrossed : (old new : ℕ) → crosses old new ≡ false →
    ((ltb old cutoff ≡ ltb (max old new) cutoff) ⊎ (old ≡ 0)) × ((ltb new cutoff ≡ ltb (max old new) cutoff) ⊎ (new ≡ 0))
unfolding crosses small cutoff
sides_uncrossed old new h =
    let a = (neither (leb 1 old && ltb old 4096 && leb 4096 new) (leb 4096 old && (leb 1 new && ltb new 4096)) h).0 in
    let b = (neither (leb 1 old && ltb old 4096 && leb 4096 new) (leb 4096 old && (leb 1 new && ltb new 4096)) h).1 in
    elim (dec_lt old 4096) [
      | yes p ↦
          elim (dec_lt new 4096) [
            | yes q ↦
                (inl (lt-ltb old 4096 p ∙ sym (lt-ltb (max old new) 4096 (omega arith))), inl (lt-ltb new 4096 q ∙ sym (lt-ltb (max old new) 4096 (omega arith))))
            | no q ↦ (
              elim (ℕ_discrete old 0) [
                | yes z ↦ inr z
                | no z ↦ absurd (clash (rw (le-leb 1 old (omega arith), lt-ltb old 4096 p, le-leb 4096 new (omega arith))) a)
              ],
              inl (le-ltb new 4096 (omega arith) ∙ sym (le-ltb (max old new) 4096 (omega arith))),
            )
          ]
      | no p ↦ (
        inl (le-ltb old 4096 (omega arith) ∙ sym (le-ltb (max old new) 4096 (omega arith))),
        elim (dec_lt new 4096) [
          | no q ↦ inl (le-ltb new 4096 (omega arith) ∙ sym (le-ltb (max old new) 4096 (omega arith)))
          | yes q ↦
              elim (ℕ_discrete new 0) [
                | yes z ↦ inr z
                | no z ↦ absurd (clash (rw (le-leb 4096 old (omega arith), le-leb 1 new (omega arith), lt-ltb new 4096 q)) b)
              ]
        ],
      )
    ]

new_units_in : (v : Volume) (e new : ℕ) → new_units v e new ≡ take (round_up new (space_of v (ltb (max (stream_size v e) new) cutoff)).unit)
    (stream_units v e ++ free_units (space_of v (ltb (max (stream_size v e) new) cutoff)))
unfolding new_units edit_space space_for
new_units_in v e new = refl

module _ (v : Volume) (o : Good v) (e new : ℕ) (inside : e < v.directory.count) (stream : is_stream (v.directory.entry e) ≡ true)
    (within : crosses (stream_size v e) new ≡ false) where
  abbrev old : ℕ
  old = stream_size v e

  abbrev side : Bool
  side = ltb (max old new) cutoff

  abbrev sp : Space
  sp = space_of v side

  abbrev us : List ℕ
  us = stream_units v e

  sides : ((ltb old cutoff ≡ side) ⊎ (old ≡ 0)) × ((ltb new cutoff ≡ side) ⊎ (new ≡ 0))
  sides = sides_uncrossed old new within

  pub no_units : old ≡ 0 → us ≡ []
  no_units z =
      let c = o.chains e inside stream in
      let k : length us ≡ 0 = c.long ∙ ap (λ n. round_up n (space_of v (ltb old cutoff)).unit) z
      ∙ round_zero (space_of v (ltb old cutoff)).unit (o.unit (ltb old cutoff)) in
      go us k
    where
      go : (xs : List ℕ) → length xs ≡ 0 → xs ≡ []
      go [] h = refl
      go (x ∷ xs) h = absurd (omega arith)

  pub old_side : (ltb old cutoff ≡ side) ⊎ (us ≡ [])
  old_side = elim sides.0 [ inl h ↦ inl h | inr z ↦ inr (no_units z) ]

  pub old_units_linked : Linked sp.cell sp.limit us
  old_units_linked =
      elim old_side [
        | inl h ↦ subst (λ b. Linked (space_of v b).cell (space_of v b).limit us) h (o.chains e inside stream).linked
        | inr z ↦ rw z tt
      ]

  pub old_units_length : length us ≡ round_up old sp.unit
  old_units_length =
      elim sides.0 [
        | inl h ↦ subst (λ b. length us ≡ round_up old (space_of v b).unit) h (o.chains e inside stream).long
        | inr z ↦ ap length (no_units z) ∙ sym (ap (λ n. round_up n sp.unit) z ∙ round_zero sp.unit (o.unit side))
      ]

  pub new_units_are : new_units v e new ≡ take (round_up new sp.unit) (us ++ free_below sp.cell sp.limit)
  unfolding free_units
  new_units_are = new_units_in v e new

  pub new_units_become : MayBecome sp.limit sp.cell us (new_units v e new)
  new_units_become = rw new_units_are (resized_becomes sp.cell sp.limit (o.lim side) us old_units_linked (round_up new sp.unit))

  module _ (enough : round_up new sp.unit ≤ length us + length (free_units sp)) where
    pub new_units_length : length (new_units v e new) ≡ round_up new sp.unit
    new_units_length = ap length (new_units_in v e new) ∙ length-take-le (round_up new sp.unit) (us ++ free_units sp) (rw (length-append us (free_units sp)) enough)
