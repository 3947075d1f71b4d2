-- Group 18 says that every unit has one owner: the system, or the stream of one entry.
use Prim.Native.Nat.{ℕ, zero, suc, ◌+◌, ◌≤◌, ◌<◌}
use mathlib.Core.Path.{◌≡◌, refl, sym, ap, ◌∙◌}
use mathlib.Core.Logic.{◌≢◌}
use mathlib.Core.Bool.{Bool, true, false, cond, ◌&&◌, beq}
use mathlib.Core.List.{List, []}
use native.Mathlib.Omega.{arith}
use native.Mathlib.Decide.{dec_lt}
use lib.ListN.{length, get_or}
use borrow.Author.Tests.{eqb-true, eq-eqb}
use Rattle.format.specs.Basics.Lists.{join_below, count}
use Rattle.format.specs.Layout.Need.{cutoff}
use Rattle.format.specs.Layout.Chain.{FREE}
use Rattle.format.specs.Layout.Space.{Space}
use Rattle.format.specs.Layout.Entry.{is_stream}
use Rattle.format.specs.Layout.Volume.{Volume, system_sectors, directory}
use Rattle.format.specs.Layout.Stream.{stream_units, stream_size}
use Rattle.format.specs.Rules.Owners.{own_sectors, own_minis, owned_sectors, owned_minis, owner_rule, owners_in, owner_right}
use Rattle.theory.specs.Links.{Linked}
use Rattle.theory.specs.Sums.{owners}
use Rattle.theory.specs.Owned.{Owned}
use Rattle.theory.proofs.Counts.{count_append}
use Rattle.theory.proofs.OwnerCounts.{owner_place, count_join}
use Rattle.theory.proofs.Chains.{linked_below}
use Rattle.theory.proofs.Tests.{leb_not, below_at, below_of, clash, beq_true, beq_false}
use Rattle.theory.proofs.Below.{join_ext}
use Rattle.frame.specs.Good.{space_of, units_of, entry_units, side_of}

owner_rule_says : (n c : ℕ) → owner_rule n c ≡ true → (n ≤ 1) × (n ≡ 0 → c ≡ FREE)
unfolding owner_rule
owner_rule_says zero c h = (omega arith, λ z. eqb-true c FREE h)
owner_rule_says (suc zero) c h = (omega arith, λ z. absurd (omega arith))
owner_rule_says (suc (suc n)) c h = absurd (clash h refl)

owner_rule_holds : (n c : ℕ) → n ≤ 1 → (n ≡ 0 → c ≡ FREE) → owner_rule n c ≡ true
unfolding owner_rule
owner_rule_holds zero c h z = eq-eqb c FREE (z refl)
owner_rule_holds (suc zero) c h z = refl
owner_rule_holds (suc (suc n)) c h z = absurd (omega arith)

pub make_owned : (sp : Space) (sys : List ℕ) (L : List (List ℕ)) (them : List ℕ) → ((s : ℕ) → count s them ≡ count s sys + owners s L) → owners_in sp them ≡ true →
    ((i : ℕ) → i < length L → Linked sp.cell sp.limit (get_or L i [])) → ((s : ℕ) → 0 < count s sys → (s < sp.limit) × (sp.cell s ≢ FREE)) →
    Owned sp.limit sys sp.cell L
unfolding owners_in owner_right
make_owned sp sys L them e ok chains facts = record { chains = chains; single = single; others = others; within = λ s h. (facts s h).0; system = λ s h. (facts s h).1 }
  where
    says : (s : ℕ) → s < sp.limit → (count s them ≤ 1) × (count s them ≡ 0 → sp.cell s ≡ FREE)
    says s h = owner_rule_says (count s them) (sp.cell s) (below_at sp.limit (owner_right sp them) ok s h)

    single : (s : ℕ) → count s sys + owners s L ≤ 1
    single s =
        elim (dec_lt s sp.limit) [
          | yes h ↦ omega (arith, (says s h).0, e s)
          | no q ↦
              elim (dec_lt 0 (count s sys)) [
                | yes p ↦ absurd (omega (arith, (facts s p).0))
                | no r ↦
                    elim (dec_lt 0 (owners s L)) [
                      | yes p ↦ let k = owner_place s L p in absurd
                          (omega (arith, linked_below sp.cell sp.limit (get_or L k.0 []) (chains k.0 k.1) s k.2))
                      | no t ↦ omega arith
                    ]
              ]
        ]

    others : (s : ℕ) → s < sp.limit → count s sys + owners s L ≡ 0 → sp.cell s ≡ FREE
    others s h z = (says s h).1 (e s ∙ z)

pub owned_owners : (sp : Space) (sys : List ℕ) (L : List (List ℕ)) (them : List ℕ) → ((s : ℕ) → count s them ≡ count s sys + owners s L) →
    Owned sp.limit sys sp.cell L → owners_in sp them ≡ true
unfolding owners_in owner_right
owned_owners sp sys L them e o =
    below_of sp.limit (owner_right sp them)
    (λ s h. owner_rule_holds (count s them) (sp.cell s) (omega (arith, o.single s, e s)) (λ z. o.others s h (sym (e s) ∙ z)))

own_sectors_are : (v : Volume) (i : ℕ) → own_sectors v i ≡ units_of v false i
unfolding own_sectors units_of
own_sectors_are v i = rw (leb_not cutoff (stream_size v i), beq_false (side_of v i))

own_minis_are : (v : Volume) (i : ℕ) → own_minis v i ≡ units_of v true i
unfolding own_minis units_of
own_minis_are v i = rw (beq_true (side_of v i))

pub owned_sectors_count : (v : Volume) (s : ℕ) → count s (owned_sectors v) ≡ count s (system_sectors v) + owners s (entry_units v false)
unfolding owned_sectors entry_units
owned_sectors_count v s =
    let n = v.directory.count in
    count_append s (system_sectors v) (join_below n (own_sectors v))
    ∙ ap (λ k. count s (system_sectors v) + k) (ap (count s) (join_ext n (units_of v false) (own_sectors v) (λ i h. own_sectors_are v i)) ∙ count_join s n (units_of v false))

pub owned_minis_count : (v : Volume) (s : ℕ) → count s (owned_minis v) ≡ count s [] + owners s (entry_units v true)
unfolding owned_minis entry_units
owned_minis_count v s =
    let n = v.directory.count in
    let a = ap (count s) (join_ext n (units_of v true) (own_minis v) (λ i h. own_minis_are v i)) ∙ count_join s n (units_of v true) in
    omega arith

-- ---- the streams' units

side_linked : (v : Volume) (us : List ℕ) (b side : Bool) → Linked (space_of v side).cell (space_of v side).limit us →
    Linked (space_of v b).cell (space_of v b).limit (cond (beq b side) us [])
side_linked v us true true h = h
side_linked v us true false h = tt
side_linked v us false true h = tt
side_linked v us false false h = h

pub units_linked : (v : Volume) (b : Bool) (i : ℕ) →
    (is_stream (v.directory.entry i) ≡ true →
    Linked (space_of v (side_of v i)).cell (space_of v (side_of v i)).limit (stream_units v i)) →
    Linked (space_of v b).cell (space_of v b).limit (units_of v b i)
unfolding units_of
units_linked v b i h = go (is_stream (v.directory.entry i)) h
  where
    go : (st : Bool) →
        (st ≡ true →
        Linked (space_of v (side_of v i)).cell (space_of v (side_of v i)).limit (stream_units v i)) →
        Linked (space_of v b).cell (space_of v b).limit (cond (st && beq b (side_of v i)) (stream_units v i) [])
    go true k = side_linked v (stream_units v i) b (side_of v i) (k refl)
    go false k = tt
