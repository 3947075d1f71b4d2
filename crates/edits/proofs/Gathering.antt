-- A chain's units listed, and free ones behind them: whether there are enough, and what stands in the work buffer.
use Prim.Native.Nat.{ℕ, ◌+◌, ◌≤◌, ◌<◌, min}
use mathlib.Core.Path.{◌≡◌, sym, ◌∙◌, ap, subst}
use mathlib.Core.Bool.{true, false, not}
use mathlib.Core.List.{List, ◌++◌}
use native.Mathlib.Omega.{arith}
use native.Mathlib.Decide.{dec_lt}
use lib.Dec.{ltb, eqb}
use lib.ListN.{length, take}
use lib.Seq.{take-take, take-append-le, take_all}
use borrow.Author.Tests.{lt-ltb, le-ltb, eq-eqb, ne_eqb, eqb-true}
use Rattle.format.specs.Basics.Bytes.{Bytes}
use Rattle.format.specs.Layout.Chain.{chain, units}
use Rattle.format.specs.Layout.Space.{Space, free_units}
use Rattle.format.specs.Rules.Length.{work_need}
use Rattle.theory.proofs.Chains.{chain_linked, chain_short, length_units}
use Rattle.theory.proofs.FreeUnits.{pool_short}
use Rattle.tables.specs.Work.{Wrote}
use Rattle.tables.proofs.WorkLaws.{wrote_wider}
use Rattle.volume.specs.Opened.{Readied}
use Rattle.volume.specs.declared.Volume.{Volume as Opened}
use Rattle.volume.proofs.ListsKept.{ready_kept}
use Rattle.spaces.specs.Spaces.{space_at}
use Rattle.spaces.specs.declared.Kind.{Kind}
use Rattle.unitlists.proofs.Limits.{limit_room, limit_end}

-- ---- units, and free ones behind them

-- the units us stood listed, and m numbers of them and of the free ones do
module _ (us free w₁ w₂ : List ℕ) (old need m : ℕ) (long : length us ≡ old) (own : take old w₁ ≡ us) (l : old ≤ need) (k : m ≡ min need (old + length free))
    (e : take m w₂ ≡ take need (take old w₁ ++ free)) where
  pub free_enough : eqb m need ≡ not (ltb (old + length free) need)
  free_enough =
      elim (dec_lt (old + length free) need) [
        | yes h ↦ ne_eqb m need (omega (arith, k)) ∙ sym (ap not (lt-ltb (old + length free) need h))
        | no h ↦ eq-eqb m need (omega (arith, k)) ∙ sym (ap not (le-ltb (old + length free) need (omega arith)))
      ]

  listed : take m w₂ ≡ take need (us ++ free)
  listed = e ∙ ap (λ l. take need (l ++ free)) own

  pub own_still : take old w₂ ≡ us
  own_still =
      let z : old ≤ m = omega (arith, k) in
      sym (take-take old m w₂ z) ∙ ap (take old) listed ∙ take-take old need (us ++ free) l ∙ take-append-le old us free (omega (arith, long))
      ∙ take_all old us (omega (arith, long))

  pub all_listed : eqb m need ≡ true → take need w₂ ≡ take need (us ++ free)
  all_listed h = subst (λ n. take n w₂ ≡ take need (us ++ free)) (eqb-true m need h) listed

-- ---- the work buffer

module _ {v : Opened} {img : Bytes} {w : List ℕ} (r : Readied v img w) where
  -- the lists end within what is ours
  stream_within : v.stream ≤ work_need (length img)
  unfolding work_need
  stream_within = omega (arith, r.before, r.lists.before, r.lists.mini.before, r.lists.mini.within)

  -- units of a kind are listed before them
  pub gathered_wrote : (kind : Kind) (n : ℕ) {w₀ w₁ : List ℕ} → n ≤ (space_at v img kind).limit → Wrote w₀ w₁ 0 n → Wrote w₀ w₁ 0 v.stream
  gathered_wrote kind n h q = wrote_wider 0 v.stream q (omega arith) (omega (arith, h, limit_room r kind))

  pub gathered_ready : {w₁ : List ℕ} → Wrote w w₁ 0 v.stream → Readied v img w₁
  gathered_ready q = ready_kept q (omega arith) r

  pub gathered_within : {w₁ : List ℕ} → Wrote w w₁ 0 v.stream → Wrote w w₁ 0 (work_need (length img))
  gathered_within q = wrote_wider 0 (work_need (length img)) q (omega arith) (omega (arith, stream_within))

  -- ---- a chain of the units of a kind

  module _ (kind : Kind) (old f : ℕ) (c : chain (space_at v img kind).cell (space_at v img kind).limit old f ≡ true) where
    abbrev sp : Space
    sp = space_at v img kind

    abbrev us : List ℕ
    us = units sp.cell old f

    pub chain_long : length us ≡ old
    chain_long = length_units sp.cell old f

    pub old_short : old ≤ sp.limit
    old_short = chain_short sp.cell sp.limit (limit_end r kind) old f c

    -- own and free units are no more than there are
    pool : old + length (free_units sp) ≤ sp.limit
    unfolding free_units
    pool = omega (arith, chain_long, pool_short sp.cell sp.limit (limit_end r kind) us (chain_linked sp.cell sp.limit old f c).0)

    pub needs_more : (need : ℕ) → sp.limit < need → false ≡ not (ltb (old + length (free_units sp)) need)
    needs_more need h = sym (ap not (lt-ltb (old + length (free_units sp)) need (omega (arith, pool))))

    module _ (w₁ : List ℕ) (own : take old w₁ ≡ us) where
      -- no more than the chain has
      pub own_enough : (need : ℕ) → need ≤ old → true ≡ not (ltb (old + length (free_units sp)) need)
      own_enough need h = sym (ap not (le-ltb (old + length (free_units sp)) need (omega arith)))

      pub own_first : (need : ℕ) → need ≤ old → take need w₁ ≡ take need (us ++ free_units sp)
      own_first need h = sym (take-take need old w₁ h) ∙ ap (take need) own ∙ sym (take-append-le need us (free_units sp) (omega (arith, chain_long)))
