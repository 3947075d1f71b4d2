-- Lengths on different sides of the cutoff, and units of different kinds.
use Prim.Native.Nat.{ℕ, ◌+◌, ◌-◌, ◌≤◌, ◌<◌, min}
use mathlib.Core.Path.{◌≡◌, refl, sym, ◌∙◌, ap}
use mathlib.Core.Logic.{◌≢◌, inl, inr}
use mathlib.Core.Bool.{true, false, not}
use mathlib.Core.List.{List, [], ◌++◌}
use native.Mathlib.Nat.{zero-add}
use native.Mathlib.Omega.{arith}
use native.Mathlib.Decide.{dec_lt}
use lib.Dec.{ltb, eqb}
use lib.ListN.{length, take, drop, replicate, length-replicate}
use lib.Seq.{length-take-le, take-add, take-append-add, drop_at}
use borrow.Author.Tests.{lt-ltb, le-ltb}
use Rattle.format.specs.Basics.Bytes.{Bytes}
use Rattle.format.specs.Layout.Need.{cutoff}
use Rattle.format.specs.Layout.Chain.{chain, units}
use Rattle.format.specs.Layout.Space.{Space, free_units}
use Rattle.format.specs.Calls.SetLength.{crosses}
use Rattle.format.specs.Calls.Search.{growth_searches, cells_looked}
use Rattle.theory.proofs.FreeUnits.{pool_short}
use Rattle.history.proofs.Moving.{crossed}
use Rattle.volume.specs.declared.Volume.{Volume as Opened}
use Rattle.volume.specs.Opened.{Readied}
use Rattle.spaces.specs.declared.Kind.{Kind}
use Rattle.spaces.specs.declared.Kind.TheVariants.{Sectors, Minis}
use Rattle.spaces.specs.Spaces.{kind_for, space_at}
use Rattle.unitlists.proofs.Limits.{limits_room, limit_end}
use Rattle.edits.proofs.Gathering.{free_enough, own_still, all_listed, chain_long, old_short}

-- ---- lengths

-- the lesser of the two is small
pub fewer : (old new : ℕ) → crosses old new ≡ true → min old new < 4096
fewer old new h = elim (crossed old new h) [ inl q ↦ omega (arith, q.1) | inr q ↦ omega (arith, q.2) ]

-- the first of the bytes that wait
pub front_length : (n : ℕ) → n < 4096 → n ≡ length (take n (replicate {A = ℕ} 4096 0))
front_length n h = sym (length-take-le n (replicate 4096 0) (omega (arith, length-replicate {A = ℕ} 4096 0)))

abbrev number : Kind → ℕ
number Sectors = 0
number Minis = 1

pub kinds_differ : (old new : ℕ) → crosses old new ≡ true → kind_for old ≢ kind_for new
unfolding kind_for cutoff
kinds_differ old new h =
    elim (crossed old new h) [
      | inl q ↦ rw (lt-ltb old 4096 q.1, le-ltb new 4096 q.2) (λ z. omega (arith, ap number z))
      | inr q ↦ rw (le-ltb old 4096 q.0, lt-ltb new 4096 q.2) (λ z. omega (arith, ap number z))
    ]

-- ---- units of one kind, and free ones of the other behind them

add_ltb : (a b c : ℕ) → ltb (a + b) (a + c) ≡ ltb b c
add_ltb a b c =
    elim (dec_lt b c) [
      | yes h ↦ lt-ltb (a + b) (a + c) (omega arith) ∙ sym (lt-ltb b c h)
      | no h ↦ le-ltb (a + b) (a + c) (omega arith) ∙ sym (le-ltb b c (omega arith))
    ]

-- none of their kind were there before
pub none_before : (f n : ℕ) → not (ltb f n) ≡ not (ltb (0 + f) n)
none_before f n = ap (λ m. not (ltb m n)) (sym (zero-add f))

pub across_cells : (sp : Space) (old need : ℕ) {n : ℕ} → n ≡ cells_looked (growth_searches sp (old + need - old)) → n ≡ cells_looked (growth_searches sp (need - 0))
across_cells sp old need q = let e : old + need - old ≡ need - 0 = omega arith in q ∙ ap (λ k. cells_looked (growth_searches sp k)) e

module _ {v : Opened} {img : Bytes} {w : List ℕ} (r : Readied v img w) where
  both_room : (a b : Kind) → a ≢ b → (space_at v img a).limit + (space_at v img b).limit ≤ v.stream
  both_room Sectors Sectors d = absurd (d refl)
  both_room Sectors Minis d = limits_room r
  both_room Minis Sectors d = omega (arith, limits_room r)
  both_room Minis Minis d = absurd (d refl)

  pub free_few : (k : Kind) → length (free_units (space_at v img k)) ≤ (space_at v img k).limit
  unfolding free_units
  free_few k = omega (arith, pool_short (space_at v img k).cell (space_at v img k).limit (limit_end r k) [] tt)

  module _ (from to : Kind) (d : from ≢ to) (old f : ℕ) (c : chain (space_at v img from).cell (space_at v img from).limit old f ≡ true) (need : ℕ) where
    abbrev us : List ℕ
    us = units (space_at v img from).cell old f

    abbrev free : List ℕ
    free = free_units (space_at v img to)

    -- the two lists have room before the others
    pub across_room : need ≤ (space_at v img to).limit → old + need ≤ v.stream
    across_room h = omega (arith, h, old_short r from old f c, both_room from to d)

    -- more than there are
    pub across_none : (space_at v img to).limit < need → false ≡ not (ltb (0 + length free) need)
    across_none h = sym (ap not (lt-ltb (length free) need (omega (arith, free_few to, h)))) ∙ none_before (length free) need

    module _ (w₁ w₂ : List ℕ) (m : ℕ) (own : take old w₁ ≡ us) (k : m ≡ min (old + need) (old + length free)) (e : take m w₂ ≡ take (old + need) (take old w₁ ++ free)) where
      long : length us ≡ old
      long = chain_long r from old f c

      pub across_answer : eqb m (old + need) ≡ not (ltb (0 + length free) need)
      across_answer = free_enough us free w₁ w₂ old (old + need) m long own (omega arith) k e ∙ ap not (add_ltb old (length free) need) ∙ none_before (length free) need

      pub across_own : take old w₂ ≡ us
      across_own = own_still us free w₁ w₂ old (old + need) m long own (omega arith) k e

      pub across_free : eqb m (old + need) ≡ true → take need (drop old w₂) ≡ take need free
      across_free h =
          sym (drop_at (take old w₂) (take need (drop old w₂)) old (ap length across_own ∙ long))
          ∙ ap (drop old) (sym (take-add old need w₂) ∙ all_listed us free w₁ w₂ old (old + need) m long own (omega arith) k e h ∙ ap (λ n. take (n + need) (us ++ free)) (sym long) ∙ take-append-add us free need)
          ∙ drop_at us (take need free) old long
