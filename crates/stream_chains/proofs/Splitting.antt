-- The loop over streams that makes a lane of each.
use Prim.Native.Nat.{ℕ, ◌+◌, ◌≤◌, ◌<◌}
use mathlib.Core.Path.{◌≡◌, refl, sym, ap, ap₂, ◌∙◌}
use mathlib.Core.Logic.{◌≢◌}
use mathlib.Core.Bool.{Bool, true, false, ◌&&◌, and-true, and_assoc}
use mathlib.Core.List.{List, [], ◌++◌, append-nil}
use native.Mathlib.Omega.{arith}
use native.Mathlib.Decide.{ℕ_discrete}
use lib.Dec.{eqb}
use lib.ListN.{length, get_or, set}
use lib.Seq.{get_or-set_same, get_or-set_other}
use borrow.Author.Tests.{eq-eqb, ne_eqb, lt-ltb, le-ltb, lt-leb, le-leb}
use Rattle.format.specs.Basics.Lists.{all_below}
use Rattle.format.specs.Layout.Need.{cutoff, round_up}
use Rattle.format.specs.Layout.Geometry.{mini_bytes}
use Rattle.format.specs.Layout.Chain.{END, chain, units}
use Rattle.format.specs.Layout.Space.{chain_for, units_for}
use Rattle.format.specs.Layout.Volume.{Volume}
use Rattle.format.specs.Layout.Stream.{space_for}
use Rattle.theory.proofs.Tests.{false_of}
use Rattle.theory.proofs.Chains.{chain_short}
use Rattle.theory.proofs.Loops.{below_none, below_next, below_not}
use Rattle.kinds.specs.declared.Geometry.{Geometry as Sizes}
use Rattle.lanes.specs.Answers.{LanesShort, lane_right}
use Rattle.stream_chains.specs.Asked.{chain_at, sectors_at, minis_at, chain_listed, sectors_listed, minis_listed}
use Rattle.stream_chains.specs.Split.{Measured, SplitReady}
use Rattle.stream_chains.specs.declared.Counts.{Counts}
use Rattle.stream_chains.proofs.Joins.{join_none, join_more}
use Rattle.stream_chains.proofs.Pairs.{all_put, join_put}

-- ---- a stream of n bytes from s

module _ {v : Volume} {g : Sizes} {sectors : ℕ} (m : Measured v g sectors) (s n : ℕ) where
  -- of no bytes
  module _ (h : n ≡ 0) where
    empty_right : chain_at v s n ≡ eqb s END
    unfolding chain_at chain_for space_for cutoff round_up mini_bytes chain
    empty_right = rw (h, m.mini)

    empty_sectors : sectors_at v s n ≡ []
    unfolding sectors_at cutoff
    empty_sectors = rw h

    empty_minis : minis_at v s n ≡ []
    unfolding minis_at units_for space_for cutoff round_up mini_bytes units
    empty_minis = rw (h, m.mini)

  -- of mini sectors
  module _ (h : n < cutoff) where
    small_right : chain_at v s n ≡ chain v.minis.cell v.minis.limit (round_up n mini_bytes) s
    unfolding chain_at chain_for space_for
    small_right = rw (lt-ltb n cutoff h, m.mini)

    small_sectors : sectors_at v s n ≡ []
    unfolding sectors_at
    small_sectors = rw (lt-leb cutoff n h)

    small_minis : minis_at v s n ≡ units v.minis.cell (round_up n mini_bytes) s
    unfolding minis_at units_for space_for
    small_minis = rw (lt-ltb n cutoff h, m.mini)

  -- of sectors
  module _ (h : cutoff ≤ n) where
    large_right : chain_at v s n ≡ chain v.sectors.cell v.sectors.limit (round_up n g.bytes) s
    unfolding chain_at chain_for space_for
    large_right = rw (le-ltb n cutoff h, m.sector)

    large_sectors : sectors_at v s n ≡ units v.sectors.cell (round_up n g.bytes) s
    unfolding sectors_at units_for space_for
    large_sectors = rw (le-leb cutoff n h, le-ltb n cutoff h, m.sector)

    large_minis : minis_at v s n ≡ []
    unfolding minis_at
    large_minis = rw (le-ltb n cutoff h)

    -- more of them than there are
    long_wrong : sectors < 0x1000_0000 → sectors < round_up n g.bytes → chain_at v s n ≡ false
    long_wrong f l =
        large_right ∙ false_of _ (λ e. omega (arith, m.count, chain_short v.sectors.cell v.sectors.limit (omega (arith, m.count)) (round_up n g.bytes) s e))

-- ---- the lanes of the streams before stream j

short_none : (left : List ℕ) → LanesShort left 0
short_none left = record { few = omega arith; short = λ i l. absurd (omega arith) }

short_put : {left : List ℕ} {n : ℕ} → LanesShort left n → n < 32 → n < length left → (k : ℕ) → k < 0x1000_0000 → LanesShort (set left n k) (n + 1)
short_put {left} {n} h f r k l =
    record {
      few = omega arith;
      short = λ i q.
          elim (ℕ_discrete i n) [
            | yes e ↦ rw (e, get_or-set_same left n k 0 r) l
            | no e ↦ rw (get_or-set_other left n i k 0 e) (h.short i (omega arith))
          ];
    }

swap : (a b x : Bool) → ((a && b) && x) ≡ ((a && x) && b)
swap true true true = refl
swap true true false = refl
swap true false true = refl
swap true false false = refl
swap false b x = refl

module _ {g : Sizes} {sectors : ℕ} {starts sizes sh sl lh ll : List ℕ} where
  pub split_none : SplitReady g sectors 0 starts sizes (record { small = 0; large = 0 }) sh sl lh ll
  split_none =
      record {
        few = omega arith;
        small = short_none sl;
        large = short_none ll;
        lanes = λ v m.
            record {
              right = below_none _ ∙ sym (ap₂ ◌&&◌ (below_none _) (below_none _));
              sectors = join_none _ ∙ sym (join_none _);
              minis = join_none _ ∙ sym (join_none _);
            };
      }

  module _ {j : ℕ} {c : Counts} (r : SplitReady g sectors j starts sizes c sh sl lh ll) where
    abbrev s : ℕ
    s = get_or starts j 0

    abbrev n : ℕ
    n = get_or sizes j 0

    pub no_lane : n ≡ 0 → s ≡ END → SplitReady g sectors (j + 1) starts sizes c sh sl lh ll
    no_lane h e =
        record {
          few = omega (arith, r.few);
          small = r.small;
          large = r.large;
          lanes = λ v m.
              let p = r.lanes v m in
              record {
                right = below_next (chain_listed v starts sizes) j ∙ rw (empty_right m s n h ∙ eq-eqb s END e, and-true) p.right;
                sectors = join_more (sectors_listed v starts sizes) j ∙ rw (empty_sectors m s n h, append-nil) p.sectors;
                minis = join_more (minis_listed v starts sizes) j ∙ rw (empty_minis m s n h, append-nil) p.minis;
              };
        }

    pub small_lane : j < 32 → n < cutoff → c.small < length sh → c.small < length sl → (k : ℕ) → k < 0x1000_0000 → k ≡ round_up n mini_bytes
        → SplitReady g sectors (j + 1) starts sizes (record { small = c.small + 1; large = c.large }) (set sh c.small s) (set sl c.small k) lh ll
    small_lane f h a b k l e =
        record {
          few = omega (arith, r.few);
          small = short_put r.small (omega (arith, r.few)) b k l;
          large = r.large;
          lanes = λ v m.
              let p = r.lanes v m in
              record {
                right = below_next (chain_listed v starts sizes) j
                    ∙ rw (p.right, small_right m s n h, ← e, all_put sh sl c.small s k a b (λ x y. chain v.minis.cell v.minis.limit y x))
                    (swap (all_below c.small (lane_right v.minis sh sl)) (all_below c.large (lane_right v.sectors lh ll)) (chain v.minis.cell v.minis.limit k s));
                sectors = join_more (sectors_listed v starts sizes) j ∙ rw (small_sectors m s n h, append-nil) p.sectors;
                minis = join_more (minis_listed v starts sizes) j ∙ ap₂ ◌++◌ p.minis (small_minis m s n h ∙ ap (λ i. units v.minis.cell i s) (sym e))
                    ∙ sym (join_put sh sl c.small s k a b (λ x y. units v.minis.cell y x));
              };
        }

    pub large_lane : j < 32 → cutoff ≤ n → c.large < length lh → c.large < length ll → (k : ℕ) → k < 0x1000_0000 → k ≡ round_up n g.bytes
        → SplitReady g sectors (j + 1) starts sizes (record { small = c.small; large = c.large + 1 }) sh sl (set lh c.large s) (set ll c.large k)
    large_lane f h a b k l e =
        record {
          few = omega (arith, r.few);
          small = r.small;
          large = short_put r.large (omega (arith, r.few)) b k l;
          lanes = λ v m.
              let p = r.lanes v m in
              record {
                right = below_next (chain_listed v starts sizes) j
                    ∙ rw (p.right, large_right m s n h, ← e, all_put lh ll c.large s k a b (λ x y. chain v.sectors.cell v.sectors.limit y x))
                    (and_assoc (all_below c.small (lane_right v.minis sh sl)) (all_below c.large (lane_right v.sectors lh ll)) (chain v.sectors.cell v.sectors.limit k s));
                sectors = join_more (sectors_listed v starts sizes) j ∙ ap₂ ◌++◌ p.sectors (large_sectors m s n h ∙ ap (λ i. units v.sectors.cell i s) (sym e))
                    ∙ sym (join_put lh ll c.large s k a b (λ x y. units v.sectors.cell y x));
                minis = join_more (minis_listed v starts sizes) j ∙ rw (large_minis m s n h, append-nil) p.minis;
              };
        }

-- ---- stream j has no chain

module _ {g : Sizes} {sectors : ℕ} (starts sizes : List ℕ) (j : ℕ) {v : Volume} (m : Measured v g sectors) where
  pub empty_off : get_or sizes j 0 ≡ 0 → get_or starts j 0 ≢ END → all_below (j + 1) (chain_listed v starts sizes) ≡ false
  empty_off h d = below_not (chain_listed v starts sizes) (j + 1) j (omega arith) (empty_right m _ _ h ∙ ne_eqb (get_or starts j 0) END d)

  pub too_long : cutoff ≤ get_or sizes j 0 → sectors < 0x1000_0000 → sectors < round_up (get_or sizes j 0) g.bytes → all_below (j + 1) (chain_listed v starts sizes) ≡ false
  too_long h f q = below_not (chain_listed v starts sizes) (j + 1) j (omega arith) (long_wrong m _ _ h f q)
