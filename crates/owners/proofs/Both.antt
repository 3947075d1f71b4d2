-- Chains of both kinds, marked one after the other.
use Prim.Native.Nat.{ℕ, ◌+◌, ◌≤◌}
use Rattle.std.specs.Prelude.{Option, Some, None}
use mathlib.Core.Path.{◌≡◌, refl, sym}
use mathlib.Core.Logic.{◌⊎◌, inl, inr}
use mathlib.Core.Bool.{Bool, true, false, ◌||◌, or-true, or-false, or_assoc}
use mathlib.Core.List.{List, [], ◌++◌, append_assoc, append-nil}
use native.Mathlib.Omega.{arith}
use Rattle.format.specs.Basics.Bytes.{Bytes}
use Rattle.format.specs.Layout.Space.{Space}
use Rattle.format.specs.Layout.Tables.{sector_space}
use Rattle.theory.proofs.Tests.{clash}
use Rattle.tables.specs.Work.{Wrote}
use Rattle.tables.specs.Views.{sector_count_of, sectors_of}
use Rattle.tables.specs.declared.Tables.{Tables}
use Rattle.tables.proofs.WorkLaws.{wrote_none, wrote_two, wrote_wider}
use Rattle.chains.specs.Answers.{is_shared, Markable, ChainsMarked}
use Rattle.chains.proofs.Owners.{owning_kept, markable_kept}
use Rattle.directory.specs.declared.Directory.{Directory}
use Rattle.directory.proofs.Places.{directory_kept}
use Rattle.minis.specs.declared.Minis.{Minis}
use Rattle.owners.specs.Streams.{minis_in, StreamsMarkable, Owns, BothMarked}

-- nothing is owned besides
owns_none : (sp : Space) (at : ℕ) {w w' : List ℕ} {a n : ℕ} → Wrote w w' a n → (a + n ≤ at) ⊎ (at + sp.limit ≤ a) → Owns sp at [] false w w'
owns_none sp at r d owned s o = rw (append-nil, or-false) (owning_kept sp at r d o)

owns_both : (sp : Space) (at : ℕ) (w w₁ w₂ : List ℕ) {own₁ own₂ : List ℕ} {s₁ s₂ : Bool} → Owns sp at own₁ s₁ w w₁ → Owns sp at own₂ s₂ w₁ w₂ → Owns sp at (own₁ ++ own₂) (s₁ || s₂) w w₂
owns_both sp at w w₁ w₂ {own₁} {own₂} {s₁} {s₂} p q owned s o =
    rw (← append_assoc owned own₁ own₂, ← or_assoc s s₁ s₂) (q (owned ++ own₁) (s || s₁) (p owned s o))

four : (a b p q u v : Bool) → a ≡ (p || q) → b ≡ (u || v) → (a || b) ≡ ((p || u) || (q || v))
four a b p q u v e f = rw (e, f) (swap p q u v)
  where
    swap : (p q u v : Bool) → ((p || q) || (u || v)) ≡ ((p || u) || (q || v))
    swap true q u v = refl
    swap false q true v = or-true q
    swap false q false v = refl

-- how many units of both kinds there are
abbrev both : Tables → Bytes → ℕ
both t img = sector_count_of t img + (minis_in t img).limit

module _ {t : Tables} {m : Minis} {d : Directory} {img : Bytes} where
  -- no chain
  pub both_none : {w : List ℕ} → StreamsMarkable t m d img w → BothMarked t m d img true [] [] w w (Some false)
  both_none {w} z =
      record {
        answer = refl;
        stands = λ h. z;
        owners = λ h. record { large = false; small = false; either = refl; in_sectors_lem = λ owned s o. rw (append-nil, or-false) o; in_minis_lem = λ owned s o. rw (append-nil, or-false) o };
        wrote = wrote_none w 0 _;
      }

  module _ {w w' : List ℕ} (z : StreamsMarkable t m d img w) where
    -- where units of either kind were marked, all else stays
    still : Wrote w w' 0 (both t img) → Markable (sectors_of t img) 0 w' → Markable (minis_in t img) (sector_count_of t img) w' → StreamsMarkable t m d img w'
    still r x y =
        record {
          sectors = record { sized = z.sectors.sized; count = z.sectors.count; units = x };
          minis = y;
          units = z.units;
          directory = directory_kept z.directory r (omega (arith, z.behind));
          same = z.same;
          behind = z.behind;
        }

    -- chains of sectors
    pub both_sectors : {right : Bool} {own : List ℕ} {a : Option Bool} → ChainsMarked (sectors_of t img) 0 right own w w' a → BothMarked t m d img right own [] w w' a
    unfolding sector_space
    both_sectors {a = a} c =
        let r : Wrote w w' 0 (sector_count_of t img) = c.wrote in
        let x : Wrote w w' 0 (both t img) = wrote_wider 0 _ r (omega arith) (omega arith) in
        record {
          answer = c.answer;
          stands = λ h. still x (c.stands h) (markable_kept (minis_in t img) (sector_count_of t img) r (inl (omega arith)) z.minis);
          owners = λ h.
              record {
                large = is_shared a;
                small = false;
                either = sym (or-false (is_shared a));
                in_sectors_lem = c.owners h;
                in_minis_lem = owns_none (minis_in t img) (sector_count_of t img) r (inl (omega arith));
              };
          wrote = x;
        }

    -- chains of mini sectors
    pub both_minis : {right : Bool} {own : List ℕ} {a : Option Bool} → ChainsMarked (minis_in t img) (sector_count_of t img) right own w w' a → BothMarked t m d img right [] own w w' a
    unfolding sector_space
    both_minis {a = a} c =
        let r = c.wrote in
        let x : Wrote w w' 0 (both t img) = wrote_wider 0 _ r (omega arith) (omega arith) in
        record {
          answer = c.answer;
          stands = λ h. still x (markable_kept (sectors_of t img) 0 r (inr (omega arith)) z.sectors.units) (c.stands h);
          owners = λ h.
              record {
                large = false;
                small = is_shared a;
                either = refl;
                in_sectors_lem = owns_none (sectors_of t img) 0 r (inr (omega arith));
                in_minis_lem = c.owners h;
              };
          wrote = x;
        }

  -- chains that are all right, and then others
  pub both_then : {right : Bool} {os₁ om₁ os₂ om₂ w w₁ w₂ : List ℕ} {a b : Bool} → BothMarked t m d img true os₁ om₁ w w₁ (Some a)
      → BothMarked t m d img right os₂ om₂ w₁ w₂ (Some b) → BothMarked t m d img right (os₁ ++ os₂) (om₁ ++ om₂) w w₂ (Some (a || b))
  both_then {w = w} {w₁} {w₂} {a} {b} p q =
      record {
        answer = q.answer;
        stands = q.stands;
        owners = λ h.
            let x = p.owners refl in
            let y = q.owners h in
            record {
              large = x.large || y.large;
              small = x.small || y.small;
              either = four a b x.large x.small y.large y.small x.either y.either;
              in_sectors_lem = owns_both (sectors_of t img) 0 w w₁ w₂ x.in_sectors_lem y.in_sectors_lem;
              in_minis_lem = owns_both (minis_in t img) (sector_count_of t img) w w₁ w₂ x.in_minis_lem y.in_minis_lem;
            };
        wrote = wrote_two p.wrote q.wrote;
      }

  -- one of them is none
  pub both_broken : {right : Bool} (os om : List ℕ) {w w' : List ℕ} → right ≡ false → Wrote w w' 0 (both t img) → BothMarked t m d img right os om w w' None
  both_broken os om h r = record { answer = sym (rw h); stands = λ e. absurd (clash e h); owners = λ e. absurd (clash e h); wrote = r }
