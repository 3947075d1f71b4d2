-- THE CLAIM: where a call for a fresh image answers 0, what it writes holds all that is said of it, in either version.
use Prim.Native.Nat.{ℕ}
use mathlib.Core.Path.{◌≡◌, refl, sym, ap, subst, ◌∙◌}
use mathlib.Core.Logic.{◌⊎◌, inl, inr}
use mathlib.Core.Bool.{Bool, true, false, cond, ◌&&◌}
use native.Mathlib.Omega.{arith}
use lib.Dec.{eqb}
use borrow.Author.Tests.{eqb-true}
use Rattle.format.specs.Basics.Bytes.{Bytes}
use Rattle.format.specs.Layout.Geometry.{Geometry, version3, version4}
use Rattle.format.specs.Rules.Length.{length_allowed}
use Rattle.format.specs.Rules.Version.{version_of}
use Rattle.format.specs.Rules.Verdict.{Accepted}
use Rattle.format.specs.Fresh.Plan.{Plan, planned, plan_bytes, known_version, parts_fit}
use Rattle.format.specs.Fresh.Image.{fresh_image}
use Rattle.format.specs.Fresh.Answer.{buffer_fits, format_answer}
use Rattle.format.specs.History.State.{state_in, state_of}
use Rattle.format.specs.Claims.Fresh.{FreshHolds, FreshClaim}
use Rattle.theory.proofs.Tests.{both}
use Rattle.frame.proofs.Accepted.{check_zero}
use Rattle.frame.proofs.Final.{sized3, sized4}
use Rattle.frame.proofs.Versions.{accepted_version}
use Rattle.fresh.specs.Facts.{Headed, Planned}
use Rattle.fresh.proofs.Blocks.{length_image}
use Rattle.fresh.proofs.Header.{fat_count_lem}
use Rattle.fresh.proofs.Accepted.{fresh_accepted}
use Rattle.fresh.proofs.Results.{fresh_listing, fresh_allocated, fresh_allocated_minis}
use Rattle.fresh.proofs.Begins.{fat_fewest, fresh_state_lem}

-- ---- the two versions

headed3 : Headed version3
unfolding version3
headed3 = record { sized = sized3; major = omega arith; shift = omega arith }

headed4 : Headed version4
unfolding version4
headed4 = record { sized = sized4; major = omega arith; shift = omega arith }

pub planned_cases : (p : Plan) → (planned p ≡ version3) ⊎ (planned p ≡ version4)
unfolding planned
planned_cases p = go (eqb p.version 4)
  where
    go : (b : Bool) → (cond b version4 version3 ≡ version3) ⊎ (cond b version4 version3 ≡ version4)
    go true = inr refl
    go false = inl refl

pub planned_headed : (p : Plan) → Headed (planned p)
planned_headed p =
    elim (planned_cases p) [
      | inl e ↦ subst (λ (g : Geometry). Headed g) (sym e) headed3
      | inr e ↦ subst (λ (g : Geometry). Headed g) (sym e) headed4
    ]

-- ---- an answer 0

module _ (bytes : ℕ) (p : Plan) (answered : format_answer bytes p ≡ 0) where
  abbrev g : Geometry
  g = planned p

  abbrev img : Bytes
  img = fresh_image g p

  abbrev h : Headed g
  h = planned_headed p

  answers : (buffer_fits bytes p ≡ true) × (parts_fit g p ≡ true)
  unfolding format_answer
  answers =
      let a = check_zero (buffer_fits bytes p) 1 _ (omega arith) answered in
      let b = check_zero (known_version p && parts_fit g p) 32 0 (omega arith) a.1 in
      (a.0, (both (known_version p) (parts_fit g p) b.0).1)

  long : (length_allowed g bytes ≡ true) × (bytes ≡ plan_bytes g p)
  unfolding buffer_fits
  long =
      let a = both (length_allowed g bytes) (eqb bytes (plan_bytes g p)) answers.0 in
      (a.0, eqb-true bytes (plan_bytes g p) a.1)

  pub answer_planned : Planned g p
  answer_planned = record { allowed = rw (← long.1) long.0; fits = answers.1 }

  accepted : Accepted g img
  accepted = fresh_accepted g p h answer_planned

  version_is : version_of img ≡ g
  version_is = accepted_version g img (planned_cases p) accepted

  pub fresh_holds : FreshHolds bytes p img
  unfolding state_of
  fresh_holds =
      record {
        fills = length_image g p h.sized ∙ sym long.1;
        version = version_is;
        accepted = accepted;
        lists = fresh_listing g p h answer_planned;
        state = ap (λ (x : Geometry). state_in x img) version_is ∙ fresh_state_lem g p h answer_planned;
        sectors = fresh_allocated g p h answer_planned;
        minis = fresh_allocated_minis g p h answer_planned;
        fewest = λ f covers. rw (fat_count_lem g p h answer_planned) (fat_fewest g p h.sized f covers);
      }

pub fresh_claim : FreshClaim
fresh_claim = fresh_holds
