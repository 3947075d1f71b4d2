-- W-213: what is claimed of a repair, of every image and every pair of buffers.
use Prim.Native.Nat.{ℕ, zero, suc, ◌≤◌}
use mathlib.Core.Path.{◌≡◌, refl, sym, ap, ◌∙◌, subst}
use mathlib.Core.List.{List}
use lib.ListN.{length}
use Rattle.format.specs.Basics.Bytes.{Bytes}
use Rattle.format.specs.Layout.Geometry.{Geometry}
use Rattle.format.specs.Layout.Volume.{volume}
use Rattle.format.specs.Rules.Length.{work_need}
use Rattle.format.specs.Rules.Version.{version_of}
use Rattle.format.specs.Rules.Verdict.{Accepted}
use Rattle.format.specs.Calls.Listing.{listing}
use Rattle.format.specs.Calls.Reply.{plain, counted, on_zero}
use Rattle.format.specs.Calls.RepairSteps.{repaired}
use Rattle.format.specs.Calls.Repair.{repair_answer, repair_reply_by, repair_reply, image_repaired_by, image_repaired}
use Rattle.format.specs.History.State.{state_in, state_of}
use Rattle.format.specs.Claims.Repair.{Repaired, RepairBuffers, RepairClaim}
use Rattle.frame.specs.Kept.{Sized}
use Rattle.frame.proofs.Redrawing.{entry_long_lem}
use Rattle.frame.proofs.Final.{own_sized}
use Rattle.repair_laws.proofs.Lengths.{judged, repaired_length, repaired_accepted, answered_allowed}
use Rattle.repair_laws.proofs.Heads.{repaired_version}
use Rattle.repair_laws.proofs.Outcome.{repair_outcome, outcome_black}
use Rattle.repair_laws.proofs.Answered.{repair_iff}
use Rattle.repair_laws.proofs.Exact.{exact}
use Rattle.repair_laws.proofs.Counted.{counts, none_red}

pub reply_number : (g : Geometry) (img spare : Bytes) (work : List ℕ) → (repair_reply_by g img spare work).number ≡ repair_answer g img spare work
unfolding repair_reply_by on_zero counted plain
reply_number g img spare work = go (repair_answer g img spare work) _
  where
    go : (n k : ℕ) → (on_zero n (counted k) (plain n)).number ≡ n
    go zero k = refl
    go (suc n) k = refl

-- ---- twice

module _ (g : Geometry) (z : Sized g) (img spare : Bytes) (work : List ℕ) (h : repair_answer g img spare work ≡ 0) where
  written : image_repaired_by g img spare work ≡ repaired g img
  unfolding image_repaired_by on_zero
  written = rw h

  buffers : (spare₂ : Bytes) (work₂ : List ℕ) → RepairBuffers img spare₂ work₂ → RepairBuffers (repaired g img) spare₂ work₂
  buffers spare₂ work₂ b = subst (λ (n : ℕ). (work_need n ≤ length work₂) × (n ≤ length spare₂)) (sym (repaired_length g img)) b

  again : (spare₂ : Bytes) (work₂ : List ℕ) → RepairBuffers img spare₂ work₂ → repair_reply_by g (image_repaired_by g img spare work) spare₂ work₂ ≡ counted 0
  again spare₂ work₂ b =
      let acc = repaired_accepted g img spare work h in
      rw written
      (counts g z (repaired g img) acc spare₂ work₂ (buffers spare₂ work₂ b)
      ∙ ap counted (none_red (volume g img).directory (volume g (repaired g img)).directory (outcome_black g z img spare work h) (entry_long_lem g z (repaired g img) acc)))

-- ---- by the images' own version

module _ (img spare : Bytes) (work : List ℕ) where
  abbrev g : Geometry
  g = version_of img

  abbrev after : Bytes
  after = image_repaired img spare work

  z : Sized g
  z = own_sized img

  number : (repair_reply img spare work).number ≡ repair_answer g img spare work
  number = reply_number g img spare work

  answered : (repair_reply img spare work).number ≡ 0 → repair_answer g img spare work ≡ 0
  answered h = sym number ∙ h

  version_stays : repair_answer g img spare work ≡ 0 → version_of after ≡ g
  version_stays h = ap version_of (written g z img spare work h) ∙ repaired_version g z img (answered_allowed g img spare work h)

  outcome : (repair_reply img spare work).number ≡ 0 → Repaired img after
  unfolding state_of
  outcome h =
      let a = answered h in
      let v = version_stays a in
      let r = repair_outcome g z img spare work a in
      record {
        version = v;
        accepted = subst (λ (x : Geometry). Accepted x after) (sym v) r.accepted;
        listing = ap (λ (x : Geometry). listing (volume x after).directory) v ∙ r.listing;
        state = ap (λ (x : Geometry). state_in x after) v ∙ r.state;
        sector_cells = λ s. ap (λ (x : Geometry). (volume x after).sectors.cell_place s) v ∙ r.sector_cells s;
        mini_cells = λ m. ap (λ (x : Geometry). (volume x after).minis.cell_place m) v ∙ r.mini_cells m;
        entries = λ i. ap (λ (x : Geometry). (volume x after).entry_place i) v ∙ r.entries i;
      }

pub repair_claim : RepairClaim
repair_claim img spare work =
    let g = version_of img in
    let z = own_sized img in
    record {
      judged = λ l. reply_number g img spare work ∙ judged g img spare work l;
      version = repaired_version g z img;
      outcome = outcome img spare work;
      answers = λ acc. let k = repair_iff g z img acc spare work in (λ h. k.0 (answered img spare work h), λ b. number img spare work ∙ k.1 b);
      exact = λ bytes acc b. exact g z img bytes acc spare work b;
      counts = λ acc b. counts g z img acc spare work b;
      again = λ h spare₂ work₂ b.
          let a = answered img spare work h in
          let after = image_repaired img spare work in
          ap (λ (x : Geometry). repair_reply_by x after spare₂ work₂) (version_stays img spare work a) ∙ again g z img spare work a spare₂ work₂ b;
    }
