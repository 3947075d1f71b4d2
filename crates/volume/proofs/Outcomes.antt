-- The first rule that does not hold decides: the outcome of each stage.
use Prim.Native.Nat.{ℕ, ◌≤◌}
use mathlib.Core.Path.{◌≡◌, refl, sym, ◌∙◌, subst}
use mathlib.Core.Bool.{Bool, true, false, ◌&&◌, and_assoc}
use mathlib.Core.List.{List}
use native.Mathlib.Omega.{arith}
use Rattle.std.proofs.Common.{Option, Some, None, Result, Ok, Err}
use Rattle.std.specs.Prelude.{ok_or}
use lib.ListN.{length}
use Rattle.format.specs.Basics.Bytes.{Bytes}
use Rattle.format.specs.Layout.Volume.{Volume, volume}
use Rattle.format.specs.Rules.Length.{work_need}
use Rattle.format.specs.Rules.Cells.{rest_free}
use Rattle.format.specs.Rules.Mini.{mini_fat_chain, mini_stream_chain, mini_tables, mini_rules}
use Rattle.format.specs.Rules.Streams.{stream_rules}
use Rattle.format.specs.Rules.Owners.{owner_rules}
use Rattle.format.specs.Rules.Verdict.{check}
use Rattle.kinds.specs.declared.Geometry.{Geometry as Sizes}
use Rattle.kinds.specs.declared.Refusal.{Refusal}
use Rattle.kinds.specs.declared.Refusal.TheVariants.{Streams, Owners}
use Rattle.kinds.specs.Sizes.{geometry_of}
use Rattle.kinds.specs.Numbers.{refusal_number}
use Rattle.header.specs.Sized.{W}
use Rattle.tables.specs.Work.{Wrote}
use Rattle.tables.proofs.WorkLaws.{wrote_wider, wrote_two}
use Rattle.owners.specs.Streams.{owners_answer}
use Rattle.volume.specs.Groups.{owner_groups, mini_groups}
use Rattle.volume.specs.Passed.{mini_cell_rules}
use Rattle.volume.specs.Opened.{StageLeft}
use Rattle.volume.specs.declared.Volume.{Volume as Where}

-- only the part of the work buffer that is ours has changed
pub wrote_ours : (img : Bytes) {w w' : List ℕ} {n : ℕ} → Wrote w w' 0 n → n ≤ W img → Wrote w w' 0 (work_need (length img))
unfolding work_need
wrote_ours img r h = wrote_wider 0 _ r (omega arith) (omega arith)

-- ---- what `ok_or` says

pub ok_is : {A : Type 0} {x : A} (r : Option A) (a : Refusal) → Ok x ≡ ok_or r a → r ≡ Some x
ok_is None a e = absurd (let z : ◌≡◌ {A = ℕ} 0 1 = cc in omega arith)
ok_is (Some y) a e = cc

pub err_is : {A : Type 0} {d : Refusal} (r : Option A) (a : Refusal) → Err d ≡ ok_or r a → (r ≡ None) × (d ≡ a)
err_is None a e = (refl, cc)
err_is (Some y) a e = absurd (let z : ◌≡◌ {A = ℕ} 0 1 = cc in omega arith)

-- ---- groups 17 and 18, by the answer on streams and owners

module _ (v : Volume) where
  pub owners_refused : {a : Refusal} → Err a ≡ owners_answer (stream_rules v) (owner_rules v) → refusal_number a ≡ owner_groups v
  unfolding owner_groups check owners_answer
  owners_refused {a} e = go (stream_rules v) (owner_rules v) e
    where
      go : (c o : Bool) → Err a ≡ owners_answer c o → refusal_number a ≡ check c 17 (check o 18 0)
      go false o k = let z : a ≡ Streams = cc in rw z
      go true false k = let z : a ≡ Owners = cc in rw z
      go true true k = absurd (let z : ◌≡◌ {A = ℕ} 0 1 = cc in omega arith)

  pub owners_hold : {u : Unit} → Ok u ≡ owners_answer (stream_rules v) (owner_rules v) → owner_groups v ≡ 0
  unfolding owner_groups check owners_answer
  owners_hold {u} e = go (stream_rules v) (owner_rules v) e
    where
      go : (c o : Bool) → Ok u ≡ owners_answer c o → check c 17 (check o 18 0) ≡ 0
      go true true k = refl
      go true false k = absurd (let z : ◌≡◌ {A = ℕ} 0 1 = cc in omega arith)
      go false o k = absurd (let z : ◌≡◌ {A = ℕ} 0 1 = cc in omega arith)

-- ---- group 16

module _ (v : Volume) where
  mini_tables_lem : mini_tables v ≡ ((mini_fat_chain v && mini_stream_chain v) && mini_cell_rules v)
  unfolding mini_cell_rules
  mini_tables_lem = simp and_assoc

  pub chains_break : (mini_fat_chain v && mini_stream_chain v) ≡ false → mini_tables v ≡ false
  chains_break h = mini_tables_lem ∙ rw h

  module _ (h : (mini_fat_chain v && mini_stream_chain v) ≡ true) where
    pub cells_break : mini_cell_rules v ≡ false → mini_tables v ≡ false
    cells_break k = mini_tables_lem ∙ rw (h, k)

    pub cells_hold : mini_cell_rules v ≡ true → mini_tables v ≡ true
    cells_hold k = mini_tables_lem ∙ rw (h, k)

  pub minis_break : mini_tables v ≡ false → mini_groups v ≡ 16
  unfolding mini_groups mini_rules check
  minis_break h = rw h

  module _ (h : mini_tables v ≡ true) where
    pub rest_breaks : rest_free v.minis ≡ false → mini_groups v ≡ 16
    unfolding mini_groups mini_rules check
    rest_breaks k = rw (h, k)

    pub minis_hold : rest_free v.minis ≡ true → mini_groups v ≡ owner_groups v
    unfolding mini_groups mini_rules check
    minis_hold k = rw (h, k)

-- what a later stage answers is what the earlier ones answer, where their rules hold
pub stage_later : {s : Sizes} {img : Bytes} {want later : ℕ} {w w₁ w₂ : List ℕ} {r : Result Where Refusal} → want ≡ later → Wrote w w₁ 0 (work_need (length img)) → StageLeft s img later w₁ w₂ r → StageLeft s img want w w₂ r
stage_later {s} {img} {w₂ = w₂} {r} e x l = record { outcome = rw e l.outcome; wrote = wrote_two x l.wrote }

-- a refusal
pub stage_refused : (s : Sizes) (img : Bytes) (want : ℕ) (a : Refusal) {w w' : List ℕ} → want ≡ refusal_number a → Wrote w w' 0 (work_need (length img)) → StageLeft s img want w w' (Err a)
stage_refused s img want a e x = record { outcome = sym e; wrote = x }

-- the same geometry by another name
pub stage_for : (f : Volume → ℕ) (img : Bytes) {s s' : Sizes} {w w' : List ℕ} {r : Result Where Refusal} → s ≡ s' → StageLeft s img (f (volume (geometry_of s) img)) w w' r → StageLeft s' img (f (volume (geometry_of s') img)) w w' r
stage_for f img {w = w} {w'} {r} e l = subst (λ s. StageLeft s img (f (volume (geometry_of s) img)) w w' r) e l
