-- What is asked, test by test.
use mathlib.Core.Path.{◌≡◌, refl, sym, ap, ◌∙◌}
use mathlib.Core.Bool.{Bool, true, false, ◌&&◌}
use mathlib.Core.List.{List}
use native.Mathlib.Omega.{arith}
use Rattle.std.proofs.Common.{Option, Some, None, Result}
use Rattle.std.specs.Result.{result_ok}
use Prim.Native.Nat.{ℕ}
use Rattle.format.specs.Basics.Bytes.{Bytes}
use Rattle.format.specs.Layout.Geometry.{Geometry}
use Rattle.format.specs.Layout.Tables.{sector_space}
use Rattle.format.specs.Layout.Volume.{volume, directory}
use Rattle.format.specs.Rules.Header.{header_rules}
use Rattle.format.specs.Rules.Tables.{table_rules}
use Rattle.format.specs.Rules.Cells.{cell_rules}
use Rattle.format.specs.Rules.Directory.{directory_rules}
use Rattle.format.specs.Rules.Entries.{entry_rules}
use Rattle.format.specs.Rules.Trees.{tree_rules}
use Rattle.format.specs.Rules.Mini.{mini_tables}
use Rattle.format.specs.Calls.RepairSteps.{tables_hold, directory_holds, entries_hold}
use Rattle.theory.proofs.Tests.{both, clash}
use Rattle.kinds.specs.declared.Geometry.{Geometry as Sizes}
use Rattle.kinds.specs.Sizes.{geometry_of}
use Rattle.tables.specs.Stages.{TablesLeft}
use Rattle.tables.proofs.WorkLaws.{wrote_two}
use Rattle.chains.specs.Answers.{length_answer}
use Rattle.kinds.specs.declared.Refusal.{Refusal}
use Rattle.volume.specs.Passed.{EntriesLeft, SystemLeft, entries_answer}
use Rattle.volume.specs.declared.mini_stage.System.{System}

module _ (g : Geometry) (img : Bytes) where
  -- ---- groups 10 and 11

  pub header_wrong : header_rules g img ≡ false → tables_hold g img ≡ false
  unfolding tables_hold
  header_wrong h = rw h

  pub header_right : header_rules g img ≡ true → tables_hold g img ≡ table_rules g img
  unfolding tables_hold
  header_right h = rw h

  pub tables_say : tables_hold g img ≡ true → table_rules g img ≡ true
  unfolding tables_hold
  tables_say h = (both (header_rules g img) (table_rules g img) h).1

  -- nothing is written where the header is wrong
  pub tables_left : (w : List ℕ) → TablesLeft g img w w false
  tables_left w = record { rest = λ i h. refl; listed = λ e. absurd (clash e refl) }

  -- ---- 12 and 13

  cells_wrong : cell_rules (sector_space g img) ≡ false → directory_holds (volume g img) ≡ false
  unfolding directory_holds volume
  cells_wrong h = rw h

  pub cells_right : cell_rules (sector_space g img) ≡ true → directory_holds (volume g img) ≡ directory_rules (volume g img)
  unfolding directory_holds volume
  cells_right h = rw h

  pub never : (n : ℕ) → cell_rules (sector_space g img) ≡ false → None ≡ length_answer (directory_holds (volume g img)) n
  unfolding length_answer
  never n h = sym (rw (cells_wrong h))

  pub directory_says : directory_holds (volume g img) ≡ true → directory_rules (volume g img) ≡ true
  unfolding directory_holds
  directory_says h = (both (cell_rules (volume g img).sectors) (directory_rules (volume g img)) h).1

  pub cells_say : directory_holds (volume g img) ≡ true → cell_rules (sector_space g img) ≡ true
  unfolding directory_holds volume
  cells_say h = (both (cell_rules (volume g img).sectors) (directory_rules (volume g img)) h).0

  -- ---- 14 to 16

  pub entries_wrong : (r : Result Unit Refusal) → r ≡ entries_answer (entry_rules (directory g img)) (tree_rules (directory g img)) → None ≡ result_ok r → entries_hold (volume g img) ≡ false
  unfolding entries_hold volume entries_answer
  entries_wrong r e h = go (entry_rules (directory g img)) (tree_rules (directory g img)) (h ∙ ap result_ok e)
    where
      go : (f t : Bool) → None ≡ result_ok (entries_answer f t) → (f && t && mini_tables (volume g img)) ≡ false
      go false t k = refl
      go true false k = refl
      go true true k = absurd (let z : ◌≡◌ {A = ℕ} 0 1 = cc in omega arith)

  pub entries_right : {u : Unit} (r : Result Unit Refusal) → r ≡ entries_answer (entry_rules (directory g img)) (tree_rules (directory g img)) → Some u ≡ result_ok r → entries_hold (volume g img) ≡ mini_tables (volume g img)
  unfolding entries_hold volume entries_answer
  entries_right {u} r e h = go (entry_rules (directory g img)) (tree_rules (directory g img)) (h ∙ ap result_ok e)
    where
      go : (f t : Bool) → Some u ≡ result_ok (entries_answer f t) → (f && t && mini_tables (volume g img)) ≡ mini_tables (volume g img)
      go true true k = refl
      go false t k = absurd (let z : ◌≡◌ {A = ℕ} 0 1 = cc in omega arith)
      go true false k = absurd (let z : ◌≡◌ {A = ℕ} 0 1 = cc in omega arith)

-- groups 14 and 15 hold: the rest of 16 decides, on what they left
pub later : {g : Sizes} {img : Bytes} {n : ℕ} {a b : Bool} {w w₁ w₂ : List ℕ} {e : Result Unit Refusal} {r : Option System} → a ≡ b → EntriesLeft (geometry_of g) img n w w₁ e → SystemLeft g img b w₁ w₂ r → SystemLeft g img a w w₂ r
later {g} {img} {w₂ = w₂} {r = r} h l s = record { answer = rw h s.answer; wrote = wrote_two l.wrote s.wrote }
