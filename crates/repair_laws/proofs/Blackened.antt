-- An accepted image stays accepted when its entries become black.
use Prim.Native.Nat.{ℕ, ◌≤◌, ◌<◌}
use mathlib.Core.Path.{◌≡◌, refl, sym, ap, ◌∙◌, subst}
use mathlib.Core.Logic.{inl}
use mathlib.Core.Bool.{true}
use mathlib.Core.List.{List}
use native.Mathlib.Omega.{arith}
use native.Mathlib.Decide.{dec_lt}
use lib.Dec.{eqb, leb}
use lib.ListN.{length}
use Rattle.format.specs.Basics.Bytes.{Bytes}
use Rattle.format.specs.Layout.Geometry.{Geometry, size_width}
use Rattle.format.specs.Layout.Entry.{start, size}
use Rattle.format.specs.Layout.Directory.{Directory, directory_of, entry_in, entry_count}
use Rattle.format.specs.Layout.Stream.{stream_size}
use Rattle.format.specs.Layout.Volume.{volume, directory, directory_sectors_of, root, root_size}
use Rattle.format.specs.Rules.Length.{length_allowed, work_need}
use Rattle.format.specs.Rules.Verdict.{check, groups, verdict, Accepted}
use Rattle.format.specs.Calls.RepairSteps.{directory_holds, blackened}
use Rattle.frame.specs.Kept.{Sized, Kept, Off}
use Rattle.frame.specs.Good.{Good}
use Rattle.frame.specs.Redraw.{IsRedrawn, SameStream}
use Rattle.frame.proofs.Accepted.{check_zero, accepted_kept}
use Rattle.frame.proofs.Good.{accepted_good}
use Rattle.frame.proofs.Parts.{RootKept, entry_is, entry_count_is}
use Rattle.frame.proofs.Redrawing.{redrawn, entry_now, entry_long_lem}
use Rattle.frame.proofs.RedrawnGood.{redrawn_good, redrawn_accepted}
use Rattle.repair_laws.proofs.Taken.{passes_tables, passes_directory}
use Rattle.repair_laws.specs.Tables.{Tabled}
use Rattle.repair_laws.specs.Black.{black_entry, IsBlack}
use Rattle.repair_laws.proofs.Tabled.{tabled}
use Rattle.repair_laws.proofs.BlackFields.{black_start, black_size}
use Rattle.repair_laws.proofs.BlackDirectory.{field_same, kind_same, size_same}
use Rattle.repair_laws.proofs.BlackRules.{black_entries, black_trees}
use Rattle.repair_laws.proofs.Blackening.{second_kept, second_in, second_out}

pub accepted_groups : (g : Geometry) (img : Bytes) → Accepted g img → groups g img ≡ 0
unfolding verdict
accepted_groups g img acc =
    let w = leb (work_need (length img)) (work_need (length img)) in
    let a = check_zero (length_allowed g (length img)) 1 (check w 2 (groups g img)) (omega arith) acc in
    (check_zero w 2 (groups g img) (omega arith) a.1).1

module _ (g : Geometry) (z : Sized g) (A : Bytes) (acc : Accepted g A) where
  abbrev C : Bytes
  C = blackened (volume g A) A

  abbrev dirs : List ℕ
  dirs = directory_sectors_of g A

  abbrev d_A : Directory
  d_A = (volume g A).directory

  abbrev d_C : Directory
  d_C = (volume g C).directory

  pos : 0 < g.sector_bytes
  pos = let w = z.wide in omega arith

  pub tabled_A : Tabled g A
  tabled_A = tabled g z A (accepted_kept g A acc).allowed (passes_tables g A (accepted_groups g A acc))

  holds : directory_holds (volume g A) ≡ true
  holds = passes_directory g A (accepted_groups g A acc)

  pub kept_C : Kept g (Off dirs) A C
  kept_C = second_kept g z A tabled_A holds

  there : (i : ℕ) → i < entry_count g dirs → entry_in g C dirs i ≡ black_entry (d_A.entry i)
  there i h = second_in g z A tabled_A holds i h ∙ ap black_entry (sym (entry_is g A i))

  gone : (i : ℕ) → entry_count g dirs ≤ i → entry_in g C dirs i ≡ entry_in g A dirs i
  gone = second_out g z A tabled_A holds

  root_field : {T : Type 0} (f : Bytes → T) → ((e : Bytes) → f (black_entry e) ≡ f e) → f (entry_in g C dirs 0) ≡ f (entry_in g A dirs 0)
  root_field f h =
      elim (dec_lt 0 (entry_count g dirs)) [
        | yes l ↦ ap f (there 0 l) ∙ h (d_A.entry 0) ∙ ap f (entry_is g A 0)
        | no l ↦ ap f (gone 0 (omega arith))
      ]

  root_C : RootKept g A C
  root_C = (root_field start black_start, root_field (size (size_width g)) (black_size (size_width g)))

  pub redrawn_C : IsRedrawn g A C
  redrawn_C = redrawn g z A acc C kept_C root_C

  counted_C : d_C.size_width ≡ d_A.size_width
  unfolding volume directory directory_of
  counted_C = refl

  pub black_C : IsBlack d_A d_C
  black_C =
      record {
        rows = redrawn_C.kept.parts.entry_count;
        counted = counted_C;
        inside = λ i h. entry_now g z A acc C kept_C root_C i ∙ there i (subst (λ n. i < n) (entry_count_is g A) h);
        outside = λ i h. entry_now g z A acc C kept_C root_C i ∙ gone i (subst (λ n. n ≤ i) (entry_count_is g A) h) ∙ sym (entry_is g A i);
      }

  stream_same : (i : ℕ) → SameStream (volume g A) (volume g C) i
  unfolding stream_size
  stream_same i =
      record {
        stream = ap (λ n. eqb n 2) (kind_same d_A d_C black_C i);
        start = field_same d_A d_C black_C start black_start i;
        size = size_same d_A d_C black_C i;
      }

  good_A : Good (volume g A)
  good_A = accepted_good g A pos acc

  root_start_lem : start (root (volume g C)) ≡ start (root (volume g A))
  unfolding root
  root_start_lem = field_same d_A d_C black_C start black_start 0

  root_bytes : root_size (volume g C) ≡ root_size (volume g A)
  unfolding root_size
  root_bytes = size_same d_A d_C black_C 0

  pub accepted_C : Accepted g C
  accepted_C =
      redrawn_accepted g A C acc redrawn_C
      (redrawn_good good_A redrawn_C.kept.parts redrawn_C.sector_cells redrawn_C.mini_cells (λ i h. inl (stream_same i))
      (black_entries d_A d_C black_C (entry_long_lem g z A acc) good_A.entries good_A.trees)
      (black_trees d_A d_C black_C (entry_long_lem g z A acc) good_A.entries good_A.trees)
      root_start_lem root_bytes)
