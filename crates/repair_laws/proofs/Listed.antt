-- From the image to an accepted outcome, the directory becomes black, and nothing else happens to it.
use Prim.Native.Nat.{◌≤◌, ◌<◌}
use mathlib.Core.Path.{◌≡◌, refl, sym, ap, ◌∙◌, subst}
use mathlib.Core.Bool.{true}
use native.Mathlib.Omega.{arith}
use lib.ListN.{length}
use Rattle.format.specs.Basics.Lists.{count}
use Rattle.format.specs.Basics.Bytes.{Bytes}
use Rattle.format.specs.Layout.Geometry.{Geometry}
use Rattle.format.specs.Layout.Entry.{name_bytes}
use Rattle.format.specs.Layout.Directory.{Directory, directory_of, entry_count}
use Rattle.format.specs.Layout.Tree.{entries}
use Rattle.format.specs.Layout.Volume.{volume, directory}
use Rattle.format.specs.Rules.Length.{length_allowed}
use Rattle.format.specs.Rules.Verdict.{Accepted}
use Rattle.format.specs.Calls.RepairSteps.{repaired}
use Rattle.frame.specs.Kept.{Sized}
use Rattle.frame.specs.Good.{Good}
use Rattle.frame.proofs.Good.{accepted_good}
use Rattle.frame.proofs.Parts.{entry_is, entry_count_is}
use Rattle.repair_laws.specs.Steps.{after4, Taken}
use Rattle.repair_laws.specs.Black.{black_entry, IsBlack, NamesLie}
use Rattle.repair_laws.proofs.SameLists.{dirs_AE, entry_AE, entry_out_AE}
use Rattle.repair_laws.proofs.BlackFields.{black_name_bytes}
use Rattle.repair_laws.proofs.BlackDirectory.{field_same, forest_same}
use Rattle.repair_laws.proofs.BlackRules.{names_lie}

module _ (g : Geometry) (z : Sized g) (A : Bytes) (ok : length_allowed g (length A) ≡ true) (k : Taken g A) (acc : Accepted g (repaired g A)) where
  abbrev E : Bytes
  E = after4 g A

  abbrev d_A : Directory
  d_A = (volume g A).directory

  abbrev d_E : Directory
  d_E = (volume g E).directory

  count_AE : d_E.count ≡ d_A.count
  count_AE = entry_count_is g E ∙ ap (entry_count g) (dirs_AE g z A ok k acc) ∙ sym (entry_count_is g A)

  counted_AE : d_E.size_width ≡ d_A.size_width
  unfolding volume directory directory_of
  counted_AE = refl

  pub black_AE : IsBlack d_A d_E
  black_AE =
      record {
        rows = count_AE;
        counted = counted_AE;
        inside = λ i h. entry_is g E i ∙ entry_AE g z A ok k acc i (subst (λ n. i < n) (entry_count_is g A) h) ∙ ap black_entry (sym (entry_is g A i));
        outside = λ i h. entry_is g E i ∙ entry_out_AE g z A ok k acc i (subst (λ n. n ≤ i) (entry_count_is g A) h) ∙ sym (entry_is g A i);
      }

  pub acc_E : Accepted g E
  acc_E = subst (Accepted g) k.outcome acc

  pub good_E : Good (volume g E)
  good_E = accepted_good g E (let w = z.wide in omega arith) acc_E

  pub names_AE : NamesLie d_A
  names_AE x q =
      let black = black_AE in
      let s = names_lie d_E good_E.entries good_E.trees x (subst (λ t. 0 < count x (entries t)) (sym (forest_same d_A d_E black)) q) in
      (omega (arith, s.0, black.rows), omega (arith, s.1, field_same d_A d_E black name_bytes black_name_bytes x))
