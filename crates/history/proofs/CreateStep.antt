-- A create that answers 0 leaves an accepted image of the state that the history says.
use Prim.Native.Nat.{ℕ, ◌<◌}
use mathlib.Core.Path.{◌≡◌, sym, ap, subst₂}
use mathlib.Core.List.{List, [], ◌∷◌, ◌++◌}
use lib.ListN.{length}
use Rattle.format.specs.Basics.Bytes.{Bytes}
use Rattle.format.specs.Layout.Geometry.{Geometry}
use Rattle.format.specs.Layout.Name.{Name}
use Rattle.format.specs.Layout.Directory.{Directory}
use Rattle.format.specs.Layout.Tree.{forest}
use Rattle.format.specs.Layout.Volume.{volume, directory}
use Rattle.format.specs.Rules.Verdict.{Accepted, verdict}
use Rattle.format.specs.Calls.Paths.{Path, names_before, last_name}
use Rattle.format.specs.Calls.Find.{resolve, resolve_parent}
use Rattle.format.specs.Calls.Create.{NewKind, object_created, lowest_blank}
use Rattle.format.specs.Calls.Answer.{answer, answer_in, create_answer}
use Rattle.format.specs.Calls.Call.{create, work_of}
use Rattle.format.specs.History.Storages.{storages_of, spelled}
use Rattle.format.specs.History.State.{state_in}
use Rattle.format.specs.History.Step.{with_object, new_path}
use Rattle.theory.specs.TreeObjects.{way_names}
use Rattle.theory.proofs.Refusals.{first_zero}
use Rattle.frame.specs.Frame.{Frame}
use Rattle.frame.specs.Good.{Good}
use Rattle.frame.specs.Place.{MayCreate, Creating}
use Rattle.frame.proofs.Good.{accepted_good}
use Rattle.frame.proofs.EntryFacts.{good_searched}
use Rattle.frame.proofs.CreatedPath.{may_create_lem, creating, created_image}
use Rattle.frame.proofs.CreatedFacts.{rules, way}
use Rattle.history.specs.Step.{Next}
use Rattle.history.proofs.Spelling.{spelled_way}
use Rattle.history.proofs.CreatedState.{create_next}

create_answer_is : (g : Geometry) (img : Bytes) → Accepted g img → (made : NewKind) (p : Path) (work : List ℕ) → answer g img (create made p work) ≡ 0
    → create_answer (volume g img).directory (resolve_parent (volume g img).directory p) (resolve (volume g img).directory p) ≡ 0
unfolding answer answer_in work_of
create_answer_is g img acc made p work h = (first_zero (verdict g img (length work)) _ h).1

module _ (g : Geometry) (pos : 0 < g.sector_bytes) (fr : Frame g) (img : Bytes) (acc : Accepted g img) where
  pub create_answered_0 : (made : NewKind) (p : Path) (work : List ℕ) → answer g img (create made p work) ≡ 0
      → Next g img (object_created (volume g img) img made p) (with_object (state_in g img) made (new_path (state_in g img) p))
  unfolding new_path state_in storages_of forest volume
  create_answered_0 made p work a =
      subst₂ (λ (i : Bytes) (q : List Name). Next g img i (with_object (state_in g img) made q)) (created_image (volume g img) img made p f) path_is
      (create_next g pos fr img acc made place)
    where
      d : Directory
      d = (volume g img).directory

      good : Good (volume g img)
      good = accepted_good g img pos acc

      f : MayCreate d p
      f = may_create_lem d p (create_answer_is g img acc made p work a)

      place : Creating g img (last_name p) (names_before p) f.s f.b (lowest_blank d)
      place = creating g fr img acc good p f

      path_is : way_names d (way place).way ++ (last_name p ∷ [])
          ≡ spelled (storages_of g img) (names_before p) ++ (last_name p ∷ [])
      path_is =
          ap (λ (q : List Name). q ++ (last_name p ∷ []))
          (sym (spelled_way d (good_searched g img good) (rules place) (names_before p) f.s f.b place.led place.plain))
