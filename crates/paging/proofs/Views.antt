-- What a view owns. A view is Copy: what it owns is had twice, and one of the two is opened.
use mathlib.Core.Path.{◌≡◌}
use mathlib.Core.List.{[], ◌∷◌}
use lib.ListN.{length}
use seplogic.Ra.Ura.{Ura}
use mir.Val.{Val}
use base.Logic.{ent, sep}
use base.Fml.{Fml}
use types.Logic.{Logic, sem}
use types.Kit.{‵, ◌⊛◌, given, ◌$◌, ◌∵◌, !, qed, move, drop, use1, split, learn, fsplit, frame, done}
use denote.Builtin.{u8}
use denote.Ref.{NamedLft}
use denote.Slice.{slice_val, ShrSlice}
use denote.Struct.Laws as LL
use denote.Struct.Rest.{all_own, own_open}
use Rattle.paging.specs.declared.view.View.{View}
use Rattle.paging.specs.contracts.view.View as T
use Rattle.paging.proofs.view.View.TheLaws as T'

-- the machine values of a view and of its image
abbrev pub view_val : View → Val
view_val d = T'.lowered d

abbrev pub image_val : View → Val
image_val d = slice_val d.image.ref_ptr (length d.image.now)

-- what each owns
abbrev pub ViewOwns : NamedLft → View → Fml
ViewOwns α d = (T.the_row α).own_val d (view_val d ∷ [])

abbrev pub ImageOwns : NamedLft → View → Fml
ImageOwns α d = (ShrSlice α.mir α.lft u8).own_val d.image (image_val d ∷ [])

pub image_out : {M : Type 1} {𝓤 : Ura M} (𝓛 : Logic 𝓤) (α : NamedLft) (d : View)
    → ent 𝓤 (sem 𝓛 (ViewOwns α d)) (sep 𝓤 (sem 𝓛 (ImageOwns α d)) (sem 𝓛 (ViewOwns α d)))
image_out 𝓛 α d =
    let D = T.the_type α in
    let L = T'.the_laws α in
    qed 𝓛 (‵ (ViewOwns α d) ∷ []) ∵
    use1 𝓛 (‵ (ViewOwns α d) ⊛ ‵ (ViewOwns α d)) ((LL.copy D (T'.the_copy α) 𝓛).twice d (view_val d ∷ [])) $ split ! $
    use1 𝓛 (given (view_val d ∷ [] ≡ view_val d ∷ []) (‵ (all_own D.parts L (d.image, tt)))) (own_open 𝓛 D L (d.image, tt) (view_val d)) $
    learn ! (λ _. fsplit ! $ move ! (1 ∷ []) $ drop ! $ frame ! $ done !)
