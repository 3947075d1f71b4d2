-- A list of calls: plain, each lent the work buffer as the last one left it; and on an opened volume, as the contracts of these calls say.
use Rattle.std.specs.Prelude.{ℕ, ◌≡◌, List, [], ◌∷◌, length}
use Rattle.format.specs.Basics.Bytes.{Bytes}
use Rattle.format.specs.Rules.Length.{work_need}
use Rattle.format.specs.Calls.Call.{Call, validate, find, read, overwrite, set_length, create, remove, list, read_at}
use Rattle.format.specs.Calls.Reply.{Reply, reply}
use Rattle.format.specs.Calls.Buffers.{image_after, out_after, work_after}
use Rattle.tables.specs.Work.{Wrote}
use Rattle.volume.specs.declared.Volume.{Volume}
use Rattle.opened.specs.OpenVolume.{OpenVolume}

-- the call, lent this work buffer
unfoldable pub lent : List ℕ → Call → Call
lent w (validate work) = validate w
lent w (find path work) = find path w
lent w (read path offset out work) = read path offset out w
lent w (overwrite path offset bytes work) = overwrite path offset bytes w
lent w (set_length path new work) = set_length path new w
lent w (create made path work) = create made path w
lent w (remove path work) = remove path w
lent w (list out work) = list out w
lent w (read_at entry position out work) = read_at entry position out w

-- all that a call hands out
pub record Given : Type 0 where
  pub reply : Reply
  pub out : Bytes

abbrev pub given : Bytes → Call → Given
given img c = record { reply = reply img c; out = out_after img c }

-- ---- plain calls

unfoldable pub plain_given : Bytes → List ℕ → List Call → List Given
plain_given img w [] = []
plain_given img w (c ∷ cs) = given img (lent w c) ∷ plain_given (image_after img (lent w c)) (work_after img (lent w c)) cs

unfoldable pub plain_image : Bytes → List ℕ → List Call → Bytes
plain_image img w [] = img
plain_image img w (c ∷ cs) = plain_image (image_after img (lent w c)) (work_after img (lent w c)) cs

unfoldable pub plain_work : Bytes → List ℕ → List Call → List ℕ
plain_work img w [] = w
plain_work img w (c ∷ cs) = plain_work (image_after img (lent w c)) (work_after img (lent w c)) cs

-- ---- calls on an opened volume

-- what one call leaves
pub record Left (v : Volume) (img : Bytes) (w : List ℕ) (c : Call) (img₁ : Bytes) (w₁ : List ℕ) : Type 0 where
  pub image : img₁ ≡ image_after img (lent w c)
  pub opened : OpenVolume v img₁ w₁
  pub wrote : Wrote w w₁ 0 (work_need (length img))

-- from img and w to img' and w', with xs handed out
abbrev pub OpenedCalls : Volume → Bytes → List ℕ → List Call → List Given → Bytes → List ℕ → Type 0
OpenedCalls v img w [] [] img' w' = (img' ≡ img) × (w' ≡ w)
OpenedCalls v img w [] (x ∷ xs) img' w' = ⊥
OpenedCalls v img w (c ∷ cs) [] img' w' = ⊥
OpenedCalls v img w (c ∷ cs) (x ∷ xs) img' w' =
    (img₁ : Bytes) × (w₁ : List ℕ) × ((x ≡ given img (lent w c)) × (Left v img w c img₁ w₁ × OpenedCalls v img₁ w₁ cs xs img' w'))
