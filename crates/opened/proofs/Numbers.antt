-- What ties the calls to the theorem about lists of calls: the number of a reply is the answer, and a call that is lent the image to read leaves it.
use mathlib.Core.Path.{◌≡◌, refl}
use Prim.Native.Nat.{ℕ, zero, suc}
use mathlib.Core.List.{List}
use Rattle.format.specs.Basics.Bytes.{Bytes}
use Rattle.format.specs.Layout.Geometry.{Geometry}
use Rattle.format.specs.Layout.Volume.{Volume, volume}
use Rattle.format.specs.Calls.Paths.{Path}
use Rattle.format.specs.Calls.Call.{Call, validate, find, read, overwrite, set_length, create, remove, list, read_at}
use Rattle.format.specs.Calls.Answer.{answer}
use Rattle.format.specs.Calls.Reply.{plain, found_reply, counted, done, on_zero, reply_by}
use Rattle.format.specs.Calls.Buffers.{edited, image_after_by}

-- a call that is done has the number 0
done_number : (v : Volume) (call : Call) → (done v call).number ≡ 0
unfolding done plain found_reply counted
done_number v (validate work) = refl
done_number v (find path work) = refl
done_number v (read path offset out work) = refl
done_number v (overwrite path offset bytes work) = refl
done_number v (set_length path new work) = refl
done_number v (create made path work) = refl
done_number v (remove path work) = refl
done_number v (list out work) = refl
done_number v (read_at entry position out work) = refl

module _ (g : Geometry) (img : Bytes) where
  pub reply_number : (call : Call) → (reply_by g img call).number ≡ answer g img call
  unfolding reply_by on_zero plain
  reply_number call = go (answer g img call)
    where
      go : (n : ℕ) → (on_zero n (done (volume g img) call) (plain n)).number ≡ n
      go zero = done_number (volume g img) call
      go (suc n) = refl

  -- whatever is answered
  kept : (n : ℕ) → on_zero n img img ≡ img
  unfolding on_zero
  kept zero = refl
  kept (suc n) = refl

  module _ (work : List ℕ) where
    pub reading_keeps : (path : Path) (offset : ℕ) (out : Bytes)
        → (image_after_by g img (validate work) ≡ img) × ((image_after_by g img (find path work) ≡ img) × ((image_after_by g img (read path offset out work) ≡ img) × (image_after_by g img (list out work) ≡ img)))
    unfolding image_after_by edited
    reading_keeps path offset out = (kept _, (kept _, (kept _, kept _)))

    pub reading_at_keeps : (entry position : ℕ) (out : Bytes) → image_after_by g img (read_at entry position out work) ≡ img
    unfolding image_after_by edited
    reading_at_keeps entry position out = kept _
