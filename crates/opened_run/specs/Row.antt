-- Calls in a row on a volume that is opened once: they give and leave what a validation and the same plain calls do.
use Rattle.std.specs.Prelude.{ℕ, ◌≡◌, Result, Ok, Err, List, [], ◌∷◌}
use Rattle.format.specs.Basics.Bytes.{Bytes}
use Rattle.format.specs.Calls.Paths.{Path}
use Rattle.format.specs.Calls.Call.{Call, validate, find, read, overwrite, set_length, list}
use Rattle.format.specs.Calls.Reply.{plain, reply}
use Rattle.format.specs.Calls.Buffers.{work_after}
use Rattle.kinds.specs.Numbers.{number_of, refusal_number}
use Rattle.queries.specs.Replies.{find_reply, read_reply, list_reply}
use Rattle.opened.specs.Sequence.{Given, plain_given, plain_image, plain_work}
use Rattle.opened_run.specs.declared.Steps.{Steps}
use Rattle.kinds.specs.declared.Refusal.{Refusal}

-- the buffers that are lent
pub record Buffers : Type 0 where
  pub image : Bytes
  pub work : List ℕ
  pub out : Bytes
  pub text : Bytes

-- the calls; each is lent the work buffer as the last one left it
abbrev pub row_calls : Path → ℕ → ℕ → Bytes → Bytes → Bytes → List Call
row_calls path new offset bytes out text =
    set_length path new [] ∷ overwrite path offset bytes [] ∷ find path [] ∷ read path offset out [] ∷ list text [] ∷ []

-- all that they hand out
abbrev pub row_given : Steps → Bytes → Bytes → List Given
row_given s out text =
    record { reply = plain (number_of s.length); out = [] }
    ∷ record { reply = plain (number_of s.overwrite); out = [] }
    ∷ record { reply = find_reply s.find; out = [] }
    ∷ record { reply = read_reply s.read; out = out }
    ∷ record { reply = list_reply s.list; out = text }
    ∷ []

-- what a validation hands out that accepts
abbrev pub accepted : Given
accepted = record { reply = plain 0; out = [] }

-- Err: what a validation that refuses gives and leaves. Ok: what a validation and then the calls give and leave
abbrev pub RowRight : List Call → Buffers → Buffers → Result Steps Refusal → Type 0
RowRight calls before after (Err a) =
    (plain (refusal_number a) ≡ reply before.image (validate before.work))
    × ((after.image ≡ before.image)
    × ((after.work ≡ work_after before.image (validate before.work))
    × ((after.out ≡ before.out) × (after.text ≡ before.text))))
RowRight calls before after (Ok s) =
    (accepted ∷ row_given s after.out after.text ≡ plain_given before.image before.work (validate [] ∷ calls))
    × ((after.image ≡ plain_image before.image before.work (validate [] ∷ calls))
    × (after.work ≡ plain_work before.image before.work (validate [] ∷ calls)))
