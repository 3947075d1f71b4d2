-- What a call for a fresh image answers, and what it leaves in the buffer. What the buffer held is not looked at.
use Rattle.std.specs.Prelude.{ℕ, Bool, ◌&&◌, eqb, length}
use Rattle.format.specs.Basics.Bytes.{Bytes}
use Rattle.format.specs.Rules.Length.{length_allowed}
use Rattle.format.specs.Rules.Verdict.{check}
use Rattle.format.specs.Calls.Reply.{on_zero}
use Rattle.format.specs.Fresh.Plan.{Plan, planned, plan_bytes, known_version, parts_fit}
use Rattle.format.specs.Fresh.Image.{fresh_image}

-- the version allows a buffer of so many bytes, and N agrees with it
unfoldable pub buffer_fits : ℕ → Plan → Bool
buffer_fits bytes p = length_allowed (planned p) bytes && eqb bytes (plan_bytes (planned p) p)

-- 1, 32 or 0
unfoldable pub format_answer : ℕ → Plan → ℕ
format_answer bytes p =
    check (buffer_fits bytes p) 1
    (check (known_version p && parts_fit (planned p) p) 32 0)

-- a refusal writes nothing
unfoldable pub formatted : Bytes → Plan → Bytes
formatted buffer p =
    let image = fresh_image (planned p) p in
    on_zero (format_answer (length buffer) p) image buffer
