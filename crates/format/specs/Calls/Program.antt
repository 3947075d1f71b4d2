-- What the program writes for what it reads ("The listing", last lines).
use Rattle.std.specs.Prelude.{ℕ, cond, [], ◌∷◌, ◌++◌, ltb, length, replicate}
use Rattle.format.specs.Basics.Bytes.{Bytes}
use Rattle.format.specs.Layout.Geometry.{Geometry}
use Rattle.format.specs.Layout.Volume.{volume}
use Rattle.format.specs.Rules.Length.{work_need}
use Rattle.format.specs.Rules.Version.{version_of}
use Rattle.format.specs.Calls.Text.{newline, space, decimal}
use Rattle.format.specs.Calls.Listing.{listing}
use Rattle.format.specs.Calls.Call.{Call, list}
use Rattle.format.specs.Calls.Answer.{answer}
use Rattle.format.specs.Calls.Reply.{on_zero}

-- how many bytes it reads at most, and how long its out buffer is
unfoldable pub program_capacity : ℕ
program_capacity = 65536

-- `refused` and the number
unfoldable pub refused_line : ℕ → Bytes
refused_line n = 0x72 ∷ 0x65 ∷ 0x66 ∷ 0x75 ∷ 0x73 ∷ 0x65 ∷ 0x64 ∷ space ∷ (decimal n ++ (newline ∷ []))

-- its one call, with zeroed buffers; the work buffer is long enough for every image it takes
unfoldable pub program_call : Call
program_call = list (replicate program_capacity 0) (replicate (work_need program_capacity) 0)

unfoldable pub program_output_by : Geometry → Bytes → Bytes
program_output_by g input =
    cond (ltb program_capacity (length input))
    (refused_line 1)
    (on_zero (answer g input program_call) (listing (volume g input).directory) (refused_line (answer g input program_call)))

-- by the input's own version
abbrev pub program_output : Bytes → Bytes
program_output input = program_output_by (version_of input) input
