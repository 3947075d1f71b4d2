-- Pulse streams, and images that hold one.
use Rattle.std.specs.Prelude.{ℕ, ◌-◌, List, [], ◌∷◌, ◌++◌, length, replicate}
use Rattle.format.specs.Basics.Bytes.{Bytes}
use Rattle.format.specs.Layout.Chain.{END, FATSECT}
use Rattle.format.specs.Layout.Entry.{NOSTREAM}
use Rattle.format_tests.specs.Build.{header, cells, entry, blank, root_entry}
use Rattle.format_tests.specs.Images.{log}
use Rattle.pulse_laws.specs.Pulse.{Pulse}

-- a preamble of 2 bytes, two records (valve 1, 300 ticks; valve 2, 5 ticks) and the trailer
unfoldable pub two_pulses : Bytes
two_pulses =
    0x50 ∷ 0x31
    ∷ 1 ∷ 0 ∷ 0 ∷ 0 ∷ 0x2C ∷ 1 ∷ 0 ∷ 0
    ∷ 2 ∷ 0 ∷ 0 ∷ 0 ∷ 5 ∷ 0 ∷ 0 ∷ 0
    ∷ 32 ∷ 0 ∷ 0 ∷ 0 ∷ 2 ∷ 0 ∷ 0 ∷ 0 ∷ 0x31 ∷ 1 ∷ 0 ∷ 0 ∷ 0 ∷ 0 ∷ 0 ∷ 0
    ∷ []

-- the same after valve 7 was open for 256 ticks
unfoldable pub three_pulses : Bytes
three_pulses =
    0x50 ∷ 0x31
    ∷ 1 ∷ 0 ∷ 0 ∷ 0 ∷ 0x2C ∷ 1 ∷ 0 ∷ 0
    ∷ 2 ∷ 0 ∷ 0 ∷ 0 ∷ 5 ∷ 0 ∷ 0 ∷ 0
    ∷ 7 ∷ 0 ∷ 0 ∷ 0 ∷ 0 ∷ 1 ∷ 0 ∷ 0
    ∷ 40 ∷ 0 ∷ 0 ∷ 0 ∷ 3 ∷ 0 ∷ 0 ∷ 0 ∷ 0x31 ∷ 2 ∷ 0 ∷ 0 ∷ 0 ∷ 0 ∷ 0 ∷ 0
    ∷ []

unfoldable pub seventh : Pulse
seventh = record { valve = 7; ticks = 256 }

-- of no ticks
unfoldable pub still : Pulse
still = record { valve = 7; ticks = 0 }

-- no record, and no preamble
unfoldable pub no_pulse : Bytes
no_pulse = 16 ∷ replicate 15 0

-- valve FFFF open for FFFFFFFF ticks, and no preamble
unfoldable pub one_pulse : Bytes
one_pulse =
    0xFF ∷ 0xFF ∷ 0 ∷ 0 ∷ 0xFF ∷ 0xFF ∷ 0xFF ∷ 0xFF
    ∷ 24 ∷ 0 ∷ 0 ∷ 0 ∷ 1 ∷ 0 ∷ 0 ∷ 0 ∷ 0xFF ∷ 0xFF ∷ 0xFF ∷ 0xFF ∷ 0 ∷ 0 ∷ 0 ∷ 0
    ∷ []

-- an image with one stream `log`, in mini sector 0, and as many mini sectors as a root of so many bytes has
unfoldable pub holding : Bytes → (root_size : ℕ) → Bytes
holding s root_size =
    header 2 1
    ++ cells (FATSECT ∷ END ∷ END ∷ END ∷ [])
    ++ (root_entry 1 3 root_size ++ entry log 2 1 NOSTREAM NOSTREAM NOSTREAM 0 (length s) ++ blank ++ blank)
    ++ cells (END ∷ [])
    ++ (s ++ replicate (512 - length s) 0xEE)

-- free mini sectors behind a pulse stream, and a pulse stream of 64 bytes in the only one
unfoldable pub roomy : Bytes
roomy = holding two_pulses 512

unfoldable pub full : Bytes
full = holding (replicate 30 0x50 ++ two_pulses) 64

-- a work buffer that is just long enough
unfoldable pub enough : List ℕ
enough = replicate 65 0

unfoldable pub built_pulse : Unit {0}
unfolding two_pulses three_pulses seventh still no_pulse one_pulse holding roomy full enough
built_pulse = tt
