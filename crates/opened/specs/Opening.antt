-- What opening gives and leaves: the answer of a validation, and where that is 0 an opened volume.
use Rattle.std.specs.Prelude.{◌≡◌, Result, Ok, Err, List, ℕ, length}
use Rattle.format.specs.Basics.Bytes.{Bytes}
use Rattle.format.specs.Rules.Length.{work_need}
use Rattle.format.specs.Rules.Version.{version_of}
use Rattle.format.specs.Rules.Verdict.{verdict}
use Rattle.kinds.specs.Numbers.{refusal_number}
use Rattle.tables.specs.Work.{Wrote}
use Rattle.volume.specs.Opened.{work_left}
use Rattle.kinds.specs.declared.Refusal.{Refusal}
use Rattle.volume.specs.declared.Volume.{Volume}
use Rattle.opened.specs.OpenVolume.{OpenVolume}

abbrev pub OpeningRight : Bytes → List ℕ → List ℕ → Result Volume Refusal → Type 0
OpeningRight img before after (Err a) =
    let answer = verdict (version_of img) img (length before) in
    (refusal_number a ≡ answer) × (after ≡ work_left answer img before)
OpeningRight img before after (Ok v) =
    (verdict (version_of img) img (length before) ≡ 0) × (OpenVolume v img after × Wrote before after 0 (work_need (length img)))
