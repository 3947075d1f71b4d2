-- What a search for a pulse stream gives: the stream, whose units are listed, with its trailer; or the refusal.
use Rattle.std.specs.Prelude.{ℕ, ◌≡◌, Result, Ok, Err, List}
use Rattle.format.specs.Basics.Bytes.{Bytes}
use Rattle.format.specs.Layout.Stream.{contents}
use Rattle.format.specs.Rules.Version.{own_volume}
use Rattle.format.specs.Calls.Paths.{Path}
use Rattle.volume.specs.declared.Volume.{Volume}
use Rattle.streams.specs.Listed.{OpenStream}
use Rattle.pulse_laws.specs.Calls.{contents_at, summary_answer}
use Rattle.pulse.specs.Parsed.{trailer_for}
use Rattle.pulse.specs.Replies.{pulse_number}
use Rattle.pulse.specs.declared.calls.PulseStream.{PulseStream}
use Rattle.pulse.specs.declared.answers.PulseRefusal.{PulseRefusal}

pub record PulsesAt (v : Volume) (img : Bytes) (path : Path) (work : List ℕ) (s : PulseStream) : Type 0 where
  pub answer : summary_answer img path work ≡ 0
  pub listed : OpenStream v img work s.object
  pub bytes : contents (own_volume img) img s.object.id.0 ≡ contents_at img path
  pub trailer : s.trailer ≡ trailer_for (contents_at img path)

abbrev pub PulsesFound : Volume → Bytes → Path → (before after : List ℕ) → Result PulseStream PulseRefusal → Type 0
PulsesFound v img path before after (Ok s) = PulsesAt v img path after s
PulsesFound v img path before after (Err a) = summary_answer img path before ≡ pulse_number a
