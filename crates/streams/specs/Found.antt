-- What a find of a stream gives: the stream, or the refusal of a read from its start on.
use Rattle.std.specs.Prelude.{ℕ, ◌≡◌, Result, Ok, Err, List, []}
use Rattle.format.specs.Basics.Bytes.{Bytes}
use Rattle.format.specs.Rules.Version.{version_of, own_volume}
use Rattle.format.specs.Calls.Paths.{Path}
use Rattle.format.specs.Calls.Call.{read}
use Rattle.format.specs.Calls.Answer.{target, answer}
use Rattle.kinds.specs.Numbers.{refusal_number}
use Rattle.queries.specs.Streams.{StreamAt}
use Rattle.kinds.specs.declared.Refusal.{Refusal}
use Rattle.queries.specs.declared.find.Object.{Object}

abbrev pub StreamFound : Bytes → Path → List ℕ → Result Object Refusal → Type 0
StreamFound img path work (Ok e) =
    (answer (version_of img) img (read path 0 [] work) ≡ 0) × (StreamAt (own_volume img) e × (e.id.0 ≡ target (own_volume img) path))
StreamFound img path work (Err a) = answer (version_of img) img (read path 0 [] work) ≡ refusal_number a
