-- What an accepted edit of one stream does to a volume, alike for both edits and for both spaces.
use Rattle.std.specs.Prelude.{ℕ, ◌*◌, ◌<◌, ◌≡◌, ◌≢◌, Bool, true, not, List, [], ltb, length}
use Rattle.format.specs.Basics.Bytes.{Bytes}
use Rattle.format.specs.Layout.Need.{cutoff, round_up}
use Rattle.format.specs.Layout.Entry.{start, size, is_stream}
use Rattle.format.specs.Layout.Volume.{Volume}
use Rattle.format.specs.Layout.Stream.{stream_size}
use Rattle.format.specs.Layout.Chain.{start_of}
use Rattle.theory.specs.Owned.{MayBecome}
use Rattle.frame.specs.Edits.{SameParts, SameFields, Relinked, Refilled}
use Rattle.frame.specs.Good.{space_of, system_of, units_of}

-- stream e has become `new` bytes long; in the space b its units are `ws b` and their content is `c b`
pub record Changed (v w : Volume) (img img' : Bytes) (e new : ℕ) (ws : Bool → List ℕ) (c : Bool → Bytes) : Type 0 where
  pub parts : SameParts v w
  pub inside : e < v.directory.count
  pub stream : is_stream (v.directory.entry e) ≡ true
  pub others : (i : ℕ) → i ≢ e → w.directory.entry i ≡ v.directory.entry i
  pub fields : SameFields (v.directory.entry e) (w.directory.entry e)
  pub start : start (w.directory.entry e) ≡ start_of (ws (ltb new cutoff))
  pub size : stream_size w e ≡ new
  pub cells : (b : Bool) → Relinked (space_of v b) (space_of w b) (units_of v b e) (ws b)
  pub bytes : (b : Bool) → Refilled (space_of v b) (space_of w b) img img' (system_of v b) (ws b) (c b)
  pub becomes : (b : Bool) → MayBecome (space_of v b).limit (space_of v b).cell (units_of v b e) (ws b)
  pub full : (b : Bool) → length (c b) ≡ length (ws b) * (space_of v b).unit
  pub need : length (ws (ltb new cutoff)) ≡ round_up new (space_of v (ltb new cutoff)).unit
  pub none : ws (not (ltb new cutoff)) ≡ []
