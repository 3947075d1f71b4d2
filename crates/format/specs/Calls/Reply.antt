-- What each call gives back: its answer number and its values.
use Rattle.std.specs.Prelude.{ℕ, zero, suc, length}
use Rattle.format.specs.Basics.Bytes.{Bytes}
use Rattle.format.specs.Layout.Geometry.{Geometry}
use Rattle.format.specs.Layout.Entry.{kind}
use Rattle.format.specs.Layout.Volume.{Volume, volume}
use Rattle.format.specs.Layout.Stream.{stream_size}
use Rattle.format.specs.Rules.Version.{version_of}
use Rattle.format.specs.Calls.Find.{resolve, entry_of}
use Rattle.format.specs.Calls.Read.{read_count}
use Rattle.format.specs.Calls.Listing.{listing}
use Rattle.format.specs.Calls.Call.{Call, validate, find, read, overwrite, set_length, create, remove, list, read_at}
use Rattle.format.specs.Calls.Answer.{target, answer}

-- a value that a call does not give is 0
pub record Reply : Type 0 where
  pub number : ℕ
  -- of a find
  pub entry : ℕ
  pub type : ℕ
  pub size : ℕ
  -- of a read, a listing or a repair
  pub count : ℕ

-- a number alone: of a refusal, and of a call that gives no value
unfoldable pub plain : ℕ → Reply
plain n = record { number = n; entry = 0; type = 0; size = 0; count = 0 }

unfoldable pub found_reply : Volume → ℕ → Reply
found_reply v e = record { number = 0; entry = e; type = kind (v.directory.entry e); size = stream_size v e; count = 0 }

unfoldable pub counted : ℕ → Reply
counted n = record { number = 0; entry = 0; type = 0; size = 0; count = n }

-- the reply where the answer is 0
unfoldable pub done : Volume → Call → Reply
done v (validate work) = plain 0
done v (find path work) = found_reply v (entry_of (resolve v.directory path))
done v (read path offset out work) = counted (read_count (stream_size v (target v path)) offset (length out))
done v (overwrite path offset bytes work) = plain 0
done v (set_length path new work) = plain 0
done v (create made path work) = plain 0
done v (remove path work) = plain 0
done v (list out work) = counted (length (listing v.directory))
done v (read_at entry position out work) = counted (read_count (stream_size v entry) position (length out))

-- x where the answer is 0, and else y
unfoldable pub on_zero : {A : Type 0} → ℕ → A → A → A
on_zero zero x y = x
on_zero (suc a) x y = y

unfoldable pub reply_by : Geometry → Bytes → Call → Reply
reply_by g img call =
    let accepted = done (volume g img) call in
    on_zero (answer g img call) accepted (plain (answer g img call))

-- by the image's own version
abbrev pub reply : Bytes → Call → Reply
reply img call = reply_by (version_of img) img call
