-- Group 17: the streams' chains.
use Rattle.std.specs.Prelude.{ℕ, Bool, not, ◌||◌}
use Rattle.format.specs.Basics.Lists.{all_below}
use Rattle.format.specs.Layout.Space.{chain_for}
use Rattle.format.specs.Layout.Entry.{is_stream, start}
use Rattle.format.specs.Layout.Volume.{Volume}
use Rattle.format.specs.Layout.Stream.{space_for, stream_size}

-- the start is a chain of exactly the units that the size needs; for size 0 that is: the start is END
unfoldable pub stream_chain : Volume → ℕ → Bool
stream_chain v i = chain_for (space_for v (stream_size v i)) (stream_size v i) (start (v.directory.entry i))

unfoldable pub stream_right : Volume → ℕ → Bool
stream_right v i = not (is_stream (v.directory.entry i)) || stream_chain v i

-- GROUP 17
unfoldable pub stream_rules : Volume → Bool
stream_rules v = all_below v.directory.count (stream_right v)
