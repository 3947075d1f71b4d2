-- Lists of calls and fresh images, some refused: what the state says is what the image has.
use Rattle.std.specs.Prelude.{◌≡◌, refl, List, [], ◌∷◌, ◌++◌, ℕ, replicate}
use Rattle.format.specs.Layout.Geometry.{version3}
use Rattle.format.specs.Layout.Volume.{volume}
use Rattle.format.specs.Calls.Create.{stream, storage}
use Rattle.format.specs.Calls.Call.{set_length, create, remove}
use Rattle.format.specs.Basics.Bytes.{Bytes}
use Rattle.format.specs.Layout.Space.{allocated}
use Rattle.format.specs.Rules.Verdict.{verdict}
use Rattle.format.specs.History.Rows.{Row, rows_of}
use Rattle.format.specs.History.Setting.{setting_of}
use Rattle.format.specs.History.State.{state_of}
use Rattle.format.specs.History.Event.{Event, call, format, after, state_after}
use Rattle.format_tests.specs.Opened.{opened}
use Rattle.format_tests.specs.Images.{Site, log, LOG, Jets, below, smallest, bare, site, built}

unfoldable calls : List Event
calls =
    call (set_length (below Site LOG) 130 (replicate 65 0))
    ∷ call (set_length (below Site Jets) 400 (replicate 65 0))
    ∷ []

abbrev rows : List Row
rows =
    record { path = Site ∷ log ∷ []; bytes = replicate 70 0xA0 ++ replicate 60 0 }
    ∷ record { path = Site ∷ Jets ∷ []; bytes = replicate 10 0xB0 }
    ∷ []

record Summary : Type 0 where
  answer : ℕ
  streams : List Row
  minis : ℕ

-- the verdict, the rows and the allocated mini sectors of an image
abbrev summary : Bytes → Summary
summary img = record { answer = verdict version3 img 65; streams = rows_of version3 img; minis = allocated (volume version3 img).minis }

rows_by_history : (state_after (state_of site) calls).rows ≡ rows
unfolding opened built calls
rows_by_history = refl

image_after_lem : summary (after site calls) ≡ record { answer = 0; streams = rows; minis = 4 }
unfolding opened built calls
image_after_lem = refl

-- ---- objects made and removed

-- the third and the fourth are refused: 29 and 28
unfoldable making : List Event
making =
    call (create storage Site (replicate 39 0))
    ∷ call (create stream (below (0x73 ∷ 0x49 ∷ 0x74 ∷ 0x65 ∷ []) log) (replicate 39 0))
    ∷ call (create stream (below Site LOG) (replicate 39 0))
    ∷ call (remove Site (replicate 39 0))
    ∷ call (create stream Jets (replicate 39 0))
    ∷ []

-- the row's path has the storage's spelling, and `Jets` comes before `Site` and what is in it
made_by_history :
    state_after (state_of smallest) making
    ≡ record {
      setting = setting_of version3 smallest;
      rows = record { path = Jets ∷ []; bytes = [] } ∷ record { path = Site ∷ log ∷ []; bytes = [] } ∷ [];
      storages = (Site ∷ []) ∷ [];
      blank_count = 0;
    }
unfolding opened built making
made_by_history = refl

unfoldable removing : List Event
removing =
    call (remove (below Site log) (replicate 39 0))
    ∷ call (remove Site (replicate 39 0))
    ∷ call (create stream (below Site log) (replicate 39 0))
    ∷ []

-- with `Jets` in it the storage stays; a stream that is made again comes to its place
removed_in_image : state_of (after bare removing) ≡ state_after (state_of bare) removing
unfolding opened built removing
removed_in_image = refl

removed_by_history : (state_after (state_of bare) removing).rows ≡ record { path = Site ∷ log ∷ []; bytes = [] } ∷ record { path = Site ∷ Jets ∷ []; bytes = [] } ∷ []
unfolding opened built removing
removed_by_history = refl

-- ---- a fresh image in the midst of a list

-- the first plan does not fit
unfoldable anew : List Event
anew =
    format (record { version = 3; sectors = 2; directory = 2; mini_fat = 0; minis = 0 })
    ∷ format (record { version = 3; sectors = 2; directory = 1; mini_fat = 0; minis = 0 })
    ∷ call (create storage Site (replicate 39 0))
    ∷ []

begun_anew : state_of (after bare anew) ≡ state_after (state_of bare) anew
unfolding opened built anew
begun_anew = refl

begun_by_history : ((state_after (state_of bare) anew).rows ≡ []) × ((state_after (state_of bare) anew).storages ≡ (Site ∷ []) ∷ []) × ((state_after (state_of bare) anew).blank_count ≡ 2)
unfolding opened built anew
begun_by_history = (refl, refl, refl)
