-- All that demand 3 works out from the first image and the list.
use Rattle.std.specs.Prelude.{ℕ, List}
use Rattle.format.specs.Basics.Bytes.{Bytes}
use Rattle.format.specs.Layout.Geometry.{Geometry}
use Rattle.format.specs.Layout.Name.{Name}
use Rattle.format.specs.Rules.Version.{version_of}
use Rattle.format.specs.History.Rows.{Row, rows_of}
use Rattle.format.specs.History.Setting.{Setting, setting_of}
use Rattle.format.specs.History.Storages.{storages_of, blank_count_of}

pub record State : Type 0 where
  pub setting : Setting
  -- the streams, and the storages' paths, both in listing order
  pub rows : List Row
  pub storages : List (List Name)
  -- how many entries are blank
  pub blank_count : ℕ

-- of an image of a version
unfoldable pub state_in : Geometry → Bytes → State
state_in g img = record { setting = setting_of g img; rows = rows_of g img; storages = storages_of g img; blank_count = blank_count_of g img }

unfoldable pub state_of : Bytes → State
state_of img = state_in (version_of img) img

-- with other rows
unfoldable pub with_rows : State → List Row → State
with_rows s rows = record { setting = s.setting; rows = rows; storages = s.storages; blank_count = s.blank_count }
