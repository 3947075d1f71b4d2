-- An edit of the stream that a path leads to leaves an accepted image, with the same setting and the row changed.
use Prim.Native.Nat.{ℕ, ◌+◌, ◌≤◌, ◌<◌}
use mathlib.Core.Path.{◌≡◌, refl, ap, ap₂, ◌∙◌}
use mathlib.Core.Bool.{Bool, false}
use mathlib.Core.List.{List, [], map}
use lib.ListN.{length}
use Rattle.format.specs.Basics.Bytes.{Bytes}
use Rattle.format.specs.Layout.Geometry.{Geometry}
use Rattle.format.specs.Layout.Tree.{forest, Forest}
use Rattle.format.specs.Layout.Volume.{volume, fixed_number, system_sectors, Volume}
use Rattle.format.specs.Layout.Stream.{stream_size, contents}
use Rattle.format.specs.Layout.Entry.{is_stream}
use Rattle.format.specs.Rules.Length.{work_need, length_allowed}
use Rattle.format.specs.Rules.Verdict.{Accepted}
use Rattle.format.specs.Calls.Paths.{Path}
use Rattle.format.specs.Calls.Find.{at, resolve_stream}
use Rattle.format.specs.Calls.Overwrite.{overwritten}
use Rattle.format.specs.History.Rows.{rows_in, rows_of}
use Rattle.format.specs.History.Setting.{setting_of, Setting}
use Rattle.format.specs.History.Step.{change, put_into}
use Rattle.frame.specs.Edits.{Preserved, MayWrite}
use Rattle.frame.specs.Frame.{Frame}
use Rattle.frame.specs.Good.{Good}
use Rattle.frame.proofs.Accepted.{accepted_kept, kept_accepted}
use Rattle.frame.proofs.GoodBack.{good_groups}
use Rattle.frame.proofs.Good.{accepted_good}
use Rattle.history.specs.Changed.{Changed}
use Rattle.history.proofs.Alike.{forest_same}
use Rattle.history.proofs.Edited.{alike, changed_good}
use Rattle.history.proofs.EditedUnits.{system_same}
use Rattle.history.proofs.Filled.{contents_other, frame_sized, Sized}
use Rattle.history.proofs.Counting.{inside_forest}
use Rattle.history.proofs.Rows.{rows_changed}
use Rattle.history.proofs.Finding.{is_stream_lem, is_inside, hit_is_found, found_hit_everywhere}
use Rattle.history.proofs.Written.{write_changed, write_contents}
use Rattle.frame.proofs.EntryFacts.{root_plain_lem}
use Rattle.history.proofs.SamePaths.{resolve_stream_same}
use Rattle.history.specs.Step.{Step}

-- an image that stays is preserved
pub preserved_itself : (g : Geometry) (img : Bytes) → Accepted g img → Preserved g img img
preserved_itself g img acc =
    let j = accepted_kept g img acc in
    record {
      length = refl;
      header = j.header;
      tables = j.tables;
      parts = record {
        geometry = refl;
        fat = refl;
        difat = refl;
        directory_sectors = refl;
        mini_fat = refl;
        mini_stream = refl;
        directory_count = refl;
        directory_start = refl;
        mini_fat_start = refl;
        mini_fat_count = refl;
        entry_count = refl;
        size_width = refl;
        sector_limit = refl;
        sector_cells = refl;
        sector_unit = refl;
        mini_limit = refl;
        mini_cells = refl;
        mini_unit = refl;
      };
    }

-- one edit after the other
pub preserved_trans : {g : Geometry} {a b c : Bytes} → Preserved g a b → Preserved g b c → Preserved g a c
preserved_trans x y =
    let p = x.parts in
    let q = y.parts in
    record {
      length = y.length ∙ x.length;
      header = y.header;
      tables = y.tables;
      parts = record {
        geometry = q.geometry ∙ p.geometry;
        fat = q.fat ∙ p.fat;
        difat = q.difat ∙ p.difat;
        directory_sectors = q.directory_sectors ∙ p.directory_sectors;
        mini_fat = q.mini_fat ∙ p.mini_fat;
        mini_stream = q.mini_stream ∙ p.mini_stream;
        directory_count = q.directory_count ∙ p.directory_count;
        directory_start = q.directory_start ∙ p.directory_start;
        mini_fat_start = q.mini_fat_start ∙ p.mini_fat_start;
        mini_fat_count = q.mini_fat_count ∙ p.mini_fat_count;
        entry_count = q.entry_count ∙ p.entry_count;
        size_width = q.size_width ∙ p.size_width;
        sector_limit = q.sector_limit ∙ p.sector_limit;
        sector_cells = q.sector_cells ∙ p.sector_cells;
        sector_unit = q.sector_unit ∙ p.sector_unit;
        mini_limit = q.mini_limit ∙ p.mini_limit;
        mini_cells = q.mini_cells ∙ p.mini_cells;
        mini_unit = q.mini_unit ∙ p.mini_unit;
      };
    }

-- of an image of so many bytes
unfoldable pub setting : Geometry → ℕ → ℕ → ℕ → ℕ → Setting
setting g n a b c = record { geometry = g; bytes = n; sectors = a; minis = b; fixed = c; work = work_need n }

module _ (g : Geometry) (pos : 0 < g.sector_bytes) (fr : Frame g) (img : Bytes) (acc : Accepted g img) where
  abbrev v : Volume
  v = volume g img

  abbrev good : Good v
  good = accepted_good g img pos acc

  abbrev sized : Sized v img
  sized = frame_sized fr img acc

  root_plain : is_stream (v.directory.entry 0) ≡ false
  root_plain = root_plain_lem g img good

  -- ---- an edit of the stream e

  pub edit_accepted : {img' : Bytes} {e new : ℕ} {ws : Bool → List ℕ} {c : Bool → Bytes} → Changed v (volume g img') img img' e new ws c → Preserved g img img' → Accepted g img'
  edit_accepted {img'} x kept =
      let j = accepted_kept g img acc in
      kept_accepted g img'
      (record {
        allowed = ap (length_allowed g) kept.length ∙ j.allowed;
        header = kept.header;
        tables = kept.tables;
        volume = good_groups (volume g img') (changed_good good x);
      })

  -- ---- of the one that the path p leads to, with the function f on its bytes

  module _ (p : Path) {e new : ℕ} {b : Forest} (found : resolve_stream v.directory p ≡ at e b) (img' : Bytes) {ws : Bool → List ℕ} {c : Bool → Bytes}
      (f : Bytes → Bytes)
      (x : Changed v (volume g img') img img' e new ws c) (kept : Preserved g img img') (mine : contents (volume g img') img' e ≡ f (contents v img e)) where
    edit_setting : setting_of g img' ≡ setting_of g img
    unfolding setting_of fixed_number setting
    edit_setting =
        ap₂ (λ a b. setting g (length img') a b (length (system_sectors (volume g img')))) kept.parts.sector_limit kept.parts.mini_limit
        ∙ ap₂ (λ a b. setting g a v.sectors.limit v.minis.limit b) kept.length (ap length (system_same good x))

    edit_rows : rows_of g img' ≡ map (change p f) (rows_of g img)
    unfolding rows_of
    edit_rows =
        ap (rows_in (volume g img') img' []) (forest_same v.directory (volume g img').directory (alike good x))
        ∙ rows_changed v (volume g img') img img' e p f (alike good x) mine
        (contents_other good x sized) (is_stream_lem v img good sized root_plain p found) [] (forest v.directory)
        (inside_forest v img good sized) (hit_is_found v img good sized root_plain p found) (found_hit_everywhere v img good sized root_plain p found)

    pub edit_step : Step g img img' (map (change p f) (rows_of g img))
    edit_step =
        record {
          accepted = edit_accepted x kept;
          kept = kept;
          setting = edit_setting;
          rows = edit_rows;
          alike = alike good x;
          found = resolve_stream_same v.directory (volume g img').directory (alike good x);
        }

  -- ---- an overwrite that answers 0

  pub write_step : (p : Path) (offset : ℕ) (bytes : Bytes) {e : ℕ} {b : Forest} → resolve_stream v.directory p ≡ at e b → offset + length bytes ≤ stream_size v e →
      Step g img (overwritten v img e offset bytes) (map (change p (put_into offset bytes)) (rows_of g img))
  unfolding put_into
  write_step p offset bytes {e} found room =
      let may : MayWrite g img e offset bytes = record {
        accepted = acc;
        inside = is_inside v img good sized root_plain p found;
        stream = is_stream_lem v img good sized root_plain p found;
        fits = room;
      } in
      edit_step p found (overwritten v img e offset bytes) (put_into offset bytes)
      (write_changed g pos fr img acc e offset bytes may) (fr.writing img e offset bytes may).kept (write_contents g pos fr img acc e offset bytes may)
