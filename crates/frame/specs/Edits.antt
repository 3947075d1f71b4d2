-- What an accepted overwrite and an accepted change of length do to an image, point by point.
use Rattle.std.specs.Prelude.{ℕ, ◌+◌, ◌≤◌, ◌<◌, ◌≡◌, ◌≢◌, true, false, cond, List, [], eqb, ltb, length}
use Rattle.format.specs.Basics.Bytes.{Bytes, put_bytes}
use Rattle.format.specs.Layout.Geometry.{Geometry}
use Rattle.format.specs.Layout.Need.{cutoff, round_up}
use Rattle.format.specs.Rules.Header.{header_rules}
use Rattle.format.specs.Rules.Tables.{table_rules}
use Rattle.format.specs.Layout.Space.{Space, free_units, laid}
use Rattle.format.specs.Layout.Chain.{start_of}
use Rattle.format.specs.Layout.Entry.{name, kind, colour, left, right, child, start, is_stream}
use Rattle.format.specs.Layout.Entry.{size}
use Rattle.format.specs.Basics.Lists.{count}
use Rattle.format.specs.Layout.Space.{block}
use Rattle.format.specs.Rules.Entries.{stream_fields, common_fields}
use Rattle.format.specs.Layout.Volume.{Volume, volume, system_sectors}
use Rattle.format.specs.Layout.Stream.{stream_units, stream_size}
use Rattle.format.specs.Calls.SetLength.{crosses, edit_space, new_units}
use Rattle.format.specs.Rules.Verdict.{Accepted}
use Rattle.theory.specs.Links.{rechain}
use Rattle.theory.specs.Blocks.{scatter, target}

-- ---- words

-- the units of a stream of n bytes that are sectors, and those that are mini sectors: all or none
unfoldable pub in_sectors : ℕ → List ℕ → List ℕ
in_sectors n us = cond (ltb n cutoff) [] us

unfoldable pub in_minis : ℕ → List ℕ → List ℕ
in_minis n us = cond (ltb n cutoff) us []

-- ---- what stays

-- the two volumes agree in all but cells and entries
pub record SameParts (v w : Volume) : Type 0 where
  pub fat : w.fat ≡ v.fat
  pub difat : w.difat ≡ v.difat
  pub directory_sectors : w.directory_sectors ≡ v.directory_sectors
  pub mini_fat : w.mini_fat ≡ v.mini_fat
  pub mini_stream : w.mini_stream ≡ v.mini_stream
  pub geometry : w.geometry ≡ v.geometry
  pub directory_count : w.directory_count ≡ v.directory_count
  pub directory_start : w.directory_start ≡ v.directory_start
  pub mini_fat_start : w.mini_fat_start ≡ v.mini_fat_start
  pub mini_fat_count : w.mini_fat_count ≡ v.mini_fat_count
  pub entry_count : w.directory.count ≡ v.directory.count
  pub size_width : w.directory.size_width ≡ v.directory.size_width
  pub sector_limit : w.sectors.limit ≡ v.sectors.limit
  pub sector_cells : w.sectors.cells ≡ v.sectors.cells
  pub sector_unit : w.sectors.unit ≡ v.sectors.unit
  pub mini_limit : w.minis.limit ≡ v.minis.limit
  pub mini_cells : w.minis.cells ≡ v.minis.cells
  pub mini_unit : w.minis.unit ≡ v.minis.unit

-- an image after an accepted edit: its length, and groups 10 and 11
pub record Preserved (g : Geometry) (img img' : Bytes) : Type 0 where
  pub length : length img' ≡ length img
  pub header : header_rules g img' ≡ true
  pub tables : table_rules g img' ≡ true
  pub parts : SameParts (volume g img) (volume g img')

-- the entry b is a in all but start and size
pub record SameFields (a b : Bytes) : Type 0 where
  pub name : name b ≡ name a
  pub kind : kind b ≡ kind a
  pub colour : colour b ≡ colour a
  pub left : left b ≡ left a
  pub right : right b ≡ right a
  pub child : child b ≡ child a
  -- group 14
  pub rules : stream_fields b ≡ stream_fields a
  pub common : common_fields b ≡ true

-- ---- the units of a space after an edit: the chain us has become the chain ws, and the content c is laid over it.
-- `sys` are the units whose bytes are not said: the system's sectors; for mini sectors none.
pub record Relinked (sp sp' : Space) (us ws : List ℕ) : Type 0 where
  pub cells : (u : ℕ) → u < sp.limit → sp'.cell u ≡ rechain us ws sp.cell u
  pub rest : (u : ℕ) → sp.limit ≤ u → sp'.cell u ≡ sp.cell u

pub record Refilled (sp sp' : Space) (img img' : Bytes) (sys ws : List ℕ) (c : Bytes) : Type 0 where
  pub bytes : (u : ℕ) → u < sp.limit → count u sys ≡ 0 → block sp' img' u ≡ scatter sp.unit ws c (block sp img) u
  pub sized : (u : ℕ) → u < sp.limit → length (block sp' img' u) ≡ sp.unit

-- ---- a change of length

pub record MayResize (g : Geometry) (img : Bytes) (e new : ℕ) : Type 0 where
  pub accepted : Accepted g img
  pub inside : e < (volume g img).directory.count
  pub stream : is_stream ((volume g img).directory.entry e) ≡ true
  pub differs : eqb new (stream_size (volume g img) e) ≡ false
  pub within : crosses (stream_size (volume g img) e) new ≡ false
  pub enough : round_up new (edit_space (volume g img) e new).unit
      ≤ length (stream_units (volume g img) e) + length (free_units (edit_space (volume g img) e new))

-- `m`, the greater of the two lengths, says in which space the edit is
pub record IsResized (g : Geometry) (img : Bytes) (e new m : ℕ) (img' : Bytes) : Type 0 where
  pub kept : Preserved g img img'
  pub others : (i : ℕ) → i ≢ e → (volume g img').directory.entry i ≡ (volume g img).directory.entry i
  pub fields : SameFields ((volume g img).directory.entry e) ((volume g img').directory.entry e)
  pub start : start ((volume g img').directory.entry e) ≡ start_of (new_units (volume g img) e new)
  pub size : stream_size (volume g img') e ≡ new
  pub sector_cells : Relinked (volume g img).sectors (volume g img').sectors
      (in_sectors m (stream_units (volume g img) e)) (in_sectors m (new_units (volume g img) e new))
  pub mini_cells : Relinked (volume g img).minis (volume g img').minis
      (in_minis m (stream_units (volume g img) e)) (in_minis m (new_units (volume g img) e new))
  pub sector_bytes : Refilled (volume g img).sectors (volume g img').sectors img img' (system_sectors (volume g img))
      (in_sectors m (new_units (volume g img) e new))
      (target (volume g img).sectors.unit (block (volume g img).sectors img)
      (stream_units (volume g img) e) (new_units (volume g img) e new) (stream_size (volume g img) e) new)
  pub mini_bytes : Refilled (volume g img).minis (volume g img').minis img img' []
      (in_minis m (new_units (volume g img) e new))
      (target (volume g img).minis.unit (block (volume g img).minis img)
      (stream_units (volume g img) e) (new_units (volume g img) e new) (stream_size (volume g img) e) new)

-- ---- an overwrite

pub record MayWrite (g : Geometry) (img : Bytes) (e offset : ℕ) (bytes : Bytes) : Type 0 where
  pub accepted : Accepted g img
  pub inside : e < (volume g img).directory.count
  pub stream : is_stream ((volume g img).directory.entry e) ≡ true
  pub fits : offset + length bytes ≤ stream_size (volume g img) e

pub record IsWritten (g : Geometry) (img : Bytes) (e offset : ℕ) (bytes img' : Bytes) : Type 0 where
  pub kept : Preserved g img img'
  pub entries : (i : ℕ) → (volume g img').directory.entry i ≡ (volume g img).directory.entry i
  pub sector_cells : (u : ℕ) → (volume g img').sectors.cell u ≡ (volume g img).sectors.cell u
  pub mini_cells : (u : ℕ) → (volume g img').minis.cell u ≡ (volume g img).minis.cell u
  pub sector_bytes : Refilled (volume g img).sectors (volume g img').sectors img img' (system_sectors (volume g img))
      (in_sectors (stream_size (volume g img) e) (stream_units (volume g img) e))
      (put_bytes (laid (block (volume g img).sectors img) (stream_units (volume g img) e)) offset bytes)
  pub mini_bytes : Refilled (volume g img).minis (volume g img').minis img img' []
      (in_minis (stream_size (volume g img) e) (stream_units (volume g img) e))
      (put_bytes (laid (block (volume g img).minis img) (stream_units (volume g img) e)) offset bytes)
