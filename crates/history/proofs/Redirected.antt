-- An accepted image whose directory was redrawn is accepted again, with the same setting, and streams that stay have the same bytes.
use Prim.Native.Nat.{ℕ, ◌<◌}
use mathlib.Core.Path.{◌≡◌, refl, sym, ap, ap₂, ◌∙◌, subst}
use mathlib.Core.Logic.{◌⊎◌}
use mathlib.Core.Bool.{Bool, true, false}
use mathlib.Core.List.{[]}
use native.Mathlib.Omega.{arith}
use lib.Dec.{ltb}
use lib.ListN.{length, take, get_or}
use Rattle.format.specs.Basics.Lists.{count}
use Rattle.format.specs.Basics.Bytes.{Bytes}
use Rattle.format.specs.Layout.Geometry.{Geometry}
use Rattle.format.specs.Layout.Need.{cutoff}
use Rattle.format.specs.Layout.Space.{block}
use Rattle.format.specs.Layout.Entry.{is_stream, start}
use Rattle.format.specs.Layout.Volume.{Volume, volume, root, root_size, system_sectors, fixed_number}
use Rattle.format.specs.Layout.Stream.{stream_size, stream_units, contents}
use Rattle.format.specs.Rules.Entries.{entry_rules}
use Rattle.format.specs.Rules.Trees.{tree_rules}
use Rattle.format.specs.Rules.Verdict.{Accepted}
use Rattle.format.specs.History.Setting.{setting_of}
use Rattle.theory.proofs.Contents.{laid_agree}
use Rattle.theory.proofs.Below.{get_or_below}
use Rattle.theory.proofs.Chains.{linked_below}
use Rattle.theory.proofs.OwnerCounts.{owners_at}
use Rattle.frame.specs.Good.{space_of, side_of, units_of, entry_units, Good}
use Rattle.frame.specs.Redraw.{IsRedrawn, SameStream, NoUnits}
use Rattle.frame.proofs.Good.{accepted_good}
use Rattle.frame.proofs.RedrawnGood.{redrawn_good, redrawn_accepted, stays_units, system_same}
use Rattle.history.proofs.Filled.{contents_read}
use Rattle.history.proofs.EditedUnits.{units_self}
use Rattle.history.proofs.EditStep.{setting}

module _ (g : Geometry) (pos : 0 < g.sector_bytes) (img img' : Bytes) (acc : Accepted g img) (r : IsRedrawn g img img')
    (streams : (i : ℕ) → i < (volume g img).directory.count → (SameStream (volume g img) (volume g img') i) ⊎ (NoUnits (volume g img) (volume g img') i)) where
  abbrev v : Volume
  v = volume g img

  abbrev w : Volume
  w = volume g img'

  abbrev good : Good v
  good = accepted_good g img pos acc

  stream_below : (i : ℕ) → i < v.directory.count → is_stream (v.directory.entry i) ≡ true → (s : ℕ) → 0 < count s (stream_units v i) → s < (space_of v (side_of v i)).limit
  stream_below i h st s c =
      let sp = space_of v (side_of v i) in
      linked_below sp.cell sp.limit (stream_units v i) (good.chains i h st).linked s c

  at_side : (i : ℕ) → i < v.directory.count → is_stream (v.directory.entry i) ≡ true → get_or (entry_units v (side_of v i)) i [] ≡ stream_units v i
  unfolding entry_units
  at_side i h st = get_or_below v.directory.count (units_of v (side_of v i)) i [] h ∙ units_self v i st

  -- a stream's units are no sectors of the system
  unit_apart : (i : ℕ) → i < v.directory.count → is_stream (v.directory.entry i) ≡ true → (b : Bool) → side_of v i ≡ b
      → (s : ℕ) → 0 < count s (stream_units v i) → block (space_of w b) img' s ≡ block (space_of v b) img s
  unit_apart i h st true q s c = r.mini_bytes s (subst (λ (b : Bool). s < (space_of v b).limit) q (stream_below i h st s c))
  unit_apart i h st false q s c =
      let k = subst (λ (b : Bool). get_or (entry_units v b) i [] ≡ stream_units v i) q (at_side i h st) in
      r.sector_bytes s (omega (arith, c, (good.owned false).single s, owners_at s i (entry_units v false), ap (count s) k))

  pub contents_stay : (i : ℕ) → i < v.directory.count → is_stream (v.directory.entry i) ≡ true → SameStream v w i → contents w img' i ≡ contents v img i
  contents_stay i h st s =
      let n = stream_size v i in
      contents_read w img' i n (stream_units v i) s.size (stays_units good r.kept.parts r.sector_cells r.mini_cells streams i s)
      ∙ ap (take n) (laid_agree (block (space_of v (ltb n cutoff)) img) (block (space_of w (ltb n cutoff)) img') (stream_units v i) (unit_apart i h st (ltb n cutoff) refl))
      ∙ sym (contents_read v img i n (stream_units v i) refl refl)

  pub setting_stays : setting_of g img' ≡ setting_of g img
  unfolding setting_of fixed_number setting
  setting_stays =
      let k = r.kept in
      ap₂ (λ a b. setting g (length img') a b (length (system_sectors (volume g img')))) k.parts.sector_limit k.parts.mini_limit
      ∙ ap₂ (λ a b. setting g a v.sectors.limit v.minis.limit b) k.length (ap length (system_same good k.parts r.sector_cells r.mini_cells streams))

  module _ (entries : entry_rules w.directory ≡ true) (trees : tree_rules w.directory ≡ true)
      (root_start : start (root w) ≡ start (root v)) (root_bytes : root_size w ≡ root_size v) where
    stays_good : Good w
    stays_good = redrawn_good good r.kept.parts r.sector_cells r.mini_cells streams entries trees root_start root_bytes

    pub stays_accepted : Accepted g img'
    stays_accepted = redrawn_accepted g img img' acc r stays_good
