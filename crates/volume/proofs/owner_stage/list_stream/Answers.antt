use mathlib.Core.Path.{◌≡◌, refl, ◌∙◌, ap}
use native.Mathlib.Omega.{arith}
use Rattle.format.specs.Layout.Need.{round_up}
use Rattle.format.specs.Layout.Entry.{start}
use Rattle.format.specs.Layout.Directory.{size_of}
use Rattle.format.specs.Layout.Volume.{volume, directory}
use Rattle.kinds.specs.Sizes.{geometry_of}
use Rattle.tables.proofs.WorkLaws.{wrote_wider}
use Rattle.entries.specs.Entry.{entry_at}
use Rattle.directory.proofs.Places.{placed, place_inside, root_inside}
use Rattle.system_chains.proofs.SystemLaws.{root_read, size_read}
use Rattle.volume.proofs.StreamList.{stream_fits, stream_chain_lem, stream_ready}
use Rattle.volume.proofs.owner_stage.list_stream.Goals as goal
use Rattle.volume.proofs.owner_stage.list_stream.Goals.{After-sectors_for-n, After-start_sector}

first : (c : After-start_sector) → let p = c.args in
    c.start_sector.result.0 ≡ start ((directory (geometry_of p.t.geometry) p.img.now).entry 0)
first c = c.start_sector.ensures ∙ ap start ((let root' : let p = c.args in entry_at p.img.now c.place-p.result ≡ (directory (geometry_of p.t.geometry) p.img.now).entry 0 = let p = c.requires.mini in root_read _ _ p.directory p.same c.place-p.ensures in root'))

-- how many sectors it has, and where it starts
many : (c : After-sectors_for-n) → let p = c.args in
    c.sectors_for-n.result ≡ round_up (size_of (directory (geometry_of p.t.geometry) p.img.now) 0) p.t.geometry.bytes
unfolding volume
many c =
    let p = c.args in
    c.sectors_for-n.ensures ∙ ap (λ n. round_up n p.t.geometry.bytes) (size_read _ _ 0 c.size.ensures ((let root' : let p = c.args in entry_at p.img.now c.place-p.result ≡ (directory (geometry_of p.t.geometry) p.img.now).entry 0 = let p = c.requires.mini in root_read _ _ p.directory p.same c.place-p.ensures in root')))

pub place-p-requires : goal.place-p-requires
place-p-requires c = let l = c.requires.mini.directory in placed l _ (root_inside l)

pub size-requires : goal.size-requires
size-requires c = let l = c.requires.mini.directory in omega (arith, c.place-p.ensures, place_inside l _ (root_inside l))

pub sectors_for-n-requires : goal.sectors_for-n-requires
sectors_for-n-requires c = omega (arith, c.requires.mini.fat.sized.wide)

pub overflow_sub-at : goal.overflow_sub-at
overflow_sub-at c = let p = c.requires in stream_fits p _ _ (many (goal.at.overflow_sub-at c).After-sectors_for-n) refl

pub start_sector-requires : goal.start_sector-requires
start_sector-requires c = let l = c.requires.mini.directory in omega (arith, c.place-p.ensures, place_inside l _ (root_inside l))

pub list_chain-requires : goal.list_chain-requires
list_chain-requires c =
    let p = c.requires in
    let n = many (goal.at.list_chain-requires c).After-sectors_for-n in record { fat_listed = p.mini.fat; start_value = stream_chain_lem p _ _ n (first (goal.at.list_chain-requires c).After-start_sector); n_bound = omega (arith, stream_fits p _ _ n (first (goal.at.list_chain-requires c).After-start_sector), p.before, p.mini.before) }

pub returns : goal.returns
returns c =
    let p = c.requires in
    let n = many (goal.at.returns c).After-sectors_for-n in
    let s = first (goal.at.returns c).After-start_sector in record { answer = (refl, refl, refl); ready = stream_ready p _ _ n s c.list_chain.ensures.wrote c.list_chain.ensures.holds; wrote = wrote_wider 0 _ c.list_chain.ensures.wrote (omega arith) (omega (arith, stream_fits p _ _ n s)) }
