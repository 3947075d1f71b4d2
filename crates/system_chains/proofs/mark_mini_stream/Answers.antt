use Prim.Native.Nat.{◌+◌, ◌≤◌}
use mathlib.Core.Path.{◌≡◌, ap, ◌∙◌}
use native.Mathlib.Omega.{arith}
use lib.ListN.{length}
use Rattle.format.specs.Layout.Entry.{start}
use Rattle.format.specs.Layout.Directory.{size_of}
use Rattle.format.specs.Layout.Volume.{volume, directory}
use Rattle.kinds.specs.Sizes.{geometry_of}
use Rattle.tables.proofs.WorkLaws.{wrote_none}
use Rattle.entries.specs.Entry.{entry_at}
use Rattle.directory.proofs.Places.{place_inside, root_inside}
use Rattle.chains.proofs.Owners.{marked_broken}
use Rattle.system_chains.proofs.SystemLaws.{root_read, size_read, mini_stream_marked, size_odd}
use Rattle.system_chains.proofs.mark_mini_stream.Goals as goal
use Rattle.system_chains.proofs.mark_mini_stream.Goals.{After-place-p, After-size-n}

-- the root lies in the image
inside : (c : After-place-p) → c.place-p.result + 128 ≤ length c.args.img.now
inside c = let l = c.requires.directory in omega (arith, c.place-p.ensures, place_inside l _ (root_inside l))

root : (c : After-place-p) → let p = c.args in entry_at p.img.now c.place-p.result ≡ (directory (geometry_of p.t.geometry) p.img.now).entry 0
root c = let l = c.requires in root_read _ _ l.directory l.same c.place-p.ensures

bytes : (c : After-size-n) → let p = c.args in c.size-n.result ≡ size_of (directory (geometry_of p.t.geometry) p.img.now) 0
unfolding volume
bytes c = size_read _ _ 0 c.size-n.ensures (root (goal.at.After-size-n c).After-place-p)

pub size-n-requires : goal.size-n-requires
size-n-requires c = inside (goal.at.size-n-requires c).After-place-p

pub returns-then-n-gt0 : goal.returns-then-n-gt0
returns-then-n-gt0 c = marked_broken _ (size_odd _ _ _ (bytes (goal.at.returns-then-n-gt0 c).After-size-n) (omega (arith, c.if-n-gt0.true))) (wrote_none _ 0 _)

pub start_sector-requires : goal.start_sector-requires
start_sector-requires c = inside (goal.at.start_sector-requires c).After-place-p

pub returns : goal.returns
returns c =
    let d = goal.at.returns c in
    mini_stream_marked c.requires.sectors _ _ c.mark_chain.ensures _ (bytes d.After-size-n) (omega (arith, c.if-n-gt0.false)) c.sectors_for.ensures
    (c.start_sector.ensures ∙ ap start (root d.After-place-p))
