use borrow.Author.Rules.{rules}
use Prim.Native.Nat.{ℕ, ◌≤◌, ◌<◌}
use mathlib.Core.Path.{◌≡◌, refl}
use mathlib.Core.Bool.{true}
use mathlib.Core.List.{List}
use native.Mathlib.Omega.{arith}
use lib.ListN.{length}
use Rattle.format.specs.Basics.Bytes.{Bytes}
use Rattle.theory.proofs.Chains.{chain_short}
use Rattle.volume.specs.Opened.{Readied}
use Rattle.volume.specs.declared.Volume.{Volume}
use Rattle.volume.proofs.ListsKept.{ready_kept}
use Rattle.spaces.specs.Units.{kind_of, number_in, chain_from}
use Rattle.spaces.specs.declared.Unit.{Unit}
use Rattle.spaces.proofs.Units.{cell_as}
use Rattle.unitlists.proofs.Limits.{limit_room, limit_work, limit_end}
use Rattle.unitlists.proofs.Listing.{listing_start, listing_below, listing_wrote, listing_step, listing_done}
use Rattle.unitlists.proofs.list_units.Goals as goal
use Rattle.unitlists.proofs.list_units.Goals.{In-loop-i}

-- a chain is no longer than the room before the lists
room : {v : Volume} {img : Bytes} {work : List ℕ} → Readied v img work → (u : Unit) (n : ℕ) → chain_from v img u n ≡ true → (n ≤ v.stream) × (n ≤ length work)
room p u n h =
    let k = kind_of u in
    let s = chain_short _ _ (limit_end p k) n (number_in u) h in
    (omega (arith, limit_room p k), omega (arith, limit_work p k))

-- so there is a place for the unit at hand
in_work : (c : In-loop-i) → c.loop-i.i < length c.loop-i.work
in_work c = omega (arith, room c.requires.readied c.args.start c.args.n c.requires.n_value, c.loop-i.invariant.1.wrote.long)

pub loop-i-init : goal.loop-i-init
loop-i-init c = (refl, listing_start)

pub offset_bounds-work-i : goal.offset_bounds-work-i
offset_bounds-work-i c = omega (arith, in_work (goal.at.offset_bounds-work-i c).In-loop-i)

pub bounds-work-i : goal.bounds-work-i
bounds-work-i c = in_work (goal.at.bounds-work-i c).In-loop-i

pub cell_of-u-requires : goal.cell_of-u-requires
cell_of-u-requires c =
    let l = c.loop-i.invariant in
    let r = room c.requires.readied c.args.start c.args.n c.requires.n_value in
    record { readied = rw c.number.ensures (ready_kept (listing_wrote l.1 (omega arith)) r.0 c.requires.readied); u_bound = rw l.0 (listing_below l.1 c.requires.n_value (omega arith)) }

pub loop-i-preserved : goal.loop-i-preserved
loop-i-preserved c =
    let l = c.loop-i.invariant in
    let a = c.args in
    let e = cell_as a.v a.img.now c.loop-i.u _ _ l.0 refl c.cell_of-u.ensures in
    rw (c.number.ensures, e.1) (e.0, listing_step l.1 (omega arith) (in_work (goal.at.loop-i-preserved c).In-loop-i))

pub returns : goal.returns
returns c = let l = c.loop-i.invariant.1 in record { work_after = listing_done l (omega arith); wrote = l.wrote }
