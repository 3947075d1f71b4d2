use borrow.Author.Rules.{rules}
use Prim.Native.Nat.{◌+◌, ◌-◌, ◌/◌, ◌<◌}
use mathlib.Core.Path.{◌≡◌, sym, ◌∙◌, ap}
use native.Mathlib.Omega.{arith}
use lib.ListN.{length}
use Rattle.format.specs.Layout.Geometry.{difat_in, header_difat}
use Rattle.kinds.specs.Sizes.{geometry_of}
use Rattle.header.specs.Sized.{D}
use Rattle.tables.proofs.Places.{entry_later}
use Rattle.tables.proofs.DifatLaws.{difat_some, entry_sector, entry_index}
use Rattle.tables.proofs.sectors.difat_entry.Goals as goal
use Rattle.tables.proofs.sectors.difat_entry.Goals.{After-difat-per}

-- the DIFAT sector that holds the entry, and its index there, as the code works them out
sector_is : (c : After-difat-per) → (c.args.i - 109) / c.difat-per.result ≡ (c.args.i - 109) / difat_in (geometry_of c.args.g)
sector_is c = ap (λ n. (c.args.i - 109) / n) c.difat-per.ensures

sector_in : (c : After-difat-per) → (c.args.i - 109) / difat_in (geometry_of c.args.g) < D c.args.img.now
sector_in c = entry_sector c.requires.difats.counted.sized c.args.i c.if-i-lt-DIFAT_ENTRIES.false c.requires.i_bound

listed_in : (c : After-difat-per) → c.args.at + (c.args.i - 109) / c.difat-per.result < length c.args.work.now
listed_in c = omega (arith, sector_is c, sector_in c, c.requires.difats.holds.room)

per_some : (c : After-difat-per) → 0 < c.difat-per.result
per_some c = omega (arith, c.difat-per.ensures, difat_some c.requires.difats.counted.sized)

pub difat_in_header-requires : goal.difat_in_header-requires
unfolding header_difat
difat_in_header-requires c = search rules

pub nonzero_div-j : goal.nonzero_div-j
unfolding header_difat
nonzero_div-j c = per_some (goal.at.nonzero_div-j c).After-difat-per

pub overflow_add-at : goal.overflow_add-at
unfolding header_difat
overflow_add-at c = omega (arith, listed_in (goal.at.overflow_add-at c).After-difat-per)

pub offset_bounds-work-at : goal.offset_bounds-work-at
unfolding header_difat
offset_bounds-work-at c = omega (arith, listed_in (goal.at.offset_bounds-work-at c).After-difat-per)

pub bounds-work-at : goal.bounds-work-at
unfolding header_difat
bounds-work-at c = listed_in (goal.at.bounds-work-at c).After-difat-per

pub nonzero_rem-j : goal.nonzero_rem-j
unfolding header_difat
nonzero_rem-j c = per_some (goal.at.nonzero_rem-j c).After-difat-per

pub word_in-requires : goal.word_in-requires
unfolding header_difat
word_in-requires c =
    let z = c.requires.difats.counted.sized in
    let k = sector_in (goal.at.word_in-requires c).After-difat-per in record { image_sized = z; s_bound = rw (sector_is (goal.at.word_in-requires c).After-difat-per, c.requires.difats.holds.here _ k) (c.requires.difats.below _ k); i_bound = rw c.difat-per.ensures (entry_index z (c.args.i - 109)) }

pub returns : goal.returns
unfolding header_difat
returns c =
    let k = sector_in (goal.at.returns c).After-difat-per in
    c.word_in.ensures ∙ rw (sector_is (goal.at.returns c).After-difat-per, c.difat-per.ensures, c.requires.difats.holds.here _ k) (sym (entry_later _ _ c.args.i c.if-i-lt-DIFAT_ENTRIES.false))
