use Rattle.std.proofs.Common.{arith, ◌≡◌, ◌+◌, ◌-◌, ◌*◌, ◌≤◌, suc}
use Rattle.fresh_sectors.proofs.Standing.{parts_order}
use Rattle.formatting.proofs.Images.{image_few, image_room, header_written, header_long, sector_written, image_written}
use Rattle.formatting.proofs.fill_image.Goals as goal
use Rattle.formatting.proofs.fill_image.Goals.{After-place-at}

-- the sector of a turn lies in the image
room : (c : After-place-at) → c.place-at.result + c.args.l.geometry.bytes ≤ suc c.args.l.plan.sectors * c.args.l.geometry.bytes
room c = image_room c.args.l c.requires.stands c.in-Some.s.0 _ (omega (arith, c.in-Some.ensures.steps)) c.place-at.ensures

pub until-s-items-requires : goal.until-s-items-requires
until-s-items-requires c = omega (arith, (parts_order c.args.l c.requires.stands).few)

pub loop-s-init : goal.loop-s-init
loop-s-init c =
    let n : c.into_iter-s-iterator.result.next ≡ 0 = cc (c.until-s-items.ensures.0, c.into_iter-s-iterator.ensures.into_iter_gives) in
    let e : c.into_iter-s-iterator.result.end ≡ c.args.l.plan.sectors = cc (c.until-s-items.ensures.1, c.into_iter-s-iterator.ensures.into_iter_gives) in
    let h = c.fill_header.ensures in (
      tt,
      tt,
      header_long c.args.l c.requires.stands _ c.args.img.now h c.requires.img_len,
      e,
      omega arith,
      rw n (header_written c.args.l c.requires.stands _ _ h),
    )

pub overflow_add-at : goal.overflow_add-at
overflow_add-at c = omega (arith, room c, image_few c.args.l c.requires.stands)

pub slice_bounds-fill_sector-end : goal.slice_bounds-fill_sector-end
slice_bounds-fill_sector-end c = omega (arith, room c, c.requires.img_len, c.loop-s.invariant)

pub loop-s-preserved : goal.loop-s-preserved
loop-s-preserved c =
    let t = c.in-Some.ensures.steps in
    let i = c.loop-s.invariant in (
      tt,
      tt,
      i.2,
      omega (arith, t, i.3),
      omega (arith, t, i.3),
      rw t.1.1.0
          (sector_written c.args.l c.requires.stands c.loop-s.s-iterator.next _ _ c.loop-s.img _ i.2 (omega (arith, t, i.3)) (rw t.1.0 at c.place-at.ensures) i.5
          (rw t.1.0 at c.fill_sector.ensures)),
    )

pub returns : goal.returns
returns c = let i = c.loop-s.invariant in image_written c.args.l c.requires.stands c.loop-s.s-iterator.next _ _ i.2 i.5 (omega (arith, c.in-None.ensures.steps, i.3))
