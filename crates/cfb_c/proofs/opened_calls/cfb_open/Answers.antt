use Rattle.cfb_c.proofs.Packing.{opened_sizes}
use Rattle.cfb_c.proofs.Openings.{refused_opening, ready_opening}
use Rattle.cfb_c.proofs.opened_calls.cfb_open.Goals as goal

pub pack-requires : goal.pack-requires
pack-requires c = opened_sizes c.in-Ok.ensures.1.0

pub returns-in-Err : goal.returns-in-Err
returns-in-Err c =
    let r = refused_opening c.args.image.now c.args.work.now _ _ _ c.in-Err.a c.in-Err.ensures c.from.ensures in
    record { result_value = r.0; open_volume = r.1.0; wrote = r.1.1.0; work_after = r.1.1.1.0; volume_unchanged = r.1.1.1.1 }

pub returns-in-Ok : goal.returns-in-Ok
returns-in-Ok c =
    let r = ready_opening c.args.image.now c.args.work.now _ _ _ c.in-Ok.v c.in-Ok.ensures c.pack.ensures in
    record { result_value = r.0; open_volume = r.1.0; wrote = r.1.1.0; work_after = r.1.1.1.0; volume_unchanged = r.1.1.1.1 }
