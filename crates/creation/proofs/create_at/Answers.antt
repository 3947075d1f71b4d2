use mathlib.Core.Path.{◌≡◌}
use native.Mathlib.Omega.{arith}
use Rattle.std.proofs.Common.{Some, None}
use Rattle.std.proofs.lemmas.Result.{err_from_is_err_and}
use Rattle.kinds.specs.Links.{new_kind_of}
use Rattle.kinds.specs.declared.Refusal.TheVariants.{NoBlankEntry}
use Rattle.lookup.specs.Slots.{slot_of}
use Rattle.creation.proofs.Places.{entry_placed, entry_room}
use Rattle.creation.proofs.Found.{blank_in}
use Rattle.creation.proofs.Writing.{none_blank, some_blank, created_is}
use Rattle.creation.proofs.create_at.Goals as goal

pub returns-in_err-x : goal.returns-in_err-x
returns-in_err-x c =
    let p = err_from_is_err_and c.from_residual.result c.from_residual.ensures.1 in
    let none = c.in_err-x.ensures.ok_part in
    let e : c.in_err-x.field-0.0 ≡ NoBlankEntry = cc (rw none at c.in_err-x.ensures.value) in
    let r = none_blank _ _ _ (blank_in c.requires.fact None (rw none at c.lowest_blank.ensures)) in
    rw (p.1, p.2, e) (record { result_value = r.0; img_after = r.1 })

pub place-p-requires : goal.place-p-requires
place-p-requires c =
    let x = blank_in c.requires.fact (Some c.in_ok-x.x) (rw c.in_ok-x.ensures.ok_part at c.lowest_blank.ensures) in
    entry_placed c.requires.fact _ x.0

pub put_new_entry-requires-clause-p_in_bounds : goal.put_new_entry-requires-clause-p_in_bounds
put_new_entry-requires-clause-p_in_bounds c =
    let x = blank_in c.requires.fact (Some c.in_ok-x.x) (rw c.in_ok-x.ensures.ok_part at c.lowest_blank.ensures) in
    rw c.place-p.ensures (entry_room c.requires.fact _ x.0)

pub place-requires : goal.place-requires
place-requires c = entry_placed c.requires.fact _ c.requires.h_bound

pub put_link-requires : goal.put_link-requires
put_link-requires c = omega (arith, c.place.ensures, entry_room c.requires.fact _ c.requires.h_bound)

pub returns : goal.returns
returns c =
    let o = c.requires.fact in
    let x = blank_in o (Some c.in_ok-x.x) (rw c.in_ok-x.ensures.ok_part at c.lowest_blank.ensures) in
    let r = some_blank _ _ _ _ x.1.0
    (rw (
      c.put_link.ensures,
      c.put_new_entry.ensures,
      c.place.ensures,
      c.start.ensures,
      c.entry_type.ensures,
      c.place-p.ensures,
    )
    (created_is o (new_kind_of c.args.kind) c.args.name.now (slot_of c.args.h) _ c.requires.h_bound x.0 x.1.1)) in record { result_value = r.0; img_after = r.1 }
