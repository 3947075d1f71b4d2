use Prim.Native.Nat.{◌-◌}
use mathlib.Core.Path.{◌≡◌, sym, ◌∙◌}
use mathlib.Core.Bool.{true}
use native.Mathlib.Omega.{arith}
use lib.Seq.{length-take-le}
use Rattle.format.specs.Layout.Entry.{is_stream}
use Rattle.format.specs.Calls.Paths.{well_formed}
use Rattle.theory.proofs.Loops.{said_no, said_yes}
use Rattle.directory.specs.Listed.{entries_of}
use Rattle.paths.proofs.LastNames.{Parted, after_parted, parent_malformed, parent_refused, parent_stream, parent_found}
use mathlib.Core.Path.{ap}
use mathlib.Core.Bool.{not}
use Rattle.std.proofs.lemmas.Result.{err_from_is_err_and}
use Rattle.paths.proofs.find_parent.Goals as goal
use Rattle.paths.proofs.find_parent.Goals.{After-last_name_start-name}

formed : (c : After-last_name_start-name) → well_formed c.args.path.now ≡ true
formed c = said_yes (ap not c.if-not-well_formed.false) c.well_formed-2.ensures

parted : (c : After-last_name_start-name) → Parted c.args.path.now c.last_name_start-name.result
parted c = after_parted _ _ c.last_name_start-name.ensures (formed c)

pub returns-then-not-well_formed : goal.returns-then-not-well_formed
returns-then-not-well_formed c = record { answer = parent_malformed _ _ (said_no (ap not c.if-not-well_formed.true) c.well_formed-2.ensures); inside = tt }

pub slice_bounds-find_entry-end : goal.slice_bounds-find_entry-end
slice_bounds-find_entry-end c = sym (length-take-le _ _ (omega (arith, c.saturating_sub.ensures, c.last_name_start-name.ensures.inside)))

pub find_entry-requires : goal.find_entry-requires
find_entry-requires c = record { directory_listed = c.requires.directory_listed; img_value = c.requires.img_value; img_value_2 = c.requires.img_value_2 }

pub type_of-requires : goal.type_of-requires
type_of-requires c = record { directory_listed = c.requires.directory_listed; x_bound = c.in_ok-storage.ensures.inside }

pub returns-in_err-storage : goal.returns-in_err-storage
returns-in_err-storage c =
    let r = err_from_is_err_and c.from_residual.result c.from_residual.ensures.1 in
    let found = rw c.saturating_sub.ensures at c.in_err-storage.ensures.answer in
    let s = (goal.at.returns-in_err-storage c).After-last_name_start-name in
    rw (r.1, r.2) (record { answer = parent_refused _ _ (formed s) _ (parted s) _ found; inside = tt })

pub returns-then-is_stream : goal.returns-then-is_stream
returns-then-is_stream c =
    let found = rw c.saturating_sub.ensures at c.in_ok-storage.ensures.answer in
    let s = (goal.at.returns-then-is_stream c).After-last_name_start-name in
    let streams : (c.is_stream.result ≡ is_stream ((entries_of c.args.d c.args.img.now).entry c.in_ok-storage.storage.0)) = rw (← c.type_of.ensures) c.is_stream.ensures in
    record { answer = parent_stream _ _ (formed s) _ (parted s) _ found (sym streams ∙ c.if-is_stream.true); inside = tt }

pub returns : goal.returns
returns c =
    let found = rw c.saturating_sub.ensures at c.in_ok-storage.ensures.answer in
    let s = (goal.at.returns c).After-last_name_start-name in
    let streams : (c.is_stream.result ≡ is_stream ((entries_of c.args.d c.args.img.now).entry c.in_ok-storage.storage.0)) = rw (← c.type_of.ensures) c.is_stream.ensures in
    record { answer = parent_found _ _ (formed s) _ (parted s) _ found (sym streams ∙ c.if-is_stream.false); inside = (c.in_ok-storage.ensures.inside, (parted s).start) }
