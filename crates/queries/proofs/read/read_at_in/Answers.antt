use borrow.Author.Rules.{rules}
use borrow.Author.Tests.{eqb-true, eqb-false, not-true, not-false}
use Prim.Native.Nat.{◌≤◌, ◌<◌}
use mathlib.Core.Path.{sym, ◌∙◌, ap, subst}
use Rattle.theory.proofs.Loops.{said_below, said_beyond}
use Rattle.directory.specs.Listed.{entries_of}
use Rattle.directory.proofs.Places.{count_is, countable}
use Rattle.spaces.specs.Spaces.{volume_in}
use Rattle.queries.specs.Inside.{ObjectOf}
use Rattle.queries.proofs.AtEntry.{at_past, at_other}
use Rattle.queries.proofs.Finds.{same_entries, find_asks, looked_up}
use Rattle.queries.proofs.Streams.{object_stream, object_other}
use mathlib.Core.Bool.{not}
use Rattle.queries.proofs.read.read_at_in.Goals as goal
use Rattle.queries.proofs.read.read_at_in.Goals.{Else-not-below, Then-not-below}

inside : (c : Else-not-below) → c.args.entry.0 < (entries_of c.args.v.directory c.args.img.now).count
inside c = said_below c.args.entry.0 _ (ap not c.if-not-below.false) c.below.ensures (c.count.ensures ∙ sym (count_is (find_asks c.requires).0))

-- the entry is past the directory, or in it
past : (c : Then-not-below) → (entries_of c.args.v.directory c.args.img.now).count ≤ c.args.entry.0
past c = said_beyond c.args.entry.0 _ (ap not c.if-not-below.true) c.below.ensures (c.count.ensures ∙ sym (count_is (find_asks c.requires).0))

pub count-requires : goal.count-requires
count-requires c = countable (find_asks c.requires).0

pub returns-then-not-below : goal.returns-then-not-below
returns-then-not-below c = let r = at_past _ _ c.args.img.now c.args.position c.args.out.now c.args.entry.0 (subst (λ d. d.count ≤ c.args.entry.0) (same_entries c.requires) (past (goal.at.returns-then-not-below c).Then-not-below)) in record { result_value = r.0; out_after = r.1 }

pub object_at-object-requires : goal.object_at-object-requires
object_at-object-requires c = record { directory_listed = (find_asks c.requires).0; x_bound = inside (goal.at.object_at-object-requires c).Else-not-below }

pub returns-then-not-is_stream : goal.returns-then-not-is_stream
returns-then-not-is_stream c =
    let found : ObjectOf (volume_in c.args.v c.args.img.now) c.object_at-object.result = looked_up c.requires _ (inside (goal.at.returns-then-not-is_stream c).Else-not-below) (c.object_at-object.ensures.id_value, (c.object_at-object.ensures.entry_type_value, c.object_at-object.ensures.size_value)) in
    let a = c.args in
    let h = found in
    rw (← ap (λ i. i.0) c.object_at-object.ensures.id_value) (let r = at_other _ _ a.img.now a.position a.out.now c.object_at-object.result.id.0 h.0 (object_other (volume_in a.v a.img.now) _ h (eqb-false _ _ (sym c.is_stream.ensures ∙ c.if-not-is_stream.true))) in record { result_value = r.0; out_after = r.1 })

pub read_object-requires : goal.read_object-requires
read_object-requires c =
    let found : ObjectOf (volume_in c.args.v c.args.img.now) c.object_at-object.result = looked_up c.requires _ (inside (goal.at.read_object-requires c).Else-not-below) (c.object_at-object.ensures.id_value, (c.object_at-object.ensures.entry_type_value, c.object_at-object.ensures.size_value)) in
    record { fact = c.requires; stream_at = object_stream (volume_in c.args.v c.args.img.now) _ found (eqb-true _ _ (sym c.is_stream.ensures ∙ c.if-not-is_stream.false)) }

pub returns : goal.returns
returns c = rw (← ap (λ i. i.0) c.object_at-object.ensures.id_value) (record { result_value = c.read_object.ensures.result_value; out_after = c.read_object.ensures.out_after })
