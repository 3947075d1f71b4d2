use Prim.Native.Nat.{◌<◌}
use mathlib.Core.Path.{◌≡◌, sym, ap, ◌∙◌}
use mathlib.Core.Bool.{not}
use borrow.Author.Rules.{rules}
use borrow.Author.Tests.{tests, eqb-true}
use borrow.Author.Tests.{eqb-false}
use lib.Dec.{eqb}
use lib.ListN.{length, get_or}
use Rattle.std.proofs.lemmas.List.{length_push}
use Rattle.std.proofs.lemmas.Iterator.Splits.{YieldsList-from_slice_split}
use Rattle.std.proofs.lemmas.Iterator.Consumers.{YieldsList-turn, YieldsList-end}
use Rattle.std.proofs.lemmas.Result.{err_from_is_err_and}
use Rattle.format.specs.Layout.Name.{slash}
use Rattle.format.specs.Calls.Paths.{split}
use Rattle.theory.proofs.Loops.{said_no, said_yes}
use Rattle.theory.proofs.Trees.Paths.{resolve_malformed}
use Rattle.directory.proofs.Places.{root_inside}
use Rattle.paths.proofs.Splits.{split_is}
use Rattle.paths.proofs.Steps.{searchable_below, enter_inside, way_none, way_start, way_on, way_refused, way_end}
use Rattle.paths.proofs.find_entry.Goals as goal
use Rattle.paths.proofs.find_entry.Goals.{In-Some}

-- the name at hand is the next piece of the path
piece : (c : In-Some) → let ns = split c.args.path.now in let n = length c.loop-name.yielded in (n < length ns) × (c.in-Some.name.now ≡ get_or ns n c.in-Some.name.now)
piece c =
    let t = YieldsList-turn (YieldsList-from_slice_split _ (λ u. eqb u slash) c.args.path.now (cc) (cc) (cc) (λ x b q k. search (rules, tests))) c.loop-name.yielded _ c.loop-name.yielded_by _ _ c.in-Some.name c.in-Some.is c.next.ensures.steps in
    rw split_is at t

pub returns-then-not-well_formed : goal.returns-then-not-well_formed
returns-then-not-well_formed c = record { answer = sym (resolve_malformed _ _ (said_no (ap not c.if-not-well_formed.true) c.well_formed-2.ensures)); inside = tt }

pub returns-then-is_empty : goal.returns-then-is_empty
returns-then-is_empty c = record { answer = way_none _ _ (said_yes (ap not c.if-not-well_formed.false) c.well_formed-2.ensures) (eqb-true _ _ (sym c.is_empty.ensures ∙ c.if-is_empty.true)); inside = root_inside c.requires.directory_listed }

pub loop-name-init : goal.loop-name-init
loop-name-init c = (root_inside c.requires.directory_listed, way_start _ _ (said_yes (ap not c.if-not-well_formed.false) c.well_formed-2.ensures) (eqb-false _ _ (sym c.is_empty.ensures ∙ c.if-is_empty.false)))

pub enter-requires : goal.enter-requires
enter-requires c = record { directory_listed = c.requires.directory_listed; img_value = c.requires.img_value; img_value_2 = c.requires.img_value_2; x_bound = c.loop-name.invariant.0 }

pub returns-in_err-x : goal.returns-in_err-x
returns-in_err-x c =
    let r = err_from_is_err_and c.from_residual.result c.from_residual.ensures.1 in
    let t = piece (goal.at.returns-in_err-x c).In-Some in
    rw (r.1, r.2) (record { answer = way_refused _ _ _ (length c.loop-name.yielded) c.loop-name.x.0 c.loop-name.invariant.1 t.0 t.1 _ c.in_err-x.ensures; inside = tt })

pub loop-name-preserved : goal.loop-name-preserved
loop-name-preserved c =
    let t = piece (goal.at.loop-name-preserved c).In-Some in (
      enter_inside _ c.loop-name.x.0 _ (searchable_below _ c.requires.img_value c.requires.img_value_2 _ c.loop-name.invariant.0) _ c.in_ok-x.ensures,
      rw length_push (way_on _ _ _ (length c.loop-name.yielded) c.loop-name.x.0 c.loop-name.invariant.1 t.0 t.1 _ c.in_ok-x.ensures),
    )

pub returns : goal.returns
returns c =
    let t = YieldsList-end (YieldsList-from_slice_split _ (λ u. eqb u slash) c.args.path.now (cc) (cc) (cc) (λ x b q k. search (rules, tests))) c.loop-name.yielded _ c.loop-name.yielded_by _ _ c.in-None.is c.next.ensures.steps in
    let e = rw split_is at t.1 in
    record { answer = way_end _ _ _ _ c.loop-name.x.0 c.loop-name.invariant.1 e; inside = c.loop-name.invariant.0 }
