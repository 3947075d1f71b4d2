use Prim.Native.Nat.{◌<◌}
use mathlib.Core.Path.{◌≡◌, refl, sym, ◌∙◌}
use native.Mathlib.Omega.{arith}
use Rattle.directory.specs.Listed.{entries_of}
use Rattle.directory.proofs.Places.{count_is, count_few, placed, place_inside, entry_is}
use Rattle.entry_rules.proofs.Ahead.{colours_start, colours_next}
use Rattle.entry_rules.proofs.colours.Goals as goal
use Rattle.entry_rules.proofs.colours.Goals.{In-Some}

-- the entry of a turn
inside : (c : In-Some) → let a = c.args in c.in-Some.y.0 < (entries_of a.d a.img.now).count
inside c = let s = c.in-Some.ensures.steps in omega (arith, s.0, s.1.0, c.loop-y.invariant.ends, c.requires.x_le_end.1, count_is c.requires.directory_listed)

pub until-y-items-requires : goal.until-y-items-requires
until-y-items-requires c = omega (arith, c.requires.x_le_end.1, count_few c.requires.directory_listed)

pub loop-y-init : goal.loop-y-init
loop-y-init c =
    rw (c.into_iter-y-iterator.ensures.into_iter_gives, c.until-y-items.ensures.0, c.until-y-items.ensures.1)
    (record {
      can_next = tt;
      is_finite = tt;
      ends = refl;
      from = omega arith;
      upto = c.requires.x_le_end.0;
      right = sym (colours_start (entries_of c.args.d c.args.img.now) c.args.x.0);
    })

pub place-requires : goal.place-requires
place-requires c = placed c.requires.directory_listed _ (inside (goal.at.place-requires c).In-Some)

pub common_fields-ok-requires : goal.common_fields-ok-requires
common_fields-ok-requires c = omega (arith, c.place.ensures, place_inside c.requires.directory_listed _ (inside (goal.at.common_fields-ok-requires c).In-Some))

pub loop-y-preserved : goal.loop-y-preserved
loop-y-preserved c =
    let l = c.loop-y.invariant in
    let s = c.in-Some.ensures.steps in
    let e = entry_is c.requires.directory_listed _ (inside (goal.at.loop-y-preserved c).In-Some) in
    record {
      can_next = tt;
      is_finite = tt;
      ends = s.1.1.1 ∙ l.ends;
      from = omega (arith, l.from, s.1.1.0);
      upto = omega (arith, l.ends, s.0, s.1.1.0);
      right = rw (s.1.1.0, l.right, colours_next (entries_of c.args.d c.args.img.now) c.args.x.0 c.loop-y.y-iterator.next l.from, c.common_fields-ok.ensures, c.place.ensures, ← s.1.0, e);
    }

pub returns : goal.returns
returns c =
    let l = c.loop-y.invariant in
    let e : c.loop-y.y-iterator.next ≡ c.args.end = omega (arith, l.upto, l.ends, c.in-None.ensures.steps) in
    rw e at l.right
