use Prim.Native.Nat.{◌<◌}
use mathlib.Core.Path.{◌≡◌, sym, ◌∙◌}
use native.Mathlib.Omega.{arith}
use Rattle.format.specs.Layout.Directory.{blank_at}
use Rattle.directory.specs.Listed.{entries_of}
use Rattle.directory.proofs.Places.{count_is, count_few}
use Rattle.directory.proofs.Blanks.{NoneBlank, none_start, none_step, none_found, none_left}
use Rattle.directory.proofs.lowest_blank.Goals as goal
use Rattle.directory.proofs.lowest_blank.Goals.{In-Some}

-- the entry of a turn
inside : (c : In-Some) → let a = c.args in c.in-Some.x.0 < (entries_of a.d a.img.now).count
inside c = let s = c.in-Some.ensures.steps in omega (arith, s.0, s.1.0, c.loop-x.invariant.ends)

none : (c : In-Some) → let a = c.args in NoneBlank (entries_of a.d a.img.now) c.in-Some.x.0
none c = rw c.in-Some.ensures.steps.1.0 c.loop-x.invariant.none

pub until-x-items-requires : goal.until-x-items-requires
until-x-items-requires c = omega (arith, c.count.ensures, count_few c.requires)

pub loop-x-init : goal.loop-x-init
loop-x-init c =
    rw (c.into_iter-x-iterator.ensures.into_iter_gives, c.until-x-items.ensures.0, c.until-x-items.ensures.1)
    (record { can_next = tt; is_finite = tt; ends = c.count.ensures ∙ sym (count_is c.requires); none = none_start _ })

pub type_of-requires : goal.type_of-requires
type_of-requires c = record { directory_listed = c.requires; x_bound = inside (goal.at.type_of-requires c).In-Some }

pub returns-then-is_blank : goal.returns-then-is_blank
unfolding blank_at
returns-then-is_blank c =
    let i = (goal.at.returns-then-is_blank c).In-Some in
    let blank : let a = c.args in c.is_blank.result ≡ blank_at (entries_of a.d a.img.now) c.in-Some.x.0 = rw (← c.type_of.ensures) c.is_blank.ensures in
    none_found (none i) (inside i) (sym blank ∙ c.if-is_blank.true)

pub loop-x-preserved : goal.loop-x-preserved
unfolding blank_at
loop-x-preserved c =
    let i = (goal.at.loop-x-preserved c).In-Some in
    let s = c.in-Some.ensures.steps in
    let blank : let a = c.args in c.is_blank.result ≡ blank_at (entries_of a.d a.img.now) c.in-Some.x.0 = rw (← c.type_of.ensures) c.is_blank.ensures in
    record {
      can_next = tt;
      is_finite = tt;
      ends = s.1.1.1 ∙ c.loop-x.invariant.ends;
      none = rw (s.1.1.0, ← s.1.0) (none_step (none i) (inside i) (sym blank ∙ c.if-is_blank.false));
    }

pub returns : goal.returns
returns c = none_left c.loop-x.invariant.none (omega (arith, c.in-None.ensures.steps, c.loop-x.invariant.ends))
