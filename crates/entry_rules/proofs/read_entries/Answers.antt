use Prim.Native.Nat.{ℕ, ◌+◌, ◌*◌, ◌≤◌, ◌<◌}
use mathlib.Core.Path.{◌≡◌, refl, sym, ap, ◌∙◌}
use native.Mathlib.Omega.{arith}
use lib.ListN.{length}
use Rattle.format.specs.Rules.Entries.{entry_fields, entry_right}
use Rattle.theory.proofs.Tests.{clash}
use Rattle.entries.specs.Entry.{entry_at}
use Rattle.directory.specs.Listed.{entries_of, place_of, DirectoryListed}
use Rattle.directory.proofs.Places.{count_is, count_short, place_inside, entry_is, root_inside}
use Rattle.entry_rules.proofs.Ahead.{ahead_wrong}
use Rattle.entry_rules.proofs.Passing.{Passed, object_named, passed_start, passed_listed, passed_wrong, passed_more, passed_rules, passed_nodes}
use Rattle.entry_rules.proofs.read_entries.Goals as goal
use Rattle.entry_rules.proofs.read_entries.Goals.{In-Some}

-- the entry of a turn
passed : (c : In-Some) → let p = c.args in Passed (entries_of p.d p.img.now) p.work.now c.loop-x.work c.in-Some.x.0
passed c = rw c.in-Some.ensures.steps.1.0 c.loop-x.invariant.passed

listed : (c : In-Some) → let p = c.args in DirectoryListed p.d p.img.now c.loop-x.work
listed c = passed_listed c.requires.directory_listed c.requires.d_bound (passed c)

count : (c : In-Some) → let p = c.args in c.count-n.result ≡ (entries_of p.d p.img.now).count
count c = c.count-n.ensures ∙ sym (count_is (listed c))

few : (c : In-Some) → let p = c.args in (entries_of p.d p.img.now).count < 0x8_0000
few c = omega (arith, count_is (listed c), count_short (listed c))

room : (c : In-Some) → let p = c.args in 2 * (entries_of p.d p.img.now).count + 2 ≤ length c.loop-x.work
room c = omega (arith, count_is (listed c), (listed c).room, c.requires.d_bound)

inside : (c : In-Some) → let p = c.args in c.in-Some.x.0 < (entries_of p.d p.img.now).count
inside c = let s = c.in-Some.ensures.steps in omega (arith, s.0, s.1.0, c.loop-x.invariant.ends, count c)

-- the bytes at its place
standing : (c : In-Some) → let a = c.args in
    (p : ℕ) → p ≡ place_of a.d c.loop-x.work c.in-Some.x.0 → (entries_of a.d a.img.now).entry c.in-Some.x.0 ≡ entry_at a.img.now p
standing c p e = rw e (entry_is (listed c) _ (inside c))

pub until-x-items-requires : goal.until-x-items-requires
until-x-items-requires c = omega (arith, c.count-n.ensures, count_short c.requires.directory_listed)

pub loop-x-init : goal.loop-x-init
loop-x-init c =
    rw (c.into_iter-x-iterator.ensures.into_iter_gives, c.until-x-items.ensures.0, c.until-x-items.ensures.1)
    (record { can_next = tt; is_finite = tt; ends = refl; passed = passed_start _ _ })

pub ahead_right-requires : goal.ahead_right-requires
ahead_right-requires c =
    let i = (goal.at.ahead_right-requires c).In-Some in
    record { directory_listed = listed i; x_bound = omega (arith, inside i, count_is (listed i)) }

pub returns-then-not-ahead_right : goal.returns-then-not-ahead_right
returns-then-not-ahead_right c =
    let i = (goal.at.returns-then-not-ahead_right c).In-Some in
    record {
      answer = sym (ahead_wrong _ _ _ _ (sym c.ahead_right.ensures ∙ c.if-not-ahead_right.true));
      nodes = λ h. absurd (clash h refl);
      wrote = rw (← count_is (listed i)) (passed i).wrote;
    }

pub entry_fields-requires : goal.entry_fields-requires
entry_fields-requires c =
    let i = (goal.at.entry_fields-requires c).In-Some in
    omega (arith, c.place-p.ensures, place_inside (listed i) _ (inside i))

pub returns-then-not-entry_fields : goal.returns-then-not-entry_fields
unfolding entry_right
returns-then-not-entry_fields c =
    let i = (goal.at.returns-then-not-entry_fields c).In-Some in
    let tested = ap (entry_fields c.in-Some.x.0) (standing i _ c.place-p.ensures) ∙ sym c.entry_fields.ensures in
    record {
      answer = sym (passed_wrong (passed i) (inside i) (room i) (tested ∙ c.if-not-entry_fields.true));
      nodes = λ h. absurd (clash h refl);
      wrote = rw (← count_is (listed i)) (passed i).wrote;
    }

pub at-requires : goal.at-requires
at-requires c = let i = (goal.at.at-requires c).In-Some in omega (arith, inside i, few i)

pub node_of-requires : goal.node_of-requires
node_of-requires c =
    let i = (goal.at.node_of-requires c).In-Some in
    record {
      p_in_bounds = omega (arith, c.place-p.ensures, place_inside (listed i) _ (inside i));
      n_nonzero = (omega (arith, count i, inside i), omega (arith, count i, few i));
      object_named = object_named _ _ (sym c.entry_fields.ensures ∙ c.if-not-entry_fields.false);
    }

pub loop-x-preserved : goal.loop-x-preserved
unfolding entry_right
loop-x-preserved c =
    let i = (goal.at.loop-x-preserved c).In-Some in
    let s = c.in-Some.ensures.steps in
    let stands = standing i _ c.place-p.ensures in
    let tested = ap (entry_fields c.in-Some.x.0) stands ∙ sym c.entry_fields.ensures in
    record {
      can_next = tt;
      is_finite = tt;
      ends = s.1.1.1 ∙ c.loop-x.invariant.ends;
      passed = rw (s.1.1.0, c.put_node.ensures, ← s.1.0)
          (passed_more (passed i) (inside i) (room i) (tested ∙ c.if-not-entry_fields.false) c.at.ensures (rw (stands, ← count i) c.node_of.ensures));
    }

pub returns : goal.returns
returns c =
    let p = c.loop-x.invariant.passed in
    let l = passed_listed c.requires.directory_listed c.requires.d_bound p in
    let n = count_is l in
    let a = c.args in
    let h : (entries_of a.d a.img.now).count ≤ c.loop-x.x-iterator.next = omega (arith, c.in-None.ensures.steps, c.loop-x.invariant.ends, c.count-n.ensures, n) in
    record {
      answer = sym (passed_rules p h);
      nodes = λ q. passed_nodes p h (root_inside l) (omega (arith, n, count_short l)) (omega (arith, n, c.requires.d_bound, l.room));
      wrote = rw (← n) p.wrote;
    }
