use borrow.Author.Tests.{eq-eqb, ne_eqb}
use mathlib.Core.Path.{◌≡◌, sym, ◌∙◌}
use mathlib.Core.Bool.{true, and-false}
use native.Mathlib.Omega.{arith}
use lib.ListN.{length}
use Rattle.format.specs.Layout.Geometry.{version3, version4}
use Rattle.format.specs.Layout.Header.{major_version}
use Rattle.format.specs.Rules.Length.{length_allowed}
use Rattle.format.specs.Rules.Version.{version_of}
use Rattle.frame.proofs.Final.{sized3}
use Rattle.frame.proofs.Lengths.{allowed_least}
use Rattle.header.proofs.version_of.Goals as goal
use Rattle.header.proofs.version_of.Goals.{Then-length_allowed, else-length_allowed-via-then-length_allowed+else-u16_at-eq4, else-length_allowed-via-else-length_allowed}

allowed : (c : Then-length_allowed) → length_allowed version3 (length c.args.img.now) ≡ true
unfolding version3
allowed c = sym c.length_allowed.ensures ∙ c.if-length_allowed.true

pub u16_at-requires : goal.u16_at-requires
unfolding version_of major_version version3 version4
u16_at-requires c = omega (arith, sized3.wide, allowed_least version3 c.args.img.now (allowed (goal.at.u16_at-requires c).Then-length_allowed))

pub returns-then-u16_at-eq4 : goal.returns-then-u16_at-eq4
unfolding version_of major_version version3 version4
returns-then-u16_at-eq4 c = sym (rw (sym c.length_allowed.ensures ∙ c.if-length_allowed.true, ← c.u16_at.ensures, eq-eqb _ 4 c.if-u16_at-eq4.true))

pub returns-else-length_allowed : goal.returns-else-length_allowed
unfolding version_of major_version version3 version4
returns-else-length_allowed c =
    elim c.else-length_allowed.branch [
      | else-length_allowed-via-then-length_allowed+else-u16_at-eq4 w ↦
          sym (rw (← w.u16_at.ensures, ne_eqb _ 4 w.if-u16_at-eq4.false, and-false))
      | else-length_allowed-via-else-length_allowed w ↦ sym (rw (sym c.length_allowed.ensures ∙ w.if-length_allowed.false))
    ]
