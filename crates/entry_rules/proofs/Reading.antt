-- What the fields of an object are, so that its node can be packed from them.
use Prim.Native.Nat.{ℕ, ◌<◌}
use mathlib.Core.Path.{◌≡◌}
use mathlib.Core.Bool.{true, ◌||◌}
use native.Mathlib.Omega.{arith}
use lib.ListN.{length}
use Rattle.format.specs.Basics.Bytes.{Bytes}
use Rattle.format.specs.Layout.Entry.{name, left, right, child, is_storage, is_stream}
use Rattle.entries.proofs.NameLaws.{name_length}
use Rattle.nodes.specs.Slots.{slot_of}
use Rattle.nodes.specs.Nodes.{Packable}
use Rattle.nodes.proofs.Slots.{slot_most}
use Rattle.entry_rules.specs.Names.{ObjectNamed}

module _ {n : ℕ} (z : (0 < n) × (n < 0x8_0000)) {e : Bytes} where
  -- an object, whose fields were read
  module _ (m : ObjectNamed e) (o : (is_storage e || is_stream e) ≡ true) {u : ℕ} (eu : u ≡ length (name e)) where
    pub units_few : u < 32
    units_few = omega (arith, (m.named o).most, name_length e)

    module _ {l r c : ℕ} (el : l ≡ slot_of n (left e)) (er : r ≡ slot_of n (right e)) (ec : c ≡ slot_of n (child e)) where
      pub packable : Packable l r c u
      packable = record {
        lefts = omega (arith, z.1, slot_most n (left e) z.0);
        rights = omega (arith, z.1, slot_most n (right e) z.0);
        below = omega (arith, z.1, slot_most n (child e) z.0);
        few = units_few;
      }
