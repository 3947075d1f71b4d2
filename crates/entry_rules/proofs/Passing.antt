-- The pass over all entries: each that was passed keeps group 14 and has its node.
use Prim.Native.Nat.{ℕ, ◌+◌, ◌*◌, ◌≤◌, ◌<◌}
use mathlib.Core.Path.{◌≡◌, refl, sym, ap, ◌∙◌}
use mathlib.Core.Logic.{◌≢◌}
use mathlib.Core.Bool.{true, false, not, ◌&&◌, ◌||◌}
use mathlib.Core.List.{List}
use native.Mathlib.Omega.{arith}
use native.Mathlib.Decide.{ℕ_discrete}
use borrow.Author.Tests.{eqb-true}
use lib.ListN.{length, get_or, set, length-set}
use lib.Seq.{get_or-set_same, get_or-set_other}
use Rattle.format.specs.Basics.Bytes.{Bytes}
use Rattle.format.specs.Basics.Lists.{all_below}
use Rattle.format.specs.Layout.Entry.{kind, is_root, is_storage, is_stream}
use Rattle.format.specs.Layout.Directory.{Directory}
use Rattle.format.specs.Rules.Entries.{root_fields, common_fields, entry_fields, entry_right, entry_rules}
use Rattle.format.specs.Rules.Trees.{is_object}
use Rattle.theory.proofs.Tests.{both, clash, below_at}
use Rattle.theory.proofs.Loops.{below_none, below_more, below_not}
use Rattle.tables.specs.Work.{Wrote}
use Rattle.tables.proofs.WorkLaws.{wrote_none, wrote_set}
use Rattle.directory.specs.Listed.{entries_of, count_of, DirectoryListed}
use Rattle.directory.specs.declared.Directory.{Directory as Where}
use Rattle.directory.proofs.Places.{count_is, directory_kept}
use Rattle.nodes.specs.Nodes.{node_reached, node_A, node_B, EntryNode, NodeStands, NodesFresh}
use Rattle.entry_rules.specs.Names.{ObjectNamed}
use Rattle.entry_rules.proofs.Fields.{fields_first, name_fits}

-- the root is no object, and the name of every other entry lies in its place
pub root_other : (i : ℕ) (e : Bytes) → i ≡ 0 → entry_fields i e ≡ true → (is_storage e || is_stream e) ≡ false
root_other i e z h =
    let u = both (is_root e && root_fields e) (common_fields e) (sym (fields_first i e z) ∙ h) in
    let k : kind e ≡ 5 = eqb-true (kind e) 5 (both (is_root e) (root_fields e) u.0).0 in
    rw k

pub object_named : (i : ℕ) (e : Bytes) → entry_fields i e ≡ true → ObjectNamed e
object_named i e h = record {
  named = λ o. elim (ℕ_discrete i 0) [
    | yes z ↦ absurd (clash o (root_other i e z h))
    | no z ↦ name_fits i e z h
  ];
}

-- entry x has its node, and is not reached if it is an object
pub record Read (e : Directory) (w : List ℕ) (x : ℕ) : Type 0 where
  pub stands : NodeStands e w x
  pub unreached : is_object e x ≡ true → node_reached (node_A w x) ≡ false

pub record Passed (e : Directory) (b w : List ℕ) (x : ℕ) : Type 0 where
  pub most : x ≤ e.count
  pub rules : all_below x (entry_right e) ≡ true
  pub read : (y : ℕ) → y < x → Read e w y
  pub wrote : Wrote b w 0 (2 * e.count + 2)

pub passed_start : (e : Directory) (w : List ℕ) → Passed e w w 0
passed_start e w = record { most = omega arith; rules = below_none (entry_right e); read = λ y h. absurd (omega arith); wrote = wrote_none w 0 _ }

module _ {e : Directory} {b w : List ℕ} {x : ℕ} (p : Passed e b w x) (h : x < e.count) (l : 2 * e.count + 2 ≤ length w) where
  -- a broken rule
  pub passed_wrong : entry_right e x ≡ false → entry_rules e ≡ false
  unfolding entry_rules
  passed_wrong f = below_not (entry_right e) e.count x h f

  module _ (f : entry_right e x ≡ true) {s a c : ℕ} (es : s ≡ x + 1) (k : EntryNode e.count (e.entry x) a c) where
    abbrev v : List ℕ
    v = set (set w (2 * s) a) (2 * s + 1) c

    here : node_A v x ≡ a
    here = rw es (get_or-set_other (set w (2 * (x + 1)) a) (2 * (x + 1) + 1) (2 * (x + 1)) c 0 (omega arith) ∙ get_or-set_same w (2 * (x + 1)) a 0 (omega arith))

    beside : node_B v x ≡ c
    beside = rw es (get_or-set_same (set w (2 * (x + 1)) a) (2 * (x + 1) + 1) c 0 (rw length-set (omega arith)))

    other : (i : ℕ) → i ≢ 2 * (x + 1) → i ≢ 2 * (x + 1) + 1 → get_or v i 0 ≡ get_or w i 0
    other i n m = rw es (get_or-set_other (set w (2 * (x + 1)) a) (2 * (x + 1) + 1) i c 0 m ∙ get_or-set_other w (2 * (x + 1)) i a 0 n)

    read_here : Read e v x
    read_here = record {
      stands = record { object = λ o. rw (here, beside) (k.object o); other = λ o. rw here (k.reached ∙ ap not o) };
      unreached = λ o. rw here (k.reached ∙ ap not o);
    }

    read_before : (y : ℕ) → y < x → Read e w y → Read e v y
    read_before y q r =
        let a₁ = other (2 * (y + 1)) (omega arith) (omega arith) in
        let b₁ = other (2 * (y + 1) + 1) (omega arith) (omega arith) in
        record {
          stands = record { object = λ o. rw (a₁, b₁) (r.stands.object o); other = λ o. rw a₁ (r.stands.other o) };
          unreached = λ o. rw a₁ (r.unreached o);
        }

    pub passed_more : Passed e b v (x + 1)
    passed_more = record {
      most = omega arith;
      rules = below_more (entry_right e) x p.rules f;
      read = λ y q. elim (ℕ_discrete y x) [
        | yes z ↦ rw z read_here
        | no z ↦ read_before y (omega arith) (p.read y (omega arith))
      ];
      wrote = wrote_set (2 * s + 1) c (wrote_set (2 * s) a p.wrote (omega arith) (omega arith)) (omega arith) (omega arith);
    }

-- the end
module _ {e : Directory} {b w : List ℕ} {x : ℕ} (p : Passed e b w x) (h : e.count ≤ x) where
  at_end : x ≡ e.count
  at_end = omega (arith, p.most)

  pub passed_rules : entry_rules e ≡ true
  unfolding entry_rules
  passed_rules = rw at_end at p.rules

  pub passed_nodes : 0 < e.count → e.count < 0x8_0000 → 2 * e.count + 2 ≤ length w → NodesFresh e w
  unfolding entry_right
  passed_nodes s f l = record {
    stand = record {
      some = s;
      few = f;
      room = l;
      root = root_other 0 (e.entry 0) refl (below_at x (entry_right e) p.rules 0 (omega arith));
      nodes = λ y q. (p.read y (omega arith)).stands;
    };
    unreached = λ y q. (p.read y (omega arith)).unreached;
  }

-- ---- on the image

module _ {d : Where} {img : Bytes} {b w : List ℕ} (l : DirectoryListed d img b) (r : 2 * count_of d + 2 ≤ d.list) {x : ℕ} (p : Passed (entries_of d img) b w x) where
  pub passed_listed : DirectoryListed d img w
  passed_listed = directory_kept l p.wrote (omega (arith, count_is l))
