use Prim.Native.Nat.{ℕ}
use mathlib.Core.Path.{◌≡◌, sym, ◌∙◌}
use mathlib.Core.Bool.{false}
use Rattle.format.specs.Layout.Entry.{is_stream}
use Rattle.theory.specs.TreeViews.{child_of}
use Rattle.directory.specs.Listed.{entries_of}
use Rattle.entry_rules.proofs.Ruled.{ruled}
use Rattle.lookup.specs.Children.{child_among, answer_of}
use Rattle.std.proofs.Common.{Option, Some, None}
use Rattle.std.specs.Prelude.{ok_or}
use Rattle.format.specs.Layout.Name.{Name}
use Rattle.format.specs.Layout.Directory.{Directory}
use Rattle.format.specs.Calls.Find.{enter as enters}
use Rattle.theory.specs.TreeFind.{reached}
use Rattle.kinds.specs.declared.EntryId.{EntryId}
use Rattle.kinds.specs.declared.Refusal.TheVariants.{NotFound}
use Rattle.paths.specs.Found.{found_of}
use Rattle.paths.proofs.Steps.{searchable_below, enter_stream, enter_missing, enter_present}
use Rattle.paths.proofs.enter.Goals as goal
use Rattle.paths.proofs.enter.Goals.{Else-is_stream}

-- what the search for a child says is one name further
went : (e : Directory) (x : ℕ) (n : Name) → is_stream (e.entry x) ≡ false → (r : Option EntryId) → answer_of e r ≡ child_among e n (child_of e x)
    → found_of e (ok_or r NotFound) ≡ enters e (reached e x) n
went e x n s None h = enter_missing e x n s h
went e x n s (Some y) h = enter_present e x n s y.0 h

plain : (c : Else-is_stream) → let p = c.args in is_stream ((entries_of p.d p.img.now).entry p.x.0) ≡ false
plain c = let s : (c.is_stream.result ≡ is_stream ((entries_of c.args.d c.args.img.now).entry c.args.x.0)) = rw (← c.type_of.ensures) c.is_stream.ensures in sym s ∙ c.if-is_stream.false

pub returns-then-is_stream : goal.returns-then-is_stream
returns-then-is_stream c = let s : (c.is_stream.result ≡ is_stream ((entries_of c.args.d c.args.img.now).entry c.args.x.0)) = rw (← c.type_of.ensures) c.is_stream.ensures in enter_stream _ _ _ (sym s ∙ c.if-is_stream.true)

pub find_child-requires : goal.find_child-requires
find_child-requires c = let r = c.requires in record {
  directory_listed = r.directory_listed;
  ruled = ruled _ r.img_value;
  searchable = rw c.child_of.ensures (searchable_below _ r.img_value r.img_value_2 _ r.x_bound);
}

pub returns : goal.returns
returns c =
    let p = c.args in
    let e = entries_of p.d p.img.now in
    let says : (answer_of e c.find_child.result ≡ child_among e p.name.now (child_of e p.x.0)) = rw (← c.child_of.ensures) c.find_child.ensures in
    rw c.ok_or.ensures.value (went e p.x.0 p.name.now (plain (goal.at.returns c).Else-is_stream) c.find_child.result says)
