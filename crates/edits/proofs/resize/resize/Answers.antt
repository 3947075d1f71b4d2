use borrow.Author.Rules.{rules}
use Prim.Native.Nat.{max}
use mathlib.Core.Path.{◌≡◌, ◌∙◌, ap}
use Rattle.spaces.specs.Spaces.{kind_for}
use Rattle.edits.proofs.Resizes.{resize_writable, resize_entry, resize_tail, resize_written}
use Rattle.edits.proofs.resize.resize.Goals as goal
use Rattle.edits.proofs.resize.resize.Goals.{After-kind_for-kind}

-- the kind of unit
kind_is : (c : After-kind_for-kind) → let a = c.args in c.kind_for-kind.result ≡ kind_for (max a.e.size a.new)
kind_is c = c.kind_for-kind.ensures ∙ ap kind_for c.max.ensures

pub rewrite-requires : goal.rewrite-requires
rewrite-requires c = let t = c.requires.gathered in rw (kind_is (goal.at.rewrite-requires c).After-kind_for-kind) (record { writable = resize_writable c.requires.fact c.requires.stream_at c.args.new c.requires.value _ _ t.many t.wanted c.requires.fact.ready t; entry_room = resize_entry c.requires.fact c.requires.stream_at c.args.new c.requires.value _ _ t.many t.wanted c.requires.fact.ready t; size_bound = resize_tail c.requires.fact c.requires.stream_at c.args.new c.requires.value _ _ t.many t.wanted c.requires.fact.ready t })

pub returns : goal.returns
returns c =
    let t = c.requires.gathered in
    c.rewrite.ensures
    ∙ rw (kind_is (goal.at.returns c).After-kind_for-kind) (resize_written c.requires.fact c.requires.stream_at c.args.new c.requires.value _ _ t.many t.wanted c.requires.fact.ready t c.requires.size_nonzero)
