use mathlib.Core.Path.{◌≡◌}
use native.Mathlib.Omega.{arith}
use borrow.Author.Tests.{not-false}
use lib.ListN.{length}
use Rattle.format.specs.Layout.Volume.{directory}
use Rattle.format.specs.Rules.Length.{work_need}
use Rattle.format.specs.Rules.Entries.{entry_rules}
use Rattle.format.specs.Rules.Trees.{tree_rules}
use Rattle.kinds.specs.Sizes.{geometry_of}
use Rattle.tables.specs.Work.{Wrote}
use Rattle.tables.proofs.WorkLaws.{wrote_two}
use Rattle.theory.proofs.Loops.{said_yes, said_no}
use Rattle.volume.specs.Passed.{TablesHold}
use Rattle.volume.specs.Passed.{entries_answer}
use Rattle.volume.proofs.Walks.{hold_kept, wrote_before, nodes_apart, nodes_before, walk_ready}
use mathlib.Core.Path.{ap}
use mathlib.Core.Bool.{not}
use Rattle.volume.proofs.entry_stage.entry_tests.Goals as goal

pub open_directory-d-requires : goal.open_directory-d-requires
open_directory-d-requires c = c.requires

pub read_entries-requires : goal.read_entries-requires
read_entries-requires c =
    let listed' : let p = c.args in TablesHold (geometry_of p.g) p.img.now c.open_directory-d.new.work p.n = let t = c.requires in record { listed = c.open_directory-d.ensures.fat; whole = omega (arith, t.whole, c.open_directory-d.ensures.wrote.long); tables = t.tables; cells = t.cells; chained = t.chained; count = t.count } in
    record { directory_listed = c.open_directory-d.ensures.directory; d_bound = omega (arith, nodes_apart listed' c.open_directory-d.ensures.answer) }

pub returns-then-not-read_entries : goal.returns-then-not-read_entries
unfolding entries_answer
returns-then-not-read_entries c =
    let fields : let p = c.args in c.read_entries.result ≡ entry_rules (directory (geometry_of p.g) p.img.now) = rw c.open_directory-d.ensures.answer at c.read_entries.ensures.answer in
    let listed' : let p = c.args in TablesHold (geometry_of p.g) p.img.now c.open_directory-d.new.work p.n = let t = c.requires in record { listed = c.open_directory-d.ensures.fat; whole = omega (arith, t.whole, c.open_directory-d.ensures.wrote.long); tables = t.tables; cells = t.cells; chained = t.chained; count = t.count } in
    let read : let p = c.args in TablesHold (geometry_of p.g) p.img.now c.read_entries.new.work p.n = hold_kept listed' c.read_entries.ensures.wrote (omega (arith, nodes_before listed' c.open_directory-d.ensures.answer)) in
    let read_wrote : let p = c.args in Wrote p.work.now c.read_entries.new.work 0 (work_need (length p.img.now)) = wrote_two c.open_directory-d.ensures.wrote (wrote_before listed' c.read_entries.ensures.wrote (omega (arith, nodes_before listed' c.open_directory-d.ensures.answer))) in
    record { answer = rw (said_no (ap not c.if-not-read_entries.true) fields); hold = read; wrote = read_wrote }

pub tree_rules-requires : goal.tree_rules-requires
tree_rules-requires c =
    let listed' : let p = c.args in TablesHold (geometry_of p.g) p.img.now c.open_directory-d.new.work p.n = let t = c.requires in record { listed = c.open_directory-d.ensures.fat; whole = omega (arith, t.whole, c.open_directory-d.ensures.wrote.long); tables = t.tables; cells = t.cells; chained = t.chained; count = t.count } in
    let y = (ap not c.if-not-read_entries.false) in
    walk_ready listed' c.open_directory-d.ensures.answer c.open_directory-d.ensures.directory c.read_entries.ensures.wrote (said_yes y c.read_entries.ensures.answer) (c.read_entries.ensures.nodes (not-false _ y))

pub returns-then-not-tree_rules : goal.returns-then-not-tree_rules
unfolding entries_answer
returns-then-not-tree_rules c =
    let trees : let p = c.args in c.tree_rules.result ≡ tree_rules (directory (geometry_of p.g) p.img.now) = rw c.open_directory-d.ensures.answer at c.tree_rules.ensures.answer in
    let fields : let p = c.args in c.read_entries.result ≡ entry_rules (directory (geometry_of p.g) p.img.now) = rw c.open_directory-d.ensures.answer at c.read_entries.ensures.answer in
    let listed' : let p = c.args in TablesHold (geometry_of p.g) p.img.now c.open_directory-d.new.work p.n = let t = c.requires in record { listed = c.open_directory-d.ensures.fat; whole = omega (arith, t.whole, c.open_directory-d.ensures.wrote.long); tables = t.tables; cells = t.cells; chained = t.chained; count = t.count } in
    let read : let p = c.args in TablesHold (geometry_of p.g) p.img.now c.read_entries.new.work p.n = hold_kept listed' c.read_entries.ensures.wrote (omega (arith, nodes_before listed' c.open_directory-d.ensures.answer)) in
    let walked : let p = c.args in TablesHold (geometry_of p.g) p.img.now c.tree_rules.new.work p.n = hold_kept read c.tree_rules.ensures.wrote (omega (arith, nodes_before listed' c.open_directory-d.ensures.answer)) in
    let read_wrote : let p = c.args in Wrote p.work.now c.read_entries.new.work 0 (work_need (length p.img.now)) = wrote_two c.open_directory-d.ensures.wrote (wrote_before listed' c.read_entries.ensures.wrote (omega (arith, nodes_before listed' c.open_directory-d.ensures.answer))) in
    let wrote' : let p = c.args in Wrote p.work.now c.tree_rules.new.work 0 (work_need (length p.img.now)) = wrote_two read_wrote (wrote_before read c.tree_rules.ensures.wrote (omega (arith, nodes_before listed' c.open_directory-d.ensures.answer))) in
    record { answer = rw (said_yes (ap not c.if-not-read_entries.false) fields, said_no (ap not c.if-not-tree_rules.true) trees); hold = walked; wrote = wrote' }

pub returns : goal.returns
unfolding entries_answer
returns c =
    let trees : let p = c.args in c.tree_rules.result ≡ tree_rules (directory (geometry_of p.g) p.img.now) = rw c.open_directory-d.ensures.answer at c.tree_rules.ensures.answer in
    let fields : let p = c.args in c.read_entries.result ≡ entry_rules (directory (geometry_of p.g) p.img.now) = rw c.open_directory-d.ensures.answer at c.read_entries.ensures.answer in
    let listed' : let p = c.args in TablesHold (geometry_of p.g) p.img.now c.open_directory-d.new.work p.n = let t = c.requires in record { listed = c.open_directory-d.ensures.fat; whole = omega (arith, t.whole, c.open_directory-d.ensures.wrote.long); tables = t.tables; cells = t.cells; chained = t.chained; count = t.count } in
    let read : let p = c.args in TablesHold (geometry_of p.g) p.img.now c.read_entries.new.work p.n = hold_kept listed' c.read_entries.ensures.wrote (omega (arith, nodes_before listed' c.open_directory-d.ensures.answer)) in
    let walked : let p = c.args in TablesHold (geometry_of p.g) p.img.now c.tree_rules.new.work p.n = hold_kept read c.tree_rules.ensures.wrote (omega (arith, nodes_before listed' c.open_directory-d.ensures.answer)) in
    let read_wrote : let p = c.args in Wrote p.work.now c.read_entries.new.work 0 (work_need (length p.img.now)) = wrote_two c.open_directory-d.ensures.wrote (wrote_before listed' c.read_entries.ensures.wrote (omega (arith, nodes_before listed' c.open_directory-d.ensures.answer))) in
    let wrote' : let p = c.args in Wrote p.work.now c.tree_rules.new.work 0 (work_need (length p.img.now)) = wrote_two read_wrote (wrote_before read c.tree_rules.ensures.wrote (omega (arith, nodes_before listed' c.open_directory-d.ensures.answer))) in
    record { answer = rw (said_yes (ap not c.if-not-read_entries.false) fields, said_yes (ap not c.if-not-tree_rules.false) trees); hold = walked; wrote = wrote' }
