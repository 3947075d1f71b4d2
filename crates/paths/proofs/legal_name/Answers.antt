use mathlib.Core.Path.{◌∙◌}
use borrow.Author.Rules.{rules}
use borrow.Author.Tests.{tests}
use Rattle.std.proofs.lemmas.Iterator.{YieldsList-from_slice}
use Rattle.std.proofs.lemmas.Iterator.Search.{all_from_yields_List}
use Rattle.format.specs.Layout.Name.{legal_unit}
use Rattle.paths.proofs.LegalNames.{legal_outside, legal_some}
use Rattle.paths.proofs.legal_name.Goals as goal

pub returns-then-contains : goal.returns-then-contains
returns-then-contains c =
    all_from_yields_List legal_unit _ _ _ c.all.ensures.ran (YieldsList-from_slice c.args.name.now (cc)) (λ x b q k. search (rules, tests))
    ∙ legal_some c.args.name.now (search rules)

pub returns-else-contains : goal.returns-else-contains
returns-else-contains c = c.if-contains.false ∙ legal_outside c.args.name.now (search rules)
