use mathlib.Core.Path.{sym, ◌∙◌}
use borrow.Author.Rules.{rules}
use borrow.Author.Tests.{tests, eqb-true, eqb-false}
use lib.Dec.{eqb}
use Rattle.std.proofs.lemmas.Iterator.Splits.{YieldsList-from_slice_split}
use Rattle.std.proofs.lemmas.Iterator.Search.{all_from_yields_List}
use Rattle.format.specs.Layout.Name.{slash, legal_name}
use Rattle.paths.proofs.Splits.{formed_none, formed_some}
use Rattle.paths.proofs.well_formed.Goals as goal

pub returns-then-is_empty : goal.returns-then-is_empty
returns-then-is_empty c = c.if-is_empty.true ∙ formed_none _ (eqb-true _ _ (sym c.is_empty.ensures ∙ c.if-is_empty.true))

pub returns-else-is_empty : goal.returns-else-is_empty
returns-else-is_empty c =
    all_from_yields_List legal_name _ _ _ c.all.ensures.ran
    (YieldsList-from_slice_split _ (λ u. eqb u slash) c.args.path.now (cc) (cc) (cc) (λ x b q k. search (rules, tests)))
    (λ x b q k. search (rules, tests))
    ∙ formed_some _ (eqb-false _ _ (sym c.is_empty.ensures ∙ c.if-is_empty.false))
