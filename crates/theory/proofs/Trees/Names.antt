-- The order of names is one that a tree can be sorted and searched by.
use Rattle.format.specs.Layout.Name.{fold, name_less, name_equal}
use Rattle.theory.specs.TreeFind.{NamesOrdered}
use Rattle.theory.proofs.NameOrder.{ahead, less_by, equal_by, by_strict, by_trans, by_equal}

pub names_ordered : NamesOrdered name_less name_equal
unfolding name_less name_equal less_by equal_by ahead
names_ordered =
    record {
      strict = by_strict fold;
      trans = by_trans fold;
      equal_left = λ a b c t. (by_equal fold a b c t).0;
      equal_right = λ a b c t. (by_equal fold a b c t).1;
    }
