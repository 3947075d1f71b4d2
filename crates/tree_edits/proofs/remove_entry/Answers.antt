use native.Mathlib.Omega.{arith}
use Rattle.directory.proofs.Places.{placed, place_inside}
use Rattle.tree_edits.proofs.Unlinks.{list_stays}
use Rattle.tree_edits.proofs.Whole.{it_stands, owner_inside, parent_inside, sibling_tree, listed_placed, removed_listed}
use Rattle.tree_edits.proofs.remove_entry.Goals as goal

pub child_of-top-requires : goal.child_of-top-requires
child_of-top-requires c = record { directory_listed = c.requires.directory_listed; x_bound = parent_inside c.requires.removable }

pub list_siblings-n-requires-clause-sibling_tree : goal.list_siblings-n-requires-clause-sibling_tree
list_siblings-n-requires-clause-sibling_tree c = rw c.child_of-top.ensures (sibling_tree c.requires.removable)

pub unlink-requires : goal.unlink-requires
unlink-requires c = record { directory_listed = list_stays c.requires.directory_listed c.list_siblings-n.ensures.wrote c.requires.d_bound; owner_bound = owner_inside c.requires.removable; standing = it_stands c.requires.removable }

pub blacken-requires : goal.blacken-requires
blacken-requires c =
    let l = list_stays c.requires.directory_listed c.list_siblings-n.ensures.wrote c.requires.d_bound in
    listed_placed c.requires.removable l c.requires.d_bound (rw c.child_of-top.ensures at c.list_siblings-n.ensures.listed) c.unlink.auto.img

pub place-requires : goal.place-requires
place-requires c =
    let l = list_stays c.requires.directory_listed c.list_siblings-n.ensures.wrote c.requires.d_bound in
    placed l _ (it_stands c.requires.removable).inside

pub put_blank_entry-requires : goal.put_blank_entry-requires
put_blank_entry-requires c =
    let l = list_stays c.requires.directory_listed c.list_siblings-n.ensures.wrote c.requires.d_bound in
    omega (arith, place_inside l _ (it_stands c.requires.removable).inside, c.place.ensures, c.blacken.auto.img, c.unlink.auto.img)

pub returns : goal.returns
returns c =
    let l = list_stays c.requires.directory_listed c.list_siblings-n.ensures.wrote c.requires.d_bound in record {
      image = removed_listed c.requires.removable c.requires.directory_listed.sized (λ i. omega (arith, c.slice_known-1.given i)) l (rw c.child_of-top.ensures at c.list_siblings-n.ensures.listed)
          c.unlink.ensures c.blacken.ensures c.place.ensures c.put_blank_entry.ensures (λ i. omega (arith, c.slice_known-6-1.given i));
      wrote = c.list_siblings-n.ensures.wrote;
    }
