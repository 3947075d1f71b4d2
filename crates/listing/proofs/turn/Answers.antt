use Rattle.tables.proofs.WorkLaws.{wrote_two}
use Rattle.directory.specs.Listed.{count_of, entries_of}
use Rattle.directory.proofs.Places.{placed}
use Rattle.listing.specs.Walks.{Turning}
use Rattle.listing.proofs.Turns.{turn_named, right_sound, right_room, right_listed, below_sound, below_room, turn_done}
use Rattle.listing.proofs.turn.Goals as goal
use Rattle.listing.proofs.turn.Goals.{After-pair_at-q}

-- the pair that is read, whose entry can be taken off
turning : (c : After-pair_at-q) → let p = c.args in let q = c.pair_at-q.result in
    Turning (entries_of p.d p.img.now) (count_of p.d) p.k q.entry.0 q.parent
turning c = rw (c.pair_at-q.ensures.0, c.pair_at-q.ensures.1) c.requires.turning

pub place-requires : goal.place-requires
place-requires c = placed c.requires.directory_listed _ (turning (goal.at.place-requires c).After-pair_at-q).stands.inside

pub path_length-path-requires : goal.path_length-path-requires
path_length-path-requires c = record { named_at = turn_named c.requires.directory_listed (turning (goal.at.path_length-path-requires c).After-pair_at-q) c.requires.img_value _ c.place.ensures; parent_bound = (turning (goal.at.path_length-path-requires c).After-pair_at-q).fits }

pub push-n-requires : goal.push-n-requires
push-n-requires c = let r = c.right_of-right.ensures in record { directory_listed = c.requires.directory_listed; d_bound = c.requires.d_bound; x_value = right_sound c.requires.directory_listed (turning (goal.at.push-n-requires c).After-pair_at-q) c.requires.d_bound r; x_bound = right_room c.requires.directory_listed (turning (goal.at.push-n-requires c).After-pair_at-q) c.requires.d_bound r }

pub push-requires : goal.push-requires
push-requires c =
    let r = c.right_of-right.ensures in
    let b = c.child_of-child.ensures in
    let t = (turning (goal.at.push-requires c).After-pair_at-q) in
    let a = c.requires.d_bound in record { directory_listed = right_listed c.requires.directory_listed t a r _ c.push-n.ensures.stack c.push-n.ensures.wrote; d_bound = a; x_value = below_sound c.requires.directory_listed t a r _ c.push-n.ensures.stack c.push-n.ensures.wrote b; x_bound = below_room c.requires.directory_listed t a r _ c.push-n.ensures.stack c.push-n.ensures.wrote b }

pub returns : goal.returns
returns c =
    let r = c.right_of-right.ensures in
    let b = c.child_of-child.ensures in record { stack = rw (← c.pair_at-q.ensures.0, ← c.pair_at-q.ensures.1) (turn_done c.requires.directory_listed (turning (goal.at.returns c).After-pair_at-q) c.requires.d_bound r _ c.push-n.ensures.stack c.push-n.ensures.wrote b c.place.ensures c.path_length-path.ensures c.push.ensures.stack); wrote = wrote_two c.push-n.ensures.wrote c.push.ensures.wrote }
