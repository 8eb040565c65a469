-- `walk::check_tree` meets its contract: the walk from the root, and its end.
use mathlib.Core.Path.{◌≡◌}
use mathlib.Core.List.{◌++◌}
use borrow.Author.Rules.{rules}
use lib.ListN.{drop}
use Rattle.tree.specs.Header.{capacity_of}
use Rattle.tree.specs.Check.{zeroed}
use Rattle.walk.proofs.Checks.{cleared, least, some_levels, first_ready, tree_stops, tree_ends}
use Rattle.walk.proofs.Walks.{goes_on}
use Rattle.walk.proofs.walking.check_tree.Goals as goal
use Rattle.walk.proofs.walking.check_tree.Goals.{After-fill}

pub bounds-pool : goal.bounds-pool
bounds-pool c = let long = least c.requires in search rules

pub bounds-pool-2 : goal.bounds-pool-2
bounds-pool-2 c = let long = least c.requires in search rules

pub bounds-pool-3 : goal.bounds-pool-3
bounds-pool-3 c = let long = least c.requires in search rules

pub overflow_sub-levels : goal.overflow_sub-levels
overflow_sub-levels c = some_levels c.requires

-- the first bytes, filled
zeros : (c : After-fill) → c.fill.new.self ++ drop (capacity_of c.args.pool.now) c.args.marks.now
    ≡ zeroed (capacity_of c.args.pool.now) c.args.marks.now
zeros c = cleared _ _ c.requires.marks_in (c.fill.ensures.after (λ y e. e))

pub check_node-requires : goal.check_node-requires
check_node-requires c = first_ready c.requires (zeros (goal.at.check_node-requires c).After-fill)

pub returns-in-Err : goal.returns-in-Err
returns-in-Err c =
    let end = tree_stops c.requires (zeros (goal.at.returns-in-Err c).After-fill) c.in-Err.ensures in
    record { answer = end.0; marks = end.1 }

pub returns-in-Ok : goal.returns-in-Ok
returns-in-Ok c =
    let end = tree_ends c.requires (zeros (goal.at.returns-in-Ok c).After-fill) c.in-Ok.ensures c.check_end.ensures in
    record { answer = end.0; marks = end.1 }
