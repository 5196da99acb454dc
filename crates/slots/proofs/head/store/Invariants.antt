-- `store`: the entries from here on lead where all of them lead from the start.
use Rattle.std.proofs.Common.{◌≡◌, drop}
use Rattle.slots.specs.Head.{put_table_n}
use Rattle.slots.proofs.head.store.Given as goal

abbrev pub invariant-loop-i : goal.invariant-loop-i
invariant-loop-i l = put_table_n l.pool l.n.trees l.i (drop l.i l.fn.h.table) ≡ put_table_n l.initial.pool l.n.trees 0 l.fn.h.table
