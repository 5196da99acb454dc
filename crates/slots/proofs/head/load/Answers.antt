-- `load`: the five fields and the eight entries.
use Rattle.slots.specs.Head.{no_tree, load_n, entry_n}
use Rattle.slots.proofs.HeadSteps.{table_read}
use Rattle.slots.proofs.head.load.Goals as goal
use Rattle.std.proofs.Common.{◌≡◌, ℕ, ◌<◌, get_or, rules}

pub returns : goal.returns
unfolding load_n
returns c = let e : (i : ℕ) → i < 8 → get_or c.from_fn.result i no_tree ≡ entry_n c.args.pool.now c.get-trees.result i = λ i h. search rules in cc (table_read _ _ _ c.from_fn.ensures.items.long e)
