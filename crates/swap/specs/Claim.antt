-- The words in which the Rust's removal is compared with ours. Assumes nothing.
use Rattle.std.specs.Prelude.{List, ◌≡◌, ℕ, ◌≤◌}
use Rattle.avl.specs.Tree.{Tree, height, Balanced}
use Rattle.tree.specs.Walk.{levels}
use Rattle.tree.specs.Rotate.{Store}
use Rattle.tree.specs.Remove.{remove_n}
use Rattle.tree.specs.Held.{over, times, Roomy, Fits}
use Rattle.tree.specs.declared.node.AvlTree.{AvlTree}

-- The bytes have room for records 1 to N, of which there are 1,024 at most, and hold the tree: it is balanced, its slots are from 1 to N, each once,
-- and its links and balances stand in the bytes. What else stands there is whatever it is: keys, names, other trees.
pub record Hold (N : ℕ) (bytes : List ℕ) (t : Tree) : Type 0 where
  pub below : List ℕ
  pub roomy : Roomy N below
  pub each_once : Fits N t
  pub balanced : Balanced t
  pub links : over t 0 below ≡ bytes

-- The tree has the record x.
pub record Has (t : Tree) (x : ℕ) : Type 0 where
  pub stands : 1 ≤ times x t

-- So many turns of a loop reach over all levels of the tree. The Rust's loops have no limit: any such number will do for them.
pub record Enough (turns : ℕ) (t : Tree) : Type 0 where
  pub levels_in : height t ≤ turns

-- Our removal: what the code's `remove` is proved to leave, tree/src/remove.rt.
unfoldable pub our_remove : List ℕ → AvlTree → ℕ → Store
our_remove bytes tree x = remove_n levels bytes tree x
