-- Where a record stands in a tree, and a tree as the bytes of a pool store it. Assumes nothing.
use Rattle.std.specs.Prelude.{List, [], ◌≡◌, ℕ, eqb, length}
use Rattle.avl.specs.Tree.{Dir, left, Bal, Tree, branch, top, list}
use Rattle.avl.specs.Way.{Way, plug}
use Rattle.avl.specs.Links.{Links, unlinked, links_in}
use Rattle.meaning.specs.Layout.{count, at}
use Rattle.meaning.specs.Pool.{root_of, count_of, left_in, right_in, parent_in, balance_in, tree_in, entries, records}

-- the record x stands in the tree: its part on side d, its balance, its part on the other side, and the way above it
pub record Stands (d : Dir) (x : ℕ) (tree : Tree) : Type 0 where
  pub near : Tree
  pub bal : Bal
  pub far : Tree
  pub way : Way
  pub is : tree ≡ plug way (branch d near x bal far)

-- a record's 32 bytes say its tree, its links and its balance
pub record StoredLinks (row : List ℕ) (t : ℕ) (k : Links) : Type 0 where
  pub tree_is : tree_in row ≡ t
  pub left_is : left_in row ≡ k.left
  pub right_is : right_in row ≡ k.right
  pub parent_is : parent_in row ≡ k.parent
  pub balance_is : balance_in row ≡ k.balance

-- the bytes of a pool store the tree u as tree t: the root and the count in its entry, and in the record of each slot of u the links and the balance of
-- its place there
pub record StoredTree (pool : List ℕ) (t : ℕ) (u : Tree) : Type 0 where
  pub root : root_of (at [] (entries pool) t) ≡ top u
  pub many : count_of (at [] (entries pool) t) ≡ length (list left u)
  pub rows : (x : ℕ) → count (eqb x) (list left u) ≡ 1 → StoredLinks (at [] (records pool) x) t (links_in u 0 x unlinked)
