-- The links that a tree gives to its records, as a record stores them. Assumes nothing.
use Rattle.std.specs.Prelude.{cond, ℕ, eqb}
use Rattle.avl.specs.Tree.{code, Tree, leaf, node, top}

-- left, right, parent and balance
pub record Links : Type 0 where
  pub left : ℕ
  pub right : ℕ
  pub parent : ℕ
  pub balance : ℕ

abbrev pub unlinked : Links
unlinked = record { left = 0; right = 0; parent = 0; balance = 0 }

-- the links of slot x in a tree that hangs below the record u, or k if it is not there
unfoldable pub links_in : Tree → ℕ → ℕ → Links → Links
links_in leaf u x k = k
links_in (node l s b r) u x k =
    cond (eqb x s) (record { left = top l; right = top r; parent = u; balance = code b }) (links_in l s x (links_in r s x k))
