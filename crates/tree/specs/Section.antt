-- A model: the form in which the code holds what `meaning` and `avl` speak of. No door's promise cites it, and it need not be believed.
-- The records of a pool as bytes: for each slot its key, its links, and what else it holds. Assumes nothing.
use Rattle.std.specs.Prelude.{ℕ, zero, suc, List, [], ◌++◌}
use Rattle.fields.specs.Number.{digits}
use Rattle.avl.specs.Tree.{Tree}
use Rattle.avl.specs.Links.{Links, links_in}

-- what a record holds besides its links: its key, and the 17 bytes after them
pub record Cargo : Type 0 where
  pub key : ℕ
  pub rest : List ℕ

unfoldable pub row : Links → Cargo → List ℕ
row k c = digits 8 c.key ++ (digits 2 k.left ++ (digits 2 k.right ++ (digits 2 k.parent ++ (digits 1 k.balance ++ c.rest))))

-- the records of so many slots, from slot x on
unfoldable pub rows_from : (ℕ → Links) → (ℕ → Cargo) → ℕ → ℕ → List ℕ
rows_from k c x zero = []
rows_from k c x (suc n) = row (k x) (c x) ++ rows_from k c (suc x) n

-- of the slots 1 to N
abbrev pub section : (ℕ → Links) → (ℕ → Cargo) → ℕ → List ℕ
section k c N = rows_from k c 1 N

-- the records of the slots 1 to N that hold the tree t, with the links k wherever t has none, and what follows them
unfoldable pub holding : Tree → (ℕ → Links) → (ℕ → Cargo) → ℕ → List ℕ → List ℕ
holding t k c N tail = section (λ x. links_in t 0 x (k x)) c N ++ tail
