-- Shapes as docs/REFERENCE.md writes them, and its cases P1 to P6 at the level of trees, as one table and one claim. Assumes nothing.
use Rattle.std.proofs.Common.{◌≡◌, ℕ, List, [], ◌∷◌, ◌++◌, refl}
use Rattle.avl.specs.Tree.{code, Tree, leaf, node, branch}
use Rattle.avl.specs.Way.{plug}
use Rattle.avl.specs.Rotate.{double, turn, rotate, grown, shrunk, climb}
use Rattle.avl.specs.Edit.{insert, end, bottom_child, replace, remove}
use Rattle.avl.specs.Search.{seek, entry, add, remove_by_key}
use Rattle.avl.specs.Order.{by_key}

-- from the top, the left part before the right one: a record's key and the balance that it stores, and 0 for a missing child
abbrev pub shape : Tree → List ℕ
shape leaf = 0 ∷ []
shape (node l s b r) = s ∷ code b ∷ (shape l ++ shape r)

-- the keys added in turn to an empty tree, those then removed in turn, and the shape of the tree that is left
pub data Run : Type 0 where
  run : List ℕ → List ℕ → List ℕ → Run

-- a slot's number is its key
abbrev pub adds : List ℕ → Tree → Tree
adds [] t = t
adds (k ∷ ks) t = adds ks (add (by_key (λ s. s) k) k t)

abbrev pub removes : List ℕ → Tree → Tree
removes [] t = t
removes (k ∷ ks) t = removes ks (remove_by_key (by_key (λ s. s) k) t)

abbrev pub computed : List Run → List (List ℕ)
computed [] = []
computed (run a r w ∷ rs) = shape (removes r (adds a leaf)) ∷ computed rs

abbrev pub expected : List Run → List (List ℕ)
expected [] = []
expected (run a r w ∷ rs) = w ∷ expected rs

-- P1 to P6: 2(0) 1(0) 3(0), and so on
abbrev cases : List Run
cases =
    run (1 ∷ 2 ∷ 3 ∷ []) [] (2 ∷ 0 ∷ 1 ∷ 0 ∷ 0 ∷ 0 ∷ 3 ∷ 0 ∷ 0 ∷ 0 ∷ []) ∷
    run (3 ∷ 1 ∷ 2 ∷ []) [] (2 ∷ 0 ∷ 1 ∷ 0 ∷ 0 ∷ 0 ∷ 3 ∷ 0 ∷ 0 ∷ 0 ∷ []) ∷
    run (2 ∷ 1 ∷ 4 ∷ 3 ∷ 5 ∷ []) (1 ∷ []) (4 ∷ 2 ∷ 2 ∷ 1 ∷ 0 ∷ 3 ∷ 0 ∷ 0 ∷ 0 ∷ 5 ∷ 0 ∷ 0 ∷ 0 ∷ []) ∷
    run (2 ∷ 1 ∷ 3 ∷ []) (2 ∷ []) (1 ∷ 1 ∷ 0 ∷ 3 ∷ 0 ∷ 0 ∷ 0 ∷ []) ∷
    run (2 ∷ 1 ∷ 3 ∷ 4 ∷ []) (2 ∷ []) (3 ∷ 0 ∷ 1 ∷ 0 ∷ 0 ∷ 0 ∷ 4 ∷ 0 ∷ 0 ∷ 0 ∷ []) ∷
    run (4 ∷ 2 ∷ 5 ∷ 1 ∷ 3 ∷ []) (4 ∷ []) (3 ∷ 2 ∷ 2 ∷ 2 ∷ 1 ∷ 0 ∷ 0 ∷ 0 ∷ 0 ∷ 5 ∷ 0 ∷ 0 ∷ 0 ∷ []) ∷
    []

pub shapes : computed cases ≡ expected cases
unfolding branch plug double turn rotate grown shrunk climb insert end bottom_child replace remove seek entry add remove_by_key
shapes = refl
