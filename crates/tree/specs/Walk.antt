-- A model: what the code computes. No door's promise cites it, and it need not be believed.
-- bottom_child and _walk_dir on record bytes, with the height as the limit of every loop. Assumes nothing.
use Rattle.std.specs.Prelude.{ℕ, zero, suc, cond, List, ◌==◌}
use Rattle.avl.specs.Tree.{Dir, flip, alike}
use Rattle.tree.specs.Node.{child, parent, get_n, side_n}

-- a tree of 1,024 records has at most so many levels: `levels_14` of `avl`
abbrev pub levels : ℕ
levels = 14

-- the last record on side d, from s on
unfoldable pub bottom_n : ℕ → List ℕ → ℕ → Dir → ℕ
bottom_n zero m s d = s
bottom_n (suc k) m s d =
    let c = get_n m s (child d) in
    let r = bottom_n k m c d in
    cond (c == 0) s r

-- up from p, reached from its side e: the first record that lies in the direction d
unfoldable pub up_n : ℕ → List ℕ → ℕ → Dir → Dir → ℕ
up_n zero m p e d = 0
up_n (suc k) m p e d =
    let q = get_n m p parent in
    let r = up_n k m q (side_n m q p) d in
    cond (p == 0) 0 (alike d e r p)

unfoldable pub walk_n : ℕ → List ℕ → ℕ → Dir → ℕ
walk_n k m s d =
    let c = get_n m s (child d) in
    let p = get_n m s parent in
    let down = bottom_n k m c (flip d) in
    let up = up_n k m p (side_n m p s) d in
    cond (c == 0) up down
