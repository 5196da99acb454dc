-- `rotate`, and the climbs of `_insert` and `_post_remove`: one climb over a step. Assumes nothing.
--
-- Side d of the record s is two higher than z. Its child there is c, with the outer part a and the inner part w.
--
--   single, c higher on side d, or level          double, c higher on the other side: g is the top of w, with the parts u and v
--
--          s                c                            s                   g
--         / \              / \                          / \                /   \
--        c   z     →      a   s                        c   z      →       c     s
--       / \                  / \                      / \                / \   / \
--      a   w                w   z                    a   g              a   u v   z
--                                                       / \
--                                                      u   v
use Rattle.std.specs.Prelude.{ℕ}
use Rattle.avl.specs.Tree.{Dir, flip, pick, Bal, even, heavy, Lean, level, near, far, seen, lean, Tree, leaf, node, branch}
use Rattle.avl.specs.Way.{Way, root, step, plug}

-- what a step of a climb leaves at its place, and whether the climb stops there or goes on above it
pub data Climb : Type 0 where
  stop on : Tree → Climb

abbrev pub tree : Climb → Tree
tree (stop t) = t
tree (on t) = t

abbrev pub then {ℓ} : {A : Type ℓ} → Climb → (Tree → A) → (Tree → A) → A
then (stop t) f g = f t
then (on t) f g = g t

-- rotate's two new balances in the double rotation: of the child and of s, by the balance of g
abbrev pub child_bal : Dir → Bal → Bal
child_bal d b = lean (seen d b) even even (heavy d)

abbrev pub node_bal : Dir → Bal → Bal
node_bal d b = lean (seen d b) even (heavy (flip d)) even

-- where there is nothing to rotate, the tree stays
unfoldable pub double : Dir → Tree → ℕ → Tree → ℕ → Tree → Climb
double d a c leaf s z = stop (branch d (branch d a c (heavy (flip d)) leaf) s (heavy d) z)
double d a c (node l g b r) s z = on (branch d (branch d a c (child_bal d b) (pick d l r)) g even (branch d (pick d r l) s (node_bal d b) z))

-- by the child's balance; a rotation over a level child leaves the height as it was and both balances uneven
unfoldable pub turn : Lean → Dir → Tree → ℕ → Tree → ℕ → Tree → Climb
turn level d a c w s z = stop (branch d a c (heavy (flip d)) (branch d w s (heavy d) z))
turn near d a c w s z = on (branch d a c even (branch d w s even z))
turn far d a c w s z = double d a c w s z

unfoldable pub rotate : Dir → Tree → ℕ → Tree → Climb
rotate d leaf s z = stop (branch d leaf s (heavy d) z)
rotate d (node l c b r) s z = turn (seen d b) d (pick d l r) c (pick d r l) s z

-- one step of the loop in `_insert`: t, on side d of s, has become one higher
unfoldable pub grown : Lean → Dir → ℕ → Tree → Tree → Climb
grown level d s z t = on (branch d t s (heavy d) z)
grown near d s z t = stop (tree (rotate d t s z))
grown far d s z t = stop (branch d t s even z)

-- one step of the loop in `_post_remove`: t, on side d of s, has become one lower
unfoldable pub shrunk : Lean → Dir → ℕ → Tree → Tree → Climb
shrunk level d s z t = stop (branch d t s (heavy (flip d)) z)
shrunk near d s z t = on (branch d t s even z)
shrunk far d s z t = rotate (flip d) z s t

-- the loop: step by step until one stops or the root is reached
unfoldable pub climb : (Lean → Dir → ℕ → Tree → Tree → Climb) → Way → Tree → Tree
climb f root t = t
climb f (step d s b z p) t = then (f (seen d b) d s z t) (plug p) (climb f p)
