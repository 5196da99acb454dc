-- The way up from a place in a tree to its root, as the climbs over parent links go: the innermost step first. A place holds any tree, an empty
-- one too. Assumes nothing.
use Rattle.std.specs.Prelude.{List, [], ◌∷◌, ◌++◌, ℕ, suc}
use Rattle.avl.specs.Tree.{Dir, right, alike, Bal, Tree, branch, list}

-- at the root; or on side d of the record s, of balance b, that has the part z on its other side and stands at the rest of the way
pub data Way : Type 0 where
  root : Way
  step : Dir → ℕ → Bal → Tree → Way → Way

-- the whole tree, with t at the place
unfoldable pub plug : Way → Tree → Tree
plug root t = t
plug (step d s b z p) t = plug p (branch d t s b z)

-- the slot above the place, 0 at the root
abbrev pub above : Way → ℕ
above root = 0
above (step d s b z p) = s

-- the side on which the place hangs; right at the root, as `entry` has it for an empty tree
abbrev pub side : Way → Dir
side root = right
side (step d s b z p) = d

-- how many records stand above the place
unfoldable pub depth : Way → ℕ
depth root = 0
depth (step d s b z p) = suc (depth p)

-- what the list that begins on side e has before the place, and after it
unfoldable pub before : Dir → Way → List ℕ
before e root = []
before e (step d s b z p) = alike e d (before e p) (before e p ++ (list e z ++ (s ∷ [])))

unfoldable pub after : Dir → Way → List ℕ
after e root = []
after e (step d s b z p) = alike e d ((s ∷ list e z) ++ after e p) (after e p)
