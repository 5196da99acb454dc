-- `_insert`, `_insert_here` and `_remove`. Assumes nothing.
use Rattle.std.specs.Prelude.{ℕ}
use Rattle.avl.specs.Tree.{Dir, left, flip, pick, Bal, even, heavy, Tree, leaf, node, single}
use Rattle.avl.specs.Way.{Way, root, step}
use Rattle.avl.specs.Rotate.{climb, grown, shrunk}

-- _insert: the record x at an empty place
unfoldable pub insert : Way → ℕ → Tree
insert p x = climb grown p (single x)

-- the empty place at the end of t on side e, where t stands at p
unfoldable pub edge : Dir → Tree → Way → Way
edge e leaf p = p
edge e (node l s b r) p = pick e (edge e l (step e s b r p)) (edge e r (step e s b l p))

-- _insert_here: the empty place next to the record s on side d, which has the part a there and z on its other side
unfoldable pub beside : Dir → Tree → ℕ → Bal → Tree → Way → Way
beside d a s b z p = edge (flip d) a (step d s b z p)

unfoldable pub insert_here : Dir → Tree → ℕ → Bal → Tree → Way → ℕ → Tree
insert_here d a s b z p x = insert (beside d a s b z p) x

-- the record at the end of a tree on one side: the way to it, its slot and balance, and its part on the other side
pub record End : Type 0 where
  pub way : Way
  pub slot : ℕ
  pub bal : Bal
  pub part : Tree

-- the end on side e below the record s, which has the part a there and z on its other side
unfoldable pub end : Dir → Tree → ℕ → Bal → Tree → Way → End
end e leaf s b z p = record { way = p; slot = s; bal = b; part = z }
end e (node l k c r) s b z p = pick e (end e l k c r (step e s b z p)) (end e r k c l (step e s b z p))

-- bottom_child: the slot at the end of a tree on side e, 0 for an empty tree
unfoldable pub bottom_child : Dir → Tree → ℕ
bottom_child e leaf = 0
bottom_child e (node l s b r) = (end e (pick e l r) s b (pick e r l) root).slot

-- the side from which a removed record with two parts is replaced: the right one only if it is higher
abbrev pub taken : Bal → Dir
taken even = left
taken (heavy d) = d

-- a record of balance b with the part t on side d and z on the other goes: its neighbour in t takes its place and balance, and the climb
-- begins where that neighbour stood
unfoldable pub replace : Dir → Tree → Bal → Tree → Way → Tree
replace d leaf b z p = leaf
replace d (node l s c r) b z p =
    let e = end (flip d) (pick d r l) s c (pick d l r) (step d (bottom_child (flip d) (node l s c r)) b z p) in
    climb shrunk e.way e.part

-- _remove: the record at p, of balance b, with the parts l and r, goes
unfoldable pub remove : Tree → Bal → Tree → Way → Tree
remove leaf b r p = climb shrunk p r
remove (node l s c k) b leaf p = climb shrunk p (node l s c k)
remove (node l s c k) b (node l₂ s₂ c₂ k₂) p =
    let d = taken b in
    replace d (pick d (node l s c k) (node l₂ s₂ c₂ k₂)) b (pick d (node l₂ s₂ c₂ k₂) (node l s c k)) p
