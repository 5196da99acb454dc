-- The search of `get`, `entry`, `add` and `remove_by_key`, and the walk to a neighbour. Assumes nothing.
use Rattle.std.specs.Prelude.{ℕ, suc, ◌+◌}
use Prim.Native.Nat.{Ordering}
use Rattle.avl.specs.Tree.{Dir, left, right, flip, alike, Tree, leaf, node, top}
use Rattle.avl.specs.Way.{Way, root, step, depth}
use Rattle.avl.specs.Edit.{insert, remove, bottom_child}

-- a place with what stands there: where a search ends
pub record Spot : Type 0 where
  pub part : Tree
  pub way : Way

abbrev pub three {ℓ} : {A : Type ℓ} → Ordering → A → A → A → A
three Ordering.lt a b c = a
three Ordering.eq a b c = b
three Ordering.gt a b c = c

-- what a comparison says of a slot if what is sought lies on side d of it
abbrev pub toward : Dir → Ordering
toward left = Ordering.lt
toward right = Ordering.gt

-- down from t, which stands at p: `cmp` says of a slot whether what is sought comes before it, is there, or comes after it
unfoldable pub seek : (ℕ → Ordering) → Tree → Way → Spot
seek cmp leaf p = record { part = leaf; way = p }
seek cmp (node l s b r) p =
    three (cmp s) (seek cmp l (step left s b r p)) (record { part = node l s b r; way = p }) (seek cmp r (step right s b l p))

-- entry: the place where the search from the root ends, vacant if its part is empty
unfoldable pub entry : (ℕ → Ordering) → Tree → Spot
entry cmp t = seek cmp t root

-- get: the slot found, 0 for none
unfoldable pub get : (ℕ → Ordering) → Tree → ℕ
get cmp t = top (entry cmp t).part

-- the records from the root to where a search ended, the one found included
abbrev pub one : Tree → ℕ
one leaf = 0
one (node l s b r) = 1

unfoldable pub on_the_way : Spot → ℕ
on_the_way f = depth f.way + one f.part

-- how many keys the search compares
unfoldable pub compared : (ℕ → Ordering) → Tree → ℕ
compared cmp leaf = 0
compared cmp (node l s b r) = suc (three (cmp s) (compared cmp l) 0 (compared cmp r))

-- add: the record x at the vacant place; a tree that has what is sought stays
abbrev pub added : Tree → Way → ℕ → Tree → Tree
added leaf p x t = insert p x
added (node l s b r) p x t = t

unfoldable pub add : (ℕ → Ordering) → ℕ → Tree → Tree
add cmp x t = let f = entry cmp t in added f.part f.way x t

-- remove_by_key: the record found goes; a tree without it stays
abbrev pub taking : Tree → Way → Tree → Tree
taking leaf p t = t
taking (node l s b r) p t = remove l b r p

unfoldable pub remove_by_key : (ℕ → Ordering) → Tree → Tree
remove_by_key cmp t = let f = entry cmp t in taking f.part f.way t

-- _walk_dir, upwards: the nearest record above the place in the direction d, 0 for none
unfoldable pub upwards : Dir → Way → ℕ
upwards d root = 0
upwards d (step e s b z p) = alike d e (upwards d p) s

-- _walk_dir: the neighbour in the direction d of the record at p that has the part a on that side, 0 for none
unfoldable pub walk_dir : Dir → Tree → Way → ℕ
walk_dir d leaf p = upwards d p
walk_dir d (node l s b r) p = bottom_child (flip d) (node l s b r)
