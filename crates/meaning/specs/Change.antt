-- What changes a pool: a record in or out of a slot and its tree, a name at the end of the text, reset, and a mark with what it undoes.
-- Assumes nothing.
use Rattle.std.specs.Prelude.{ℕ, suc, List, [], ◌∷◌, ◌++◌, map, length, take}
use Rattle.std.proofs.Math.Option.{Option, none, some}
use Prim.Native.Nat.{Ordering}
use Rattle.avl.specs.Tree.{Tree, leaf}
use Rattle.avl.specs.Search.{add, remove_by_key}
use Rattle.avl.specs.Order.{by_key}
use Rattle.meaning.specs.Layout.{put}
use Rattle.meaning.specs.Pool.{Rec, Pool, rec_at, tree_at, key_at}

-- the pool with other slots and trees, with other text, with another next stamp
unfoldable pub with_trees : Pool → List (Option Rec) → List Tree → Pool
with_trees p s t = record { slots = s; trees = t; text = p.text; size = p.size; next = p.next }

unfoldable pub with_text : Pool → List ℕ → Pool
with_text p x = record { slots = p.slots; trees = p.trees; text = x; size = p.size; next = p.next }

unfoldable pub with_next : Pool → ℕ → Pool
with_next p n = record { slots = p.slots; trees = p.trees; text = p.text; size = p.size; next = n }

-- the search for a key among the records of a pool
unfoldable pub by_key_in : Pool → ℕ → ℕ → Ordering
by_key_in p k = by_key (key_at p) k

-- ---- free slots

-- the lowest-numbered free slot from i on, 0 for none
unfoldable pub free_from : ℕ → List (Option Rec) → ℕ
free_from i [] = 0
free_from i (none ∷ xs) = i
free_from i (some r ∷ xs) = free_from (suc i) xs

unfoldable pub free_slot : Pool → ℕ
free_slot p = free_from 1 p.slots

-- ---- a record in a slot and in its tree, and out of both

unfoldable pub put_rec : ℕ → Rec → Pool → Pool
put_rec x r p = with_trees p (put p.slots x (some r)) (put p.trees r.tree (add (by_key_in p r.key) x (tree_at p r.tree)))

-- a removal frees the slot and leaves the text
unfoldable pub drop_rec : ℕ → Rec → Pool → Pool
drop_rec x r p = with_trees p (put p.slots x none) (put p.trees r.tree (remove_by_key (by_key_in p r.key) (tree_at p r.tree)))

-- each add takes the lowest-numbered free slot, the next stamp, which rises by one, and appends its name at text used
unfoldable pub new_rec : ℕ → ℕ → List ℕ → Pool → Rec
new_rec t k name p = record { tree = t; key = k; stamp = p.next; start = length p.text; len = length name }

unfoldable pub add_rec : ℕ → ℕ → List ℕ → Pool → Pool
add_rec t k name p = put_rec (free_slot p) (new_rec t k name p) (with_next (with_text p (p.text ++ name)) (suc p.next))

-- reset frees every record, empties every tree and the text, and keeps the next stamp
unfoldable pub emptied : Pool → Pool
emptied p = with_text (with_trees p (map (λ _. none) p.slots) (map (λ _. leaf) p.trees)) []

-- ---- marks

-- what the journal keeps: a record was added to a slot, or this record was removed from it
pub data Change : Type 0 where
  added : ℕ → Change
  removed : ℕ → Rec → Change

-- an open mark: text used when it was opened, and the changes since, the last first
pub record Mark : Type 0 where
  pub used : ℕ
  pub changes : List Change

-- an added record is undone by the removal, a removed one goes back into its slot with its stamp and name
unfoldable pub undo_add : ℕ → Option Rec → Pool → Pool
undo_add x none p = p
undo_add x (some r) p = drop_rec x r p

unfoldable pub undo : List Change → Pool → Pool
undo [] p = p
undo (added x ∷ cs) p = undo cs (undo_add x (rec_at p x) p)
undo (removed x r ∷ cs) p = undo cs (put_rec x r p)

-- text used returns, and the next stamp stays
unfoldable pub rollback : Mark → Pool → Pool
rollback m p = let q = undo m.changes p in with_text q (take m.used q.text)

-- a mark open or not: opened, kept up to date, rolled back
unfoldable pub opening : Pool → Mark
opening p = record { used = length p.text; changes = [] }

unfoldable pub noted : Change → Option Mark → Option Mark
noted c none = none
noted c (some m) = some (record { used = m.used; changes = c ∷ m.changes })

unfoldable pub rolled_back : Option Mark → Pool → Pool
rolled_back none p = p
rolled_back (some m) p = rollback m p

-- to unfold this is to unfold all of this file: for claims that compute
unfoldable pub opened : Unit {0}
unfolding with_trees with_text with_next by_key_in free_from free_slot put_rec drop_rec new_rec add_rec emptied undo_add undo rollback opening noted rolled_back
opened = tt
