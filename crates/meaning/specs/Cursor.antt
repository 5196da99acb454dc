-- The cursor, as docs/REFERENCE.md has it in section 7, and which record a command means. Assumes nothing.
use Rattle.std.specs.Prelude.{Bool, cond, List, ℕ}
use Rattle.std.proofs.Math.Option.{Option, none, some}
use Rattle.avl.specs.Tree.{Dir, flip, alike, Tree, leaf, node, list}
use Rattle.avl.specs.Way.{Way, above, side}
use Rattle.avl.specs.Search.{Spot, get, entry}
use Rattle.avl.specs.Order.{first}
use Rattle.meaning.specs.Layout.{within, following}
use Rattle.meaning.specs.Pool.{Pool, tree_at}
use Rattle.meaning.specs.Change.{Mark, by_key_in}

-- A command as it is read from a batch: its name's bytes, and whether they are 1 to 255 within the names
pub record Command : Type 0 where
  pub op : ℕ
  pub tree : ℕ
  pub slot : ℕ
  pub stamp : ℕ
  pub key : ℕ
  pub name : List ℕ
  pub named : Bool

-- The cursor: none; occupied, at a record; vacant, with the record that it hangs on, the side and the key; first and last entry. Each with its
-- tree; the record is 0 on an empty tree
pub data Cursor : Type 0 where
  nowhere : Cursor
  occupied : ℕ → ℕ → Cursor
  vacant : ℕ → ℕ → Dir → ℕ → Cursor
  first_entry : ℕ → ℕ → Cursor
  last_entry : ℕ → ℕ → Cursor

-- what a batch carries from one command to the next
pub record State : Type 0 where
  pub pool : Pool
  pub cursor : Cursor
  pub mark : Option Mark

-- ---- the cursor's parts

unfoldable pub kind : Cursor → ℕ
kind nowhere = 0
kind (occupied t x) = 1
kind (vacant t x d k) = 2
kind (first_entry t x) = 3
kind (last_entry t x) = 4

unfoldable pub cursor_tree : Cursor → ℕ
cursor_tree nowhere = 0
cursor_tree (occupied t x) = t
cursor_tree (vacant t x d k) = t
cursor_tree (first_entry t x) = t
cursor_tree (last_entry t x) = t

-- the record that it is at, 0 for none
unfoldable pub standing : Cursor → ℕ
standing nowhere = 0
standing (occupied t x) = x
standing (vacant t x d k) = 0
standing (first_entry t x) = x
standing (last_entry t x) = x

unfoldable pub entry_key : Cursor → Option ℕ
entry_key nowhere = none
entry_key (occupied t x) = none
entry_key (vacant t x d k) = some k
entry_key (first_entry t x) = none
entry_key (last_entry t x) = none

-- ops 1 to 11 name their tree, the others use the cursor's
unfoldable pub tree_of : State → Command → ℕ
tree_of s c = cond (within 1 11 c.op) c.tree (cursor_tree s.cursor)

-- ---- which record a command means: its slot, 0 for none

abbrev pub Meant : Type 0
Meant = State → Command → ℕ

unfoldable pub no_record : Meant
no_record s c = 0

unfoldable pub with_key : Meant
with_key s c = get (by_key_in s.pool c.key) (tree_at s.pool c.tree)

unfoldable pub of_handle : Meant
of_handle s c = c.slot

unfoldable pub at_cursor : Meant
at_cursor s c = standing s.cursor

-- where the search for the key ends, and the record with the key, or else the one that the key would hang on
unfoldable pub entry_of : State → Command → Spot
entry_of s c = entry (by_key_in s.pool c.key) (tree_at s.pool c.tree)

unfoldable pub or_nearest : Tree → Way → ℕ
or_nearest leaf p = above p
or_nearest (node l x b r) p = x

unfoldable pub nearest : Meant
nearest s c = let f = entry_of s c in or_nearest f.part f.way

-- the first record of the tree from side d
unfoldable pub first_from : Dir → Meant
first_from d s c = first (list d (tree_at s.pool c.tree))

-- the record that follows x in tree t in the direction d
unfoldable pub beyond : Dir → Pool → ℕ → ℕ → ℕ
beyond d p t x = following x (list (flip d) (tree_at p t))

unfoldable pub next_of_handle : Dir → Meant
next_of_handle d s c = beyond d s.pool c.tree c.slot

-- on a vacant entry hung to the right the node is the previous record, hung to the left the next one
unfoldable pub next_of : Dir → Pool → Cursor → ℕ
next_of d p nowhere = 0
next_of d p (occupied t x) = beyond d p t x
next_of d p (vacant t x e k) = alike d e (beyond d p t x) x
next_of d p (first_entry t x) = beyond d p t x
next_of d p (last_entry t x) = beyond d p t x

unfoldable pub next_of_cursor : Dir → Meant
next_of_cursor d s c = next_of d s.pool s.cursor

-- ---- where the cursor is after a command, from the record shown

abbrev pub Then : Type 0
Then = State → Command → ℕ → Cursor

unfoldable pub gone : Then
gone s c x = nowhere

unfoldable pub kept : Then
kept s c x = s.cursor

unfoldable pub at_shown : Then
at_shown s c x = occupied (tree_of s c) x

unfoldable pub where_it_stood : Then
where_it_stood s c x = occupied (tree_of s c) (standing s.cursor)

unfoldable pub at_first : Then
at_first s c x = first_entry (tree_of s c) x

unfoldable pub at_last : Then
at_last s c x = last_entry (tree_of s c) x

-- `entry`: occupied at the record with the key, or vacant; on an empty tree the side is right
unfoldable pub entered_at : ℕ → ℕ → Tree → Way → Cursor
entered_at t k leaf p = vacant t (above p) (side p) k
entered_at t k (node l x b r) p = occupied t x

unfoldable pub entered : Then
entered s c x = let f = entry_of s c in entered_at c.tree c.key f.part f.way

-- to unfold this is to unfold all of this file: for claims that compute
unfoldable pub opened : Unit {0}
unfolding kind cursor_tree standing entry_key tree_of no_record with_key of_handle at_cursor entry_of or_nearest nearest first_from beyond next_of_handle next_of next_of_cursor gone kept at_shown where_it_stood at_first at_last entered_at entered
opened = tt
