-- The pool: a state, and its bytes as docs/REFERENCE.md lays them out. Assumes nothing.
use Rattle.std.specs.Prelude.{Bool, true, false, cond, List, [], ◌∷◌, map, ℕ, zero, suc, ◌+◌, ◌*◌, ◌-◌, eqb, length, take, drop, replicate}
use Rattle.std.proofs.Math.Option.{Option, none, some}
use Rattle.fields.specs.Number.{get_le}
use Rattle.avl.specs.Tree.{left, right, Bal, even, heavy, Tree, leaf, node, top, list}
use Rattle.avl.specs.Links.{Links, unlinked, links_in}
use Rattle.meaning.specs.Layout.{pack, rows, concat, count, at}

-- ---- the state

-- a live record: its tree, key and stamp, and where its name stands in the text
pub record Rec : Type 0 where
  pub tree : ℕ
  pub key : ℕ
  pub stamp : ℕ
  pub start : ℕ
  pub len : ℕ

-- the slots, none for a free one; the trees, of slot numbers; the text in use; the text's size X; the next stamp.
-- N and T are the lengths of the first two, text used that of the third
pub record Pool : Type 0 where
  pub slots : List (Option Rec)
  pub trees : List Tree
  pub text : List ℕ
  pub size : ℕ
  pub next : ℕ

-- slots and trees count from 1
unfoldable pub rec_at : Pool → ℕ → Option Rec
rec_at p x = at none p.slots x

unfoldable pub tree_at : Pool → ℕ → Tree
tree_at p t = at leaf p.trees t

unfoldable pub key_of : Option Rec → ℕ
key_of none = 0
key_of (some r) = r.key

unfoldable pub key_at : Pool → ℕ → ℕ
key_at p x = key_of (rec_at p x)

unfoldable pub is_live : Option Rec → Bool
is_live none = false
is_live (some r) = true

-- live, and in tree t
unfoldable pub lives_in : ℕ → Option Rec → Bool
lives_in t none = false
lives_in t (some r) = eqb r.tree t

unfoldable pub live_count : Pool → ℕ
live_count p = count is_live p.slots

-- ---- its bytes

-- the links of slot x, which are read off its tree
unfoldable pub links_at : Pool → ℕ → ℕ → Links
links_at p t x = links_in (tree_at p t) 0 x unlinked

unfoldable pub header_bytes : Pool → List ℕ
header_bytes p =
    let N = length p.slots in let T = length p.trees in
    pack ((2, 1) ∷ (2, N) ∷ (2, T) ∷ (2, live_count p) ∷ (4, 32) ∷ (4, 32 + 8 * T) ∷ (4, 32 + 8 * T + 32 * N)
    ∷ (4, p.size) ∷ (4, length p.text) ∷ (4, p.next) ∷ [])

unfoldable pub entry_bytes : Tree → List ℕ
entry_bytes t = pack ((2, top t) ∷ (2, length (list left t)) ∷ (4, 0) ∷ [])

unfoldable pub record_bytes : Pool → ℕ → Option Rec → List ℕ
record_bytes p x none = replicate 32 0
record_bytes p x (some r) =
    let k = links_at p r.tree x in
    pack ((8, r.key) ∷ (2, k.left) ∷ (2, k.right) ∷ (2, k.parent) ∷ (1, k.balance) ∷ (1, r.tree)
    ∷ (4, r.stamp) ∷ (4, r.start) ∷ (2, r.len) ∷ (6, 0) ∷ [])

-- the records of the slots from x on
unfoldable pub record_rows : Pool → ℕ → List (Option Rec) → List (List ℕ)
record_rows p x [] = []
record_rows p x (r ∷ rs) = record_bytes p x r ∷ record_rows p (suc x) rs

unfoldable pub bytes : Pool → List ℕ
bytes p =
    concat (header_bytes p ∷ concat (map entry_bytes p.trees) ∷ concat (record_rows p 1 p.slots) ∷ p.text
    ∷ replicate (p.size - length p.text) 0 ∷ [])

-- ---- its fields, each at its place: of the header

unfoldable pub edition : List ℕ → ℕ
edition b = get_le 2 b 0

unfoldable pub n_slots : List ℕ → ℕ
n_slots b = get_le 2 b 2

unfoldable pub n_trees : List ℕ → ℕ
n_trees b = get_le 2 b 4

unfoldable pub n_live : List ℕ → ℕ
n_live b = get_le 2 b 6

unfoldable pub at_entries : List ℕ → ℕ
at_entries b = get_le 4 b 8

unfoldable pub at_records : List ℕ → ℕ
at_records b = get_le 4 b 12

unfoldable pub at_text : List ℕ → ℕ
at_text b = get_le 4 b 16

unfoldable pub text_size : List ℕ → ℕ
text_size b = get_le 4 b 20

unfoldable pub text_used : List ℕ → ℕ
text_used b = get_le 4 b 24

unfoldable pub next_stamp : List ℕ → ℕ
next_stamp b = get_le 4 b 28

-- of a tree entry

unfoldable pub root_of : List ℕ → ℕ
root_of e = get_le 2 e 0

unfoldable pub count_of : List ℕ → ℕ
count_of e = get_le 2 e 2

-- of a record

unfoldable pub key_in : List ℕ → ℕ
key_in r = get_le 8 r 0

unfoldable pub left_in : List ℕ → ℕ
left_in r = get_le 2 r 8

unfoldable pub right_in : List ℕ → ℕ
right_in r = get_le 2 r 10

unfoldable pub parent_in : List ℕ → ℕ
parent_in r = get_le 2 r 12

unfoldable pub balance_in : List ℕ → ℕ
balance_in r = get_le 1 r 14

unfoldable pub tree_in : List ℕ → ℕ
tree_in r = get_le 1 r 15

unfoldable pub stamp_in : List ℕ → ℕ
stamp_in r = get_le 4 r 16

unfoldable pub start_in : List ℕ → ℕ
start_in r = get_le 4 r 20

unfoldable pub len_in : List ℕ → ℕ
len_in r = get_le 2 r 24

-- ---- the reading

-- the sections: tree entries, records, and the text with what is unused of it
unfoldable pub entries : List ℕ → List (List ℕ)
entries b = rows (n_trees b) 8 (drop 32 b)

unfoldable pub records : List ℕ → List (List ℕ)
records b = rows (n_slots b) 32 (drop (32 + 8 * n_trees b) b)

unfoldable pub text_of : List ℕ → List ℕ
text_of b = drop (32 + 8 * n_trees b + 32 * n_slots b) b

-- a record with tree 0 is free
unfoldable pub read_rec : List ℕ → Option Rec
read_rec r =
    cond (eqb (tree_in r) 0) none (some (record { tree = tree_in r; key = key_in r; stamp = stamp_in r; start = start_in r; len = len_in r }))

unfoldable pub decode : ℕ → Bal
decode zero = even
decode (suc zero) = heavy right
decode (suc (suc n)) = heavy left

-- the tree below slot x by the child links, down to so many levels
unfoldable pub read_tree : List (List ℕ) → ℕ → ℕ → Tree
read_tree rs zero x = leaf
read_tree rs (suc level) x =
    let r = at [] rs x in
    let t = node (read_tree rs level (left_in r)) x (decode (balance_in r)) (read_tree rs level (right_in r)) in
    cond (eqb x 0) leaf t

-- a tree has no more levels than the pool has slots
unfoldable pub read : List ℕ → Pool
read b =
    let rs = records b in
    record {
      slots = map read_rec rs;
      trees = map (λ e. read_tree rs (n_slots b) (root_of e)) (entries b);
      text = take (text_used b) (text_of b);
      size = text_size b;
      next = next_stamp b;
    }

-- to unfold this is to unfold all of this file: for claims that compute
unfoldable pub opened : Unit {0}
unfolding rec_at tree_at key_of key_at is_live lives_in live_count links_in links_at header_bytes entry_bytes record_bytes record_rows bytes edition n_slots n_trees n_live at_entries at_records at_text text_size text_used next_stamp root_of count_of key_in left_in right_in parent_in balance_in tree_in stamp_in start_in len_in entries records text_of read_rec decode read_tree read
opened = tt
