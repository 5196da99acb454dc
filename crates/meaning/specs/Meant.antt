-- What a pool means: for each tree the list of its records by rising key. Assumes nothing.
use Rattle.std.specs.Prelude.{Bool, true, false, cond, List, [], ◌∷◌, map, reverse, ℕ, zero, suc, ◌+◌, ltb, eqb, length}
use Rattle.std.proofs.Math.Option.{Option, none, some}
use Rattle.fields.specs.Part.{part}
use Rattle.avl.specs.Tree.{Dir, left, right, list}
use Rattle.meaning.specs.Layout.{answer_showing, answer_bare}
use Rattle.meaning.specs.Pool.{Rec, Pool, rec_at, tree_at}
use Rattle.meaning.specs.Change.{free_slot}
use Rattle.meaning.specs.Cursor.{Command, Cursor, nowhere, occupied, vacant, first_entry, last_entry, standing, cursor_tree}
use Rattle.meaning.specs.Command.{key_beyond, among}

-- a record as a reader sees it: its key, its handle (slot and stamp), and its name's place and bytes
pub record Entry : Type 0 where
  pub key : ℕ
  pub slot : ℕ
  pub stamp : ℕ
  pub start : ℕ
  pub name : List ℕ

unfoldable pub entry_for : List ℕ → ℕ → Option Rec → Entry
entry_for text x none = record { key = 0; slot = 0; stamp = 0; start = 0; name = [] }
entry_for text x (some r) = record { key = r.key; slot = x; stamp = r.stamp; start = r.start; name = part text r.start r.len }

-- the records of tree t, by rising key
unfoldable pub entries_of : Pool → ℕ → List Entry
entries_of p t = map (λ x. entry_for p.text x (rec_at p x)) (list left (tree_at p t))

-- ---- over a list of entries: what is found in it

-- the entry with the key k
unfoldable pub lookup : ℕ → List Entry → Option Entry
lookup k [] = none
lookup k (e ∷ l) = cond (eqb e.key k) (some e) (lookup k l)

-- the entry in slot x
unfoldable pub in_slot : ℕ → List Entry → Option Entry
in_slot x [] = none
in_slot x (e ∷ l) = cond (eqb x e.slot) (some e) (in_slot x l)

-- the first entry
unfoldable pub front : List Entry → Option Entry
front [] = none
front (e ∷ l) = some e

-- the entry that follows the one in slot x
unfoldable pub next_to : ℕ → List Entry → Option Entry
next_to x [] = none
next_to x (e ∷ l) = cond (eqb x e.slot) (front l) (next_to x l)

-- the list as one who goes in the direction d meets it: by rising keys to the right, by falling keys to the left
unfoldable pub facing : Dir → List Entry → List Entry
facing right l = l
facing left l = reverse l

-- the first entry whose key lies beyond k in the direction d
unfoldable pub first_past : Dir → ℕ → List Entry → Option Entry
first_past d k [] = none
first_past d k (e ∷ l) = cond (key_beyond d k e.key) (some e) (first_past d k l)

unfoldable pub is_none : Option Entry → Bool
is_none none = true
is_none (some e) = false

-- an entry's slot, 0 for none
unfoldable pub slot_of : Option Entry → ℕ
slot_of none = 0
slot_of (some e) = e.slot

-- the key k lies strictly on side d of an entry, if there is one
unfoldable pub on_side : Dir → ℕ → Option Entry → Bool
on_side d k none = true
on_side d k (some e) = key_beyond d e.key k

-- ---- what is changed in it

-- the list with the entry e at the place of its key
unfoldable pub insert_by_key : Entry → List Entry → List Entry
insert_by_key e [] = e ∷ []
insert_by_key e (f ∷ l) = cond (ltb e.key f.key) (e ∷ f ∷ l) (f ∷ insert_by_key e l)

-- the list without the entry in slot x
unfoldable pub without : ℕ → List Entry → List Entry
without x [] = []
without x (e ∷ l) = cond (eqb x e.slot) l (e ∷ without x l)

-- the entry that an add makes: the lowest free slot, the next stamp, the name at the end of the text
unfoldable pub new_entry : Pool → ℕ → List ℕ → Entry
new_entry p k name = record { key = k; slot = free_slot p; stamp = p.next; start = length p.text; name = name }

-- the number of all entries of the trees from t on, n of them
unfoldable pub total : Pool → ℕ → ℕ → ℕ
total p t zero = 0
total p t (suc n) = length (entries_of p t) + total p (suc t) n

-- ---- what an answer shows

-- the answer's bytes with an entry, if there is one
unfoldable pub shown : ℕ → ℕ → Option Entry → List ℕ
shown code k none = answer_bare code k
shown code k (some e) = answer_showing code k e.slot e.stamp e.key e.start (length e.name)

-- what Name hands back of an entry for the stamp g: its name if the stamp is the entry's
unfoldable pub name_in : ℕ → Option Entry → List ℕ
name_in g none = []
name_in g (some e) = cond (eqb e.stamp g) e.name []

-- ---- which entry an op means, from the lists of the trees, the cursor and the command alone

abbrev pub Sight : Type 0
Sight = (ℕ → List Entry) → Cursor → Command → Option Entry

unfoldable pub of_none : Sight
of_none L k c = none

unfoldable pub of_key : Sight
of_key L k c = lookup c.key (L c.tree)

unfoldable pub of_slot : Sight
of_slot L k c = in_slot c.slot (L c.tree)

unfoldable pub beside_slot : Dir → Sight
beside_slot d L k c = next_to c.slot (facing d (L c.tree))

-- the end from which one goes in the direction d: the first entry for right, the last for left
unfoldable pub end_of : Dir → Sight
end_of d L k c = front (facing d (L c.tree))

unfoldable pub of_cursor : Sight
of_cursor L k c = in_slot (standing k) (L (cursor_tree k))

-- beside a record the one that follows it, beside a vacant entry the first beyond its key
unfoldable pub beside_cursor : Dir → Sight
beside_cursor d L nowhere c = none
beside_cursor d L (occupied t x) c = next_to x (facing d (L t))
beside_cursor d L (vacant t x e k) c = first_past d k (facing d (L t))
beside_cursor d L (first_entry t x) c = next_to x (facing d (L t))
beside_cursor d L (last_entry t x) c = next_to x (facing d (L t))

-- op 9 is left out: what it shows of an absent key is not a matter of the list alone
unfoldable pub sights : List (ℕ × Sight)
sights =
    (2, of_key) ∷ (3, of_key) ∷ (4, of_slot) ∷ (5, beside_slot right) ∷ (6, beside_slot left)
    ∷ (7, end_of right) ∷ (8, end_of left) ∷ (10, end_of right) ∷ (11, end_of left)
    ∷ (12, beside_cursor right) ∷ (13, beside_cursor left) ∷ (14, beside_cursor right) ∷ (15, beside_cursor left)
    ∷ (21, of_cursor) ∷ (22, beside_cursor left) ∷ (23, beside_cursor right)
    ∷ []

unfoldable pub sight_in : List (ℕ × Sight) → ℕ → Sight
sight_in [] n = of_none
sight_in (o ∷ os) n = let rest = sight_in os n in cond (eqb o.0 n) o.1 rest

-- the ops that remove: by key, by handle, at the cursor, before it and behind it
abbrev pub removing : ℕ → Bool
removing n = among ((3, 4) ∷ (21, 23) ∷ []) n

-- the entry that a command means in a pool
unfoldable pub seen : Pool → Cursor → Command → Option Entry
seen p k c = sight_in sights c.op (entries_of p) k c

-- to unfold this is to unfold all of this file: for claims that compute
unfoldable pub opened : Unit {0}
unfolding entry_for entries_of lookup in_slot front next_to facing first_past is_none slot_of on_side insert_by_key without new_entry total shown name_in of_none of_key of_slot beside_slot end_of of_cursor beside_cursor sights sight_in seen
opened = tt
