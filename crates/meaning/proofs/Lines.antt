-- Batches written line by line, each command beside the answer that it is to have: the words of the claims that compute. Assumes nothing.
use Rattle.std.proofs.Common.{ℕ, suc, ◌+◌, ◌*◌, Bool, true, false, ◌&&◌, eqb, List, [], ◌∷◌, ◌++◌, length, replicate}
use Rattle.std.proofs.Math.Option.{Option, none, some}
use Rattle.fields.specs.Number.{value, digits, get_le}
use Rattle.fields.specs.Part.{part, zeros}
use Rattle.avl.specs.Tree.{branch, list, height, tilt}
use Rattle.avl.specs.Way.{plug}
use Rattle.avl.specs.Rotate.{double, turn, rotate, grown, shrunk, climb}
use Rattle.avl.specs.Edit.{insert, end, bottom_child, replace, remove as remove_at}
use Rattle.avl.specs.Search.{seek, entry as entry_at, get as get_by, add as add_by, remove_by_key as remove_by}
use Rattle.meaning.specs.Layout
use Rattle.meaning.specs.Layout.{pack, concat, span}
use Rattle.meaning.specs.Pool
use Rattle.meaning.specs.Sound
use Rattle.meaning.specs.Change
use Rattle.meaning.specs.Cursor
use Rattle.meaning.specs.Command
use Rattle.meaning.specs.Doors
use Rattle.meaning.specs.Doors.{create, Outcome, batch}
use Rattle.meaning.specs.Listing

-- ---- commands

-- a command; its name is `len` bytes of the names from `start` on, or from the place of its line on if there is no start
pub record Ask : Type 0 where
  pub op : ℕ
  pub tree : ℕ
  pub slot : ℕ
  pub stamp : ℕ
  pub key : ℕ
  pub start : Option ℕ
  pub len : ℕ

-- an op alone: 200 stands in the other fields, and a name that is too long, so that what an op does not use is never what it might want
abbrev pub op : ℕ → Ask
op o = record { op = o; tree = 200; slot = 200; stamp = 200; key = 200; start = some 200; len = 256 }

-- an op on tree 1; with a key; with a handle; with a key and a name, the letter of its line
abbrev pub treed : ℕ → Ask
treed o = record { op = o; tree = 1; slot = 200; stamp = 200; key = 200; start = some 200; len = 256 }

abbrev pub keyed : ℕ → ℕ → Ask
keyed o k = record { op = o; tree = 1; slot = 200; stamp = 200; key = k; start = some 200; len = 256 }

abbrev pub handled : ℕ → ℕ → ℕ → Ask
handled o x g = record { op = o; tree = 1; slot = x; stamp = g; key = 200; start = some 200; len = 256 }

abbrev pub adding : ℕ → ℕ → Ask
adding o k = record { op = o; tree = 1; slot = 200; stamp = 200; key = k; start = none; len = 1 }

-- a command with another tree; with another name
infixl 69 ◌in_tree◌
abbrev pub ◌in_tree◌ : Ask → ℕ → Ask
a in_tree t = record { op = a.op; tree = t; slot = a.slot; stamp = a.stamp; key = a.key; start = a.start; len = a.len }

infixl 69 ◌named◌long◌
abbrev pub ◌named◌long◌ : Ask → ℕ → ℕ → Ask
a named s long n = record { op = a.op; tree = a.tree; slot = a.slot; stamp = a.stamp; key = a.key; start = some s; len = n }

-- the ops by their names; those that take the cursor's tree are given a tree that there is not
abbrev pub add : ℕ → Ask
add k = adding 1 k

abbrev pub get : ℕ → Ask
get k = keyed 2 k

abbrev pub remove_by_key : ℕ → Ask
remove_by_key k = keyed 3 k

abbrev pub remove_handle : ℕ → ℕ → Ask
remove_handle x g = handled 4 x g

abbrev pub next : ℕ → ℕ → Ask
next x g = handled 5 x g

abbrev pub prev : ℕ → ℕ → Ask
prev x g = handled 6 x g

abbrev pub first : Ask
first = treed 7

abbrev pub last : Ask
last = treed 8

abbrev pub entry : ℕ → Ask
entry k = keyed 9 k

abbrev pub first_entry : Ask
first_entry = treed 10

abbrev pub last_entry : Ask
last_entry = treed 11

abbrev pub peek_next : Ask
peek_next = op 12

abbrev pub peek_prev : Ask
peek_prev = op 13

abbrev pub move_next : Ask
move_next = op 14

abbrev pub move_prev : Ask
move_prev = op 15

abbrev pub insert_before : ℕ → Ask
insert_before k = adding 16 k in_tree 200

abbrev pub insert_after : ℕ → Ask
insert_after k = adding 17 k in_tree 200

abbrev pub insert_before_move : ℕ → Ask
insert_before_move k = adding 18 k in_tree 200

abbrev pub insert_after_move : ℕ → Ask
insert_after_move k = adding 19 k in_tree 200

abbrev pub insert_node : ℕ → Ask
insert_node k = adding 20 k in_tree 200

abbrev pub remove : Ask
remove = op 21

abbrev pub remove_prev : Ask
remove_prev = op 22

abbrev pub remove_next : Ask
remove_next = op 23

abbrev pub append : ℕ → Ask
append k = adding 24 k in_tree 200

abbrev pub prepend : ℕ → Ask
prepend k = adding 25 k in_tree 200

abbrev pub mark : Ask
mark = op 26

abbrev pub rollback : Ask
rollback = op 27

abbrev pub commit : Ask
commit = op 28

abbrev pub reset : Ask
reset = op 29

-- ---- answers: all 24 bytes; the kind is the cursor's after the command

-- refused with a number
infix 70 refused◌kind◌
abbrev pub refused◌kind◌ : ℕ → ℕ → List ℕ
refused e kind k = pack ((1, e) ∷ (1, k) ∷ (22, 0) ∷ [])

-- done, and no record shown
infix 70 kind◌nothing
abbrev pub kind◌nothing : ℕ → List ℕ
kind k nothing = pack ((1, 0) ∷ (1, k) ∷ (22, 0) ∷ [])

-- done, and a record shown: slot, stamp, key, where in the text its name starts, and how long that is, if not one byte
infix 70 kind◌slot◌stamp◌key◌text◌long◌
abbrev pub kind◌slot◌stamp◌key◌text◌long◌ : ℕ → ℕ → ℕ → ℕ → ℕ → ℕ → List ℕ
kind k slot x stamp g key y text s long n =
    pack ((1, 0) ∷ (1, k) ∷ (2, x) ∷ (4, g) ∷ (8, y) ∷ (4, s) ∷ (2, n) ∷ (2, 0) ∷ [])

infix 70 kind◌slot◌stamp◌key◌text◌
abbrev pub kind◌slot◌stamp◌key◌text◌ : ℕ → ℕ → ℕ → ℕ → ℕ → List ℕ
kind k slot x stamp g key y text s = kind k slot x stamp g key y text s long 1

-- ---- lines and batches

-- a command and its answer
infix 68 ◌⇒◌
pub data Line : Type 0 where
  ◌⇒◌ : Ask → List ℕ → Line

-- adds to a fresh pool: slots and stamps from 1 on, names from the start of the text
unfoldable pub adds_from : ℕ → List ℕ → List Line
adds_from i [] = []
adds_from i (k ∷ ks) = add k ⇒ kind 0 slot suc i stamp suc i key k text i ∷ adds_from (suc i) ks

abbrev pub adds : List ℕ → List Line
adds ks = adds_from 0 ks

unfoldable pub placed : ℕ → Option ℕ → ℕ
placed i none = i
placed i (some s) = s

-- the commands of the lines from line i on; their last two bytes are not used
unfoldable pub asked : ℕ → List Line → List ℕ
asked i [] = []
asked i ((a ⇒ r) ∷ ls) =
    pack ((1, a.op) ∷ (1, a.tree) ∷ (2, a.slot) ∷ (4, a.stamp) ∷ (8, a.key) ∷ (4, placed i a.start) ∷ (2, a.len) ∷ (2, 200) ∷ [])
    ++ asked (suc i) ls

-- the answers that the lines are to have
unfoldable pub replies : List Line → List ℕ
replies [] = []
replies ((a ⇒ r) ∷ ls) = r ++ replies ls

-- the batch of the lines, with these bytes for its names
unfoldable pub batch_of : List Line → List ℕ → List ℕ
batch_of ls names =
    let C = length ls in
    concat (pack ((2, 1) ∷ (2, C) ∷ (4, 16) ∷ (4, 16 + 24 * C) ∷ (4, length names) ∷ []) ∷ asked 0 ls ∷ names ∷ [])

-- a, b, c, .. : a letter for each line
unfoldable pub letters : List Line → List ℕ
letters ls = span 97 (length ls)

-- a fresh pool, made in a buffer that held other bytes
unfoldable pub fresh : ℕ → ℕ → ℕ → List ℕ
fresh N T X = (create N T X (replicate (32 + 8 * T + 32 * N + X) 200)).buffer

-- what a batch does to a pool, with answers that held other bytes
unfoldable pub outcome : List ℕ → List ℕ → Outcome
outcome pool w = batch pool w (replicate (24 * get_le 2 w 2) 200)

-- two lists of bytes are the same: a test, which computes faster than it is seen that two terms compute to one list
unfoldable pub same : List ℕ → List ℕ → Bool
same [] [] = true
same [] (y ∷ ys) = false
same (x ∷ xs) [] = false
same (x ∷ xs) (y ∷ ys) = eqb x y && same xs ys

-- to unfold this is to unfold the whole meaning and these words
unfoldable pub opened : Unit {0}
unfolding value digits get_le part zeros branch list height tilt plug double turn rotate grown shrunk climb insert end bottom_child replace remove_at seek entry_at get_by add_by remove_by Layout.opened Pool.opened Sound.opened Change.opened Cursor.opened Command.opened Doors.opened Listing.opened adds_from placed asked replies batch_of letters fresh outcome same
opened = tt
