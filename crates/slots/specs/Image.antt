-- A model: the form in which the code holds what `meaning` and `avl` speak of. No door's promise cites it, and it need not be believed.
-- The head and the body of a pool of `meaning`: what a batch works on. Assumes nothing.
use Rattle.std.specs.Prelude.{cond, List, [], ◌∷◌, ◌++◌, ℕ, zero, suc, ◌-◌, eqb, length, replicate}
use Rattle.std.proofs.Math.Option.{Option, none, some}
use Rattle.avl.specs.Tree.{left, Tree, list}
use Rattle.avl.specs.Links.{Links, unlinked}
use Rattle.tree.specs.Held.{tree_of}
use Rattle.tree.specs.Section.{Cargo}
use Rattle.tree.specs.declared.node.AvlTree.{AvlTree}
use Rattle.meaning.specs.Layout.{pack, concat}
use Rattle.meaning.specs.Pool.{Rec, Pool, live_count, links_at, record_rows}
use Rattle.meaning.specs.Change.{free_slot}
use Rattle.slots.specs.Record.{no_record}
use Rattle.slots.specs.Head.{no_tree}
use Rattle.slots.specs.declared.record.Record.{Record}
use Rattle.slots.specs.declared.head.Head.{Head}

-- the text with what is unused of it
unfoldable pub text_bytes : Pool → List ℕ
text_bytes p = p.text ++ replicate (p.size - length p.text) 0

-- the records and the text
unfoldable pub body_of : Pool → List ℕ
body_of p = concat (record_rows p 1 p.slots) ++ text_bytes p

-- the trees of a table of n, empty ones behind them
unfoldable pub table_of : ℕ → List Tree → List AvlTree
table_of zero ts = []
table_of (suc n) [] = no_tree ∷ table_of n []
table_of (suc n) (t ∷ ts) = tree_of t (length (list left t)) ∷ table_of n ts

unfoldable pub head_of : Pool → Head
head_of p =
    record {
      numbers = record {
        slots = length p.slots;
        trees = length p.trees;
        live = live_count p;
        free = free_slot p;
        size = p.size;
        used = length p.text;
        next = p.next;
      };
      table = table_of 8 p.trees;
    }

-- a record by value
unfoldable pub record_of : Rec → Record
record_of r = record { key = r.key; stamp = r.stamp; start = r.start; len = r.len; tree = r.tree }

unfoldable pub shown_of : Option Rec → Record
shown_of none = no_record
shown_of (some r) = record_of r

-- ---- the records as rows that hold a tree, in the words of crate `tree`

-- what a slot holds besides its links
unfoldable pub cargo_of : Option Rec → Cargo
cargo_of none = record { key = 0; rest = replicate 17 0 }
cargo_of (some r) = record { key = r.key; rest = pack ((1, r.tree) ∷ (4, r.stamp) ∷ (4, r.start) ∷ (2, r.len) ∷ (6, 0) ∷ []) }

-- the links of slot x, if its record is in another tree than t
unfoldable pub elsewhere : Pool → ℕ → ℕ → Option Rec → Links
elsewhere p t x none = unlinked
elsewhere p t x (some r) = cond (eqb r.tree t) unlinked (links_at p r.tree x)
