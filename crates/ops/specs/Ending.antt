-- A model: what the code computes. No door's promise cites it, and it need not be believed.
-- The ways in which a command ends: it shows a record, takes one out, or adds one; or it is refused with a number e. Assumes nothing.
use Rattle.std.specs.Prelude.{cond, List, ℕ, ◌+◌, ◌*◌, eqb}
use Rattle.fields.specs.Part.{part, splice}
use Rattle.avl.specs.Tree.{Dir}
use Rattle.tree.specs.declared.node.AvlTree.{AvlTree}
use Rattle.slots.specs.Record.{record_n}
use Rattle.slots.specs.Head.{no_tree}
use Rattle.slots.specs.Change.{free_after_n, hung_n, freed_n, taken_n}
use Rattle.slots.specs.declared.head.Numbers.{Numbers}
use Rattle.slots.specs.declared.record.Record.{Record}
use Rattle.cursor.specs.declared.command.Command.{Command}
use Rattle.cursor.specs.declared.cursor.Next.{Next}
use Rattle.cursor.specs.Given.{Sight, Step}

-- what comes of the cursor: the one where the command is done, the other where it is refused with e
abbrev pub either_n : ℕ → Next → Next → Next
either_n e done lost = cond (eqb e 0) done lost

-- the record x shown
unfoldable pub look_n : ℕ → ℕ → Next → Sight
look_n e x then = cond (eqb e 0) (record { slot = x; code = 0; then = then }) (record { slot = 0; code = e; then = then })

-- a step about the record v: its tree and the lowest free slot after it, the record's slot, what is to be journalled
abbrev pub about : Record → AvlTree → ℕ → ℕ → ℕ → Next → Step
about v t slot free change then =
    record {
      key = v.key;
      stamp = v.stamp;
      start = v.start;
      tree = t;
      slot = slot;
      free = free;
      len = v.len;
      code = 0;
      change = change;
      then = then;
    }

abbrev pub refused_n : ℕ → Next → Step
refused_n e then =
    record {
      key = 0;
      stamp = 0;
      start = 0;
      tree = no_tree;
      slot = 0;
      free = 0;
      len = 0;
      code = e;
      change = 0;
      then = then;
    }

-- the body after a command, and what it hands back
abbrev pub Changed : Type 0
Changed = List ℕ × Step

-- the record x taken out of the tree u, where `free` is the lowest free slot
unfoldable pub take_out_n : List ℕ → ℕ → AvlTree → ℕ → ℕ → Next → Changed
take_out_n m free u x e then =
    let o = taken_n m u x in
    let out : Changed = (o.0, about (record_n m x) o.1 x (freed_n free x) 2 then) in
    cond (eqb e 0) out (m, refused_n e then)

-- the record of the command
abbrev pub new_record : Numbers → Command → Record
new_record n c = record { key = c.key; stamp = n.next; start = n.used; len = c.len; tree = c.tree }

-- it added to the tree u at the empty place s, in the lowest free slot, with its name at the end of the text
unfoldable pub add_new_n : List ℕ → List ℕ → Numbers → AvlTree → Command → ℕ × Dir → ℕ → Next → Changed
add_new_n m names n u c s e then =
    let x = n.free in
    let v = new_record n c in
    let named = splice m (32 * n.slots + n.used) (part names c.at c.len) in
    let o = hung_n named u x v s.0 s.1 in
    let out : Changed = (o.0, about v o.1 x (free_after_n o.0 n.slots x x) 1 then) in
    cond (eqb e 0) out (m, refused_n e then)
