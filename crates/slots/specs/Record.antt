-- A model: what the code computes. No door's promise cites it, and it need not be believed.
-- A record's own fields in the body, and the lowest free slot. Slot 0 has no record and takes no store. Assumes nothing.
use Rattle.std.specs.Prelude.{cond, List, ℕ, zero, suc, ◌+◌, ◌*◌, ◌-◌, eqb, replicate}
use Rattle.fields.specs.Number.{get_le, put_le}
use Rattle.fields.specs.Part.{splice}
use Rattle.slots.specs.declared.record.Record.{Record}

abbrev pub no_record : Record
no_record = record { key = 0; stamp = 0; start = 0; len = 0; tree = 0 }

-- the fields of the 32 bytes from `at` on
unfoldable pub fields_at : List ℕ → ℕ → Record
fields_at m at =
    record { key = get_le 8 m at; stamp = get_le 4 m (at + 16); start = get_le 4 m (at + 20); len = get_le 2 m (at + 24); tree = get_le 1 m (at + 15) }

unfoldable pub record_n : List ℕ → ℕ → Record
record_n m x = cond (eqb x 0) no_record (fields_at m (32 * (x - 1)))

unfoldable pub fields_put : List ℕ → ℕ → Record → List ℕ
fields_put m at v = put_le 2 (put_le 4 (put_le 4 (put_le 1 (put_le 8 m at v.key) (at + 15) v.tree) (at + 16) v.stamp) (at + 20) v.start) (at + 24) v.len

unfoldable pub fill_n : List ℕ → ℕ → Record → List ℕ
fill_n m x v = cond (eqb x 0) m (fields_put m (32 * (x - 1)) v)

unfoldable pub clear_n : List ℕ → ℕ → List ℕ
clear_n m x = cond (eqb x 0) m (splice m (32 * (x - 1)) (replicate 32 0))

-- the first free slot among so many above `at`, 0 for none
unfoldable pub lowest_n : ℕ → List ℕ → ℕ → ℕ
lowest_n zero m at = 0
lowest_n (suc k) m at = let rest = lowest_n k m (at + 1) in cond (eqb (get_le 1 m (32 * at + 15)) 0) (at + 1) rest
