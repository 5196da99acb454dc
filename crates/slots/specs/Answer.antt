-- A model: what the code computes. No door's promise cites it, and it need not be believed.
-- An answer's stores. Assumes nothing.
use Rattle.std.specs.Prelude.{List, ℕ, ◌+◌, ◌*◌}
use Rattle.fields.specs.Number.{put_le}
use Rattle.slots.specs.declared.record.Record.{Record}

-- answer k: code, cursor kind, and the record v of slot x
unfoldable pub put_answer_n : List ℕ → ℕ → ℕ → ℕ → ℕ → Record → List ℕ
put_answer_n o k code kind x v =
    let at = 24 * k in
    let head = put_le 2 (put_le 1 (put_le 1 o at code) (at + 1) kind) (at + 2) x in
    let rec = put_le 4 (put_le 8 (put_le 4 head (at + 4) v.stamp) (at + 8) v.key) (at + 16) v.start in
    put_le 2 (put_le 2 rec (at + 20) v.len) (at + 22) 0
