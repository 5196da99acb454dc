-- A model: what the code computes. No door's promise cites it, and it need not be believed.
-- The stores of `create` into a zeroed buffer: the fields of a fresh header that are not 0. Assumes nothing.
use Rattle.std.specs.Prelude.{List, ℕ, ◌+◌, ◌*◌}
use Rattle.fields.specs.Number.{put_le}

unfoldable pub headed : List ℕ → ℕ → ℕ → ℕ → List ℕ
headed b N T X =
    let sizes = put_le 2 (put_le 2 (put_le 2 b 0 1) 2 N) 4 T in
    let places = put_le 4 (put_le 4 (put_le 4 sizes 8 32) 12 (32 + 8 * T)) 16 (32 + 8 * T + 32 * N) in
    put_le 4 (put_le 4 places 20 X) 28 1
