-- What the doors return to C, which gives back one number: two numbers packed into it. Assumes nothing.
use Rattle.std.specs.Prelude.{List, ℕ, ◌+◌, ◌*◌}
use Rattle.meaning.specs.Doors.{batch, place_of}

-- the code in bits 0 to 7, the number answered in bits 8 to 23; and the pool and the answers as they are left
unfoldable pub batch_in_c : List ℕ → List ℕ → List ℕ → ℕ × (List ℕ × List ℕ)
batch_in_c b w a = let o = batch b w a in (o.code + o.answered * 256, (o.pool, o.answers))

-- the place of the name: its first byte, counted from the start of the pool, in bits 0 to 31, its length in bits 32 to 63
unfoldable pub name_in_c : List ℕ → ℕ → ℕ → ℕ → ℕ
name_in_c b t x g = let p = place_of b t x g in p.at + p.len * 4_294_967_296
