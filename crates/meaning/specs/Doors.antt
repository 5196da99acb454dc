-- The doors: what each returns and leaves in every buffer lent to it, on all inputs. A refused door gives back the bytes that it was lent.
-- Assumes nothing.
use Rattle.std.specs.Prelude.{Bool, false, cond, ◌&&◌, List, [], ◌∷◌, ◌++◌, map, ℕ, ◌+◌, ◌*◌, leb, ltb, eqb, length, drop, replicate}
use Rattle.std.proofs.Math.Option.{Option, none, some}
use Rattle.fields.specs.Number.{get_le}
use Rattle.fields.specs.Part.{part}
use Rattle.avl.specs.Tree.{leaf}
use Rattle.meaning.specs.Layout.{rows, within, all}
use Rattle.meaning.specs.Pool.{Rec, Pool, rec_at, bytes, read, text_of, n_slots, n_trees}
use Rattle.meaning.specs.Sound.{sound}
use Rattle.meaning.specs.Change.{rolled_back}
use Rattle.meaning.specs.Cursor.{Command, nowhere, State}
use Rattle.meaning.specs.Command.{perform, refusal}

-- ---- create

unfoldable pub fresh : ℕ → ℕ → ℕ → Pool
fresh N T X = record { slots = replicate N none; trees = replicate T leaf; text = []; size = X; next = 1 }

unfoldable pub sizes_ok : ℕ → ℕ → ℕ → List ℕ → Bool
sizes_ok N T X buffer = all (within 1 1024 N ∷ within 1 8 T ∷ leb X 8192 ∷ eqb (length buffer) (32 + 8 * T + 32 * N + X) ∷ [])

pub record Created : Type 0 where
  pub code : ℕ
  pub buffer : List ℕ

unfoldable pub create : ℕ → ℕ → ℕ → List ℕ → Created
create N T X buffer =
    let done : Created = record { code = 0; buffer = bytes (fresh N T X) } in
    cond (sizes_ok N T X buffer) done (record { code = 4; buffer = buffer })

-- ---- check

unfoldable pub check : List ℕ → ℕ
check b = cond (sound b) 0 1

-- ---- batch

unfoldable pub n_commands : List ℕ → ℕ
n_commands w = get_le 2 w 2

unfoldable pub names_length : List ℕ → ℕ
names_length w = get_le 4 w 12

unfoldable pub batch_ok : List ℕ → Bool
batch_ok w =
    let C = n_commands w in let L = names_length w in
    all (eqb (get_le 2 w 0) 1 ∷ leb C 256 ∷ eqb (get_le 4 w 4) 16 ∷ eqb (get_le 4 w 8) (16 + 24 * C) ∷ leb L 16_384
    ∷ eqb (length w) (16 + 24 * C + L) ∷ [])

-- op u8, tree u8, slot u16, stamp u32, key u64, name offset u32 in the names, name length u16, two bytes
unfoldable pub command : List ℕ → List ℕ → Command
command names r =
    let at = get_le 4 r 16 in let len = get_le 2 r 20 in
    record {
      op = get_le 1 r 0;
      tree = get_le 1 r 1;
      slot = get_le 2 r 2;
      stamp = get_le 4 r 4;
      key = get_le 8 r 8;
      name = part names at len;
      named = within 1 255 len && leb (at + len) (length names);
    }

unfoldable pub commands : List ℕ → List Command
commands w = map (command (drop (16 + 24 * n_commands w) w)) (rows (n_commands w) 24 (drop 16 w))

-- the commands in turn: the state after them, and their answers
pub record Ran : Type 0 where
  pub state : State
  pub answers : List ℕ

unfoldable pub run : State → List Command → Ran
run s [] = record { state = s; answers = [] }
run s (c ∷ cs) =
    let one = perform s c in
    let rest = run one.state cs in
    record { state = rest.state; answers = one.answer ++ rest.answers }

-- a batch starts with no cursor and no mark; a mark open at its end is rolled back
unfoldable pub begun : Pool → State
begun p = record { pool = p; cursor = nowhere; mark = none }

unfoldable pub ended : State → Pool
ended s = rolled_back s.mark s.pool

-- batch checks 2, 3, 1 in that order
unfoldable pub batch_refusal : List ℕ → List ℕ → List ℕ → ℕ
batch_refusal b w a =
    let unsound : ℕ = cond (sound b) 0 1 in
    let short : ℕ = cond (ltb (length a) (24 * n_commands w)) 3 unsound in
    cond (batch_ok w) short 2

pub record Outcome : Type 0 where
  pub code : ℕ
  pub answered : ℕ
  pub pool : List ℕ
  pub answers : List ℕ

unfoldable pub carried_out : List ℕ → List ℕ → List ℕ → Outcome
carried_out b w a =
    let C = n_commands w in
    let r = run (begun (read b)) (commands w) in
    record { code = 0; answered = C; pool = bytes (ended r.state); answers = r.answers ++ drop (24 * C) a }

unfoldable pub batch : List ℕ → List ℕ → List ℕ → Outcome
batch b w a =
    let e = batch_refusal b w a in
    let done = carried_out b w a in
    cond (eqb e 0) done (record { code = e; answered = 0; pool = b; answers = a })

-- ---- name: a part of the pool's bytes, empty if the pool is unsound or op 4 would refuse

unfoldable pub removal : ℕ → ℕ → ℕ → Command
removal t x g = record { op = 4; tree = t; slot = x; stamp = g; key = 0; name = []; named = false }

unfoldable pub name_of : List ℕ → Option Rec → List ℕ
name_of b none = []
name_of b (some r) = part (text_of b) r.start r.len

unfoldable pub name : List ℕ → ℕ → ℕ → ℕ → List ℕ
name b t x g =
    let s = begun (read b) in
    let found = name_of b (rec_at s.pool x) in
    let answered = cond (eqb (refusal s (removal t x g)) 0) found [] in
    cond (sound b) answered []

-- where that part stands: the place of its first byte, counted from the start of the pool, and its length; 0 and 0 where the handle is refused
pub record Place : Type 0 where
  pub at : ℕ
  pub len : ℕ

abbrev pub no_place : Place
no_place = record { at = 0; len = 0 }

-- a record's name stands in the text, which follows the records
unfoldable pub place_in : List ℕ → Option Rec → Place
place_in b none = no_place
place_in b (some r) = record { at = 32 + 8 * n_trees b + 32 * n_slots b + r.start; len = r.len }

unfoldable pub place_of : List ℕ → ℕ → ℕ → ℕ → Place
place_of b t x g =
    let s = begun (read b) in
    let found = place_in b (rec_at s.pool x) in
    let answered = cond (eqb (refusal s (removal t x g)) 0) found no_place in
    cond (sound b) answered no_place

-- to unfold this is to unfold all of this file: for claims that compute
unfoldable pub opened : Unit {0}
unfolding fresh sizes_ok create check n_commands names_length batch_ok command commands run begun ended batch_refusal carried_out batch removal name_of name place_in place_of
opened = tt
