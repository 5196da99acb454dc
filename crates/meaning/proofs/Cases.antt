-- The cases P1 to P10 of docs/REFERENCE.md (10.6): one table, one claim; their pools are sound and read back to the same bytes. Assumes nothing.
use Rattle.std.proofs.Common.{◌≡◌, ℕ, zero, suc, ◌+◌, ◌*◌, Bool, true, List, [], ◌∷◌, ◌++◌, map, length, drop, replicate, refl}
use Rattle.fields.specs.Number.{get_le}
use Rattle.meaning.specs.Layout.{every, concat}
use Rattle.meaning.specs.Pool.{bytes, read}
use Rattle.meaning.specs.Sound.{sound}
use Rattle.meaning.specs.Doors.{Outcome}
use Rattle.meaning.proofs.Lines
use Rattle.meaning.proofs.Lines.{Line, ◌⇒◌, add, adds, get, remove_by_key, remove_handle, next, prev, last_entry, append, mark, rollback, refused◌kind◌, kind◌nothing, kind◌slot◌stamp◌key◌text◌, replies, batch_of, letters, fresh, outcome, same}

-- key, balance, left, right; a missing child is "-"
infix 70 ◌⟨◌⟩◌/◌
pub data Shape : Type 0 where
  - : Shape
  ◌⟨◌⟩◌/◌ : ℕ → ℕ → Shape → Shape → Shape

abbrev pub tip : ℕ → Shape
tip k = k ⟨ 0 ⟩ - / -

-- the slots of a fresh pool, the lines of its one batch, and the shape after it
pub record Case : Type 0 where
  pub slots : ℕ
  pub lines : List Line
  pub shape : Shape

-- add 1,2,3: 2(0) 1(0) 3(0)
unfoldable pub p1 : Case
p1 = record { slots = 4; lines = adds (1 ∷ 2 ∷ 3 ∷ []); shape = 2 ⟨ 0 ⟩ tip 1 / tip 3 }

-- add 3,1,2: the same
unfoldable pub p2 : Case
p2 = record { slots = 4; lines = adds (3 ∷ 1 ∷ 2 ∷ []); shape = 2 ⟨ 0 ⟩ tip 1 / tip 3 }

-- add 2,1,4,3,5, remove 1: 4(2); left 2(1) with - and 3(0); right 5(0)
unfoldable pub p3 : Case
p3 = record {
  slots = 5;
  lines = adds (2 ∷ 1 ∷ 4 ∷ 3 ∷ 5 ∷ []) ++ (remove_by_key 1 ⇒ kind 0 slot 2 stamp 2 key 1 text 1 ∷ []);
  shape = 4 ⟨ 2 ⟩ (2 ⟨ 1 ⟩ - / tip 3) / tip 5;
}

-- add 2,1,3, remove 2: 1(1) with - and 3(0)
unfoldable pub p4 : Case
p4 = record {
  slots = 4;
  lines = adds (2 ∷ 1 ∷ 3 ∷ []) ++ (remove_by_key 2 ⇒ kind 0 slot 1 stamp 1 key 2 text 0 ∷ []);
  shape = 1 ⟨ 1 ⟩ - / tip 3;
}

-- add 2,1,3,4, remove 2: 3(0) 1(0) 4(0)
unfoldable pub p5 : Case
p5 = record {
  slots = 4;
  lines = adds (2 ∷ 1 ∷ 3 ∷ 4 ∷ []) ++ (remove_by_key 2 ⇒ kind 0 slot 1 stamp 1 key 2 text 0 ∷ []);
  shape = 3 ⟨ 0 ⟩ tip 1 / tip 4;
}

-- add 4,2,5,1,3, remove 4: 3(2); left 2(2) with 1(0) and -; right 5(0)
unfoldable pub p6 : Case
p6 = record {
  slots = 5;
  lines = adds (4 ∷ 2 ∷ 5 ∷ 1 ∷ 3 ∷ []) ++ (remove_by_key 4 ⇒ kind 0 slot 1 stamp 1 key 4 text 0 ∷ []);
  shape = 3 ⟨ 2 ⟩ (2 ⟨ 2 ⟩ tip 1 / -) / tip 5;
}

-- add 10,20,30, remove 20, add 25: slot 2, stamp 4; handle (2,2) is STALE, whatever op takes it
unfoldable pub p7 : Case
p7 = record {
  slots = 4;
  lines =
      adds (10 ∷ 20 ∷ 30 ∷ [])
      ++ (remove_by_key 20 ⇒ kind 0 slot 2 stamp 2 key 20 text 1
      ∷ add 25 ⇒ kind 0 slot 2 stamp 4 key 25 text 3
      ∷ remove_handle 2 2 ⇒ refused 15 kind 0
      ∷ next 2 2 ⇒ refused 15 kind 0
      ∷ prev 2 2 ⇒ refused 15 kind 0
      ∷ next 2 4 ⇒ kind 0 slot 3 stamp 3 key 30 text 2
      ∷ []);
  shape = 25 ⟨ 0 ⟩ tip 10 / tip 30;
}

-- add 1,2, mark, remove 1, rollback: root key 2, was 1; same records, handle (1,1) good. First the part before the mark
unfoldable pub p8_before : Case
p8_before = record { slots = 4; lines = adds (1 ∷ 2 ∷ []); shape = 1 ⟨ 1 ⟩ - / tip 2 }

unfoldable pub p8 : Case
p8 = record {
  slots = 4;
  lines =
      adds (1 ∷ 2 ∷ [])
      ++ (mark ⇒ kind 0 nothing
      ∷ remove_by_key 1 ⇒ kind 0 slot 1 stamp 1 key 1 text 0
      ∷ rollback ⇒ kind 0 nothing
      ∷ get 1 ⇒ kind 0 slot 1 stamp 1 key 1 text 0
      ∷ get 2 ⇒ kind 0 slot 2 stamp 2 key 2 text 1
      ∷ next 1 1 ⇒ kind 0 slot 2 stamp 2 key 2 text 1
      ∷ []);
  shape = 2 ⟨ 2 ⟩ tip 1 / -;
}

-- add 10, mark, remove 10, add 30 (slot 1, stamp 2), rollback, add 40: slot 2, stamp 3; (1,2) is STALE, and (1,1) is good
unfoldable pub p9 : Case
p9 = record {
  slots = 4;
  lines =
      adds (10 ∷ [])
      ++ (mark ⇒ kind 0 nothing
      ∷ remove_by_key 10 ⇒ kind 0 slot 1 stamp 1 key 10 text 0
      ∷ add 30 ⇒ kind 0 slot 1 stamp 2 key 30 text 1
      ∷ rollback ⇒ kind 0 nothing
      ∷ add 40 ⇒ kind 0 slot 2 stamp 3 key 40 text 1
      ∷ remove_handle 1 2 ⇒ refused 15 kind 0
      ∷ next 1 1 ⇒ kind 0 slot 2 stamp 3 key 40 text 1
      ∷ []);
  shape = 10 ⟨ 1 ⟩ - / tip 40;
}

-- add 5, last_entry, append 5: ORDER, cursor kind 0
unfoldable pub p10 : Case
p10 = record {
  slots = 4;
  lines = adds (5 ∷ []) ++ (last_entry ⇒ kind 4 slot 1 stamp 1 key 5 text 0 ∷ append 5 ⇒ refused 18 kind 0 ∷ []);
  shape = tip 5;
}

unfoldable pub table : List Case
table = p1 ∷ p2 ∷ p3 ∷ p4 ∷ p5 ∷ p6 ∷ p7 ∷ p8_before ∷ p8 ∷ p9 ∷ p10 ∷ []

-- ---- what the door gives, and what the table says

pub record Result : Type 0 where
  pub code : ℕ
  pub answered : ℕ
  pub answers : List ℕ
  pub shape : Shape

-- the shape below slot x as the bytes have it, of a pool with one tree: record x stands at 8 + 32x; down to so many levels
unfoldable pub shape_at : ℕ → List ℕ → ℕ → Shape
shape_at zero b x = -
shape_at (suc level) b zero = -
shape_at (suc level) b (suc x) =
    let r = drop (40 + 32 * x) b in
    get_le 8 r 0 ⟨ get_le 1 r 14 ⟩ shape_at level b (get_le 2 r 8) / shape_at level b (get_le 2 r 10)

unfoldable pub ran : Case → Outcome
ran c = outcome (fresh c.slots 1 16) (batch_of c.lines (letters c.lines))

unfoldable pub given : Case → Result
given c =
    let o = ran c in
    record { code = o.code; answered = o.answered; answers = o.answers; shape = shape_at 4 o.pool (get_le 2 o.pool 32) }

unfoldable pub stated : Case → Result
stated c = record { code = 0; answered = length c.lines; answers = replies c.lines; shape = c.shape }

unfoldable pub reads_back : Case → Bool
reads_back c = let b = (ran c).pool in same (bytes (read b)) b

unfoldable pub opened : Unit {0}
unfolding Lines.opened p1 p2 p3 p4 p5 p6 p7 p8_before p8 p9 p10 table shape_at ran given stated reads_back
opened = tt

p1_to_p10 : map given table ≡ map stated table
unfolding opened
p1_to_p10 = refl

-- the pools after them are sound
all_sound : every (λ c. sound (ran c).pool) table ≡ true
unfolding opened
all_sound = refl

-- and are the bytes of what is read from them
all_read_back : every reads_back table ≡ true
unfolding opened
all_read_back = refl

-- P8: the records, with their stamps and names, are those before the mark
p8_same_records : (read (ran p8).pool).slots ≡ (read (ran p8_before).pool).slots
unfolding opened
p8_same_records = refl

-- rollback undoes change by change, and an add and its removal are not cancelled against each other: that would give 4(1) with - and 11(0)
one_by_one : Case
one_by_one = record {
  slots = 4;
  lines =
      adds (11 ∷ 4 ∷ [])
      ++ (mark ⇒ kind 0 nothing
      ∷ add 20 ⇒ kind 0 slot 3 stamp 3 key 20 text 2
      ∷ remove_by_key 20 ⇒ kind 0 slot 3 stamp 3 key 20 text 2
      ∷ add 9 ⇒ kind 0 slot 3 stamp 4 key 9 text 3
      ∷ rollback ⇒ kind 0 nothing
      ∷ []);
  shape = 11 ⟨ 2 ⟩ tip 4 / -;
}

undone_one_by_one : given one_by_one ≡ stated one_by_one
unfolding opened one_by_one
undone_one_by_one = refl

-- ---- P1's pool, byte by byte

unfoldable pub pool1 : List ℕ
pool1 =
    concat
    -- edition, slots, trees, live records; offsets of the tree table, the records, the text; text size, text used, next stamp
    ((1 ∷ 0 ∷ 4 ∷ 0 ∷ 1 ∷ 0 ∷ 3 ∷ 0 ∷ 32 ∷ 0 ∷ 0 ∷ 0 ∷ 40 ∷ 0 ∷ 0 ∷ 0 ∷ 168 ∷ 0 ∷ 0 ∷ 0 ∷ 16 ∷ 0 ∷ 0 ∷ 0 ∷ 3 ∷ 0 ∷ 0 ∷ 0 ∷ 4 ∷ 0 ∷ 0 ∷ 0 ∷ [])
    -- root, count, four zero bytes
    ∷ (2 ∷ 0 ∷ 3 ∷ 0 ∷ 0 ∷ 0 ∷ 0 ∷ 0 ∷ [])
    -- key; left, right, parent; balance, tree; stamp; name start; name length; six zero bytes
    ∷ (1 ∷ 0 ∷ 0 ∷ 0 ∷ 0 ∷ 0 ∷ 0 ∷ 0 ∷ 0 ∷ 0 ∷ 0 ∷ 0 ∷ 2 ∷ 0 ∷ 0 ∷ 1 ∷ 1 ∷ 0 ∷ 0 ∷ 0 ∷ 0 ∷ 0 ∷ 0 ∷ 0 ∷ 1 ∷ 0 ∷ 0 ∷ 0 ∷ 0 ∷ 0 ∷ 0 ∷ 0 ∷ [])
    ∷ (2 ∷ 0 ∷ 0 ∷ 0 ∷ 0 ∷ 0 ∷ 0 ∷ 0 ∷ 1 ∷ 0 ∷ 3 ∷ 0 ∷ 0 ∷ 0 ∷ 0 ∷ 1 ∷ 2 ∷ 0 ∷ 0 ∷ 0 ∷ 1 ∷ 0 ∷ 0 ∷ 0 ∷ 1 ∷ 0 ∷ 0 ∷ 0 ∷ 0 ∷ 0 ∷ 0 ∷ 0 ∷ [])
    ∷ (3 ∷ 0 ∷ 0 ∷ 0 ∷ 0 ∷ 0 ∷ 0 ∷ 0 ∷ 0 ∷ 0 ∷ 0 ∷ 0 ∷ 2 ∷ 0 ∷ 0 ∷ 1 ∷ 3 ∷ 0 ∷ 0 ∷ 0 ∷ 2 ∷ 0 ∷ 0 ∷ 0 ∷ 1 ∷ 0 ∷ 0 ∷ 0 ∷ 0 ∷ 0 ∷ 0 ∷ 0 ∷ [])
    ∷ replicate 32 0
    -- the text: a, b, c
    ∷ (97 ∷ 98 ∷ 99 ∷ 0 ∷ 0 ∷ 0 ∷ 0 ∷ 0 ∷ 0 ∷ 0 ∷ 0 ∷ 0 ∷ 0 ∷ 0 ∷ 0 ∷ 0 ∷ [])
    ∷ [])

p1_pool : (ran p1).pool ≡ pool1
unfolding opened pool1
p1_pool = refl

-- ---- P10's batch and answers, byte by byte

batch10 : List ℕ
batch10 =
    concat
    -- edition, commands, offset of commands, offset of names, length of names
    ((1 ∷ 0 ∷ 3 ∷ 0 ∷ 16 ∷ 0 ∷ 0 ∷ 0 ∷ 88 ∷ 0 ∷ 0 ∷ 0 ∷ 3 ∷ 0 ∷ 0 ∷ 0 ∷ [])
    -- op, tree; slot; stamp; key; name offset; name length; two bytes
    ∷ (1 ∷ 1 ∷ 0 ∷ 0 ∷ 0 ∷ 0 ∷ 0 ∷ 0 ∷ 5 ∷ 0 ∷ 0 ∷ 0 ∷ 0 ∷ 0 ∷ 0 ∷ 0 ∷ 0 ∷ 0 ∷ 0 ∷ 0 ∷ 1 ∷ 0 ∷ 0 ∷ 0 ∷ [])
    ∷ (11 ∷ 1 ∷ 0 ∷ 0 ∷ 0 ∷ 0 ∷ 0 ∷ 0 ∷ 0 ∷ 0 ∷ 0 ∷ 0 ∷ 0 ∷ 0 ∷ 0 ∷ 0 ∷ 0 ∷ 0 ∷ 0 ∷ 0 ∷ 0 ∷ 0 ∷ 0 ∷ 0 ∷ [])
    ∷ (24 ∷ 0 ∷ 0 ∷ 0 ∷ 0 ∷ 0 ∷ 0 ∷ 0 ∷ 5 ∷ 0 ∷ 0 ∷ 0 ∷ 0 ∷ 0 ∷ 0 ∷ 0 ∷ 2 ∷ 0 ∷ 0 ∷ 0 ∷ 1 ∷ 0 ∷ 0 ∷ 0 ∷ [])
    -- the names: a, b, c
    ∷ (97 ∷ 98 ∷ 99 ∷ [])
    ∷ [])

answers10 : List ℕ
answers10 =
    concat
    -- code, cursor kind; slot; stamp; key; name start; name length; two zero bytes
    ((0 ∷ 0 ∷ 1 ∷ 0 ∷ 1 ∷ 0 ∷ 0 ∷ 0 ∷ 5 ∷ 0 ∷ 0 ∷ 0 ∷ 0 ∷ 0 ∷ 0 ∷ 0 ∷ 0 ∷ 0 ∷ 0 ∷ 0 ∷ 1 ∷ 0 ∷ 0 ∷ 0 ∷ [])
    ∷ (0 ∷ 4 ∷ 1 ∷ 0 ∷ 1 ∷ 0 ∷ 0 ∷ 0 ∷ 5 ∷ 0 ∷ 0 ∷ 0 ∷ 0 ∷ 0 ∷ 0 ∷ 0 ∷ 0 ∷ 0 ∷ 0 ∷ 0 ∷ 1 ∷ 0 ∷ 0 ∷ 0 ∷ [])
    ∷ (18 ∷ 0 ∷ 0 ∷ 0 ∷ 0 ∷ 0 ∷ 0 ∷ 0 ∷ 0 ∷ 0 ∷ 0 ∷ 0 ∷ 0 ∷ 0 ∷ 0 ∷ 0 ∷ 0 ∷ 0 ∷ 0 ∷ 0 ∷ 0 ∷ 0 ∷ 0 ∷ 0 ∷ [])
    ∷ [])

p10_answers : (outcome (fresh 4 1 16) batch10).answers ≡ answers10
unfolding opened batch10 answers10
p10_answers = refl
