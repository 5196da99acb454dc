-- The doors themselves: what each refuses and leaves unchanged, and where its limits are. Assumes nothing.
use Rattle.std.proofs.Common.{◌≡◌, ℕ, Bool, true, eqb, List, [], ◌∷◌, ◌++◌, length, take, set, replicate, refl}
use Rattle.meaning.specs.Layout.{all, every}
use Rattle.meaning.specs.Doors.{create, check, batch, Outcome, name}
use Rattle.meaning.proofs.Lines.{Line, ◌⇒◌, op, ◌in_tree◌, ◌named◌long◌, add, remove_by_key, mark, refused◌kind◌, kind◌nothing, kind◌slot◌stamp◌key◌text◌, replies, batch_of, letters, fresh, outcome, same}
use Rattle.meaning.proofs.Cases
use Rattle.meaning.proofs.Cases.{pool1}

-- ---- batch

-- a batch on a pool, with these answers lent: code, number answered, and the pool and the answers after it
record Call : Type 0 where
  pool : List ℕ
  words : List ℕ
  lent : List ℕ
  result : Outcome

infix 70 on◌ask◌lend◌refused◌
abbrev on◌ask◌lend◌refused◌ : List ℕ → List ℕ → List ℕ → ℕ → Call
on b ask w lend a refused e = record { pool = b; words = w; lent = a; result = record { code = e; answered = 0; pool = b; answers = a } }

infix 70 on◌ask◌lend◌answered◌left◌written◌
abbrev on◌ask◌lend◌answered◌left◌written◌ : List ℕ → List ℕ → List ℕ → ℕ → List ℕ → List ℕ → Call
on b ask w lend a answered n left b' written a' = record {
  pool = b;
  words = w;
  lent = a;
  result = record { code = 0; answered = n; pool = b'; answers = a' };
}

damaged : List ℕ
damaged = set pool1 0 2

-- batches without a command, with one and with many
empty : List ℕ
empty = batch_of [] []

one : List ℕ
one = batch_of (mark ⇒ kind 0 nothing ∷ []) []

many : ℕ → List Line
many n = replicate n (op 0 ⇒ refused 10 kind 0)

-- done, but for a mark that is open at the end
half : List Line
half =
    mark ⇒ kind 0 nothing
    ∷ add 9 ⇒ kind 0 slot 4 stamp 4 key 9 text 3
    ∷ remove_by_key 2 ⇒ kind 0 slot 2 stamp 2 key 2 text 1
    ∷ []

calls : List Call
calls =
    -- 2 BAD_BATCH: shorter than its header
    on pool1 ask [] lend [] refused 2
    ∷ on pool1 ask take 15 empty lend [] refused 2
    -- edition, offset of commands, offset of names, length of names
    ∷ on pool1 ask set empty 0 2 lend [] refused 2
    ∷ on pool1 ask set empty 0 0 lend [] refused 2
    ∷ on pool1 ask set empty 4 17 lend [] refused 2
    ∷ on pool1 ask set empty 8 40 lend [] refused 2
    ∷ on pool1 ask set empty 12 1 lend [] refused 2
    -- more commands than there are, or fewer; a byte less, a byte more
    ∷ on pool1 ask set one 2 2 lend replicate 48 7 refused 2
    ∷ on pool1 ask set one 2 0 lend replicate 48 7 refused 2
    ∷ on pool1 ask take 39 one lend replicate 48 7 refused 2
    ∷ on pool1 ask one ++ (0 ∷ []) lend replicate 48 7 refused 2
    -- 257 commands; 16,385 bytes of names
    ∷ on pool1 ask batch_of (many 257) [] lend replicate 6_168 7 refused 2
    ∷ on pool1 ask batch_of [] (replicate 16_385 120) lend [] refused 2
    -- 3 BAD_OUT: answers shorter than 24C
    ∷ on pool1 ask one lend replicate 23 7 refused 3
    -- 1 DAMAGED, without a command too
    ∷ on damaged ask one lend replicate 24 7 refused 1
    ∷ on damaged ask empty lend [] refused 1
    ∷ on [] ask empty lend [] refused 1
    -- 2 comes before 3 and 1, 3 before 1
    ∷ on damaged ask take 39 one lend replicate 23 7 refused 2
    ∷ on damaged ask one lend replicate 23 7 refused 3
    -- no command: nothing changes; 16,384 bytes of names
    ∷ on pool1 ask empty lend 5 ∷ 6 ∷ [] answered 0 left pool1 written (5 ∷ 6 ∷ [])
    ∷ on pool1 ask batch_of [] (replicate 16_384 120) lend [] answered 0 left pool1 written []
    -- 256 commands
    ∷ on pool1 ask batch_of (many 256) [] lend replicate 6_144 7 answered 256 left pool1 written replies (many 256)
    -- what lies beyond 24C is unchanged
    ∷ on pool1 ask one lend replicate 30 7 answered 1 left pool1 written (kind 0 nothing ++ replicate 6 7)
    -- a mark open at the end is rolled back without an answer: the next stamp alone differs
    ∷ on pool1 ask batch_of half (letters half) lend replicate 72 7 answered 3 left set pool1 28 5 written replies half
    ∷ []

as_stated : Call → Bool
as_stated c =
    let o = batch c.pool c.words c.lent in let r = c.result in
    all (eqb o.code r.code ∷ eqb o.answered r.answered ∷ same o.pool r.pool ∷ same o.answers r.answers ∷ [])

batches : every as_stated calls ≡ true
unfolding Cases.opened pool1 damaged empty one many half calls as_stated
batches = refl

-- ---- create: slots, trees, text size and the length of the buffer

infix 70 slots◌trees◌text◌buffer◌
abbrev slots◌trees◌text◌buffer◌ : ℕ → ℕ → ℕ → ℕ → ℕ × ℕ × ℕ × ℕ
slots N trees T text X buffer n = (N, T, X, n)

-- 4 BAD_SIZE, the buffer unchanged
bad_size : ℕ × ℕ × ℕ × ℕ → Bool
bad_size s =
    let b : List ℕ = replicate s.3 7 in let c = create s.0 s.1 s.2 b in
    all (eqb c.code 4 ∷ same c.buffer b ∷ [])

bad_sizes : every bad_size
    (slots 0 trees 1 text 0 buffer 40  -- no slot, 1,025 slots
    ∷ slots 1_025 trees 1 text 0 buffer 32_840
    ∷ slots 1 trees 0 text 0 buffer 64  -- no tree, 9 trees
    ∷ slots 1 trees 9 text 0 buffer 136
    ∷ slots 1 trees 1 text 8_193 buffer 8_265  -- 8,193 bytes of text
    ∷ slots 1 trees 1 text 2 buffer 73  -- a buffer one short, one long, none
    ∷ slots 1 trees 1 text 2 buffer 75
    ∷ slots 1 trees 1 text 2 buffer 0
    ∷ slots 1_024 trees 8 text 8_192 buffer 41_055
    ∷ []) ≡ true
unfolding Cases.opened bad_size
bad_sizes = refl

-- 0, and the buffer stays as long as it is
good_size : ℕ × ℕ × ℕ × ℕ → Bool
good_size s =
    let c = create s.0 s.1 s.2 (replicate s.3 7) in
    all (eqb c.code 0 ∷ eqb (length c.buffer) s.3 ∷ [])

good_sizes : every good_size
    (slots 1 trees 1 text 0 buffer 72  -- the least
    ∷ slots 1_024 trees 8 text 8_192 buffer 41_056  -- the largest
    ∷ []) ≡ true
unfolding Cases.opened good_size
good_sizes = refl

-- a fresh pool, byte by byte
fresh_pool :
    (create 1 2 3 (replicate 83 7)).buffer
    ≡ 1 ∷ 0 ∷ 1 ∷ 0 ∷ 2 ∷ 0 ∷ 0 ∷ 0 ∷ 32 ∷ 0 ∷ 0 ∷ 0 ∷ 48 ∷ 0 ∷ 0 ∷ 0 ∷ 80 ∷ 0 ∷ 0 ∷ 0 ∷ 3 ∷ 0 ∷ 0 ∷ 0 ∷ 0 ∷ 0 ∷ 0 ∷ 0 ∷ 1 ∷ 0 ∷ 0 ∷ 0
    ∷ replicate 51 0
unfolding Cases.opened
fresh_pool = refl

-- ---- check

checks : (check pool1 ≡ 0) × (check (fresh 2 2 3) ≡ 0) × (check damaged ≡ 1) × (check [] ≡ 1)
unfolding Cases.opened pool1 damaged
checks = (refl, refl, refl, refl)

-- ---- name

-- two trees: key 10 with the name a is in tree 1, key 20 with the name ab in tree 2
unfoldable pub two_trees : List ℕ
two_trees =
    let ls = add 10 ⇒ kind 0 nothing ∷ add 20 in_tree 2 named 0 long 2 ⇒ kind 0 nothing ∷ [] in
    (outcome (fresh 3 2 8) (batch_of ls (letters ls))).pool

good_handles : (name two_trees 1 1 1 ≡ 97 ∷ []) × (name two_trees 2 2 2 ≡ 97 ∷ 98 ∷ [])
unfolding Cases.opened two_trees
good_handles = (refl, refl)

nameless : List (List ℕ × ℕ × ℕ × ℕ)
nameless =
    (two_trees, 1, 1, 2)  -- another stamp
    ∷ (two_trees, 1, 3, 3)  -- a free slot
    ∷ (two_trees, 1, 3, 0)
    ∷ (two_trees, 2, 1, 1)  -- another tree
    ∷ (two_trees, 1, 2, 2)
    ∷ (two_trees, 1, 0, 0)  -- slot 0, slot above N
    ∷ (two_trees, 1, 4, 1)
    ∷ (two_trees, 0, 1, 1)  -- tree 0, tree above T
    ∷ (two_trees, 3, 1, 1)
    ∷ (set two_trees 0 2, 1, 1, 1)  -- an unsound pool
    ∷ []

bad_handles : every (λ (h : List ℕ × ℕ × ℕ × ℕ). same (name h.0 h.1 h.2 h.3) []) nameless ≡ true
unfolding Cases.opened two_trees nameless
bad_handles = refl
