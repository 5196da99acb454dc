-- A batch: its commands are as bytes give them, and a row of commands keeps a state good to its end. Assumes nothing.
use Rattle.std.proofs.Common.{◌≡◌, ℕ, zero, suc, ◌+◌, ◌*◌, ◌≤◌, true, ◌&&◌, leb, List, [], ◌∷◌, map, length, take, drop, sym, subst, arith, leb-true}
use Rattle.std.proofs.Math.Option.{Option, none}
use Rattle.fields.specs.Number.{get_le, Bytes}
use Rattle.fields.specs.Part.{part}
use Rattle.fields.proofs.Parts.{within?, part_in, part_out, length_part}
use Rattle.meaning.specs.Layout.{rows, within}
use Rattle.meaning.specs.Pool.{Pool}
use Rattle.meaning.specs.Cursor.{Command, State}
use Rattle.meaning.specs.Command.{perform}
use Rattle.meaning.specs.Doors.{n_commands, command, commands, run, begun, ended}
use Rattle.meaning.specs.WellFormed.{WellFormed}
use Rattle.meaning.specs.States.{shut, at_nowhere, GoodState, Parsed}
use Rattle.meaning.proofs.Bytes.{bytes_none}
use Rattle.meaning.proofs.Facts.{both, bytes_drop, bytes_take}
use Rattle.meaning.proofs.Clauses.{within_is}
use Rattle.meaning.proofs.Sections.{get_bound}
use Rattle.meaning.proofs.Journals.{rolled_good}
use Rattle.meaning.proofs.Commands.{marked_at, perform_good}

-- every command of a list is as a batch of bytes gives it
pub data AllParsed : List Command → Type 0 where
  none_left : AllParsed []
  and_then : {c : Command} {cs : List Command} → Parsed c → AllParsed cs → AllParsed (c ∷ cs)

-- ---- the commands of a batch

bytes_part : (b : List ℕ) (i n : ℕ) → Bytes b → Bytes (part b i n)
bytes_part b i n a =
    within? (i + n) (length b) (λ h. subst Bytes (sym (part_in b i n h)) (bytes_take n (drop i b) (bytes_drop i b a)))
    (λ h. subst Bytes (sym (part_out b i n h)) bytes_none)

command_parsed : (names r : List ℕ) → Bytes names → Bytes r → Parsed (command names r)
unfolding command
command_parsed names r a b =
    record {
      key_high = get_bound 8 r 8 b;
      name_bytes = bytes_part names at len a;
      name_low = λ h. let k = fits h in omega (arith, k.1, length_part names at len k.0);
      name_high = λ h. let k = fits h in omega (arith, k.2, length_part names at len k.0);
    }
  where
    at : ℕ
    at = get_le 4 r 16

    len : ℕ
    len = get_le 2 r 20

    fits : (within 1 255 len && leb (at + len) (length names)) ≡ true → (at + len ≤ length names) × (1 ≤ len) × (len ≤ 255)
    fits h =
        let k = both (within 1 255 len) (leb (at + len) (length names)) h in
        let l = within_is 1 255 len k.0 in
        (leb-true (at + len) (length names) k.1, l.0, l.1)

-- The commands of a batch of bytes are parsed ones.
pub commands_parsed : (b : List ℕ) → Bytes b → AllParsed (commands b)
unfolding commands rows
commands_parsed b a = go (drop (16 + 24 * n_commands b) b) (bytes_drop (16 + 24 * n_commands b) b a) (n_commands b) (drop 16 b) (bytes_drop 16 b a)
  where
    go : (names : List ℕ) → Bytes names → (n : ℕ) (r : List ℕ) → Bytes r → AllParsed (map (command names) (rows n 24 r))
    go names a zero r h = none_left
    go names a (suc n) r h = and_then (command_parsed names (take 24 r) a (bytes_take 24 r h)) (go names a n (drop 24 r) (bytes_drop 24 r h))

-- ---- a batch from its beginning to its end

-- A batch begins in a good state.
pub begun_good : (p : Pool) → WellFormed p → GoodState none (begun p)
unfolding begun
begun_good p good = record { pool = good; cursor = at_nowhere; journal = shut }

-- A row of commands keeps a state good.
pub run_good : (w : Option Pool) (s : State) (cs : List Command) → AllParsed cs → GoodState w s → (v : Option Pool) × GoodState v (run s cs).state
unfolding run
run_good w s [] none_left g = (w, g)
run_good w s (c ∷ cs) (and_then h hs) g = run_good (marked_at w s c) (perform s c).state cs hs (perform_good w s c h g)

-- What is left at its end is well-formed.
pub ended_good : (w : Option Pool) (s : State) → GoodState w s → WellFormed (ended s)
unfolding ended
ended_good w s g = rolled_good w s.mark s.pool g.pool g.journal
