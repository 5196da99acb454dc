-- A command as it is read. Assumes nothing.
use Rattle.std.proofs.Common.{◌≡◌, ℕ, ◌+◌, ◌-◌, ◌*◌, ◌≤◌, List, length, take, drop, ap, ◌∙◌, arith}
use Rattle.fields.specs.Number.{get_le}
use Rattle.fields.proofs.Spans.{get_part}
use Rattle.cursor.specs.Tests.{command_n}
use Rattle.cursor.specs.declared.command.Command.{Command}

-- ---- a command

module _ (w : List ℕ) (k : ℕ) (fits : 16 + 24 * (k + 1) ≤ length w) where
  abbrev start : ℕ
  start = 16 + 24 * k

  -- its bytes
  abbrev row : List ℕ
  row = take (start + 24 - start) (drop start w)

  in_place : (f n : ℕ) → f + n ≤ 24 → get_le n row f ≡ get_le n w (start + f)
  in_place f n h =
      let whole : start + 24 - start ≡ 24 = omega arith in
      ap (λ (i : ℕ). get_le n (take i (drop start w)) f) whole ∙ get_part w start 24 f n h (omega (arith, fits))

  -- What `read_command` reads, in its order.
  pub command_read : {key stamp at len slot op tree : ℕ} → key ≡ get_le 8 row 8 → stamp ≡ get_le 4 row 4 → at ≡ get_le 4 row 16
      → len ≡ get_le 2 row 20 → slot ≡ get_le 2 row 2 → op ≡ get_le 1 row 0 → tree ≡ get_le 1 row 1
      → ◌≡◌ {A = Command} (record { key = key; stamp = stamp; at = at; len = len; slot = slot; op = op; tree = tree }) (command_n w k)
  unfolding command_n
  command_read e1 e2 e3 e4 e5 e6 e7 =
      let first : start + 0 ≡ start = omega arith in
      let f1 = in_place 8 8 (omega arith) in
      let f2 = in_place 4 4 (omega arith) in
      let f3 = in_place 16 4 (omega arith) in
      let f4 = in_place 20 2 (omega arith) in
      let f5 = in_place 2 2 (omega arith) in
      let f6 = in_place 0 1 (omega arith) in
      let f7 = in_place 1 1 (omega arith) in
      (cc)
