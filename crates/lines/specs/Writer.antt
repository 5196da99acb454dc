-- A model: what the code computes. No door's promise cites it, and it need not be believed.
-- What a writer has room for, and what it wrote. Assumes nothing.
use Rattle.std.specs.Prelude.{◌≡◌, List, ℕ, ◌+◌, ◌≤◌, length}
use Rattle.lines.specs.Text.{wrote}
use Rattle.lines.specs.declared.text.Writer.{Writer}

-- the text fits behind what is written
abbrev pub HasRoom : Writer → List ℕ → Type 0
HasRoom w text = w.at + length text ≤ length w.out.now

-- the text is written into the same buffer
pub record Wrote (old : Writer) (text : List ℕ) (new : Writer) : Type 0 where
  pub buffer : new.out.ghost_name ≡ old.out.ghost_name
  pub is : (new.out.now, new.at) ≡ wrote old.out.now old.at text
