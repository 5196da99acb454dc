-- The numbers of the ops. Assumes nothing.
use Rattle.std.specs.Prelude.{◌≡◌, false, ℕ, Result, MatchResult}
use Rattle.format.specs.declared.refusal.Refusal.{Refusal}
use Rattle.format.specs.declared.refusal.Refusal.TheVariants.{BadOp}
use Rattle.tree.specs.declared.dir.Dir.{Dir}
use Rattle.tree.specs.declared.dir.Dir.TheVariants.{Left, Right}
use Rattle.meaning.specs.Layout.{within}
use Rattle.meaning.specs.Command.{last_op}
use Rattle.ops.specs.declared.op.Alter.{Alter}
use Rattle.ops.specs.declared.op.Alter.TheVariants as altering
use Rattle.ops.specs.declared.op.Op.{Op}
use Rattle.ops.specs.declared.op.Op.TheVariants as kind
use Rattle.ops.specs.declared.op.Settle.{Settle}
use Rattle.ops.specs.declared.op.Settle.TheVariants as settling
use Rattle.ops.specs.declared.op.Show.{Show}
use Rattle.ops.specs.declared.op.Show.TheVariants as showing

-- the one on the left, the other on the right
abbrev pub by_side : Dir → ℕ → ℕ → ℕ
by_side Left l r = l
by_side Right l r = r

abbrev pub show_number : Show → ℕ
show_number showing.Get = 2
show_number (showing.Beside d) = by_side d 6 5
show_number (showing.End d) = by_side d 7 8
show_number showing.Entry = 9
show_number (showing.EndEntry d) = by_side d 10 11
show_number (showing.Peek d) = by_side d 13 12
show_number (showing.Move d) = by_side d 15 14

abbrev pub alter_number : Alter → ℕ
alter_number altering.Add = 1
alter_number altering.RemoveByKey = 3
alter_number altering.Remove = 4
alter_number (altering.InsertBeside d) = by_side d 16 17
alter_number (altering.InsertAndMove d) = by_side d 18 19
alter_number altering.InsertNode = 20
alter_number altering.RemoveHere = 21
alter_number (altering.RemoveBeside d) = by_side d 22 23
alter_number (altering.InsertEnd d) = by_side d 25 24

abbrev pub settle_number : Settle → ℕ
settle_number settling.Mark = 26
settle_number settling.Rollback = 27
settle_number settling.Commit = 28
settle_number settling.Reset = 29

abbrev pub op_number : Op → ℕ
op_number (kind.Show op) = show_number op
op_number (kind.Alter op) = alter_number op
op_number (kind.Settle op) = settle_number op

-- the op of this number, or that it is no op's
abbrev pub Parses : ℕ → Result Op Refusal → Type 0
Parses n r = MatchResult r (λ op. op_number op ≡ n) (λ why. (why ≡ BadOp) × (within 1 last_op n ≡ false))
