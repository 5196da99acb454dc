-- `create`: refused by the sizes, or the header stored into zeros.
use Rattle.std.proofs.Common.{arith}
use Rattle.create.proofs.CreateSteps.{limits, refused, created}
use Rattle.create.proofs.create.create.Goals as goal

pub returns-then-not-sizes_ok : goal.returns-then-not-sizes_ok
returns-then-not-sizes_ok c = refused c.args.n c.args.t c.args.x c.args.buffer.now c.sizes_ok.ensures c.if-not-sizes_ok.true

pub overflow_cast-n : goal.overflow_cast-n
overflow_cast-n c = omega (arith, (limits c.args.n c.args.t c.args.x c.args.buffer.now c.sizes_ok.ensures c.if-not-sizes_ok.false).slots)

pub overflow_cast-t : goal.overflow_cast-t
overflow_cast-t c = omega (arith, (limits c.args.n c.args.t c.args.x c.args.buffer.now c.sizes_ok.ensures c.if-not-sizes_ok.false).trees)

pub returns : goal.returns
returns c = created c.args.n c.args.t c.args.x c.args.buffer.now c.sizes_ok.ensures c.if-not-sizes_ok.false c.zero_out.ensures
    c.write_header.ensures
