-- `check_twig`: its answers, each by the tests and choices on the way to it.
use Rattle.std.proofs.Common.{◌*◌, ◌≤◌, length, arith}
use Rattle.judge.proofs.Flat.{length_flat}
use Rattle.judge.proofs.Twigs.{pick_bit, pick_most, pick_slot, shaped_in, twig_unshaped, twig_bare, twig_good}
use Rattle.judge.specs.Walk.{bytes, slots}
use Rattle.judge.specs.declared.walk.Tree.{Tree}
use Rattle.judge.proofs.walk.Record.check_twig.Goals as goal

pub overflow_add-even : goal.overflow_add-even
overflow_add-even c = omega (arith, pick_bit _ c.pick-left_height.ensures)

pub overflow_add-even-2 : goal.overflow_add-even-2
overflow_add-even-2 c = omega (arith, pick_bit _ c.pick-left_height.ensures)

pub overflow_add-even-3 : goal.overflow_add-even-3
overflow_add-even-3 c = omega (arith, pick_bit _ c.pick-right_height.ensures)

pub overflow_add-even-4 : goal.overflow_add-even-4
overflow_add-even-4 c = omega (arith, pick_bit _ c.pick-right_height.ensures)

-- the bytes of the records
room : (t : Tree) → 32 * slots t ≤ length (bytes t)
room t = omega (arith, length_flat t.records.rows.now t.records.wide)

pub returns-then-not-inside-balance : goal.returns-then-not-inside-balance
returns-then-not-inside-balance c =
    twig_unshaped _ c.args.self.part.tree.records.bytes _ _ _ _ _ _ c.args.self.some c.args.self.inside (room c.args.self.part.tree) c.args.self.part.tree.records.few
    c.requires.2 c.row-own.ensures c.get-left.ensures c.get-right.ensures c.get-balance.ensures c.pick-left_height.ensures
    c.pick-right_height.ensures c.if-not-inside-balance.true

pub invariant_of-left_side : goal.invariant_of-left_side
invariant_of-left_side c =
    record { low = c.args.self.part.low; high = pick_most _ _ _ _ c.pick.ensures c.args.self.inside c.args.self.part.high }

pub has_word-left_fits-requires : goal.has_word-left_fits-requires
has_word-left_fits-requires c =
    let i = (shaped_in (slots c.args.self.part.tree) c.get-left.result c.get-right.result _ _ c.if-not-inside-balance.false).0 in
    (pick_slot _ _ c.pick-2.ensures c.args.self.some, pick_most _ _ _ _ c.pick-2.ensures i c.args.self.inside)

pub invariant_of-right_side : goal.invariant_of-right_side
invariant_of-right_side c =
    record { low = pick_most _ _ _ _ c.pick-4.ensures c.args.self.inside c.args.self.part.low; high = c.args.self.part.high }

pub has_word-right_fits-requires : goal.has_word-right_fits-requires
has_word-right_fits-requires c =
    let i = (shaped_in (slots c.args.self.part.tree) c.get-left.result c.get-right.result _ _ c.if-not-inside-balance.false).1 in
    (pick_slot _ _ c.pick-5.ensures c.args.self.some, pick_most _ _ _ _ c.pick-5.ensures i c.args.self.inside)

pub returns-then-not-left_fits-right_fits : goal.returns-then-not-left_fits-right_fits
returns-then-not-left_fits-right_fits c =
    twig_bare _ c.args.self.part.tree.records.bytes _ _ _ _ _ _ c.args.self.some c.args.self.inside (room c.args.self.part.tree) c.args.self.part.tree.records.few
    c.requires.2 c.row-own.ensures c.get-left.ensures c.get-right.ensures c.get-balance.ensures c.pick-left_height.ensures
    c.pick-right_height.ensures c.if-not-inside-balance.false c.get-word.ensures
    c.pick-2.ensures c.pick-3.ensures c.pick.ensures c.has_word-left_fits.ensures c.pick-5.ensures c.pick-6.ensures c.pick-4.ensures
    c.has_word-right_fits.ensures c.if-not-left_fits-right_fits.true

pub returns : goal.returns
returns c =
    omega (
      arith,
      twig_good _ c.args.self.part.tree.records.bytes _ _ _ _ _ _ c.args.self.some c.args.self.inside (room c.args.self.part.tree) c.args.self.part.tree.records.few
          c.requires.2 c.row-own.ensures c.get-left.ensures c.get-right.ensures c.get-balance.ensures c.pick-left_height.ensures
          c.pick-right_height.ensures c.if-not-inside-balance.false c.get-word.ensures
          c.pick-2.ensures c.pick-3.ensures c.pick.ensures c.has_word-left_fits.ensures c.pick-5.ensures c.pick-6.ensures c.pick-4.ensures
          c.has_word-right_fits.ensures c.if-not-left_fits-right_fits.false,
    )
