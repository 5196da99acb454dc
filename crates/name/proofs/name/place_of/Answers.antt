-- `place_of`: no place where it refuses, and the place of the name in the pool.
use Rattle.std.proofs.Common.{arith}
use Rattle.name.proofs.NameSteps.{unsound, room, refused, low, place_small, placed}
use Rattle.name.proofs.name.place_of.Goals.{then-not-is_sound-via-then-not-is_sound, then-not-is_sound-via-else-not-is_sound+then-not-handle_ok}
use Rattle.name.proofs.name.place_of.Goals as goal

pub handle_ok-requires : goal.handle_ok-requires
handle_ok-requires c = room _ 0 0 0 c.is_sound.ensures c.if-not-is_sound.false

pub returns-then-not-is_sound-clause-place : goal.returns-then-not-is_sound-clause-place
returns-then-not-is_sound-clause-place c =
    elim c.then-not-is_sound.branch [
      | then-not-is_sound-via-then-not-is_sound w ↦ unsound _ _ _ _ c.is_sound.ensures w.if-not-is_sound.true
      | then-not-is_sound-via-else-not-is_sound+then-not-handle_ok w ↦ refused _ _ _ _ c.is_sound.ensures w.if-not-is_sound.false w.handle_ok.ensures
          w.if-not-handle_ok.true
    ]

pub overflow_sub-row : goal.overflow_sub-row
overflow_sub-row c = low _ _ _ _ c.is_sound.ensures c.if-not-is_sound.false c.handle_ok.ensures c.if-not-handle_ok.false

pub overflow_cast-result : goal.overflow_cast-result
overflow_cast-result c =
    omega (
      arith,
      place_small _ _ _ _ c.is_sound.ensures c.if-not-is_sound.false c.handle_ok.ensures c.if-not-handle_ok.false c.get.ensures c.get-2.ensures
          c.get-3.ensures c.get-len.ensures,
    )

pub returns-clause-place : goal.returns-clause-place
returns-clause-place c =
    placed _ _ _ _ c.is_sound.ensures c.if-not-is_sound.false c.handle_ok.ensures c.if-not-handle_ok.false c.get.ensures c.get-2.ensures
    c.get-3.ensures c.get-len.ensures
