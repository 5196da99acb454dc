-- Op 9 and the list: two pools with the same lists of entries, in which op 9 shows different records for one absent key. Assumes nothing.
use Rattle.std.proofs.Common.{◌≡◌, true, false, [], ◌∷◌, refl}
use Rattle.std.proofs.Math.Option.{some}
use Rattle.avl.specs.Tree.{left, right, even, heavy, Tree, leaf, node}
use Rattle.meaning.proofs.Lines
use Rattle.meaning.specs.Meant
use Rattle.meaning.specs.Pool.{Pool, bytes}
use Rattle.meaning.specs.Sound.{sound}
use Rattle.meaning.specs.Cursor.{Command}
use Rattle.meaning.specs.Command.{perform}
use Rattle.meaning.specs.Doors.{begun}
use Rattle.meaning.specs.Meant.{Entry, entries_of, shown}

-- two records, 10 in slot 1 and 20 in slot 2, in a tree of this shape
unfoldable pub two : Tree → Pool
two t = record {
  slots =
      some (record { tree = 1; key = 10; stamp = 1; start = 0; len = 1 })
      ∷ some (record { tree = 1; key = 20; stamp = 2; start = 1; len = 1 })
      ∷ [];
  trees = t ∷ [];
  text = 97 ∷ 98 ∷ [];
  size = 16;
  next = 3;
}

-- 10 at the top, 20 to its right
unfoldable pub low_top : Pool
low_top = two (node leaf 1 (heavy right) (node leaf 2 even leaf))

-- 20 at the top, 10 to its left
unfoldable pub high_top : Pool
high_top = two (node (node leaf 1 even leaf) 2 (heavy left) leaf)

-- op 9 for the key 15
unfoldable pub entry15 : Command
entry15 = record { op = 9; tree = 1; slot = 0; stamp = 0; key = 15; name = []; named = false }

-- the two entries
abbrev pub ten : Entry
ten = record { key = 10; slot = 1; stamp = 1; start = 0; name = 97 ∷ [] }

abbrev pub twenty : Entry
twenty = record { key = 20; slot = 2; stamp = 2; start = 1; name = 98 ∷ [] }

-- Both pools are sound and have the list 10, 20; op 9 for the key 15 shows 20 in the one and 10 in the other: the record that the key would hang on.
pub not_by_the_list : (sound (bytes low_top) ≡ true) × (sound (bytes high_top) ≡ true)
    × (entries_of low_top 1 ≡ ten ∷ twenty ∷ []) × (entries_of high_top 1 ≡ ten ∷ twenty ∷ [])
    × ((perform (begun low_top) entry15).answer ≡ shown 0 2 (some twenty)) × ((perform (begun high_top) entry15).answer ≡ shown 0 2 (some ten))
unfolding Lines.opened Meant.opened two low_top high_top entry15
not_by_the_list = (refl, refl, refl, refl, refl, refl)
