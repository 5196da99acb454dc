-- Keys rise over the whole walk: the smallest pools that a comparison of each child with its parent would pass, and that are not sound. In each
-- pair the two pools differ in one key. Assumes nothing.
use Rattle.std.proofs.Common.{◌≡◌, ℕ, ◌+◌, ◌*◌, true, false, List, [], ◌∷◌, refl}
use Rattle.meaning.specs.Layout.{pack, concat}
use Rattle.meaning.specs.Sound.{sound}
use Rattle.meaning.proofs.Cases

-- a pool of N records in one tree with root 1, whose names are one shared byte
pool : ℕ → List (List ℕ) → List ℕ
pool N records =
    concat (pack ((2, 1) ∷ (2, N) ∷ (2, 1) ∷ (2, N) ∷ (4, 32) ∷ (4, 40) ∷ (4, 40 + 32 * N) ∷ (4, 1) ∷ (4, 1) ∷ (4, N + 1) ∷ [])
    ∷ pack ((2, 1) ∷ (2, N) ∷ (4, 0) ∷ []) ∷ concat records ∷ (97 ∷ []) ∷ [])

-- slot x, with a key, a left and a right child, a parent and a balance
infix 90 slot◌key◌left◌right◌parent◌balance◌
slot◌key◌left◌right◌parent◌balance◌ : ℕ → ℕ → ℕ → ℕ → ℕ → ℕ → List ℕ
slot x key k left l right r parent p balance b =
    pack ((8, k) ∷ (2, l) ∷ (2, r) ∷ (2, p) ∷ (1, b) ∷ (1, 1) ∷ (4, x) ∷ (4, 0) ∷ (2, 1) ∷ (6, 0) ∷ [])

-- two records, the second to the right of the first
two : ℕ → List ℕ
two k =
    pool 2
    (slot 1 key 5 left 0 right 2 parent 0 balance 1
    ∷ slot 2 key k left 0 right 0 parent 1 balance 0
    ∷ [])

-- four records: 10, to its left 5 and to its right 30, and to the right of 5 the last
four : ℕ → List ℕ
four k =
    pool 4
    (slot 1 key 10 left 2 right 3 parent 0 balance 2
    ∷ slot 2 key 5 left 0 right 4 parent 1 balance 1
    ∷ slot 3 key 30 left 0 right 0 parent 1 balance 0
    ∷ slot 4 key k left 0 right 0 parent 2 balance 0
    ∷ [])

equal_keys_are_seen : (sound (two 6) ≡ true) × (sound (two 5) ≡ false)
unfolding Cases.opened two pool slot◌key◌left◌right◌parent◌balance◌
equal_keys_are_seen = (refl, refl)

-- 20 lies to the right of 5, but 5 and all below it lie to the left of 10
order_across_a_border_is_seen : (sound (four 7) ≡ true) × (sound (four 20) ≡ false)
unfolding Cases.opened four pool slot◌key◌left◌right◌parent◌balance◌
order_across_a_border_is_seen = (refl, refl)
