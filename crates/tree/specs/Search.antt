-- A model: what the code computes. No door's promise cites it, and it need not be believed.
-- entry's search on record bytes. Assumes nothing.
use Rattle.std.specs.Prelude.{ℕ, zero, suc, cond, List, ◌==◌}
use Rattle.avl.specs.Tree.{Dir, left, right}
use Rattle.avl.specs.Search.{three}
use Rattle.avl.specs.Order.{by_key}
use Rattle.tree.specs.Node.{child, get_n, key_n}

-- where a search ends: the record found or 0, the record above it, the side on which it hangs, and how many keys were compared
pub record Ending : Type 0 where
  pub slot : ℕ
  pub above : ℕ
  pub side : Dir
  pub compared : ℕ

-- from x, which hangs below p on side e, after n comparisons
unfoldable pub seek_n : ℕ → List ℕ → ℕ → ℕ → ℕ → Dir → ℕ → Ending
seek_n zero m key x p e n = record { slot = 0; above = p; side = e; compared = n }
seek_n (suc k) m key x p e n =
    let l = seek_n k m key (get_n m x (child left)) x left (suc n) in
    let r = seek_n k m key (get_n m x (child right)) x right (suc n) in
    let here : Ending = record { slot = x; above = p; side = e; compared = suc n } in
    cond (x == 0) (record { slot = 0; above = p; side = e; compared = n }) (three (by_key (key_n m) key x) l here r)
