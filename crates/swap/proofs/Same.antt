-- The theorem: the Rust's removal and ours leave the same links and balances, root and count, on all records that hold a tree. specs/Claim has its
-- words, specs/Rust the Rust's way. Assumes nothing.
use Rattle.std.proofs.Common.{◌≡◌, ℕ, ◌≤◌, List, ◌++◌, sym, ◌∙◌, subst}
use Rattle.avl.specs.Tree.{Tree, height, Balanced, node}
use Rattle.avl.specs.Links.{Links}
use Rattle.avl.specs.Way.{root, plug}
use Rattle.tree.specs.Walk.{levels}
use Rattle.tree.specs.Remove.{remove_n}
use Rattle.tree.specs.Held.{over, Roomy, Fits, tree_of}
use Rattle.tree.specs.Section.{Cargo, section, holding}
use Rattle.tree.proofs.Records.{Rows, roomy, rows_held}
use Rattle.tree.proofs.Trees.{remove_held}
use Rattle.swap.specs.Rust.{rust_remove}
use Rattle.swap.specs.Claim.{Hold, Has, Enough, our_remove}
use Rattle.swap.proofs.Size.{levels_enough}
use Rattle.swap.proofs.Removal.{swap_held, Spot, stands_at, spot}

-- a record wherever it stands
same_at : {N : ℕ} {x : ℕ} {t : Tree} → Spot x t → (turns count : ℕ) (m : List ℕ) → Roomy N m → Fits N t → Balanced t → height t ≤ turns
    → rust_remove turns (over t 0 m) (tree_of t count) x ≡ remove_n levels (over t 0 m) (tree_of t count) x
same_at {x = x} (stands_at p l b r) turns count m o f i h =
    swap_held turns l x b r p count m o f i h ∙ sym (remove_held m o l x b r p count f i (levels_enough (plug p (node l x b r)) f o.slots_high i))

-- Whatever record of whatever tree that the bytes hold is removed, the Rust's removal and ours leave the same bytes, and so the same links and balances
-- in every record, and the same root and count.
pub rust_removal_is_ours : (N : ℕ) (bytes : List ℕ) (t : Tree) (x turns count : ℕ) → Hold N bytes t → Has t x → Enough turns t
    → rust_remove turns bytes (tree_of t count) x ≡ our_remove bytes (tree_of t count) x
unfolding our_remove plug
rust_removal_is_ours N bytes t x turns count held has enough =
    subst (λ (y : List ℕ). rust_remove turns y (tree_of t count) x ≡ remove_n levels y (tree_of t count) x) held.links
    (same_at (spot x t root has.stands) turns count held.below held.roomy held.each_once held.balanced enough.levels_in)

-- The records of a pool, as the crates above have them, are such bytes.
pub rows_hold : (k : ℕ → Links) (c : ℕ → Cargo) (N : ℕ) (tail : List ℕ) → Rows c N → (t : Tree) → Fits N t → Balanced t → Hold N (holding t k c N tail) t
rows_hold k c N tail rows t f i =
    record { below = section k c N ++ tail; roomy = roomy k c N tail rows; each_once = f; balanced = i; links = rows_held k c N tail rows t f }
