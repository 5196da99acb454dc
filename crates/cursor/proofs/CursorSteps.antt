-- What the code's cursor says of a place for a record. Assumes nothing.
use Rattle.std.proofs.Common.{ℕ, ◌≡◌, refl}
use Rattle.avl.specs.Tree.{right}
use Rattle.tree.specs.declared.dir.Dir.{Dir as CodeDir}
use Rattle.cursor.specs.Cursor.{cursor_of, hung_n}
use Rattle.cursor.specs.declared.cursor.Cursor.{Cursor as CodeCursor}
use Rattle.cursor.specs.declared.cursor.Cursor.TheVariants.{Nowhere, Occupied, Vacant, First, Last}

-- Any cursor but a vacant entry has none.
pub none_hung : (s : CodeCursor) → ((t x : ℕ) (d : CodeDir) (k : ℕ) → s ≡ Vacant t x d k → ⊥) → (0, right) ≡ hung_n (cursor_of s)
unfolding hung_n
none_hung Nowhere h = refl
none_hung (Occupied t x) h = refl
none_hung (Vacant t x d k) h = absurd (h t x d k refl)
none_hung (First t x) h = refl
none_hung (Last t x) h = refl
