-- The states that a batch goes through: a pool that is well-formed, a cursor that fits it, a journal that leads back to the pool at the mark; and a
-- command as bytes give it. The demands are stated over these. Assumes nothing.
use Rattle.std.specs.Prelude.{true, List, [], ◌∷◌, ◌++◌, ◌≡◌, ℕ, ◌≤◌, ◌<◌, ◌^◌, length}
use Rattle.std.proofs.Math.Option.{Option, none, some}
use Rattle.fields.specs.Number.{Bytes}
use Rattle.avl.specs.Tree.{Dir, left, right, leaf, list}
use Rattle.avl.specs.Way.{Way, above, side}
use Rattle.avl.specs.Search.{entry}
use Rattle.avl.specs.Order.{All, first}
use Rattle.meaning.specs.Pool.{Rec, Pool, rec_at, tree_at, key_at, lives_in}
use Rattle.meaning.specs.Change.{by_key_in, put_rec, drop_rec, Change, added, removed, Mark}
use Rattle.meaning.specs.Cursor.{Command, Cursor, nowhere, occupied, vacant, first_entry, last_entry, State}
use Rattle.meaning.specs.WellFormed.{GoodRec, WellFormed}

-- ---- the journal of a mark

-- no record of tree t has the key k
abbrev pub NewKey : Pool → ℕ → ℕ → Type 0
NewKey p t k = All (λ y. key_at p y ≡ k → ⊥) (list left (tree_at p t))

-- the record r can be put into slot x
pub record Fits (p : Pool) (x : ℕ) (r : Rec) : Type 0 where
  pub slot_low : 1 ≤ x
  pub slot_high : x ≤ length p.slots
  pub free : rec_at p x ≡ none
  pub good : GoodRec p r
  pub new : NewKey p r.tree r.key

-- the same records in the same slots, listed alike by every tree; shapes, text and next stamp may differ
pub record Alike (p q : Pool) : Type 0 where
  pub slots : p.slots ≡ q.slots
  pub lists : (t : ℕ) → list left (tree_at p t) ≡ list left (tree_at q t)
  pub trees : length p.trees ≡ length q.trees
  pub size : p.size ≡ q.size

-- the changes, the last first, lead from p₀ to a pool
pub data Since (p₀ : Pool) : List Change → Pool → Type 0 where
  nothing : {q : Pool} → Alike p₀ q → Since p₀ [] q
  then_added : {cs : List Change} {p q : Pool} (x : ℕ) (r : Rec) → Since p₀ cs p → WellFormed p → Fits p x r → Alike (put_rec x r p) q
      → Since p₀ (added x ∷ cs) q
  then_removed : {cs : List Change} {p q : Pool} (x : ℕ) (r : Rec) → Since p₀ cs p → WellFormed p → rec_at p x ≡ some r → Alike (drop_rec x r p) q
      → Since p₀ (removed x r ∷ cs) q

-- the mark m was opened at p₀, and p came from there
pub record Held (p₀ : Pool) (m : Mark) (p : Pool) : Type 0 where
  pub used : m.used ≡ length p₀.text
  pub since : Since p₀ m.changes p
  pub extra : List ℕ
  pub text : p.text ≡ p₀.text ++ extra
  pub next : p₀.next ≤ p.next

-- no mark is open; or one is, that was opened at this pool
pub data Journal : Option Pool → Option Mark → Pool → Type 0 where
  shut : {p : Pool} → Journal none none p
  begun : {p₀ p : Pool} {m : Mark} → WellFormed p₀ → Held p₀ m p → Journal (some p₀) (some m) p

-- ---- the state, and a command

-- the cursor fits the pool: it is at a live record of its tree, or at the place where the search for its key ends, or at an end of its tree
pub data CursorOk (p : Pool) : Cursor → Type 0 where
  at_nowhere : CursorOk p nowhere
  at_occupied : {t x : ℕ} → 1 ≤ t → t ≤ length p.trees → lives_in t (rec_at p x) ≡ true → CursorOk p (occupied t x)
  at_vacant : {t x k : ℕ} {d : Dir} {q : Way} → 1 ≤ t → t ≤ length p.trees → k < 256 ^ 8
      → entry (by_key_in p k) (tree_at p t) ≡ record { part = leaf; way = q } → above q ≡ x → side q ≡ d → CursorOk p (vacant t x d k)
  at_first : {t x : ℕ} → 1 ≤ t → t ≤ length p.trees → x ≡ first (list left (tree_at p t)) → CursorOk p (first_entry t x)
  at_last : {t x : ℕ} → 1 ≤ t → t ≤ length p.trees → x ≡ first (list right (tree_at p t)) → CursorOk p (last_entry t x)

-- a state with the pool at its open mark, if there is one
pub record GoodState (origin : Option Pool) (s : State) : Type 0 where
  pub pool : WellFormed s.pool
  pub cursor : CursorOk s.pool s.cursor
  pub journal : Journal origin s.mark s.pool

-- a command as a batch of bytes gives it
pub record Parsed (c : Command) : Type 0 where
  pub key_high : c.key < 256 ^ 8
  pub name_bytes : Bytes c.name
  pub name_low : c.named ≡ true → 1 ≤ length c.name
  pub name_high : c.named ≡ true → length c.name ≤ 255
