-- The default tree, the entries of the table loaded, and those stored one by one. Assumes nothing.
use Rattle.std.proofs.Common.{◌≡◌, ℕ, ◌+◌, ◌<◌, ◌≤◌, List, [], ◌∷◌, length, get_or, drop, sym, refl, ap, ◌∙◌, arith, drop_of_length-le}
use Rattle.std.proofs.Math.Numerals.{add-one}
use Rattle.std.proofs.Math.Seq.{drop-cons}
use Rattle.fields.specs.Number.{put_le}
use Rattle.tree.specs.declared.node.AvlTree.{AvlTree}
use Rattle.slots.specs.Head.{no_tree, entry_n, table_n, put_entry_n, put_table_n, store_n}
use Rattle.slots.specs.declared.head.Head.{Head}

-- What a default tree is.
pub no_tree_is : {t : AvlTree} → (t.root ≡ 0) × (t.count ≡ 0) → t ≡ no_tree
no_tree_is {t} e = zeros e.0 e.1 where
  zeros : {root count : ℕ} → root ≡ 0 → count ≡ 0 → record { root = root; count = count } ≡ no_tree
  zeros e1 e2 = (cc)

-- A table is its eight entries.
listed : (ts : List AvlTree) → length ts ≡ 8
    → ts ≡ get_or ts 0 no_tree ∷ get_or ts 1 no_tree ∷ get_or ts 2 no_tree ∷ get_or ts 3 no_tree ∷ get_or ts 4 no_tree ∷ get_or ts 5 no_tree ∷ get_or ts 6 no_tree ∷ get_or ts 7 no_tree ∷ []
listed (a ∷ b ∷ c ∷ d ∷ e ∷ f ∷ g ∷ h ∷ []) long = refl
listed [] long = absurd (omega (arith, long))
listed (a ∷ []) long = absurd (omega (arith, long))
listed (a ∷ b ∷ []) long = absurd (omega (arith, long))
listed (a ∷ b ∷ c ∷ []) long = absurd (omega (arith, long))
listed (a ∷ b ∷ c ∷ d ∷ []) long = absurd (omega (arith, long))
listed (a ∷ b ∷ c ∷ d ∷ e ∷ []) long = absurd (omega (arith, long))
listed (a ∷ b ∷ c ∷ d ∷ e ∷ f ∷ []) long = absurd (omega (arith, long))
listed (a ∷ b ∷ c ∷ d ∷ e ∷ f ∷ g ∷ []) long = absurd (omega (arith, long))
listed (a ∷ b ∷ c ∷ d ∷ e ∷ f ∷ g ∷ h ∷ i ∷ rest) long = absurd (omega (arith, long))

-- The entries that `load` reads, each by its index.
pub table_read : (b : List ℕ) (T : ℕ) (ts : List AvlTree) → length ts ≡ 8
    → ((i : ℕ) → i < 8 → get_or ts i no_tree ≡ entry_n b T i) → ts ≡ table_n b T
unfolding table_n
table_read b T ts long each =
    let e : (i : ℕ) → i < 8 → get_or ts i no_tree ≡ entry_n b T i = each in
    cc (
      listed ts long,
      e 0 (omega arith),
      e 1 (omega arith),
      e 2 (omega arith),
      e 3 (omega arith),
      e 4 (omega arith),
      e 5 (omega arith),
      e 6 (omega arith),
      e 7 (omega arith),
    )

first : (b : List ℕ) (T i : ℕ) (v : AvlTree) (vs : List AvlTree) → put_table_n b T i (v ∷ vs) ≡ put_table_n (put_entry_n b T i v) T (i + 1) vs
unfolding put_table_n
first b T i v vs = refl

-- The entries from i on are left for `store`: with the first of them stored, those from i + 1 on.
pub put_next : (b : List ℕ) (T i : ℕ) (ts : List AvlTree) {next : List ℕ} → i < length ts → next ≡ put_entry_n b T i (get_or ts i no_tree)
    → put_table_n next T (i + 1) (drop (i + 1) ts) ≡ put_table_n b T i (drop i ts)
put_next b T i ts h e =
    let rest : drop i ts ≡ get_or ts i no_tree ∷ drop (i + 1) ts = rw (add-one i) (drop-cons ts i no_tree h) in
    ap (λ (m : List ℕ). put_table_n m T (i + 1) (drop (i + 1) ts)) e ∙ sym (ap (put_table_n b T i) rest ∙ first b T i (get_or ts i no_tree) (drop (i + 1) ts))

-- What `store` has stored once no entry is left.
pub store_end : (b : List ℕ) (h : Head) (i : ℕ) {b1 b2 b3 last : List ℕ} → length h.table ≡ 8 → 8 ≤ i → b1 ≡ put_le 2 b 6 h.numbers.live
    → b2 ≡ put_le 4 b1 24 h.numbers.used → b3 ≡ put_le 4 b2 28 h.numbers.next
    → put_table_n last h.numbers.trees i (drop i h.table) ≡ put_table_n b3 h.numbers.trees 0 h.table → last ≡ store_n b h
unfolding store_n put_table_n
store_end b h i {last = last} long past e1 e2 e3 left =
    let none : drop i h.table ≡ [] = drop_of_length-le h.table (omega arith) in
    sym (ap (put_table_n last h.numbers.trees i) none) ∙ left ∙ ap (put_table_n _ h.numbers.trees 0) (listed h.table long) ∙ (cc)
