-- A sound pool, read, is well-formed: its records, its trees and the whole. Assumes nothing.
use Rattle.std.proofs.Common.{◌≡◌, ℕ, zero, suc, ◌+◌, ◌*◌, ◌^◌, ◌<◌, ◌≤◌, Bool, true, eqb, List, [], length, get_or, take, drop, sym, ap, ◌∙◌, subst, arith}
use Rattle.std.proofs.Math.Option.{some}
use Rattle.fields.specs.Number.{Bytes}
use Rattle.avl.specs.Tree.{left, Tree, list, Balanced}
use Rattle.avl.specs.Order.{Sorted, LessKey}
use Rattle.avl.proofs.Sorting.{all_map}
use Rattle.meaning.specs.Layout.{bit, count, at}
use Rattle.meaning.specs.Pool.{Rec, rec_at, tree_at, key_at, n_slots, n_trees, text_used, next_stamp, root_of, key_in, entries, records, text_of, read_rec, read_tree, read}
use Rattle.meaning.specs.Sound.{sound}
use Rattle.meaning.specs.WellFormed.{GoodRec, GoodTree, WellFormed}
use Rattle.meaning.proofs.Facts.{bytes_take, bytes_drop}
use Rattle.meaning.proofs.Clauses.{Header, LiveFacts, RowFacts, TreeFacts, Clauses, clauses}
use Rattle.meaning.proofs.Sections.{row_bytes, get_bound}
use Rattle.meaning.proofs.Hanging.{once_each}
use Rattle.meaning.proofs.Contents.{length_slots, length_trees, length_used, rec_of, read_free, read_live, rec_read, lives_read, row_of, key_read, tree_read}

-- ---- its records

-- A live row is read as a record that fits the pool.
pub live_good : (b : List ℕ) (r : List ℕ) → Header b → Bytes r → LiveFacts (n_trees b) (text_used b) (next_stamp b) r → GoodRec (read b) (rec_of r)
unfolding rec_of read key_in
live_good b r h a f =
    record {
      tree_low = f.tree_low;
      tree_high = omega (arith, f.tree_high, length_trees b);
      key_high = get_bound 8 r 0 a;
      stamp_low = f.stamp_low;
      stamp_high = f.stamp_high;
      len_low = f.len_low;
      len_high = f.len_high;
      name_fits = omega (arith, f.name_fits, length_used b h);
    }

bytes_at : (b : List ℕ) → Bytes b → (x : ℕ) → Bytes (at [] (records b) x)
unfolding at records
bytes_at b a zero = record { below = λ k. omega arith }
bytes_at b a (suc i) = row_bytes (n_slots b) 32 (drop (32 + 8 * n_trees b) b) (bytes_drop (32 + 8 * n_trees b) b a) i

-- Every record of the pool fits it.
pub rec_good : (b : List ℕ) → Bytes b → Clauses b → (x : ℕ) (r : Rec) → rec_at (read b) x ≡ some r → GoodRec (read b) r
rec_good b a c x r e = go (at [] (records b) x) (bytes_at b a x) (row_of b c x) (sym (rec_read b x) ∙ e)
  where
    go : (q : List ℕ) → Bytes q → RowFacts (n_trees b) (text_used b) (next_stamp b) q → read_rec q ≡ some r → GoodRec (read b) r
    go q k (RowFacts.free z _) e = let f = read_free q z in let apart : ◌≡◌ {A = ℕ} 0 1 = cc in absurd (omega arith)
    go q k (RowFacts.live f) e =
        let g = read_live q f.tree_low in
        let same : rec_of q ≡ r = cc in
        subst (λ (s : Rec). GoodRec (read b) s) same (live_good b q c.head k f)

-- ---- its trees

sorted_map : {R S : ℕ → ℕ → Type 0} {w : List ℕ} → ((x y : ℕ) → R x y → S x y) → Sorted R w → Sorted S w
sorted_map f Sorted.nil = Sorted.nil
sorted_map f (Sorted.rise {x = x} a s) = Sorted.rise (all_map (f x) a) (sorted_map f s)

-- Every tree of the pool is good.
pub tree_good : (b : List ℕ) → Clauses b → (j : ℕ) → j < n_trees b → GoodTree (read b) (suc j)
unfolding at
tree_good b c j h =
    let rs = records b in
    let e = get_or (entries b) j [] in
    let v = read_tree rs (length rs) (root_of e) in
    let f : TreeFacts rs (suc j) e = c.tree j h in
    let k : tree_at (read b) (suc j) ≡ v = tree_read b (suc j) in
    let keys : Sorted (LessKey (key_at (read b))) (list left v) =
    sorted_map (λ x y less. omega (arith, less, key_read b c x, key_read b c y)) f.keys_rise in
    record {
      once = λ x. ap (λ (u : Tree). count (eqb x) (list left u)) k ∙ once_each rs (suc j) e (omega arith) f x
          ∙ ap (λ (c : Bool). bit c) (sym (lives_read b (suc j) x (omega arith)));
      keys_rise = subst (λ (u : Tree). Sorted (LessKey (key_at (read b))) (list left u)) (sym k) keys;
      balanced = subst (λ (u : Tree). Balanced u) (sym k) f.balanced;
    }

trees_good : (b : List ℕ) → Clauses b → (t : ℕ) → 1 ≤ t → t ≤ n_trees b → GoodTree (read b) t
trees_good b c zero lo hi = absurd (omega arith)
trees_good b c (suc j) lo hi = tree_good b c j hi

-- ---- the whole

next_high : (b : List ℕ) → Bytes b → next_stamp b < 256 ^ 4
unfolding next_stamp
next_high b a = get_bound 4 b 28 a

text_bytes_lem : (b : List ℕ) → Bytes b → Bytes (take (text_used b) (text_of b))
unfolding text_of
text_bytes_lem b a =
    let n = 32 + 8 * n_trees b + 32 * n_slots b in
    bytes_take (text_used b) (drop n b) (bytes_drop n b a)

-- A pool of which the clauses hold, read, is well-formed.
pub clauses_good : (b : List ℕ) → Bytes b → Clauses b → WellFormed (read b)
unfolding read
clauses_good b a c =
    let h = c.head in
    let n = length_slots b in let m = length_trees b in let u = length_used b h in
    record {
      slots_low = omega (arith, h.slots_low);
      slots_high = omega (arith, h.slots_high);
      trees_low = omega (arith, h.trees_low);
      trees_high = omega (arith, h.trees_high);
      size_high = h.size_high;
      used_fits = omega (arith, h.used_fits);
      text_bytes = text_bytes_lem b a;
      next_low = h.next_low;
      next_high = next_high b a;
      recs = rec_good b a c;
      trees = λ t lo hi. trees_good b c t lo (omega arith);
    }

-- A sound pool, read, is well-formed.
pub read_good : (b : List ℕ) → Bytes b → sound b ≡ true → WellFormed (read b)
read_good b a s = clauses_good b a (clauses b s)
