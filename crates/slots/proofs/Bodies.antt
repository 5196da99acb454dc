-- The records and the text of a well-formed pool are rows that hold any one of its trees, as crate `tree` says it. Assumes nothing.
use Rattle.std.proofs.Common.{◌≡◌, ℕ, suc, ◌+◌, ◌^◌, ◌<◌, ◌≤◌, Bool, true, false, cond, eqb, leb, List, [], ◌∷◌, ◌++◌, length, get_or, sym, refl, ap, ◌∙◌, ap₂, add-zero, add-suc, suc-add, arith, eqb-true, le-leb}
use Rattle.std.proofs.Math.Option.{Option, none, some}
use Rattle.std.proofs.lemmas.List.{length-replicate}
use Rattle.fields.specs.Number.{digits}
use Rattle.avl.specs.Tree.{left, Tree, leaf, node, list, height}
use Rattle.avl.specs.Links.{Links, unlinked, links_in}
use Rattle.tree.specs.Held.{one, times, room, Fits}
use Rattle.tree.specs.Section.{Cargo, row, rows_from, holding}
use Rattle.tree.proofs.Records.{Rows}
use Rattle.meaning.specs.Layout.{pack, bit, concat, count, at}
use Rattle.meaning.specs.Pool.{Rec, Pool, rec_at, tree_at, lives_in, links_at, record_bytes, record_rows}
use Rattle.meaning.specs.WellFormed.{WellFormed}
use Rattle.meaning.proofs.Facts.{test, both_true, length_pack}
use Rattle.meaning.proofs.Members.{count_node, lives, tree_levels}
use Rattle.meaning.proofs.Stored.{links_out}
use Rattle.slots.specs.Image.{text_bytes, body_of, cargo_of, elsewhere}

-- ---- a tree's slots

one_bit : (c : Bool) → one c ≡ bit c
one_bit true = refl
one_bit false = refl

-- A tree has a slot as often as its list.
pub times_count : (x : ℕ) (t : Tree) → times x t ≡ count (eqb x) (list left t)
unfolding times count list
times_count x leaf = refl
times_count x (node l s b r) =
    omega (arith, count_node x l s b r, one_bit (eqb x s), times_count x l, times_count x r)

-- A tree of a pool has a slot once if the slot lives in it, else never.
pub times_lives : (p : Pool) (t x : ℕ) → WellFormed p → 1 ≤ t → t ≤ length p.trees → times x (tree_at p t) ≡ bit (lives_in t (rec_at p x))
times_lives p t x v lo hi = times_count x (tree_at p t) ∙ (v.trees t lo hi).once x

room_one : (N x : ℕ) → 1 ≤ x → x ≤ N → room N x ≡ 1
unfolding room
room_one N x lo hi = ap one (both_true (leb 1 x) (leb x N) (le-leb 1 x lo) (le-leb x N hi))

-- each tree fits the slots and is at most 14 levels high
pub tree_fits : (p : Pool) (t : ℕ) → WellFormed p → 1 ≤ t → t ≤ length p.trees
    → Fits (length p.slots) (tree_at p t) × (height (tree_at p t) ≤ 14)
tree_fits p t v lo hi = (record { once = once }, tree_levels p t v lo hi)
  where
    once : (x : ℕ) → times x (tree_at p t) ≤ room (length p.slots) x
    once x =
        let live = lives_in t (rec_at p x) in
        let e = times_lives p t x v lo hi in
        test live
        (λ h. let l = lives p t x h in omega (arith, e, ap bit h, room_one (length p.slots) x l.low l.high))
        (λ h. omega (arith, e, ap bit h))

-- ---- the rows

cargo_long : (r : Option Rec) → length (cargo_of r).rest ≡ 17
unfolding cargo_of
cargo_long none = length-replicate {A = ℕ} 17 0
cargo_long (some r) = length_pack _

key_fits : (p : Pool) (x : ℕ) → WellFormed p → (r : Option Rec) → rec_at p x ≡ r → (cargo_of r).key < 256 ^ 8
unfolding cargo_of
key_fits p x v none e = omega arith
key_fits p x v (some r) e = (v.recs x r e).key_high

-- the rows are of the right size and their keys fit
pub body_rows : (p : Pool) → WellFormed p → Rows (λ x. cargo_of (rec_at p x)) (length p.slots)
body_rows p v =
    record {
      few = v.slots_high;
      whole = record { long = λ x. cargo_long (rec_at p x) };
      keys_high = λ x. key_fits p x v (rec_at p x) refl;
    }

-- the row of a live slot has the links that its tree gives it, that of a free one has none
record_row : (p : Pool) (x : ℕ) (r : Rec) → record_bytes p x (some r) ≡ row (links_at p r.tree x) (cargo_of (some r))
unfolding record_bytes row cargo_of pack
record_row p x r = refl

free_row : (p : Pool) (x : ℕ) → record_bytes p x none ≡ row unlinked (cargo_of none)
unfolding record_bytes row cargo_of digits
free_row p x = refl

-- a slot that does not live in a tree has no links there
other_links : (p : Pool) (t x : ℕ) → WellFormed p → 1 ≤ t → t ≤ length p.trees → lives_in t (rec_at p x) ≡ false → (k : Links)
    → links_in (tree_at p t) 0 x k ≡ k
other_links p t x v lo hi h k = links_out (tree_at p t) 0 x k ((v.trees t lo hi).once x ∙ ap bit h)

-- so its row has its links, whichever tree is looked at
slot_row : (p : Pool) (t x : ℕ) → WellFormed p → 1 ≤ t → t ≤ length p.trees → (r : Option Rec) → rec_at p x ≡ r
    → record_bytes p x r ≡ row (links_in (tree_at p t) 0 x (elsewhere p t x r)) (cargo_of r)
unfolding elsewhere lives_in links_at
slot_row p t x v lo hi none e =
    free_row p x ∙ ap (λ (k : Links). row k (cargo_of none)) (sym (other_links p t x v lo hi (ap (lives_in t) e) unlinked))
slot_row p t x v lo hi (some r) e = record_row p x r ∙ ap (λ (k : Links). row k (cargo_of (some r))) (sym (go (eqb r.tree t) refl))
  where
    go : (c : Bool) → eqb r.tree t ≡ c → links_in (tree_at p t) 0 x (cond c unlinked (links_at p r.tree x)) ≡ links_at p r.tree x
    go true h = ap (λ (u : ℕ). links_at p u x) (sym (eqb-true r.tree t h))
    go false h = other_links p t x v lo hi (ap (lives_in t) e ∙ h) (links_at p r.tree x)

-- rows that are the same, slot by slot
rows_are : (p : Pool) (k : ℕ → Links) (c : ℕ → Cargo) (x : ℕ) (rs : List (Option Rec))
    → ((i : ℕ) → i < length rs → record_bytes p (x + i) (get_or rs i none) ≡ row (k (x + i)) (c (x + i)))
    → concat (record_rows p x rs) ≡ rows_from k c x (length rs)
unfolding record_rows concat rows_from
rows_are p k c x [] h = refl
rows_are p k c x (r ∷ rs) h =
    ap₂ ◌++◌ (rw add-zero at (h 0 (omega arith))) (rows_are p k c (suc x) rs (λ i l. rw (suc-add x i, ← add-suc x i) (h (suc i) (omega arith))))

slot_at : (p : Pool) (i : ℕ) → get_or p.slots i none ≡ rec_at p (1 + i)
unfolding rec_at at
slot_at p i = let e : suc i ≡ 1 + i = omega arith in ap (at none p.slots) e

-- the records and the text of a pool are rows that hold any one of its trees
pub body_holding : (p : Pool) (t : ℕ) → WellFormed p → 1 ≤ t → t ≤ length p.trees
    → body_of p ≡ holding (tree_at p t) (λ x. elsewhere p t x (rec_at p x)) (λ x. cargo_of (rec_at p x)) (length p.slots) (text_bytes p)
unfolding body_of holding
body_holding p t v lo hi =
    ap (λ (l : List ℕ). l ++ text_bytes p)
    (rows_are p _ _ 1 p.slots (λ i h. ap (record_bytes p (1 + i)) (slot_at p i) ∙ slot_row p t (1 + i) v lo hi (rec_at p (1 + i)) refl))
