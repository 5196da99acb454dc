-- The changes of a pool under way, run on its body and its head, give the body and the head of the changed pool: a record put in, taken out, added.
-- Assumes nothing.
use Rattle.std.proofs.Common.{◌≡◌, ℕ, suc, ◌+◌, ◌-◌, ◌*◌, ◌≤◌, cond, eqb, List, ◌∷◌, length, drop, sym, refl, ap, ◌∙◌, subst, ap₂, arith, length-append}
use Rattle.std.proofs.Math.Option.{Option, none, some}
use Rattle.fields.specs.Part.{part, splice}
use Rattle.avl.specs.Tree.{left, Tree, list}
use Rattle.avl.specs.Way.{above, side}
use Rattle.avl.specs.Links.{unlinked, links_in}
use Rattle.avl.specs.Search.{entry, add, remove_by_key}
use Rattle.tree.specs.Rotate.{Store}
use Rattle.tree.specs.Insert.{more_n, insert_n}
use Rattle.tree.specs.Remove.{less_n, remove_n}
use Rattle.tree.specs.Held.{tree_of}
use Rattle.tree.specs.Section.{holding}
use Rattle.tree.specs.declared.node.AvlTree.{AvlTree}
use Rattle.tree.proofs.Records.{Rows, add_rows, remove_rows}
use Rattle.meaning.specs.Layout.{bit, count, put}
use Rattle.meaning.specs.Pool.{Rec, Pool, rec_at, tree_at, key_at, is_live, lives_in, live_count}
use Rattle.meaning.specs.Change.{with_trees, with_text, with_next, by_key_in, free_from, free_slot, put_rec, drop_rec, new_rec, add_rec}
use Rattle.meaning.specs.WellFormed.{WellFormed}
use Rattle.meaning.specs.States.{Fits}
use Rattle.meaning.proofs.Changes.{put_good, drop_good, grown, grown_good, add_fits}
use Rattle.meaning.proofs.Facts.{length_put}
use Rattle.meaning.proofs.Formed.{Edited, formed, room, put_edited, put_gap, put_split, drop_edited, drop_stands, drop_split}
use Rattle.meaning.proofs.Good.{Addable}
use Rattle.meaning.proofs.Members.{list_short, slot_in}
use Rattle.meaning.proofs.Packed.{count_high}
use Rattle.meaning.proofs.Stored.{links_out}
use Rattle.slots.specs.Record.{fill_n, clear_n, lowest_n}
use Rattle.slots.specs.Head.{tree_n, set_tree_n, with_numbers}
use Rattle.slots.specs.Change.{Image, free_after_n, hung_n, put_rec_n, freed_n, taken_n, drop_rec_n, add_rec_n}
use Rattle.slots.specs.Image.{text_bytes, body_of, head_of, table_of, record_of, cargo_of, elsewhere}
use Rattle.slots.specs.declared.head.Head.{Head}
use Rattle.slots.proofs.Bodies.{body_holding, body_rows, tree_fits}
use Rattle.slots.proofs.Looking.{lowest_image, tree_image}
use Rattle.slots.proofs.Filling.{fill_section, clear_section}
use Rattle.slots.proofs.Heads.{head_as, table_entry, table_put, more_one, less_one, count_put, free_put, free_drop}
use Rattle.slots.proofs.Texts.{name_body, name_head}
use Rattle.slots.proofs.Edits.{links_but, cargo_in, own_links, edited_body, edited_cargo, entry_vacant, entry_occupied, slot_new}

-- the tree of a record
abbrev home : Pool → Rec → Tree
home p r = tree_at p r.tree

-- ---- one slot and one tree changed

-- the table of the trees of p with the tree t of q is that of q
changed_table : (p q : Pool) (x : ℕ) (o : Option Rec) (t : ℕ) (u : Tree) → Edited p q x o t u → q.trees ≡ put p.trees t u → WellFormed p → 1 ≤ t
    → t ≤ length p.trees → set_tree_n (table_of 8 p.trees) t (table_entry (tree_at q t)) ≡ table_of 8 q.trees
changed_table p q x o t u e i w low high =
    ap (λ (v : Tree). set_tree_n (table_of 8 p.trees) t (table_entry v)) e.tree ∙ table_put p.trees t u low high w.trees_high ∙ ap (table_of 8) (sym i)

-- the body that a change of p leaves, and its head, with the tree t that it leaves; text and stamp are those of q
abbrev left_by : Pool → Pool → ℕ → ℕ → (List ℕ → ℕ) → Store → Image
left_by p q t live free o = (
  o.0,
  record {
    numbers = with_numbers (head_of p).numbers live (free o.0) (length q.text) q.next;
    table = set_tree_n (table_of 8 p.trees) t o.1;
  },
)

-- they are those of q, if body, tree and numbers are
changed_image : (p q : Pool) (t live : ℕ) (free : List ℕ → ℕ) {o : Store} → o ≡ (body_of q, table_entry (tree_at q t)) → length q.slots ≡ length p.slots
    → length q.trees ≡ length p.trees → p.size ≡ q.size → live ≡ live_count q → free (body_of q) ≡ free_slot q
    → set_tree_n (table_of 8 p.trees) t (table_entry (tree_at q t)) ≡ table_of 8 q.trees → left_by p q t live free o ≡ (body_of q, head_of q)
changed_image p q t live free e a b c d f g =
    ap (left_by p q t live free) e
    ∙ ap (λ (h : Head). (body_of q, h)) (head_as p q live _ _ (sym a) (sym b) c d f g)

-- ---- a record in

module _ (p : Pool) (w : WellFormed p) (x : ℕ) (r : Rec) (f : Fits p x r) where
  abbrev with_it : Pool
  with_it = put_rec x r p

  put_edit : Edited p with_it x (some r) r.tree (add (by_key_in p r.key) x (home p r))
  put_edit = put_edited x r p (formed w) (room f)

  put_slots : length with_it.slots ≡ length p.slots
  unfolding put_rec with_trees
  put_slots = length_put p.slots x (some r)

  put_free : links_but p r.tree x ≡ unlinked
  unfolding elsewhere
  put_free = ap (elsewhere p r.tree x) f.free

  -- the record's own fields, and the tree as it was
  put_filled : fill_n (body_of p) x (record_of r)
      ≡ holding (home p r) (links_but p r.tree) (cargo_in with_it) (length p.slots) (text_bytes p)
  unfolding holding
  put_filled =
      ap (λ (m : List ℕ). fill_n m x (record_of r)) (body_holding p r.tree w f.good.tree_low f.good.tree_high)
      ∙ fill_section (λ y. links_in (home p r) 0 y (links_but p r.tree y)) (cargo_in p) (cargo_in with_it)
      (length p.slots) x r (text_bytes p) (body_rows p w).whole f.slot_low f.slot_high (ap cargo_of f.free) (ap cargo_of put_edit.slot)
      (edited_cargo put_edit)

  put_body : body_of with_it
      ≡ holding (add (by_key_in p r.key) x (home p r)) (links_but p r.tree) (cargo_in with_it) (length p.slots) (text_bytes p)
  unfolding put_rec with_trees text_bytes
  put_body =
      edited_body put_edit (put_good x r p w f) put_slots f.good.tree_low f.good.tree_high put_free (own_links with_it x r)

  -- its tree counts one more
  put_many : more_n (length (list left (home p r))) ≡ length (list left (tree_at with_it r.tree))
  put_many =
      let g = put_gap x r p (formed w) (room f) in
      more_one (length (list left (home p r))) (omega (arith, list_short p r.tree w f.good.tree_low f.good.tree_high, w.slots_high))
      ∙ omega (
        arith,
        ap length g.split ∙ length-append g.low g.high,
        ap length (put_split x r p (formed w) (room f)) ∙ length-append g.low (x ∷ g.high),
      )

  put_hung : (let q = (entry (by_key_in p r.key) (home p r)).way in hung_n (body_of p) (tree_n (head_of p).table r.tree) x (record_of r) (above q) (side q))
      ≡ (body_of with_it, table_entry (tree_at with_it r.tree))
  unfolding hung_n
  put_hung =
      let t = r.tree in
      let low = f.good.tree_low in
      let high = f.good.tree_high in
      let q = (entry (by_key_in p r.key) (home p r)).way in
      let rows : Rows (cargo_in with_it) (length p.slots) = subst (Rows (cargo_in with_it)) put_slots (body_rows with_it (put_good x r p w f)) in
      ap₂ (λ (m : List ℕ) (v : AvlTree). insert_n 14 m v x (above q) (side q)) put_filled (tree_image p w t low high)
      ∙ add_rows (links_but p t) (cargo_in with_it) (length p.slots) (text_bytes p) rows (by_key_in p r.key) (home p r) x (length (list left (home p r)))
      (entry_vacant p t r.key w low high f.new) (tree_fits p t w low high).0
      (slot_new p t x w low high f.slot_low f.slot_high f.free) (w.trees t low high).balanced (tree_fits p t w low high).1 put_free
      ∙ ap₂ (λ (m : List ℕ) (v : AvlTree). (m, v)) (sym put_body) (ap₂ tree_of (sym put_edit.tree) put_many)

  -- the head's numbers
  put_live : more_n (live_count p) ≡ live_count with_it
  unfolding live_count put_rec with_trees rec_at is_live
  put_live =
      more_one (count is_live p.slots) (omega (arith, count_high is_live p.slots, w.slots_high))
      ∙ omega (arith, count_put none is_live p.slots x (some r) f.slot_low f.slot_high, ap (λ (o : Option Rec). bit (is_live o)) f.free)

  put_lowest : free_after_n (body_of with_it) (length p.slots) (free_slot p) x ≡ free_slot with_it
  unfolding free_after_n free_slot put_rec with_trees rec_at
  put_lowest =
      let s = put p.slots x (some r) in
      let after : lowest_n (length p.slots - x) (body_of with_it) x ≡ free_from (suc x) (drop x s) =
      ap (λ (n : ℕ). lowest_n (n - x) (body_of with_it) x) (sym put_slots)
      ∙ lowest_image with_it (put_good x r p w f) x (omega (arith, put_slots, f.slot_high)) in
      ap (λ (n : ℕ). cond (eqb x (free_from 1 p.slots)) n (free_from 1 p.slots)) after ∙ sym (free_put p.slots x r f.slot_low f.slot_high f.free)

-- A record put into a free slot and into its tree.
pub put_image : (p : Pool) → WellFormed p → (x : ℕ) (r : Rec) → Fits p x r
    → (let q = (entry (by_key_in p r.key) (tree_at p r.tree)).way in put_rec_n (body_of p) (head_of p) x (record_of r) (above q) (side q))
    ≡ (body_of (put_rec x r p), head_of (put_rec x r p))
unfolding put_rec_n head_of record_of put_rec with_trees
put_image p w x r f =
    let e = put_edit p w x r f in
    changed_image p (put_rec x r p) r.tree (more_n (live_count p)) (λ m. free_after_n m (length p.slots) (free_slot p) x) (put_hung p w x r f)
    (put_slots p w x r f) e.many refl (put_live p w x r f) (put_lowest p w x r f)
    (changed_table p (put_rec x r p) x _ r.tree _ e refl w f.good.tree_low f.good.tree_high)

-- ---- a record out

module _ (p : Pool) (w : WellFormed p) (x : ℕ) (r : Rec) (live : rec_at p x ≡ some r) where
  abbrev without_it : Pool
  without_it = drop_rec x r p

  abbrev tree_left : Tree
  tree_left = remove_by_key (by_key_in p r.key) (home p r)

  drop_home : (1 ≤ r.tree) × (r.tree ≤ length p.trees)
  drop_home = ((w.recs x r live).tree_low, (w.recs x r live).tree_high)

  drop_edit : Edited p without_it x none r.tree tree_left
  drop_edit = drop_edited x r p (formed w) live

  drop_slots : length without_it.slots ≡ length p.slots
  unfolding drop_rec with_trees
  drop_slots = length_put p.slots x none

  drop_own : links_but p r.tree x ≡ unlinked
  drop_own = ap (elsewhere p r.tree x) live ∙ own_links p x r

  -- the tree without the record gives it no links
  drop_bare : links_in tree_left 0 x (links_but p r.tree x) ≡ unlinked
  unfolding lives_in
  drop_bare =
      let g = (drop_good x r p w live).trees r.tree drop_home.0 (omega (arith, drop_edit.many, drop_home.1)) in
      links_out tree_left 0 x (links_but p r.tree x)
      (ap (λ (u : Tree). count (eqb x) (list left u)) (sym drop_edit.tree) ∙ g.once x ∙ ap (λ (o : Option Rec). bit (lives_in r.tree o)) drop_edit.slot)
      ∙ drop_own

  drop_cleared : clear_n (holding tree_left (links_but p r.tree) (cargo_in p) (length p.slots) (text_bytes p)) x
      ≡ holding tree_left (links_but p r.tree) (cargo_in without_it) (length p.slots) (text_bytes p)
  unfolding holding
  drop_cleared =
      let s = slot_in p x r live in
      clear_section (λ y. links_in tree_left 0 y (links_but p r.tree y)) (cargo_in p) (cargo_in without_it)
      (length p.slots) x (text_bytes p) (body_rows p w).whole s.0 s.1 drop_bare (ap cargo_of drop_edit.slot) (edited_cargo drop_edit)

  drop_body : body_of without_it
      ≡ holding tree_left (links_but p r.tree) (cargo_in without_it) (length p.slots) (text_bytes p)
  unfolding drop_rec with_trees text_bytes elsewhere
  drop_body = edited_body drop_edit (drop_good x r p w live) drop_slots drop_home.0 drop_home.1 drop_own refl

  -- its tree counts one less
  drop_many : less_n (length (list left (home p r))) ≡ length (list left (tree_at without_it r.tree))
  drop_many =
      let s = drop_stands x r p (formed w) live in
      let n = length (list left (tree_at without_it r.tree)) in
      let e : length (list left (home p r)) ≡ suc n = omega (
        arith,
        ap length s.split ∙ length-append s.low (x ∷ s.high),
        ap length (drop_split x r p (formed w) live) ∙ length-append s.low s.high,
      ) in
      ap less_n e ∙ less_one n

  drop_taken : taken_n (body_of p) (tree_n (head_of p).table r.tree) x ≡ (body_of without_it, table_entry (tree_at without_it r.tree))
  unfolding taken_n
  drop_taken =
      let t = r.tree in
      let low = drop_home.0 in
      let high = drop_home.1 in
      let fits = tree_fits p t w low high in
      let removed =
      ap₂ (λ (m : List ℕ) (v : AvlTree). remove_n 14 m v x) (body_holding p t w low high) (tree_image p w t low high)
      ∙ remove_rows (links_but p t) (cargo_in p) (length p.slots) (text_bytes p) (body_rows p w) (by_key_in p r.key) (home p r) (length (list left (home p r)))
      (entry_occupied p x r w live).is fits.0 (w.trees t low high).balanced fits.1 drop_own in
      ap (λ (o : Store). (clear_n o.0 x, o.1)) removed
      ∙ ap₂ (λ (m : List ℕ) (v : AvlTree). (m, v)) (drop_cleared ∙ sym drop_body) (ap₂ tree_of (sym drop_edit.tree) drop_many)

  -- the head's numbers
  drop_live : less_n (live_count p) ≡ live_count without_it
  unfolding live_count drop_rec with_trees rec_at is_live
  drop_live =
      let s = slot_in p x r live in
      let n = count is_live (put p.slots x none) in
      let e : count is_live p.slots ≡ suc n =
      omega (arith, count_put none is_live p.slots x none s.0 s.1, ap (λ (o : Option Rec). bit (is_live o)) live) in
      ap less_n e ∙ less_one n

  drop_lowest : freed_n (free_slot p) x ≡ free_slot without_it
  unfolding free_slot drop_rec with_trees
  drop_lowest = let s = slot_in p x r live in sym (free_drop p.slots x s.0 s.1)

-- A record taken out of its slot and its tree.
pub drop_image : (p : Pool) → WellFormed p → (x : ℕ) (r : Rec) → rec_at p x ≡ some r
    → drop_rec_n (body_of p) (head_of p) x r.tree ≡ (body_of (drop_rec x r p), head_of (drop_rec x r p))
unfolding drop_rec_n head_of drop_rec with_trees
drop_image p w x r live =
    let e = drop_edit p w x r live in
    let h = drop_home p w x r live in
    changed_image p (drop_rec x r p) r.tree (less_n (live_count p)) (λ m. freed_n (free_slot p) x) (drop_taken p w x r live) (drop_slots p w x r live)
    e.many refl (drop_live p w x r live) (drop_lowest p w x r live) (changed_table p (drop_rec x r p) x _ r.tree _ e refl w h.0 h.1)

-- ---- a new record with its name

-- A new record in the lowest free slot, its name at the end of the text.
pub add_image : (p : Pool) → WellFormed p → (t k : ℕ) (name : List ℕ) → Addable p t k name → (names : List ℕ) (from : ℕ) → part names from (length name) ≡ name
    → (let q = (entry (by_key_in p k) (tree_at p t)).way in add_rec_n (body_of p) (head_of p) (record_of (new_rec t k name p)) names from (above q) (side q))
    ≡ (body_of (add_rec t k name p), head_of (add_rec t k name p))
unfolding add_rec_n head_of record_of new_rec add_rec with_next with_text by_key_in key_at rec_at tree_at
add_image p w t k name a names from given =
    let q = (entry (by_key_in p k) (tree_at p t)).way in
    let place = 32 * length p.slots + length p.text in
    ap₂ (λ (m : List ℕ) (h : Head). put_rec_n m h (free_slot p) (record_of (new_rec t k name p)) (above q) (side q))
    (ap (splice (body_of p) place) given ∙ name_body p name a.text) (name_head p name w a.stamp)
    ∙ put_image (grown p name) (grown_good p t k name w a) (free_slot p) (new_rec t k name p) (add_fits p t k name w a)
