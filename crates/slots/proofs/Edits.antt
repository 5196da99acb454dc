-- One slot and one tree of a pool changed, as a change of the rows that hold the tree: the links of every other tree stay. Where the search for
-- the record's key ends in the tree. Assumes nothing.
use Rattle.std.proofs.Common.{◌≡◌, ℕ, ◌+◌, ◌≤◌, Bool, true, false, cond, eqb, leb, List, ◌∷◌, ◌++◌, length, sym, refl, ap, ◌∙◌, subst, ap₂, arith, eq-eqb, eqb-true, le-leb}
use Rattle.std.proofs.Math.Decide.{ℕ_discrete}
use Rattle.std.proofs.Math.Option.{Option, none, some}
use Rattle.std.proofs.lemmas.Bool.{eqb-false}
use Rattle.avl.specs.Tree.{left, right, Bal, Tree, leaf, node, top, list}
use Rattle.avl.specs.Way.{before, after}
use Rattle.avl.specs.Links.{Links, unlinked, links_in}
use Rattle.avl.specs.Search.{Spot, entry, get}
use Rattle.avl.specs.Order.{All, sought}
use Rattle.avl.proofs.Answers.{Outcome, vacant, occupied, entry_outcome, get_sought}
use Rattle.avl.proofs.Keys.{keys, key_exact, key_same, same_key, side_on}
use Rattle.avl.proofs.Sorting.{all_head, all_back, all_map, sought_at}
use Rattle.tree.specs.Held.{one, times, room}
use Rattle.tree.specs.Section.{Cargo, section, holding}
use Rattle.tree.proofs.Sections.{section_same}
use Rattle.tree.proofs.Trees.{New}
use Rattle.meaning.specs.Layout.{bit}
use Rattle.meaning.specs.Pool.{Rec, Pool, rec_at, tree_at, key_at, lives_in, links_at}
use Rattle.meaning.specs.Change.{by_key_in}
use Rattle.meaning.specs.WellFormed.{WellFormed}
use Rattle.meaning.specs.States.{NewKey}
use Rattle.meaning.proofs.Facts.{test, both_true}
use Rattle.meaning.proofs.Formed.{Edited, formed, live_key, drop_stands, drop_around}
use Rattle.meaning.proofs.Members.{slot_in}
use Rattle.slots.specs.Image.{text_bytes, body_of, cargo_of, elsewhere}
use Rattle.slots.proofs.Bodies.{times_lives, tree_fits, body_holding}

-- ---- rows that hold a tree

-- the links of every slot elsewhere than in tree t, and what every slot holds besides its links
abbrev pub links_but : Pool → ℕ → ℕ → Links
links_but p t = λ y. elsewhere p t y (rec_at p y)

abbrev pub cargo_in : Pool → ℕ → Cargo
cargo_in p = λ y. cargo_of (rec_at p y)

-- rows that hold the same tree with the same links elsewhere are the same
holding_same : (t u : Tree) (k k₂ : ℕ → Links) (c : ℕ → Cargo) (N M : ℕ) (tail : List ℕ) → t ≡ u → ((x : ℕ) → k x ≡ k₂ x) → N ≡ M
    → holding t k c N tail ≡ holding u k₂ c M tail
unfolding holding
holding_same t u k k₂ c N M tail e h n =
    ap (λ (l : List ℕ). l ++ tail)
    (section_same (λ x. links_in t 0 x (k x)) (λ x. links_in u 0 x (k₂ x)) c N (λ x a b. ap₂ (λ (v : Tree) (l : Links). links_in v 0 x l) e (h x))
    ∙ ap (λ (i : ℕ). section (λ x. links_in u 0 x (k₂ x)) c i) n)

-- the links that a record has elsewhere than in tree t, in two pools whose other trees are the same
elsewhere_as : (p q : Pool) (t y : ℕ) → ((s : ℕ) → (s ≡ t → ⊥) → tree_at q s ≡ tree_at p s) → (o : Option Rec) → elsewhere q t y o ≡ elsewhere p t y o
unfolding elsewhere links_at
elsewhere_as p q t y h none = refl
elsewhere_as p q t y h (some r) =
    test (eqb r.tree t) (λ e. rw e)
    (λ e. ap (λ (v : Tree). cond (eqb r.tree t) unlinked (links_in v 0 y unlinked)) (h r.tree (eqb-false r.tree t e)))

-- A record has no links elsewhere than in its own tree.
pub own_links : (p : Pool) (x : ℕ) (r : Rec) → elsewhere p r.tree x (some r) ≡ unlinked
unfolding elsewhere
own_links p x r = rw (eq-eqb r.tree r.tree refl)

-- A pool of which one slot and one tree were changed: its body is the rows that hold the new tree, with the old links elsewhere.
pub edited_body : {p q : Pool} {x : ℕ} {o : Option Rec} {t : ℕ} {u : Tree} → Edited p q x o t u → WellFormed q → length q.slots ≡ length p.slots
    → 1 ≤ t → t ≤ length p.trees → elsewhere p t x (rec_at p x) ≡ unlinked → elsewhere q t x o ≡ unlinked
    → body_of q ≡ holding u (links_but p t) (cargo_in q) (length p.slots) (text_bytes q)
edited_body {p} {q} {x} {o} {t} {u} e w n low high was is =
    body_holding q t w low (omega (arith, e.many))
    ∙ holding_same (tree_at q t) u (links_but q t) (links_but p t) (cargo_in q) (length q.slots)
    (length p.slots) (text_bytes q) e.tree (λ y. go y (ℕ_discrete y x)) n
  where
    go : (y : ℕ) → Dec (y ≡ x) → elsewhere q t y (rec_at q y) ≡ elsewhere p t y (rec_at p y)
    go y (yes i) = subst (λ (z : ℕ). elsewhere q t z (rec_at q z) ≡ elsewhere p t z (rec_at p z)) (sym i) (ap (elsewhere q t x) e.slot ∙ is ∙ sym was)
    go y (no i) = ap (elsewhere q t y) (e.slots y i) ∙ elsewhere_as p q t y e.trees (rec_at p y)

-- And every other slot holds what it held.
pub edited_cargo : {p q : Pool} {x : ℕ} {o : Option Rec} {t : ℕ} {u : Tree} → Edited p q x o t u → (y : ℕ) → (y ≡ x → ⊥)
    → cargo_of (rec_at p y) ≡ cargo_of (rec_at q y)
edited_cargo e y n = ap cargo_of (sym (e.slots y n))

-- ---- the search for a record's key

-- It ends at an empty place, if no record of the tree has the key.
pub entry_vacant : (p : Pool) (t k : ℕ) → WellFormed p → 1 ≤ t → t ≤ length p.trees → NewKey p t k → (entry (by_key_in p k) (tree_at p t)).part ≡ leaf
unfolding by_key_in keys
entry_vacant p t k w low high new =
    go (entry_outcome (keys (key_at p)) (by_key_in p k) (key_exact (key_at p) k) (tree_at p t) (w.trees t low high).keys_rise)
  where
    go : {f : Spot} → Outcome (by_key_in p k) (list left (tree_at p t)) f → f.part ≡ leaf
    go (vacant e g l) = refl
    go (occupied {a = a} {s = s} {z = z} {p = q} e g m l) =
        let there = all_back (before left q ++ list left a) (s ∷ (list left z ++ after left q)) (subst (All (λ y. key_at p y ≡ k → ⊥)) e new) in
        absurd (all_head there (sym (same_key k (key_at p s) m)))

-- a tree with the record x at its top
pub record Topped (x : ℕ) (t : Tree) : Type 0 where
  pub low : Tree
  pub balance : Bal
  pub high : Tree
  pub is : t ≡ node low x balance high

topped : (x : ℕ) (t : Tree) → 1 ≤ x → top t ≡ x → Topped x t
topped x leaf h e = absurd (omega arith)
topped x (node l s b r) h e = record { low = l; balance = b; high = r; is = ap (λ (y : ℕ). node l y b r) e }

-- It ends at the record, if it is live.
pub entry_occupied : (p : Pool) (x : ℕ) (r : Rec) → WellFormed p → rec_at p x ≡ some r → Topped x (entry (by_key_in p r.key) (tree_at p r.tree)).part
unfolding by_key_in keys get
entry_occupied p x r w live =
    let t = tree_at p r.tree in
    let g = w.recs x r live in
    let s = drop_stands x r p (formed w) live in
    let a = drop_around x r p (formed w) live in
    let found : get (by_key_in p r.key) t ≡ x =
    get_sought (keys (key_at p)) (by_key_in p r.key) (key_exact (key_at p) r.key) t (w.trees r.tree g.tree_low g.tree_high).keys_rise
    ∙ ap (sought (by_key_in p r.key)) s.split
    ∙ sought_at (by_key_in p r.key) s.low x s.high (all_map (λ y h. side_on right r.key (key_at p y) h) a.below)
    (key_same r.key (key_at p x) (sym (live_key p x r live))) in
    topped x (entry (by_key_in p r.key) t).part (slot_in p x r live).0 found

-- A free slot is new to every tree.
pub slot_new : (p : Pool) (t x : ℕ) → WellFormed p → 1 ≤ t → t ≤ length p.trees → 1 ≤ x → x ≤ length p.slots → rec_at p x ≡ none
    → New (length p.slots) (tree_at p t) x
unfolding times room lives_in
slot_new p t x w low high a b free = record { once = λ y. go y (eqb y x) refl }
  where
    go : (y : ℕ) (c : Bool) → eqb y x ≡ c → times y leaf + one c + times y leaf + times y (tree_at p t) ≤ room (length p.slots) y
    go y true e =
        let i : y ≡ x = eqb-true y x e in
        let none_there_lem : times y (tree_at p t) ≡ 0 = times_lives p t y w low high ∙ ap (λ (z : ℕ). bit (lives_in t (rec_at p z))) i ∙ ap (λ (o : Option Rec). bit (lives_in t o)) free in
        let inside : room (length p.slots) y ≡ 1 =
        ap one (both_true (leb 1 y) (leb y (length p.slots)) (le-leb 1 y (omega arith)) (le-leb y (length p.slots) (omega arith))) in
        omega arith
    go y false e = omega (arith, (tree_fits p t w low high).0.once y)
