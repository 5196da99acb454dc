-- Where a live record of a well-formed pool stands in its tree: its parts, and the way above it. Assumes nothing.
use Rattle.std.proofs.Common.{◌≡◌, ℕ, ◌≤◌, Bool, true, cond, eqb, List, [], ◌∷◌, ◌++◌, length, sym, refl, ap, ◌∙◌, subst, arith, eq-eqb}
use Rattle.avl.specs.Tree.{Dir, flip, Tree, branch, list, height}
use Rattle.avl.specs.Way.{plug, before, after}
use Rattle.avl.specs.Order.{first}
use Rattle.avl.proofs.Walks.{walk_list}
use Rattle.tree.specs.Held.{Fits}
use Rattle.tree.specs.Section.{holding}
use Rattle.meaning.specs.Layout.{bit, count, following}
use Rattle.meaning.specs.Pool.{Pool, rec_at, tree_at, lives_in}
use Rattle.meaning.specs.Cursor.{beyond}
use Rattle.meaning.specs.WellFormed.{WellFormed}
use Rattle.meaning.specs.Places.{Stands}
use Rattle.meaning.proofs.Demand2Places.{live_stands}
use Rattle.meaning.proofs.Facts.{bit_zero, count_append}
use Rattle.meaning.proofs.Members.{lives, tree_once}
use Rattle.meaning.proofs.Neighbours.{count_from_lem}
use Rattle.slots.specs.Image.{text_bytes, body_of, cargo_of, elsewhere}
use Rattle.slots.proofs.Bodies.{body_holding, tree_fits}

-- The tree's list in the direction d, around the record.
pub seat_list : (d : Dir) (x : ℕ) {t : Tree} (w : Stands d x t)
    → list (flip d) t ≡ (before (flip d) w.way ++ list (flip d) w.far) ++ (x ∷ (list (flip d) w.near ++ after (flip d) w.way))
seat_list d x w = ap (list (flip d)) w.is ∙ walk_list d w.near x w.bal w.far w.way

-- What follows a slot in a list that does not have it before.
pub following_at : (x : ℕ) (front rest : List ℕ) → count (eqb x) front ≡ 0 → following x (front ++ (x ∷ rest)) ≡ first rest
unfolding count following
following_at x [] rest h = ap (λ (c : Bool). cond c (first rest) (following x rest)) (eq-eqb x x refl)
following_at x (y ∷ front) rest h =
    ap (λ (c : Bool). cond c (first (front ++ (x ∷ rest))) (following x (front ++ (x ∷ rest)))) (bit_zero (eqb x y) (omega arith))
    ∙ following_at x front rest (omega arith)

module _ (p : Pool) (v : WellFormed p) (t : ℕ) (low : 1 ≤ t) (high : t ≤ length p.trees) (d : Dir) (x : ℕ) where
  -- A live record of a tree stands in it.
  pub seat_live : lives_in t (rec_at p x) ≡ true → Stands d x (tree_at p t)
  seat_live h = live_stands p v d t x (lives p t x h)

  -- The pool's records hold the tree as it is around the record.
  pub seated_body : (w : Stands d x (tree_at p t)) → body_of p
      ≡ holding (plug w.way (branch d w.near x w.bal w.far)) (λ y. elsewhere p t y (rec_at p y)) (λ y. cargo_of (rec_at p y))
      (length p.slots) (text_bytes p)
  seated_body w =
      body_holding p t v low high
      ∙ ap (λ (u : Tree). holding u (λ y. elsewhere p t y (rec_at p y)) (λ y. cargo_of (rec_at p y)) (length p.slots) (text_bytes p)) w.is

  -- The tree fits the pool, and is at most 14 levels high.
  pub seat_fits : (w : Stands d x (tree_at p t)) → let u = plug w.way (branch d w.near x w.bal w.far) in
      Fits (length p.slots) u × (height u ≤ 14)
  seat_fits w = subst (λ (u : Tree). Fits (length p.slots) u × (height u ≤ 14)) w.is (tree_fits p t v low high)

  -- Its neighbour is the first of what lies beyond it.
  pub beyond_seat : (w : Stands d x (tree_at p t)) → beyond d p t x ≡ first (list (flip d) w.near ++ after (flip d) w.way)
  unfolding beyond count
  beyond_seat w =
      let e = flip d in
      let front = before e w.way ++ list e w.far in
      let rest = list e w.near ++ after e w.way in
      let is : list e (tree_at p t) ≡ front ++ (x ∷ rest) = seat_list d x w in
      let once : count (eqb x) (front ++ (x ∷ rest)) ≤ 1 =
      subst (λ (n : ℕ). n ≤ 1) (sym (count_from_lem (eqb x) e (tree_at p t)) ∙ ap (count (eqb x)) is) (tree_once p t (v.trees t low high) x) in
      ap (following x) is
      ∙ following_at x front rest (omega (arith, once, count_append (eqb x) front (x ∷ rest), ap bit (eq-eqb x x refl)))
