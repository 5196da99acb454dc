-- What rotation, the climbs, insertion and removal do to a balanced tree: it stays balanced, and its height changes by one at most. Assumes nothing.
use Rattle.std.proofs.Common.{◌≡◌, ℕ, suc, ◌+◌, ◌≤◌, max, sym, refl, ◌∙◌, arith}
use Rattle.avl.specs.Tree.{Dir, left, right, flip, pick, Bal, even, heavy, Lean, seen, Tree, leaf, node, branch, single}
use Rattle.avl.specs.Tree.{height, tilt, Balanced, none}
use Rattle.avl.specs.Way.{Way, root, step, plug}
use Rattle.avl.specs.Rotate.{Climb, stop, on, tree, then, double, turn, rotate, grown, shrunk, climb}
use Rattle.avl.specs.Edit.{insert, end, taken, replace, remove}
use Rattle.avl.proofs.Sides.{facing, View, neither, this, other, view, Parts, bare, parts, apart, node_branch, height_branch}
use Rattle.avl.proofs.Sides.{balanced_in, balanced_out, rotate_branch, double_branch}
use Rattle.avl.proofs.Removal.{end_plug, replace_branch}

-- ---- places

-- the place p takes a balanced tree of height h
pub data Room : Way → ℕ → Type 0 where
  here : {h : ℕ} → Room root h
  under : {d : Dir} {s : ℕ} {b : Bal} {z : Tree} {p : Way} {h : ℕ} → Balanced z → h + tilt (flip d) b ≡ height z + tilt d b
      → Room p (suc (max h (height z))) → Room (step d s b z p) h

-- A balanced tree at a place that takes its height makes a balanced whole.
pub plug_balanced : (p : Way) (t : Tree) → Room p (height t) → Balanced t → Balanced (plug p t)
unfolding plug
plug_balanced root t here i = i
plug_balanced (step d s b z p) t (under j e r) i =
    plug_balanced p (branch d t s b z) (rw (← height_branch d t s b z) at r) (balanced_in d t s b z i j e)

-- What stands at a place of a balanced tree is balanced, and has a height that the place takes.
pub plug_open : (p : Way) (t : Tree) → Balanced (plug p t) → Balanced t × Room p (height t)
unfolding plug
plug_open root t i = (i, here)
plug_open (step d s b z p) t i =
    let q = plug_open p (branch d t s b z) i in
    let h = balanced_out d t s b z q.0 in
    (h.one, under h.two h.fit (rw height_branch at q.1))

-- Two trees of one height make wholes of one height at the same place.
pub plug_height : (p : Way) (t u : Tree) → height t ≡ height u → height (plug p t) ≡ height (plug p u)
unfolding plug
plug_height root t u e = e
plug_height (step d s b z p) t u e =
    plug_height p (branch d t s b z) (branch d u s b z) (omega (arith, height_branch d t s b z, height_branch d u s b z))

-- ---- balanced trees by their heights

-- balanced, and of height h
pub record Sized (t : Tree) (h : ℕ) : Type 0 where
  pub sound : Balanced t
  pub high : height t ≡ h

pub sized : {t : Tree} {h : ℕ} → Balanced t → height t ≡ h → Sized t h
sized i e = record { sound = i; high = e }

-- the height of the part on side d, of the other part and of the whole, for each balance
pub data Fit (d : Dir) : Bal → ℕ → ℕ → ℕ → Type 0 where
  flat : {n : ℕ} → Fit d even n n (suc n)
  taller : {n : ℕ} → Fit d (heavy d) (suc n) n (suc (suc n))
  shorter : {n : ℕ} → Fit d (heavy (flip d)) n (suc n) (suc (suc n))

pub fits : (d : Dir) (b : Bal) (m n : ℕ) → m + tilt (flip d) b ≡ n + tilt d b → Fit d b m n (suc (max m n))
fits d b m n e = go (view d b) e
  where
    go : {b : Bal} → View d b → m + tilt (flip d) b ≡ n + tilt d b → Fit d b m n (suc (max m n))
    go neither e = let i : m ≡ n = omega (arith, simp facing at e) in let j : max m n ≡ n = omega arith in rw (j, i) flat
    go this e = let i : m ≡ suc n = omega (arith, simp facing at e) in let j : max m n ≡ suc n = omega arith in rw (j, i) taller
    go other e = let i : n ≡ suc m = omega (arith, simp facing at e) in let j : max m n ≡ suc m = omega arith in rw (j, i) shorter

-- two parts put together
join : (d : Dir) {a z : Tree} {b : Bal} {m n k : ℕ} (s : ℕ) → Sized a m → Sized z n → Fit d b m n k → Sized (branch d a s b z) k
join d {a} {z} {b} s i j f =
    let (e, h) = meant f in
    sized (balanced_in d a s b z i.sound j.sound (rw (i.high, j.high) e)) (height_branch d a s b z ∙ rw (i.high, j.high) h)
  where
    meant : {b : Bal} {m n k : ℕ} → Fit d b m n k → (m + tilt (flip d) b ≡ n + tilt d b) × (suc (max m n) ≡ k)
    meant flat = simp facing (omega arith)
    meant taller = simp facing (omega arith)
    meant shorter = simp facing (omega arith)

-- a tree taken apart as seen from side d: one that is not of height 0 has two parts
pub data Cut (d : Dir) : Tree → ℕ → Type 0 where
  empty : Cut d leaf 0
  split : (a : Tree) (s : ℕ) {b : Bal} (z : Tree) {m n k : ℕ} → Sized a m → Sized z n → Fit d b m n k → Cut d (branch d a s b z) k

pub cut : (d : Dir) (t : Tree) {k : ℕ} → Sized t k → Cut d t k
unfolding height
cut d t {k} i = go (apart d t) i
  where
    go : {t : Tree} → Parts d t → Sized t k → Cut d t k
    go bare i = rw (← i.high) empty
    go (parts a s b z) i =
        let h = balanced_out d a s b z i.sound in
        split a s z (sized h.one refl) (sized h.two refl) (rw (sym (height_branch d a s b z) ∙ i.high) at (fits d b _ _ h.fit))

-- ---- rotation

-- what a step of a climb leaves: of the old height if it stops, and of one height if it goes on
pub data Left (still moved : ℕ) : Climb → Type 0 where
  stopped : {u : Tree} → Balanced u → height u ≡ still → Left still moved (stop u)
  going : {u : Tree} → Balanced u → height u ≡ moved → Left still moved (on u)

goes : {still moved : ℕ} {u : Tree} → Sized u moved → Left still moved (on u)
goes i = going i.sound i.high

-- the two parts are of one height: only a rotation over such a tree stops the climb
pub data Poised : Tree → Type 0 where
  equal : {l : Tree} {s : ℕ} {r : Tree} → Poised (node l s even r)

double_left : (d : Dir) {a : Tree} (c : ℕ) {w : Tree} (s : ℕ) {z : Tree} {n k : ℕ} → Sized a n → Cut d w (suc n) → Sized z n
    → Left k (suc (suc n)) (double d a c w s z)
double_left d c s i (split u g v p q flat) j = rw double_branch (goes (join d g (join d c i p flat) (join d s q j flat) flat))
double_left d c s i (split u g v p q taller) j = simp (double_branch, facing) (goes (join d g (join d c i p flat) (join d s q j shorter) flat))
double_left d c s i (split u g v p q shorter) j = simp (double_branch, facing) (goes (join d g (join d c i p taller) (join d s q j flat) flat))

rotate_cut : (d : Dir) {t : Tree} (s : ℕ) {z : Tree} {n k : ℕ} → Cut d t (suc (suc n)) → Sized z n → (Poised t → k ≡ suc (suc (suc n)))
    → Left k (suc (suc n)) (rotate d t s z)
unfolding turn branch
rotate_cut d s (split a c w p q flat) j e =
    let i = join d c p (join d s q j taller) shorter in
    rw rotate_branch (stopped i.sound (i.high ∙ sym (e equal)))
rotate_cut d s (split a c w p q taller) j e = simp (rotate_branch, facing) (goes (join d c p (join d s q j flat) flat))
rotate_cut d s (split a c w p q shorter) j e = simp (rotate_branch, facing) (double_left d c s p (cut d w q) j)

-- A rotation of a side that is two higher leaves a balanced tree: as high as that side where the climb goes on, one higher where it stops.
pub rotate_left : (d : Dir) (t : Tree) (s : ℕ) (z : Tree) → Balanced t → Balanced z → height t ≡ suc (suc (height z))
    → Left (suc (height t)) (height t) (rotate d t s z)
rotate_left d t s z i j e = rw e (rotate_cut d s (cut d t (sized i e)) (sized j refl) (λ _. refl))

-- ---- the climbs

-- a step at a place of height h stops with a balanced tree of that height, or goes on with a change of it
pub data Outcome (Change : ℕ → Tree → Type 0) (h : ℕ) : Climb → Type 0 where
  held : {u : Tree} → Sized u h → Outcome Change h (stop u)
  passed : {u : Tree} → Change h u → Outcome Change h (on u)

pub record Steps (Change : ℕ → Tree → Type 0) (f : Lean → Dir → ℕ → Tree → Tree → Climb) : Type 0 where
  pub next : {d : Dir} (s : ℕ) {b : Bal} {z t : Tree} {m n k : ℕ} → Fit d b m n k → Sized z n → Change m t → Outcome Change k (f (seen d b) d s z t)

-- the whole, of height h before, is balanced and of that height, or changed
data Whole (Change : ℕ → Tree → Type 0) (h : ℕ) (u : Tree) : Type 0 where
  kept : Sized u h → Whole Change h u
  changed : Change h u → Whole Change h u

-- what every step of a climb does, the climb does: from the place of the tree o, with t in its stead
climb_whole : {Change : ℕ → Tree → Type 0} {f : Lean → Dir → ℕ → Tree → Tree → Climb} → Steps Change f
    → (p : Way) (o t : Tree) → Room p (height o) → Change (height o) t → Whole Change (height (plug p o)) (climb f p t)
unfolding plug climb
climb_whole l root o t here c = changed c
climb_whole {Change} {f} l (step d s b z p) o t (under j e r) c =
    let room = rw (← height_branch d o s b z) at r in
    go (rw (← height_branch d o s b z) at (l.next s (fits d b _ _ e) (sized j refl) c)) room (λ u c. climb_whole l p w u room c)
  where
    w : Tree
    w = branch d o s b z

    go : {c : Climb} → Outcome Change (height w) c → Room p (height w)
        → ((u : Tree) → Change (height w) u → Whole Change (height (plug p w)) (climb f p u))
        → Whole Change (height (plug p w)) (then c (plug p) (climb f p))
    go (held {u} i) room above = kept (sized (plug_balanced p u (rw i.high room) i.sound) (plug_height p u w i.high))
    go (passed {u} c) room above = above u c

-- one higher than h, and leaning to a side unless there was nothing before
pub record Higher (h : ℕ) (t : Tree) : Type 0 where
  pub more : Sized t (suc h)
  pub leans : Poised t → h ≡ 0

pub grown_steps : Steps Higher grown
unfolding grown branch
grown_steps = record { next = go }
  where
    either : {h : ℕ} {c : Climb} → Left h h c → Sized (tree c) h
    either (stopped i e) = sized i e
    either (going i e) = sized i e

    go : {d : Dir} (s : ℕ) {b : Bal} {z t : Tree} {m n k : ℕ} → Fit d b m n k → Sized z n → Higher m t → Outcome Higher k (grown (seen d b) d s z t)
    go {d} s flat j i = passed (record { more = join d s i.more j taller; leans = elim [ ] })
    go {d} s {t = t} taller j i = simp facing (held (either (rotate_cut d s (cut d t i.more) j (λ q. absurd (omega (arith, i.leans q))))))
    go {d} s shorter j i = simp facing (held (join d s i.more j flat))

higher : {h : ℕ} {t : Tree} → Whole Higher h t → Balanced t × (h ≤ height t) × (height t ≤ suc h)
higher (kept i) = (i.sound, omega arith, omega arith)
higher (changed i) = (i.more.sound, omega arith, omega arith)

-- one lower than h
pub data Lower : ℕ → Tree → Type 0 where
  less : {h : ℕ} {t : Tree} → Sized t h → Lower (suc h) t

pub shrunk_steps : Steps Lower shrunk
unfolding shrunk
shrunk_steps = record { next = go }
  where
    turned : {h : ℕ} {c : Climb} → Left (suc h) h c → Outcome Lower (suc h) c
    turned (stopped i e) = held (sized i e)
    turned (going i e) = passed (less (sized i e))

    go : {d : Dir} (s : ℕ) {b : Bal} {z t : Tree} {m n k : ℕ} → Fit d b m n k → Sized z n → Lower m t → Outcome Lower k (shrunk (seen d b) d s z t)
    go {d} s flat j (less i) = held (join d s i j shorter)
    go {d} s taller j (less i) = simp facing (passed (less (join d s i j flat)))
    go {d} s {z = z} shorter j (less i) = simp facing (turned (rotate_cut (flip d) s (cut (flip d) z j) i (λ _. refl)))

lower : {h : ℕ} {t : Tree} → Whole Lower h t → Balanced t × (height t ≤ h) × (h ≤ suc (height t))
lower (kept i) = (i.sound, omega arith, omega arith)
lower (changed (less i)) = (i.sound, omega arith, omega arith)

-- ---- insertion

insert_whole : (p : Way) (x : ℕ) → Balanced (plug p leaf) → Whole Higher (height (plug p leaf)) (insert p x)
unfolding insert height branch
insert_whole p x i =
    let bud = join left x (sized none refl) (sized none refl) flat in
    climb_whole grown_steps p leaf (single x) (plug_open p leaf i).1 (record { more = bud; leans = λ _. refl })

-- An insertion keeps a tree balanced.
pub insert_balanced : (p : Way) (x : ℕ) → Balanced (plug p leaf) → Balanced (insert p x)
insert_balanced p x i = (higher (insert_whole p x i)).0

-- An insertion leaves the height of a balanced tree, or makes it one higher.
pub insert_height : (p : Way) (x : ℕ) → Balanced (plug p leaf)
    → (height (plug p leaf) ≤ height (insert p x)) × (height (insert p x) ≤ suc (height (plug p leaf)))
insert_height p x i = let q = higher (insert_whole p x i) in (q.1, q.2)

-- ---- removal

-- a record with a part on one side only goes, and that part takes its place
remove_one : (d : Dir) (s : ℕ) (b : Bal) (t : Tree) (p : Way) → Balanced (plug p (branch d leaf s b t))
    → Whole Lower (height (plug p (branch d leaf s b t))) (climb shrunk p t)
unfolding height
remove_one d s b t p i =
    let q = plug_open p (branch d leaf s b t) i in
    let e : height (branch d leaf s b t) ≡ suc (height t) = omega (arith, height_branch d leaf s b t) in
    climb_whole shrunk_steps p (branch d leaf s b t) t q.1 (rw e (less (sized (balanced_out d leaf s b t q.0).two refl)))

-- a place is the same under any slot
reslot : {d : Dir} {s : ℕ} {b : Bal} {z : Tree} {p : Way} {h : ℕ} (x : ℕ) → Room (step d s b z p) h → Room (step d x b z p) h
reslot x (under j e r) = under j e r

-- a record with two parts goes, and its neighbour on side d takes its place
remove_two : (d : Dir) {t : Tree} (s : ℕ) (b : Bal) (z : Tree) (p : Way) → Parts (flip d) t → 1 ≤ height t → Balanced (plug p (branch d t s b z))
    → Whole Lower (height (plug p (branch d t s b z))) (replace d t b z p)
unfolding height plug
remove_two d s b z p bare n i = absurd (omega arith)
remove_two d s b z p (parts a k c w) n i =
    let t = branch (flip d) a k c w in
    let x = (end (flip d) a k c w root).slot in
    let e = replace_branch d a k c w b z p in
    let q = end_plug (flip d) a k c w (step d x b z p) in
    let o = plug_open (step d s b z p) t i in
    let j = plug_balanced (step d x b z p) t (reslot x o.1) o.0 in
    let h = plug_height p (branch d t x b z) (branch d t s b z) (height_branch d t x b z ∙ sym (height_branch d t s b z)) in
    rw (e, ← h, ← q) (remove_one (flip d) _ _ _ _ (rw q j))

remove_whole : (l : Tree) (s : ℕ) (b : Bal) (r : Tree) (p : Way) → Balanced (plug p (node l s b r))
    → Whole Lower (height (plug p (node l s b r))) (remove l b r p)
unfolding remove branch height
remove_whole leaf s b r p i = remove_one left s b r p i
remove_whole (node l k c m) s b leaf p i = remove_one right s b (node l k c m) p i
remove_whole (node l k c m) s b (node l₂ k₂ c₂ m₂) p i =
    let e = node_branch (taken b) (node l k c m) s b (node l₂ k₂ c₂ m₂) in
    rw e (remove_two (taken b) s b _ p (apart (flip (taken b)) _) (filled (taken b)) (rw e at i))
  where
    filled : (d : Dir) → 1 ≤ height (pick d (node l k c m) (node l₂ k₂ c₂ m₂))
    filled left = omega arith
    filled right = omega arith

-- A removal keeps a tree balanced.
pub remove_balanced : (l : Tree) (s : ℕ) (b : Bal) (r : Tree) (p : Way) → Balanced (plug p (node l s b r)) → Balanced (remove l b r p)
remove_balanced l s b r p i = (lower (remove_whole l s b r p i)).0

-- A removal leaves the height of a balanced tree, or makes it one lower.
pub remove_height : (l : Tree) (s : ℕ) (b : Bal) (r : Tree) (p : Way) → Balanced (plug p (node l s b r))
    → (height (remove l b r p) ≤ height (plug p (node l s b r))) × (height (plug p (node l s b r)) ≤ suc (height (remove l b r p)))
remove_height l s b r p i = let q = lower (remove_whole l s b r p i) in (q.1, q.2)
