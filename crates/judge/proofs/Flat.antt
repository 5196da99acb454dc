-- A section of a pool cut into rows, and the bytes of records one after the other: the row of a slot stands where the models read it. Assumes nothing.
use Rattle.std.proofs.Common.{◌≡◌, ℕ, zero, suc, ◌+◌, ◌-◌, ◌*◌, ◌/◌, ◌<◌, ◌≤◌, List, [], ◌∷◌, ◌++◌, length, get_or, take, drop, sym, refl, ap, ◌∙◌, ap₂, suc-mul, arith, length-append, length-drop, length-take-le, take-take, drop-drop}
use Rattle.std.proofs.Math.Seq.{take-nil}
use Rattle.std.proofs.lemmas.List.{take_at, drop_at}
use Rattle.std.specs.Simd.{first_chunks}
use Rattle.meaning.specs.Layout.{rows, concat}
use Rattle.judge.specs.Check.{row_n}

-- ---- a section of a pool, cut into rows

rows_chunked : (w n : ℕ) (bs : List ℕ) → first_chunks w n bs ≡ rows n w bs
unfolding rows
rows_chunked w zero bs = refl
rows_chunked w (suc n) bs = ap (λ (l : List (List ℕ)). take w bs ∷ l) (rows_chunked w n (drop w bs))

drop-taken : (n m : ℕ) (bs : List ℕ) → n ≤ m → drop n (take m bs) ≡ take (m - n) (drop n bs)
drop-taken zero m bs h = ap (λ (k : ℕ). take k bs) (omega arith)
drop-taken (suc n) zero bs h = absurd (omega arith)
drop-taken (suc n) (suc m) [] h = sym (take-nil _)
drop-taken (suc n) (suc m) (b ∷ bs) h = drop-taken n m bs (omega arith) ∙ ap (λ (k : ℕ). take k (drop n bs)) (omega arith)

-- rows stand within as many bytes as they have
rows_within : (n w m : ℕ) (bs : List ℕ) → n * w ≤ m → rows n w (take m bs) ≡ rows n w bs
unfolding rows
rows_within zero w m bs h = refl
rows_within (suc n) w m bs h =
    let step = suc-mul n w in
    ap₂ ◌∷◌ (take-take w m bs (omega arith))
    (ap (rows n w) (drop-taken w m bs (omega arith)) ∙ rows_within n w (m - w) (drop w bs) (omega arith))

-- the rows of a section, from `at` up to `to`
pub section_rows : (w n at to : ℕ) (b : List ℕ) {rs : List (List ℕ)} → n * w ≡ to - at → n ≡ length (take (to - at) (drop at b)) / w
    → rs ≡ first_chunks w (length (take (to - at) (drop at b)) / w) (take (to - at) (drop at b)) → rs ≡ rows n w (drop at b)
section_rows w n at to b e k rs =
    rs ∙ ap (λ (j : ℕ). first_chunks w j (take (to - at) (drop at b))) (sym k)
    ∙ rows_chunked w n (take (to - at) (drop at b)) ∙ rows_within n w (to - at) (drop at b) (omega arith)

pub section_length : (at to : ℕ) (b : List ℕ) → to ≤ length b → length (take (to - at) (drop at b)) ≡ to - at
section_length at to b h = length-take-le (to - at) (drop at b) (simp length-drop (omega arith))

-- ---- records

-- rows as wide as a record
abbrev pub Wide : List (List ℕ) → Type 0
Wide rs = (i : ℕ) → i < length rs → length (get_or rs i []) ≡ 32

rest_wide : (r : List ℕ) (rs : List (List ℕ)) → Wide (r ∷ rs) → Wide rs
rest_wide r rs w i h = w (suc i) (omega arith)

pub length_flat : (rs : List (List ℕ)) → Wide rs → length (concat rs) ≡ 32 * length rs
unfolding concat
length_flat [] w = refl
length_flat (r ∷ rs) w = omega (arith, length-append r (concat rs), w 0 (omega arith), length_flat rs (rest_wide r rs w))

row_at : (rs : List (List ℕ)) → Wide rs → (k : ℕ) → k < length rs → take 32 (drop (32 * k) (concat rs)) ≡ get_or rs k []
unfolding concat
row_at [] w k h = absurd (omega arith)
row_at (r ∷ rs) w zero h = take_at r (concat rs) 32 (w 0 h)
row_at (r ∷ rs) w (suc k) h =
    let e : 32 * suc k ≡ 32 + 32 * k = omega arith in
    let d : drop 32 (r ++ concat rs) ≡ concat rs = drop_at r (concat rs) 32 (w 0 (omega arith)) in
    rw (e, ← drop-drop (32 * k) 32 (r ++ concat rs), d) (row_at rs (rest_wide r rs w) k (omega arith))

module _ (rs : List (List ℕ)) (w : Wide rs) (x : ℕ) (s : 1 ≤ x) (h : x ≤ length rs) where
  -- row x as the code lends it
  pub row_is : get_or rs (x - 1) [] ≡ row_n (concat rs) x
  unfolding row_n
  row_is = sym (row_at rs w (x - 1) (omega arith))

  -- it lies within the bytes
  pub row_inside : 32 * x ≤ length (concat rs)
  row_inside = omega (arith, length_flat rs w)

-- rows of a section are as wide as they are to be
pub rows_wide : (n : ℕ) (bs : List ℕ) → 32 * n ≤ length bs → Wide (rows n 32 bs)
unfolding rows
rows_wide zero bs h i k = absurd (omega arith)
rows_wide (suc n) bs h zero k = length-take-le 32 bs (omega arith)
rows_wide (suc n) bs h (suc i) k = rows_wide n (drop 32 bs) (simp length-drop (omega arith)) i (omega arith)
