-- The listing program's text, and what the function that writes it leaves and answers. Assumes nothing.
use Rattle.std.specs.Prelude.{cond, List, [], ◌∷◌, ◌++◌, map, ℕ, zero, suc, ◌+◌, ◌/◌, ◌%◌, ltb, length}
use Rattle.std.proofs.Math.Option.{Option, none, some}
use Rattle.fields.specs.Part.{part, splice}
use Rattle.avl.specs.Tree.{left, Tree, list}
use Rattle.meaning.specs.Layout.{concat}
use Rattle.meaning.specs.Pool.{Rec, Pool, rec_at, live_count, links_at, read}
use Rattle.meaning.specs.Sound.{sound}

-- a number in decimal, of at most so many digits
unfoldable pub decimal : ℕ → ℕ → List ℕ
decimal zero n = []
decimal (suc f) n =
    let more = decimal f (n / 10) ++ ((48 + n % 10) ∷ []) in
    cond (ltb n 10) ((48 + n) ∷ []) more

-- bytes in lower-case hexadecimal
unfoldable pub hex : List ℕ → List ℕ
hex [] = []
hex (b ∷ bs) = digit (b / 16) ∷ digit (b % 16) ∷ hex bs
  where
    digit : ℕ → ℕ
    digit n = cond (ltb n 10) (48 + n) (87 + n)

-- numbers with a space between them
unfoldable pub numbers : List ℕ → List ℕ
numbers [] = []
numbers (n ∷ []) = decimal 20 n
numbers (n ∷ m ∷ ns) = decimal 20 n ++ (32 ∷ numbers (m ∷ ns))

-- tree, key, slot, stamp, parent slot, balance, name
unfoldable pub line_of : Pool → ℕ → ℕ → Option Rec → List ℕ
line_of p t x none = []
line_of p t x (some r) =
    let k = links_at p t x in
    numbers (t ∷ r.key ∷ x ∷ r.stamp ∷ k.parent ∷ k.balance ∷ []) ++ ((32 ∷ hex (part p.text r.start r.len)) ++ (10 ∷ []))

-- by tree and then key
unfoldable pub tree_lines : Pool → ℕ → List Tree → List ℕ
tree_lines p t [] = []
tree_lines p t (x ∷ xs) = concat (map (λ s. line_of p t s (rec_at p s)) (list left x)) ++ tree_lines p (suc t) xs

-- "pool ", N, T, live, text used, next stamp
unfoldable pub first_line : Pool → List ℕ
first_line p =
    (112 ∷ 111 ∷ 111 ∷ 108 ∷ 32 ∷ [])
    ++ (numbers (length p.slots ∷ length p.trees ∷ live_count p ∷ length p.text ∷ p.next ∷ []) ++ (10 ∷ []))

-- "refused 1" for an unsound pool
unfoldable pub listing : List ℕ → List ℕ
listing b =
    let p = read b in
    let lines = first_line p ++ tree_lines p 1 p.trees in
    cond (sound b) lines (114 ∷ 101 ∷ 102 ∷ 117 ∷ 115 ∷ 101 ∷ 100 ∷ 32 ∷ 49 ∷ 10 ∷ [])

-- the text at the start of the buffer, and its length; nothing and 0 if the buffer has fewer bytes than the longest listing may need
unfoldable pub listed : List ℕ → List ℕ → List ℕ × ℕ
listed b o = cond (ltb (length o) 655_360) (o, 0) (splice o 0 (listing b), length (listing b))

-- to unfold this is to unfold all of this file: for claims that compute
unfoldable pub opened : Unit {0}
unfolding decimal hex numbers line_of tree_lines first_line listing listed
opened = tt
