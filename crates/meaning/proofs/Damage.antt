-- What is sound and what is not, on the bytes of P1's pool with some of them changed; and what the listing prints. Assumes nothing.
use Rattle.std.proofs.Common.{◌≡◌, ℕ, true, not, List, [], ◌∷◌, ◌++◌, take, set, replicate, refl}
use Prim.Native.Char.{code}
use Prim.Native.String.{String}
use Rattle.meaning.specs.Layout.{every}
use Rattle.meaning.specs.Pool.{bytes}
use Rattle.meaning.specs.Sound.{sound}
use Rattle.meaning.specs.Doors.{fresh as empty_pool}
use Rattle.meaning.specs.Listing.{listing}
use Rattle.meaning.proofs.Lines.{◌⇒◌, add, ◌named◌long◌, kind◌slot◌stamp◌key◌text◌long◌, batch_of, fresh, outcome}
use Rattle.meaning.proofs.Cases
use Rattle.meaning.proofs.Cases.{pool1, p3, p8, ran}
use Rattle.meaning.proofs.Limits.{two_trees}

-- ---- one byte changed: its place, and its new value

damage : List (ℕ × ℕ)
damage =
    -- header: edition, N, T, live records
    (0, 2) ∷ (1, 1) ∷ (2, 3) ∷ (2, 5) ∷ (2, 0) ∷ (3, 1) ∷ (4, 0) ∷ (4, 2) ∷ (5, 1) ∷ (6, 2) ∷ (6, 4) ∷ (7, 1)
    -- offsets of the tree table, of the records, of the text
    ∷ (8, 33) ∷ (11, 1) ∷ (12, 48) ∷ (13, 1) ∷ (16, 169) ∷ (16, 136)
    -- text size X, text used: above X, below the end of a name; next stamp: that of a record, 0
    ∷ (20, 15) ∷ (20, 17) ∷ (21, 64) ∷ (24, 17) ∷ (24, 2) ∷ (27, 1) ∷ (28, 3) ∷ (28, 0)
    -- tree entry: another root, none, a free slot, above N; another count, none; zero bytes
    ∷ (32, 1) ∷ (32, 3) ∷ (32, 0) ∷ (32, 4) ∷ (32, 5) ∷ (33, 1) ∷ (34, 2) ∷ (34, 4) ∷ (34, 0) ∷ (36, 1) ∷ (39, 1)
    -- record 1, key: that of the record after it, above it
    ∷ (40, 2) ∷ (40, 3) ∷ (47, 1)
    -- record 1, left: itself, its parent, a record that hangs elsewhere, a free slot, above N; right: the same
    ∷ (48, 1) ∷ (48, 2) ∷ (48, 3) ∷ (48, 4) ∷ (48, 5) ∷ (49, 1) ∷ (50, 1) ∷ (50, 2) ∷ (50, 3) ∷ (50, 4) ∷ (50, 5)
    -- record 1, parent: none, another, itself; balance: higher right, higher left, above 2; tree: free, above T
    ∷ (52, 0) ∷ (52, 3) ∷ (52, 1) ∷ (53, 1) ∷ (54, 1) ∷ (54, 2) ∷ (54, 3) ∷ (55, 0) ∷ (55, 2)
    -- record 1, stamp: 0, the next stamp, above it; name start, name length: 0, past text used, above 255; zero bytes
    ∷ (56, 0) ∷ (56, 4) ∷ (59, 1) ∷ (60, 3) ∷ (63, 1) ∷ (64, 0) ∷ (64, 4) ∷ (65, 1) ∷ (66, 1) ∷ (71, 1)
    -- record 2, the root, key: those of its children; left, right: none, itself, the other child, a free slot, above N
    ∷ (72, 1) ∷ (72, 3) ∷ (72, 0) ∷ (72, 4) ∷ (80, 0) ∷ (80, 2) ∷ (80, 3) ∷ (80, 4) ∷ (80, 5) ∷ (82, 0) ∷ (82, 2) ∷ (82, 1) ∷ (82, 4) ∷ (82, 5)
    -- record 2, parent, balance, tree
    ∷ (84, 1) ∷ (84, 2) ∷ (86, 1) ∷ (86, 2) ∷ (87, 0) ∷ (87, 2)
    -- record 3, key: that of the record before it, below it; left; parent; balance; the end of its name
    ∷ (104, 2) ∷ (104, 1) ∷ (112, 1) ∷ (116, 0) ∷ (116, 1) ∷ (118, 1) ∷ (118, 2) ∷ (124, 3) ∷ (128, 2)
    -- record 4 is free: key, parent, tree, stamp, the last byte
    ∷ (136, 1) ∷ (148, 2) ∷ (151, 1) ∷ (152, 1) ∷ (167, 1)
    -- text from text used on
    ∷ (171, 1) ∷ (183, 1)
    ∷ []

each_damage_is_seen : every (λ (d : ℕ × ℕ). not (sound (set pool1 d.0 d.1))) damage ≡ true
unfolding Cases.opened pool1 damage
each_damage_is_seen = refl

-- ---- more than one

infixl 70 ◌with◌
◌with◌ : List ℕ → List (ℕ × ℕ) → List ℕ
b with [] = b
b with (d ∷ ds) = set b d.0 d.1 with ds

-- a record with a name of 255 bytes, in a pool with one byte more
long_name : List ℕ
long_name =
    let ls = add 5 named 0 long 255 ⇒ kind 0 slot 1 stamp 1 key 5 text 0 long 255 ∷ [] in
    (outcome (fresh 1 1 256) (batch_of ls (replicate 255 120))).pool

unsound : List (List ℕ)
unsound =
    -- cut short, one byte too long, less than a header, nothing
    take 183 pool1 ∷ (pool1 ++ (0 ∷ [])) ∷ take 31 pool1 ∷ []
    -- one limit of the header passed, and all else in order: N 0 and 1,025, T 0 and 9, X 8,193, next stamp 0 without records
    ∷ bytes (empty_pool 0 1 0) ∷ bytes (empty_pool 1_025 1 0) ∷ bytes (empty_pool 1 0 0) ∷ bytes (empty_pool 1 9 0) ∷ bytes (empty_pool 1 1 8_193)
    ∷ fresh 1 1 0 with ((28, 0) ∷ [])
    -- one limit of a record passed: balance 3 in place of 2; a name of 256 bytes, all of them in use
    ∷ (ran p8).pool with ((86, 3) ∷ [])
    ∷ long_name with ((25, 1) ∷ (24, 0) ∷ (65, 1) ∷ (64, 0) ∷ [])
    -- a good record in slot 4, counted as live, of tree 2 where T is 1
    ∷ pool1 with ((6, 4) ∷ (136, 4) ∷ (151, 2) ∷ (152, 1) ∷ (160, 1) ∷ [])
    -- a good record in slot 4, counted as live, that no link reaches; counted in its tree too
    ∷ pool1 with ((6, 4) ∷ (136, 4) ∷ (151, 1) ∷ (152, 1) ∷ (160, 1) ∷ [])
    ∷ pool1 with ((6, 4) ∷ (34, 4) ∷ (136, 4) ∷ (151, 1) ∷ (152, 1) ∷ (160, 1) ∷ [])
    -- a cycle through the root, parents and all
    ∷ pool1 with ((48, 2) ∷ (84, 1) ∷ [])
    -- records 1 and 3 in a cycle of their own, parents and all; the tree counts three records, or only its root
    ∷ pool1 with ((80, 0) ∷ (82, 0) ∷ (48, 3) ∷ (52, 3) ∷ (112, 1) ∷ (116, 1) ∷ [])
    ∷ pool1 with ((34, 1) ∷ (80, 0) ∷ (82, 0) ∷ (48, 3) ∷ (52, 3) ∷ (112, 1) ∷ (116, 1) ∷ [])
    -- no record in the tree, three live
    ∷ pool1 with ((32, 0) ∷ (34, 0) ∷ [])
    -- 1, 2, 3 as a row to the right: the heights differ by two at record 1, whatever its balance says
    ∷ pool1 with ((32, 1) ∷ (50, 2) ∷ (52, 0) ∷ (54, 1) ∷ (80, 0) ∷ (84, 1) ∷ (86, 1) ∷ [])
    ∷ pool1 with ((32, 1) ∷ (50, 2) ∷ (52, 0) ∷ (54, 0) ∷ (80, 0) ∷ (84, 1) ∷ (86, 1) ∷ [])
    -- the children change places: keys fall
    ∷ pool1 with ((80, 3) ∷ (82, 1) ∷ [])
    -- P3, where key 3 hangs to the right of 2, in the left part of 4: with 4 or 6 for it every child is still on its side of its parent
    ∷ (ran p3).pool with ((136, 4) ∷ [])
    ∷ (ran p3).pool with ((136, 6) ∷ [])
    -- two trees: each root in the other tree; both records in one; a wrong balance in the second
    ∷ two_trees with ((32, 2) ∷ (40, 1) ∷ [])
    ∷ two_trees with ((95, 1) ∷ [])
    ∷ two_trees with ((94, 1) ∷ [])
    ∷ []

each_is_unsound : every (λ b. not (sound b)) unsound ≡ true
unfolding Cases.opened pool1 two_trees ◌with◌ long_name unsound
each_is_unsound = refl

-- ---- legal, if odd

odd : List (List ℕ)
odd =
    -- key 0; the greatest key
    pool1 with ((40, 0) ∷ [])
    ∷ pool1 with ((104, 255) ∷ (105, 255) ∷ (106, 255) ∷ (107, 255) ∷ (108, 255) ∷ (109, 255) ∷ (110, 255) ∷ (111, 255) ∷ [])
    -- two names share a byte, and no name covers the first; a name that covers the others
    ∷ pool1 with ((60, 1) ∷ [])
    ∷ pool1 with ((64, 3) ∷ [])
    -- two equal stamps; stamps that do not go by slots
    ∷ pool1 with ((56, 2) ∷ [])
    ∷ pool1 with ((56, 3) ∷ (120, 1) ∷ [])
    -- text in use that no name covers; a zero in a name; all of X in use
    ∷ pool1 with ((24, 4) ∷ (171, 100) ∷ [])
    ∷ pool1 with ((168, 0) ∷ [])
    ∷ pool1 with ((24, 16) ∷ [])
    -- the greatest next stamp, and a stamp just below it
    ∷ pool1 with ((28, 255) ∷ (29, 255) ∷ (30, 255) ∷ (31, 255) ∷ [])
    ∷ pool1 with ((28, 255) ∷ (29, 255) ∷ (30, 255) ∷ (31, 255) ∷ (56, 254) ∷ (57, 255) ∷ (58, 255) ∷ (59, 255) ∷ [])
    -- one key in two trees
    ∷ two_trees with ((80, 10) ∷ [])
    -- a name of 255 bytes; no text at all
    ∷ long_name
    ∷ fresh 1 1 0
    ∷ []

each_is_sound : every sound odd ≡ true
unfolding Cases.opened pool1 two_trees ◌with◌ long_name odd
each_is_sound = refl

-- ---- the listing, line by line

codes : String → List ℕ
codes String.[] = []
codes (String.◌∷◌ c cs) = code c ∷ codes cs

lines : List String → List ℕ
lines [] = []
lines (l ∷ ls) = codes l ++ (10 ∷ lines ls)

p1_listed : listing pool1 ≡ lines ("pool 4 1 3 3 4" ∷ "1 1 1 1 2 0 61" ∷ "1 2 2 2 0 0 62" ∷ "1 3 3 3 2 0 63" ∷ [])
unfolding Cases.opened pool1 codes lines
p1_listed = refl

-- by tree, a longer name, letters in hexadecimal; balances; a pool without records
others_listed :
    (listing (two_trees with ((144, 175) ∷ [])) ≡ lines ("pool 3 2 2 3 3" ∷ "1 10 1 1 0 0 af" ∷ "2 20 2 2 0 0 6162" ∷ []))
    × (listing (ran p3).pool ≡ lines ("pool 5 1 4 5 6" ∷ "1 2 1 1 3 1 61" ∷ "1 3 4 4 1 0 64" ∷ "1 4 3 3 0 2 63" ∷ "1 5 5 5 3 0 65" ∷ []))
    × (listing (fresh 2 8 0) ≡ lines ("pool 2 8 0 0 1" ∷ []))
unfolding Cases.opened two_trees ◌with◌ codes lines
others_listed = (refl, refl, refl)

-- an unsound pool
refused_1 : (listing (set pool1 0 2) ≡ lines ("refused 1" ∷ [])) × (listing [] ≡ lines ("refused 1" ∷ []))
unfolding Cases.opened pool1 codes lines
refused_1 = (refl, refl)
