-- A model: what the code computes. No door's promise cites it, and it need not be believed.
-- The walk of Check.antt at a part of a tree and at a record in it, as the code hands them down. Assumes nothing.
use Rattle.std.specs.Prelude.{Bool, ◌&&◌, List, ℕ, ◌-◌, length}
use Rattle.meaning.specs.Layout.{concat}
use Rattle.judge.specs.Check.{bound_n, parts_n, from, below, rises_n, own_n, sized, fits_n}
use Rattle.judge.specs.declared.walk.Tree.{Tree}
use Rattle.judge.specs.declared.walk.Part.{Part}
use Rattle.judge.specs.declared.walk.Record.{Record}

-- the bytes of all records, and how many there are
abbrev pub bytes : Tree → List ℕ
bytes t = concat t.records.rows.now

abbrev pub slots : Tree → ℕ
slots t = length t.records.rows.now

-- x is a record of the tree with the parent u, and lies in the part
abbrev pub is_own_in : Part → ℕ → ℕ → Bool
is_own_in p u x = own_n (bytes p.tree) (slots p.tree) p.tree.number u x p.lo p.hi

-- the word of record x is this one, and it lies in the part
abbrev pub has_word_in : Part → ℕ → ℕ → Bool
has_word_in p x word = fits_n (bytes p.tree) x word p.lo p.hi

-- the record lies in its part
abbrev pub is_between : Record → Bool
is_between r = let m = bytes r.part.tree in rises_n m r.part.lo r.x && rises_n m r.x r.part.hi

-- what a link from u to x leads to, if that has the height h
abbrev pub link_count : Part → ℕ → ℕ → ℕ → ℕ
link_count p h u x =
    let m = bytes p.tree in sized (bound_n m (slots p.tree) p.tree.number h u x (from m p.lo) (below m p.hi)) h

-- what a record and its parts count, if it has the height h: its parts are walked down to `level` levels
abbrev pub count_to : ℕ → Record → ℕ → ℕ
count_to level r h =
    let m = bytes r.part.tree in
    sized (parts_n m (slots r.part.tree) r.part.tree.number level r.x (from m r.part.lo) (below m r.part.hi)) h

abbrev pub twig_count : Record → ℕ → ℕ
twig_count = count_to 1

abbrev pub record_count : Record → ℕ → ℕ
record_count r h = count_to (h - 1) r h
