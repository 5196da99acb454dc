-- What the check finds section by section decides whether a pool is sound. Assumes nothing.
use Rattle.std.proofs.Common.{◌≡◌, ℕ, ◌+◌, ◌-◌, ◌*◌, ◌≤◌, Bool, true, not, ◌&&◌, eqb, List, length, take, drop, sym, refl, ap, ◌∙◌, arith, length-drop, take_all, drop-drop}
use Rattle.fields.specs.Part.{part, zeros}
use Rattle.fields.proofs.Parts.{part_in}
use Rattle.meaning.specs.Layout.{every, count, all}
use Rattle.meaning.specs.Pool.{n_slots, n_trees, n_live, text_used, next_stamp, entries, records, text_of, tree_in}
use Rattle.meaning.proofs.Clauses.{header_facts, length_entries, length_records}
use Rattle.judge.specs.Check.{trees_n}
use Rattle.judge.specs.Rows.{record_in}
use Rattle.judge.proofs.Passing.{Agree}
use Rattle.judge.proofs.OnePass.{one_pass}
use Rattle.judge.proofs.Complete.{complete}
use Rattle.judge.proofs.Sections.{agree}
use Rattle.meaning.specs.Sound.{header_ok, entry_ok, record_ok, text_ok, trees_ok, sound}

-- the clauses of a sound pool, each by its answer
pub sound_is : (b : List ℕ) {e r x t l : Bool} → header_ok b ≡ true → every entry_ok (entries b) ≡ e
    → every (record_ok (n_trees b) (text_used b) (next_stamp b)) (records b) ≡ r → text_ok b ≡ x → trees_ok (records b) 1 (entries b) ≡ t
    → eqb (n_live b) (count (λ r. not (eqb (tree_in r) 0)) (records b)) ≡ l → sound b ≡ (e && (r && (x && (t && (l && true)))))
unfolding sound all
sound_is b h e r x t l = simp (h, e, r, x, t, l) refl

-- the unused text, as a part of the pool
pub text_part : (b : List ℕ) → let start = 32 + 8 * n_trees b + 32 * n_slots b in start + text_used b ≤ length b
    → zeros (part b (start + text_used b) (length b - start - text_used b)) ≡ text_ok b
unfolding text_ok text_of
text_part b h =
    let start = 32 + 8 * n_trees b + 32 * n_slots b in
    let rest = drop (start + text_used b) b in
    ap zeros
    (part_in b (start + text_used b) (length b - start - text_used b) (omega arith)
    ∙ take_all (length b - start - text_used b) rest (rw length-drop (omega arith))
    ∙ sym (drop-drop (text_used b) start b))

module _ (b : List ℕ) (h : header_ok b ≡ true) where
  abbrev nodes : List ℕ
  nodes = take (32 * n_slots b) (drop (32 + 8 * n_trees b) b)

  abbrev live : ℕ
  live = count (λ r. not (eqb (tree_in r) 0)) (records b)

  in_rows : Agree nodes (records b)
  unfolding records
  in_rows = agree b (32 + 8 * n_trees b) (n_slots b) (omega (arith, (header_facts b h).length_is))

  by_rows : trees_n nodes (n_slots b) live 1 0 (entries b) ≡ trees_n nodes (length (records b)) live 1 0 (entries b)
  by_rows = ap (λ (k : ℕ). trees_n nodes k live 1 0 (entries b)) (sym (length_records b))

  -- the trees, by the pass over their links
  pub trees_part : every (record_ok (n_trees b) (text_used b) (next_stamp b)) (records b) ≡ true
      → trees_n nodes (n_slots b) live 1 0 (entries b) ≡ trees_ok (records b) 1 (entries b)
  trees_part r =
      by_rows
      ∙ one_pass nodes (records b) (n_trees b) (text_used b) (next_stamp b) (entries b) in_rows (omega (arith, length_records b, (header_facts b h).slots_high))
      (length_entries b) r

  -- and what that says of the records
  pub records_part : every (record_in (text_used b) (next_stamp b)) (records b) ≡ true → trees_n nodes (n_slots b) live 1 0 (entries b) ≡ true
      → every (record_ok (n_trees b) (text_used b) (next_stamp b)) (records b) ≡ true
  records_part i t = complete nodes (records b) (n_trees b) (text_used b) (next_stamp b) (entries b) in_rows (length_entries b) i (sym by_rows ∙ t)
