-- `append_name`: nothing where the names have no such part, else the part copied.
use Rattle.std.proofs.Common.{◌≡◌, ℕ, ◌+◌, ◌-◌, Bool, true, false, leb, List, length, take, drop, sym, ap, ◌∙◌, arith}
use Rattle.fields.specs.Part.{part, splice}
use Rattle.fields.proofs.Parts.{inside, outside, part_in, part_out, splice_none}
use Rattle.slots.proofs.change.append_name.Goals as goal

-- A name that the names do not have: nothing is copied.
name_absent : (m : List ℕ) (at : ℕ) (names : List ℕ) (from len : ℕ) {t : Bool} → t ≡ leb (from + len) (length names) → t ≡ false
    → m ≡ splice m at (part names from len)
name_absent m at names from len e f = simp (part_out names from len (outside _ _ e f), splice_none)

-- A name that they have: copied as the part lent.
name_copied : (m : List ℕ) (at : ℕ) (names : List ℕ) (from len : ℕ) {t : Bool} {last : List ℕ} → t ≡ leb (from + len) (length names)
    → t ≡ true → last ≡ splice m at (take (from + len - from) (drop from names)) → last ≡ splice m at (part names from len)
name_copied m at names from len e f g =
    let all : from + len - from ≡ len = omega arith in
    g
    ∙ ap (λ (k : ℕ). splice m at (take k (drop from names))) all
    ∙ ap (splice m at) (sym (part_in names from len (inside _ _ e f)))

pub returns-then-not-within : goal.returns-then-not-within
returns-then-not-within c = name_absent _ _ _ _ _ c.within.ensures c.if-not-within.true

pub overflow_add-from : goal.overflow_add-from
overflow_add-from c = omega (arith, inside (c.args.from + c.args.len) (length c.args.names.now) c.within.ensures c.if-not-within.false)

pub slice_bounds-copy_in-end : goal.slice_bounds-copy_in-end
slice_bounds-copy_in-end c = omega (arith, inside (c.args.from + c.args.len) (length c.args.names.now) c.within.ensures c.if-not-within.false)

pub returns : goal.returns
returns c = name_copied _ _ _ _ _ c.within.ensures c.if-not-within.false c.copy_in.ensures
