-- A part of a list that is lent and comes back: numbers read and stored in it are numbers of the list. Assumes nothing.
use Rattle.std.proofs.Common.{◌≡◌, ℕ, ◌+◌, ◌≤◌, List, ◌++◌, length, take, drop, sym, ap, ◌∙◌, ap₂, arith, length-drop, take-append-drop, length-take}
use Rattle.fields.specs.Part.{part}
use Rattle.fields.specs.Number.{value, digits, get_le, put_le}
use Rattle.fields.proofs.Parts.{part_append_left, part_append_right, splice_append_left, splice_append_right}
use Rattle.fields.proofs.Numbers.{length_digits, length_put}

-- the n bytes from `at` on, and what stands before and behind them, are the list
whole : (bs : List ℕ) (at n : ℕ) → take at bs ++ (take n (drop at bs) ++ drop n (drop at bs)) ≡ bs
whole bs at n = simp take-append-drop

-- A number read from a part of the bytes is the number read in place.
pub get_part : (b : List ℕ) (i n k w : ℕ) → k + w ≤ n → i + n ≤ length b → get_le w (take n (drop i b)) k ≡ get_le w b (i + k)
unfolding get_le
get_part b i n k w h fits =
    let a = take i b in
    let r = take n (drop i b) in
    let t = drop n (drop i b) in
    let front : length a + k ≡ i + k = simp length-take (omega arith) in
    let within : k + w ≤ length r = simp (length-take, length-drop) (omega arith) in
    ap value
    (sym (part_append_left r t k w within)
    ∙ sym (part_append_right a (r ++ t) k w)
    ∙ ap₂ (λ (l : List ℕ) (j : ℕ). part l j w) (whole b i n) front)

-- The bytes r stand in the list m in place of the n bytes from `at` on of bs.
pub record Span (bs : List ℕ) (at n : ℕ) (r m : List ℕ) : Type 0 where
  pub size : length r ≡ n
  pub starts : length (take at bs) ≡ at
  pub is : take at bs ++ (r ++ drop n (drop at bs)) ≡ m

-- lent, nothing is changed yet
pub span_lent : (bs : List ℕ) (at n : ℕ) → at + n ≤ length bs → Span bs at n (take n (drop at bs)) bs
span_lent bs at n h =
    record {
      size = simp (length-take, length-drop) (omega arith);
      starts = simp length-take (omega arith);
      is = whole bs at n;
    }

-- a number stored in the part is stored in the list
pub span_put : (w f v : ℕ) {bs : List ℕ} {at n : ℕ} {r m r' : List ℕ} → Span bs at n r m → f + w ≤ n → r' ≡ put_le w r f v
    → Span bs at n r' (put_le w m (at + f) v)
unfolding put_le
span_put w f v {bs} {at} {n} {r} {m} {r'} s h e =
    let a = take at bs in
    let t = drop n (drop at bs) in
    let ds = digits w v in
    let fits : f + length ds ≤ length r = simp length_digits (omega (arith, s.size)) in
    let there : length a + f ≡ at + f = omega (arith, s.starts) in
    record {
      size = ap length e ∙ length_put w r f v ∙ s.size;
      starts = s.starts;
      is = ap (λ (l : List ℕ). a ++ (l ++ t)) e
          ∙ ap (λ (l : List ℕ). a ++ l) (sym (splice_append_left r t f ds fits))
          ∙ sym (splice_append_right a (r ++ t) f ds)
          ∙ ap₂ (λ (l : List ℕ) (k : ℕ). put_le w l k v) s.is there;
    }

-- the same at the part's first place
pub span_first : (w v : ℕ) {bs : List ℕ} {at n : ℕ} {r m r' : List ℕ} → Span bs at n r m → w ≤ n → r' ≡ put_le w r 0 v
    → Span bs at n r' (put_le w m at v)
span_first w v {bs} {at} {n} {r} {m} {r'} s h e =
    let here : at + 0 ≡ at = omega arith in
    rw here at (span_put w 0 v s (omega arith) e)
