-- The bytes of a fresh pool: the header's stores into zeros are what `bytes` writes. Assumes nothing.
use Rattle.std.proofs.Common.{◌≡◌, ℕ, zero, suc, ◌+◌, ◌-◌, ◌*◌, ◌≤◌, List, [], ◌∷◌, ◌++◌, map, length, replicate, sym, refl, ap, ◌∙◌, ap₂, append-nil, mul-suc, arith}
use Rattle.std.proofs.Math.Option.{Option, none}
use Rattle.std.proofs.lemmas.List.{length-replicate, replicate-append-replicate}
use Rattle.fields.specs.Number.{digits, put_le}
use Rattle.fields.specs.Part.{splice}
use Rattle.fields.proofs.Numbers.{length_digits, length_put}
use Rattle.fields.proofs.Parts.{splice_append_left, splice_all}
use Rattle.avl.specs.Tree.{Tree, leaf, list}
use Rattle.meaning.specs.Layout.{pack, concat, count}
use Rattle.meaning.specs.Pool.{Rec, Pool, is_live, live_count, header_bytes, entry_bytes, record_bytes, record_rows, bytes}
use Rattle.meaning.specs.Doors.{fresh}
use Rattle.create.specs.Create.{headed}

-- ---- a store in the first 32 bytes

-- l is `head`, of 32 bytes, and then `rest`
record Begins (head rest l : List ℕ) : Type 0 where
  is : l ≡ head ++ rest
  long : length head ≡ 32

put_head : {head rest l : List ℕ} (w at v : ℕ) → at + w ≤ 32 → Begins head rest l → Begins (put_le w head at v) rest (put_le w l at v)
unfolding put_le
put_head {head} {rest} w at v h b =
    record {
      is = ap (λ (k : List ℕ). splice k at (digits w v)) b.is
          ∙ splice_append_left head rest at (digits w v) (simp length_digits (omega (arith, b.long)));
      long = length_put w head at v ∙ b.long;
    }

headed_head : {head rest l : List ℕ} (N T X : ℕ) → Begins head rest l → Begins (headed head N T X) rest (headed l N T X)
unfolding headed
headed_head N T X b =
    put_head 4 28 1 (omega arith) (put_head 4 20 X (omega arith)
    (put_head 4 16 (32 + 8 * T + 32 * N) (omega arith) (put_head 4 12 (32 + 8 * T) (omega arith) (put_head 4 8 32 (omega arith)
    (put_head 2 4 T (omega arith) (put_head 2 2 N (omega arith) (put_head 2 0 1 (omega arith) b)))))))

-- ---- the header

headed_zeros : (N T X : ℕ) → headed (replicate 32 0) N T X
    ≡ pack ((2, 1) ∷ (2, N) ∷ (2, T) ∷ (2, 0) ∷ (4, 32) ∷ (4, 32 + 8 * T) ∷ (4, 32 + 8 * T + 32 * N) ∷ (4, X) ∷ (4, 0) ∷ (4, 1) ∷ [])
unfolding headed pack put_le splice digits
headed_zeros N T X = refl

none_live : (N : ℕ) → count is_live (replicate N none) ≡ 0
unfolding count is_live
none_live zero = refl
none_live (suc N) = omega (arith, none_live N)

fresh_header : (N T X : ℕ) → header_bytes (fresh N T X) ≡ headed (replicate 32 0) N T X
unfolding header_bytes live_count fresh
fresh_header N T X =
    rw (headed_zeros N T X, none_live N, length-replicate {A = Option Rec} N none, length-replicate {A = Tree} T leaf)

-- ---- the sections

zeros_more : (w n : ℕ) {a b : List ℕ} → a ≡ replicate w 0 → b ≡ replicate (w * n) 0 → a ++ b ≡ replicate (w * suc n) 0
zeros_more w n p q =
    let e : w + w * n ≡ w * suc n = omega (arith, mul-suc w n) in
    ap₂ ◌++◌ p q ∙ replicate-append-replicate w (w * n) 0 ∙ ap (λ (k : ℕ). replicate k 0) e

entry_zeros : entry_bytes leaf ≡ replicate 8 0
unfolding entry_bytes pack digits list
entry_zeros = refl

entries_zeros : (T : ℕ) → concat (map entry_bytes (replicate T leaf)) ≡ replicate (8 * T) 0
unfolding concat
entries_zeros zero = refl
entries_zeros (suc T) = zeros_more 8 T entry_zeros (entries_zeros T)

records_zeros : (p : Pool) (x N : ℕ) → concat (record_rows p x (replicate N none)) ≡ replicate (32 * N) 0
unfolding concat record_rows record_bytes
records_zeros p x zero = refl
records_zeros p x (suc N) = zeros_more 32 N refl (records_zeros p (suc x) N)

body_zeros : (T N X : ℕ) {a b : List ℕ} → a ≡ replicate (8 * T) 0 → b ≡ replicate (32 * N) 0
    → a ++ (b ++ (replicate (X - 0) 0 ++ [])) ≡ replicate (8 * T + 32 * N + X) 0
body_zeros T N X p q =
    let e : 8 * T + (32 * N + X) ≡ 8 * T + 32 * N + X = omega arith in
    let none_used : X - 0 ≡ X = omega arith in
    let text = append-nil {A = ℕ} (replicate (X - 0) 0) ∙ ap (λ (k : ℕ). replicate k 0) none_used in
    ap₂ ◌++◌ p (ap₂ ◌++◌ q text ∙ replicate-append-replicate (32 * N) X 0)
    ∙ replicate-append-replicate (8 * T) (32 * N + X) 0
    ∙ ap (λ (k : ℕ). replicate k 0) e

fresh_bytes : (N T X : ℕ) → bytes (fresh N T X) ≡ headed (replicate 32 0) N T X ++ replicate (8 * T + 32 * N + X) 0
unfolding bytes concat fresh
fresh_bytes N T X = ap₂ ◌++◌ (fresh_header N T X) (body_zeros T N X (entries_zeros T) (records_zeros (fresh N T X) 1 N))

-- The stores of `create` on its zeroed buffer give the fresh pool.
pub fresh_stored : (N T X : ℕ) (b : List ℕ) → length b ≡ 32 + 8 * T + 32 * N + X
    → headed (splice b 0 (replicate (length b) 0)) N T X ≡ bytes (fresh N T X)
fresh_stored N T X b h =
    let n = 8 * T + 32 * N + X in
    let e : length b ≡ 32 + n = omega arith in
    let z : splice b 0 (replicate (length b) 0) ≡ replicate 32 0 ++ replicate n 0 =
    splice_all b (replicate (length b) 0) (sym (length-replicate (length b) 0))
    ∙ ap (λ (k : ℕ). replicate k 0) e
    ∙ sym (replicate-append-replicate 32 n 0) in
    (headed_head N T X (record { is = z; long = length-replicate {A = ℕ} 32 0 })).is ∙ sym (fresh_bytes N T X)
