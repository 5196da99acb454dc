-- Demand 1, the doors. A refused door gives back every byte that it was lent; which numbers a door is refused with, each with its exact condition.
-- Assumes nothing.
use Rattle.std.proofs.Common.{◌≡◌, ℕ, ◌*◌, ◌<◌, ◌≤◌, Bool, true, false, cond, ltb, List, [], length, sym, refl, ap, ◌∙◌, arith, ltb-false, ltb-true, le-ltb, lt-ltb, ne_eqb}
use Rattle.meaning.specs.Pool.{bytes, read}
use Rattle.meaning.specs.Sound.{sound}
use Rattle.meaning.specs.Command.{refusal}
use Rattle.meaning.specs.Doors.{fresh, sizes_ok, Created, create, check, n_commands, batch_ok, begun, batch_refusal, batch, removal, name}
use Rattle.meaning.specs.Refused.{◌exactly_if◌}
use Rattle.meaning.proofs.Facts.{test}
use Rattle.meaning.proofs.Tables.{never}

-- what a door chooses by a test is known from the test
choose : {A : Type 0} {b v : Bool} (x y : A) → b ≡ v → cond b x y ≡ cond v x y
choose x y e = ap (λ (b : Bool). cond b x y) e

-- A refused batch returns its number and 0 answered, and gives back every byte of the pool and of the answers.
pub refused_batch : (pool request answers : List ℕ) → (batch_refusal pool request answers ≡ 0 → ⊥)
    → batch pool request answers ≡ record { code = batch_refusal pool request answers; answered = 0; pool = pool; answers = answers }
unfolding batch
refused_batch pool request answers n = choose _ _ (ne_eqb (batch_refusal pool request answers) 0 n)

-- the batch's three tests in their order, over their outcomes
chosen : Bool → Bool → Bool → ℕ
chosen ok short good = cond ok (cond short 3 (cond good 0 1)) 2

module _ (pool request answers : List ℕ) where
  by_tests : {x y z : Bool} → batch_ok request ≡ x → ltb (length answers) (24 * n_commands request) ≡ y → sound pool ≡ z → batch_refusal pool request answers ≡ chosen x y z
  unfolding batch_refusal chosen
  by_tests e f g = rw (e, f, g)

  -- what is to be shown of a number: by the eight outcomes of the tests
  eight : {P : Type 0} → ((x y z : Bool) → batch_ok request ≡ x → ltb (length answers) (24 * n_commands request) ≡ y → sound pool ≡ z → batch_refusal pool request answers ≡ chosen x y z → P) → P
  eight f = f (batch_ok request) (ltb (length answers) (24 * n_commands request)) (sound pool) refl refl refl (by_tests refl refl refl)

  -- BAD_BATCH, 2: exactly if the batch's header or length is wrong.
  pub bad_batch : (batch_refusal pool request answers ≡ 2) exactly_if (batch_ok request ≡ false)
  unfolding chosen
  bad_batch = (λ h. eight (λ x y z e f g i. go x y z e (sym i ∙ h)), λ h. by_tests h refl refl)
    where
      go : (x y z : Bool) → batch_ok request ≡ x → chosen x y z ≡ 2 → batch_ok request ≡ false
      go true true z e h = absurd (omega arith)
      go true false true e h = absurd (omega arith)
      go true false false e h = absurd (omega arith)
      go false y z e h = e

  -- BAD_OUT, 3: exactly if the batch is right and the answers are shorter than 24 bytes for each command.
  pub bad_out : (batch_refusal pool request answers ≡ 3) exactly_if ((batch_ok request ≡ true) × (length answers < 24 * n_commands request))
  unfolding chosen
  bad_out = (
    λ h. eight (λ x y z e f g i. go x y z e f (sym i ∙ h)),
    λ h. by_tests h.0 (lt-ltb (length answers) (24 * n_commands request) h.1) refl,
  )
    where
      go : (x y z : Bool) → batch_ok request ≡ x → ltb (length answers) (24 * n_commands request) ≡ y → chosen x y z ≡ 3 → (batch_ok request ≡ true) × (length answers < 24 * n_commands request)
      go true true z e f h = (e, ltb-true (length answers) (24 * n_commands request) f)
      go true false true e f h = absurd (omega arith)
      go true false false e f h = absurd (omega arith)
      go false y z e f h = absurd (omega arith)

  -- DAMAGED, 1: exactly if the batch is right, the answers are long enough, and the pool is not sound.
  pub damaged : (batch_refusal pool request answers ≡ 1) exactly_if ((batch_ok request ≡ true) × (24 * n_commands request ≤ length answers) × (sound pool ≡ false))
  unfolding chosen
  damaged = (
    λ h. eight (λ x y z e f g i. go x y z e f g (sym i ∙ h)),
    λ h. by_tests h.0 (le-ltb (length answers) (24 * n_commands request) h.1) h.2,
  )
    where
      go : (x y z : Bool) → batch_ok request ≡ x → ltb (length answers) (24 * n_commands request) ≡ y → sound pool ≡ z → chosen x y z ≡ 1
          → (batch_ok request ≡ true) × (24 * n_commands request ≤ length answers) × (sound pool ≡ false)
      go true true z e f g h = absurd (omega arith)
      go true false true e f g h = absurd (omega arith)
      go true false false e f g h = (e, ltb-false (length answers) (24 * n_commands request) f, g)
      go false y z e f g h = absurd (omega arith)

  -- A batch is carried out exactly if it is right, the answers are long enough, and the pool is sound.
  pub batch_allowed : (batch_refusal pool request answers ≡ 0) exactly_if ((batch_ok request ≡ true) × (24 * n_commands request ≤ length answers) × (sound pool ≡ true))
  unfolding chosen
  batch_allowed = (
    λ h. eight (λ x y z e f g i. go x y z e f g (sym i ∙ h)),
    λ h. by_tests h.0 (le-ltb (length answers) (24 * n_commands request) h.1) h.2,
  )
    where
      go : (x y z : Bool) → batch_ok request ≡ x → ltb (length answers) (24 * n_commands request) ≡ y → sound pool ≡ z → chosen x y z ≡ 0
          → (batch_ok request ≡ true) × (24 * n_commands request ≤ length answers) × (sound pool ≡ true)
      go true true z e f g h = absurd (omega arith)
      go true false true e f g h = (e, ltb-false (length answers) (24 * n_commands request) f, g)
      go true false false e f g h = absurd (omega arith)
      go false y z e f g h = absurd (omega arith)

-- BAD_SIZE, 4: create returns it exactly if the slots, trees, text size or buffer length are wrong,
pub bad_size_lem : (N T X : ℕ) (buffer : List ℕ) → ((create N T X buffer).code ≡ 4) exactly_if (sizes_ok N T X buffer ≡ false)
unfolding create
bad_size_lem N T X buffer = go (sizes_ok N T X buffer)
  where
    go : (v : Bool) → ((cond {A = Created} v (record { code = 0; buffer = bytes (fresh N T X) }) (record { code = 4; buffer = buffer })).code ≡ 4) exactly_if (v ≡ false)
    go true = (λ h. absurd (omega (arith, h)), λ h. never refl h)
    go false = (λ h. refl, λ h. refl)

-- and gives back the buffer then;
pub refused_create : (N T X : ℕ) (buffer : List ℕ) → sizes_ok N T X buffer ≡ false → create N T X buffer ≡ record { code = 4; buffer = buffer }
unfolding create
refused_create N T X buffer h = choose _ _ h

-- else it returns 0 and writes a fresh pool.
pub create_allowed : (N T X : ℕ) (buffer : List ℕ) → sizes_ok N T X buffer ≡ true → create N T X buffer ≡ record { code = 0; buffer = bytes (fresh N T X) }
unfolding create
create_allowed N T X buffer h = choose _ _ h

-- Check returns 0 exactly if the pool is sound,
pub check_sound : (pool : List ℕ) → (check pool ≡ 0) exactly_if (sound pool ≡ true)
unfolding check
check_sound pool = (λ h. test (sound pool) (λ t. t) (λ t. absurd (omega (arith, h, choose {A = ℕ} 0 1 t))), λ t. choose 0 1 t)

-- and DAMAGED, 1, exactly if it is not.
pub check_damaged : (pool : List ℕ) → (check pool ≡ 1) exactly_if (sound pool ≡ false)
unfolding check
check_damaged pool = (λ h. test (sound pool) (λ t. absurd (omega (arith, h, choose {A = ℕ} 0 1 t))) (λ t. t), λ t. choose 0 1 t)

-- Name gives back an empty part if the pool is not sound,
pub name_damaged : (pool : List ℕ) (tree slot stamp : ℕ) → sound pool ≡ false → name pool tree slot stamp ≡ []
unfolding name
name_damaged pool tree slot stamp h = choose _ _ h

-- and if op 4 would refuse the tree and handle.
pub name_refused : (pool : List ℕ) (tree slot stamp : ℕ) → (refusal (begun (read pool)) (removal tree slot stamp) ≡ 0 → ⊥) → name pool tree slot stamp ≡ []
unfolding name
name_refused pool tree slot stamp n =
    test (sound pool) (λ h. choose _ _ h ∙ choose _ _ (ne_eqb (refusal (begun (read pool)) (removal tree slot stamp)) 0 n)) (λ h. choose _ _ h)
