-- Sound pools and well-formed states are the same thing, and what the doors leave is sound. Assumes nothing.
use Rattle.std.proofs.Common.{◌≡◌, ℕ, Bool, true, false, cond, eqb, List, refl, arith, leb-true}
use Rattle.fields.specs.Number.{Bytes}
use Rattle.meaning.specs.Pool.{Pool, bytes, read}
use Rattle.meaning.specs.Sound.{sound}
use Rattle.meaning.specs.WellFormed.{WellFormed}
use Rattle.meaning.specs.Doors.{fresh, sizes_ok, Created, create, commands, begun, batch_refusal, carried_out, batch}
use Rattle.meaning.proofs.Facts.{facts, test}
use Rattle.meaning.proofs.Clauses.{within_is}
use Rattle.meaning.proofs.Reading.{read_good}
use Rattle.meaning.proofs.RoundTrip.{round_trip}
use Rattle.meaning.proofs.Packed.{bytes_are}
use Rattle.meaning.proofs.Written.{written_sound}
use Rattle.meaning.proofs.ReadBack.{read_back}
use Rattle.meaning.proofs.Changes.{fresh_good}
use Rattle.meaning.proofs.Batches.{commands_parsed, begun_good, run_good, ended_good}

-- Of a sound pool: its state is well-formed, and is written as the very bytes.
pub sound_pool : (b : List ℕ) → Bytes b → sound b ≡ true → WellFormed (read b) × (bytes (read b) ≡ b)
sound_pool b a h = (read_good b a h, round_trip b a h)

-- Of a well-formed state: what is written is bytes, sound, and read as the very state.
pub good_state : (p : Pool) → WellFormed p → Bytes (bytes p) × (sound (bytes p) ≡ true) × (read (bytes p) ≡ p)
good_state p w = (bytes_are p w, written_sound p w, read_back p w)

-- A pool that was created is sound.
pub create_sound : (N T X : ℕ) (buffer : List ℕ) → (create N T X buffer).code ≡ 0 → sound (create N T X buffer).buffer ≡ true
unfolding create sizes_ok
create_sound N T X buffer = go (sizes_ok N T X buffer) refl
  where
    chosen : Bool → Created
    chosen b = cond b (record { code = 0; buffer = bytes (fresh N T X) }) (record { code = 4; buffer = buffer })

    go : (b : Bool) → sizes_ok N T X buffer ≡ b → (chosen b).code ≡ 0 → sound (chosen b).buffer ≡ true
    go true t z =
        let f = facts _ t in
        let n = within_is 1 1024 N f.0 in
        let k = within_is 1 8 T f.1.0 in
        written_sound (fresh N T X) (fresh_good N T X n.0 n.1 k.0 k.1 (leb-true X 8192 f.1.1.0))
    go false t z = absurd (omega (arith, z))

-- A batch, refused or not, leaves a sound pool sound.
pub batch_sound : (b w a : List ℕ) → Bytes b → Bytes w → sound b ≡ true → sound (batch b w a).pool ≡ true
unfolding batch carried_out
batch_sound b w a h k s =
    test (eqb (batch_refusal b w a) 0)
    (λ t. rw t (let r = run_good _ (begun (read b)) (commands w) (commands_parsed w k) (begun_good (read b) (read_good b h s)) in
    written_sound _ (ended_good r.0 _ r.1)))
    (λ t. rw t s)
