-- The rows of a journal's array hold its entries: what was packed comes back. Assumes nothing.
use Rattle.std.proofs.Common.{◌≡◌, ℕ, refl}
use Rattle.journal.specs.Journal.{packed_at, packed, unpacked}
use Rattle.journal.specs.declared.Entry.{Entry}
use Rattle.journal.specs.declared.Noted.{Noted}
use Rattle.journal.specs.declared.Noted.TheVariants.{Added, Removed}

back_at : (x : ℕ) (c : Noted) → unpacked (packed_at x c) ≡ record { slot = x; change = c }
back_at x Added = refl
back_at x (Removed v) = refl

-- An entry that is packed and unpacked is the entry.
pub unpacked_packed : (e : Entry) → unpacked (packed e) ≡ e
unpacked_packed e = back_at e.slot e.change
