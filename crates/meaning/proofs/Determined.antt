-- A promise that leaves no choice. Assumes nothing.
use Rattle.std.proofs.Common.{◌≡◌, sym, ◌∙◌}

-- Every public promise is an equation of the result, final bytes included, with a function of the inputs. Two results that such a promise allows
-- are equal. DoorsDetermined says so of each door.
pub determined : {A B : Type 0} (f : A → B) (x : A) (r q : B) → r ≡ f x → q ≡ f x → r ≡ q
determined f x r q h k = h ∙ sym k
