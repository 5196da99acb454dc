-- A row of commands, one after the other: where each begins, what it answers and where its answer stands. Assumes nothing.
use Rattle.std.proofs.Common.{◌≡◌, ℕ, ◌+◌, ◌*◌, Bool, true, false, cond, eqb, List, [], ◌∷◌, ◌++◌, length, sym, refl, ap, ◌∙◌, append_assoc, mul-suc, arith, length-append, take_all}
use Rattle.std.proofs.Math.Option.{Option, none, some}
use Rattle.std.proofs.lemmas.List.{length-map}
use Rattle.fields.specs.Part.{part}
use Rattle.fields.proofs.Parts.{part_in, part_append_left, part_append_right}
use Rattle.meaning.specs.Layout.{rows}
use Rattle.meaning.specs.Pool.{Rec}
use Rattle.meaning.specs.Cursor.{Command, State, kind}
use Rattle.meaning.specs.Command.{op_of, refusal, after_refusal, answer, refused, carried_out, perform}
use Rattle.meaning.specs.Doors.{n_commands, command, commands, run}
use Rattle.meaning.specs.States.{Parsed}
use Rattle.meaning.proofs.Batches.{AllParsed, none_left, and_then}
use Rattle.meaning.proofs.Facts.{length_pack, length_rows}

length_answer : (code k x : ℕ) (o : Option Rec) → length (answer code k x o) ≡ 24
unfolding answer
length_answer code k x none = length_pack ((1, code) ∷ (1, k) ∷ (22, 0) ∷ [])
length_answer code k x (some r) =
    length_pack ((1, code) ∷ (1, k) ∷ (2, x) ∷ (4, r.stamp) ∷ (8, r.key) ∷ (4, r.start) ∷ (2, r.len) ∷ (2, 0) ∷ [])

-- Every command's answer has 24 bytes.
pub answer_long : (s : State) (c : Command) → length (perform s c).answer ≡ 24
unfolding perform refused carried_out
answer_long s c = go (eqb (refusal s c) 0)
  where
    go : (b : Bool) → length (cond b (carried_out (op_of c) s c) (refused (refusal s c) s c)).answer ≡ 24
    go true = length_answer 0 _ _ _
    go false = length_answer (refusal s c) (kind (after_refusal c.op (refusal s c) s.cursor)) 0 none

-- So the answers of a row have 24 bytes for each.
pub answers_long : (s : State) (cs : List Command) → length (run s cs).answers ≡ 24 * length cs
unfolding run
answers_long s [] = refl
answers_long s (c ∷ cs) =
    length-append (perform s c).answer (run (perform s c).state cs).answers
    ∙ omega (arith, answer_long s c, answers_long (perform s c).state cs, mul-suc 24 (length cs))

-- A row of commands is its first part and then, from where that ends, the rest: in its state
pub turn_state : (s : State) (cs ds : List Command) → (run s (cs ++ ds)).state ≡ (run (run s cs).state ds).state
unfolding run
turn_state s [] ds = refl
turn_state s (c ∷ cs) ds = turn_state (perform s c).state cs ds

-- and in its answers.
pub turn_answers : (s : State) (cs ds : List Command) → (run s (cs ++ ds)).answers ≡ (run s cs).answers ++ (run (run s cs).state ds).answers
unfolding run
turn_answers s [] ds = refl
turn_answers s (c ∷ cs) ds =
    ap (λ (l : List ℕ). (perform s c).answer ++ l) (turn_answers (perform s c).state cs ds)
    ∙ sym (append_assoc (perform s c).answer (run (perform s c).state cs).answers (run (run (perform s c).state cs).state ds).answers)

-- The answer to a command stands behind those to the commands before it.
pub turn_part : (s : State) (cs : List Command) (c : Command) (ds : List Command) (rest : List ℕ)
    → part ((run s (cs ++ (c ∷ ds))).answers ++ rest) (24 * length cs) 24 ≡ (perform (run s cs).state c).answer
unfolding run
turn_part s cs c ds rest =
    let front = (run s cs).answers in
    let v = (run s cs).state in
    let a = (perform v c).answer in
    let more = (run (perform v c).state ds).answers in
    let n : length a ≡ 24 = answer_long v c in
    ap (λ (l : List ℕ). part (l ++ rest) (24 * length cs) 24) (turn_answers s cs (c ∷ ds))
    ∙ ap (λ (l : List ℕ). part l (24 * length cs) 24) (append_assoc front (a ++ more) rest ∙ ap (λ (l : List ℕ). front ++ l) (append_assoc a more rest))
    ∙ ap (λ (i : ℕ). part (front ++ (a ++ (more ++ rest))) i 24) (let e : 24 * length cs ≡ length front + 0 = omega (arith, answers_long s cs) in e)
    ∙ part_append_right front (a ++ (more ++ rest)) 0 24
    ∙ part_append_left a (more ++ rest) 0 24 (omega arith)
    ∙ part_in a 0 24 (omega arith)
    ∙ take_all 24 a (omega arith)

-- What is so of all commands is so of those before one, and of that one.
pub parsed_split : (cs : List Command) (c : Command) (ds : List Command) → AllParsed (cs ++ (c ∷ ds)) → AllParsed cs × Parsed c
parsed_split [] c ds (and_then h hs) = (none_left, h)
parsed_split (d ∷ cs) c ds (and_then h hs) = let k = parsed_split cs c ds hs in (and_then h k.0, k.1)

-- A batch has as many commands as its header says.
pub commands_many : (w : List ℕ) → length (commands w) ≡ n_commands w
unfolding commands
commands_many w = length-map (rows (n_commands w) 24 _) (command _) ∙ length_rows (n_commands w) 24 _
