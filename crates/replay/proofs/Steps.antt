-- One step with any host is a step with a script of at most one answer. Assumes nothing.
use Rattle.std.proofs.Common.{◌≡◌, ℕ, ◌+◌, List, [], ◌∷◌, ◌++◌, length, ℤ, Some, None, Ok, Err, Result, refl}
use Rattle.language.specs.declared.faults.Halt.{Halt}
use Rattle.language.specs.declared.faults.Stop.{Stop}
use Rattle.language.specs.declared.values.Value.{Value}
use Rattle.language.specs.declared.values.ValueType.{ValueType}
use Rattle.host.specs.Serves.{Serves, numbered, from_host, amount_at, flag_at, post_at}
use Rattle.image.specs.declared.instruction.Header.{Header}
use Rattle.image.specs.declared.instruction.Instruction.{Instruction}
use Rattle.image.specs.declared.instruction.Instruction.TheVariants as instructions
use Rattle.image.specs.Fetch.{fetched}
use Rattle.machine.specs.declared.cells.Cell.{Cell}
use Rattle.machine.specs.declared.cells.Cell.TheVariants as cells
use Rattle.machine.specs.declared.frames.Frame.{Frame}
use Rattle.machine.specs.Cells.{bind, number, numbers, value}
use Rattle.machine.specs.Frames.{frame}
use Rattle.machine.specs.Step.{ends_void, ends_with}
use Rattle.stack.specs.Stack.{Stack, stack, Went, next, ended, step, carry, carry_local, onward, ask, post as posts, holds, one, two, cell_at}
use Rattle.replay.specs.Script.{Script, by_script, replayed, before, only_rest}
use Rattle.replay.specs.Script.Answer.{amount, flag, post}

-- some answers make a step with a host the step with those answers, whatever comes after them
unfoldable pub Replays : {S : Type 0} → Result (Went S) Halt → (Script → Result (Went Script) Halt) → Type 0
Replays r scripted = (answers : Script) × ((rest : Script) → scripted (answers ++ rest) ≡ replayed rest r)

-- what a question gave, without the host's next state
abbrev stripped : {A S : Type 0} → Result (A × S) Stop → Result A Stop
stripped (Ok r) = Ok r.0
stripped (Err stop) = Err stop

abbrev took : {S : Type 0} → Result S Stop → Result (Unit {0}) Stop
took (Ok s) = Ok tt
took (Err stop) = Err stop

module _ {S : Type 0} where
  -- no question, no answer
  silent : (r : Result (Went S) Halt) (scripted : Script → Result (Went Script) Halt) → ((rest : Script) → scripted rest ≡ replayed rest r) → Replays r scripted
  unfolding Replays
  silent r scripted h = ([], h)

  -- a step up to the question is the same with any host
  after : {A : Type 0} (x : Result A Halt) (f : A → Result (Went S) Halt) (g : A → Script → Result (Went Script) Halt) → ((a : A) → Replays (f a) (g a)) → Replays (bind x f) (λ script. bind x (λ a. g a script))
  unfolding Replays
  after (Ok a) f g h = h a
  after (Err e) f g h = ([], λ rest. refl)

  under_one : (c : List Cell) (f : Cell → List Cell → Result (Went S) Halt) (g : Cell → List Cell → Script → Result (Went Script) Halt) → ((x : Cell) (xs : List Cell) → Replays (f x xs) (g x xs)) → Replays (one c f) (λ script. one c (λ x xs. g x xs script))
  unfolding Replays
  under_one [] f g h = ([], λ rest. refl)
  under_one (x ∷ xs) f g h = h x xs

  under-two : (c : List Cell) (f : Cell → Cell → List Cell → Result (Went S) Halt) (g : Cell → Cell → List Cell → Script → Result (Went Script) Halt) → ((x y : Cell) (xs : List Cell) → Replays (f x y xs) (g x y xs)) → Replays (two c f) (λ script. two c (λ x y xs. g x y xs script))
  unfolding Replays
  under-two [] f g h = ([], λ rest. refl)
  under-two (x ∷ []) f g h = ([], λ rest. refl)
  under-two (x ∷ y ∷ xs) f g h = h y x xs

-- on from an answer, with it as a cell
abbrev on_with : {A S : Type 0} → (A → Cell) → Stack → List Cell → Result (A × S) Halt → Result (Went S) Halt
on_with to_cell t xs r = bind r (λ q. Ok (next (stack (t.counter + 1) t.base (to_cell q.0 ∷ xs)) q.1))

abbrev on_past : {S : Type 0} → Stack → List Cell → Result S Halt → Result (Went S) Halt
on_past t xs r = bind r (λ s. Ok (next (stack (t.counter + 1) t.base xs) s))

module _ {S : Type 0} (t : Stack) (rest : Script) (xs : List Cell) where
  replay-answer : {A : Type 0} (to_cell : A → Cell) (r : Result (A × S) Stop) → on_with to_cell t xs (from_host (before rest (stripped r))) ≡ replayed rest (on_with to_cell t xs (from_host r))
  replay-answer to_cell (Ok r) = refl
  replay-answer to_cell (Err stop) = refl

  replay-post : (r : Result S Stop) → on_past t xs (from_host (only_rest rest (took r))) ≡ replayed rest (on_past t xs (from_host r))
  replay-post (Ok r) = refl
  replay-post (Err stop) = refl

module _ {S : Type 0} (ops : Serves S) (s : S) (t : Stack) where
  amount-at : (xs : List Cell) (n : Result ℕ Halt) → Replays (on_with cells.Number t xs (amount_at ops s n)) (λ script. on_with cells.Number t xs (amount_at by_script script n))
  unfolding Replays
  amount-at xs (Ok field) = (amount (stripped (ops.amount s field)) ∷ [], λ rest. replay-answer t rest xs cells.Number (ops.amount s field))
  amount-at xs (Err h) = ([], λ rest. refl)

  flag_at_lem : (xs : List Cell) (n : Result ℕ Halt) → Replays (on_with cells.Truth t xs (flag_at ops s n)) (λ script. on_with cells.Truth t xs (flag_at by_script script n))
  unfolding Replays
  flag_at_lem xs (Ok field) = (flag (stripped (ops.flag s field)) ∷ [], λ rest. replay-answer t rest xs cells.Truth (ops.flag s field))
  flag_at_lem xs (Err h) = ([], λ rest. refl)

  post-at : (xs : List Cell) (v : ℤ) (n : Result ℕ Halt) → Replays (on_past t xs (post_at ops s v n)) (λ script. on_past t xs (post_at by_script script v n))
  unfolding Replays
  post-at xs v (Ok account) = (post (took (ops.post s account v)) ∷ [], λ rest. replay-post t rest xs (ops.post s account v))
  post-at xs v (Err h) = ([], λ rest. refl)

  module _ (f : Frame) where
    asks-amount : Replays (ask f t cells.Number (amount_at ops s)) (λ script. ask f t cells.Number (amount_at by_script script))
    asks-amount =
        after (holds f 1 t.cells) _ _
        (λ _. under_one t.cells _ _ (λ c xs. after (number c) _ _ (λ z. amount-at xs (numbered z))))

    asks-flag : Replays (ask f t cells.Truth (flag_at ops s)) (λ script. ask f t cells.Truth (flag_at by_script script))
    asks-flag =
        after (holds f 1 t.cells) _ _
        (λ _. under_one t.cells _ _ (λ c xs. after (number c) _ _ (λ z. flag_at_lem xs (numbered z))))

    posts-value : Replays (posts ops f s t) (λ script. posts by_script f script t)
    posts-value =
        after (holds f 2 t.cells) _ _
        (λ _. under-two t.cells _ _ (λ a b xs. after (numbers a b) _ _ (λ p. post-at xs p.1 (numbered p.0))))

    carries-local : (r : Result Stack Halt) → Replays (onward s r) (λ script. onward script r)
    unfolding Replays
    carries-local (Ok t') = ([], λ rest. refl)
    carries-local (Err h) = ([], λ rest. refl)

    ends-void : (r : Result (Unit {0}) Halt) → Replays {S = S} (bind r (λ _. Ok (ended None))) (λ script. bind r (λ _. Ok (ended None)))
    unfolding Replays
    ends-void (Ok u) = ([], λ rest. refl)
    ends-void (Err h) = ([], λ rest. refl)

    ends-value : (r : Result Value Halt) → Replays {S = S} (bind r (λ w. Ok (ended (Some w)))) (λ script. bind r (λ w. Ok (ended (Some w))))
    unfolding Replays
    ends-value (Ok u) = ([], λ rest. refl)
    ends-value (Err h) = ([], λ rest. refl)

    carried : (limit : ℕ) (i : Instruction) (result : ValueType) → Replays (carry ops limit i result f s t) (λ script. carry by_script limit i result f script t)
    carried limit (instructions.Local l) result = carries-local (carry_local limit l f t)
    carried limit instructions.Amount result = asks-amount
    carried limit instructions.Flag result = asks-flag
    carried limit instructions.Post result = posts-value
    carried limit instructions.End result = ends-void (ends_void result)
    carried limit instructions.EndValue result =
        after (holds f 1 t.cells) _ _
        (λ _. under_one t.cells _ _ (λ c xs. after (value c) _ _ (λ v. ends-value (ends_with result v))))

  pub step-replays : (words : List ℕ) (header : Header) (limit : ℕ) → Replays (step ops words header limit s t) (λ script. step by_script words header limit script t)
  step-replays words header limit =
      after (fetched words header t.counter) _ _
      (λ i. after (frame (cell_at t.cells) t.base (length t.cells)) _ _ (λ f. carried f limit i header.result))
