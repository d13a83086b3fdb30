-- One step, on whole cells and on the stack. Assumes nothing.
use Rattle.std.proofs.Common.{◌≡◌, ℕ, ◌+◌, ◌-◌, List, [], ◌∷◌, length, ℤ, Some, None, Ok, Err, Option, Result, sym, refl, ap, ◌∙◌, subst, arith}
use Rattle.language.specs.declared.faults.Halt.{Halt}
use Rattle.language.specs.declared.faults.Stop.{Stop}
use Rattle.language.specs.declared.values.Value.{Value}
use Rattle.language.specs.declared.values.Value.TheVariants as vals
use Rattle.language.specs.declared.values.ValueType.{ValueType}
use Rattle.host.specs.Meaning.{Meaning, asked, posting}
use Rattle.host.specs.Serves.{from_host, numbered, still, by_meaning, amount_at, flag_at, post_at}
use Rattle.image.specs.declared.instruction.Header.{Header}
use Rattle.image.specs.declared.instruction.Instruction.{Instruction}
use Rattle.image.specs.declared.instruction.Instruction.TheVariants as instructions
use Rattle.image.specs.Fetch.{fetched}
use Rattle.machine.specs.declared.cells.Cell.{Cell}
use Rattle.machine.specs.declared.cells.Cell.TheVariants.{Number, Truth}
use Rattle.machine.specs.declared.frames.Frame.{Frame}
use Rattle.machine.specs.Cells.{bind, cell_of, number, numbers, value}
use Rattle.machine.specs.Frames.{at, frame}
use Rattle.machine.specs.State.{State, replaced, dropped}
use Rattle.machine.specs.Step.{amount_asked, flag_asked, posted, ends_void, ends_with, local, carried, stepped}
use Rattle.machine.specs.Step as marked
use Rattle.stack.specs.Stack.{Stack, stack, cell_at, next, holds, ask, post, carry_local, carry, step}
use Rattle.stack.specs.Law.{over, whole, StepIsTheStacks}
use Rattle.stack.proofs.Over.{read_below}
use Rattle.stack.proofs.Alike.{given, Found, frame_found, frame_same}
use Rattle.stack.proofs.Agree.{Agrees, agrees-ok, agrees-ended, agrees-halts, agrees-bind, agrees-onward, agrees-spread}
use Rattle.stack.proofs.Locals.{fits, top_one, top-two, replaced-one, lowered, local-agree}

-- one thing after another, however it is bracketed
after : {A B C : Type 0} (x : Result A Halt) (f : A → Result B Halt) (g : B → Result C Halt) → bind (bind x f) g ≡ bind x (λ a. bind (f a) g)
after (Ok a) f g = refl
after (Err h) f g = refl

after_two : {U A B C : Type 0} (h : Result U Halt) (x : Result A Halt) (f : A → Result B Halt) (g : B → Result C Halt) → bind (bind h (λ _. bind x f)) g ≡ bind h (λ _. bind x (λ a. bind (f a) g))
after_two (Ok u) x f g = after x f g
after_two (Err e) x f g = refl

module _ (c b : ℕ) (m : Meaning) where
  -- a question to the host, once its number is known
  asked-agrees : {A : Type 0} (v : A → Value) (d : Cell) (s j : List Cell) (o : Option A) → Agrees (over (d ∷ s) j) (bind (bind (from_host (asked o)) (λ a. Ok (replaced 1 (v a) (whole (stack c b (d ∷ s)) j)))) (λ s'. Ok (marked.next s' m))) (bind (from_host (still m (asked o))) (λ r. Ok (next (stack (c + 1) b (cell_of (v r.0) ∷ s)) r.1)))
  asked-agrees v d s j None = agrees-halts (over (d ∷ s) j) _
  asked-agrees v d s j (Some a) = agrees-ok (over (d ∷ s) j) _ _ m (replaced-one c b d s j (v a)) (fits (d ∷ s) j)

  amount-numbered : (d : Cell) (s j : List Cell) (x : Result ℕ Halt) → Agrees (over (d ∷ s) j) (bind x (λ field. bind (bind (from_host (asked (m.amount field))) (λ z. Ok (replaced 1 (vals.Number z) (whole (stack c b (d ∷ s)) j)))) (λ s'. Ok (marked.next s' m)))) (bind (amount_at by_meaning m x) (λ r. Ok (next (stack (c + 1) b (Number r.0 ∷ s)) r.1)))
  amount-numbered d s j (Ok field) = asked-agrees vals.Number d s j (m.amount field)
  amount-numbered d s j (Err h) = agrees-halts (over (d ∷ s) j) h

  flag-numbered : (d : Cell) (s j : List Cell) (x : Result ℕ Halt) → Agrees (over (d ∷ s) j) (bind x (λ field. bind (bind (from_host (asked (m.flag field))) (λ z. Ok (replaced 1 (vals.Truth z) (whole (stack c b (d ∷ s)) j)))) (λ s'. Ok (marked.next s' m)))) (bind (flag_at by_meaning m x) (λ r. Ok (next (stack (c + 1) b (Truth r.0 ∷ s)) r.1)))
  flag-numbered d s j (Ok field) = asked-agrees vals.Truth d s j (m.flag field)
  flag-numbered d s j (Err h) = agrees-halts (over (d ∷ s) j) h

  -- a posting, once its account's number is known
  posted-agrees : (d x : Cell) (s j : List Cell) (r : Result Meaning Stop) → Agrees (over (d ∷ x ∷ s) j) (bind {A = State × Meaning} (bind (from_host r) (λ m'. Ok (dropped 2 (whole (stack c b (d ∷ x ∷ s)) j), m'))) (λ p. Ok (marked.next p.0 p.1))) (bind (from_host r) (λ m'. Ok (next (stack (c + 1) b s) m')))
  posted-agrees d x s j (Ok m') =
      agrees-ok (over (d ∷ x ∷ s) j) _ _ m' (lowered (c + 1) b (length (d ∷ x ∷ s) - 2) s (x ∷ d ∷ j) (omega arith)) (fits s (x ∷ d ∷ j))
  posted-agrees d x s j (Err stop) = agrees-halts (over (d ∷ x ∷ s) j) _

  post-numbered : (d x : Cell) (s j : List Cell) (z : ℤ) (n : Result ℕ Halt) → Agrees (over (d ∷ x ∷ s) j) (bind {A = State × Meaning} (bind n (λ account. bind (from_host (posting m account z)) (λ m'. Ok (dropped 2 (whole (stack c b (d ∷ x ∷ s)) j), m')))) (λ p. Ok (marked.next p.0 p.1))) (bind (post_at by_meaning m z n) (λ m'. Ok (next (stack (c + 1) b s) m')))
  post-numbered d x s j z (Ok account) = posted-agrees d x s j (posting m account z)
  post-numbered d x s j z (Err h) = agrees-halts (over (d ∷ x ∷ s) j) h

  module _ (f : Frame) where
    amount-agrees : (s j : List Cell) → Found (length s) f → Agrees (over s j) (bind (amount_asked m f (whole (stack c b s) j)) (λ s'. Ok (marked.next s' m))) (ask f (stack c b s) Number (amount_at by_meaning m))
    amount-agrees [] j q = absurd (omega arith)
    amount-agrees (d ∷ s) j q =
        let w = over (d ∷ s) j in
        let x = number (at w (length (d ∷ s) - 1)) in
        subst (λ r. Agrees w r (ask f (stack c b (d ∷ s)) Number (amount_at by_meaning m)))
        (sym (after (bind (holds f 1 (d ∷ s)) (λ _. bind x numbered)) _ _ ∙ after_two (holds f 1 (d ∷ s)) x numbered _))
        (agrees-bind w (holds f 1 (d ∷ s)) (holds f 1 (d ∷ s)) _ _ refl λ u e.
        agrees-bind w x (number d) _ _ (ap number (top_one d s j)) λ z _. amount-numbered d s j (numbered z))

    flag-agrees : (s j : List Cell) → Found (length s) f → Agrees (over s j) (bind (flag_asked m f (whole (stack c b s) j)) (λ s'. Ok (marked.next s' m))) (ask f (stack c b s) Truth (flag_at by_meaning m))
    flag-agrees [] j q = absurd (omega arith)
    flag-agrees (d ∷ s) j q =
        let w = over (d ∷ s) j in
        let x = number (at w (length (d ∷ s) - 1)) in
        subst (λ r. Agrees w r (ask f (stack c b (d ∷ s)) Truth (flag_at by_meaning m)))
        (sym (after (bind (holds f 1 (d ∷ s)) (λ _. bind x numbered)) _ _ ∙ after_two (holds f 1 (d ∷ s)) x numbered _))
        (agrees-bind w (holds f 1 (d ∷ s)) (holds f 1 (d ∷ s)) _ _ refl λ u e.
        agrees-bind w x (number d) _ _ (ap number (top_one d s j)) λ z _. flag-numbered d s j (numbered z))

    post-agrees : (s j : List Cell) → Found (length s) f → Agrees (over s j) (bind (posted m f (whole (stack c b s) j)) (λ p. Ok (marked.next p.0 p.1))) (post by_meaning f m (stack c b s))
    post-agrees [] j q = absurd (omega arith)
    post-agrees (d ∷ []) j q = absurd (omega arith)
    post-agrees (d ∷ x ∷ s) j q =
        let w = over (d ∷ x ∷ s) j in
        let y = numbers (at w (length (d ∷ x ∷ s) - 2)) (at w (length (d ∷ x ∷ s) - 1)) in
        subst (λ r. Agrees w r (post by_meaning f m (stack c b (d ∷ x ∷ s))))
        (sym (after_two (holds f 2 (d ∷ x ∷ s)) y _ _))
        (agrees-bind w (holds f 2 (d ∷ x ∷ s)) (holds f 2 (d ∷ x ∷ s)) _ _ refl λ u e.
        agrees-bind w y (numbers x d) _ _ (λ i. numbers (top-two d x s j i) (top_one d (x ∷ s) j i)) λ p _.
        post-numbered d x s j p.1 (numbered p.0))

    end-agrees : (t : ValueType) (s j : List Cell) → Found (length s) f → Agrees (over s j) (carried instructions.EndValue t f m (whole (stack c b s) j)) (carry by_meaning (length (over s j)) instructions.EndValue t f m (stack c b s))
    end-agrees t [] j q = absurd (omega arith)
    end-agrees t (d ∷ s) j q =
        let w = over (d ∷ s) j in
        let x = value (at w (length (d ∷ s) - 1)) in
        subst (λ r. Agrees w r (carry by_meaning (length w) instructions.EndValue t f m (stack c b (d ∷ s))))
        (sym (after_two (holds f 1 (d ∷ s)) x (ends_with t) _))
        (agrees-bind w (holds f 1 (d ∷ s)) (holds f 1 (d ∷ s)) _ _ refl λ u e.
        agrees-bind w x (value d) _ _ (ap value (top_one d s j)) λ v _.
        agrees-bind w (ends_with t v) (ends_with t v) _ _ refl λ v' _. agrees-ended w (Some v'))

    -- every instruction
    carry-agrees : (i : Instruction) (t : ValueType) (s j : List Cell) → Found (length s) f → Agrees (over s j) (carried i t f m (whole (stack c b s) j)) (carry by_meaning (length (over s j)) i t f m (stack c b s))
    carry-agrees (instructions.Local l) t s j q =
        agrees-onward (over s j) m (local l f (whole (stack c b s) j)) (carry_local (length (over s j)) l f (stack c b s)) (local-agree c b f l s j q)
    carry-agrees instructions.Amount t s j q = amount-agrees s j q
    carry-agrees instructions.Flag t s j q = flag-agrees s j q
    carry-agrees instructions.Post t s j q = post-agrees s j q
    carry-agrees instructions.End t s j q = agrees-bind (over s j) (ends_void t) (ends_void t) _ _ refl (λ _ _. agrees-ended (over s j) None)
    carry-agrees instructions.EndValue t s j q = end-agrees t s j q

-- a step on whole cells and one on the stack agree
pub step-agrees : (words : List ℕ) (header : Header) (m : Meaning) (t : Stack) (junk : List Cell) → Agrees (over t.cells junk) (stepped words header m (whole t junk)) (step by_meaning words header (length (over t.cells junk)) m t)
step-agrees words header m t junk =
    let s = t.cells in
    let w = over s junk in
    agrees-bind w (fetched words header t.counter) (fetched words header t.counter) _ _ refl λ i _.
    agrees-bind w (frame (at w) t.base (length s)) (frame (cell_at s) t.base (length s)) _ _ (frame_same (at w) (cell_at s) t.base (length s) (read_below s junk)) λ f e.
    carry-agrees t.counter t.base m f i header.result s junk (given (Found (length s)) (frame (cell_at s) t.base (length s)) f (frame_found (cell_at s) t.base (length s)) e)

pub step-is-the-stacks : StepIsTheStacks
step-is-the-stacks words header m t junk =
    agrees-spread (over t.cells junk) (stepped words header m (whole t junk)) (step by_meaning words header (length (over t.cells junk)) m t) (step-agrees words header m t junk)
