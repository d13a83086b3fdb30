-- A machine sees no words past its image, and a run in two parts is one run. Assumes nothing.
use Rattle.std.proofs.Common.{◌≡◌, ℕ, zero, suc, ◌+◌, ◌*◌, ◌<◌, ◌≤◌, Bool, true, false, cond, eqb, ltb, List, ◌++◌, length, Ok, Err, Result, sym, refl, ap, ◌∙◌, add_assoc, suc-add, zero-add, arith}
use lib.ListN.{get_or-append}
use Rattle.std.proofs.lemmas.Bool.{ltb-true}
use Rattle.language.specs.declared.faults.Halt.{Halt}
use Rattle.host.specs.Serves.{Serves}
use Rattle.image.specs.declared.instruction.Header.{Header}
use Rattle.image.specs.declared.instruction.Local.TheVariants.{Call}
use Rattle.image.specs.declared.instruction.Instruction.TheVariants as instructions
use Rattle.image.specs.Fetch.{code, operand, call, entry, decoded, fetched, unlawful}
use Rattle.machine.specs.declared.registers.Outcome.{Outcome}
use Rattle.machine.specs.declared.registers.Outcome.TheVariants.{Paused, Finished, Halted}
use Rattle.machine.specs.Cells.{bind}
use Rattle.machine.specs.Frames.{frame}
use Rattle.stack.specs.Stack.{Stack, Went, next, ended, Run, run, step, then_run, carry, cell_at}

module _ (words more : List ℕ) (header : Header) (long : 2 + 2 * header.count ≤ length words) where
  code-before : (at : ℕ) → at < header.count → code (words ++ more) at ≡ code words at
  code-before at h = get_or-append words more 0 (2 + at) (omega arith)

  operand-before : (at : ℕ) → at < header.count → operand (words ++ more) header at ≡ operand words header at
  operand-before at h = get_or-append words more 0 (2 + header.count + at) (omega arith)

  -- a test that only the first words can pass
  below : {A : Type 0} (at n : ℕ) (x y z : A) → (at < n → x ≡ y) → cond (ltb at n) x z ≡ cond (ltb at n) y z
  below at n x y z h = go (ltb at n) (ltb-true at n)
    where
      go : (b : Bool) → (b ≡ true → at < n) → cond b x z ≡ cond b y z
      go true t = h (t refl)
      go false t = refl

  call-before : (x : ℕ) → call (words ++ more) header x ≡ call words header x
  call-before x =
      below x header.count _ _ unlawful (λ h i. cond (eqb (code-before x h i) 22) (Ok (instructions.Local (Call (entry x (operand-before x h i))))) unlawful)

  decoded-before : (c x : ℕ) → decoded (words ++ more) header c x ≡ decoded words header c x
  decoded-before c x = let e = call-before x in cc

  pub fetched-before : (at : ℕ) → fetched (words ++ more) header at ≡ fetched words header at
  fetched-before at =
      below at header.count _ _ unlawful
      (λ h. decoded-before (code (words ++ more) at) (operand (words ++ more) header at) ∙ (λ i. decoded words header (code-before at h i) (operand-before at h i)))

-- Two rows of words that have the same instructions make the same runs
module _ {S : Type 0} (ops : Serves S) (words words' : List ℕ) (header : Header) (limit : ℕ) (same : (at : ℕ) → fetched words header at ≡ fetched words' header at) where
  step_same : (s : S) (t : Stack) → step ops words header limit s t ≡ step ops words' header limit s t
  step_same s t =
      ap (λ x. bind x (λ i. bind (frame (cell_at t.cells) t.base (length t.cells)) (λ f. carry ops limit i header.result f s t))) (same t.counter)

  then_same : (f g : S → Stack → Run S) → ((s : S) (t : Stack) → f s t ≡ g s t) → (w : Result (Went S) Halt) (t : Stack) (s : S) → then_run w t s f ≡ then_run w t s g
  then_same f g e (Ok (next t' s')) t s = ap (λ r. record { steps = 1 + r.steps; outcome = r.outcome; stack = r.stack; host = r.host }) (e s' t')
  then_same f g e (Ok (ended v)) t s = refl
  then_same f g e (Err h) t s = refl

  pub run-same : (n : ℕ) (s : S) (t : Stack) → run ops words header limit n s t ≡ run ops words' header limit n s t
  run-same zero s t = refl
  run-same (suc n) s t =
      ap (λ w. then_run w t s (run ops words header limit n)) (step_same s t)
      ∙ then_same (run ops words header limit n) (run ops words' header limit n) (run-same n) (step ops words' header limit s t) t s

-- on from a run that has paused; one that has ended stays as it is
abbrev pub on_to : {S : Type 0} → Run S → (S → Stack → Run S) → Outcome → Run S
on_to r further Paused = record {
  steps = r.steps + (further r.host r.stack).steps;
  outcome = (further r.host r.stack).outcome;
  stack = (further r.host r.stack).stack;
  host = (further r.host r.stack).host;
}
on_to r further (Finished v) = r
on_to r further (Halted h k) = r

-- A run with two allowances is one run with their sum
module _ {S : Type 0} (ops : Serves S) (words : List ℕ) (header : Header) (limit : ℕ) where
  abbrev later : Run S → Run S
  later r = record { steps = 1 + r.steps; outcome = r.outcome; stack = r.stack; host = r.host }

  later-on : (r : Run S) (further : S → Stack → Run S) (o : Outcome) → later (on_to r further o) ≡ on_to (later r) further o
  later-on r further Paused = λ i. record {
    steps = sym (add_assoc 1 r.steps (further r.host r.stack).steps) i;
    outcome = (further r.host r.stack).outcome;
    stack = (further r.host r.stack).stack;
    host = (further r.host r.stack).host;
  }
  later-on r further (Finished v) = refl
  later-on r further (Halted h k) = refl

  none_first : (x : Run S) → x ≡ record { steps = 0 + x.steps; outcome = x.outcome; stack = x.stack; host = x.host }
  none_first x = λ i. record { steps = sym (zero-add x.steps) i; outcome = x.outcome; stack = x.stack; host = x.host }

  after-step : (a b : ℕ) (s : S) (t : Stack) (w : Result (Went S) Halt) → ((s : S) (t : Stack) → run ops words header limit (a + b) s t ≡ on_to (run ops words header limit a s t) (run ops words header limit b) (run ops words header limit a s t).outcome) → then_run w t s (run ops words header limit (a + b)) ≡ on_to (then_run w t s (run ops words header limit a)) (run ops words header limit b) (then_run w t s (run ops words header limit a)).outcome
  after-step a b s t (Ok (next t' s')) ih =
      ap later (ih s' t') ∙ later-on (run ops words header limit a s' t') (run ops words header limit b) (run ops words header limit a s' t').outcome
  after-step a b s t (Ok (ended v)) ih = refl
  after-step a b s t (Err h) ih = refl

  pub run-split : (a b : ℕ) (s : S) (t : Stack) → run ops words header limit (a + b) s t ≡ on_to (run ops words header limit a s t) (run ops words header limit b) (run ops words header limit a s t).outcome
  run-split zero b s t = ap (λ n. run ops words header limit n s t) (zero-add b) ∙ none_first (run ops words header limit b s t)
  run-split (suc a) b s t =
      ap (λ n. run ops words header limit n s t) (suc-add a b) ∙ after-step a b s t (step ops words header limit s t) (run-split a b)
