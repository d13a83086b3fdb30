-- A run with any host is a run with a script, and a run in pieces is one run. Assumes nothing.
use Rattle.std.proofs.Common.{◌≡◌, ℕ, zero, suc, ◌+◌, List, [], ◌∷◌, ◌++◌, Ok, Err, Result, sym, refl, ap, ◌∙◌, subst, append_assoc, add_assoc, suc-add, zero-add}
use Rattle.language.specs.declared.faults.Halt.{Halt}
use Rattle.host.specs.Meaning.{Meaning}
use Rattle.host.specs.Serves.{Serves, by_meaning}
use Rattle.image.specs.declared.instruction.Header.{Header}
use Rattle.machine.specs.declared.registers.Outcome.{Outcome}
use Rattle.machine.specs.declared.registers.Outcome.TheVariants.{Paused, Finished, Halted}
use Rattle.stack.specs.Stack.{Stack, Went, next, ended, Run, run, step, then_run}
use Rattle.replay.specs.Script.{Script, by_script, replayed, Standing, standing, Piece, go_on, in_pieces, allowances}
use Rattle.replay.proofs.Steps.{Replays, step-replays}

-- a run with more steps before it
abbrev later : {S : Type 0} → Run S → Run S
later r = record { steps = 1 + r.steps; outcome = r.outcome; stack = r.stack; host = r.host }

-- a run with a host, and one with a script of which this rest is left: the same standing, and the rest is left where the run has paused
abbrev Left : Outcome → Script → Script → Type 0
Left Paused rest script = script ≡ rest
Left (Finished v) rest script = Unit {0}
Left (Halted h p) rest script = Unit {0}

pub record Same {S : Type 0} (r : Run S) (rest : Script) (q : Run Script) : Type 0 where
  pub stands : standing q ≡ standing r
  pub left : Left r.outcome rest q.host

module _ {S : Type 0} (ops : Serves S) (words : List ℕ) (header : Header) (limit : ℕ) where
  -- some answers make the run with a host the run with those answers
  pub Answered : ℕ → S → Stack → Type 0
  Answered n s t = (answers : Script) × ((rest : Script) → Same (run ops words header limit n s t) rest (run by_script words header limit n (answers ++ rest) t))

  same-later : (r : Run S) (rest : Script) (q : Run Script) → Same r rest q → Same (later r) rest (later q)
  same-later r rest q h = record {
    stands = ap (λ x. record { steps = 1 + x.steps; outcome = x.outcome; stack = x.stack }) h.stands;
    left = h.left;
  }

  answered-step : (n : ℕ) (s : S) (t : Stack) (w : Result (Went S) Halt) (first : Script) → ((rest : Script) → step by_script words header limit (first ++ rest) t ≡ replayed rest w) → ((s' : S) (t' : Stack) → Answered n s' t') → (answers : Script) × ((rest : Script) → Same (then_run w t s (run ops words header limit n)) rest (then_run (step by_script words header limit (answers ++ rest) t) t (answers ++ rest) (run by_script words header limit n)))
  unfolding Answered
  answered-step n s t (Ok (next t' s')) first h further =
      let more = further s' t' in (
        first ++ more.0,
        λ rest.
            subst (λ x. Same (later (run ops words header limit n s' t')) rest (then_run x t ((first ++ more.0) ++ rest) (run by_script words header limit n)))
            (sym (ap (λ l. step by_script words header limit l t) (append_assoc first more.0 rest) ∙ h (more.0 ++ rest)))
            (same-later (run ops words header limit n s' t') rest (run by_script words header limit n (more.0 ++ rest) t') (more.1 rest)),
      )
  answered-step n s t (Ok (ended v)) first h further =
      (first, λ rest. subst (λ x. Same (record { steps = 1; outcome = Finished v; stack = t; host = s }) rest (then_run x t (first ++ rest) (run by_script words header limit n))) (sym (h rest)) (record { stands = refl; left = tt }))
  answered-step n s t (Err x) first h further =
      (first, λ rest. subst (λ y. Same (record { steps = 0; outcome = Halted x t.counter; stack = t; host = s }) rest (then_run y t (first ++ rest) (run by_script words header limit n))) (sym (h rest)) (record { stands = refl; left = tt }))

  pub answered : (n : ℕ) (s : S) (t : Stack) → Answered n s t
  unfolding Answered Replays
  answered zero s t = ([], λ rest. record { stands = refl; left = refl })
  answered (suc n) s t =
      let one = step-replays ops s t words header limit in
      answered-step n s t (step ops words header limit s t) one.0 one.1 (answered n)

-- a run of so many steps and then so many is one run
module _ {S : Type 0} (ops : Serves S) (words : List ℕ) (header : Header) (limit : ℕ) where
  -- one step before a run in two parts
  before_on : (x : Run S) (further : Stack → Standing) (o : Outcome) → go_on (standing (later x)) further o ≡ (record { steps = 1 + (go_on (standing x) further o).steps; outcome = (go_on (standing x) further o).outcome; stack = (go_on (standing x) further o).stack })
  before_on x further Paused = λ i. record { steps = add_assoc 1 x.steps (further x.stack).steps i; outcome = (further x.stack).outcome; stack = (further x.stack).stack }
  before_on x further (Finished v) = refl
  before_on x further (Halted h p) = refl

  split_step : (a b : ℕ) (s : S) (t : Stack) (w : Result (Went S) Halt) → ((s' : S) (t' : Stack) → standing (run ops words header limit (a + b) s' t') ≡ go_on (standing (run ops words header limit a s' t')) (λ t''. standing (run ops words header limit b (run ops words header limit a s' t').host t'')) (run ops words header limit a s' t').outcome) → standing (then_run w t s (run ops words header limit (a + b))) ≡ go_on (standing (then_run w t s (run ops words header limit a))) (λ t''. standing (run ops words header limit b (then_run w t s (run ops words header limit a)).host t'')) (then_run w t s (run ops words header limit a)).outcome
  split_step a b s t (Ok (next t' s')) ih =
      ap (λ x. record { steps = 1 + x.steps; outcome = x.outcome; stack = x.stack }) (ih s' t') ∙ sym (before_on (run ops words header limit a s' t') (λ t''. standing (run ops words header limit b (run ops words header limit a s' t').host t'')) (run ops words header limit a s' t').outcome)
  split_step a b s t (Ok (ended v)) ih = refl
  split_step a b s t (Err x) ih = refl

  none_first : (x : Run S) → standing x ≡ (record { steps = 0 + x.steps; outcome = x.outcome; stack = x.stack })
  none_first x = λ i. record { steps = sym (zero-add x.steps) i; outcome = x.outcome; stack = x.stack }

  pub split : (a b : ℕ) (s : S) (t : Stack) → standing (run ops words header limit (a + b) s t) ≡ go_on (standing (run ops words header limit a s t)) (λ t''. standing (run ops words header limit b (run ops words header limit a s t).host t'')) (run ops words header limit a s t).outcome
  split zero b s t = ap (λ n. standing (run ops words header limit n s t)) (zero-add b) ∙ none_first (run ops words header limit b s t)
  split (suc a) b s t =
      ap (λ n. standing (run ops words header limit n s t)) (suc-add a b) ∙ split_step a b s t (step ops words header limit s t) (split a b)

-- a run in pieces is the run of one script
module _ (words : List ℕ) (header : Header) (limit : ℕ) where
  -- by how the first piece came out
  joined : (n m : ℕ) (t : Stack) (r : Run Meaning) (answers : Script) → ((rest : Script) → Same r rest (run by_script words header limit n (answers ++ rest) t)) → (further : Stack → Standing) → ((t' : Stack) → (script : Script) × (further t' ≡ standing (run by_script words header limit m script t'))) → (o : Outcome) → r.outcome ≡ o → (script : Script) × (go_on (standing r) further o ≡ standing (run by_script words header limit (n + m) script t))
  joined n m t r answers same further rest Paused e =
      let b = rest r.stack in
      let q = run by_script words header limit n (answers ++ b.0) t in
      let h = same b.0 in
      let paused : q.outcome ≡ Paused = ap (λ x. x.outcome) h.stands ∙ e in
      let left : q.host ≡ b.0 = subst (λ o. Left o b.0 q.host) e h.left in (
        answers ++ b.0,
        ap (λ (x : Standing). record { steps = r.steps + x.steps; outcome = x.outcome; stack = x.stack }) b.1
            ∙ ap (λ x. go_on x (λ t'. standing (run by_script words header limit m b.0 t')) Paused) (sym h.stands)
            ∙ ap (λ script. go_on (standing q) (λ t'. standing (run by_script words header limit m script t')) Paused) (sym left)
            ∙ ap (go_on (standing q) (λ t'. standing (run by_script words header limit m q.host t'))) (sym paused)
            ∙ sym (split by_script words header limit n m (answers ++ b.0) t),
      )
  joined n m t r answers same further rest (Finished v) e =
      let q = run by_script words header limit n (answers ++ []) t in
      let h = same [] in
      let out : q.outcome ≡ Finished v = ap (λ x. x.outcome) h.stands ∙ e in
      (answers ++ [], sym h.stands ∙ ap (go_on (standing q) (λ t'. standing (run by_script words header limit m q.host t'))) (sym out) ∙ sym (split by_script words header limit n m (answers ++ []) t))
  joined n m t r answers same further rest (Halted x k) e =
      let q = run by_script words header limit n (answers ++ []) t in
      let h = same [] in
      let out : q.outcome ≡ Halted x k = ap (λ x. x.outcome) h.stands ∙ e in
      (answers ++ [], sym h.stands ∙ ap (go_on (standing q) (λ t'. standing (run by_script words header limit m q.host t'))) (sym out) ∙ sym (split by_script words header limit n m (answers ++ []) t))

  pub pieces-are-one-script : (pieces : List Piece) (t : Stack) → (script : Script) × (in_pieces words header limit pieces t ≡ standing (run by_script words header limit (allowances pieces) script t))
  unfolding Answered
  pieces-are-one-script [] t = ([], refl)
  pieces-are-one-script (p ∷ ps) t =
      let first = answered by_meaning words header limit p.allowance p.host t in
      joined p.allowance (allowances ps) t (run by_meaning words header limit p.allowance p.host t) first.0 first.1 (in_pieces words header limit ps) (pieces-are-one-script ps) (run by_meaning words header limit p.allowance p.host t).outcome refl
