-- The promises are kept. Assumes nothing.
use Rattle.std.proofs.Common.{◌≡◌, ℕ, zero, suc, ◌+◌, ◌*◌, ◌≤◌, ◌⊎◌, List, [], ◌∷◌, Ok, Err, Option, Result, sym, refl, ap, ◌∙◌, subst, inl, inr, one-add, arith}
use Rattle.language.specs.declared.faults.Halt.{Halt}
use Rattle.language.specs.declared.faults.Halt.TheVariants.{Troubled, Stopped}
use Rattle.language.specs.declared.faults.Trouble.{Trouble}
use Rattle.language.specs.declared.values.Value.{Value}
use Rattle.language.specs.declared.values.ValueType.{ValueType}
use Rattle.host.specs.Meaning.{Meaning}
use Rattle.host.specs.Serves.{Serves, by_meaning}
use Rattle.image.specs.declared.instruction.Header.{Header}
use Rattle.machine.specs.declared.registers.Outcome.{Outcome}
use Rattle.machine.specs.declared.registers.Outcome.TheVariants.{Paused, Finished, Halted}
use Rattle.stack.specs.Stack.{Stack, Went, next, ended, run, step, then_run, beginning}
use Rattle.causes.proofs.Stops.{stopped-for-a-cause}
use Rattle.replay.specs.Script.{by_script, standing, Piece, go_on, in_pieces, allowances}
use Rattle.replay.proofs.Runs.{pieces-are-one-script}
use Rattle.rules.specs.Resolved.{Rules}
use Rattle.rules.specs.Translate.{image, translated}
use Rattle.rules.specs.Evaluate.{Eval, done, stopped, trouble, too_deep, evaluated}
use Rattle.safety.specs.Safety.{Is, Keeps}
use Rattle.safety.proofs.Whole.{safe-with}
use Rattle.safety.proofs.Lawful.{lawful-where-typed}
use Rattle.theory.specs.Lawful.{Lawful}
use Rattle.theory.specs.Runs.{header_for, run_of, Ended, OutOfRoom, EndsAs}
use Rattle.theory.proofs.Runs.{ended-as, some-ends, finishes-as-evaluated, stops-as-evaluated}
use Rattle.promises.specs.Promises.{Admitted, piecewise, last_host, onward_host, Stands, NeverInTrouble, NamedEndings, ReachesEvaluation, EndsAsEvaluated, SomeAllowanceEndsIt}
use Rattle.promises.proofs.Fitting.{fit}

-- an evaluation that keeps its promise is not in trouble, and no run that ended so is
kept-well : {S : Type 0} (t : ValueType) (e : Eval S (Option Value)) → Keeps t e → e ≡ trouble → ⊥
kept-well t e k q = subst (Keeps t) q k

never-troubled : {S : Type 0} (t : ValueType) (r : Rules) (e : Eval S (Option Value)) → Keeps t e → (o : Outcome) (s : S) (x : Trouble) (k : ℕ) → EndsAs r e o s → o ≡ Halted (Troubled x) k → ⊥
never-troubled t r (done v env s') keeps o s x k h q = let p = h.0 in let z : ◌≡◌ {A = ℕ} 0 1 = cc in omega arith
never-troubled t r (stopped c p s') keeps o s x k h q = let p = h.0.1 in let z : ◌≡◌ {A = ℕ} 0 1 = cc in omega arith
never-troubled t r trouble keeps o s x k h q = keeps
never-troubled t r too_deep keeps o s x k h q = h

ends-typed : {S : Type 0} (t : ValueType) (r : Rules) (e : Eval S (Option Value)) → Keeps t e → (o : Outcome) (s : S) (v : Option Value) → EndsAs r e o s → o ≡ Finished v → Is t v
ends-typed t r (done w env s') keeps o s v h q = let p = h.0 in let same : w ≡ v = cc in subst (Is t) same keeps
ends-typed t r (stopped c p s') keeps o s v h q = let p = h.0.1 in let z : ◌≡◌ {A = ℕ} 0 1 = cc in absurd (omega arith)
ends-typed t r trouble keeps o s v h q = absurd keeps
ends-typed t r too_deep keeps o s v h q = absurd h

lawful : {t : ValueType} {r : Rules} → Admitted t r → Lawful r
lawful {t} {r} a = fit r (lawful-where-typed a.program t r a.typed a.limited a.named)

module _ {S : Type 0} (ops : Serves S) (t : ValueType) (r : Rules) (a : Admitted t r) (cells : ℕ) (s : S) where
  keeps : (depth : ℕ) → Keeps t (evaluated ops r depth s)
  keeps depth = safe-with S ops a.program t r a.typed depth s

  enough : cells ≤ 4 * cells
  enough = omega arith

  how-ended : (n : ℕ) → Ended (run_of ops r cells n s).outcome → OutOfRoom (run_of ops r cells n s).outcome ⊎ EndsAs r (evaluated ops r cells s) (run_of ops r cells n s).outcome (run_of ops r cells n s).host
  how-ended n e = ended-as ops r (lawful a) cells cells s enough (kept-well t (evaluated ops r cells s) (keeps cells)) n e

  no-trouble : (n : ℕ) (x : Trouble) (k : ℕ) → (run_of ops r cells n s).outcome ≡ Halted (Troubled x) k → ⊥
  no-trouble n x k q =
      let e : Ended (run_of ops r cells n s).outcome = λ p. let z : ◌≡◌ {A = ℕ} 0 1 = cc in omega arith in
      elim (how-ended n e) [
        | inl out ↦ let p = out.1 in let z : ◌≡◌ {A = ℕ} 0 1 = cc in omega arith
        | inr h ↦ never-troubled t r (evaluated ops r cells s) (keeps cells) (run_of ops r cells n s).outcome (run_of ops r cells n s).host x k h q
      ]

  typed-end : (n : ℕ) (v : Option Value) → (run_of ops r cells n s).outcome ≡ Finished v → Is t v
  typed-end n v q =
      let e : Ended (run_of ops r cells n s).outcome = λ p. let z : ◌≡◌ {A = ℕ} 0 1 = cc in omega arith in
      elim (how-ended n e) [
        | inl out ↦ let p = out.1 in let z : ◌≡◌ {A = ℕ} 0 1 = cc in absurd (omega arith)
        | inr h ↦ ends-typed t r (evaluated ops r cells s) (keeps cells) (run_of ops r cells n s).outcome (run_of ops r cells n s).host v h q
      ]

pub never-in-trouble : NeverInTrouble
never-in-trouble t r a cells pieces x k q =
    let one = pieces-are-one-script (image r) (header_for (translated r) r.result) cells pieces (beginning r.others) in
    no-trouble by_script t r a cells one.0 _ x k (sym (ap (λ w. w.outcome) one.1) ∙ q)

-- a run that paused used up its allowance, and one that halted stands where its step halts
module _ {S : Type 0} (ops : Serves S) (words : List ℕ) (header : Header) (limit : ℕ) where
  paused : (n : ℕ) (s : S) (t : Stack) → (run ops words header limit n s t).outcome ≡ Paused → (run ops words header limit n s t).steps ≡ n
  paused zero s t e = refl
  paused (suc n) s t e = by (paused n) (step ops words header limit s t) e
    where
      by : ((s' : S) (t' : Stack) → (run ops words header limit n s' t').outcome ≡ Paused → (run ops words header limit n s' t').steps ≡ n) → (w : Result (Went S) Halt) → (then_run w t s (run ops words header limit n)).outcome ≡ Paused → (then_run w t s (run ops words header limit n)).steps ≡ suc n
      by ih (Ok (next t' s')) e = ap (λ k. 1 + k) (ih s' t' e) ∙ one-add n
      by ih (Ok (ended v)) e = let z : ◌≡◌ {A = ℕ} 0 1 = cc in absurd (omega arith)
      by ih (Err h) e = let z : ◌≡◌ {A = ℕ} 0 1 = cc in absurd (omega arith)

  halted : (n : ℕ) (s : S) (t : Stack) (h : Halt) (k : ℕ) → (run ops words header limit n s t).outcome ≡ Halted h k → (step ops words header limit (run ops words header limit n s t).host (run ops words header limit n s t).stack ≡ Err h) × (k ≡ (run ops words header limit n s t).stack.counter)
  halted zero s t h k e = let z : ◌≡◌ {A = ℕ} 0 1 = cc in absurd (omega arith)
  halted (suc n) s t h k e = by (λ s' t'. halted n s' t' h k) (step ops words header limit s t) refl e
    where
      by : ((s' : S) (t' : Stack) → (run ops words header limit n s' t').outcome ≡ Halted h k → (step ops words header limit (run ops words header limit n s' t').host (run ops words header limit n s' t').stack ≡ Err h) × (k ≡ (run ops words header limit n s' t').stack.counter)) → (w : Result (Went S) Halt) → step ops words header limit s t ≡ w → (then_run w t s (run ops words header limit n)).outcome ≡ Halted h k → (step ops words header limit (then_run w t s (run ops words header limit n)).host (then_run w t s (run ops words header limit n)).stack ≡ Err h) × (k ≡ (then_run w t s (run ops words header limit n)).stack.counter)
      by ih (Ok (next t' s')) q e = ih s' t' e
      by ih (Ok (ended v)) q e = let z : ◌≡◌ {A = ℕ} 0 1 = cc in absurd (omega arith)
      by ih (Err x) q e = let same : x ≡ h = cc in (q ∙ ap Err same, cc)

-- a run in pieces that paused used up all its allowances, and one that halted stands where a step of its last piece halts
module _ (words : List ℕ) (header : Header) (limit : ℕ) where
  pieces-paused : (pieces : List Piece) (t : Stack) → (in_pieces words header limit pieces t).outcome ≡ Paused → (in_pieces words header limit pieces t).steps ≡ allowances pieces
  pieces-paused [] t e = refl
  pieces-paused (p ∷ ps) t e =
      by (pieces-paused ps) (run by_meaning words header limit p.allowance p.host t).outcome refl e
    where
      by : ((t' : Stack) → (in_pieces words header limit ps t').outcome ≡ Paused → (in_pieces words header limit ps t').steps ≡ allowances ps) → (o : Outcome) → (run by_meaning words header limit p.allowance p.host t).outcome ≡ o → (go_on (standing (run by_meaning words header limit p.allowance p.host t)) (in_pieces words header limit ps) o).outcome ≡ Paused → (go_on (standing (run by_meaning words header limit p.allowance p.host t)) (in_pieces words header limit ps) o).steps ≡ p.allowance + allowances ps
      by ih Paused o e = λ i. paused by_meaning words header limit p.allowance p.host t o i + ih (run by_meaning words header limit p.allowance p.host t).stack e i
      by ih (Finished v) o e = let z : ◌≡◌ {A = ℕ} 0 1 = cc in absurd (omega arith)
      by ih (Halted h k) o e = let z : ◌≡◌ {A = ℕ} 0 1 = cc in absurd (omega arith)

  pieces-halted : (pieces : List Piece) (m : Meaning) (t : Stack) (h : Halt) (k : ℕ) → (in_pieces words header limit pieces t).outcome ≡ Halted h k → (step by_meaning words header limit (last_host words header limit m pieces t) (in_pieces words header limit pieces t).stack ≡ Err h) × (k ≡ (in_pieces words header limit pieces t).stack.counter)
  pieces-halted [] m t h k e = let z : ◌≡◌ {A = ℕ} 0 1 = cc in absurd (omega arith)
  pieces-halted (p ∷ ps) m t h k e =
      by (λ m' t'. pieces-halted ps m' t' h k) (run by_meaning words header limit p.allowance p.host t).outcome refl e
    where
      by : ((m' : Meaning) (t' : Stack) → (in_pieces words header limit ps t').outcome ≡ Halted h k → (step by_meaning words header limit (last_host words header limit m' ps t') (in_pieces words header limit ps t').stack ≡ Err h) × (k ≡ (in_pieces words header limit ps t').stack.counter)) → (o : Outcome) → (run by_meaning words header limit p.allowance p.host t).outcome ≡ o → (go_on (standing (run by_meaning words header limit p.allowance p.host t)) (in_pieces words header limit ps) o).outcome ≡ Halted h k → (step by_meaning words header limit (onward_host (run by_meaning words header limit p.allowance p.host t) (last_host words header limit (run by_meaning words header limit p.allowance p.host t).host ps) o) (go_on (standing (run by_meaning words header limit p.allowance p.host t)) (in_pieces words header limit ps) o).stack ≡ Err h) × (k ≡ (go_on (standing (run by_meaning words header limit p.allowance p.host t)) (in_pieces words header limit ps) o).stack.counter)
      by ih Paused o e = ih (run by_meaning words header limit p.allowance p.host t).host (run by_meaning words header limit p.allowance p.host t).stack e
      by ih (Finished v) o e = let z : ◌≡◌ {A = ℕ} 0 1 = cc in absurd (omega arith)
      by ih (Halted x n) o e = halted by_meaning words header limit p.allowance p.host t h k e

pub named-endings : NamedEndings
named-endings t r a cells pieces unseen = by (piecewise r cells pieces).outcome refl
  where
    by : (o : Outcome) → (piecewise r cells pieces).outcome ≡ o → Stands t r cells (allowances pieces) (piecewise r cells pieces) (last_host (image r) (header_for (translated r) r.result) cells unseen pieces (beginning r.others)) o
    by Paused e = pieces-paused (image r) (header_for (translated r) r.result) cells pieces (beginning r.others) e
    by (Finished v) e =
        let one = pieces-are-one-script (image r) (header_for (translated r) r.result) cells pieces (beginning r.others) in
        typed-end by_script t r a cells one.0 _ v (sym (ap (λ w. w.outcome) one.1) ∙ e)
    by (Halted (Stopped c) k) e =
        let h = pieces-halted (image r) (header_for (translated r) r.result) cells pieces unseen (beginning r.others) (Stopped c) k e in
        (h.1, stopped-for-a-cause (image r) (header_for (translated r) r.result) cells (last_host (image r) (header_for (translated r) r.result) cells unseen pieces (beginning r.others)) (piecewise r cells pieces).stack c h.0)
    by (Halted (Troubled x) k) e = never-in-trouble t r a cells pieces x k e

pub reaches-evaluation : ReachesEvaluation
reaches-evaluation t r a cells depth m = (
  λ m' v env e. finishes-as-evaluated r (lawful a) cells depth m m' v env e,
  λ m' c q e. stops-as-evaluated r (lawful a) cells depth m m' c q e,
)

pub ends-as-evaluated : EndsAsEvaluated
ends-as-evaluated t r a cells depth n m enough e =
    ended-as by_meaning r (lawful a) cells depth m enough (kept-well t (evaluated by_meaning r depth m) (keeps by_meaning t r a cells m depth)) n e

pub some-allowance-ends-it : SomeAllowanceEndsIt
some-allowance-ends-it t r a cells m =
    let h = some-ends by_meaning r (lawful a) cells cells m (enough by_meaning t r a cells m) (kept-well t (evaluated by_meaning r cells m) (keeps by_meaning t r a cells m cells)) in
    (h.0, h.1.0)
