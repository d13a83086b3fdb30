-- Runs end as evaluation does. Assumes nothing.
use Rattle.std.proofs.Common.{◌≡◌, ℕ, zero, suc, ◌+◌, ◌*◌, ◌<◌, ◌≤◌, ◌⊎◌, List, Ok, Err, Option, Result, sym, refl, ap, ◌∙◌, subst, inl, inr, add_comm, suc-add, arith}
use Rattle.language.specs.declared.faults.Halt.{Halt}
use Rattle.language.specs.declared.values.Value.{Value}
use Rattle.host.specs.Serves.{Serves, by_meaning}
use Rattle.image.specs.declared.instruction.Header.{Header}
use Rattle.machine.specs.declared.registers.Outcome.{Outcome}
use Rattle.stack.specs.Stack.{Stack, Went, next, ended, step, Run, then_run, run, beginning}
use Rattle.rules.specs.Resolved.{Rules}
use Rattle.rules.specs.Translate.{translated, image}
use Rattle.rules.specs.Evaluate.{Eval, done, stopped, trouble, too_deep, evaluated}
use Rattle.theory.specs.Lawful.{Lawful}
use Rattle.theory.specs.Runs.{header_for, run_of, Ended, OutOfRoom, EndsAs, DeeperSame, FinishesAsEvaluated, StopsAsEvaluated, TooDeepRunsOut, EndedStays, SomeAllowanceEnds, EndedAsEvaluated}
use Rattle.theory.proofs.Standing.{words, header}
use Rattle.theory.proofs.Depth.{split, evaluated-deepens}
use Rattle.theory.proofs.Leads.{Setting, Leads, here, full, more, After}
use Rattle.theory.proofs.Whole.{setting_of, Ends, rules-come}

abbrev run_in : {S : Type 0} → Setting S → ℕ → S → Stack → Run S
run_in x n s t = run x.ops (words x.program) (header x.program) x.limit n s t

-- so much of a run is known: how it comes out and with which host
abbrev Known : {S : Type 0} → (Outcome → S → Type 0) → Run S → Type 0
Known P r = P r.outcome r.host

-- where steps lead, a run comes with some allowance
runs_to : {S : Type 0} (x : Setting S) {Q : S → Stack → Type 0} (P : Outcome → S → Type 0) {s : S} {t : Stack} → Leads x Q s t → ((s : S) (t : Stack) → Q s t → (n : ℕ) × Known P (run_in x n s t)) → (n : ℕ) × (OutOfRoom (run_in x n s t).outcome ⊎ Known P (run_in x n s t))
runs_to x P (here {s = s} {t = t} q) k = let r = k s t q in (r.0, inr r.1)
runs_to x P (full {s = s} {t = t} e) k =
    (1, inl (t.counter, ap (λ r. (then_run r t s (run_in x 0)).outcome) e))
runs_to x P (more {s = s} {t = t} e l) k =
    let ih = runs_to x P l k in (
      suc ih.0,
      subst (λ r. OutOfRoom (then_run r t s (run_in x ih.0)).outcome ⊎ Known P (then_run r t s (run_in x ih.0))) (sym e) ih.1,
    )

-- how a run ends by how evaluation comes out, D where calls nest too deep
abbrev EndsOr : {S : Type 0} → Rules → Type 0 → Eval S (Option Value) → Outcome → S → Type 0
EndsOr r D (done v env s') o s = EndsAs r (done v env s') o s
EndsOr r D (stopped c q s') o s = EndsAs r (stopped c q s') o s
EndsOr r D trouble o s = Unit {0}
EndsOr r D too_deep o s = D

ends : {S : Type 0} (ops : Serves S) (r : Rules) (cells : ℕ) (D : Type 0) (e : Eval S (Option Value)) (s : S) (t : Stack) → After (setting_of ops r cells) D (Ends (setting_of ops r cells)) e s t → (n : ℕ) × Known (EndsOr r D e) (run_in (setting_of ops r cells) n s t)
ends ops r cells D (done v env s') s t q =
    let x = setting_of ops r cells in
    (1, subst (λ z. Known (EndsOr r D (done v env s')) (then_run z t s (run_in x 0))) (sym q.0) (refl, q.1))
ends ops r cells D (stopped c p s') s t q =
    let x = setting_of ops r cells in
    (1, subst (λ z. Known (EndsOr r D (stopped c p s')) (then_run z t s (run_in x 0))) (sym q.0) ((t.counter, refl, q.1), q.2))
ends ops r cells D trouble s t q = (0, tt)
ends ops r cells D too_deep s t q = (0, q)

-- some allowance brings a rule set's run to what its evaluation comes to, or out of room
pub rules-run : {S : Type 0} (ops : Serves S) (r : Rules) → Lawful r → (cells depth : ℕ) (s : S) → (n : ℕ) × (OutOfRoom (run_of ops r cells n s).outcome ⊎ Known (EndsOr r (4 * depth < cells) (evaluated ops r depth s)) (run_of ops r cells n s))
rules-run ops r l cells depth s =
    runs_to (setting_of ops r cells) (EndsOr r (4 * depth < cells) (evaluated ops r depth s)) (rules-come ops r l cells depth s).leads
    (λ s' t q. ends ops r cells (4 * depth < cells) (evaluated ops r depth s) s' t q)

-- with a known outcome of evaluation
known-run : {S : Type 0} (ops : Serves S) (r : Rules) → Lawful r → (cells depth : ℕ) (s : S) (e : Eval S (Option Value)) → evaluated ops r depth s ≡ e → (n : ℕ) × (OutOfRoom (run_of ops r cells n s).outcome ⊎ Known (EndsOr r (4 * depth < cells) e) (run_of ops r cells n s))
known-run ops r l cells depth s e is =
    subst (λ e. (n : ℕ) × (OutOfRoom (run_of ops r cells n s).outcome ⊎ Known (EndsOr r (4 * depth < cells) e) (run_of ops r cells n s))) is (rules-run ops r l cells depth s)

-- a run that has ended stays so
ended-step : {S : Type 0} (w : Result (Went S) Halt) (t : Stack) (s : S) (f g : S → Stack → Run S) → ((s : S) (t : Stack) → Ended (f s t).outcome → g s t ≡ f s t) → Ended (then_run w t s f).outcome → then_run w t s g ≡ then_run w t s f
ended-step (Ok (next t' s')) t s f g k e =
    let q = k s' t' e in
    λ i. record { steps = 1 + (q i).steps; outcome = (q i).outcome; stack = (q i).stack; host = (q i).host }
ended-step (Ok (ended v)) t s f g k e = refl
ended-step (Err h) t s f g k e = refl

pub ended-stays : {S : Type 0} (ops : Serves S) (ws : List ℕ) (hd : Header) (limit n m : ℕ) (s : S) (t : Stack) → Ended (run ops ws hd limit n s t).outcome → run ops ws hd limit (n + m) s t ≡ run ops ws hd limit n s t
ended-stays ops ws hd limit zero m s t e = absurd (e refl)
ended-stays ops ws hd limit (suc n) m s t e =
    ap (λ j. run ops ws hd limit j s t) (suc-add n m)
    ∙ ended-step (step ops ws hd limit s t) t s (run ops ws hd limit n) (run ops ws hd limit (n + m)) (λ s t e. ended-stays ops ws hd limit n m s t e) e

-- two allowances that both end a run end it alike
pub ended-alike : {S : Type 0} (ops : Serves S) (r : Rules) (cells n m : ℕ) (s : S) → Ended (run_of ops r cells n s).outcome → Ended (run_of ops r cells m s).outcome → run_of ops r cells m s ≡ run_of ops r cells n s
ended-alike ops r cells n m s a b =
    let stays = λ (i j : ℕ). ended-stays ops (image r) (header_for (translated r) r.result) cells i j s (beginning r.others) in
    sym (stays m n b) ∙ ap (λ j. run_of ops r cells j s) (add_comm m n) ∙ stays n m a

out-ended : {o : Outcome} → OutOfRoom o → Ended o
out-ended h e =
    let q = h.1 in
    let z : ◌≡◌ {A = ℕ} 0 1 = cc in
    omega arith

-- where evaluation is not in trouble and not too deep, the run has ended as it does
settled : {S : Type 0} (r : Rules) (D : Type 0) (e : Eval S (Option Value)) (o : Outcome) (s : S) → (e ≡ trouble → ⊥) → (D → ⊥) → EndsOr r D e o s → EndsAs r e o s × Ended o
settled r D (done v env s') o s safe shallow h = (
  h,
  λ e.
      let q = h.0 in
      let z : ◌≡◌ {A = ℕ} 0 1 = cc in
      omega arith,
)
settled r D (stopped c q s') o s safe shallow h = (
  h,
  λ e.
      let p = h.0.1 in
      let z : ◌≡◌ {A = ℕ} 0 1 = cc in
      omega arith,
)
settled r D trouble o s safe shallow h = absurd (safe refl)
settled r D too_deep o s safe shallow h = absurd (shallow h)

module _ {S : Type 0} (ops : Serves S) (r : Rules) (l : Lawful r) (cells depth : ℕ) (s : S) (enough : cells ≤ 4 * depth) where
  -- some allowance ends the run
  pub some-ends : (evaluated ops r depth s ≡ trouble → ⊥) → (n : ℕ) × (Ended (run_of ops r cells n s).outcome × (OutOfRoom (run_of ops r cells n s).outcome ⊎ Known (EndsAs r (evaluated ops r depth s)) (run_of ops r cells n s)))
  some-ends safe =
      let h = rules-run ops r l cells depth s in
      let o = (run_of ops r cells h.0 s).outcome in
      let m = (run_of ops r cells h.0 s).host in (
        h.0,
        elim h.1 [
          | inl out ↦ (out-ended out, inl out)
          | inr known ↦
              let q = settled r (4 * depth < cells) (evaluated ops r depth s) o m safe (λ d. omega arith) known in
              (q.1, inr q.0)
        ],
      )

  -- and however it ended, it ended as evaluation does, or out of room
  pub ended-as : (evaluated ops r depth s ≡ trouble → ⊥) → (n : ℕ) → Ended (run_of ops r cells n s).outcome → OutOfRoom (run_of ops r cells n s).outcome ⊎ Known (EndsAs r (evaluated ops r depth s)) (run_of ops r cells n s)
  ended-as safe n e =
      let h = some-ends safe in
      subst (λ run. OutOfRoom run.outcome ⊎ Known (EndsAs r (evaluated ops r depth s)) run) (ended-alike ops r cells n h.0 s e h.1.0) h.1.1

  pub deep-runs-out : evaluated ops r depth s ≡ too_deep → (n : ℕ) × OutOfRoom (run_of ops r cells n s).outcome
  deep-runs-out e =
      let h = known-run ops r l cells depth s too_deep e in
      (h.0, elim h.1 [ inl out ↦ out | inr d ↦ absurd (omega arith) ])

-- the statements, over meanings
pub deeper-same : DeeperSame
deeper-same r depth m = split (evaluated-deepens by_meaning r depth m)

pub finishes-as-evaluated : FinishesAsEvaluated
finishes-as-evaluated r l cells depth m m' v env e = known-run by_meaning r l cells depth m (done v env m') e

pub stops-as-evaluated : StopsAsEvaluated
stops-as-evaluated r l cells depth m m' c q e = known-run by_meaning r l cells depth m (stopped c q m') e

pub too-deep-runs-out : TooDeepRunsOut
too-deep-runs-out r l cells depth m enough e = deep-runs-out by_meaning r l cells depth m enough e

pub ended-run-stays : EndedStays
ended-run-stays r cells n extra m e =
    ended-stays by_meaning (image r) (header_for (translated r) r.result) cells n extra m (beginning r.others) e

pub some-allowance-ends : SomeAllowanceEnds
some-allowance-ends r l cells depth m enough safe =
    let h = some-ends by_meaning r l cells depth m enough safe in
    (h.0, h.1.0)

pub ended-as-evaluated : EndedAsEvaluated
ended-as-evaluated r l cells depth n m enough safe e = ended-as by_meaning r l cells depth m enough safe n e
