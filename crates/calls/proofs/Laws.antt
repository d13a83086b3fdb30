-- The law of every list of calls. Assumes nothing.
use Rattle.std.proofs.Common.{◌≡◌, ℕ, ◌+◌, ◌-◌, Bool, true, false, cond, ◌⊎◌, List, [], ◌∷◌, length, drop, Ok, Option, sym, refl, ap, ◌∙◌, subst, subst₂, inl, inr, zero-add, arith}
use Rattle.language.specs.declared.faults.Stop.{Stop}
use Rattle.language.specs.declared.values.Value.{Value}
use Rattle.language.specs.declared.values.ValueType.{ValueType}
use Rattle.host.specs.Meaning.{Meaning}
use Rattle.host.specs.Serves.{by_meaning}
use Rattle.machine.specs.declared.registers.Outcome.{Outcome}
use Rattle.stack.specs.Stack.{run, beginning}
use Rattle.stack.specs.Law.{Told, told, from_begin, over}
use Rattle.stack.proofs.Runs.{run-is-the-stacks, leftovers-do-not-matter}
use Rattle.replay.specs.Script as replay
use Rattle.table.specs.declared.nodes.Node.{Node}
use Rattle.rules.specs.Resolved.{Rules}
use Rattle.rules.specs.Translate.{image, translated}
use Rattle.rules.specs.Evaluate.{Env, done, stopped, evaluated}
use Rattle.theory.specs.Runs.{header_for, run_of, Ended, OutOfRoom, EndsAs}
use Rattle.theory.proofs.Runs.{ended-run-stays}
use Rattle.promises.specs.Promises.{Stands, piecewise, last_host}
use Rattle.promises.proofs.Kept as promises
use Rattle.admission.proofs.Verdicts.{accepted-walk}
use Rattle.calls.specs.History.{Entry, RunOf, OneHost, taken, allowance_of, allowances, outcome, piece, pieces, host_where}
use Rattle.verdict.proofs.Typed.{typed-accepted}
use Rattle.calls.specs.Law.{RuleSet, AdmittedHasRules, RunsItsImage, NeverInTrouble, stands_since, NamedEndings, told_since, RunsAsOne, SameMeaning, SameRuns, ComesTo, ReachesEvaluation, EndsAsEvaluated, SomeAllowanceEndsIt}
use Rattle.calls.proofs.Kept.{framed}
use Rattle.calls.proofs.Follows.{tells}
use Rattle.calls.proofs.Alike.{run-alike}
use Rattle.calls.proofs.Found.{Machine, found, machine-of, known_rules}

-- the allowances of the pieces are the accepted ones
same-allowances : (es : List Entry) → replay.allowances (pieces es) ≡ allowances es
same-allowances [] = refl
same-allowances (e ∷ es) = by (taken e.answer) (same-allowances es)
  where
    by : (b : Bool) → replay.allowances (pieces es) ≡ allowances es → replay.allowances (piece b e (pieces es)) ≡ cond b (allowance_of e.call) 0 + allowances es
    by true h = ap (λ n. allowance_of e.call + n) h
    by false h = h ∙ sym (zero-add (allowances es))

out-ends : (o : Outcome) → OutOfRoom o → Ended o
out-ends o h e = let q = h.1 in let z : ◌≡◌ {A = ℕ} 0 1 = cc in omega arith

done-ends : (r : Rules) (v : Option Value) (env : Env) (m m' : Meaning) (o : Outcome) → OutOfRoom o ⊎ EndsAs r (done v env m') o m → Ended o
done-ends r v env m m' o (inl h) = out-ends o h
done-ends r v env m m' o (inr h) = λ e. let q = h.0 in let z : ◌≡◌ {A = ℕ} 0 1 = cc in omega arith

stopped-ends : (r : Rules) (c : Stop) (q : ℕ) (m m' : Meaning) (o : Outcome) → OutOfRoom o ⊎ EndsAs r (stopped c q m') o m → Ended o
stopped-ends r c q m m' o (inl h) = out-ends o h
stopped-ends r c q m m' o (inr h) = λ e. let q = h.0.1 in let z : ◌≡◌ {A = ℕ} 0 1 = cc in omega arith

pub admitted-has-rules : AdmittedHasRules
admitted-has-rules table cells begun since x =
    let f = found table cells begun since x in
    let w = accepted-walk table f.type f.code f.judged in
    let h = typed-accepted w.program f.type f.code w.limited (sym w.says) in
    (f.type, h.0, record { admitted = record { program = w.program; typed = h.1; limited = w.limited; named = h.2 }; lays = w.lays })

machine-for : (table : List Node) (t : ValueType) (r : Rules) → RuleSet table t r → (cells : ℕ) (begun : Entry) (since : List Entry) → RunOf table cells begun since → Machine (image r) (known_rules r) cells since
machine-for table t r rules cells begun since x = machine-of table t r rules cells since (found table cells begun since x)

pub runs-its-image : RunsItsImage
runs-its-image table t r rules cells begun since x =
    let f = (machine-for table t r rules cells begun since x).follows in
    record { outcomes = f.outcomes; counts = f.counts; hosts = f.hosts begun.found }

pub never-in-trouble : NeverInTrouble
never-in-trouble table cells begun since x trouble k e =
    let h = admitted-has-rules table cells begun since x in
    let s = runs-its-image table h.0 h.1 h.2 cells begun since x in
    promises.never-in-trouble h.0 h.1 h.2.admitted cells (pieces since) trouble k (sym s.outcomes ∙ e)

pub named-endings : NamedEndings
named-endings table t r rules cells begun since x =
    let s = runs-its-image table t r rules cells begun since x in
    let q = piecewise r cells (pieces since) in
    let told-so : q ≡ stands_since r cells since = λ i. record { steps = sym s.counts i; outcome = sym s.outcomes i; stack = q.stack } in
    subst (λ n. Stands t r cells n (stands_since r cells since) (host_where begun.found since) (outcome since)) (same-allowances since)
    (subst (λ m. Stands t r cells (replay.allowances (pieces since)) (stands_since r cells since) m (outcome since)) (sym s.hosts)
    (subst (λ (z : replay.Standing). Stands t r cells (replay.allowances (pieces since)) z (last_host (image r) (header_for (translated r) r.result) cells begun.found (pieces since) (beginning r.others)) z.outcome) told-so
    (promises.named-endings t r rules.admitted cells (pieces since) begun.found)))

-- with one host a run is one run of the stack
as_one : (table : List Node) (t : ValueType) (r : Rules) → RuleSet table t r → (cells : ℕ) (begun : Entry) (since : List Entry) → RunOf table cells begun since → (left : Meaning) → OneHost begun.found since left → told_since since left ≡ tells (run_of by_meaning r cells (allowances since) begun.found)
as_one table t r rules cells begun since x left h =
    (machine-for table t r rules cells begun since x).follows.alone begun.found left h

pub runs-as-one : RunsAsOne
runs-as-one table t r rules cells begun since x left h row e =
    let a = machine-for table t r rules cells begun since x in
    let header = header_for (translated r) r.result in
    let n = allowances since in
    let m = begun.found in
    let junk = drop (4 + r.others) a.row in
    let shows = run-is-the-stacks (image r) header n m (beginning r.others) junk in
    let number : length (over (beginning r.others).cells junk) ≡ cells = framed r.others a.row a.room ∙ a.number in
    leftovers-do-not-matter (image r) header n m r.others row a.row (e ∙ sym a.number)
    ∙ ap (from_begin (image r) header n m) a.begun
    ∙ ap (λ q. Ok (told q)) shows.1
    ∙ ap (λ c. Ok (tells (run by_meaning (image r) header c n m (beginning r.others)))) number
    ∙ ap Ok (sym (as_one table t r rules cells begun since x left h))

pub same_runs : SameRuns
same_runs table cells begun begun' since since' x x' left left' h h' m n =
    let rules = admitted-has-rules table cells begun since x in
    let r = rules.1 in
    let p = as_one table rules.0 r rules.2 cells begun since x left h in
    let q = as_one table rules.0 r rules.2 cells begun' since' x' left' h' ∙ ap (λ k. tells (run_of by_meaning r cells k begun'.found)) (sym n) in
    let a = run-alike (image r) (header_for (translated r) r.result) cells (allowances since) begun.found begun'.found (beginning r.others) m in (
      ap (λ z. z.outcome) p ∙ a.outcomes ∙ sym (ap (λ z. z.outcome) q),
      ap (λ z. z.steps) p ∙ a.counts ∙ sym (ap (λ z. z.steps) q),
      subst₂ SameMeaning (sym (ap (λ z. z.meaning) p)) (sym (ap (λ z. z.meaning) q)) a.hosts,
    )

-- what holds of an ended run of the stack holds of every run with as much allowance
comes-to : (table : List Node) (t : ValueType) (r : Rules) → RuleSet table t r → (cells : ℕ) (m : Meaning) (P : Outcome → Meaning → Type 0) (n : ℕ) → Ended (run_of by_meaning r cells n m).outcome → P (run_of by_meaning r cells n m).outcome (run_of by_meaning r cells n m).host → ComesTo table cells m (λ since left. P (outcome since) left)
comes-to table t r rules cells m P n ended p = (
  n,
  λ begun since left x e h le.
      let sum : n + (allowances since - n) ≡ allowances since = omega arith in
      let one = as_one table t r rules cells begun since x left (subst (λ z. OneHost z since left) (sym e) h) in
      let all = ended-run-stays r cells n (allowances since - n) m ended in
      subst (λ (z : Told). P z.outcome z.meaning)
      (sym (one ∙ (λ i. tells (run_of by_meaning r cells (sym sum i) (e i))) ∙ ap tells all)) p,
)

pub reaches-evaluation : ReachesEvaluation
reaches-evaluation table t r rules cells depth m =
    let h = promises.reaches-evaluation t r rules.admitted cells depth m in (
      λ m' v env e.
          let n = h.0 m' v env e in
          comes-to table t r rules cells m (λ o left. OutOfRoom o ⊎ EndsAs r (done v env m') o left) n.0 (done-ends r v env _ m' _ n.1) n.1,
      λ m' c q e.
          let n = h.1 m' c q e in
          comes-to table t r rules cells m (λ o left. OutOfRoom o ⊎ EndsAs r (stopped c q m') o left) n.0 (stopped-ends r c q _ m' _ n.1) n.1,
    )

pub ends-as-evaluated : EndsAsEvaluated
ends-as-evaluated table t r rules cells depth begun since x left h enough ended =
    let one = as_one table t r rules cells begun since x left h in
    let e = evaluated by_meaning r depth begun.found in
    subst (λ (z : Told). OutOfRoom z.outcome ⊎ EndsAs r e z.outcome z.meaning) (sym one)
    (promises.ends-as-evaluated t r rules.admitted cells depth (allowances since) begun.found enough (subst (λ (z : Told). Ended z.outcome) one ended))

pub some-allowance-ends-it : SomeAllowanceEndsIt
some-allowance-ends-it table t r rules cells m =
    let n = promises.some-allowance-ends-it t r rules.admitted cells m in
    comes-to table t r rules cells m (λ o left. Ended o) n.0 n.1 n.1
