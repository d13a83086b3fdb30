-- A rule set's steps, from the beginning of a run, come to what its evaluation comes to. Assumes nothing.
use Rattle.std.proofs.Common.{◌≡◌, ℕ, ◌+◌, ◌*◌, ◌<◌, [], ◌∷◌, replicate, Some, None, Ok, Option, refl, ap, ◌∙◌, subst, arith}
use lib.ListN.{length-replicate}
use Rattle.language.specs.declared.values.Value.{Value}
use Rattle.language.specs.declared.values.Value.TheVariants as vals
use Rattle.language.specs.declared.values.ValueType.{ValueType}
use Rattle.language.specs.declared.values.ValueType.TheVariants.{Void, Int, Bool as Truths}
use Rattle.host.specs.Serves.{Serves}
use Rattle.image.specs.declared.instruction.Instruction.TheVariants as instructions
use Rattle.machine.specs.declared.cells.Cell.TheVariants.{Number, Truth, Link}
use Rattle.machine.specs.Cells.{bind, cell_of}
use Rattle.machine.specs.Step.{ends_void, ends_with}
use Rattle.stack.specs.Stack.{Stack, stack, ended, beginning}
use Rattle.rules.specs.Resolved.{Rules, all}
use Rattle.rules.specs.Translate.{end_actions, end_ending, end_functions}
use Rattle.rules.specs.Evaluate.{Env, typed, evaluated, calls_to}
use Rattle.theory.specs.Lawful.{Lawful}
use Rattle.theory.proofs.Standing.{Fetches, finishing}
use Rattle.theory.proofs.Functions.{program_of, rules-in}
use Rattle.theory.proofs.Represent.{Bone, Skeleton, Fits, none, one}
use Rattle.theory.proofs.Leads.{Setting, step_of, here, Comes, conf, value_at, trouble-comes, then-comes}
use Rattle.theory.proofs.Steps.{holds-there, step-at}
use Rattle.theory.proofs.Terms.{Deep, actions-come, ending-comes}
use Rattle.theory.proofs.Calls.{stacked-unset, skip-comes, calls-come}

-- the run's end: the next step ends it with that result, and the host is evaluation's
abbrev pub Ends : {S : Type 0} → Setting S → Option Value → Env → S → S → Stack → Type 0
Ends x v env s' s t = (step_of x s t ≡ Ok (ended v)) × (s ≡ s')

module _ {S : Type 0} (x : Setting S) {b : Bone} {sk : Skeleton} where
  ends-with : (k q : ℕ) (t : ValueType) → x.program.result ≡ t → Fetches x.program k instructions.EndValue q → (v : Value) → ends_with t v ≡ Ok v → (env : Env) (s : S) → Fits (b ∷ sk) env → step_of x s (conf k (b ∷ sk) (cell_of v ∷ []) env) ≡ Ok (ended (Some v))
  ends-with k q t is f (vals.Number z) e env s fits =
      step-at x f (Number z ∷ []) s fits
      ∙ ap (λ r. bind r (λ _. bind (ends_with x.program.result (vals.Number z)) (λ w. Ok (ended (Some w))))) (holds-there 1 (Number z ∷ []) fits (omega arith))
      ∙ ap (λ t. bind (ends_with t (vals.Number z)) (λ w. Ok (ended (Some w)))) is
      ∙ ap (λ r. bind r (λ w. Ok (ended (Some w)))) e
  ends-with k q t is f (vals.Truth y) e env s fits =
      step-at x f (Truth y ∷ []) s fits
      ∙ ap (λ r. bind r (λ _. bind (ends_with x.program.result (vals.Truth y)) (λ w. Ok (ended (Some w))))) (holds-there 1 (Truth y ∷ []) fits (omega arith))
      ∙ ap (λ t. bind (ends_with t (vals.Truth y)) (λ w. Ok (ended (Some w)))) is
      ∙ ap (λ r. bind r (λ w. Ok (ended (Some w)))) e

  -- a result of the rule set's type ends the run
  typed-comes : {D : Type 0} (k q : ℕ) (t : ValueType) → x.program.result ≡ t → Fetches x.program k (finishing t) q → (v : Option Value) (env : Env) (s : S) → Fits (b ∷ sk) env → Comes x D (Ends x) (typed t v env s) s (value_at k (b ∷ sk) [] v env)
  typed-comes k q Void is f None env s fits =
      record { leads = here (step-at x f [] s fits ∙ ap (λ t. bind (ends_void t) (λ _. Ok (ended None))) is, refl) }
  typed-comes k q Void is f (Some v) env s fits = trouble-comes
  typed-comes k q Int is f None env s fits = trouble-comes
  typed-comes k q Int is f (Some (vals.Number z)) env s fits = record { leads = here (ends-with k q Int is f (vals.Number z) refl env s fits, refl) }
  typed-comes k q Int is f (Some (vals.Truth y)) env s fits = trouble-comes
  typed-comes k q Truths is f None env s fits = trouble-comes
  typed-comes k q Truths is f (Some (vals.Number z)) env s fits = trouble-comes
  typed-comes k q Truths is f (Some (vals.Truth y)) env s fits = record { leads = here (ends-with k q Truths is f (vals.Truth y) refl env s fits, refl) }

-- the program's frame
abbrev root : Rules → Bone
root r = record { slots = r.others; back = 0; caller = 0; under = [] }

abbrev pub setting_of : {S : Type 0} → Serves S → Rules → ℕ → Setting S
setting_of ops r cells = record { ops = ops; program = program_of r; limit = cells }

-- the machine, from the beginning of a run
pub rules-come : {S : Type 0} (ops : Serves S) (r : Rules) → Lawful r → (cells depth : ℕ) (s : S) → Comes (setting_of ops r cells) (4 * depth < cells) (Ends (setting_of ops r cells)) (evaluated ops r depth s) s (beginning r.others)
rules-come ops r l cells depth s =
    let x = setting_of ops r cells in
    let c = rules-in r l in
    let calls = calls_to ops (all r.functions) depth in
    let come = calls-come x c.bodies depth in
    let start = end_functions 1 r.functions in
    let middle = end_actions start r.actions in
    let last = end_ending middle r.ending in
    let first = replicate r.others None in
    let fits : Fits (root r ∷ []) (first ∷ []) = one (length-replicate {A = Option Value} r.others None) none in
    let begins : conf 1 (root r ∷ []) [] (first ∷ []) ≡ beginning r.others =
    ap (stack 1 0) (stacked-unset r.others (Link r.others ∷ Link 0 ∷ Link 0 ∷ Link 0 ∷ [])) in
    let comes : Comes x (Deep x (root r ∷ []) depth) (Ends x) (evaluated ops r depth s) s (conf 1 (root r ∷ []) [] (first ∷ [])) =
    skip-comes r.functions 1 [] c.past fits
    (then-comes (actions-come x calls depth come (root r) [] r.actions start c.actions [] (first ∷ []) s fits)
    (λ _ env s fits. then-comes (ending-comes x calls depth come (root r) [] r.ending middle c.ending [] env s fits)
    (λ v env s fits. typed-comes x last r.place r.result refl c.last v env s fits))) in
    let shallow : 0 + 4 * depth ≡ 4 * depth = omega arith in
    subst (λ d. Comes x (d < cells) (Ends x) (evaluated ops r depth s) s (beginning r.others)) shallow
    (subst (λ t. Comes x (Deep x (root r ∷ []) depth) (Ends x) (evaluated ops r depth s) s t) begins comes)
