-- What each instruction's step is, on the stack that represents an environment. Assumes nothing.
use Rattle.std.proofs.Common.{◌≡◌, ℕ, ◌+◌, ◌<◌, ◌≤◌, Bool, cond, List, ◌∷◌, ◌++◌, length, drop, ℤ, Some, Ok, Result, refl, ap, ◌∙◌, arith, length-append}
use Rattle.std.proofs.lemmas.Bool.{le-leb, cond-true}
use Rattle.language.specs.declared.faults.Halt.{Halt}
use Rattle.language.specs.declared.values.Value.{Value}
use Rattle.language.specs.declared.values.Value.TheVariants as vals
use Rattle.language.specs.declared.values.Operator.{Operator}
use Rattle.language.specs.Operators.{applied, negated}
use Rattle.host.specs.Serves.{numbered, amount_at, flag_at, post_at}
use Rattle.image.specs.declared.instruction.Local.TheVariants.{Load, Store, Operate, Not, Discard, JumpIfFalse, Open}
use Rattle.image.specs.declared.instruction.Instruction.{Instruction}
use Rattle.image.specs.declared.instruction.Instruction.TheVariants as instructions
use Rattle.machine.specs.declared.cells.Cell.{Cell}
use Rattle.machine.specs.declared.cells.Cell.TheVariants.{Number, Truth, Link}
use Rattle.machine.specs.Cells.{bind, cell_of, value, values}
use Rattle.machine.specs.Frames.{frame, place}
use Rattle.stack.specs.Stack.{stack, Went, next, cell_at, put_at, holds, room, push, on_to, onward, carry}
use Rattle.rules.specs.Evaluate.{Env, variable}
use Rattle.theory.proofs.Standing.{Fetches}
use Rattle.theory.proofs.Represent.{Bone, Skeleton, Fits, flat, height, base_of, frame_of, slot_place, length-flat, set_below, frame-there, outer-there, variable-there, Assigns}
use Rattle.theory.proofs.Leads.{Setting, step_of, conf}

-- a value's cell gives the value
pub value_cell : (v : Value) → value (cell_of v) ≡ Ok v
value_cell (vals.Number z) = refl
value_cell (vals.Truth b) = refl

values-cells : (v w : Value) → values (cell_of v) (cell_of w) ≡ Ok (v, w)
values-cells (vals.Number y) (vals.Number z) = refl
values-cells (vals.Number y) (vals.Truth b) = refl
values-cells (vals.Truth a) (vals.Number z) = refl
values-cells (vals.Truth a) (vals.Truth b) = refl

-- so many working cells are there
pub holds-there : {sk : Skeleton} {env : Env} (n : ℕ) (w : List Cell) → Fits sk env → n ≤ length w → holds (frame_of sk) n (w ++ flat sk env) ≡ Ok tt
holds-there {sk} {env} n w fits l =
    cond-true _ _ _ (le-leb (height sk + n) (length (w ++ flat sk env)) (omega (arith, length-append w (flat sk env), length-flat fits)))

module _ {S : Type 0} (x : Setting S) {k q : ℕ} {i : Instruction} (f : Fetches x.program k i q) {b : Bone} {sk : Skeleton} {env : Env} (w : List Cell) (s : S) (fits : Fits (b ∷ sk) env) where
  -- a step carries out the instruction laid, from the first frame
  pub step-at : step_of x s (conf k (b ∷ sk) w env) ≡ carry x.ops x.limit i x.program.result (frame_of (b ∷ sk)) s (conf k (b ∷ sk) w env)
  step-at =
      let t = conf k (b ∷ sk) w env in
      let low : height (b ∷ sk) ≤ length (w ++ flat (b ∷ sk) env) = omega (arith, length-append w (flat (b ∷ sk) env), length-flat fits) in
      ap
      (λ r. bind r (λ i. bind (frame (cell_at t.cells) t.base (length t.cells)) (λ f. carry x.ops x.limit i x.program.result f s t)))
      f.fetch
      ∙ ap (λ r. bind r (λ f. carry x.ops x.limit i x.program.result f s t)) (frame-there (w ++ flat (b ∷ sk) env) w refl fits (length (w ++ flat (b ∷ sk) env)) low)

module _ {S : Type 0} (x : Setting S) {k q : ℕ} {b : Bone} {sk : Skeleton} {env : Env} (w : List Cell) (s : S) (fits : Fits (b ∷ sk) env) where
  pub load_step : (h j : ℕ) (v : Value) → Fetches x.program k (instructions.Local (Load (record { hops = h; index = j }))) q → variable env h j ≡ Some v → step_of x s (conf k (b ∷ sk) w env) ≡ onward s (room x.limit 1 (w ++ flat (b ∷ sk) env) (Ok (conf (k + 1) (b ∷ sk) (cell_of v ∷ w) env)))
  load_step h j v f e =
      let t = conf k (b ∷ sk) w env in
      let found = variable-there h j v t.cells w refl fits e in
      step-at x f w s fits
      ∙ ap (λ r. onward s (bind r (λ p. bind (value (cell_at t.cells p)) (λ v. push x.limit (cell_of v) t)))) found.0
      ∙ ap (λ c. onward s (bind (value c) (λ v. push x.limit (cell_of v) t))) found.1
      ∙ ap (λ r. onward s (bind r (λ v. push x.limit (cell_of v) t))) (value_cell v)

  pub store_step : (h j : ℕ) (v : Value) (env' : Env) → Fetches x.program k (instructions.Local (Store (record { hops = h; index = j }))) q → Assigns h j v (b ∷ sk) env env' → step_of x s (conf k (b ∷ sk) (cell_of v ∷ w) env) ≡ Ok (next (conf (k + 1) (b ∷ sk) w env') s)
  store_step h j v env' f a =
      let t = conf k (b ∷ sk) (cell_of v ∷ w) env in
      let rest = w ++ flat (b ∷ sk) env in
      let low : slot_place (b ∷ sk) h j < length (flat (b ∷ sk) env) = omega (arith, a.low, length-flat fits) in
      let is : put_at rest (slot_place (b ∷ sk) h j) (cell_of v) ≡ w ++ flat (b ∷ sk) env' =
      set_below w (flat (b ∷ sk) env) (slot_place (b ∷ sk) h j) (cell_of v) low ∙ ap (λ l. w ++ l) a.sets in
      step-at x f (cell_of v ∷ w) s fits
      ∙ ap
      (λ r. onward s (bind r (λ _. bind (place (cell_at t.cells) (frame_of (b ∷ sk)) (record { hops = h; index = j })) (λ p. bind (value (cell_of v)) (λ v. on_to t (put_at rest p (cell_of v)))))))
      (holds-there 1 (cell_of v ∷ w) fits (omega arith))
      ∙ ap (λ r. onward s (bind r (λ p. bind (value (cell_of v)) (λ v. on_to t (put_at rest p (cell_of v)))))) (a.finds t.cells (cell_of v ∷ w) refl)
      ∙ ap (λ r. onward s (bind r (λ v. on_to t (put_at rest (slot_place (b ∷ sk) h j) (cell_of v))))) (value_cell v)
      ∙ ap {B = Result (Went S) Halt} (λ l. Ok (next (stack (k + 1) (base_of (b ∷ sk)) l) s)) is

  pub operate-step : (o : Operator) (u v : Value) → Fetches x.program k (instructions.Local (Operate o)) q → step_of x s (conf k (b ∷ sk) (cell_of v ∷ cell_of u ∷ w) env) ≡ onward s (bind (applied o u v) (λ y. Ok (conf (k + 1) (b ∷ sk) (cell_of y ∷ w) env)))
  operate-step o u v f =
      let t = conf k (b ∷ sk) (cell_of v ∷ cell_of u ∷ w) env in
      let rest = w ++ flat (b ∷ sk) env in
      step-at x f (cell_of v ∷ cell_of u ∷ w) s fits
      ∙ ap
      (λ r. onward s (bind r (λ _. bind (values (cell_of u) (cell_of v)) (λ p. bind (applied o p.0 p.1) (λ y. on_to t (cell_of y ∷ rest))))))
      (holds-there 2 (cell_of v ∷ cell_of u ∷ w) fits (omega arith))
      ∙ ap (λ r. onward s (bind r (λ p. bind (applied o p.0 p.1) (λ y. on_to t (cell_of y ∷ rest))))) (values-cells u v)

  pub not_step : (v : Value) → Fetches x.program k (instructions.Local Not) q → step_of x s (conf k (b ∷ sk) (cell_of v ∷ w) env) ≡ onward s (bind (negated v) (λ y. Ok (conf (k + 1) (b ∷ sk) (cell_of y ∷ w) env)))
  not_step v f =
      let t = conf k (b ∷ sk) (cell_of v ∷ w) env in
      let rest = w ++ flat (b ∷ sk) env in
      step-at x f (cell_of v ∷ w) s fits
      ∙ ap
      (λ r. onward s (bind r (λ _. bind (value (cell_of v)) (λ v. bind (negated v) (λ y. on_to t (cell_of y ∷ rest))))))
      (holds-there 1 (cell_of v ∷ w) fits (omega arith))
      ∙ ap (λ r. onward s (bind r (λ v. bind (negated v) (λ y. on_to t (cell_of y ∷ rest))))) (value_cell v)

  pub discard-step : (v : Value) → Fetches x.program k (instructions.Local Discard) q → step_of x s (conf k (b ∷ sk) (cell_of v ∷ w) env) ≡ Ok (next (conf (k + 1) (b ∷ sk) w env) s)
  discard-step v f =
      let t = conf k (b ∷ sk) (cell_of v ∷ w) env in
      let rest = w ++ flat (b ∷ sk) env in
      step-at x f (cell_of v ∷ w) s fits
      ∙ ap (λ r. onward s (bind r (λ _. bind (value (cell_of v)) (λ _. on_to t rest)))) (holds-there 1 (cell_of v ∷ w) fits (omega arith))
      ∙ ap (λ r. onward s (bind r (λ _. on_to t rest))) (value_cell v)

  pub branch-step : (y : Bool) (target : ℕ) → Fetches x.program k (instructions.Local (JumpIfFalse target)) q → step_of x s (conf k (b ∷ sk) (Truth y ∷ w) env) ≡ Ok (next (conf (cond y (k + 1) target) (b ∷ sk) w env) s)
  branch-step y target f =
      let rest = w ++ flat (b ∷ sk) env in
      step-at x f (Truth y ∷ w) s fits
      ∙ ap (λ r. onward s (bind r (λ _. Ok (stack (cond y (k + 1) target) (base_of (b ∷ sk)) rest)))) (holds-there 1 (Truth y ∷ w) fits (omega arith))

  pub open_step : (h : ℕ) → Fetches x.program k (instructions.Local (Open h)) q → h < length env → step_of x s (conf k (b ∷ sk) w env) ≡ onward s (room x.limit 4 (w ++ flat (b ∷ sk) env) (Ok (conf (k + 1) (b ∷ sk) (Link 0 ∷ Link 0 ∷ Link (base_of (b ∷ sk)) ∷ Link (base_of (drop h (b ∷ sk))) ∷ w) env)))
  open_step h f l =
      let t = conf k (b ∷ sk) w env in
      step-at x f w s fits
      ∙ ap
      (λ r. onward s (bind r (λ g. room x.limit 4 t.cells (on_to t (Link 0 ∷ Link 0 ∷ Link t.base ∷ Link g.base ∷ t.cells)))))
      (outer-there h t.cells w refl fits l)

  pub amount-step : (z : ℤ) → Fetches x.program k instructions.Amount q → step_of x s (conf k (b ∷ sk) (Number z ∷ w) env) ≡ bind (amount_at x.ops s (numbered z)) (λ a. Ok (next (conf (k + 1) (b ∷ sk) (Number a.0 ∷ w) env) a.1))
  amount-step z f =
      let rest = w ++ flat (b ∷ sk) env in
      step-at x f (Number z ∷ w) s fits
      ∙ ap
      (λ r. bind r (λ _. bind (amount_at x.ops s (numbered z)) (λ a. Ok (next (stack (k + 1) (base_of (b ∷ sk)) (Number a.0 ∷ rest)) a.1))))
      (holds-there 1 (Number z ∷ w) fits (omega arith))

  pub flag-step : (z : ℤ) → Fetches x.program k instructions.Flag q → step_of x s (conf k (b ∷ sk) (Number z ∷ w) env) ≡ bind (flag_at x.ops s (numbered z)) (λ a. Ok (next (conf (k + 1) (b ∷ sk) (Truth a.0 ∷ w) env) a.1))
  flag-step z f =
      let rest = w ++ flat (b ∷ sk) env in
      step-at x f (Number z ∷ w) s fits
      ∙ ap
      (λ r. bind r (λ _. bind (flag_at x.ops s (numbered z)) (λ a. Ok (next (stack (k + 1) (base_of (b ∷ sk)) (Truth a.0 ∷ rest)) a.1))))
      (holds-there 1 (Number z ∷ w) fits (omega arith))

  pub post-step : (y z : ℤ) → Fetches x.program k instructions.Post q → step_of x s (conf k (b ∷ sk) (Number z ∷ Number y ∷ w) env) ≡ bind (post_at x.ops s z (numbered y)) (λ s. Ok (next (conf (k + 1) (b ∷ sk) w env) s))
  post-step y z f =
      let rest = w ++ flat (b ∷ sk) env in
      step-at x f (Number z ∷ Number y ∷ w) s fits
      ∙ ap
      (λ r. bind r (λ _. bind (post_at x.ops s z (numbered y)) (λ s. Ok (next (stack (k + 1) (base_of (b ∷ sk)) rest) s))))
      (holds-there 2 (Number z ∷ Number y ∷ w) fits (omega arith))
