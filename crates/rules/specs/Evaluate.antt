-- What a rule set comes to: evaluation on its resolved tree, from left to right, both operands always. It knows nothing of bases, links or cells. The host is a state of any kind that serves. Assumes nothing.
use Rattle.std.specs.Prelude.{ℕ, zero, suc, Bool, cond, List, [], ◌∷◌, ◌++◌, map, length, take, drop, replicate, ℤ, pos, Some, None, Ok, Err, Option, Result, ◌==◌, nat_lt}
use Rattle.language.specs.declared.faults.Halt.{Halt}
use Rattle.language.specs.declared.faults.Halt.TheVariants.{Troubled, Stopped}
use Rattle.language.specs.declared.faults.Stop.{Stop}
use Rattle.language.specs.declared.values.Value.{Value}
use Rattle.language.specs.declared.values.Value.TheVariants.{Number, Truth}
use Rattle.language.specs.declared.values.ValueType.{ValueType}
use Rattle.language.specs.declared.values.ValueType.TheVariants.{Void, Int, Bool as Truths}
use Rattle.language.specs.Operators.{applied, negated}
use Rattle.host.specs.Serves.{Serves, numbered, amount_at, flag_at, post_at}
use Rattle.rules.specs.Resolved.{Term, Terms, Action, Actions, Ending, Function, Rules, all}
use Rattle.rules.specs.Resolved.Term.{integer, truth, read, negation, operation, choice, call, amount, flag, post}
use Rattle.rules.specs.Resolved.Terms.{no_terms, term}
use Rattle.rules.specs.Resolved.Action.{assign, perform, perform_and_drop, if_then, if_else}
use Rattle.rules.specs.Resolved.Actions.{no_actions, action}
use Rattle.rules.specs.Resolved.Ending.{nothing, giving}
use Rattle.rules.specs.Resolved.Function.{function}

-- a frame's slots, each unset or with a value; the environment is the frames on the static chain, innermost first
abbrev pub Slots : Type 0
Slots = List (Option Value)

abbrev pub Env : Type 0
Env = List Slots

-- How evaluation comes out: with a result, the environment and the host then; at a stop, with its cause, the place of its node and the host then; in trouble; or with calls nested deeper than the bound
pub data Eval (S A : Type 0) : Type 0 where
  done : A → Env → S → Eval S A
  stopped : Stop → (place : ℕ) → S → Eval S A
  trouble : Eval S A
  too_deep : Eval S A

-- on from a result
abbrev pub and_then : {S A B : Type 0} → Eval S A → (A → Env → S → Eval S B) → Eval S B
and_then (done a env s) f = f a env s
and_then (stopped c p s) f = stopped c p s
and_then trouble f = trouble
and_then too_deep f = too_deep

-- where a value is wanted, nothing will not do
abbrev pub some : {S B : Type 0} → Option Value → Env → S → (Value → Env → S → Eval S B) → Eval S B
some None env s f = trouble
some (Some v) env s f = f v env s

abbrev pub wanted : {S B : Type 0} → Eval S (Option Value) → (Value → Env → S → Eval S B) → Eval S B
wanted r f = and_then r (λ v env s. some v env s f)

-- a number is wanted, or a truth value
abbrev pub number : {S B : Type 0} → Value → (ℤ → Eval S B) → Eval S B
number (Number z) f = f z
number (Truth b) f = trouble

abbrev pub truth_of : {S B : Type 0} → Value → (Bool → Eval S B) → Eval S B
truth_of (Number z) f = trouble
truth_of (Truth b) f = f b

-- a value, or the halt of an operation at a place
abbrev pub valued : {S : Type 0} → ℕ → Env → S → Result Value Halt → Eval S (Option Value)
valued p env s (Ok v) = done (Some v) env s
valued p env s (Err (Stopped c)) = stopped c p s
valued p env s (Err (Troubled t)) = trouble

-- an answer of the host, which makes a value of it
abbrev pub answered : {S A : Type 0} → ℕ → Env → S → (A → Value) → Result (A × S) Halt → Eval S (Option Value)
answered p env s f (Ok r) = done (Some (f r.0)) env r.1
answered p env s f (Err (Stopped c)) = stopped c p s
answered p env s f (Err (Troubled t)) = trouble

-- a posting gives nothing
abbrev pub charged : {S : Type 0} → ℕ → Env → S → Result S Halt → Eval S (Option Value)
charged p env s (Ok s') = done None env s'
charged p env s (Err (Stopped c)) = stopped c p s
charged p env s (Err (Troubled t)) = trouble

-- the value in a slot, where it is set
abbrev pub slot_value : Slots → ℕ → Option Value
slot_value [] k = None
slot_value (v ∷ vs) zero = v
slot_value (v ∷ vs) (suc k) = slot_value vs k

-- the value of a variable: hops along the chain, then the slot
abbrev pub variable : Env → ℕ → ℕ → Option Value
variable [] hops slot = None
variable (f ∷ env) zero slot = slot_value f slot
variable (f ∷ env) (suc hops) slot = variable env hops slot

-- a list with one more in front, where there is a list
abbrev pub behind : {A : Type 0} → A → Option (List A) → Option (List A)
behind x None = None
behind x (Some xs) = Some (x ∷ xs)

-- a frame with a slot set, where it has that slot
abbrev pub set_slot : Slots → ℕ → Value → Option Slots
set_slot [] k v = None
set_slot (u ∷ us) zero v = Some (Some v ∷ us)
set_slot (u ∷ us) (suc k) v = behind u (set_slot us k v)

-- a frame back before its chain
abbrev pub in_front : Option Slots → Env → Option Env
in_front None env = None
in_front (Some f) env = Some (f ∷ env)

-- the environment with a variable set, where there is such a variable
abbrev pub set_variable : Env → ℕ → ℕ → Value → Option Env
set_variable [] hops slot v = None
set_variable (f ∷ env) zero slot v = in_front (set_slot f slot v) env
set_variable (f ∷ env) (suc hops) slot v = behind f (set_variable env hops slot v)

-- a read variable must be set
abbrev pub read_of : {S : Type 0} → Option Value → Env → S → Eval S (Option Value)
read_of None env s = trouble
read_of (Some v) env s = done (Some v) env s

-- on with the environment, where the variable was there
abbrev pub assigned : {S : Type 0} → Option Env → S → Eval S (Unit {0})
assigned None s = trouble
assigned (Some env) s = done tt env s

-- How to call a function: its number, its arguments, and the chain from the frame that declared it. Its outcome has that chain as the call leaves it
abbrev pub Calls : Type 0 → Type 0
Calls S = ℕ → List Value → Env → S → Eval S (Option Value)

-- a call works in the chain that many hops off; the frames before it are put back
abbrev pub back_under : {S : Type 0} → Env → Eval S (Option Value) → Eval S (Option Value)
back_under front (done v env s) = done v (front ++ env) s
back_under front (stopped c p s) = stopped c p s
back_under front trouble = trouble
back_under front too_deep = too_deep

-- the hops of a call must reach a frame
abbrev pub reaching : {S B : Type 0} → ℕ → Env → Eval S B → Eval S B
reaching hops env r = cond (nat_lt hops (length env)) r trouble

-- the first branch where the condition is true, else the second
abbrev pub either : {S B : Type 0} → Bool → Eval S B → Eval S B → Eval S B
either b x y = cond b x y

-- a call that gives nothing
abbrev pub nothing_of : {S : Type 0} → Option Value → Env → S → Eval S (Unit {0})
nothing_of None env s = done tt env s
nothing_of (Some v) env s = trouble

abbrev mutual
  pub eval_term : {S : Type 0} → Serves S → Calls S → Term → Env → S → Eval S (Option Value)
  eval_term ops calls (integer p n) env s = done (Some (Number (pos n))) env s
  eval_term ops calls (truth p b) env s = done (Some (Truth b)) env s
  eval_term ops calls (read p h k) env s = read_of (variable env h k) env s
  eval_term ops calls (negation p e) env s = wanted (eval_term ops calls e env s) (λ v env s. valued p env s (negated v))
  eval_term ops calls (operation p o a b) env s =
      wanted (eval_term ops calls a env s) (λ v env s. wanted (eval_term ops calls b env s) (λ w env s. valued p env s (applied o v w)))
  eval_term ops calls (choice p c s₁ a s₂ b) env s =
      wanted (eval_term ops calls c env s)
      (λ v env s. truth_of v
      (λ t. either t
      (and_then (eval_actions ops calls s₁ env s) (λ _ env s. eval_term ops calls a env s))
      (and_then (eval_actions ops calls s₂ env s) (λ _ env s. eval_term ops calls b env s))))
  eval_term ops calls (call p f h es) env s =
      reaching h env
      (and_then (eval_terms ops calls es env s) (λ vs env s. back_under (take h env) (calls f vs (drop h env) s)))
  eval_term ops calls (amount p e) env s =
      wanted (eval_term ops calls e env s) (λ v env s. number v (λ z. answered p env s Number (amount_at ops s (numbered z))))
  eval_term ops calls (flag p e) env s =
      wanted (eval_term ops calls e env s) (λ v env s. number v (λ z. answered p env s Truth (flag_at ops s (numbered z))))
  eval_term ops calls (post p a e) env s =
      wanted (eval_term ops calls a env s)
      (λ v env s. wanted (eval_term ops calls e env s)
      (λ w env s. number v (λ x. number w (λ z. charged p env s (post_at ops s z (numbered x))))))

  pub eval_terms : {S : Type 0} → Serves S → Calls S → Terms → Env → S → Eval S (List Value)
  eval_terms ops calls no_terms env s = done [] env s
  eval_terms ops calls (term e es) env s =
      wanted (eval_term ops calls e env s) (λ v env s. and_then (eval_terms ops calls es env s) (λ vs env s. done (v ∷ vs) env s))

  pub eval_action : {S : Type 0} → Serves S → Calls S → Action → Env → S → Eval S (Unit {0})
  eval_action ops calls (assign p h k e) env s =
      wanted (eval_term ops calls e env s) (λ v env s. assigned (set_variable env h k v) s)
  eval_action ops calls (perform e) env s = and_then (eval_term ops calls e env s) (λ v env s. nothing_of v env s)
  eval_action ops calls (perform_and_drop p e) env s = wanted (eval_term ops calls e env s) (λ v env s. done tt env s)
  eval_action ops calls (if_then p c a) env s =
      wanted (eval_term ops calls c env s) (λ v env s. truth_of v (λ t. either t (eval_actions ops calls a env s) (done tt env s)))
  eval_action ops calls (if_else p c a b) env s =
      wanted (eval_term ops calls c env s)
      (λ v env s. truth_of v (λ t. either t (eval_actions ops calls a env s) (eval_actions ops calls b env s)))

  pub eval_actions : {S : Type 0} → Serves S → Calls S → Actions → Env → S → Eval S (Unit {0})
  eval_actions ops calls no_actions env s = done tt env s
  eval_actions ops calls (action a rest) env s =
      and_then (eval_action ops calls a env s) (λ _ env s. eval_actions ops calls rest env s)

-- the value that ends a body or a program, if any
abbrev pub eval_ending : {S : Type 0} → Serves S → Calls S → Ending → Env → S → Eval S (Option Value)
eval_ending ops calls nothing env s = done None env s
eval_ending ops calls (giving e) env s = eval_term ops calls e env s

-- a result is there just where the type is not void
abbrev pub given : {S : Type 0} → ValueType → Option Value → Env → S → Eval S (Option Value)
given Void None env s = done None env s
given Void (Some v) env s = trouble
given Int None env s = trouble
given Int (Some v) env s = done (Some v) env s
given Truths None env s = trouble
given Truths (Some v) env s = done (Some v) env s

-- the own frame goes at the end of a call
abbrev pub leaving : {S : Type 0} → Option Value → Env → S → Eval S (Option Value)
leaving v [] s = trouble
leaving v (f ∷ env) s = done v env s

-- a function's frame: its arguments, then its other slots, unset
abbrev pub frame_for : List Value → ℕ → Slots
frame_for vs others = map Some vs ++ replicate others None

-- a body: its actions, then its ending, of the result type
abbrev pub eval_body : {S : Type 0} → Serves S → Calls S → ValueType → Actions → Ending → Env → S → Eval S (Option Value)
eval_body ops calls t body ending env s =
    and_then (eval_actions ops calls body env s)
    (λ _ env s. and_then (eval_ending ops calls ending env s) (λ v env s. given t v env s))

-- a call of a function with so many arguments
abbrev pub invoked : {S : Type 0} → Serves S → Calls S → Option Function → List Value → Env → S → Eval S (Option Value)
invoked ops calls None vs env s = trouble
invoked ops calls (Some (function p t n o inner body ending)) vs env s =
    cond (length vs == n) (and_then (eval_body ops calls t body ending (frame_for vs o ∷ env) s) leaving) trouble

-- the function that has a number
abbrev pub numbered_function : List Function → ℕ → Option Function
numbered_function [] k = None
numbered_function (f ∷ fs) zero = Some f
numbered_function (f ∷ fs) (suc k) = numbered_function fs k

-- calls nested at most so deep
abbrev pub calls_to : {S : Type 0} → Serves S → List Function → ℕ → Calls S
calls_to ops fs zero f vs env s = too_deep
calls_to ops fs (suc n) f vs env s = invoked ops (calls_to ops fs n) (numbered_function fs f) vs env s

-- a value of a type, or nothing where the type is void
abbrev pub typed : {S : Type 0} → ValueType → Option Value → Env → S → Eval S (Option Value)
typed Void None env s = done None env s
typed Void (Some v) env s = trouble
typed Int None env s = trouble
typed Int (Some (Number z)) env s = done (Some (Number z)) env s
typed Int (Some (Truth b)) env s = trouble
typed Truths None env s = trouble
typed Truths (Some (Number z)) env s = trouble
typed Truths (Some (Truth b)) env s = done (Some (Truth b)) env s

-- a rule set, with calls nested at most so deep: all its slots are unset at first
abbrev pub evaluated : {S : Type 0} → Serves S → Rules → ℕ → S → Eval S (Option Value)
evaluated ops r depth s =
    and_then (eval_actions ops (calls_to ops (all r.functions) depth) r.actions (replicate r.others None ∷ []) s)
    (λ _ env s. and_then (eval_ending ops (calls_to ops (all r.functions) depth) r.ending env s) (λ v env s. typed r.result v env s))
