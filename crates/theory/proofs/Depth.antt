-- Calls nested deeper change no outcome of evaluation but 'too deep'. Assumes nothing.
use Rattle.std.proofs.Common.{◌≡◌, ℕ, zero, suc, Bool, true, false, eqb, ltb, ◌⊎◌, List, length, take, drop, Some, None, Option, sym, refl, subst, inl, inr}
use Rattle.language.specs.declared.values.Value.{Value}
use Rattle.language.specs.declared.values.Value.TheVariants.{Number, Truth}
use Rattle.host.specs.Serves.{Serves}
use Rattle.rules.specs.Resolved.{Term, Terms, Action, Actions, Ending, Function, Rules, all}
use Rattle.rules.specs.Resolved.Term.{integer, truth, read, negation, operation, choice, call, amount, flag, post}
use Rattle.rules.specs.Resolved.Terms.{no_terms, term}
use Rattle.rules.specs.Resolved.Action.{assign, perform, perform_and_drop, if_then, if_else}
use Rattle.rules.specs.Resolved.Actions.{no_actions, action}
use Rattle.rules.specs.Resolved.Ending.{nothing, giving}
use Rattle.rules.specs.Resolved.Function.{function}
use Rattle.rules.specs.Evaluate.{Env, Eval, done, stopped, trouble, too_deep, and_then, some, wanted, truth_of, Calls, back_under, either, eval_term, eval_terms, eval_action, eval_actions, eval_ending, invoked, numbered_function, calls_to, evaluated}

-- an outcome, and the one with calls nested deeper: any where the first is too deep, else the same
pub data Deepens {S A : Type 0} : Eval S A → Eval S A → Type 0 where
  deep : {y : Eval S A} → Deepens too_deep y
  same : {x y : Eval S A} → x ≡ y → Deepens x y

pub split : {S A : Type 0} {x y : Eval S A} → Deepens x y → (x ≡ too_deep) ⊎ (y ≡ x)
split deep = inl refl
split (same e) = inr (sym e)

-- on from one outcome
then_at : {S A B : Type 0} {f g : A → Env → S → Eval S B} (x : Eval S A) → ((a : A) (env : Env) (s : S) → Deepens (f a env s) (g a env s)) → Deepens (and_then x f) (and_then x g)
then_at (done a env s) k = k a env s
then_at (stopped c p s) k = same refl
then_at trouble k = same refl
then_at too_deep k = deep

pub then-deepens : {S A B : Type 0} {x y : Eval S A} {f g : A → Env → S → Eval S B} → Deepens x y → ((a : A) (env : Env) (s : S) → Deepens (f a env s) (g a env s)) → Deepens (and_then x f) (and_then y g)
then-deepens deep k = deep
then-deepens {f} {g} (same {x = x} e) k = subst (λ z. Deepens (and_then x f) (and_then z g)) e (then_at x k)

some-deepens : {S B : Type 0} {f g : Value → Env → S → Eval S B} (v : Option Value) (env : Env) (s : S) → ((v : Value) (env : Env) (s : S) → Deepens (f v env s) (g v env s)) → Deepens (some v env s f) (some v env s g)
some-deepens None env s k = same refl
some-deepens (Some v) env s k = k v env s

wanted-deepens : {S B : Type 0} {x y : Eval S (Option Value)} {f g : Value → Env → S → Eval S B} → Deepens x y → ((v : Value) (env : Env) (s : S) → Deepens (f v env s) (g v env s)) → Deepens (wanted x f) (wanted y g)
wanted-deepens h k = then-deepens h (λ v env s. some-deepens v env s k)

truth-deepens : {S B : Type 0} {f g : Bool → Eval S B} (v : Value) → ((b : Bool) → Deepens (f b) (g b)) → Deepens (truth_of v f) (truth_of v g)
truth-deepens (Number z) k = same refl
truth-deepens (Truth b) k = k b

either-deepens : {S B : Type 0} {x y x' y' : Eval S B} (b : Bool) → Deepens x x' → Deepens y y' → Deepens (either b x y) (either b x' y')
either-deepens true h k = h
either-deepens false h k = k

back-deepens : {S : Type 0} (front : Env) {x y : Eval S (Option Value)} → Deepens x y → Deepens (back_under front x) (back_under front y)
back-deepens front deep = deep
back-deepens front (same {x = x} e) = subst (λ z. Deepens (back_under front x) (back_under front z)) e (same refl)

module _ {S : Type 0} (ops : Serves S) (calls calls' : Calls S) (deepens : (f : ℕ) (vs : List Value) (env : Env) (s : S) → Deepens (calls f vs env s) (calls' f vs env s)) where
  mutual
    term-deepens : (e : Term) (env : Env) (s : S) → Deepens (eval_term ops calls e env s) (eval_term ops calls' e env s)
    term-deepens (integer p n) env s = same refl
    term-deepens (truth p b) env s = same refl
    term-deepens (read p h k) env s = same refl
    term-deepens (negation p e) env s = wanted-deepens (term-deepens e env s) (λ v env s. same refl)
    term-deepens (operation p o a b) env s =
        wanted-deepens (term-deepens a env s) (λ v env s. wanted-deepens (term-deepens b env s) (λ w env s. same refl))
    term-deepens (choice p c s₁ a s₂ b) env s =
        wanted-deepens (term-deepens c env s)
        (λ v env s. truth-deepens v
        (λ t. either-deepens t
        (then-deepens (actions-deepens s₁ env s) (λ _ env s. term-deepens a env s))
        (then-deepens (actions-deepens s₂ env s) (λ _ env s. term-deepens b env s))))
    term-deepens (call p f h es) env s =
        either-deepens (ltb h (length env))
        (then-deepens (terms-deepens es env s) (λ vs env s. back-deepens (take h env) (deepens f vs (drop h env) s)))
        (same refl)
    term-deepens (amount p e) env s = wanted-deepens (term-deepens e env s) (λ v env s. same refl)
    term-deepens (flag p e) env s = wanted-deepens (term-deepens e env s) (λ v env s. same refl)
    term-deepens (post p a e) env s =
        wanted-deepens (term-deepens a env s) (λ v env s. wanted-deepens (term-deepens e env s) (λ w env s. same refl))

    terms-deepens : (es : Terms) (env : Env) (s : S) → Deepens (eval_terms ops calls es env s) (eval_terms ops calls' es env s)
    terms-deepens no_terms env s = same refl
    terms-deepens (term e es) env s =
        wanted-deepens (term-deepens e env s) (λ v env s. then-deepens (terms-deepens es env s) (λ vs env s. same refl))

    action-deepens : (a : Action) (env : Env) (s : S) → Deepens (eval_action ops calls a env s) (eval_action ops calls' a env s)
    action-deepens (assign p h k e) env s = wanted-deepens (term-deepens e env s) (λ v env s. same refl)
    action-deepens (perform e) env s = then-deepens (term-deepens e env s) (λ v env s. same refl)
    action-deepens (perform_and_drop p e) env s = wanted-deepens (term-deepens e env s) (λ v env s. same refl)
    action-deepens (if_then p c a) env s =
        wanted-deepens (term-deepens c env s) (λ v env s. truth-deepens v (λ t. either-deepens t (actions-deepens a env s) (same refl)))
    action-deepens (if_else p c a b) env s =
        wanted-deepens (term-deepens c env s)
        (λ v env s. truth-deepens v (λ t. either-deepens t (actions-deepens a env s) (actions-deepens b env s)))

    actions-deepens : (a : Actions) (env : Env) (s : S) → Deepens (eval_actions ops calls a env s) (eval_actions ops calls' a env s)
    actions-deepens no_actions env s = same refl
    actions-deepens (action a rest) env s = then-deepens (action-deepens a env s) (λ _ env s. actions-deepens rest env s)

  ending-deepens : (e : Ending) (env : Env) (s : S) → Deepens (eval_ending ops calls e env s) (eval_ending ops calls' e env s)
  ending-deepens nothing env s = same refl
  ending-deepens (giving e) env s = term-deepens e env s

  invoked-deepens : (g : Option Function) (vs : List Value) (env : Env) (s : S) → Deepens (invoked ops calls g vs env s) (invoked ops calls' g vs env s)
  invoked-deepens None vs env s = same refl
  invoked-deepens (Some (function p t n o inner body end)) vs env s =
      either-deepens (eqb (length vs) n)
      (then-deepens
      (then-deepens (actions-deepens body _ s) (λ _ env s. then-deepens (ending-deepens end env s) (λ v env s. same refl)))
      (λ v env s. same refl))
      (same refl)

-- a call, one deeper
pub calls-deepen : {S : Type 0} (ops : Serves S) (fs : List Function) (n : ℕ) (f : ℕ) (vs : List Value) (env : Env) (s : S) → Deepens (calls_to ops fs n f vs env s) (calls_to ops fs (suc n) f vs env s)
calls-deepen ops fs zero f vs env s = deep
calls-deepen ops fs (suc n) f vs env s =
    invoked-deepens ops (calls_to ops fs n) (calls_to ops fs (suc n)) (calls-deepen ops fs n) (numbered_function fs f) vs env s

-- a whole rule set, one deeper
pub evaluated-deepens : {S : Type 0} (ops : Serves S) (r : Rules) (n : ℕ) (s : S) → Deepens (evaluated ops r n s) (evaluated ops r (suc n) s)
evaluated-deepens ops r n s =
    let fs = all r.functions in
    then-deepens (actions-deepens ops (calls_to ops fs n) (calls_to ops fs (suc n)) (calls-deepen ops fs n) r.actions _ s)
    (λ _ env s. then-deepens (ending-deepens ops (calls_to ops fs n) (calls_to ops fs (suc n)) (calls-deepen ops fs n) r.ending env s) (λ v env s. same refl))
