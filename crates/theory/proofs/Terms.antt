-- The machine's steps over the code of terms and actions come to what their evaluation comes to. Assumes nothing.
use Rattle.std.proofs.Common.{◌≡◌, ℕ, suc, ◌+◌, ◌*◌, ◌<◌, Bool, true, false, cond, ltb, List, [], ◌∷◌, length, take, drop, pos, Some, None, Ok, Option, refl, ap, arith, length-append}
use Rattle.std.proofs.lemmas.Bool.{ltb-true}
use Rattle.language.specs.declared.values.Value.{Value}
use Rattle.language.specs.declared.values.Value.TheVariants as vals
use Rattle.language.specs.Operators.{applied, negated}
use Rattle.host.specs.Serves.{numbered, amount_at, flag_at, post_at}
use Rattle.image.specs.declared.instruction.Local.TheVariants.{Store, Jump, JumpIfFalse}
use Rattle.image.specs.declared.instruction.Instruction.TheVariants as instructions
use Rattle.machine.specs.declared.cells.Cell.{Cell}
use Rattle.machine.specs.declared.cells.Cell.TheVariants.{Number, Truth, Link}
use Rattle.machine.specs.Cells.{cell_of}
use Rattle.stack.specs.Stack.{Stack, next}
use Rattle.rules.specs.Resolved.{Term, Terms, Action, Actions, Ending}
use Rattle.rules.specs.Resolved.Term.{integer, truth, read, negation, operation, choice, call, amount, flag, post}
use Rattle.rules.specs.Resolved.Terms.{no_terms, term}
use Rattle.rules.specs.Resolved.Action.{assign, perform, perform_and_drop, if_then, if_else}
use Rattle.rules.specs.Resolved.Actions.{no_actions, action}
use Rattle.rules.specs.Resolved.Ending.{nothing, giving}
use Rattle.rules.specs.Translate.{end_term, end_terms, end_action, end_actions, end_ending}
use Rattle.rules.specs.Evaluate.{Env, Eval, trouble, and_then, answered, charged, number, truth_of, either, read_of, assigned, nothing_of, variable, set_variable, Calls, back_under, eval_term, eval_terms, eval_action, eval_actions, eval_ending}
use Rattle.theory.proofs.Standing.{Fetches, CallIn, TermIn, TermsIn, ActionIn, ActionsIn, EndingIn}
use Rattle.theory.proofs.Represent.{Bone, Skeleton, Fits, none, one, flat, base_of, length-flat, assigned-there}
use Rattle.theory.proofs.Leads.{Setting, step_of, Comes, Arrives, conf, value_at, trouble-comes, done-comes, more-comes, then-comes, same-comes, wanted-comes, room-comes, valued-comes, answered-comes, charged-comes}
use Rattle.theory.proofs.Steps.{step-at, load_step, store_step, operate-step, not_step, discard-step, branch-step, open_step, amount-step, flag-step, post-step}

-- arguments on the working cells, the first lowest
abbrev pub push_all : List Value → List Cell → List Cell
push_all [] w = w
push_all (v ∷ vs) w = push_all vs (cell_of v ∷ w)

-- the links that a call has opened
abbrev pub opened : Skeleton → ℕ → List Cell → List Cell
opened sk h w = Link 0 ∷ Link 0 ∷ Link (base_of sk) ∷ Link (base_of (drop h sk)) ∷ w

-- the cells cannot hold so many frames more
abbrev pub Deep : {S : Type 0} → Setting S → Skeleton → ℕ → Type 0
Deep x sk n = base_of sk + 4 * n < x.limit

-- A call's steps, from its arguments on, come to what calling comes to, with calls nested at most n deep
abbrev pub CallsCome : {S : Type 0} → Setting S → Calls S → ℕ → Type 0
CallsCome {S} x calls n =
    (k f q h : ℕ) → CallIn x.program k f q
    → (vs : List Value) (b : Bone) (sk : Skeleton) (w : List Cell) (env : Env) (s : S)
    → Fits (b ∷ sk) env → h < length env → base_of (b ∷ sk) < x.limit
    → Comes x (Deep x (b ∷ sk) n) (Arrives (b ∷ sk) (value_at (k + 1) (b ∷ sk) w)) (back_under (take h env) (calls f vs (drop h env) s)) s (conf k (b ∷ sk) (push_all vs (opened (b ∷ sk) h w)) env)

pub fits-length : {sk : Skeleton} {env : Env} → Fits sk env → length env ≡ length sk
fits-length none = refl
fits-length (one e h) = ap suc (fits-length h)

-- a jump, with a value on the stack or none
jump-on : {S : Type 0} (x : Setting S) {k q target : ℕ} → Fetches x.program k (instructions.Local (Jump target)) q → {b : Bone} {sk : Skeleton} {env : Env} (w : List Cell) (v : Option Value) (s : S) → Fits (b ∷ sk) env → step_of x s (value_at k (b ∷ sk) w v env) ≡ Ok (next (value_at target (b ∷ sk) w v env) s)
jump-on x f w None s fits = step-at x f w s fits
jump-on x f w (Some v) s fits = step-at x f (cell_of v ∷ w) s fits

module _ {S : Type 0} (x : Setting S) {D : Type 0} {b : Bone} {sk : Skeleton} {env : Env} (w : List Cell) (s : S) (fits : Fits (b ∷ sk) env) where
  -- a variable, read
  read-comes : (p q h k : ℕ) → TermIn x.program p (read q h k) → (v : Option Value) → variable env h k ≡ v → Comes x D (Arrives (b ∷ sk) (value_at (p + 1) (b ∷ sk) w)) (read_of v env s) s (conf p (b ∷ sk) w env)
  read-comes p q h k f None e = trouble-comes
  read-comes p q h k f (Some v) e =
      room-comes 1 (conf (p + 1) (b ∷ sk) (cell_of v ∷ w) env) (load_step x w s fits h k v f e) (λ _. done-comes (Some v) fits)

  -- a variable, set
  assign-comes : (p q h k : ℕ) → Fetches x.program p (instructions.Local (Store (record { hops = h; index = k }))) q → (v : Value) (r : Option Env) → set_variable env h k v ≡ r → Comes x D (Arrives (b ∷ sk) (λ (_ : Unit {0}) env. conf (p + 1) (b ∷ sk) w env)) (assigned r s) s (conf p (b ∷ sk) (cell_of v ∷ w) env)
  assign-comes p q h k f v None e = trouble-comes
  assign-comes p q h k f v (Some env') e =
      let a = assigned-there h k v env' fits e in
      more-comes (store_step x w s fits h k v env' f a) (done-comes tt a.fits)

  -- the host asked and posted to
  amount-comes : (p q : ℕ) → Fetches x.program p instructions.Amount q → (v : Value) → Comes x D (Arrives (b ∷ sk) (value_at (p + 1) (b ∷ sk) w)) (number v (λ z. answered q env s vals.Number (amount_at x.ops s (numbered z)))) s (conf p (b ∷ sk) (cell_of v ∷ w) env)
  amount-comes p q f (vals.Number z) = answered-comes p w vals.Number (amount_at x.ops s (numbered z)) (amount-step x w s fits z f) f.place fits
  amount-comes p q f (vals.Truth y) = trouble-comes

  flag-comes : (p q : ℕ) → Fetches x.program p instructions.Flag q → (v : Value) → Comes x D (Arrives (b ∷ sk) (value_at (p + 1) (b ∷ sk) w)) (number v (λ z. answered q env s vals.Truth (flag_at x.ops s (numbered z)))) s (conf p (b ∷ sk) (cell_of v ∷ w) env)
  flag-comes p q f (vals.Number z) = answered-comes p w vals.Truth (flag_at x.ops s (numbered z)) (flag-step x w s fits z f) f.place fits
  flag-comes p q f (vals.Truth y) = trouble-comes

  post-comes : (p q : ℕ) → Fetches x.program p instructions.Post q → (u v : Value) → Comes x D (Arrives (b ∷ sk) (value_at (p + 1) (b ∷ sk) w)) (number u (λ y. number v (λ z. charged q env s (post_at x.ops s z (numbered y))))) s (conf p (b ∷ sk) (cell_of v ∷ cell_of u ∷ w) env)
  post-comes p q f (vals.Number y) (vals.Number z) = charged-comes p w (post_at x.ops s z (numbered y)) (post-step x w s fits y z f) f.place fits
  post-comes p q f (vals.Number y) (vals.Truth c) = trouble-comes
  post-comes p q f (vals.Truth a) v = trouble-comes

  -- on by a condition
  branch-comes : {A : Type 0} {K : A → Env → S → S → Stack → Type 0} {yes no : Eval S A} (p q target : ℕ) → Fetches x.program p (instructions.Local (JumpIfFalse target)) q → (v : Value) → Comes x D K yes s (conf (p + 1) (b ∷ sk) w env) → Comes x D K no s (conf target (b ∷ sk) w env) → Comes x D K (truth_of v (λ t. either t yes no)) s (conf p (b ∷ sk) (cell_of v ∷ w) env)
  branch-comes p q target f (vals.Number z) h k = trouble-comes
  branch-comes p q target f (vals.Truth true) h k = more-comes (branch-step x w s fits true target f) h
  branch-comes p q target f (vals.Truth false) h k = more-comes (branch-step x w s fits false target f) k

module _ {S : Type 0} (x : Setting S) (calls : Calls S) (n : ℕ) (calls_come : CallsCome x calls n) (b : Bone) (sk : Skeleton) where
  mutual
    pub term-comes : (e : Term) (p : ℕ) → TermIn x.program p e → (w : List Cell) (env : Env) (s : S) → Fits (b ∷ sk) env → Comes x (Deep x (b ∷ sk) n) (Arrives (b ∷ sk) (value_at (end_term p e) (b ∷ sk) w)) (eval_term x.ops calls e env s) s (conf p (b ∷ sk) w env)
    term-comes (integer q z) p c w env s fits =
        room-comes 1 (conf (p + 1) (b ∷ sk) (Number (pos z) ∷ w) env) (step-at x c w s fits) (λ _. done-comes (Some (vals.Number (pos z))) fits)
    term-comes (truth q y) p c w env s fits =
        room-comes 1 (conf (p + 1) (b ∷ sk) (Truth y ∷ w) env) (step-at x c w s fits) (λ _. done-comes (Some (vals.Truth y)) fits)
    term-comes (read q h k) p c w env s fits = read-comes x w s fits p q h k c (variable env h k) refl
    term-comes (negation q e) p c w env s fits =
        wanted-comes (end_term p e) w (term-comes e p c.0 w env s fits)
        (λ v env s fits. valued-comes (end_term p e) w (negated v) (not_step x w s fits v c.1) c.1.place fits)
    term-comes (operation q o a d) p c w env s fits =
        wanted-comes (end_term p a) w (term-comes a p c.0 w env s fits)
        (λ u env s fits. wanted-comes (end_term (end_term p a) d) (cell_of u ∷ w) (term-comes d (end_term p a) c.1 (cell_of u ∷ w) env s fits)
        (λ v env s fits. valued-comes (end_term (end_term p a) d) w (applied o u v) (operate-step x w s fits o u v c.2) c.2.place fits))
    term-comes (choice q e s₁ a s₂ d) p c w env s fits =
        wanted-comes (end_term p e) w (term-comes e p c.0 w env s fits)
        (λ v env s fits. branch-comes x w s fits (end_term p e) q (end_term (end_actions (end_term p e + 1) s₁) a + 1) c.1 v
        (then-comes (actions-come s₁ (end_term p e + 1) c.2 w env s fits)
        (λ _ env s fits. same-comes (term-comes a (end_actions (end_term p e + 1) s₁) c.3 w env s fits)
        (λ v env s fits. more-comes (jump-on x c.4 w v s fits) (done-comes v fits))))
        (then-comes (actions-come s₂ (end_term (end_actions (end_term p e + 1) s₁) a + 1) c.5 w env s fits)
        (λ _ env s fits. term-comes d (end_actions (end_term (end_actions (end_term p e + 1) s₁) a + 1) s₂) c.6 w env s fits)))
    term-comes (call q f h es) p c w env s fits = go (ltb h (length env)) refl (λ env s fits. terms-come es (p + 1) c.1 (opened (b ∷ sk) h w) env s fits)
      where
        go : (y : Bool) → ltb h (length env) ≡ y → ((env : Env) (s : S) → Fits (b ∷ sk) env → Comes x (Deep x (b ∷ sk) n) (Arrives (b ∷ sk) (λ vs env. conf (end_terms (p + 1) es) (b ∷ sk) (push_all vs (opened (b ∷ sk) h w)) env)) (eval_terms x.ops calls es env s) s (conf (p + 1) (b ∷ sk) (opened (b ∷ sk) h w) env)) → Comes x (Deep x (b ∷ sk) n) (Arrives (b ∷ sk) (value_at (end_terms (p + 1) es + 1) (b ∷ sk) w)) (cond y (and_then (eval_terms x.ops calls es env s) (λ vs env s. back_under (take h env) (calls f vs (drop h env) s))) trouble) s (conf p (b ∷ sk) w env)
        go true e terms =
            let l = ltb-true h (length env) e in
            room-comes 4 (conf (p + 1) (b ∷ sk) (opened (b ∷ sk) h w) env) (open_step x w s fits h c.0 l)
            (λ roomy.
            let low : base_of (b ∷ sk) < x.limit = omega (arith, roomy, length-append w (flat (b ∷ sk) env), length-flat fits) in
            then-comes (terms env s fits)
            (λ vs env' s' fits'.
            calls_come (end_terms (p + 1) es) f q h c.2 vs b sk w env' s' fits' (omega (arith, l, fits-length fits, fits-length fits')) low))
        go false e terms = trouble-comes
    term-comes (amount q e) p c w env s fits =
        wanted-comes (end_term p e) w (term-comes e p c.0 w env s fits) (λ v env s fits. amount-comes x w s fits (end_term p e) q c.1 v)
    term-comes (flag q e) p c w env s fits =
        wanted-comes (end_term p e) w (term-comes e p c.0 w env s fits) (λ v env s fits. flag-comes x w s fits (end_term p e) q c.1 v)
    term-comes (post q a e) p c w env s fits =
        wanted-comes (end_term p a) w (term-comes a p c.0 w env s fits)
        (λ u env s fits. wanted-comes (end_term (end_term p a) e) (cell_of u ∷ w) (term-comes e (end_term p a) c.1 (cell_of u ∷ w) env s fits)
        (λ v env s fits. post-comes x w s fits (end_term (end_term p a) e) q c.2 u v))

    pub terms-come : (es : Terms) (p : ℕ) → TermsIn x.program p es → (w : List Cell) (env : Env) (s : S) → Fits (b ∷ sk) env → Comes x (Deep x (b ∷ sk) n) (Arrives (b ∷ sk) (λ vs env. conf (end_terms p es) (b ∷ sk) (push_all vs w) env)) (eval_terms x.ops calls es env s) s (conf p (b ∷ sk) w env)
    terms-come no_terms p c w env s fits = done-comes [] fits
    terms-come (term e es) p c w env s fits =
        wanted-comes (end_term p e) w (term-comes e p c.0 w env s fits)
        (λ v env s fits. then-comes (terms-come es (end_term p e) c.1 (cell_of v ∷ w) env s fits) (λ vs env s fits. done-comes (v ∷ vs) fits))

    pub action-comes : (a : Action) (p : ℕ) → ActionIn x.program p a → (w : List Cell) (env : Env) (s : S) → Fits (b ∷ sk) env → Comes x (Deep x (b ∷ sk) n) (Arrives (b ∷ sk) (λ (_ : Unit {0}) env. conf (end_action p a) (b ∷ sk) w env)) (eval_action x.ops calls a env s) s (conf p (b ∷ sk) w env)
    action-comes (assign q h k e) p c w env s fits =
        wanted-comes (end_term p e) w (term-comes e p c.0 w env s fits)
        (λ v env s fits. assign-comes x w s fits (end_term p e) q h k c.1 v (set_variable env h k v) refl)
    action-comes (perform e) p c w env s fits = then-comes (term-comes e p c w env s fits) nothing-comes
      where
        nothing-comes : (v : Option Value) (env : Env) (s : S) → Fits (b ∷ sk) env → Comes x (Deep x (b ∷ sk) n) (Arrives (b ∷ sk) (λ (_ : Unit {0}) env. conf (end_term p e) (b ∷ sk) w env)) (nothing_of v env s) s (value_at (end_term p e) (b ∷ sk) w v env)
        nothing-comes None env s fits = done-comes tt fits
        nothing-comes (Some v) env s fits = trouble-comes
    action-comes (perform_and_drop q e) p c w env s fits =
        wanted-comes (end_term p e) w (term-comes e p c.0 w env s fits)
        (λ v env s fits. more-comes (discard-step x w s fits v c.1) (done-comes tt fits))
    action-comes (if_then q e a) p c w env s fits =
        wanted-comes (end_term p e) w (term-comes e p c.0 w env s fits)
        (λ v env s fits. branch-comes x w s fits (end_term p e) q (end_actions (end_term p e + 1) a) c.1 v
        (actions-come a (end_term p e + 1) c.2 w env s fits)
        (done-comes tt fits))
    action-comes (if_else q e a d) p c w env s fits =
        wanted-comes (end_term p e) w (term-comes e p c.0 w env s fits)
        (λ v env s fits. branch-comes x w s fits (end_term p e) q (end_actions (end_term p e + 1) a + 1) c.1 v
        (same-comes (actions-come a (end_term p e + 1) c.2 w env s fits)
        (λ _ env s fits. more-comes (jump-on x c.3 w None s fits) (done-comes tt fits)))
        (actions-come d (end_actions (end_term p e + 1) a + 1) c.4 w env s fits))

    pub actions-come : (a : Actions) (p : ℕ) → ActionsIn x.program p a → (w : List Cell) (env : Env) (s : S) → Fits (b ∷ sk) env → Comes x (Deep x (b ∷ sk) n) (Arrives (b ∷ sk) (λ (_ : Unit {0}) env. conf (end_actions p a) (b ∷ sk) w env)) (eval_actions x.ops calls a env s) s (conf p (b ∷ sk) w env)
    actions-come no_actions p c w env s fits = done-comes tt fits
    actions-come (action a rest) p c w env s fits =
        then-comes (action-comes a p c.0 w env s fits) (λ _ env s fits. actions-come rest (end_action p a) c.1 w env s fits)

  pub ending-comes : (e : Ending) (p : ℕ) → EndingIn x.program p e → (w : List Cell) (env : Env) (s : S) → Fits (b ∷ sk) env → Comes x (Deep x (b ∷ sk) n) (Arrives (b ∷ sk) (value_at (end_ending p e) (b ∷ sk) w)) (eval_ending x.ops calls e env s) s (conf p (b ∷ sk) w env)
  ending-comes nothing p c w env s fits = done-comes None fits
  ending-comes (giving e) p c w env s fits = term-comes e p c w env s fits
