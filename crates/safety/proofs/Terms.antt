-- Typed terms and actions do not come to trouble, where calls do not. Assumes nothing.
use Rattle.std.proofs.Common.{ℕ, ◌<◌, List, [], ◌∷◌, take, drop, Some, Option, sym, subst}
use Rattle.language.specs.declared.values.Value.{Value}
use Rattle.language.specs.declared.values.ValueType.{ValueType}
use Rattle.language.specs.declared.values.ValueType.TheVariants.{Void, Int, Bool}
use Rattle.host.specs.Serves.{Serves}
use Rattle.table.specs.Tree.{Expression, Arguments, Statement, Statements, Block, ValueBlock, Final}
use Rattle.rules.specs.Resolved.{Term, Terms, Action, Actions, Ending}
use Rattle.rules.specs.Evaluate.{Env as Chain}
use Rattle.rules.specs.Evaluate.{Calls, and_then, eval_term, eval_terms, eval_action, eval_actions, eval_ending, read_of, assigned, back_under}
use Rattle.typing.specs.Scopes.{Env, set}
use Rattle.typing.specs.Scopes.Status.{init}
use Rattle.typing.specs.Scopes.Named.{variable, function}
use Rattle.typing.specs.Rules.{HasType, Matches, Yields, Runs, RunsAll, RunsBlock, Ends, Valued, dropping}
use Rattle.safety.specs.Safety.{Is}
use Rattle.safety.proofs.Places.{At}
use Rattle.safety.proofs.Worlds.{Shape, FillsAll, Grows, grows-refl, grows-trans}
use Rattle.safety.proofs.Scoped.{Signature, Describes, Sets, looks, sets-grows}
use Rattle.safety.proofs.Scoped.Signature.{signature}
use Rattle.safety.proofs.Reading.{variable-read, variable-set, function-found, fills-length, fills-drop, fills-back, grows_back}
use Rattle.safety.proofs.Alike.{alike_runs, alike_all, alike-block, alike-describes, sets-left, sets-right}
use Rattle.safety.proofs.Fine.{Fine, fine-map, fine-then, fine-truth, fine-number, fine-value, fine-applied, left-valued, right-valued, fine-amount, fine-flag, fine-post, fine-either, fine-reaching, fine_back, fine-nothing}

-- from an environment to one of the same shape, where what was set still is
abbrev pub Goes : Shape → Chain → Chain → Type 0
Goes shape env env' = FillsAll shape env' × Grows env env'

-- a value of the type, and the environment as it may be
abbrev pub Gives : ValueType → Shape → Chain → Option Value → Chain → Type 0
Gives t shape env v env' = Is t v × Goes shape env env'

-- values of these types, one for one
pub data AreOf : List ValueType → List Value → Type 0 where
  no_more : AreOf [] []
  one_more : {t : ValueType} {ts : List ValueType} {v : Value} {vs : List Value} → Is t (Some v) → AreOf ts vs → AreOf (t ∷ ts) (v ∷ vs)

abbrev pub GivesAll : List ValueType → Shape → Chain → List Value → Chain → Type 0
GivesAll ts shape env vs env' = AreOf ts vs × Goes shape env env'

-- every call that keeps to a signature is fine
abbrev pub Able : {S : Type 0} → Calls S → List Signature → Type 0
Able {S} calls sigs = (n : ℕ) (shape : Shape) (ts : List ValueType) (t : ValueType) (vs : List Value) (env : Chain) (s : S) → At sigs n (signature shape ts t) → AreOf ts vs → FillsAll shape env → Fine (Gives t shape env) (calls n vs env s)

pub stays : {shape : Shape} {env : Chain} → FillsAll shape env → Goes shape env env
stays {env = env} f = (f, grows-refl env)

pub onward : {shape : Shape} {a b c : Chain} → Goes shape a b → Goes shape b c → Goes shape a c
onward g h = (h.0, grows-trans g.1 h.1)

-- after actions: as the scopes then say
abbrev pub Leaves : Env → Shape → Chain → Unit {0} → Chain → Type 0
Leaves Γ shape env u env' = Goes shape env env' × Sets Γ env'

module _ (S : Type 0) (ops : Serves S) (calls : Calls S) (sigs : List Signature) (able : Able calls sigs) where
  -- a call statement drops what there is
  dropped : {Γ : Env} (t : ValueType) (p : ℕ) (r : Term) (shape : Shape) (env : Chain) (s : S) → Sets Γ env → Fine (Gives t shape env) (eval_term ops calls r env s) → Fine (Leaves Γ shape env) (eval_action ops calls (dropping p t r) env s)
  dropped Void p r shape env s m f = fine-then _ f (λ v env' s' g. fine-nothing env' s' g.0 (g.1, sets-grows g.1.1 m))
  dropped Int p r shape env s m f = fine-value _ Valued.int f (λ v env' s' i g. Fine.done (g, sets-grows g.1 m))
  dropped Bool p r shape env s m f = fine-value _ Valued.bool f (λ v env' s' i g. Fine.done (g, sets-grows g.1 m))

  -- a call, once its arguments are there
  called : (h n : ℕ) (shape : Shape) (ts : List ValueType) (t : ValueType) (vs : List Value) (env : Chain) (s : S) → At sigs n (signature (drop h shape) ts t) → AreOf ts vs → FillsAll shape env → Fine (Gives t shape env) (back_under (take h env) (calls n vs (drop h env) s))
  called h n shape ts t vs env s a vs-are f = fine_back (take h env) (able n (drop h shape) ts t vs (drop h env) s a vs-are (fills-drop h f)) (λ v left g. (g.0, (fills-back h left f g.1.0, grows_back h env left g.1.1)))

  mutual
    pub term-fine : {Γ : Env} {e : Expression} {t : ValueType} {r : Term} → HasType Γ e t r → (shape : Shape) (env : Chain) (s : S) → Describes sigs shape Γ → FillsAll shape env → Sets Γ env → Fine (Gives t shape env) (eval_term ops calls r env s)
    term-fine HasType.int_exp shape env s d f m = Fine.done (Is.number, stays f)
    term-fine HasType.truth_exp shape env s d f m = Fine.done (Is.truth, stays f)
    term-fine {Γ} (HasType.var_exp {x = x} {h = h} {k = k} {t = t} e) shape env s d f m =
        let r = variable-read (looks x Γ h (variable init t k) e) d f m in
        subst (λ o. Fine (Gives t shape env) (read_of o env s)) (sym r.1) (Fine.done (r.2, stays f))
    term-fine (HasType.not_exp a) shape env s d f m = fine-truth _ (term-fine a shape env s d f m) (λ b env' s' g. Fine.done (Is.truth, g))
    term-fine (HasType.op_exp {p = p} a b o) shape env s d f m =
        fine-value _ (left-valued o) (term-fine a shape env s d f m)
        (λ v env₁ s₁ i g. fine-value _ (right-valued o) (term-fine b shape env₁ s₁ d g.0 (sets-grows g.1 m))
        (λ w env₂ s₂ j g'. fine-applied p env₂ s₂ o i j (λ x k. (k, onward g g'))))
    term-fine (HasType.if_exp c a b) shape env s d f m =
        fine-truth _ (term-fine c shape env s d f m)
        (λ q env₁ s₁ g. fine-either q
        (fine-map (λ v env₂ g'. (g'.0, onward g g'.1)) (block-fine a shape env₁ s₁ d g.0 (sets-grows g.1 m)))
        (fine-map (λ v env₂ g'. (g'.0, onward g g'.1)) (block-fine b shape env₁ s₁ d g.0 (sets-grows g.1 m))))
    term-fine {Γ} (HasType.fun_exp {f = x} {h = h} {n = n} {ts = ts} {t = t} e as-typed) shape env s d f m =
        let r = function-found (looks x Γ h (function n ts t) e) d in
        fine-reaching h env (subst (λ l. h < l) (fills-length f) r.1)
        (fine-then _ (terms-fine as-typed shape env s d f m)
        (λ vs env₁ s₁ g. fine-map (λ v env₂ g'. (g'.0, onward g.1 g'.1)) (called h n shape ts t vs env₁ s₁ r.0 g.0 g.1.0)))
    term-fine (HasType.amount_exp {p = p} l a) shape env s d f m = fine-number _ (term-fine a shape env s d f m) (λ z env' s' g. fine-amount ops p env' s' z (λ x. (Is.number, g)))
    term-fine (HasType.flag_exp {p = p} l a) shape env s d f m = fine-number _ (term-fine a shape env s d f m) (λ z env' s' g. fine-flag ops p env' s' z (λ x. (Is.truth, g)))
    term-fine (HasType.post_exp {p = p} l a b) shape env s d f m =
        fine-number _ (term-fine a shape env s d f m)
        (λ x env₁ s₁ g. fine-number _ (term-fine b shape env₁ s₁ d g.0 (sets-grows g.1 m))
        (λ z env₂ s₂ g'. fine-post ops p env₂ s₂ x z (Is.nothing, onward g g')))

    pub terms-fine : {Γ : Env} {es : Arguments} {ts : List ValueType} {rs : Terms} → Matches Γ es ts rs → (shape : Shape) (env : Chain) (s : S) → Describes sigs shape Γ → FillsAll shape env → Sets Γ env → Fine (GivesAll ts shape env) (eval_terms ops calls rs env s)
    terms-fine Matches.no_more shape env s d f m = Fine.done (AreOf.no_more, stays f)
    terms-fine (Matches.one_more v a rest) shape env s d f m =
        fine-value _ v (term-fine a shape env s d f m)
        (λ w env₁ s₁ i g. fine-then _ (terms-fine rest shape env₁ s₁ d g.0 (sets-grows g.1 m))
        (λ vs env₂ s₂ g'. Fine.done (AreOf.one_more i g'.0, onward g g'.1)))

    -- a value block: its actions, then its term
    pub block-fine : {Γ : Env} {b : ValueBlock} {t : ValueType} {α : Actions} {r : Term} → Yields Γ b t α r → (shape : Shape) (env : Chain) (s : S) → Describes sigs shape Γ → FillsAll shape env → Sets Γ env → Fine (Gives t shape env) (and_then (eval_actions ops calls α env s) (λ _ env s. eval_term ops calls r env s))
    block-fine (Yields.yields Γ' rs a) shape env s d f m =
        fine-then _ (actions-fine rs shape env s d f m)
        (λ u env₁ s₁ g. fine-map (λ v env₂ g'. (g'.0, onward g.0 g'.1)) (term-fine a shape env₁ s₁ (alike-describes (alike_all rs) d) g.0.0 g.1))

    pub action-fine : {Γ Γ' : Env} {st : Statement} {a : Action} → Runs Γ st Γ' a → (shape : Shape) (env : Chain) (s : S) → Describes sigs shape Γ → FillsAll shape env → Sets Γ env → Fine (Leaves Γ' shape env) (eval_action ops calls a env s)
    action-fine {Γ} {Γ'} (Runs.var_stm {x = x} {h = h} {k = k} {s = status} {t = t} e v a) shape env s d f m =
        fine-value _ v (term-fine a shape env s d f m)
        (λ w env₁ s₁ i g.
        let r = variable-set (looks x Γ h (variable status t k) e) d g.0 (sets-grows g.1 m) i in
        subst (λ o. Fine (Leaves (set x Γ) shape env) (assigned o s₁)) (sym r.1) (Fine.done ((r.2, grows-trans g.1 r.3), r.4)))
    action-fine (Runs.fun_stm {p = p} {t = t} {r = r} a) shape env s d f m = dropped t p r shape env s m (term-fine a shape env s d f m)
    action-fine (Runs.if_stm Γ' c a) shape env s d f m =
        fine-truth _ (term-fine c shape env s d f m)
        (λ q env₁ s₁ g. fine-either q
        (fine-map (λ u env₂ g'. (onward g g'.0, sets-grows (grows-trans g.1 g'.0.1) m)) (statements-fine a shape env₁ s₁ d g.0 (sets-grows g.1 m)))
        (Fine.done (g, sets-grows g.1 m)))
    action-fine (Runs.if_else_stm Γ' Γ'' c a b) shape env s d f m =
        fine-truth _ (term-fine c shape env s d f m)
        (λ q env₁ s₁ g. fine-either q
        (fine-map (λ u env₂ g'. (onward g g'.0, sets-left (alike-block a) (alike-block b) g'.1)) (statements-fine a shape env₁ s₁ d g.0 (sets-grows g.1 m)))
        (fine-map (λ u env₂ g'. (onward g g'.0, sets-right (alike-block a) (alike-block b) g'.1)) (statements-fine b shape env₁ s₁ d g.0 (sets-grows g.1 m))))

    pub actions-fine : {Γ Γ' : Env} {ss : Statements} {α : Actions} → RunsAll Γ ss Γ' α → (shape : Shape) (env : Chain) (s : S) → Describes sigs shape Γ → FillsAll shape env → Sets Γ env → Fine (Leaves Γ' shape env) (eval_actions ops calls α env s)
    actions-fine RunsAll.done shape env s d f m = Fine.done (stays f, m)
    actions-fine (RunsAll.then Γ' r rs) shape env s d f m =
        fine-then _ (action-fine r shape env s d f m)
        (λ u env₁ s₁ g. fine-map (λ u' env₂ g'. (onward g.0 g'.0, g'.1)) (actions-fine rs shape env₁ s₁ (alike-describes (alike_runs r) d) g.0.0 g.1))

    pub statements-fine : {Γ Γ' : Env} {b : Block} {α : Actions} → RunsBlock Γ b Γ' α → (shape : Shape) (env : Chain) (s : S) → Describes sigs shape Γ → FillsAll shape env → Sets Γ env → Fine (Leaves Γ' shape env) (eval_actions ops calls α env s)
    statements-fine (RunsBlock.in_block rs) shape env s d f m = actions-fine rs shape env s d f m

  pub ending-fine : {Γ : Env} {l : Final} {t : ValueType} {ending : Ending} → Ends Γ l t ending → (shape : Shape) (env : Chain) (s : S) → Describes sigs shape Γ → FillsAll shape env → Sets Γ env → Fine (Gives t shape env) (eval_ending ops calls ending env s)
  ending-fine Ends.with_none shape env s d f m = Fine.done (Is.nothing, stays f)
  ending-fine (Ends.with_exp a) shape env s d f m = term-fine a shape env s d f m
