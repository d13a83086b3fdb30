-- Calls of functions whose bodies are typed do not come to trouble, at any depth. Assumes nothing.
use Rattle.std.proofs.Common.{◌≡◌, ℕ, zero, suc, cond, List, [], ◌∷◌, ◌++◌, map, length, replicate, Some, None, Option, sym, refl, ap, subst}
use Rattle.std.proofs.lemmas.Bool.{eq-eqb}
use Rattle.language.specs.declared.values.Value.{Value}
use Rattle.language.specs.declared.values.ValueType.{ValueType}
use Rattle.host.specs.Serves.{Serves}
use Rattle.table.specs.Tree.{Statements, Final}
use Rattle.rules.specs.Resolved.{Actions, Ending, Function, Functions}
use Rattle.rules.specs.Resolved.Function.{function}
use Rattle.rules.specs.Evaluate.{Env as Chain}
use Rattle.rules.specs.Evaluate.{Eval, Slots, Calls, and_then, eval_actions, eval_ending, eval_body, given, leaving, frame_for, invoked, numbered_function, calls_to}
use Rattle.typing.specs.Scopes.{Env}
use Rattle.typing.specs.Scopes.Status.{dec, init}
use Rattle.typing.specs.Rules.{RunsAll, Ends}
use Rattle.safety.specs.Safety.{Is}
use Rattle.safety.proofs.Places.{At}
use Rattle.safety.proofs.Worlds.{Kind, Shape, Fills, FillsFrame, FillsAll, Grows}
use Rattle.safety.proofs.Worlds.Kind.{kind}
use Rattle.safety.proofs.Scoped.{Signature, Describes, Sets}
use Rattle.safety.proofs.Scoped.Signature.{signature}
use Rattle.safety.proofs.Alike.{alike_all, alike-describes}
use Rattle.safety.proofs.Fine.{Fine, fine-then, fine-given}
use Rattle.safety.proofs.Terms.{Goes, Gives, AreOf, Able, onward, actions-fine, ending-fine}

-- the slots of a function's frame: its parameters, set, then its other variables
abbrev pub kinds : List ValueType → List ValueType → List Kind
kinds ts us = map (kind init) ts ++ map (kind dec) us

-- every chain of the shape has set what the scopes say is set
abbrev pub Promises : Shape → Env → Type 0
Promises shape Γ = (env : Chain) → FillsAll shape env → Sets Γ env

-- a body is typed in scopes that describe a chain of the shape
pub data TypedBody (sigs : List Signature) (shape : Shape) (t : ValueType) : Actions → Ending → Type 0 where
  typed_body : {ss : Statements} {f : Final} {α : Actions} {ending : Ending} (Γ Γ' : Env) → Describes sigs shape Γ → Promises shape Γ → RunsAll Γ ss Γ' α → Ends Γ' f t ending → TypedBody sigs shape t α ending

-- a function keeps to its signature
pub data Sound (sigs : List Signature) : Function → Signature → Type 0 where
  sound : {p others : ℕ} {inner : Functions} {α : Actions} {ending : Ending} {shape : Shape} {ts : List ValueType} {t : ValueType} (us : List ValueType) → others ≡ length us → TypedBody sigs (kinds ts us ∷ shape) t α ending → Sound sigs (function p t (length ts) others inner α ending) (signature shape ts t)

-- each function in a list keeps to the signature at its place
pub data AllSound (sigs : List Signature) : List Function → List Signature → Type 0 where
  no_more : AllSound sigs [] []
  one_more : {f : Function} {g : Signature} {fs : List Function} {gs : List Signature} → Sound sigs f g → AllSound sigs fs gs → AllSound sigs (f ∷ fs) (g ∷ gs)

pub sound-at : {sigs : List Signature} {fs : List Function} {gs : List Signature} {n : ℕ} {g : Signature} → At gs n g → AllSound sigs fs gs → (f : Function) × (numbered_function fs n ≡ Some f) × Sound sigs f g
sound-at At.here (AllSound.one_more {f} s rest) = (f, refl, s)
sound-at (At.there a) (AllSound.one_more s rest) = sound-at a rest

-- a new frame is as its kinds say
fills-unset : (us : List ValueType) → FillsFrame (map (kind dec) us) (replicate (length us) None)
fills-unset [] = FillsFrame.no_slots
fills-unset (u ∷ us) = FillsFrame.slot Fills.unset (fills-unset us)

pub fills-new : {ts : List ValueType} {vs : List Value} (us : List ValueType) → AreOf ts vs → FillsFrame (kinds ts us) (frame_for vs (length us))
fills-new us AreOf.no_more = fills-unset us
fills-new us (AreOf.one_more i rest) = FillsFrame.slot (Fills.filled i) (fills-new us rest)

are-length : {ts : List ValueType} {vs : List Value} → AreOf ts vs → length vs ≡ length ts
are-length AreOf.no_more = refl
are-length (AreOf.one_more i rest) = ap suc (are-length rest)

-- the own frame goes
fine-leaving : {S : Type 0} {t : ValueType} {ks : List Kind} {shape : Shape} {vs : Slots} {env : Chain} (v : Option Value) (env' : Chain) (s : S) → Is t v → FillsAll (ks ∷ shape) env' → Grows (vs ∷ env) env' → Fine (Gives t shape env) (leaving v env' s)
fine-leaving v env' s i (FillsAll.frame f fs) (Grows.frame g gs) = Fine.done (i, (fs, gs))

-- a typed body, and what is done with its result
pub body-fine : {S : Type 0} {t : ValueType} {α : Actions} {ending : Ending} (ops : Serves S) (calls : Calls S) (sigs : List Signature) → Able calls sigs → (shape : Shape) (env : Chain) (s : S) → TypedBody sigs shape t α ending → FillsAll shape env → (k : Option Value → Chain → S → Eval S (Option Value)) → ((v : Option Value) (env' : Chain) (s' : S) → Is t v → Goes shape env env' → Fine (Gives t shape env) (k v env' s')) → Fine (Gives t shape env) (and_then (eval_actions ops calls α env s) (λ _ env s. and_then (eval_ending ops calls ending env s) (λ v env s. k v env s)))
body-fine {S} ops calls sigs able shape env s (TypedBody.typed_body Γ Γ' d promised rs ends) f k good =
    fine-then _ (actions-fine S ops calls sigs able rs shape env s d f (promised env f))
    (λ u env₁ s₁ g. fine-then _ (ending-fine S ops calls sigs able ends shape env₁ s₁ (alike-describes (alike_all rs) d) g.0.0 g.1)
    (λ v env₂ s₂ g'. good v env₂ s₂ g'.0 (onward g.0 g'.1)))

invoked-fine : {S : Type 0} {f : Function} {shape : Shape} {ts : List ValueType} {t : ValueType} {vs : List Value} {env : Chain} (ops : Serves S) (calls : Calls S) (sigs : List Signature) → Able calls sigs → (s : S) → Sound sigs f (signature shape ts t) → AreOf ts vs → FillsAll shape env → Fine (Gives t shape env) (invoked ops calls (Some f) vs env s)
invoked-fine {S} {vs = vs} {env = env} ops calls sigs able s (Sound.sound {p} {others} {inner} {α} {ending} {shape} {ts} {t} us o body) are f =
    let new : FillsAll (kinds ts us ∷ shape) (frame_for vs others ∷ env) = FillsAll.frame (subst (λ n. FillsFrame (kinds ts us) (frame_for vs n)) (sym o) (fills-new us are)) f in
    let run = body-fine ops calls sigs able (kinds ts us ∷ shape) (frame_for vs others ∷ env) s body new (given t) (λ v env' s' i g. fine-given env' s' i (i, g)) in
    subst (λ b. Fine (Gives t shape env) (cond b (and_then (eval_body ops calls t α ending (frame_for vs others ∷ env) s) leaving) Eval.trouble))
    (sym (eq-eqb (length vs) (length ts) (are-length are)))
    (fine-then leaving run (λ v env' s' g. fine-leaving v env' s' g.0 g.1.0 g.1.1))

-- to every depth
pub calls-able : {S : Type 0} (ops : Serves S) (fs : List Function) (sigs : List Signature) → AllSound sigs fs sigs → (depth : ℕ) → Able (calls_to ops fs depth) sigs
calls-able ops fs sigs sounds zero n shape ts t vs env s a are f = Fine.too_deep
calls-able ops fs sigs sounds (suc depth) n shape ts t vs env s a are f =
    let r = sound-at a sounds in
    subst (λ o. Fine (Gives t shape env) (invoked ops (calls_to ops fs depth) o vs env s)) (sym r.1)
    (invoked-fine ops (calls_to ops fs depth) sigs (calls-able ops fs sigs sounds depth) s r.2 are f)
