-- From the derivation of a program's declarations: the shape of each frame, the signature of each function, and that every function keeps to its own. Assumes nothing.
use Rattle.std.proofs.Common.{◌≡◌, ℕ, ◌+◌, List, [], ◌∷◌, ◌++◌, map, length, Option, sym, refl, ap, ◌∙◌, subst, zero-add, arith}
use Rattle.std.proofs.lemmas.List.{append-nil, append_assoc, length-map}
use Rattle.language.specs.declared.values.Value.{Value}
use Rattle.language.specs.declared.values.ValueType.{ValueType}
use Rattle.table.specs.Tree.{Parameter, Declaration, Declarations, Body}
use Rattle.table.specs.Tree.Parameter.{parameter}
use Rattle.table.specs.Tree.Declaration.{variable as a_variable, function as a_function}
use Rattle.table.specs.Tree.Declarations.{no_declarations, declaration}
use Rattle.table.specs.Tree.Body.{body}
use Rattle.rules.specs.Resolved.{Actions, Ending, Function, Functions, all, with_inner}
use Rattle.rules.specs.Evaluate.{Env as Chain}
use Rattle.rules.specs.Evaluate.{Slots}
use Rattle.typing.specs.Scopes.{Named, Scope, Env, enter}
use Rattle.typing.specs.Scopes.Status.{dec, init}
use Rattle.typing.specs.Scopes.Named.{variable, function}
use Rattle.typing.specs.Rules.{Parameters, Declares, DeclaresAll, HasBody}
use Rattle.safety.proofs.Places.{At, Segment, segment-all, segment-left, segment-right}
use Rattle.safety.proofs.Worlds.{Kind, Shape, Fills, FillsFrame, FillsAll, Set}
use Rattle.safety.proofs.Worlds.Kind.{kind}
use Rattle.safety.proofs.Scoped.{Signature, Stands, Each, Describes, Marked, Sets}
use Rattle.safety.proofs.Scoped.Signature.{signature}
use Rattle.safety.proofs.Calling.{kinds, Promises, TypedBody, Sound, AllSound}

abbrev pub types_of : List Parameter → List ValueType
types_of [] = []
types_of (parameter p t x ∷ qs) = t ∷ types_of qs

-- the types of the variables that declarations declare, in their order
abbrev pub declared_before : Declaration → List ValueType → List ValueType
declared_before (a_variable p t x) us = t ∷ us
declared_before (a_function p t x qs b) us = us

abbrev pub declared_types : Declarations → List ValueType
declared_types no_declarations = []
declared_types (declaration d ds) = declared_before d (declared_types ds)

abbrev pub body_types : Body → List ValueType
body_types (body p ds ss f) = declared_types ds

-- the signatures of all functions in table order, before those of what comes after
abbrev mutual
  pub signatures : Shape → Declaration → List Signature → List Signature
  signatures shape (a_variable p t x) rest = rest
  signatures shape (a_function p t x qs b) rest = signature shape (types_of qs) t ∷ body_signatures shape (types_of qs) b rest

  pub all_signatures : Shape → Declarations → List Signature → List Signature
  all_signatures shape no_declarations rest = rest
  all_signatures shape (declaration d ds) rest = signatures shape d (all_signatures shape ds rest)

  pub body_signatures : Shape → List ValueType → Body → List Signature → List Signature
  body_signatures shape ts (body p ds ss f) rest = all_signatures (kinds ts (declared_types ds) ∷ shape) ds rest

-- parameters
pub parameters-types : {scope after : Scope} {slot : ℕ} {qs : List Parameter} {ts : List ValueType} → Parameters scope slot qs after ts → types_of qs ≡ ts
parameters-types Parameters.no_parameters = refl
parameters-types (Parameters.one_parameter {t = t} e v ps) = ap (λ ts. t ∷ ts) (parameters-types ps)

parameters-each : {scope after : Scope} {slot : ℕ} {qs : List Parameter} {ts : List ValueType} (P : Named → Type 0) (ks : List Kind) → ((t : ValueType) (k : ℕ) → At ks k (kind init t) → P (variable init t k)) → Parameters scope slot qs after ts → Segment ks slot (map (kind init) ts) → Each P scope → Each P after
parameters-each P ks f Parameters.no_parameters g e = e
parameters-each P ks f (Parameters.one_parameter {slot = slot} {t = t} n v ps) g e = parameters-each P ks f ps g.1 (f t slot g.0, e)

init-fills : {t : ValueType} {v : Option Value} {vs : Slots} → Fills (kind init t) v → Set (v ∷ vs) 0
init-fills (Fills.filled i) = Set.here

init-set : {ks : List Kind} {k : ℕ} {t : ValueType} {vs : Slots} → At ks k (kind init t) → FillsFrame ks vs → Set vs k
init-set At.here (FillsFrame.slot f fs) = init-fills f
init-set (At.there a) (FillsFrame.slot f fs) = Set.there (init-set a fs)

parameters-promise : {Γ : Env} {scope : Scope} {qs : List Parameter} {ts : List ValueType} {ks : List Kind} {shape : Shape} → Parameters [] 0 qs scope ts → Segment ks 0 (map (kind init) ts) → Promises shape Γ → Promises (ks ∷ shape) (scope ∷ Γ)
parameters-promise {ks = ks} ps g promised env (FillsAll.frame {vs = vs} f fs) = Sets.one_scope (parameters-each (Marked vs) ks (λ t k a. Marked.set' (init-set a f)) ps g tt) (promised _ fs)

-- a name that enters a scope
describes-enter : {sigs : List Signature} {ks : List Kind} {shape : Shape} {Γ : Env} (x : ℕ) (n : Named) → Describes sigs (ks ∷ shape) Γ → Stands sigs (ks ∷ shape) n → Describes sigs (ks ∷ shape) (enter x n Γ)
describes-enter x n (Describes.one_scope e d) s = Describes.one_scope (s, e) d

sets-enter : {Γ : Env} {env : Chain} (x : ℕ) (n : Named) → Sets Γ env → ((vs : Slots) → Marked vs n) → Sets (enter x n Γ) env
sets-enter x n Sets.no_scopes k = Sets.no_scopes
sets-enter x n (Sets.one_scope {vs = vs} e s) k = Sets.one_scope (k vs, e) s

-- the list of functions as it is put together
joined-none : (fs gs : List Function) → (fs ++ []) ++ gs ≡ fs ++ gs
joined-none fs gs = ap (λ l. l ++ gs) (append-nil fs)

joined-more : (fs gs hs : List Function) → (fs ++ []) ++ (gs ++ hs) ≡ (fs ++ gs) ++ hs
joined-more fs gs hs = ap (λ l. l ++ (gs ++ hs)) (append-nil fs) ∙ sym (append_assoc fs gs hs)

pub slots-left : (ts us : List ValueType) (others : ℕ) → length ts + others ≡ length ts + length us → others ≡ length us
slots-left ts us others e = omega arith

-- What declarations leave: scopes that describe the chain, the slots and the signatures of what comes after, and functions that keep to their signatures
pub record Leave (sigs : List Signature) (ks : List Kind) (shape : Shape) (Γ : Env) (slot number : ℕ) (us : List ValueType) (rest : List Signature) : Type 0 where
  pub describes : Describes sigs (ks ∷ shape) Γ
  pub promises : Promises (ks ∷ shape) Γ
  pub slots : Segment ks slot (map (kind dec) us)
  pub numbers : Segment sigs number rest

-- a function's name enters, and its parameters open its scope
pub function-enters : {sigs : List Signature} {ks : List Kind} {shape : Shape} {Γ : Env} {slot number : ℕ} {us : List ValueType} {rest : List Signature} (x : ℕ) (ts : List ValueType) (t : ValueType) → Leave sigs ks shape Γ slot number us (signature (ks ∷ shape) ts t ∷ rest) → Leave sigs ks shape (enter x (function number ts t) Γ) slot (number + 1) us rest
function-enters {number = number} x ts t l = record {
  describes = describes-enter x (function number ts t) l.describes (Stands.a_function l.numbers.0);
  promises = λ env f. sets-enter x (function number ts t) (l.promises env f) (λ vs. Marked.a_function);
  slots = l.slots;
  numbers = l.numbers.1;
}

pub parameters-enter : {sigs : List Signature} {ks : List Kind} {shape : Shape} {Γ : Env} {slot number : ℕ} {us : List ValueType} {rest : List Signature} {scope : Scope} {qs : List Parameter} {ts : List ValueType} (own : List ValueType) → Parameters [] 0 qs scope ts → Leave sigs ks shape Γ slot number us rest → Leave sigs (kinds ts own) (ks ∷ shape) (scope ∷ Γ) (length ts) number own rest
parameters-enter {sigs} {ks} {shape} {ts = ts} own ps l =
    let frame : List Kind = kinds ts own in
    let first : Segment frame 0 (map (kind init) ts) = segment-left frame 0 (map (kind init) ts) (map (kind dec) own) (segment-all frame) in
    let second : Segment frame (length ts) (map (kind dec) own) = subst (λ k. Segment frame k (map (kind dec) own)) (zero-add (length (map (kind init) ts)) ∙ length-map ts (kind init)) (segment-right frame 0 (map (kind init) ts) (map (kind dec) own) (segment-all frame)) in
    record {
      describes = Describes.one_scope (parameters-each (Stands sigs (frame ∷ ks ∷ shape)) frame (λ t k a. Stands.a_variable a) ps first tt) l.describes;
      promises = parameters-promise ps first l.promises;
      slots = second;
      numbers = l.numbers;
    }

-- the signatures as the derivation has the types of the parameters
pub as-derived : {sigs : List Signature} {ks : List Kind} {shape : Shape} {Γ : Env} {slot number : ℕ} {us : List ValueType} {scope : Scope} {qs : List Parameter} {ts : List ValueType} (t : ValueType) (b : Body) (rest : List Signature) → Parameters [] 0 qs scope ts → Leave sigs ks shape Γ slot number us (signature (ks ∷ shape) (types_of qs) t ∷ body_signatures (ks ∷ shape) (types_of qs) b rest) → Leave sigs ks shape Γ slot number us (signature (ks ∷ shape) ts t ∷ body_signatures (ks ∷ shape) ts b rest)
as-derived {sigs} {ks} {shape} {Γ} {slot} {number} {us} t b rest ps l = subst (λ ts. Leave sigs ks shape Γ slot number us (signature (ks ∷ shape) ts t ∷ body_signatures (ks ∷ shape) ts b rest)) (parameters-types ps) l

mutual
  pub declares : {Γ Γ' : Env} {slot number slot' number' : ℕ} {d : Declaration} {fs : Functions} → Declares Γ slot number d Γ' slot' number' fs → (sigs : List Signature) (ks : List Kind) (shape : Shape) (us : List ValueType) (rest : List Signature) → Leave sigs ks shape Γ slot number (declared_before d us) (signatures (ks ∷ shape) d rest) → Leave sigs ks shape Γ' slot' number' us rest × (slot' + length us ≡ slot + length (declared_before d us)) × ((later : List Function) → AllSound sigs later rest → AllSound sigs (all fs ++ later) (signatures (ks ∷ shape) d rest))
  declares (Declares.id_dec {slot = slot} {x = x} {t = t} n v) sigs ks shape us rest l = (
    record {
      describes = describes-enter x (variable dec t slot) l.describes (Stands.a_variable l.slots.0);
      promises = λ env f. sets-enter x (variable dec t slot) (l.promises env f) (λ vs. Marked.declared);
      slots = l.slots.1;
      numbers = l.numbers;
    },
    omega arith,
    λ later a. a,
  )
  declares (Declares.fun_dec {Γ = Γ} {number = number} {p = p} {x = x} {others = others} {t = t} {qs = qs} {b = b} {scope = scope} {ts = ts} {inner = inner} {α = α} {ending = ending} n ps h) sigs ks shape us rest l =
      let entered = function-enters x ts t (as-derived t b rest ps l) in
      let r = has_body_lem h sigs (ks ∷ shape) ts rest (parameters-enter (body_types b) ps entered) in (
        record { describes = entered.describes; promises = entered.promises; slots = entered.slots; numbers = r.0 },
        refl,
        λ later a.
            subst (λ us. AllSound sigs (Function.function p t (length ts) others inner α ending ∷ ((all inner ++ []) ++ later)) (signature (ks ∷ shape) us t ∷ body_signatures (ks ∷ shape) us b rest)) (sym (parameters-types ps))
            (AllSound.one_more (Sound.sound (body_types b) (slots-left ts (body_types b) others r.1) r.2)
            (subst (λ fs. AllSound sigs fs (body_signatures (ks ∷ shape) ts b rest)) (sym (joined-none (all inner) later)) (r.3 later a))),
      )

  pub declares-all : {Γ Γ' : Env} {slot number slot' number' : ℕ} {ds : Declarations} {fs : Functions} → DeclaresAll Γ slot number ds Γ' slot' number' fs → (sigs : List Signature) (ks : List Kind) (shape : Shape) (rest : List Signature) → Leave sigs ks shape Γ slot number (declared_types ds) (all_signatures (ks ∷ shape) ds rest) → Leave sigs ks shape Γ' slot' number' [] rest × (slot' ≡ slot + length (declared_types ds)) × ((later : List Function) → AllSound sigs later rest → AllSound sigs (all fs ++ later) (all_signatures (ks ∷ shape) ds rest))
  declares-all DeclaresAll.none_left sigs ks shape rest l = (l, omega arith, λ later a. a)
  declares-all (DeclaresAll.variable_first {ds = ds} Γ' slot' number' d ds-after) sigs ks shape rest l =
      let r = declares d sigs ks shape (declared_types ds) (all_signatures (ks ∷ shape) ds rest) l in
      let q = declares-all ds-after sigs ks shape rest r.0 in
      (q.0, q.1 ∙ r.1, λ later a. r.2 _ (q.2 later a))
  declares-all (DeclaresAll.function_first {d = d'} {ds = ds} {f = f} {fs = fs} Γ' slot' number' d ds-after) sigs ks shape rest l =
      let r = declares d sigs ks shape (declared_types ds) (all_signatures (ks ∷ shape) ds rest) l in
      let q = declares-all ds-after sigs ks shape rest r.0 in
      (q.0, q.1 ∙ r.1, λ later a. subst (λ fs. AllSound sigs fs (signatures (ks ∷ shape) d' (all_signatures (ks ∷ shape) ds rest))) (joined-more (with_inner f) (all fs) later) (r.2 (all fs ++ later) (q.2 later a)))

  pub has_body_lem : {Γ : Env} {slot number slots after : ℕ} {b : Body} {t : ValueType} {inner : Functions} {α : Actions} {ending : Ending} → HasBody Γ slot number b t slots after inner α ending → (sigs : List Signature) (shape : Shape) (ts : List ValueType) (rest : List Signature) → Leave sigs (kinds ts (body_types b)) shape Γ slot number (body_types b) (body_signatures shape ts b rest) → Segment sigs after rest × (slots ≡ slot + length (body_types b)) × TypedBody sigs (kinds ts (body_types b) ∷ shape) t α ending × ((later : List Function) → AllSound sigs later rest → AllSound sigs (all inner ++ later) (body_signatures shape ts b rest))
  has_body_lem (HasBody.has_body {ds = ds} Γ' Γ'' d rs ends) sigs shape ts rest l =
      let r = declares-all d sigs (kinds ts (declared_types ds)) shape rest l in
      (r.0.numbers, r.1, TypedBody.typed_body Γ' Γ'' r.0.describes r.0.promises rs ends, r.2)
