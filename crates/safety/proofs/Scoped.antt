-- When scopes describe a chain of frames, and what lookup then finds in it. Assumes nothing.
use Rattle.std.proofs.Common.{◌≡◌, ℕ, suc, ◌+◌, Bool, true, false, cond, eqb, List, [], ◌∷◌, Some, None, Option, sym, refl, ap, ◌∙◌, subst, add-one, arith}
use Rattle.language.specs.declared.values.ValueType.{ValueType}
use Rattle.rules.specs.Evaluate.{Slots}
use Rattle.rules.specs.Evaluate.{Env as Chain}
use Rattle.typing.specs.Scopes.{Status, Named, Scope, Env, Found, find, lookup, found, or_outward}
use Rattle.typing.specs.Scopes.Status.{dec}
use Rattle.typing.specs.Scopes.Named.{variable, function}
use Rattle.safety.proofs.Places.{At}
use Rattle.safety.proofs.Worlds.{Kind, Shape, Set, GrowsFrame, Grows}
use Rattle.safety.proofs.Worlds.Kind.{kind}

-- what is promised of a function that has a number: the shape of the chain that it is declared on, its parameters and its result
pub data Signature : Type 0 where
  signature : Shape → List ValueType → ValueType → Signature

-- a variable's slot has its type; a function's number has its signature, on this chain
pub data Stands (sigs : List Signature) : Shape → Named → Type 0 where
  a_variable : {ks : List Kind} {shape : Shape} {s s' : Status} {t : ValueType} {k : ℕ} → At ks k (kind s' t) → Stands sigs (ks ∷ shape) (variable s t k)
  a_function : {shape : Shape} {n : ℕ} {ts : List ValueType} {t : ValueType} → At sigs n (signature shape ts t) → Stands sigs shape (function n ts t)

-- so it is with what each name of a scope stands for
abbrev pub Each : (Named → Type 0) → Scope → Type 0
Each P [] = Unit {0}
Each P (b ∷ scope) = P b.named × Each P scope

-- the scopes describe a chain of this shape
pub data Describes (sigs : List Signature) : Shape → Env → Type 0 where
  no_scopes : Describes sigs [] []
  one_scope : {ks : List Kind} {shape : Shape} {scope : Scope} {Γ : Env} → Each (Stands sigs (ks ∷ shape)) scope → Describes sigs shape Γ → Describes sigs (ks ∷ shape) (scope ∷ Γ)

-- a variable whose status is set has a value in its slot
pub data Marked : Slots → Named → Type 0 where
  set' : {vs : Slots} {s : Status} {t : ValueType} {k : ℕ} → Set vs k → Marked vs (variable s t k)
  declared : {vs : Slots} {t : ValueType} {k : ℕ} → Marked vs (variable dec t k)
  a_function : {vs : Slots} {n : ℕ} {ts : List ValueType} {t : ValueType} → Marked vs (function n ts t)

pub data Sets : Env → Chain → Type 0 where
  no_scopes : Sets [] []
  one_scope : {scope : Scope} {Γ : Env} {vs : Slots} {env : Chain} → Each (Marked vs) scope → Sets Γ env → Sets (scope ∷ Γ) (vs ∷ env)

-- what is set stays set
pub marked-grows : {vs ws : Slots} {n : Named} → GrowsFrame vs ws → Marked vs n → Marked ws n
marked-grows g (set' s) = set' (g _ s)
marked-grows g declared = declared
marked-grows g a_function = a_function

pub each_map : (P Q : Named → Type 0) (scope : Scope) → ((n : Named) → P n → Q n) → Each P scope → Each Q scope
each_map P Q [] f e = tt
each_map P Q (b ∷ scope) f e = (f b.named e.0, each_map P Q scope f e.1)

pub sets-grows : {Γ : Env} {env env' : Chain} → Grows env env' → Sets Γ env → Sets Γ env'
sets-grows Grows.no_frames no_scopes = no_scopes
sets-grows (Grows.frame {vs} {ws} f g) (one_scope {scope} e s) = one_scope (each_map (Marked vs) (Marked ws) scope (λ n. marked-grows f) e) (sets-grows g s)

-- lookup as a relation
pub data Looks (x : ℕ) : Env → ℕ → Named → Type 0 where
  in_this : {scope : Scope} {Γ : Env} {n : Named} → find x scope ≡ Some n → Looks x (scope ∷ Γ) 0 n
  further : {scope : Scope} {Γ : Env} {h : ℕ} {n : Named} → find x scope ≡ None → Looks x Γ h n → Looks x (scope ∷ Γ) (suc h) n

pub looks : (x : ℕ) (Γ : Env) (h : ℕ) (n : Named) → lookup x Γ ≡ found h n → Looks x Γ h n
looks x [] h n e = let z : ◌≡◌ {A = ℕ} 0 1 = cc in absurd (omega arith)
looks x (scope ∷ Γ) h n e = at (find x scope) refl (lookup x Γ) (looks x Γ) e
  where
    moved : (k m : ℕ) (a b : Named) → ◌≡◌ {A = Option Found} (Some (record { hops = k; named = a })) (found m b) → (k ≡ m) × (a ≡ b)
    moved k m a b e =
        let r : ◌≡◌ {A = Found} (record { hops = k; named = a }) (record { hops = m; named = b }) = cc in
        (ap (λ (f : Found). f.hops) r, ap (λ (f : Found). f.named) r)

    at : (o : Option Named) → find x scope ≡ o → (l : Option Found) → ((h : ℕ) (n : Named) → l ≡ found h n → Looks x Γ h n) → or_outward o l ≡ found h n → Looks x (scope ∷ Γ) h n
    at (Some m) i l ih e = let q = moved 0 h m n e in subst (λ k. Looks x (scope ∷ Γ) k n) q.0 (in_this (i ∙ ap Some q.1))
    at None i None ih e = let z : ◌≡◌ {A = ℕ} 0 1 = cc in absurd (omega arith)
    at None i (Some f) ih e = let q = moved (f.hops + 1) h f.named n e in subst (λ k. Looks x (scope ∷ Γ) k n) (sym (add-one f.hops) ∙ q.0) (further i (ih f.hops n (ap (λ m. Some (record { hops = f.hops; named = m })) q.1)))

-- what holds of each name of a scope holds of the one that is found
pub find-each : (P : Named → Type 0) (x : ℕ) (scope : Scope) (n : Named) → find x scope ≡ Some n → Each P scope → P n
find-each P x [] n e a = let z : ◌≡◌ {A = ℕ} 0 1 = cc in absurd (omega arith)
find-each P x (b ∷ scope) n e a = at (eqb b.name x) (λ e. find-each P x scope n e a.1) e
  where
    at : (q : Bool) → (find x scope ≡ Some n → P n) → cond q (Some b.named) (find x scope) ≡ Some n → P n
    at true go e = subst P (cc) a.0
    at false go e = go e
