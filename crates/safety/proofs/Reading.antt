-- Reading and setting a variable, and reaching the chain that a function was declared on. Assumes nothing.
use Rattle.std.proofs.Common.{◌≡◌, ℕ, zero, suc, ◌<◌, Bool, true, false, cond, eqb, List, [], ◌∷◌, ◌++◌, length, take, drop, Some, Option, sym, refl, ap, subst, arith}
use Rattle.language.specs.declared.values.Value.{Value}
use Rattle.language.specs.declared.values.ValueType.{ValueType}
use Rattle.rules.specs.Evaluate.{Slots, slot_value, set_slot, behind, in_front, set_variable, variable as value_of}
use Rattle.rules.specs.Evaluate.{Env as Chain}
use Rattle.typing.specs.Scopes.{Status, Named, Scope, Env, bind, find, initialised, set_in, is_there, set}
use Rattle.typing.specs.Scopes.Status.{init}
use Rattle.typing.specs.Scopes.Named.{variable, function}
use Rattle.safety.specs.Safety.{Is}
use Rattle.safety.proofs.Places.{At}
use Rattle.safety.proofs.Worlds.{Kind, Shape, Fills, FillsFrame, FillsAll, Set, GrowsFrame, Grows, grows-refl}
use Rattle.safety.proofs.Worlds.Kind.{kind}
use Rattle.safety.proofs.Worlds.Fills.{filled}
use Rattle.safety.proofs.Worlds.FillsFrame.{slot}
use Rattle.safety.proofs.Scoped.{Signature, Stands, Each, Describes, Marked, Sets, Looks, find-each, each_map, marked-grows}
use Rattle.safety.proofs.Scoped.Signature.{signature}
use Rattle.safety.proofs.Scoped.Looks.{in_this, further}

pub variable-slot : {sigs : List Signature} {ks : List Kind} {shape : Shape} {s : Status} {t : ValueType} {k : ℕ} → Stands sigs (ks ∷ shape) (variable s t k) → (s' : Status) × At ks k (kind s' t)
variable-slot (Stands.a_variable {s'} a) = (s', a)

function-number : {sigs : List Signature} {shape : Shape} {n : ℕ} {ts : List ValueType} {t : ValueType} → Stands sigs shape (function n ts t) → At sigs n (signature shape ts t)
function-number (Stands.a_function a) = a

set-slot : {vs : Slots} {t : ValueType} {k : ℕ} → Marked vs (variable init t k) → Set vs k
set-slot (Marked.set' s) = s

fills-value : {s : Status} {t : ValueType} {v : Value} → Fills (kind s t) (Some v) → Is t (Some v)
fills-value (filled i) = i

-- a slot that is set holds a value of its type
slot_read : {vs : Slots} {ks : List Kind} {k : ℕ} {s : Status} {t : ValueType} → Set vs k → FillsFrame ks vs → At ks k (kind s t) → (v : Value) × (slot_value vs k ≡ Some v) × Is t (Some v)
slot_read (Set.here {v}) (slot f fs) At.here = (v, refl, fills-value f)
slot_read (Set.there s) (slot f fs) (At.there a) = slot_read s fs a

-- a variable that is set can be read, and its value is of its type
pub variable-read : {sigs : List Signature} {x h k : ℕ} {t : ValueType} {Γ : Env} {shape : Shape} {env : Chain} → Looks x Γ h (variable init t k) → Describes sigs shape Γ → FillsAll shape env → Sets Γ env → (v : Value) × (value_of env h k ≡ Some v) × Is t (Some v)
variable-read {sigs} {x} {k = k} {t = t} (in_this {scope} e) (Describes.one_scope {ks} {shape} d ds) (FillsAll.frame f fs) (Sets.one_scope {vs = vs} m ms) =
    slot_read (set-slot (find-each (Marked vs) x scope (variable init t k) e m)) f (variable-slot (find-each (Stands sigs (ks ∷ shape)) x scope (variable init t k) e d)).1
variable-read (further e l) (Describes.one_scope d ds) (FillsAll.frame f fs) (Sets.one_scope m ms) = variable-read l ds fs ms

-- a value of its type can be put into a slot: nothing else changes
grows-behind : {u : Option Value} {vs ws : Slots} → GrowsFrame vs ws → (k : ℕ) → Set (u ∷ vs) k → Set (u ∷ ws) k
grows-behind g k Set.here = Set.here
grows-behind g k (Set.there s) = Set.there (g _ s)

grows-here : {u : Option Value} {v : Value} {vs : Slots} → (k : ℕ) → Set (u ∷ vs) k → Set (Some v ∷ vs) k
grows-here k Set.here = Set.here
grows-here k (Set.there s) = Set.there s

slot-set : {ks : List Kind} {vs : Slots} {k : ℕ} {s : Status} {t : ValueType} {v : Value} → At ks k (kind s t) → FillsFrame ks vs → Is t (Some v) → (ws : Slots) × (set_slot vs k v ≡ Some ws) × FillsFrame ks ws × GrowsFrame vs ws × Set ws k
slot-set {v = v} At.here (slot {vs = vs} f fs) i = (Some v ∷ vs, refl, slot (filled i) fs, grows-here, Set.here)
slot-set (At.there a) (slot {v = u} f fs) i = let r = slot-set a fs i in (u ∷ r.0, ap (behind u) r.1, slot f r.2, grows-behind r.3, Set.there r.4)

-- what holds of each name of a scope holds still where one is set
each-set_in : (P : Named → Type 0) (x : ℕ) (scope : Scope) (n : Named) → find x scope ≡ Some n → Each P scope → P (initialised n) → Each P (set_in x scope)
each-set_in P x [] n e a p = tt
each-set_in P x (b ∷ scope) n e a p = at (eqb b.name x) (λ e. each-set_in P x scope n e a.1 p) e
  where
    at : (q : Bool) → (find x scope ≡ Some n → Each P (set_in x scope)) → cond q (Some b.named) (find x scope) ≡ Some n → Each P (cond q (bind b.name (initialised b.named) ∷ scope) (b ∷ set_in x scope))
    at true go e = let i : b.named ≡ n = cc in (subst (λ m. P (initialised m)) (sym i) p, a.1)
    at false go e = (a.0, go e)

-- a value of its type can be assigned to a variable, which is then set
pub variable-set : {sigs : List Signature} {x h k : ℕ} {s : Status} {t : ValueType} {v : Value} {Γ : Env} {shape : Shape} {env : Chain} → Looks x Γ h (variable s t k) → Describes sigs shape Γ → FillsAll shape env → Sets Γ env → Is t (Some v) → (env' : Chain) × (set_variable env h k v ≡ Some env') × FillsAll shape env' × Grows env env' × Sets (set x Γ) env'
variable-set {sigs} {x} {k = k} {s = s} {t = t} (in_this {scope} {Γ} e) (Describes.one_scope {ks} {shape} d ds) (FillsAll.frame {env = env} f fs) (Sets.one_scope {vs = vs} m ms) i =
    let r = slot-set (variable-slot (find-each (Stands sigs (ks ∷ shape)) x scope (variable s t k) e d)).1 f i in
    let kept : Each (Marked r.0) scope = each_map (Marked vs) (Marked r.0) scope (λ n. marked-grows r.3) m in
    let after : Sets (set_in x scope ∷ Γ) (r.0 ∷ env) = Sets.one_scope (each-set_in (Marked r.0) x scope (variable s t k) e kept (Marked.set' r.4)) ms in
    (r.0 ∷ env, ap (λ o. in_front o env) r.1, FillsAll.frame r.2 fs, Grows.frame r.3 (grows-refl env), subst (λ o. Sets (cond (is_there o) (set_in x scope ∷ Γ) (scope ∷ set x Γ)) (r.0 ∷ env)) (sym e) after)
variable-set {x = x} (further {scope} {Γ} e l) (Describes.one_scope d ds) (FillsAll.frame {vs = vs} f fs) (Sets.one_scope m ms) i =
    let r = variable-set l ds fs ms i in
    (vs ∷ r.0, ap (behind vs) r.1, FillsAll.frame f r.2, Grows.frame (λ k z. z) r.3, subst (λ o. Sets (cond (is_there o) (set_in x scope ∷ Γ) (scope ∷ set x Γ)) (vs ∷ r.0)) (sym e) (Sets.one_scope m r.4))

-- a function that is found has its signature on the chain that many hops off, which is there
pub function-found : {sigs : List Signature} {x h n : ℕ} {ts : List ValueType} {t : ValueType} {Γ : Env} {shape : Shape} → Looks x Γ h (function n ts t) → Describes sigs shape Γ → At sigs n (signature (drop h shape) ts t) × (h < length shape)
function-found {sigs} {x} {n = n} {ts = ts} {t = t} (in_this {scope} e) (Describes.one_scope {ks} {shape} d ds) = (function-number (find-each (Stands sigs (ks ∷ shape)) x scope (function n ts t) e d), omega arith)
function-found (further e l) (Describes.one_scope d ds) = let r = function-found l ds in (r.0, let b = r.1 in omega arith)

pub fills-length : {shape : Shape} {env : Chain} → FillsAll shape env → length shape ≡ length env
fills-length FillsAll.no_frames = refl
fills-length (FillsAll.frame f fs) = ap suc (fills-length fs)

pub fills-drop : (h : ℕ) {shape : Shape} {env : Chain} → FillsAll shape env → FillsAll (drop h shape) (drop h env)
fills-drop zero f = f
fills-drop (suc h) FillsAll.no_frames = FillsAll.no_frames
fills-drop (suc h) (FillsAll.frame f fs) = fills-drop h fs

-- a chain that a call leaves, put back under the frames before it
pub fills-back : (h : ℕ) {shape : Shape} {env : Chain} (left : Chain) → FillsAll shape env → FillsAll (drop h shape) left → FillsAll shape (take h env ++ left)
fills-back zero left f g = g
fills-back (suc h) left FillsAll.no_frames g = g
fills-back (suc h) left (FillsAll.frame f fs) g = FillsAll.frame f (fills-back h left fs g)

pub grows_back : (h : ℕ) (env left : Chain) → Grows (drop h env) left → Grows env (take h env ++ left)
grows_back zero env left g = g
grows_back (suc h) [] left g = g
grows_back (suc h) (vs ∷ env) left g = Grows.frame (λ k z. z) (grows_back h env left g)
