-- What a chain of frames is like, whatever has been evaluated so far. Assumes nothing.
use Rattle.std.proofs.Common.{ℕ, suc, List, [], ◌∷◌, Some, None, Option}
use Rattle.language.specs.declared.values.Value.{Value}
use Rattle.language.specs.declared.values.ValueType.{ValueType}
use Rattle.rules.specs.Evaluate.{Slots, Env}
use Rattle.typing.specs.Scopes.{Status}
use Rattle.typing.specs.Scopes.Status.{dec}
use Rattle.safety.specs.Safety.{Is}

-- a slot of a frame: set from the start or not, and its type
pub data Kind : Type 0 where
  kind : Status → ValueType → Kind

-- the kinds of the slots of each frame on a chain, innermost first
abbrev pub Shape : Type 0
Shape = List (List Kind)

-- a slot holds what its kind allows: a value of its type, or none where it need not be set
pub data Fills : Kind → Option Value → Type 0 where
  unset : {t : ValueType} → Fills (kind dec t) None
  filled : {s : Status} {t : ValueType} {v : Value} → Is t (Some v) → Fills (kind s t) (Some v)

pub data FillsFrame : List Kind → Slots → Type 0 where
  no_slots : FillsFrame [] []
  slot : {k : Kind} {ks : List Kind} {v : Option Value} {vs : Slots} → Fills k v → FillsFrame ks vs → FillsFrame (k ∷ ks) (v ∷ vs)

-- each frame holds what its kinds allow
pub data FillsAll : Shape → Env → Type 0 where
  no_frames : FillsAll [] []
  frame : {ks : List Kind} {shape : Shape} {vs : Slots} {env : Env} → FillsFrame ks vs → FillsAll shape env → FillsAll (ks ∷ shape) (vs ∷ env)

-- a slot is set
pub data Set : Slots → ℕ → Type 0 where
  here : {v : Value} {vs : Slots} → Set (Some v ∷ vs) 0
  there : {u : Option Value} {vs : Slots} {k : ℕ} → Set vs k → Set (u ∷ vs) (suc k)

-- what is set stays set
abbrev pub GrowsFrame : Slots → Slots → Type 0
GrowsFrame vs ws = (k : ℕ) → Set vs k → Set ws k

pub data Grows : Env → Env → Type 0 where
  no_frames : Grows [] []
  frame : {vs ws : Slots} {env env' : Env} → GrowsFrame vs ws → Grows env env' → Grows (vs ∷ env) (ws ∷ env')

pub grows-refl : (env : Env) → Grows env env
grows-refl [] = no_frames
grows-refl (vs ∷ env) = frame (λ k s. s) (grows-refl env)

pub grows-trans : {a b c : Env} → Grows a b → Grows b c → Grows a c
grows-trans no_frames no_frames = no_frames
grows-trans (frame f g) (frame f' g') = frame (λ k s. f' k (f k s)) (grows-trans g g')
