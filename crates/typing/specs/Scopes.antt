-- Environments of the typing rules: a pile of scopes, the innermost first, each with its names. Assumes nothing.
use Rattle.std.specs.Prelude.{ℕ, ◌+◌, Bool, true, false, cond, List, [], ◌∷◌, Some, None, Option, ◌==◌}
use Rattle.language.specs.declared.values.ValueType.{ValueType}

-- a variable has only been declared, or has been set
pub data Status : Type 0 where
  dec : Status
  init : Status

-- what a name stands for: a variable with its status, type and slot; or a function with its number, the types of its parameters and its result type
pub data Named : Type 0 where
  variable : Status → ValueType → (slot : ℕ) → Named
  function : (number : ℕ) → List ValueType → ValueType → Named

pub record Binding : Type 0 where
  pub name : ℕ
  pub named : Named

abbrev pub bind : ℕ → Named → Binding
bind x n = record { name = x; named = n }

-- a scope's names, the newest first; each scope is that of one frame, the program's or a function's
abbrev pub Scope : Type 0
Scope = List Binding

abbrev pub Env : Type 0
Env = List Scope

-- what a name stands for in one scope
abbrev pub find : ℕ → Scope → Option Named
find x [] = None
find x (b ∷ scope) = cond (b.name == x) (Some b.named) (find x scope)

-- a name found some hops off
pub record Found : Type 0 where
  pub hops : ℕ
  pub named : Named

abbrev pub outward : Option Found → Option Found
outward None = None
outward (Some f) = Some (record { hops = f.hops + 1; named = f.named })

abbrev pub or_outward : Option Named → Option Found → Option Found
or_outward (Some n) further = Some (record { hops = 0; named = n })
or_outward None further = outward further

-- lookup goes outward, and a name may hide an outer one; the host's three names lie outside all scopes
abbrev pub lookup : ℕ → Env → Option Found
lookup x [] = None
lookup x (scope ∷ env) = or_outward (find x scope) (lookup x env)

abbrev pub found : ℕ → Named → Option Found
found hops named = Some (record { hops = hops; named = named })

-- a name enters the innermost scope
abbrev pub enter : ℕ → Named → Env → Env
enter x n [] = []
enter x n (scope ∷ env) = (bind x n ∷ scope) ∷ env

-- a variable that is set
abbrev pub initialised : Named → Named
initialised (variable s t k) = variable init t k
initialised (function n ts t) = function n ts t

abbrev pub set_in : ℕ → Scope → Scope
set_in x [] = []
set_in x (b ∷ scope) = cond (b.name == x) (bind b.name (initialised b.named) ∷ scope) (b ∷ set_in x scope)

-- the innermost scope that has the name is the one where it is set
abbrev pub is_there : Option Named → Bool
is_there None = false
is_there (Some n) = true

abbrev pub set : ℕ → Env → Env
set x [] = []
set x (scope ∷ env) = cond (is_there (find x scope)) (set_in x scope ∷ env) (scope ∷ set x env)

-- after two branches a variable is set where both leave it set
abbrev pub worse : Status → Status → Status
worse dec s = dec
worse init s = s

abbrev pub choose_named : Named → Named → Named
choose_named (variable s t k) (variable s' t' k') = variable (worse s s') t k
choose_named (variable s t k) (function n ts r) = variable s t k
choose_named (function n ts r) m = function n ts r

abbrev pub choose_scope : Scope → Scope → Scope
choose_scope [] scope = []
choose_scope (b ∷ bs) [] = []
choose_scope (b ∷ bs) (c ∷ cs) = bind b.name (choose_named b.named c.named) ∷ choose_scope bs cs

abbrev pub choose : Env → Env → Env
choose [] env = []
choose (s ∷ env) [] = []
choose (s ∷ env) (s' ∷ env') = choose_scope s s' ∷ choose env env'
