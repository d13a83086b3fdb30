-- The names in open scopes, in the order in which they entered, and lookup among them. Assumes nothing.
use Rattle.std.specs.Prelude.{ℕ, zero, suc, ◌+◌, ◌-◌, ◌*◌, cond, List, [], ◌∷◌, length, Some, None, Ok, Err, Option, Result, ◌==◌, slice_index_or}
use Rattle.language.specs.declared.faults.Fault.{Fault}
use Rattle.language.specs.declared.faults.WalkRefusal.TheVariants.{Undeclared, WrongKind}
use Rattle.language.specs.declared.values.ValueType.{ValueType}
use Rattle.language.specs.declared.values.ValueType.TheVariants.{Void, Int, Bool as Truths}
use Rattle.walk.specs.declared.codes.Instr.{Instr}
use Rattle.walk.specs.declared.names.Variable.{Variable}
use Rattle.walk.specs.Bind.{refusal}
use Rattle.walk.specs.Lay.{laid}

-- what a name stands for: a variable, with its type and its slot in its frame; a function, with its result type, the types of its parameters and the number of its entry's code; or one of the host's three
pub data Thing : Type 0 where
  variable : ValueType → (slot : ℕ) → Thing
  function : ValueType → List ValueType → (entry : ℕ) → Thing
  amount : Thing
  flag : Thing
  post : Thing

-- a name, with the level of the frame that declared it: 0 for the program's, one more for each function around
pub record Named : Type 0 where
  pub name : ℕ
  pub level : ℕ
  pub thing : Thing

abbrev pub named : ℕ → ℕ → Thing → Named
named x l t = record { name = x; level = l; thing = t }

-- what stands past the end of the list
abbrev pub nobody : Named
nobody = named 0 0 amount

-- the host's three, which come first
abbrev pub hosts : List Named
hosts = named 0 0 amount ∷ named 1 0 flag ∷ named 2 0 post ∷ []

-- all names in open scopes, the newest last, and the level of the frame that the walk is in
pub record Env : Type 0 where
  pub names : List Named
  pub level : ℕ

-- the newest among so many that has a name
abbrev pub newest : (ℕ → ℕ) → ℕ → ℕ → Option ℕ
newest name_at zero x = None
newest name_at (suc k) x = cond (name_at k == x) (Some k) (newest name_at k x)

-- the entry with an index
abbrev pub entry : Env → ℕ → Named
entry env k = slice_index_or env.names k nobody

-- lookup goes outward: the newest entry counts
abbrev pub lookup : Env → ℕ → Option ℕ
lookup env x = newest (λ k. (entry env k).name) (length env.names) x

abbrev pub declared : ℕ → Option ℕ → Result ℕ Fault
declared p (Some k) = Ok k
declared p None = Err (refusal p Undeclared)

-- the index of a name that must be declared
abbrev pub found : ℕ → Env → ℕ → Result ℕ Fault
found p env x = declared p (lookup env x)

abbrev pub wrong_kind : {A : Type 0} → ℕ → Result A Fault
wrong_kind p = Err (refusal p WrongKind)

-- what is read or assigned must be a variable
abbrev pub variable_in : ℕ → ℕ → Thing → Result Variable Fault
variable_in p l (variable t s) = Ok (record { typed = t; level = l; slot = s })
variable_in p l (function t qs k) = wrong_kind p
variable_in p l amount = wrong_kind p
variable_in p l flag = wrong_kind p
variable_in p l post = wrong_kind p

abbrev pub as_variable : ℕ → Named → Result Variable Fault
as_variable p n = variable_in p n.level n.thing

-- what is called must be no variable
abbrev pub callable : ℕ → Thing → Result (Unit {0}) Fault
callable p (variable t s) = wrong_kind p
callable p (function t qs k) = Ok tt
callable p amount = Ok tt
callable p flag = Ok tt
callable p post = Ok tt

-- the operand of a read or an assignment: the hops to the frame that declared the variable, and its slot there
abbrev pub operand_of : ℕ → Variable → ℕ
operand_of level v = 256 * (level - v.level) + v.slot

-- the result of a call
abbrev pub result_of : Thing → ValueType
result_of (variable t s) = Void
result_of (function t qs k) = t
result_of amount = Int
result_of flag = Truths
result_of post = Void

-- the types of the parameters
abbrev pub parameters_of : Thing → List ValueType
parameters_of (variable t s) = []
parameters_of (function t qs k) = qs
parameters_of amount = Int ∷ []
parameters_of flag = Int ∷ []
parameters_of post = Int ∷ Int ∷ []

-- a call of a function begins with links, to the frame that declared it; one of the host's does not
abbrev pub opened : ℕ → ℕ → Thing → List Instr → List Instr
opened level l (variable t s) code = code
opened level l (function t qs k) code = laid code 20 (level - l)
opened level l amount code = code
opened level l flag code = code
opened level l post code = code

-- and ends with the call itself
abbrev pub closed : Thing → List Instr → List Instr
closed (variable t s) code = code
closed (function t qs k) code = laid code 21 k
closed amount code = laid code 24 0
closed flag code = laid code 25 0
closed post code = laid code 26 0
