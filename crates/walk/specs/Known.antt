-- What the code's entries, parameters and tallies stand for over a table. Assumes nothing.
use Rattle.std.specs.Prelude.{◌≡◌, ℕ, ◌+◌, ◌<◌, ◌≤◌, Bool, true, false, cond, List, [], ◌∷◌, map, drop, Some, None, Ok, Err, Option, Result, slice_index_or}
use Rattle.language.specs.declared.faults.Fault.{Fault}
use Rattle.language.specs.declared.values.ValueType.{ValueType}
use Rattle.language.specs.declared.values.ValueType.TheVariants.{Void, Int}
use Rattle.language.specs.Numbers.{type_at}
use Rattle.table.specs.declared.nodes.Node.{Node}
use Rattle.table.specs.declared.kinds.Class.{Class}
use Rattle.table.specs.declared.kinds.Class.TheVariants as classes
use Rattle.table.specs.Kinds.{kind_at, class_or}
use Rattle.walk.specs.declared.names.What.{What}
use Rattle.walk.specs.declared.names.What.TheVariants as whats
use Rattle.walk.specs.declared.names.Entry.{Entry}
use Rattle.walk.specs.declared.names.Parameters.{Parameters}
use Rattle.walk.specs.declared.names.Parameters.TheVariants as parameters
use Rattle.walk.specs.declared.names.Tally.{Tally}
use Rattle.walk.specs.Scopes.{Thing, Named, named, Env}
use Rattle.walk.specs.Scopes.Thing.{variable, function, amount, flag, post}
use Rattle.walk.specs.Types.{Tallied, tallied}

-- the type that a number stands for, or void
abbrev pub type_in : Option ValueType → ValueType
type_in (Some t) = t
type_in None = Void

abbrev pub type_or : ℕ → ValueType
type_or n = type_in (type_at n)

abbrev pub is_parameter : Class → Bool
is_parameter classes.Declaration = false
is_parameter classes.Parameter = true
is_parameter classes.Body = false
is_parameter classes.Statement = false
is_parameter classes.Block = false
is_parameter classes.Expression = false
is_parameter classes.ValueBlock = false
is_parameter classes.Other = false

-- the types of the parameters that a row of nodes begins with
abbrev pub leading : List Node → List ValueType
leading [] = []
leading (n ∷ ns) = cond (is_parameter (class_or (kind_at n.kind))) (type_or n.sub ∷ leading ns) []

-- a function's parameters are read from the table
abbrev pub thing_of : List Node → What → Thing
thing_of table (whats.Variable t s) = variable t s
thing_of table (whats.Function t first k) = function t (leading (drop first table)) k
thing_of table whats.Amount = amount
thing_of table whats.Flag = flag
thing_of table whats.Post = post

abbrev pub known : List Node → Entry → Named
known table e = named e.name e.level (thing_of table e.what)

-- the names that the code has
abbrev pub seen : List Node → List Entry → ℕ → Env
seen table entries level = record { names = map (known table) entries; level = level }

-- what stands past the end of the entries
abbrev pub no_entry : Entry
no_entry = record { name = 0; level = 0; what = whats.Variable Void 0 }

abbrev pub name_at : List Entry → ℕ → ℕ
name_at entries k = (slice_index_or entries k no_entry).name

-- an index that was found is one of so many
abbrev pub Below : Option ℕ → ℕ → Type 0
Below (Some k) n = k < n
Below None n = Unit {0}

abbrev pub FoundBelow : Result ℕ Fault → ℕ → Type 0
FoundBelow (Ok k) n = k < n
FoundBelow (Err e) n = Unit {0}

-- the parameters that are still to come
abbrev pub comes : List Node → Parameters → List ValueType
comes table (parameters.Listed k) = leading (drop k table)
comes table parameters.NoInts = []
comes table parameters.OneInt = Int ∷ []
comes table parameters.TwoInts = Int ∷ Int ∷ []

-- the next of them and the others, or none
abbrev pub Coming : List Node → Parameters → Option (ValueType × Parameters) → Type 0
Coming table p None = comes table p ≡ []
Coming table p (Some q) = comes table p ≡ q.0 ∷ comes table q.1

abbrev pub tally_of : List Node → Tally → Tallied
tally_of table y = tallied (comes table y.left) y.surplus y.matched

-- at most one instruction was laid
abbrev pub AtMostOne : ℕ → ℕ → Type 0
AtMostOne before after = (before ≤ after) × (after ≤ before + 1)
