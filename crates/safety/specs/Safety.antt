-- Safety: a rule set that the typing rules give a type never comes to trouble, and its value is of that type. Assumes nothing.
use Rattle.std.specs.Prelude.{ℕ, Bool as Truths, ℤ, Some, None, Option}
use Rattle.language.specs.declared.values.Value.{Value}
use Rattle.language.specs.declared.values.Value.TheVariants.{Number, Truth}
use Rattle.language.specs.declared.values.ValueType.{ValueType}
use Rattle.language.specs.declared.values.ValueType.TheVariants.{Void, Int, Bool}
use Rattle.host.specs.Meaning.{Meaning}
use Rattle.host.specs.Serves.{Serves, by_meaning}
use Rattle.table.specs.Tree.{Program}
use Rattle.rules.specs.Resolved.{Rules}
use Rattle.rules.specs.Evaluate.{Eval, evaluated}
use Rattle.rules.specs.Evaluate.Eval.{done, stopped, trouble, too_deep}
use Rattle.typing.specs.Rules.{IsTyped}

-- what a type promises: nothing for void, a number for int, a truth value for bool
pub data Is : ValueType → Option Value → Type 0 where
  nothing : Is Void None
  number : {z : ℤ} → Is Int (Some (Number z))
  truth : {b : Truths} → Is Bool (Some (Truth b))

-- evaluation comes out as the type promises: with a value of the type, at a stop, or too deep, and never in trouble
abbrev pub Keeps : {S : Type 0} → ValueType → Eval S (Option Value) → Type 0
Keeps t (done v env s) = Is t v
Keeps t (stopped c p s) = Unit {0}
Keeps t trouble = ⊥
Keeps t too_deep = Unit {0}

-- with a host of some kind: every program that has a type, at every bound on the depth of calls and from every state of the host
abbrev pub SafeWith : (S : Type 0) → Serves S → Type 0
SafeWith S ops = (program : Program) (t : ValueType) (r : Rules) → IsTyped program t r → (depth : ℕ) (s : S) → Keeps t (evaluated ops r depth s)

-- with every host, by its meaning
abbrev pub Safe : Type 0
Safe = SafeWith Meaning by_meaning
