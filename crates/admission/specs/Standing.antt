-- What the names in open scopes and the innermost scope stand for. Assumes nothing.
use Rattle.std.specs.Prelude.{◌≡◌, ◌≤◌, List, take, Ok, Err, Result}
use Rattle.language.specs.declared.faults.Fault.{Fault}
use Rattle.table.specs.declared.nodes.Node.{Node}
use Rattle.walk.specs.Known.{seen}
use Rattle.walk.specs.Programs.{Scope as Walked}
use Rattle.admission.specs.declared.scopes.Names.{Names}

-- the names below the height, with the innermost scope's frame
abbrev pub scope_of : List Node → Names → Walked
scope_of table names = record {
  env = seen table (take names.scope.height names.entries) names.scope.level;
  floor = names.scope.floor;
  slots = names.scope.slots;
  flags = names.scope.flags.set;
}

-- what came out is the walk's answer
abbrev pub GaveScope : {A : Type 0} → List Node → Result A Fault → Names → Result Walked Fault → Type 0
GaveScope table (Ok a) names answer = answer ≡ Ok (scope_of table names)
GaveScope table (Err e) names answer = answer ≡ Err e

-- where nothing is refused, names and slots were only added
abbrev pub Widened : {A : Type 0} → Result A Fault → Names → Names → Type 0
Widened (Ok a) before after =
    (before.scope.height ≤ after.scope.height) × (after.scope.level ≡ before.scope.level) × (take before.scope.height after.entries ≡ take before.scope.height before.entries) × (before.scope.slots ≤ after.scope.slots)
Widened (Err e) before after = Unit {0}
