-- What is shown of tables and trees. Assumes nothing.
use Rattle.std.specs.Prelude.{◌≡◌, ℕ, ◌<◌, List, length, Result}
use Rattle.language.specs.declared.faults.Fault.{Fault}
use Rattle.table.specs.declared.nodes.Node.{Node}
use Rattle.table.specs.Tree.{Program}
use Rattle.table.specs.Layout.{layout, LaidOut}
use Rattle.table.specs.Listed.{node_at, AllListed, Lowest}
use Rattle.table.specs.Answers.{Sized, fault, Refused, Answer}

-- every node of a table is as listed just when some tree lays the table out
abbrev pub ListedJustWhenLaidOut : Type 0
ListedJustWhenLaidOut = (table : List Node) → 0 < length table → (AllListed table → LaidOut table) × (LaidOut table → AllListed table)

-- a table is laid out by one tree at most
abbrev pub OneTree : Type 0
OneTree = (t u : Program) → layout t ≡ layout u → t ≡ u

-- a table of a table's length is refused just at its lowest node that is not as listed
abbrev pub RefusedAtLowest : Type 0
RefusedAtLowest =
    (table : List Node) (f : Fault) → Sized table →
    (Refused table f → (i : ℕ) × Lowest table i × (f ≡ fault (node_at table i).place)) ×
    ((i : ℕ) × Lowest table i × (f ≡ fault (node_at table i).place) → Refused table f)

-- no table has two answers
abbrev pub OneAnswer : Type 0
OneAnswer = (table : List Node) (r s : Result (Unit {0}) Fault) → Answer table r → Answer table s → r ≡ s
