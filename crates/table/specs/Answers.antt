-- What the check of a table answers. Assumes nothing.
use Rattle.std.specs.Prelude.{ℕ, ◌≤◌, List, length, Ok, Err, Result}
use Rattle.language.specs.declared.faults.Cause.TheVariants as causes
use Rattle.language.specs.declared.faults.Fault.{Fault}
use Rattle.table.specs.declared.nodes.Node.{Node}
use Rattle.table.specs.Layout.{LaidOut}
use Rattle.table.specs.Listed.{node_at, Lowest}

-- a table has 1 to 4,096 nodes
abbrev pub Sized : List Node → Type 0
Sized table = (1 ≤ length table) × (length table ≤ 4_096)

-- a fault of the table, at a place
abbrev pub fault : ℕ → Fault
fault place = record { cause = causes.Table; place = place }

-- why a table is refused: its length is no table's, at place 0; or else the lowest node that is not as listed, at that node's place
pub data Refused (table : List Node) : Fault → Type 0 where
  length-is-none : (Sized table → ⊥) → Refused table (fault 0)
  node-is-bad : (i : ℕ) → Sized table → Lowest table i → Refused table (fault (node_at table i).place)

-- a table is accepted just when some tree lays it out
abbrev pub Answer : List Node → Result (Unit {0}) Fault → Type 0
Answer table (Ok _) = Sized table × LaidOut table
Answer table (Err f) = Refused table f
