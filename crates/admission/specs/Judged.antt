-- The verdict on a table. Assumes nothing.
use Rattle.std.specs.Prelude.{◌≡◌, List, [], Ok, Err, Result}
use Rattle.language.specs.declared.faults.Fault.{Fault}
use Rattle.language.specs.declared.values.ValueType.{ValueType}
use Rattle.table.specs.declared.nodes.Node.{Node}
use Rattle.table.specs.Tree.{Program}
use Rattle.table.specs.Layout.{WithinLimits, layout}
use Rattle.table.specs.Answers.{Sized, Refused}
use Rattle.walk.specs.declared.codes.Instr.{Instr}
use Rattle.walk.specs.declared.codes.Code.{Code}
use Rattle.walk.specs.Lay.{live}
use Rattle.walk.specs.Programs.{walk_program}

-- the verdict on a table: its type and its code, or why it is refused
abbrev pub Verdict : Type 0
Verdict = Result (ValueType × List Instr) Fault

-- the table's own fault, or the walk's answer for the one tree that lays the table out
pub data Judged (table : List Node) : Verdict → Type 0 where
  refused_table : (f : Fault) → Refused table f → Judged table (Err f)
  walked : (p : Program) → WithinLimits p → layout p ≡ table → Sized table → Judged table (walk_program p)

-- what the code answers, with the code that it has laid
abbrev pub verdict_of : Result ValueType Fault → Code → Verdict
verdict_of (Ok t) code = Ok (t, live code)
verdict_of (Err f) code = Err f

-- a refusal leaves nothing laid
abbrev pub BareWhereRefused : Result ValueType Fault → Code → Type 0
BareWhereRefused (Ok t) code = Unit {0}
BareWhereRefused (Err f) code = live code ≡ []
