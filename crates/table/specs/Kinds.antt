-- The seventeen kinds of node: their numbers, what their records may hold, and the class in which each stands as a child. Assumes nothing.
use Rattle.std.specs.Prelude.{ℕ, Bool, cond, ◌&&◌, Some, None, Option, ◌==◌, nat_le}
use Rattle.table.specs.declared.kinds.Kind.{Kind}
use Rattle.table.specs.declared.kinds.Kind.TheVariants as kinds
use Rattle.table.specs.declared.kinds.Class.{Class}
use Rattle.table.specs.declared.kinds.Class.TheVariants as classes
use Rattle.table.specs.declared.kinds.Limits.{Limits}

-- the number that stands for a kind in a record
abbrev pub kind_number : Kind → ℕ
kind_number kinds.Program = 1
kind_number kinds.Variable = 2
kind_number kinds.Function = 3
kind_number kinds.Parameter = 4
kind_number kinds.Body = 5
kind_number kinds.Assignment = 6
kind_number kinds.CallStatement = 7
kind_number kinds.IfStatement = 8
kind_number kinds.Block = 9
kind_number kinds.Integer = 10
kind_number kinds.Truth = 11
kind_number kinds.Read = 12
kind_number kinds.Not = 13
kind_number kinds.Operator = 14
kind_number kinds.IfExpression = 15
kind_number kinds.ValueBlock = 16
kind_number kinds.Call = 17

-- the kind that a number stands for
abbrev pub kind_at : ℕ → Option Kind
kind_at n =
    cond (n == 1) (Some kinds.Program)
    (cond (n == 2) (Some kinds.Variable)
    (cond (n == 3) (Some kinds.Function)
    (cond (n == 4) (Some kinds.Parameter)
    (cond (n == 5) (Some kinds.Body)
    (cond (n == 6) (Some kinds.Assignment)
    (cond (n == 7) (Some kinds.CallStatement)
    (cond (n == 8) (Some kinds.IfStatement)
    (cond (n == 9) (Some kinds.Block)
    (cond (n == 10) (Some kinds.Integer)
    (cond (n == 11) (Some kinds.Truth)
    (cond (n == 12) (Some kinds.Read)
    (cond (n == 13) (Some kinds.Not)
    (cond (n == 14) (Some kinds.Operator)
    (cond (n == 15) (Some kinds.IfExpression)
    (cond (n == 16) (Some kinds.ValueBlock)
    (cond (n == 17) (Some kinds.Call) None))))))))))))))))

-- declarations are variables and functions; statements are assignments, calls that stand alone and ifs; a program is never a child
abbrev pub class_of : Kind → Class
class_of kinds.Program = classes.Other
class_of kinds.Variable = classes.Declaration
class_of kinds.Function = classes.Declaration
class_of kinds.Parameter = classes.Parameter
class_of kinds.Body = classes.Body
class_of kinds.Assignment = classes.Statement
class_of kinds.CallStatement = classes.Statement
class_of kinds.IfStatement = classes.Statement
class_of kinds.Block = classes.Block
class_of kinds.Integer = classes.Expression
class_of kinds.Truth = classes.Expression
class_of kinds.Read = classes.Expression
class_of kinds.Not = classes.Expression
class_of kinds.Operator = classes.Expression
class_of kinds.IfExpression = classes.Expression
class_of kinds.ValueBlock = classes.ValueBlock
class_of kinds.Call = classes.Expression

-- a number that stands for no kind is never a child
abbrev pub class_or : Option Kind → Class
class_or (Some k) = class_of k
class_or None = classes.Other

-- sub from low to high, value to most
abbrev pub limits : ℕ → ℕ → ℕ → Limits
limits l h m = record { low = l; high = h; most = m }

-- what sub and value may be: types are 0 void, 1 int, 2 bool, and only a function's may be void; names go to 1,023; where a record has no use for one of the two, it is 0
abbrev pub limits_of : Kind → Limits
limits_of kinds.Program = limits 0 0 0
limits_of kinds.Variable = limits 1 2 1_023
limits_of kinds.Function = limits 0 2 1_023
limits_of kinds.Parameter = limits 1 2 1_023
limits_of kinds.Body = limits 0 0 0
limits_of kinds.Assignment = limits 0 0 1_023
limits_of kinds.CallStatement = limits 0 0 1_023
limits_of kinds.IfStatement = limits 0 0 0
limits_of kinds.Block = limits 0 0 0
limits_of kinds.Integer = limits 0 0 2_147_483_647
limits_of kinds.Truth = limits 0 0 1
limits_of kinds.Read = limits 0 0 1_023
limits_of kinds.Not = limits 0 0 0
limits_of kinds.Operator = limits 1 11 0
limits_of kinds.IfExpression = limits 0 0 0
limits_of kinds.ValueBlock = limits 0 0 0
limits_of kinds.Call = limits 0 0 1_023

-- sub and value keep to the limits
abbrev pub within : Limits → ℕ → ℕ → Bool
within l sub value = nat_le l.low sub && (nat_le sub l.high && nat_le value l.most)
