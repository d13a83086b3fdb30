-- Which children a node has, by its kind: a form says what is still to come, and each child takes it one step on. Assumes nothing.
use Rattle.std.specs.Prelude.{ℕ, Bool, true, false, cond, Some, None, Option, ◌==◌}
use Rattle.table.specs.declared.kinds.Kind.{Kind}
use Rattle.table.specs.declared.kinds.Kind.TheVariants as kinds
use Rattle.table.specs.declared.kinds.Class.{Class}
use Rattle.table.specs.declared.kinds.Class.TheVariants.{Declaration, Parameter, Body, Statement, Block, Expression, ValueBlock, Other}
use Rattle.table.specs.declared.kinds.Form.{Form}
use Rattle.table.specs.declared.kinds.Form.TheVariants.{Nothing, OneExpression, TwoExpressions, Expressions, Whole, Declarations, Statements, Parameters, Condition, FirstBlock, SecondBlock, SomeStatements, OnlyStatements, Choice, TwoValueBlocks, OneValueBlock, Value}

-- the children of each kind
abbrev pub form_of : Kind → Form
form_of kinds.Program = Whole
form_of kinds.Variable = Nothing
form_of kinds.Function = Parameters
form_of kinds.Parameter = Nothing
form_of kinds.Body = Declarations
form_of kinds.Assignment = OneExpression
form_of kinds.CallStatement = Expressions
form_of kinds.IfStatement = Condition
form_of kinds.Block = SomeStatements
form_of kinds.Integer = Nothing
form_of kinds.Truth = Nothing
form_of kinds.Read = Nothing
form_of kinds.Not = OneExpression
form_of kinds.Operator = TwoExpressions
form_of kinds.IfExpression = Choice
form_of kinds.ValueBlock = Value
form_of kinds.Call = Expressions

-- a number for each class, to tell them apart
abbrev pub class_number : Class → ℕ
class_number Declaration = 1
class_number Parameter = 2
class_number Body = 3
class_number Statement = 4
class_number Block = 5
class_number Expression = 6
class_number ValueBlock = 7
class_number Other = 8

-- a child of the wanted class leads to a form; for another child something else counts
abbrev pub on : Class → Class → Form → Option Form → Option Form
on child wanted form otherwise = cond (class_number child == class_number wanted) (Some form) otherwise

-- what is to come after one more child, if that child may come here
abbrev pub after : Form → Class → Option Form
after Nothing c = None
after OneExpression c = on c Expression Nothing None
after TwoExpressions c = on c Expression OneExpression None
after Expressions c = on c Expression Expressions None
after Whole c = on c Expression Nothing (on c Declaration Declarations None)
after Declarations c = on c Declaration Declarations (on c Statement Statements (on c Expression Nothing None))
after Statements c = on c Statement Statements (on c Expression Nothing None)
after Parameters c = on c Parameter Parameters (on c Body Nothing None)
after Condition c = on c Expression FirstBlock None
after FirstBlock c = on c Block SecondBlock None
after SecondBlock c = on c Block Nothing None
after SomeStatements c = on c Statement OnlyStatements None
after OnlyStatements c = on c Statement OnlyStatements None
after Choice c = on c Expression TwoValueBlocks None
after TwoValueBlocks c = on c ValueBlock OneValueBlock None
after OneValueBlock c = on c ValueBlock Nothing None
after Value c = on c Statement Value (on c Expression Nothing None)

-- no more need come
abbrev pub complete : Form → Bool
complete Nothing = true
complete OneExpression = false
complete TwoExpressions = false
complete Expressions = true
complete Whole = false
complete Declarations = true
complete Statements = true
complete Parameters = false
complete Condition = false
complete FirstBlock = false
complete SecondBlock = true
complete SomeStatements = false
complete OnlyStatements = true
complete Choice = false
complete TwoValueBlocks = false
complete OneValueBlock = false
complete Value = false
