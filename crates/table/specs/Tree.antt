-- The trees that tables lay out. Every node has its place; names are numbers. Limits on names and integers, and that no variable is void, are not part of the trees: a tree keeps to them where all its records do (Layout). Assumes nothing.
use Rattle.std.specs.Prelude.{ℕ, Bool, List}
use Rattle.language.specs.declared.values.ValueType.{ValueType}
use Rattle.language.specs.declared.values.Operator.{Operator}

-- expressions and statements hold each other, since value blocks hold statements
mutual
  pub data Expression : Type 0 where
    integer : (place value : ℕ) → Expression
    truth : (place : ℕ) (value : Bool) → Expression
    read : (place name : ℕ) → Expression
    negation : (place : ℕ) → Expression → Expression
    operation : (place : ℕ) → Operator → Expression → Expression → Expression
    -- an if with a value: condition, the block for true, the block for false
    choice : (place : ℕ) → Expression → ValueBlock → ValueBlock → Expression
    call : (place name : ℕ) → Arguments → Expression

  -- the arguments of a call, in their order
  pub data Arguments : Type 0 where
    no_arguments : Arguments
    argument : Expression → Arguments → Arguments

  pub data Statement : Type 0 where
    assignment : (place name : ℕ) → Expression → Statement
    -- a call whose result, if any, is dropped
    call_statement : (place name : ℕ) → Arguments → Statement
    -- an if with no else, and one with
    if_then : (place : ℕ) → Expression → Block → Statement
    if_else : (place : ℕ) → Expression → Block → Block → Statement

  -- statements in their order
  pub data Statements : Type 0 where
    no_statements : Statements
    statement : Statement → Statements → Statements

  -- one or more statements
  pub data Block : Type 0 where
    block : (place : ℕ) → Statement → Statements → Block

  -- statements, then the expression whose value the block has
  pub data ValueBlock : Type 0 where
    value_block : (place : ℕ) → Statements → Expression → ValueBlock

-- at most one expression, which ends a body or a program
pub data Final : Type 0 where
  no_final : Final
  final : Expression → Final

pub data Parameter : Type 0 where
  parameter : (place : ℕ) → ValueType → (name : ℕ) → Parameter

-- functions hold bodies, and bodies hold declarations
mutual
  pub data Declaration : Type 0 where
    variable : (place : ℕ) → ValueType → (name : ℕ) → Declaration
    -- result type, name, parameters, body
    function : (place : ℕ) → ValueType → (name : ℕ) → List Parameter → Body → Declaration

  -- declarations in their order
  pub data Declarations : Type 0 where
    no_declarations : Declarations
    declaration : Declaration → Declarations → Declarations

  pub data Body : Type 0 where
    body : (place : ℕ) → Declarations → Statements → Final → Body

-- one expression; or declarations, one or more, then statements, then at most one expression
pub data Program : Type 0 where
  single : (place : ℕ) → Expression → Program
  whole : (place : ℕ) → Declaration → Declarations → Statements → Final → Program
