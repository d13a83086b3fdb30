-- The branch of a tree has at every node the children of its form. Assumes nothing.
use Rattle.std.proofs.Common.{◌≡◌, List, [], ◌∷◌, Some, refl, ap, ◌∙◌}
use Rattle.table.specs.declared.kinds.Class.TheVariants as classes
use Rattle.table.specs.declared.kinds.Form.{Form}
use Rattle.table.specs.declared.kinds.Form.TheVariants as forms
use Rattle.table.specs.Forms.{after}
use Rattle.table.specs.Tree.{Expression, Arguments, Statement, Statements, Block, ValueBlock, Final, Parameter, Declaration, Declarations, Body, Program}
use Rattle.table.specs.Tree.Expression.{integer, truth, read, negation, operation, choice, call}
use Rattle.table.specs.Tree.Arguments.{no_arguments, argument}
use Rattle.table.specs.Tree.Statement.{assignment, call_statement, if_then, if_else}
use Rattle.table.specs.Tree.Statements.{no_statements, statement}
use Rattle.table.specs.Tree.Block.{block}
use Rattle.table.specs.Tree.ValueBlock.{value_block}
use Rattle.table.specs.Tree.Final.{no_final, final}
use Rattle.table.specs.Tree.Parameter.{parameter}
use Rattle.table.specs.Tree.Declaration.{variable, function}
use Rattle.table.specs.Tree.Declarations.{no_declarations, declaration}
use Rattle.table.specs.Tree.Body.{body}
use Rattle.table.specs.Tree.Program.{single, whole}
use Rattle.table.specs.Layout.{Branches, of_expression, of_arguments, of_statement, of_statements, of_block, of_value_block, of_final, of_parameter, of_parameters, of_declaration, of_declarations, of_body, of_program}
use Rattle.table.specs.Layout.Branches.{nil, cons}
use Rattle.table.proofs.Formed.{class_of_branch, Fit, Formed, FormedAll}

-- the class of each
pub expression-class : (e : Expression) → class_of_branch (of_expression e) ≡ classes.Expression
expression-class (integer p n) = refl
expression-class (truth p b) = refl
expression-class (read p x) = refl
expression-class (negation p e) = refl
expression-class (operation p o a b) = refl
expression-class (choice p c a b) = refl
expression-class (call p x es) = refl

pub statement-class : (s : Statement) → class_of_branch (of_statement s) ≡ classes.Statement
statement-class (assignment p x e) = refl
statement-class (call_statement p x es) = refl
statement-class (if_then p c a) = refl
statement-class (if_else p c a b) = refl

pub block-class : (b : Block) → class_of_branch (of_block b) ≡ classes.Block
block-class (block p s ss) = refl

pub value-block-class : (b : ValueBlock) → class_of_branch (of_value_block b) ≡ classes.ValueBlock
value-block-class (value_block p ss e) = refl

pub parameter-class : (q : Parameter) → class_of_branch (of_parameter q) ≡ classes.Parameter
parameter-class (parameter p t x) = refl

pub declaration-class : (d : Declaration) → class_of_branch (of_declaration d) ≡ classes.Declaration
declaration-class (variable p t x) = refl
declaration-class (function p t x qs b) = refl

pub body-class : (b : Body) → class_of_branch (of_body b) ≡ classes.Body
body-class (body p ds ss f) = refl

fit-arguments : (es : Arguments) → Fit forms.Expressions (of_arguments es)
fit-arguments no_arguments = refl
fit-arguments (argument e es) = (forms.Expressions, ap (after forms.Expressions) (expression-class e), (fit-arguments es))

-- statements where any number of them may come
fit-statements : (f : Form) → after f classes.Statement ≡ Some f → (ss : Statements) (others : Branches) → Fit f others → Fit f (of_statements ss others)
fit-statements f a no_statements others fit = fit
fit-statements f a (statement s ss) others fit = (f, ap (after f) (statement-class s) ∙ a, (fit-statements f a ss others fit))

fit-final : (f : Final) → Fit forms.Statements (of_final f)
fit-final no_final = refl
fit-final (final e) = (forms.Nothing, ap (after forms.Statements) (expression-class e), refl)

-- what may follow declarations may follow none of them
fit_row : (ss : Statements) (f : Final) → Fit forms.Declarations (of_statements ss (of_final f))
fit_row no_statements no_final = refl
fit_row no_statements (final e) = (forms.Nothing, ap (after forms.Declarations) (expression-class e), refl)
fit_row (statement s ss) f =
    (forms.Statements, ap (after forms.Declarations) (statement-class s), (fit-statements forms.Statements refl ss (of_final f) (fit-final f)))

fit-declarations : (ds : Declarations) (others : Branches) → Fit forms.Declarations others → Fit forms.Declarations (of_declarations ds others)
fit-declarations no_declarations others fit = fit
fit-declarations (declaration d ds) others fit =
    (forms.Declarations, ap (after forms.Declarations) (declaration-class d), (fit-declarations ds others fit))

fit-parameters : (qs : List Parameter) (b : Body) → Fit forms.Parameters (of_parameters qs (cons (of_body b) nil))
fit-parameters [] b = (forms.Nothing, ap (after forms.Parameters) (body-class b), refl)
fit-parameters (q ∷ qs) b = (forms.Parameters, ap (after forms.Parameters) (parameter-class q), (fit-parameters qs b))

fit-one : (e : Expression) → Fit forms.OneExpression (cons (of_expression e) nil)
fit-one e = (forms.Nothing, ap (after forms.OneExpression) (expression-class e), refl)

mutual
  pub formed-expression : (e : Expression) → Formed (of_expression e)
  formed-expression (integer p n) = (refl, tt)
  formed-expression (truth p b) = (refl, tt)
  formed-expression (read p x) = (refl, tt)
  formed-expression (negation p e) = (fit-one e, (formed-expression e, tt))
  formed-expression (operation p o a b) = (
    (forms.OneExpression, ap (after forms.TwoExpressions) (expression-class a), (fit-one b)),
    (formed-expression a, (formed-expression b, tt)),
  )
  formed-expression (choice p c a b) = (
    (forms.TwoValueBlocks, ap (after forms.Choice) (expression-class c), (forms.OneValueBlock, ap (after forms.TwoValueBlocks) (value-block-class a), (forms.Nothing, ap (after forms.OneValueBlock) (value-block-class b), refl))),
    (formed-expression c, (formed-value-block a, (formed-value-block b, tt))),
  )
  formed-expression (call p x es) = (fit-arguments es, formed-arguments es)

  formed-arguments : (es : Arguments) → FormedAll (of_arguments es)
  formed-arguments no_arguments = tt
  formed-arguments (argument e es) = (formed-expression e, formed-arguments es)

  pub formed-statement : (s : Statement) → Formed (of_statement s)
  formed-statement (assignment p x e) = (fit-one e, (formed-expression e, tt))
  formed-statement (call_statement p x es) = (fit-arguments es, formed-arguments es)
  formed-statement (if_then p c a) = (
    (forms.FirstBlock, ap (after forms.Condition) (expression-class c), (forms.SecondBlock, ap (after forms.FirstBlock) (block-class a), refl)),
    (formed-expression c, (formed-block a, tt)),
  )
  formed-statement (if_else p c a b) = (
    (forms.FirstBlock, ap (after forms.Condition) (expression-class c), (forms.SecondBlock, ap (after forms.FirstBlock) (block-class a), (forms.Nothing, ap (after forms.SecondBlock) (block-class b), refl))),
    (formed-expression c, (formed-block a, (formed-block b, tt))),
  )

  formed-statements : (ss : Statements) (others : Branches) → FormedAll others → FormedAll (of_statements ss others)
  formed-statements no_statements others f = f
  formed-statements (statement s ss) others f = (formed-statement s, formed-statements ss others f)

  formed-block : (b : Block) → Formed (of_block b)
  formed-block (block p s ss) = (
    (forms.OnlyStatements, ap (after forms.SomeStatements) (statement-class s), (fit-statements forms.OnlyStatements refl ss nil refl)),
    (formed-statement s, formed-statements ss nil tt),
  )

  formed-value-block : (b : ValueBlock) → Formed (of_value_block b)
  formed-value-block (value_block p ss e) = (
    fit-statements forms.Value refl ss (cons (of_expression e) nil) ((forms.Nothing, ap (after forms.Value) (expression-class e), refl)),
    formed-statements ss (cons (of_expression e) nil) (formed-expression e, tt),
  )

formed-final : (f : Final) → FormedAll (of_final f)
formed-final no_final = tt
formed-final (final e) = (formed-expression e, tt)

formed-parameters : (qs : List Parameter) (others : Branches) → FormedAll others → FormedAll (of_parameters qs others)
formed-parameters [] others f = f
formed-parameters (parameter p t x ∷ qs) others f = ((refl, tt), formed-parameters qs others f)

mutual
  formed-declaration : (d : Declaration) → Formed (of_declaration d)
  formed-declaration (variable p t x) = (refl, tt)
  formed-declaration (function p t x qs b) = (fit-parameters qs b, formed-parameters qs (cons (of_body b) nil) (formed-body b, tt))

  formed-declarations : (ds : Declarations) (others : Branches) → FormedAll others → FormedAll (of_declarations ds others)
  formed-declarations no_declarations others f = f
  formed-declarations (declaration d ds) others f = (formed-declaration d, formed-declarations ds others f)

  formed-body : (b : Body) → Formed (of_body b)
  formed-body (body p ds ss f) = (
    fit-declarations ds (of_statements ss (of_final f)) (fit_row ss f),
    formed-declarations ds (of_statements ss (of_final f)) (formed-statements ss (of_final f) (formed-final f)),
  )

pub formed-program : (t : Program) → Formed (of_program t)
formed-program (single p e) = ((forms.Nothing, ap (after forms.Whole) (expression-class e), refl), (formed-expression e, tt))
formed-program (whole p d ds ss f) = (
  (forms.Declarations, ap (after forms.Whole) (declaration-class d), (fit-declarations ds (of_statements ss (of_final f)) (fit_row ss f))),
  formed-declarations (declaration d ds) (of_statements ss (of_final f)) (formed-statements ss (of_final f) (formed-final f)),
)
