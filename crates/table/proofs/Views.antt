-- What a tree is, by the kind of the node at which a table has it: one lemma for each kind, for those who read the table node by node. Assumes nothing.
use Rattle.std.proofs.Common.{◌≡◌, ℕ, ◌+◌, ◌<◌, ◌≤◌, Bool, ◌⊎◌, List, Some, None, sym, refl, ap, ◌∙◌, subst, inl, inr, arith}
use Rattle.language.specs.declared.values.ValueType.{ValueType}
use Rattle.language.specs.declared.values.Operator.{Operator}
use Rattle.table.specs.declared.kinds.Kind.{Kind}
use Rattle.table.specs.declared.kinds.Kind.TheVariants as kinds
use Rattle.table.specs.declared.kinds.Class.TheVariants as classes
use Rattle.table.specs.declared.nodes.Node.{Node}
use Rattle.table.specs.Kinds.{kind_at, class_of}
use Rattle.table.specs.Listed.{node_at, end_at}
use Rattle.table.specs.Tree.{Expression, Arguments, Statement, Statements, Block, ValueBlock, Final, Parameter, Declaration, Declarations, Body}
use Rattle.table.specs.Tree.Expression.{integer, truth, read, negation, operation, choice, call}
use Rattle.table.specs.Tree.Statement.{assignment, call_statement, if_then, if_else}
use Rattle.table.specs.Tree.Block.{block}
use Rattle.table.specs.Tree.ValueBlock.{value_block}
use Rattle.table.specs.Tree.Parameter.{parameter}
use Rattle.table.specs.Tree.Declaration.{variable, function}
use Rattle.table.specs.Tree.Body.{body}
use Rattle.table.specs.Layout.{Branch, of_expression, of_statement, of_block, of_declaration}
use Rattle.table.specs.Layout.Branch.{branch}
use Rattle.table.specs.Lays.{Lays}
use Rattle.std.proofs.lemmas.Option.{none-some, same_Some}
use Rattle.table.proofs.Numbered.{kind-back}
use Rattle.table.proofs.Placed.{lays-rises}

-- the kind of a branch
abbrev pub kind_of : Branch → Kind
kind_of (branch k s v p bs) = k

-- it is that of the node where the table has the branch
pub kind-at : (b : Branch) (table : List Node) (i : ℕ) (k : Kind) → Lays b table i → kind_at (node_at table i).kind ≡ Some k → kind_of b ≡ k
kind-at (branch j s v p bs) table i k l e = same_Some _ _ (sym (kind-back j) ∙ sym (ap kind_at l.1) ∙ e)

-- expressions by kind
pub data ExpressionOf : Kind → Expression → Type 0 where
  an-integer : {p n : ℕ} → ExpressionOf kinds.Integer (integer p n)
  a-truth : {p : ℕ} {b : Bool} → ExpressionOf kinds.Truth (truth p b)
  a_read : {p x : ℕ} → ExpressionOf kinds.Read (read p x)
  a-negation : {p : ℕ} {a : Expression} → ExpressionOf kinds.Not (negation p a)
  an-operation : {p : ℕ} {o : Operator} {a b : Expression} → ExpressionOf kinds.Operator (operation p o a b)
  a-choice : {p : ℕ} {c : Expression} {a b : ValueBlock} → ExpressionOf kinds.IfExpression (choice p c a b)
  a_call : {p x : ℕ} {es : Arguments} → ExpressionOf kinds.Call (call p x es)

pub expression-of : (e : Expression) → ExpressionOf (kind_of (of_expression e)) e
expression-of (integer p n) = an-integer
expression-of (truth p b) = a-truth
expression-of (read p x) = a_read
expression-of (negation p a) = a-negation
expression-of (operation p o a b) = an-operation
expression-of (choice p c a b) = a-choice
expression-of (call p x es) = a_call

-- statements by kind
pub data StatementOf : Kind → Statement → Type 0 where
  an-assignment : {p x : ℕ} {e : Expression} → StatementOf kinds.Assignment (assignment p x e)
  a-call-statement : {p x : ℕ} {es : Arguments} → StatementOf kinds.CallStatement (call_statement p x es)
  an-if-then : {p : ℕ} {c : Expression} {a : Block} → StatementOf kinds.IfStatement (if_then p c a)
  an-if-else : {p : ℕ} {c : Expression} {a b : Block} → StatementOf kinds.IfStatement (if_else p c a b)

pub statement-of : (s : Statement) → StatementOf (kind_of (of_statement s)) s
statement-of (assignment p x e) = an-assignment
statement-of (call_statement p x es) = a-call-statement
statement-of (if_then p c a) = an-if-then
statement-of (if_else p c a b) = an-if-else

-- declarations by kind
pub data DeclarationOf : Kind → Declaration → Type 0 where
  a-variable : {p : ℕ} {t : ValueType} {x : ℕ} → DeclarationOf kinds.Variable (variable p t x)
  a-function : {p : ℕ} {t : ValueType} {x : ℕ} {qs : List Parameter} {b : Body} → DeclarationOf kinds.Function (function p t x qs b)

pub declaration-of : (d : Declaration) → DeclarationOf (kind_of (of_declaration d)) d
declaration-of (variable p t x) = a-variable
declaration-of (function p t x qs b) = a-function

-- each as a tuple, with the equation
pub as-integer : {e : Expression} → ExpressionOf kinds.Integer e → (p n : ℕ) × (e ≡ integer p n)
as-integer (an-integer {p} {n}) = (p, n, refl)

pub as-truth : {e : Expression} → ExpressionOf kinds.Truth e → (p : ℕ) × (b : Bool) × (e ≡ truth p b)
as-truth (a-truth {p} {b}) = (p, b, refl)

pub as_read : {e : Expression} → ExpressionOf kinds.Read e → (p x : ℕ) × (e ≡ read p x)
as_read (a_read {p} {x}) = (p, x, refl)

pub as-negation : {e : Expression} → ExpressionOf kinds.Not e → (p : ℕ) × (a : Expression) × (e ≡ negation p a)
as-negation (a-negation {p} {a}) = (p, a, refl)

pub as-operation : {e : Expression} → ExpressionOf kinds.Operator e → (p : ℕ) × (o : Operator) × (a b : Expression) × (e ≡ operation p o a b)
as-operation (an-operation {p} {o} {a} {b}) = (p, o, a, b, refl)

pub as-choice : {e : Expression} → ExpressionOf kinds.IfExpression e → (p : ℕ) × (c : Expression) × (a b : ValueBlock) × (e ≡ choice p c a b)
as-choice (a-choice {p} {c} {a} {b}) = (p, c, a, b, refl)

pub as_call : {e : Expression} → ExpressionOf kinds.Call e → (p x : ℕ) × (es : Arguments) × (e ≡ call p x es)
as_call (a_call {p} {x} {es}) = (p, x, es, refl)

pub as-assignment : {s : Statement} → StatementOf kinds.Assignment s → (p x : ℕ) × (e : Expression) × (s ≡ assignment p x e)
as-assignment (an-assignment {p} {x} {e}) = (p, x, e, refl)

pub as-call-statement : {s : Statement} → StatementOf kinds.CallStatement s → (p x : ℕ) × (es : Arguments) × (s ≡ call_statement p x es)
as-call-statement (a-call-statement {p} {x} {es}) = (p, x, es, refl)

-- an if has one block or two
abbrev pub IfThen : Statement → Type 0
IfThen s = (p : ℕ) × (c : Expression) × (a : Block) × (s ≡ if_then p c a)

abbrev pub IfElse : Statement → Type 0
IfElse s = (p : ℕ) × (c : Expression) × (a b : Block) × (s ≡ if_else p c a b)

pub as-if : {s : Statement} → StatementOf kinds.IfStatement s → IfThen s ⊎ IfElse s
as-if (an-if-then {p} {c} {a}) = inl (p, c, a, refl)
as-if (an-if-else {p} {c} {a} {b}) = inr (p, c, a, b, refl)

pub as-variable : {d : Declaration} → DeclarationOf kinds.Variable d → (p : ℕ) × (t : ValueType) × (x : ℕ) × (d ≡ variable p t x)
as-variable (a-variable {p} {t} {x}) = (p, t, x, refl)

pub as_function : {d : Declaration} → DeclarationOf kinds.Function d → (p : ℕ) × (t : ValueType) × (x : ℕ) × (qs : List Parameter) × (b : Body) × (d ≡ function p t x qs b)
as_function (a-function {p} {t} {x} {qs} {b}) = (p, t, x, qs, b, refl)

-- blocks, bodies and parameters are of one kind each
pub as-block : (b : Block) → (p : ℕ) × (s : Statement) × (ss : Statements) × (b ≡ block p s ss)
as-block (block p s ss) = (p, s, ss, refl)

pub as-value-block : (b : ValueBlock) → (p : ℕ) × (ss : Statements) × (e : Expression) × (b ≡ value_block p ss e)
as-value-block (value_block p ss e) = (p, ss, e, refl)

pub as-body : (b : Body) → (p : ℕ) × (ds : Declarations) × (ss : Statements) × (f : Final) × (b ≡ body p ds ss f)
as-body (body p ds ss f) = (p, ds, ss, f, refl)

pub as-parameter : (q : Parameter) → (p : ℕ) × (t : ValueType) × (x : ℕ) × (q ≡ parameter p t x)
as-parameter (parameter p t x) = (p, t, x, refl)

-- no other kind is an expression, a statement or a declaration
pub expression-kind : {k : Kind} {e : Expression} → ExpressionOf k e → class_of k ≡ classes.Expression
expression-kind an-integer = refl
expression-kind a-truth = refl
expression-kind a_read = refl
expression-kind a-negation = refl
expression-kind an-operation = refl
expression-kind a-choice = refl
expression-kind a_call = refl

pub statement-kind : {k : Kind} {s : Statement} → StatementOf k s → class_of k ≡ classes.Statement
statement-kind an-assignment = refl
statement-kind a-call-statement = refl
statement-kind an-if-then = refl
statement-kind an-if-else = refl

pub declaration-kind : {k : Kind} {d : Declaration} → DeclarationOf k d → class_of k ≡ classes.Declaration
declaration-kind a-variable = refl
declaration-kind a-function = refl

-- a node where the table has a branch is of some kind
pub known_at : (b : Branch) (table : List Node) (i : ℕ) → Lays b table i → kind_at (node_at table i).kind ≡ None → ⊥
known_at (branch k s v p bs) table i l e = none-some k (sym e ∙ ap kind_at l.1 ∙ kind-back k)

-- at a node of a table: the kind that the code has decided says what the tree there is, and where its parts stand
module _ (table : List Node) (i : ℕ) where
  -- the code has decided the kind
  abbrev pub Decided : Kind → Type 0
  Decided k = kind_at (node_at table i).kind ≡ Some k

  pub expression-at : (k : Kind) → Decided k → (e : Expression) → Lays (of_expression e) table i → ExpressionOf k e
  expression-at k known e l = subst (λ j. ExpressionOf j e) (kind-at (of_expression e) table i k l known) (expression-of e)

  pub statement-at : (k : Kind) → Decided k → (s : Statement) → Lays (of_statement s) table i → StatementOf k s
  statement-at k known s l = subst (λ j. StatementOf j s) (kind-at (of_statement s) table i k l known) (statement-of s)

  pub declaration-at : (k : Kind) → Decided k → (d : Declaration) → Lays (of_declaration d) table i → DeclarationOf k d
  declaration-at k known d l = subst (λ j. DeclarationOf j d) (kind-at (of_declaration d) table i k l known) (declaration-of d)

  -- the same tree, in its parts
  parts : {e f : Expression} → e ≡ f → Lays (of_expression e) table i → Lays (of_expression f) table i
  parts q l = subst (λ e. Lays (of_expression e) table i) q l

  parts-of-statement : {s r : Statement} → s ≡ r → Lays (of_statement s) table i → Lays (of_statement r) table i
  parts-of-statement q l = subst (λ s. Lays (of_statement s) table i) q l

  parts-of-declaration : {d c : Declaration} → d ≡ c → Lays (of_declaration d) table i → Lays (of_declaration c) table i
  parts-of-declaration q l = subst (λ d. Lays (of_declaration d) table i) q l

  pub integer-at : Decided kinds.Integer → (e : Expression) → Lays (of_expression e) table i → (p n : ℕ) × (e ≡ integer p n) × Lays (of_expression (integer p n)) table i
  integer-at known e l =
      let v = as-integer (expression-at kinds.Integer known e l) in
      (v.0, v.1, v.2, parts v.2 l)

  pub truth-at : Decided kinds.Truth → (e : Expression) → Lays (of_expression e) table i → (p : ℕ) × (b : Bool) × (e ≡ truth p b) × Lays (of_expression (truth p b)) table i
  truth-at known e l =
      let v = as-truth (expression-at kinds.Truth known e l) in
      (v.0, v.1, v.2, parts v.2 l)

  pub read_at : Decided kinds.Read → (e : Expression) → Lays (of_expression e) table i → (p x : ℕ) × (e ≡ read p x) × Lays (of_expression (read p x)) table i
  read_at known e l =
      let v = as_read (expression-at kinds.Read known e l) in
      (v.0, v.1, v.2, parts v.2 l)

  pub negation-at : Decided kinds.Not → (e : Expression) → Lays (of_expression e) table i → (p : ℕ) × (a : Expression) × (e ≡ negation p a) × Lays (of_expression (negation p a)) table i
  negation-at known e l =
      let v = as-negation (expression-at kinds.Not known e l) in
      (v.0, v.1, v.2, parts v.2 l)

  pub operation-at : Decided kinds.Operator → (e : Expression) → Lays (of_expression e) table i → (p : ℕ) × (o : Operator) × (a b : Expression) × (e ≡ operation p o a b) × Lays (of_expression (operation p o a b)) table i
  operation-at known e l =
      let v = as-operation (expression-at kinds.Operator known e l) in
      (v.0, v.1, v.2, v.3, v.4, parts v.4 l)

  pub choice-at : Decided kinds.IfExpression → (e : Expression) → Lays (of_expression e) table i → (p : ℕ) × (c : Expression) × (a b : ValueBlock) × (e ≡ choice p c a b) × Lays (of_expression (choice p c a b)) table i
  choice-at known e l =
      let v = as-choice (expression-at kinds.IfExpression known e l) in
      (v.0, v.1, v.2, v.3, v.4, parts v.4 l)

  pub call_at : Decided kinds.Call → (e : Expression) → Lays (of_expression e) table i → (p x : ℕ) × (es : Arguments) × (e ≡ call p x es) × Lays (of_expression (call p x es)) table i
  call_at known e l =
      let v = as_call (expression-at kinds.Call known e l) in
      (v.0, v.1, v.2, v.3, parts v.3 l)

  pub assignment-at : Decided kinds.Assignment → (s : Statement) → Lays (of_statement s) table i → (p x : ℕ) × (e : Expression) × (s ≡ assignment p x e) × Lays (of_statement (assignment p x e)) table i
  assignment-at known s l =
      let v = as-assignment (statement-at kinds.Assignment known s l) in
      (v.0, v.1, v.2, v.3, parts-of-statement v.3 l)

  pub call-statement-at : Decided kinds.CallStatement → (s : Statement) → Lays (of_statement s) table i → (p x : ℕ) × (es : Arguments) × (s ≡ call_statement p x es) × Lays (of_statement (call_statement p x es)) table i
  call-statement-at known s l =
      let v = as-call-statement (statement-at kinds.CallStatement known s l) in
      (v.0, v.1, v.2, v.3, parts-of-statement v.3 l)

  -- an if has no else where its first block ends with it, and one where that block ends before
  pub if-then-at : Decided kinds.IfStatement → (s : Statement) → Lays (of_statement s) table i → end_at table i ≤ end_at table (end_at table (i + 1)) → (p : ℕ) × (c : Expression) × (a : Block) × (s ≡ if_then p c a) × Lays (of_statement (if_then p c a)) table i
  if-then-at known s l h =
      elim (as-if (statement-at kinds.IfStatement known s l)) [
        | inl v ↦ (v.0, v.1, v.2, v.3, parts-of-statement v.3 l)
        | inr v ↦
            (let m = parts-of-statement v.4 l in
            let r = lays-rises (of_block v.3) table (end_at table (end_at table (i + 1))) m.5.1.1.0 in
            absurd (omega (arith, m.5.1.1.1)))
      ]

  pub if-else-at : Decided kinds.IfStatement → (s : Statement) → Lays (of_statement s) table i → end_at table (end_at table (i + 1)) < end_at table i → (p : ℕ) × (c : Expression) × (a b : Block) × (s ≡ if_else p c a b) × Lays (of_statement (if_else p c a b)) table i
  if-else-at known s l h =
      elim (as-if (statement-at kinds.IfStatement known s l)) [
        | inl v ↦ (let m = parts-of-statement v.3 l in absurd (omega (arith, m.5.1.1)))
        | inr v ↦ (v.0, v.1, v.2, v.3, v.4, parts-of-statement v.4 l)
      ]

  pub variable-at : Decided kinds.Variable → (d : Declaration) → Lays (of_declaration d) table i → (p : ℕ) × (t : ValueType) × (x : ℕ) × (d ≡ variable p t x) × Lays (of_declaration (variable p t x)) table i
  variable-at known d l =
      let v = as-variable (declaration-at kinds.Variable known d l) in
      (v.0, v.1, v.2, v.3, parts-of-declaration v.3 l)

  pub function-at : Decided kinds.Function → (d : Declaration) → Lays (of_declaration d) table i → (p : ℕ) × (t : ValueType) × (x : ℕ) × (qs : List Parameter) × (b : Body) × (d ≡ function p t x qs b) × Lays (of_declaration (function p t x qs b)) table i
  function-at known d l =
      let v = as_function (declaration-at kinds.Function known d l) in
      (v.0, v.1, v.2, v.3, v.4, v.5, parts-of-declaration v.5 l)
