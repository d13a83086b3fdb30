-- A branch whose records keep to their limits and whose children are those of their forms is that of a tree. Assumes nothing.
use Rattle.std.proofs.Common.{◌≡◌, ℕ, ◌≤◌, Bool, true, false, cond, eqb, ◌⊎◌, List, [], ◌∷◌, Some, None, Option, sym, refl, ap, ◌∙◌, subst, inl, inr, arith}
use Rattle.std.proofs.lemmas.Bool.{eqb-true, both_ways}
use Rattle.language.specs.declared.values.ValueType.{ValueType}
use Rattle.language.specs.declared.values.ValueType.TheVariants as types
use Rattle.language.specs.declared.values.Operator.{Operator}
use Rattle.language.specs.declared.values.Operator.TheVariants as operators
use Rattle.std.specs.Option.{unwrap_or}
use Rattle.language.specs.Numbers.{type_number, type_at, operator_number, operator_at}
use Rattle.table.specs.declared.kinds.Kind.{Kind}
use Rattle.table.specs.declared.kinds.Kind.TheVariants as kinds
use Rattle.table.specs.declared.kinds.Class.{Class}
use Rattle.table.specs.declared.kinds.Class.TheVariants as classes
use Rattle.table.specs.declared.kinds.Form.{Form}
use Rattle.table.specs.declared.kinds.Form.TheVariants as forms
use Rattle.table.specs.Kinds.{class_of, limits, limits_of, within}
use Rattle.table.specs.Forms.{class_number, on, after, complete, form_of}
use Rattle.table.specs.Tree.{Expression, Arguments, Statement, Statements, Block, ValueBlock, Final, Parameter, Declaration, Declarations, Body, Program}
use Rattle.table.specs.Tree.Expression.{integer, truth, read, negation, operation, choice, call}
use Rattle.table.specs.Tree.Arguments.{no_arguments, argument}
use Rattle.table.specs.Tree.Statement.{assignment, call_statement, if_then, if_else}
use Rattle.table.specs.Tree.Statements.{no_statements, statement}
use Rattle.table.specs.Tree.Block.{block}
use Rattle.table.specs.Tree.ValueBlock.{value_block}
use Rattle.table.specs.Tree.Final.{no_final, final}
use Rattle.table.specs.Tree.Parameter.{parameter}
use Rattle.table.specs.Tree.Declaration.{variable, function}
use Rattle.table.specs.Tree.Declarations.{no_declarations, declaration}
use Rattle.table.specs.Tree.Body.{body}
use Rattle.table.specs.Tree.Program.{single, whole}
use Rattle.table.specs.Layout.{Branch, Branches, Limited, LimitedAll, truth_number, of_expression, of_arguments, of_statement, of_statements, of_block, of_value_block, of_final, of_parameter, of_parameters, of_declaration, of_declarations, of_body, of_program}
use Rattle.table.specs.Layout.Branch.{branch}
use Rattle.table.specs.Layout.Branches.{nil, cons}
use Rattle.std.proofs.lemmas.Option.{none-some, same_Some}
use Rattle.table.proofs.Numbered.{class-same}
use Rattle.table.proofs.Formed.{class_of_branch, Fit, Formed, FormedAll}

-- the branch is that of a tree of its class
abbrev pub Is : Class → Branch → Type 0
Is classes.Declaration b = (d : Declaration) × (of_declaration d ≡ b)
Is classes.Parameter b = (q : Parameter) × (of_parameter q ≡ b)
Is classes.Body b = (d : Body) × (of_body d ≡ b)
Is classes.Statement b = (s : Statement) × (of_statement s ≡ b)
Is classes.Block b = (d : Block) × (of_block d ≡ b)
Is classes.Expression b = (e : Expression) × (of_expression e ≡ b)
Is classes.ValueBlock b = (d : ValueBlock) × (of_value_block d ≡ b)
Is classes.Other b = (t : Program) × (of_program t ≡ b)

abbrev pub IsAll : Branches → Type 0
IsAll nil = Unit {0}
IsAll (cons b bs) = Is (class_of_branch b) b × IsAll bs

-- one test of a class: it passes, or the others answer
on-cases : (c w : Class) (f g : Form) (o : Option Form) → on c w f o ≡ Some g → ((c ≡ w) × (f ≡ g)) ⊎ (o ≡ Some g)
on-cases c w f g o e = by (eqb (class_number c) (class_number w)) refl e
  where
    by : (b : Bool) → eqb (class_number c) (class_number w) ≡ b → cond b (Some f) o ≡ Some g → ((c ≡ w) × (f ≡ g)) ⊎ (o ≡ Some g)
    by true t q = inl (class-same c w (eqb-true (class_number c) (class_number w) t), same_Some _ _ q)
    by false t q = inr q

-- so does a branch at the front: it is of the wanted class and the others are of its form, or the other answer counts
on-front : (w : Class) (f : Form) (o : Option Form) (b : Branch) (bs : Branches) → (fit : (g : Form) × (on (class_of_branch b) w f o ≡ Some g) × Fit g bs) → Is (class_of_branch b) b → (Is w b × Fit f bs) ⊎ (o ≡ Some fit.0)
on-front w f o b bs fit is =
    elim (on-cases (class_of_branch b) w f fit.0 o fit.1) [
      | inl p ↦ inl (subst (λ c. Is c b) p.0 is, subst (λ k. Fit k bs) (sym p.1) fit.2)
      | inr q ↦ inr q
    ]

-- a child that must come, taken off the front
record Taken (w : Class) (g : Form) (bs : Branches) : Type 0 where
  first : Branch
  others : Branches
  same : cons first others ≡ bs
  tree : Is w first
  fit : Fit g others
  trees : IsAll others

-- a form after which one class alone may come
must : (f g : Form) (w : Class) → complete f ≡ false → ((c : Class) → after f c ≡ on c w g None) → (bs : Branches) → Fit f bs → IsAll bs → Taken w g bs
must f g w n a nil fit is = absurd (both_ways (complete f) n fit)
must f g w n a (cons b bs) fit is =
    elim (on-front w g None b bs (fit.0, sym (a (class_of_branch b)) ∙ fit.1, fit.2) is.0) [
      | inl p ↦ record { first = b; others = bs; same = refl; tree = p.0; fit = p.1; trees = is.1 }
      | inr q ↦ absurd (none-some _ q)
    ]

-- a front and the others put together again
joined : {a b : Branch} {as' bs cs : Branches} → a ≡ b → as' ≡ bs → cons b bs ≡ cs → cons a as' ≡ cs
joined p q r = (λ j. cons (p j) (q j)) ∙ r

-- nothing comes
none_left : (bs : Branches) → Fit forms.Nothing bs → nil ≡ bs
none_left nil fit = refl
none_left (cons b bs) fit = absurd (none-some _ fit.1)

one-expression : (bs : Branches) → Fit forms.OneExpression bs → IsAll bs → (e : Expression) × (cons (of_expression e) nil ≡ bs)
one-expression bs fit is =
    let t = must forms.OneExpression forms.Nothing classes.Expression refl (λ c. refl) bs fit is in
    (t.tree.0, joined t.tree.1 (none_left t.others t.fit) t.same)

arguments : (bs : Branches) → Fit forms.Expressions bs → IsAll bs → (es : Arguments) × (of_arguments es ≡ bs)
arguments nil fit is = (no_arguments, refl)
arguments (cons b bs) fit is =
    elim (on-front classes.Expression forms.Expressions None b bs fit is.0) [
      | inl p ↦ (let r = arguments bs p.1 is.1 in (argument p.0.0 r.0, λ j. cons (p.0.1 j) (r.1 j)))
      | inr q ↦ absurd (none-some _ q)
    ]

only-statements : (bs : Branches) → Fit forms.OnlyStatements bs → IsAll bs → (ss : Statements) × (of_statements ss nil ≡ bs)
only-statements nil fit is = (no_statements, refl)
only-statements (cons b bs) fit is =
    elim (on-front classes.Statement forms.OnlyStatements None b bs fit is.0) [
      | inl p ↦ (let r = only-statements bs p.1 is.1 in (statement p.0.0 r.0, λ j. cons (p.0.1 j) (r.1 j)))
      | inr q ↦ absurd (none-some _ q)
    ]

-- the expression that ends a row
last_one : (b : Branch) (bs : Branches) (g : Form) → on (class_of_branch b) classes.Expression forms.Nothing None ≡ Some g → Is (class_of_branch b) b → Fit g bs → (e : Expression) × (cons (of_expression e) nil ≡ cons b bs)
last_one b bs g q x fit =
    elim (on-front classes.Expression forms.Nothing None b bs (g, q, fit) x) [
      | inl p ↦ (p.0.0, λ j. cons (p.0.1 j) (none_left bs p.1 j))
      | inr r ↦ absurd (none-some _ r)
    ]

statements : (bs : Branches) → Fit forms.Statements bs → IsAll bs → (ss : Statements) × (f : Final) × (of_statements ss (of_final f) ≡ bs)
statements nil fit is = (no_statements, no_final, refl)
statements (cons b bs) fit is =
    elim (on-front classes.Statement forms.Statements _ b bs fit is.0) [
      | inl p ↦ (let r = statements bs p.1 is.1 in (statement p.0.0 r.0, r.1, λ j. cons (p.0.1 j) (r.2 j)))
      | inr q ↦ (let l = last_one b bs fit.0 q is.0 fit.2 in (no_statements, final l.0, l.1))
    ]

value : (bs : Branches) → Fit forms.Value bs → IsAll bs → (ss : Statements) × (e : Expression) × (of_statements ss (cons (of_expression e) nil) ≡ bs)
value nil fit is = absurd (both_ways false refl fit)
value (cons b bs) fit is =
    elim (on-front classes.Statement forms.Value _ b bs fit is.0) [
      | inl p ↦ (let r = value bs p.1 is.1 in (statement p.0.0 r.0, r.1, λ j. cons (p.0.1 j) (r.2 j)))
      | inr q ↦ (let l = last_one b bs fit.0 q is.0 fit.2 in (no_statements, l.0, l.1))
    ]

declarations : (bs : Branches) → Fit forms.Declarations bs → IsAll bs → (ds : Declarations) × (ss : Statements) × (f : Final) × (of_declarations ds (of_statements ss (of_final f)) ≡ bs)
declarations nil fit is = (no_declarations, no_statements, no_final, refl)
declarations (cons b bs) fit is =
    elim (on-front classes.Declaration forms.Declarations _ b bs fit is.0) [
      | inl p ↦ (let r = declarations bs p.1 is.1 in (declaration p.0.0 r.0, r.1, r.2, λ j. cons (p.0.1 j) (r.3 j)))
      | inr q ↦ (let r = statements (cons b bs) (fit.0, q, fit.2) is in (no_declarations, r.0, r.1, r.2))
    ]

parameters : (bs : Branches) → Fit forms.Parameters bs → IsAll bs → (qs : List Parameter) × (d : Body) × (of_parameters qs (cons (of_body d) nil) ≡ bs)
parameters nil fit is = absurd (both_ways false refl fit)
parameters (cons b bs) fit is =
    elim (on-front classes.Parameter forms.Parameters _ b bs fit is.0) [
      | inl p ↦ (let r = parameters bs p.1 is.1 in (p.0.0 ∷ r.0, r.1, λ j. cons (p.0.1 j) (r.2 j)))
      | inr q ↦
          elim (on-front classes.Body forms.Nothing None b bs (fit.0, q, fit.2) is.0) [
            | inl p ↦ ([], p.0.0, λ j. cons (p.0.1 j) (none_left bs p.1 j))
            | inr r ↦ absurd (none-some _ r)
          ]
    ]

-- sub and value keep to the limits
pub kept : (l h m s v : ℕ) → within (limits l h m) s v ≡ true → (l ≤ s) × (s ≤ h) × (v ≤ m)
kept l h m s v e = grind arith

-- where there is no use for one, it is 0
no_sub : (m s v : ℕ) → within (limits 0 0 m) s v ≡ true → 0 ≡ s
no_sub m s v e = omega (arith, kept 0 0 m s v e)

no_value : (l h s v : ℕ) → within (limits l h 0) s v ≡ true → 0 ≡ v
no_value l h s v e = omega (arith, kept l h 0 s v e)

type-of : (s : ℕ) → s ≤ 2 → (t : ValueType) × (type_number t ≡ s)
type-of s h = (unwrap_or (type_at s) types.Bool, grind arith)

truth-of : (v : ℕ) → v ≤ 1 → (b : Bool) × (truth_number b ≡ v)
truth-of v h = (eqb v 1, grind arith)

operator-of : (s : ℕ) → 1 ≤ s → s ≤ 11 → (o : Operator) × (operator_number o ≡ s)
operator-of s l h = (unwrap_or (operator_at s) operators.Or, grind arith)

-- two expressions
two-expressions : (bs : Branches) → Fit forms.TwoExpressions bs → IsAll bs → (a b : Expression) × (cons (of_expression a) (cons (of_expression b) nil) ≡ bs)
two-expressions bs fit is =
    let t = must forms.TwoExpressions forms.OneExpression classes.Expression refl (λ c. refl) bs fit is in
    let u = one-expression t.others t.fit t.trees in
    (t.tree.0, u.0, joined t.tree.1 u.1 t.same)

-- a condition and two value blocks
chosen : (bs : Branches) → Fit forms.Choice bs → IsAll bs → (c : Expression) × (a b : ValueBlock) × (cons (of_expression c) (cons (of_value_block a) (cons (of_value_block b) nil)) ≡ bs)
chosen bs fit is =
    let t = must forms.Choice forms.TwoValueBlocks classes.Expression refl (λ c. refl) bs fit is in
    let u = must forms.TwoValueBlocks forms.OneValueBlock classes.ValueBlock refl (λ c. refl) t.others t.fit t.trees in
    let v = must forms.OneValueBlock forms.Nothing classes.ValueBlock refl (λ c. refl) u.others u.fit u.trees in
    (t.tree.0, u.tree.0, v.tree.0, joined t.tree.1 (joined u.tree.1 (joined v.tree.1 (none_left v.others v.fit) v.same) u.same) t.same)

-- at most one more block
second_block : (bs : Branches) → Fit forms.SecondBlock bs → IsAll bs → (nil ≡ bs) ⊎ ((b : Block) × (cons (of_block b) nil ≡ bs))
second_block nil fit is = inl refl
second_block (cons b bs) fit is =
    elim (on-front classes.Block forms.Nothing None b bs fit is.0) [
      | inl p ↦ inr (p.0.0, λ j. cons (p.0.1 j) (none_left bs p.1 j))
      | inr q ↦ absurd (none-some _ q)
    ]

-- a condition and one block or two
conditional : (p : ℕ) (bs : Branches) → Fit forms.Condition bs → IsAll bs → (s : Statement) × (of_statement s ≡ branch kinds.IfStatement 0 0 p bs)
conditional p bs fit is =
    let t = must forms.Condition forms.FirstBlock classes.Expression refl (λ c. refl) bs fit is in
    let u = must forms.FirstBlock forms.SecondBlock classes.Block refl (λ c. refl) t.others t.fit t.trees in
    elim (second_block u.others u.fit u.trees) [
      | inl n ↦ (if_then p t.tree.0 u.tree.0, ap (branch kinds.IfStatement 0 0 p) (joined t.tree.1 (joined u.tree.1 n u.same) t.same))
      | inr v ↦ (if_else p t.tree.0 u.tree.0 v.0, ap (branch kinds.IfStatement 0 0 p) (joined t.tree.1 (joined u.tree.1 v.1 u.same) t.same))
    ]

-- one or more statements
some-statements : (bs : Branches) → Fit forms.SomeStatements bs → IsAll bs → (s : Statement) × (ss : Statements) × (cons (of_statement s) (of_statements ss nil) ≡ bs)
some-statements bs fit is =
    let t = must forms.SomeStatements forms.OnlyStatements classes.Statement refl (λ c. refl) bs fit is in
    let u = only-statements t.others t.fit t.trees in
    (t.tree.0, u.0, joined t.tree.1 u.1 t.same)

-- one expression; or one or more declarations, statements and at most one expression
program : (p : ℕ) (bs : Branches) → Fit forms.Whole bs → IsAll bs → (t : Program) × (of_program t ≡ branch kinds.Program 0 0 p bs)
program p nil fit is = absurd (both_ways false refl fit)
program p (cons b bs) fit is =
    elim (on-front classes.Expression forms.Nothing _ b bs fit is.0) [
      | inl q ↦ (single p q.0.0, λ j. branch kinds.Program 0 0 p (cons (q.0.1 j) (none_left bs q.1 j)))
      | inr r ↦
          elim (on-front classes.Declaration forms.Declarations None b bs (fit.0, r, fit.2) is.0) [
            | inl q ↦
                (let u = declarations bs q.1 is.1 in
                (whole p q.0.0 u.0 u.1 u.2, λ j. branch kinds.Program 0 0 p (cons (q.0.1 j) (u.3 j))))
            | inr o ↦ absurd (none-some _ o)
          ]
    ]

-- a branch of each kind
of-kind : (k : Kind) (s v p : ℕ) (bs : Branches) → within (limits_of k) s v ≡ true → Fit (form_of k) bs → IsAll bs → Is (class_of k) (branch k s v p bs)
of-kind kinds.Program s v p bs m fit is =
    let t = program p bs fit is in
    (t.0, t.1 ∙ (λ j. branch kinds.Program (no_sub 0 s v m j) (no_value 0 0 s v m j) p bs))
of-kind kinds.Variable s v p bs m fit is =
    let t = type-of s (kept 1 2 1_023 s v m).1 in
    (variable p t.0 v, λ j. branch kinds.Variable (t.1 j) v p (none_left bs fit j))
of-kind kinds.Function s v p bs m fit is =
    let t = type-of s (kept 0 2 1_023 s v m).1 in
    let u = parameters bs fit is in
    (function p t.0 v u.0 u.1, λ j. branch kinds.Function (t.1 j) v p (u.2 j))
of-kind kinds.Parameter s v p bs m fit is =
    let t = type-of s (kept 1 2 1_023 s v m).1 in
    (parameter p t.0 v, λ j. branch kinds.Parameter (t.1 j) v p (none_left bs fit j))
of-kind kinds.Body s v p bs m fit is =
    let u = declarations bs fit is in
    (body p u.0 u.1 u.2, λ j. branch kinds.Body (no_sub 0 s v m j) (no_value 0 0 s v m j) p (u.3 j))
of-kind kinds.Assignment s v p bs m fit is =
    let u = one-expression bs fit is in
    (assignment p v u.0, λ j. branch kinds.Assignment (no_sub 1_023 s v m j) v p (u.1 j))
of-kind kinds.CallStatement s v p bs m fit is =
    let u = arguments bs fit is in
    (call_statement p v u.0, λ j. branch kinds.CallStatement (no_sub 1_023 s v m j) v p (u.1 j))
of-kind kinds.IfStatement s v p bs m fit is =
    let u = conditional p bs fit is in
    (u.0, u.1 ∙ (λ j. branch kinds.IfStatement (no_sub 0 s v m j) (no_value 0 0 s v m j) p bs))
of-kind kinds.Block s v p bs m fit is =
    let u = some-statements bs fit is in
    (block p u.0 u.1, λ j. branch kinds.Block (no_sub 0 s v m j) (no_value 0 0 s v m j) p (u.2 j))
of-kind kinds.Integer s v p bs m fit is =
    (integer p v, λ j. branch kinds.Integer (no_sub 2_147_483_647 s v m j) v p (none_left bs fit j))
of-kind kinds.Truth s v p bs m fit is =
    let t = truth-of v (kept 0 0 1 s v m).2 in
    (truth p t.0, λ j. branch kinds.Truth (no_sub 1 s v m j) (t.1 j) p (none_left bs fit j))
of-kind kinds.Read s v p bs m fit is =
    (read p v, λ j. branch kinds.Read (no_sub 1_023 s v m j) v p (none_left bs fit j))
of-kind kinds.Not s v p bs m fit is =
    let u = one-expression bs fit is in
    (negation p u.0, λ j. branch kinds.Not (no_sub 0 s v m j) (no_value 0 0 s v m j) p (u.1 j))
of-kind kinds.Operator s v p bs m fit is =
    let k = kept 1 11 0 s v m in
    let o = operator-of s k.0 k.1 in
    let u = two-expressions bs fit is in
    (operation p o.0 u.0 u.1, λ j. branch kinds.Operator (o.1 j) (no_value 1 11 s v m j) p (u.2 j))
of-kind kinds.IfExpression s v p bs m fit is =
    let u = chosen bs fit is in
    (choice p u.0 u.1 u.2, λ j. branch kinds.IfExpression (no_sub 0 s v m j) (no_value 0 0 s v m j) p (u.3 j))
of-kind kinds.ValueBlock s v p bs m fit is =
    let u = value bs fit is in
    (value_block p u.0 u.1, λ j. branch kinds.ValueBlock (no_sub 0 s v m j) (no_value 0 0 s v m j) p (u.2 j))
of-kind kinds.Call s v p bs m fit is =
    let u = arguments bs fit is in
    (call p v u.0, λ j. branch kinds.Call (no_sub 1_023 s v m j) v p (u.1 j))

mutual
  pub typed : (b : Branch) → Limited b → Formed b → Is (class_of_branch b) b
  typed (branch k s v p bs) m f = of-kind k s v p bs m.0 f.0 (typed-all bs m.1 f.1)

  typed-all : (bs : Branches) → LimitedAll bs → FormedAll bs → IsAll bs
  typed-all nil m f = tt
  typed-all (cons b bs) m f = (typed b m.0 f.0, typed-all bs m.1 f.1)
