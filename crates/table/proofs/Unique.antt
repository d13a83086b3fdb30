-- A branch is that of one tree at most. Assumes nothing.
use Rattle.std.proofs.Common.{◌≡◌, ℕ, Bool, List, [], ◌∷◌, sym, refl, ap, ◌∙◌, subst, inl, inr, arith}
use Rattle.table.specs.declared.kinds.Kind.{Kind}
use Rattle.table.specs.declared.kinds.Class.{Class}
use Rattle.table.specs.declared.kinds.Class.TheVariants as classes
use Rattle.table.specs.Tree.{Expression, Arguments, Statement, Statements, Block, ValueBlock, Final, Parameter, Declaration, Declarations, Body, Program}
use Rattle.table.specs.Tree.Expression.{integer, truth, read, negation, operation, choice, call}
use Rattle.table.specs.Tree.Arguments.{no_arguments, argument}
use Rattle.table.specs.Tree.Statement.{assignment, call_statement, if_then, if_else}
use Rattle.table.specs.Tree.Statements.{no_statements, statement}
use Rattle.table.specs.Tree.Block.{block}
use Rattle.table.specs.Tree.ValueBlock.{value_block}
use Rattle.table.specs.Tree.Final.{no_final, final}
use Rattle.table.specs.Tree.Parameter.{parameter}
use Rattle.table.specs.Tree.Declaration.{variable, function}
use Rattle.table.specs.Tree.Declarations.{no_declarations, declaration}
use Rattle.table.specs.Tree.Body.{body}
use Rattle.table.specs.Tree.Program.{single, whole}
use Rattle.table.specs.Layout.{Branch, Branches, truth_number, of_expression, of_arguments, of_statement, of_statements, of_block, of_value_block, of_final, of_parameter, of_parameters, of_declaration, of_declarations, of_body, of_program}
use Rattle.table.specs.Layout.Branch.{branch}
use Rattle.table.specs.Layout.Branches.{nil, cons}
use Rattle.table.proofs.Numbered.{type-same, operator-same}
use Rattle.table.proofs.Formed.{class_of_branch}
use Rattle.table.proofs.Kept.{expression-class, statement-class, parameter-class, declaration-class, body-class}
use Rattle.table.proofs.Views.{kind_of, expression-of, statement-of, declaration-of, ExpressionOf, StatementOf, DeclarationOf, as-integer, as-truth, as_read, as-negation, as-operation, as-choice, as_call, as-assignment, as-call-statement, as-if, as-variable, as_function}

-- equal branches have equal parts
pub record Same (s v p : ℕ) (bs : Branches) (s' v' p' : ℕ) (bs' : Branches) : Type 0 where
  pub sub : s ≡ s'
  pub value : v ≡ v'
  pub place : p ≡ p'
  pub below : bs ≡ bs'

pub same_branch : {k : Kind} {s v p : ℕ} {bs : Branches} {k' : Kind} {s' v' p' : ℕ} {bs' : Branches} → branch k s v p bs ≡ branch k' s' v' p' bs' → Same s v p bs s' v' p' bs'
same_branch h = record { sub = cc; value = cc; place = cc; below = cc }

pub same_first : {a b : Branch} {as' bs : Branches} → cons a as' ≡ cons b bs → a ≡ b
same_first h = cc

pub same-others : {a b : Branch} {as' bs : Branches} → cons a as' ≡ cons b bs → as' ≡ bs
same-others h = cc

pub nil-cons : {b : Branch} {bs : Branches} → nil ≡ cons b bs → ⊥
nil-cons h = grind arith

truth-same : (a b : Bool) → truth_number a ≡ truth_number b → a ≡ b
truth-same a b h = grind arith

-- what follows a row of nodes does not begin with another of their class
abbrev pub Lacks : Class → Branches → Type 0
Lacks c nil = Unit {0}
Lacks c (cons b bs) = class_of_branch b ≡ c → ⊥

pub lacks-front : (c : Class) (b : Branch) (bs others : Branches) → Lacks c others → class_of_branch b ≡ c → others ≡ cons b bs → ⊥
lacks-front c b bs nil l e h = nil-cons h
lacks-front c b bs (cons a as') l e h = l (ap class_of_branch (same_first h) ∙ e)

-- different classes
pub apart : (b : Branch) (c d : Class) → class_of_branch b ≡ c → (c ≡ d → ⊥) → class_of_branch b ≡ d → ⊥
apart b c d p n q = n (sym p ∙ q)

pub expression-not-statement : classes.Expression ≡ classes.Statement → ⊥
expression-not-statement h = grind arith

pub expression-not-declaration : classes.Expression ≡ classes.Declaration → ⊥
expression-not-declaration h = grind arith

pub statement-not-declaration : classes.Statement ≡ classes.Declaration → ⊥
statement-not-declaration h = grind arith

pub body-not-parameter : classes.Body ≡ classes.Parameter → ⊥
body-not-parameter h = grind arith

-- an expression behind statements
pub value-lacks : (e : Expression) → Lacks classes.Statement (cons (of_expression e) nil)
value-lacks e = apart (of_expression e) classes.Expression classes.Statement (expression-class e) expression-not-statement

-- at most one expression behind statements
pub final-lacks : (f : Final) → Lacks classes.Statement (of_final f)
final-lacks no_final = tt
final-lacks (final e) = value-lacks e

-- statements and at most one expression behind declarations
pub row-lacks : (ss : Statements) (f : Final) → Lacks classes.Declaration (of_statements ss (of_final f))
row-lacks no_statements no_final = tt
row-lacks no_statements (final e) = apart (of_expression e) classes.Expression classes.Declaration (expression-class e) expression-not-declaration
row-lacks (statement s ss) f = apart (of_statement s) classes.Statement classes.Declaration (statement-class s) statement-not-declaration

-- a body behind parameters
pub body-lacks : (b : Body) → Lacks classes.Parameter (cons (of_body b) nil)
body-lacks b = apart (of_body b) classes.Body classes.Parameter (body-class b) body-not-parameter

-- an expression, a statement or a declaration of the same branch is of the same kind
like : (e : Expression) (b : Branch) → b ≡ of_expression e → ExpressionOf (kind_of b) e
like e b h = subst (λ k. ExpressionOf k e) (sym (ap kind_of h)) (expression-of e)

like-statement : (s : Statement) (b : Branch) → b ≡ of_statement s → StatementOf (kind_of b) s
like-statement s b h = subst (λ k. StatementOf k s) (sym (ap kind_of h)) (statement-of s)

like-declaration : (d : Declaration) (b : Branch) → b ≡ of_declaration d → DeclarationOf (kind_of b) d
like-declaration d b h = subst (λ k. DeclarationOf k d) (sym (ap kind_of h)) (declaration-of d)

mutual
  pub one-expression : (e f : Expression) → of_expression e ≡ of_expression f → e ≡ f
  one-expression (integer p n) f h =
      let v = as-integer (like f _ h) in
      let s = same_branch (h ∙ ap of_expression v.2) in
      (λ j. integer (s.place j) (s.value j)) ∙ sym v.2
  one-expression (truth p b) f h =
      let v = as-truth (like f _ h) in
      let s = same_branch (h ∙ ap of_expression v.2) in
      (λ j. truth (s.place j) (truth-same b v.1 s.value j)) ∙ sym v.2
  one-expression (read p x) f h =
      let v = as_read (like f _ h) in
      let s = same_branch (h ∙ ap of_expression v.2) in
      (λ j. read (s.place j) (s.value j)) ∙ sym v.2
  one-expression (negation p a) f h =
      let v = as-negation (like f _ h) in
      let s = same_branch (h ∙ ap of_expression v.2) in
      let ea : a ≡ v.1 = one-expression a v.1 (same_first s.below) in
      (λ j. negation (s.place j) (ea j)) ∙ sym v.2
  one-expression (operation p o a b) f h =
      let v = as-operation (like f _ h) in
      let s = same_branch (h ∙ ap of_expression v.4) in
      let ea : a ≡ v.2 = one-expression a v.2 (same_first s.below) in
      let eb : b ≡ v.3 = one-expression b v.3 (same_first (same-others s.below)) in
      (λ j. operation (s.place j) (operator-same o v.1 s.sub j) (ea j) (eb j)) ∙ sym v.4
  one-expression (choice p c a b) f h =
      let v = as-choice (like f _ h) in
      let s = same_branch (h ∙ ap of_expression v.4) in
      let ec : c ≡ v.1 = one-expression c v.1 (same_first s.below) in
      let ea : a ≡ v.2 = one-value-block a v.2 (same_first (same-others s.below)) in
      let eb : b ≡ v.3 = one-value-block b v.3 (same_first (same-others (same-others s.below))) in
      (λ j. choice (s.place j) (ec j) (ea j) (eb j)) ∙ sym v.4
  one-expression (call p x es) f h =
      let v = as_call (like f _ h) in
      let s = same_branch (h ∙ ap of_expression v.3) in
      let ee : es ≡ v.2 = one-arguments es v.2 s.below in
      (λ j. call (s.place j) (s.value j) (ee j)) ∙ sym v.3

  one-arguments : (es fs : Arguments) → of_arguments es ≡ of_arguments fs → es ≡ fs
  one-arguments no_arguments no_arguments h = refl
  one-arguments no_arguments (argument f fs) h = absurd (nil-cons h)
  one-arguments (argument e es) no_arguments h = absurd (nil-cons (sym h))
  one-arguments (argument e es) (argument f fs) h =
      let a = one-expression e f (same_first h) in
      let b = one-arguments es fs (same-others h) in
      λ j. argument (a j) (b j)

  pub one-statement : (s r : Statement) → of_statement s ≡ of_statement r → s ≡ r
  one-statement (assignment p x e) r h =
      let v = as-assignment (like-statement r _ h) in
      let s = same_branch (h ∙ ap of_statement v.3) in
      let ee : e ≡ v.2 = one-expression e v.2 (same_first s.below) in
      (λ j. assignment (s.place j) (s.value j) (ee j)) ∙ sym v.3
  one-statement (call_statement p x es) r h =
      let v = as-call-statement (like-statement r _ h) in
      let s = same_branch (h ∙ ap of_statement v.3) in
      let ee : es ≡ v.2 = one-arguments es v.2 s.below in
      (λ j. call_statement (s.place j) (s.value j) (ee j)) ∙ sym v.3
  one-statement (if_then p c a) r h =
      elim (as-if (like-statement r _ h)) [
        | inl v ↦
            (let s = same_branch (h ∙ ap of_statement v.3) in
            let ec : c ≡ v.1 = one-expression c v.1 (same_first s.below) in
            let ea : a ≡ v.2 = one_block a v.2 (same_first (same-others s.below)) in
            (λ j. if_then (s.place j) (ec j) (ea j)) ∙ sym v.3)
        | inr v ↦
            (let s = same_branch (h ∙ ap of_statement v.4) in
            absurd (nil-cons (same-others (same-others s.below))))
      ]
  one-statement (if_else p c a b) r h =
      elim (as-if (like-statement r _ h)) [
        | inl v ↦
            (let s = same_branch (h ∙ ap of_statement v.3) in
            absurd (nil-cons (sym (same-others (same-others s.below)))))
        | inr v ↦
            (let s = same_branch (h ∙ ap of_statement v.4) in
            let ec : c ≡ v.1 = one-expression c v.1 (same_first s.below) in
            let ea : a ≡ v.2 = one_block a v.2 (same_first (same-others s.below)) in
            let eb : b ≡ v.3 = one_block b v.3 (same_first (same-others (same-others s.below))) in
            (λ j. if_else (s.place j) (ec j) (ea j) (eb j)) ∙ sym v.4)
      ]

  -- rows of statements, with what follows them
  pub one-row : (ss rs : Statements) (others else : Branches) → Lacks classes.Statement others → Lacks classes.Statement else → of_statements ss others ≡ of_statements rs else → (ss ≡ rs) × (others ≡ else)
  one-row no_statements no_statements others else l m h = (refl, h)
  one-row no_statements (statement r rs) others else l m h = absurd (lacks-front classes.Statement (of_statement r) (of_statements rs else) others l (statement-class r) h)
  one-row (statement s ss) no_statements others else l m h = absurd (lacks-front classes.Statement (of_statement s) (of_statements ss others) else m (statement-class s) (sym h))
  one-row (statement s ss) (statement r rs) others else l m h =
      let a = one-statement s r (same_first h) in
      let b = one-row ss rs others else l m (same-others h) in
      ((λ j. statement (a j) (b.0 j)), b.1)

  pub one_block : (a b : Block) → of_block a ≡ of_block b → a ≡ b
  one_block (block p s ss) (block q r rs) h =
      let t = same_branch h in
      let a = one-statement s r (same_first t.below) in
      let b = one-row ss rs nil nil tt tt (same-others t.below) in
      λ j. block (t.place j) (a j) (b.0 j)

  pub one-value-block : (a b : ValueBlock) → of_value_block a ≡ of_value_block b → a ≡ b
  one-value-block (value_block p ss e) (value_block q rs f) h =
      let t = same_branch h in
      let b = one-row ss rs (cons (of_expression e) nil) (cons (of_expression f) nil) (value-lacks e) (value-lacks f) t.below in
      let a = one-expression e f (same_first b.1) in
      λ j. value_block (t.place j) (b.0 j) (a j)

one-final : (f g : Final) → of_final f ≡ of_final g → f ≡ g
one-final no_final no_final h = refl
one-final no_final (final e) h = absurd (nil-cons h)
one-final (final e) no_final h = absurd (nil-cons (sym h))
one-final (final e) (final f) h = ap final (one-expression e f (same_first h))

one-parameter : (q r : Parameter) → of_parameter q ≡ of_parameter r → q ≡ r
one-parameter (parameter p t x) (parameter q u y) h =
    let s = same_branch h in
    λ j. parameter (s.place j) (type-same t u s.sub j) (s.value j)

one-parameters : (qs rs : List Parameter) (others else : Branches) → Lacks classes.Parameter others → Lacks classes.Parameter else → of_parameters qs others ≡ of_parameters rs else → (qs ≡ rs) × (others ≡ else)
one-parameters [] [] others else l m h = (refl, h)
one-parameters [] (r ∷ rs) others else l m h = absurd (lacks-front classes.Parameter (of_parameter r) (of_parameters rs else) others l (parameter-class r) h)
one-parameters (q ∷ qs) [] others else l m h = absurd (lacks-front classes.Parameter (of_parameter q) (of_parameters qs others) else m (parameter-class q) (sym h))
one-parameters (q ∷ qs) (r ∷ rs) others else l m h =
    let a = one-parameter q r (same_first h) in
    let b = one-parameters qs rs others else l m (same-others h) in
    ((λ j. a j ∷ b.0 j), b.1)

mutual
  pub one-declaration : (d c : Declaration) → of_declaration d ≡ of_declaration c → d ≡ c
  one-declaration (variable p t x) c h =
      let v = as-variable (like-declaration c _ h) in
      let s = same_branch (h ∙ ap of_declaration v.3) in
      (λ j. variable (s.place j) (type-same t v.1 s.sub j) (s.value j)) ∙ sym v.3
  one-declaration (function p t x qs b) c h =
      let v = as_function (like-declaration c _ h) in
      let s = same_branch (h ∙ ap of_declaration v.5) in
      let r = one-parameters qs v.3 (cons (of_body b) nil) (cons (of_body v.4) nil) (body-lacks b) (body-lacks v.4) s.below in
      let eb : b ≡ v.4 = one-body b v.4 (same_first r.1) in
      (λ j. function (s.place j) (type-same t v.1 s.sub j) (s.value j) (r.0 j) (eb j)) ∙ sym v.5

  one-declarations : (ds cs : Declarations) (others else : Branches) → Lacks classes.Declaration others → Lacks classes.Declaration else → of_declarations ds others ≡ of_declarations cs else → (ds ≡ cs) × (others ≡ else)
  one-declarations no_declarations no_declarations others else l m h = (refl, h)
  one-declarations no_declarations (declaration c cs) others else l m h = absurd (lacks-front classes.Declaration (of_declaration c) (of_declarations cs else) others l (declaration-class c) h)
  one-declarations (declaration d ds) no_declarations others else l m h = absurd (lacks-front classes.Declaration (of_declaration d) (of_declarations ds others) else m (declaration-class d) (sym h))
  one-declarations (declaration d ds) (declaration c cs) others else l m h =
      let a = one-declaration d c (same_first h) in
      let b = one-declarations ds cs others else l m (same-others h) in
      ((λ j. declaration (a j) (b.0 j)), b.1)

  pub one-body : (a b : Body) → of_body a ≡ of_body b → a ≡ b
  one-body (body p ds ss f) (body q cs rs g) h =
      let t = same_branch h in
      let a = one-declarations ds cs (of_statements ss (of_final f)) (of_statements rs (of_final g)) (row-lacks ss f) (row-lacks rs g) t.below in
      let b = one-row ss rs (of_final f) (of_final g) (final-lacks f) (final-lacks g) a.1 in
      let c = one-final f g b.1 in
      λ j. body (t.place j) (a.0 j) (b.0 j) (c j)

-- an expression and a declaration have different branches
mixed : (e : Expression) (d : Declaration) → of_expression e ≡ of_declaration d → ⊥
mixed e d h = expression-not-declaration (sym (expression-class e) ∙ ap class_of_branch h ∙ declaration-class d)

pub one-program : (t u : Program) → of_program t ≡ of_program u → t ≡ u
one-program (single p e) (single q f) h =
    let s = same_branch h in
    let a = one-expression e f (same_first s.below) in
    λ j. single (s.place j) (a j)
one-program (single p e) (whole q c cs rs g) h = absurd (mixed e c (same_first (same_branch h).below))
one-program (whole p d ds ss f) (single q e) h = absurd (mixed e d (sym (same_first (same_branch h).below)))
one-program (whole p d ds ss f) (whole q c cs rs g) h =
    let t = same_branch h in
    let z = one-declaration d c (same_first t.below) in
    let a = one-declarations ds cs (of_statements ss (of_final f)) (of_statements rs (of_final g)) (row-lacks ss f) (row-lacks rs g) (same-others t.below) in
    let b = one-row ss rs (of_final f) (of_final g) (final-lacks f) (final-lacks g) a.1 in
    let y = one-final f g b.1 in
    λ j. whole (t.place j) (z j) (a.0 j) (b.0 j) (y j)
