-- The exits of the walk's functions. Assumes nothing.
use Rattle.std.proofs.Common.{◌≡◌, ℕ, ◌+◌, ◌*◌, ◌<◌, ◌≤◌, Bool, List, length, Some, Ok, Err, Option, Result, sym, ap, ◌∙◌, subst, arith}
use Rattle.language.specs.declared.faults.Fault.{Fault}
use Rattle.language.specs.declared.values.ValueType.{ValueType}
use Rattle.table.specs.declared.kinds.Kind.{Kind}
use Rattle.table.specs.declared.nodes.Node.{Node}
use Rattle.table.specs.Kinds.{kind_at}
use Rattle.table.specs.Listed.{node_at, end_at}
use Rattle.table.specs.Tree.{Expression, Statement, Block, ValueBlock, Statements}
use Rattle.table.specs.Tree.Statement.{assignment}
use Rattle.table.specs.Tree.Block.{block}
use Rattle.table.specs.Tree.ValueBlock.{value_block}
use Rattle.table.specs.Layout.{of_block, of_value_block}
use Rattle.table.specs.Lays.{Lays}
use Rattle.table.proofs.Views.{as-block, as-value-block}
use Rattle.walk.specs.declared.codes.Instr.{Instr}
use Rattle.walk.specs.declared.codes.Code.{Code}
use Rattle.walk.specs.Bind.{bind, beside}
use Rattle.walk.specs.Lay.{live}
use Rattle.walk.specs.Scopes.{Env}
use Rattle.walk.specs.Types.{Tallied}
use Rattle.walk.specs.Expressions.{calling, walk_statement}
use Rattle.walk.specs.Walked.{Gave, Grew, GrewCall, GrewOne}

-- one thing after another, where the first goes through, and where it is refused
pub goes : {A B : Type 0} {r : Result A Fault} {a : A} (f : A → Result B Fault) → r ≡ Ok a → bind r f ≡ f a
goes f e = ap (λ x. bind x f) e

pub breaks : {A B : Type 0} {r : Result A Fault} {y : Fault} (f : A → Result B Fault) → r ≡ Err y → bind r f ≡ Err y
breaks f e = ap (λ x. bind x f) e

-- an answer that is the same as another
pub gave-same : {A B : Type 0} (f : A → B) (r : Result A Fault) (code : Code) {x y : Result (B × List Instr) Fault} → x ≡ y → Gave f r code y → Gave f r code x
gave-same f r code e g = subst (λ z. Gave f r code z) (sym e) g

-- what came out stands beside the code
pub gave-beside : {A : Type 0} (r v : Result A Fault) (code : Code) (x : Result (A × List Instr) Fault) → r ≡ v → x ≡ beside v (live code) → Gave (λ t. t) r code x
gave-beside (Ok a) v code x e g = g ∙ ap (λ w. beside w (live code)) (sym e)
gave-beside (Err y) v code x e g = g ∙ ap (λ w. beside w (live code)) (sym e)

-- a call leaves room for one more
pub grew-call : (r : Result ValueType Fault) (table : List Node) (before after i end : ℕ) → GrewCall r table before after i end → Grew r table before after i end
grew-call (Ok a) table before after i end g = (g.0, omega (arith, g.1), g.2, g.3)
grew-call (Err e) table before after i end g = tt

pub grew-judged : (r : Result ValueType Fault) (table : List Node) (before after i end : ℕ) → before ≤ after → after + 3 * i + 1 ≤ before + 3 * end → i < end → end ≤ length table → GrewCall r table before after i end
grew-judged (Ok a) table before after i end g h k l = (g, h, k, l)
grew-judged (Err e) table before after i end g h k l = tt

-- the kind that the code has decided
pub decided : (table : List Node) (i : ℕ) {n : Node} {o : Option Kind} {j : Kind} {k : Kind} → n ≡ node_at table i → o ≡ kind_at n.kind → o ≡ Some j → j ≡ k → kind_at (node_at table i).kind ≡ Some k
decided table i a b d e = ap (λ n. kind_at n.kind) (sym a) ∙ sym b ∙ d ∙ ap Some e

-- a block and a value block, in their parts
pub block_at : (table : List Node) (i : ℕ) (b : Block) → Lays (of_block b) table i → (p : ℕ) × (s : Statement) × (ss : Statements) × (b ≡ block p s ss) × Lays (of_block (block p s ss)) table i
block_at table i b l =
    let v = as-block b in
    (v.0, v.1, v.2, v.3, subst (λ a. Lays (of_block a) table i) v.3 l)

pub value-block-at : (table : List Node) (i : ℕ) (b : ValueBlock) → Lays (of_value_block b) table i → (p : ℕ) × (ss : Statements) × (e : Expression) × (b ≡ value_block p ss e) × Lays (of_value_block (value_block p ss e)) table i
value-block-at table i b l =
    let v = as-value-block b in
    (v.0, v.1, v.2, v.3, subst (λ a. Lays (of_value_block a) table i) v.3 l)

-- place and name as the code has read them
module _ (env : Env) (flags : List Bool) (code : List Instr) {a b p x : ℕ} (place : a ≡ p) (name : b ≡ x) where
  pub same-assignment : (e : Expression) → walk_statement env (assignment p x e) flags code ≡ walk_statement env (assignment a b e) flags code
  same-assignment e =
      sym (ap (λ q. walk_statement env (assignment q b e) flags code) place ∙ ap (λ y. walk_statement env (assignment p y e) flags code) name)

  pub same-calling : (f : Tallied → List Instr → Result (Tallied × List Instr) Fault) → calling env p x code f ≡ calling env a b code f
  same-calling f = sym (ap (λ q. calling env q b code f) place ∙ ap (λ y. calling env p y code f) name)

-- a node with one instruction and no child
pub grew-one : (r : Result ValueType Fault) (table : List Node) (before after i end : ℕ) → i < length table → i + 1 ≡ end → GrewOne r before after → Grew r table before after i end
grew-one (Ok a) table before after i end h e g = (omega arith, omega arith, omega arith, omega arith)
grew-one (Err y) table before after i end h e g = tt

-- statements inside a node, and an expression after them
pub grew-inner : (r : Result ValueType Fault) (table : List Node) (before between after i at end : ℕ) → before ≤ between → between + 3 * (i + 1) ≤ before + 3 * at → i + 1 ≤ at → end_at table at ≡ end → Grew r table between after at (end_at table at) → Grew r table before after i end
grew-inner (Ok a) table before between after i at end b h k e g = (omega (arith, g.0), omega (arith, g.1), omega (arith, g.2), omega (arith, g.3))
grew-inner (Err y) table before between after i at end b h k e g = tt
