-- Kinds, types and operators are told apart by their numbers. Assumes nothing.
use Rattle.std.proofs.Common.{◌≡◌, ℕ, Bool, true, false, cond, eqb, Some, Option, refl, ap, ◌∙◌, arith}
use Rattle.std.proofs.lemmas.Bool.{eqb-true}
use Rattle.std.proofs.lemmas.Option.{none-some, same_Some}
use Rattle.language.specs.declared.values.ValueType.{ValueType}
use Rattle.language.specs.declared.values.Operator.{Operator}
use Rattle.language.specs.Numbers.{type_number, operator_number}
use Rattle.table.specs.declared.kinds.Kind.{Kind}
use Rattle.table.specs.declared.kinds.Kind.TheVariants as kinds
use Rattle.table.specs.declared.kinds.Class.{Class}
use Rattle.table.specs.Kinds.{kind_number, kind_at}
use Rattle.table.specs.Forms.{class_number}

pub kind-back : (k : Kind) → kind_at (kind_number k) ≡ Some k
kind-back k = grind arith

pub kind-same : (j k : Kind) → kind_number j ≡ kind_number k → j ≡ k
kind-same j k e = grind arith

pub class-same : (c d : Class) → class_number c ≡ class_number d → c ≡ d
class-same c d e = grind arith

pub type-same : (t u : ValueType) → type_number t ≡ type_number u → t ≡ u
type-same t u e = grind arith

pub operator-same : (o r : Operator) → operator_number o ≡ operator_number r → o ≡ r
operator-same o r e = grind arith

-- one test of a row of them: it passes, or the others answer
tested : (n : ℕ) (x y : Kind) (others : Option Kind) → cond (eqb n (kind_number x)) (Some x) others ≡ Some y → (others ≡ Some y → n ≡ kind_number y) → n ≡ kind_number y
tested n x y others e f = by (eqb n (kind_number x)) refl e
  where
    by : (b : Bool) → eqb n (kind_number x) ≡ b → cond b (Some x) others ≡ Some y → n ≡ kind_number y
    by true t q = eqb-true n (kind_number x) t ∙ ap kind_number (same_Some _ _ q)
    by false t q = f q

pub kind-number : (n : ℕ) (k : Kind) → kind_at n ≡ Some k → n ≡ kind_number k
kind-number n k e =
    t kinds.Program e (λ e. t kinds.Variable e (λ e. t kinds.Function e (λ e. t kinds.Parameter e (λ e.
    t kinds.Body e (λ e. t kinds.Assignment e (λ e. t kinds.CallStatement e (λ e. t kinds.IfStatement e (λ e.
    t kinds.Block e (λ e. t kinds.Integer e (λ e. t kinds.Truth e (λ e. t kinds.Read e (λ e.
    t kinds.Not e (λ e. t kinds.Operator e (λ e. t kinds.IfExpression e (λ e. t kinds.ValueBlock e (λ e.
    t kinds.Call e (λ e. absurd (none-some _ e))))))))))))))))))
  where
    t : (x : Kind) {others : Option Kind} → cond (eqb n (kind_number x)) (Some x) others ≡ Some k → (others ≡ Some k → n ≡ kind_number k) → n ≡ kind_number k
    t x q f = tested n x k _ q f
