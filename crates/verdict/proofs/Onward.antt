-- One thing after another: what goes through, and what went through. Assumes nothing.
use Rattle.std.proofs.Common.{◌≡◌, ℕ, Bool, true, false, cond, Ok, Err, Result, refl, ap, ◌∙◌, arith}
use Rattle.language.specs.declared.faults.Fault.{Fault}
use Rattle.language.specs.declared.values.ValueType.{ValueType}
use Rattle.language.specs.declared.values.ValueType.TheVariants.{Void, Int, Bool as Truths}
use Rattle.std.proofs.lemmas.Bool.{false≢true}
use Rattle.walk.specs.Bind.{bind, beside}
use Rattle.walk.specs.Types.{same_type, typed}

pub onward : {A B : Type 0} {x : Result A Fault} {a : A} {r : Result B Fault} (f : A → Result B Fault) → x ≡ Ok a → f a ≡ r → bind x f ≡ r
onward f e h = ap (λ y. bind y f) e ∙ h

pub along : {A B : Type 0} {x : Result A Fault} {a : A} (b : B) → x ≡ Ok a → beside x b ≡ Ok (a, b)
along b e = ap (λ y. beside y b) e

-- a type is itself
pub same-type : (t : ValueType) → same_type t t ≡ true
same-type Void = refl
same-type Int = refl
same-type Truths = refl

pub typed-right : {A : Type 0} (p : ℕ) (b : Bool) (a : A) → b ≡ true → typed p b a ≡ Ok a
typed-right p b a e = ap (λ c. typed p c a) e

-- what was refused is not accepted
pub refused : {A : Type 0} {C : Type 0} {e : Fault} {a : A} → ◌≡◌ {A = Result A Fault} (Err e) (Ok a) → C
refused h = let z : ◌≡◌ {A = ℕ} 0 1 = cc in absurd (omega arith)

-- what went through, one after another
pub bound : {A B : Type 0} (x : Result A Fault) (f : A → Result B Fault) {b : B} → bind x f ≡ Ok b → (a : A) × (x ≡ Ok a) × (f a ≡ Ok b)
bound (Ok a) f h = (a, refl, h)
bound (Err e) f h = refused h

pub same_ok : {A : Type 0} {a b : A} → ◌≡◌ {A = Result A Fault} (Ok a) (Ok b) → a ≡ b
same_ok h = cc

pub ok-parts : {A B : Type 0} {a c : A} {b d : B} → ◌≡◌ {A = Result (A × B) Fault} (Ok (a, b)) (Ok (c, d)) → (a ≡ c) × (b ≡ d)
ok-parts {A} {B} {a} {c} {b} {d} h =
    let q : ◌≡◌ {A = A × B} (a, b) (c, d) = same_ok h in
    (ap (λ p. p.0) q, ap (λ p. p.1) q)

pub besides : {A B : Type 0} (x : Result A Fault) (c : B) {a : A} {b : B} → beside x c ≡ Ok (a, b) → (x ≡ Ok a) × (c ≡ b)
besides (Ok a) c h =
    let k = ok-parts h in
    (ap Ok k.0, k.1)
besides (Err e) c h = refused h

pub right-typed : {A : Type 0} (p : ℕ) (b : Bool) (a : A) {c : A} → typed p b a ≡ Ok c → (b ≡ true) × (a ≡ c)
right-typed p true a h = (refl, cc)
right-typed p false a h = refused h

pub test-passed : (b : Bool) (e : Fault) {u : Unit {0}} → cond b (Ok tt) (Err e) ≡ Ok u → b ≡ true
test-passed true e h = refl
test-passed false e h = refused h

pub test-failed : (b : Bool) (e : Fault) {u : Unit {0}} → cond b (Err e) (Ok tt) ≡ Ok u → b ≡ false
test-failed true e h = refused h
test-failed false e h = refl

pub types_same : (a b : ValueType) → same_type a b ≡ true → a ≡ b
types_same Void Void h = refl
types_same Void Int h = absurd (false≢true h)
types_same Void Truths h = absurd (false≢true h)
types_same Int Void h = absurd (false≢true h)
types_same Int Int h = refl
types_same Int Truths h = absurd (false≢true h)
types_same Truths Void h = absurd (false≢true h)
types_same Truths Int h = absurd (false≢true h)
types_same Truths Truths h = refl
