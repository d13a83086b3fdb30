-- Evaluation that does not come to trouble, and whose result is as promised. Assumes nothing.
use Rattle.std.proofs.Common.{ℕ, ◌<◌, Bool, true, false, cond, ltb, ◌++◌, length, ℤ, pos, negsuc, Some, None, Ok, Err, Option, Result, sym, subst}
use Rattle.std.proofs.lemmas.Bool.{lt-ltb}
use Rattle.language.specs.declared.faults.Halt.{Halt}
use Rattle.language.specs.declared.faults.Halt.TheVariants.{Troubled, Stopped}
use Rattle.language.specs.declared.faults.Stop.{Stop}
use Rattle.language.specs.declared.faults.Stop.TheVariants.{NoSuchNumber}
use Rattle.language.specs.declared.values.Value.{Value}
use Rattle.language.specs.declared.values.Value.TheVariants.{Number, Truth}
use Rattle.language.specs.declared.values.Operator.{Operator}
use Rattle.language.specs.declared.values.ValueType.{ValueType}
use Rattle.language.specs.declared.values.ValueType.TheVariants as types
use Rattle.language.specs.Operators.{applied}
use Rattle.language.specs.Operators.{number as as_number}
use Rattle.host.specs.Serves.{Serves, numbered, from_host, amount_at, flag_at, post_at}
use Rattle.rules.specs.Evaluate.{Env, Eval, and_then, some, wanted, valued, answered, charged, back_under, reaching, either, nothing_of, given, typed}
use Rattle.typing.specs.Rules.{Operates, Valued}
use Rattle.safety.specs.Safety.{Is}

-- not in trouble, and the result, if any, is as promised of it and of the environment then
pub data Fine {S A : Type 0} (P : A → Env → Type 0) : Eval S A → Type 0 where
  done : {a : A} {env : Env} {s : S} → P a env → Fine P (Eval.done a env s)
  stopped : {c : Stop} {p : ℕ} {s : S} → Fine P (Eval.stopped c p s)
  too_deep : Fine P Eval.too_deep

pub fine-map : {S A : Type 0} {P Q : A → Env → Type 0} {r : Eval S A} → ((a : A) (env : Env) → P a env → Q a env) → Fine P r → Fine Q r
fine-map f (Fine.done p) = Fine.done (f _ _ p)
fine-map f Fine.stopped = Fine.stopped
fine-map f Fine.too_deep = Fine.too_deep

pub fine-then : {S A B : Type 0} {P : A → Env → Type 0} {Q : B → Env → Type 0} {r : Eval S A} (f : A → Env → S → Eval S B) → Fine P r → ((a : A) (env : Env) (s : S) → P a env → Fine Q (f a env s)) → Fine Q (and_then r f)
fine-then f (Fine.done p) k = k _ _ _ p
fine-then f Fine.stopped k = Fine.stopped
fine-then f Fine.too_deep k = Fine.too_deep

-- a truth value where one is wanted
some-truth : {S B : Type 0} {Q : B → Env → Type 0} {v : Option Value} {env : Env} {s : S} (f : Value → Env → S → Eval S B) → Is types.Bool v → ((b : Bool) → Fine Q (f (Truth b) env s)) → Fine Q (some v env s f)
some-truth f Is.truth k = k _

some_number : {S B : Type 0} {Q : B → Env → Type 0} {v : Option Value} {env : Env} {s : S} (f : Value → Env → S → Eval S B) → Is types.Int v → ((z : ℤ) → Fine Q (f (Number z) env s)) → Fine Q (some v env s f)
some_number f Is.number k = k _

some-value : {S B : Type 0} {Q : B → Env → Type 0} {t : ValueType} {v : Option Value} {env : Env} {s : S} (f : Value → Env → S → Eval S B) → Valued t → Is t v → ((w : Value) → Is t (Some w) → Fine Q (f w env s)) → Fine Q (some v env s f)
some-value f Valued.int Is.number k = k _ Is.number
some-value f Valued.bool Is.truth k = k _ Is.truth

pub fine-truth : {S B : Type 0} {R : Env → Type 0} {Q : B → Env → Type 0} {r : Eval S (Option Value)} (f : Value → Env → S → Eval S B) → Fine (λ v env. Is types.Bool v × R env) r → ((b : Bool) (env : Env) (s : S) → R env → Fine Q (f (Truth b) env s)) → Fine Q (wanted r f)
fine-truth f (Fine.done p) k = some-truth f p.0 (λ b. k b _ _ p.1)
fine-truth f Fine.stopped k = Fine.stopped
fine-truth f Fine.too_deep k = Fine.too_deep

pub fine-number : {S B : Type 0} {R : Env → Type 0} {Q : B → Env → Type 0} {r : Eval S (Option Value)} (f : Value → Env → S → Eval S B) → Fine (λ v env. Is types.Int v × R env) r → ((z : ℤ) (env : Env) (s : S) → R env → Fine Q (f (Number z) env s)) → Fine Q (wanted r f)
fine-number f (Fine.done p) k = some_number f p.0 (λ z. k z _ _ p.1)
fine-number f Fine.stopped k = Fine.stopped
fine-number f Fine.too_deep k = Fine.too_deep

pub fine-value : {S B : Type 0} {R : Env → Type 0} {Q : B → Env → Type 0} {t : ValueType} {r : Eval S (Option Value)} (f : Value → Env → S → Eval S B) → Valued t → Fine (λ v env. Is t v × R env) r → ((w : Value) (env : Env) (s : S) → Is t (Some w) → R env → Fine Q (f w env s)) → Fine Q (wanted r f)
fine-value f t (Fine.done p) k = some-value f t p.0 (λ w i. k w _ _ i p.1)
fine-value f t Fine.stopped k = Fine.stopped
fine-value f t Fine.too_deep k = Fine.too_deep

-- operators on operands of their types
fine-result : {S : Type 0} {P : Option Value → Env → Type 0} (p : ℕ) (env : Env) (s : S) (r : Result ℤ Stop) → ((z : ℤ) → P (Some (Number z)) env) → Fine P (valued p env s (as_number r))
fine-result p env s (Ok z) k = Fine.done (k z)
fine-result p env s (Err c) k = Fine.stopped

pub fine-applied : {S : Type 0} {P : Option Value → Env → Type 0} {o : Operator} {a b c : ValueType} {v w : Value} (p : ℕ) (env : Env) (s : S) → Operates o a b c → Is a (Some v) → Is b (Some w) → ((x : Option Value) → Is c x → P x env) → Fine P (valued p env s (applied o v w))
fine-applied p env s Operates.multiplies Is.number Is.number k = fine-result p env s _ (λ z. k _ Is.number)
fine-applied p env s Operates.divides Is.number Is.number k = fine-result p env s _ (λ z. k _ Is.number)
fine-applied p env s Operates.adds Is.number Is.number k = fine-result p env s _ (λ z. k _ Is.number)
fine-applied p env s Operates.subtracts Is.number Is.number k = fine-result p env s _ (λ z. k _ Is.number)
fine-applied p env s Operates.less Is.number Is.number k = Fine.done (k _ Is.truth)
fine-applied p env s Operates.less_or_equal Is.number Is.number k = Fine.done (k _ Is.truth)
fine-applied p env s Operates.greater Is.number Is.number k = Fine.done (k _ Is.truth)
fine-applied p env s Operates.greater_or_equal Is.number Is.number k = Fine.done (k _ Is.truth)
fine-applied p env s Operates.equal_numbers Is.number Is.number k = Fine.done (k _ Is.truth)
fine-applied p env s Operates.equal_truths Is.truth Is.truth k = Fine.done (k _ Is.truth)
fine-applied p env s Operates.and Is.truth Is.truth k = Fine.done (k _ Is.truth)
fine-applied p env s Operates.or Is.truth Is.truth k = Fine.done (k _ Is.truth)

pub left-valued : {o : Operator} {a b c : ValueType} → Operates o a b c → Valued a
left-valued Operates.multiplies = Valued.int
left-valued Operates.divides = Valued.int
left-valued Operates.adds = Valued.int
left-valued Operates.subtracts = Valued.int
left-valued Operates.less = Valued.int
left-valued Operates.less_or_equal = Valued.int
left-valued Operates.greater = Valued.int
left-valued Operates.greater_or_equal = Valued.int
left-valued Operates.equal_numbers = Valued.int
left-valued Operates.equal_truths = Valued.bool
left-valued Operates.and = Valued.bool
left-valued Operates.or = Valued.bool

pub right-valued : {o : Operator} {a b c : ValueType} → Operates o a b c → Valued b
right-valued Operates.multiplies = Valued.int
right-valued Operates.divides = Valued.int
right-valued Operates.adds = Valued.int
right-valued Operates.subtracts = Valued.int
right-valued Operates.less = Valued.int
right-valued Operates.less_or_equal = Valued.int
right-valued Operates.greater = Valued.int
right-valued Operates.greater_or_equal = Valued.int
right-valued Operates.equal_numbers = Valued.int
right-valued Operates.equal_truths = Valued.bool
right-valued Operates.and = Valued.bool
right-valued Operates.or = Valued.bool

-- what a host turns down is a stop
abbrev pub Stops : {A : Type 0} → Result A Halt → Type 0
Stops (Ok a) = Unit {0}
Stops (Err (Stopped c)) = Unit {0}
Stops (Err (Troubled t)) = ⊥

host-stops : {A : Type 0} (r : Result A Stop) → Stops (from_host r)
host-stops (Ok a) = tt
host-stops (Err c) = tt

numbered-stops : (z : ℤ) → Stops (numbered z)
numbered-stops (pos n) = at (ltb n 256)
  where
    at : (b : Bool) → Stops (cond b (Ok n) (Err (Stopped NoSuchNumber)))
    at true = tt
    at false = tt
numbered-stops (negsuc n) = tt

amount-stops : {S : Type 0} (ops : Serves S) (s : S) (r : Result ℕ Halt) → Stops r → Stops (amount_at ops s r)
amount-stops ops s (Ok n) h = host-stops (ops.amount s n)
amount-stops ops s (Err (Stopped c)) h = tt
amount-stops ops s (Err (Troubled t)) h = absurd h

flag-stops : {S : Type 0} (ops : Serves S) (s : S) (r : Result ℕ Halt) → Stops r → Stops (flag_at ops s r)
flag-stops ops s (Ok n) h = host-stops (ops.flag s n)
flag-stops ops s (Err (Stopped c)) h = tt
flag-stops ops s (Err (Troubled t)) h = absurd h

post-stops : {S : Type 0} (ops : Serves S) (s : S) (z : ℤ) (r : Result ℕ Halt) → Stops r → Stops (post_at ops s z r)
post-stops ops s z (Ok n) h = host-stops (ops.post s n z)
post-stops ops s z (Err (Stopped c)) h = tt
post-stops ops s z (Err (Troubled t)) h = absurd h

fine-answered : {S A : Type 0} {P : Option Value → Env → Type 0} (p : ℕ) (env : Env) (s : S) (f : A → Value) (r : Result (A × S) Halt) → Stops r → ((a : A) → P (Some (f a)) env) → Fine P (answered p env s f r)
fine-answered p env s f (Ok r) h k = Fine.done (k r.0)
fine-answered p env s f (Err (Stopped c)) h k = Fine.stopped
fine-answered p env s f (Err (Troubled t)) h k = absurd h

fine-charged : {S : Type 0} {P : Option Value → Env → Type 0} (p : ℕ) (env : Env) (s : S) (r : Result S Halt) → Stops r → P None env → Fine P (charged p env s r)
fine-charged p env s (Ok r) h k = Fine.done k
fine-charged p env s (Err (Stopped c)) h k = Fine.stopped
fine-charged p env s (Err (Troubled t)) h k = absurd h

pub fine-amount : {S : Type 0} {P : Option Value → Env → Type 0} (ops : Serves S) (p : ℕ) (env : Env) (s : S) (z : ℤ) → ((a : ℤ) → P (Some (Number a)) env) → Fine P (answered p env s Number (amount_at ops s (numbered z)))
fine-amount ops p env s z k = fine-answered p env s Number (amount_at ops s (numbered z)) (amount-stops ops s (numbered z) (numbered-stops z)) k

pub fine-flag : {S : Type 0} {P : Option Value → Env → Type 0} (ops : Serves S) (p : ℕ) (env : Env) (s : S) (z : ℤ) → ((a : Bool) → P (Some (Truth a)) env) → Fine P (answered p env s Truth (flag_at ops s (numbered z)))
fine-flag ops p env s z k = fine-answered p env s Truth (flag_at ops s (numbered z)) (flag-stops ops s (numbered z) (numbered-stops z)) k

pub fine-post : {S : Type 0} {P : Option Value → Env → Type 0} (ops : Serves S) (p : ℕ) (env : Env) (s : S) (x z : ℤ) → P None env → Fine P (charged p env s (post_at ops s z (numbered x)))
fine-post ops p env s x z k = fine-charged p env s (post_at ops s z (numbered x)) (post-stops ops s z (numbered x) (numbered-stops x)) k

-- branches, calls and results
pub fine-either : {S A : Type 0} {P : A → Env → Type 0} (b : Bool) {x y : Eval S A} → Fine P x → Fine P y → Fine P (either b x y)
fine-either true f g = f
fine-either false f g = g

pub fine-reaching : {S A : Type 0} {P : A → Env → Type 0} (h : ℕ) (env : Env) {r : Eval S A} → h < length env → Fine P r → Fine P (reaching h env r)
fine-reaching {P = P} h env {r = r} l f = subst (λ b. Fine P (cond b r Eval.trouble)) (sym (lt-ltb h (length env) l)) f

pub fine_back : {S : Type 0} {P Q : Option Value → Env → Type 0} (front : Env) {r : Eval S (Option Value)} → Fine P r → ((v : Option Value) (env : Env) → P v env → Q v (front ++ env)) → Fine Q (back_under front r)
fine_back front (Fine.done p) k = Fine.done (k _ _ p)
fine_back front Fine.stopped k = Fine.stopped
fine_back front Fine.too_deep k = Fine.too_deep

pub fine-nothing : {S : Type 0} {P : Unit {0} → Env → Type 0} {v : Option Value} (env : Env) (s : S) → Is types.Void v → P tt env → Fine P (nothing_of v env s)
fine-nothing env s Is.nothing p = Fine.done p

pub fine-given : {S : Type 0} {P : Option Value → Env → Type 0} {t : ValueType} {v : Option Value} (env : Env) (s : S) → Is t v → P v env → Fine P (given t v env s)
fine-given env s Is.nothing p = Fine.done p
fine-given env s Is.number p = Fine.done p
fine-given env s Is.truth p = Fine.done p

pub fine-typed : {S : Type 0} {P : Option Value → Env → Type 0} {t : ValueType} {v : Option Value} (env : Env) (s : S) → Is t v → P v env → Fine P (typed t v env s)
fine-typed env s Is.nothing p = Fine.done p
fine-typed env s Is.number p = Fine.done p
fine-typed env s Is.truth p = Fine.done p
