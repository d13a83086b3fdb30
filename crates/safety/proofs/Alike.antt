-- Statements change nothing of the scopes but the statuses of variables. Assumes nothing.
use Rattle.std.proofs.Common.{ℕ, Bool, true, false, cond, eqb, List, [], ◌∷◌}
use Rattle.language.specs.declared.values.ValueType.{ValueType}
use Rattle.table.specs.Tree.{Statement, Statements, Block}
use Rattle.rules.specs.Resolved.{Action, Actions}
use Rattle.rules.specs.Evaluate.{Slots}
use Rattle.rules.specs.Evaluate.{Env as Chain}
use Rattle.typing.specs.Scopes.{Status, Named, Binding, Scope, Env, bind, find, initialised, set_in, is_there, set, worse, choose_named, choose_scope, choose}
use Rattle.typing.specs.Scopes.Status.{dec, init}
use Rattle.typing.specs.Scopes.Named.{variable, function}
use Rattle.typing.specs.Rules.{Runs, RunsAll, RunsBlock}
use Rattle.safety.proofs.Worlds.{Shape}
use Rattle.safety.proofs.Scoped.{Signature, Stands, Each, Describes, Marked, Sets}

-- the same but for the status
pub data AlikeNamed : Named → Named → Type 0 where
  a_variable : {s s' : Status} {t : ValueType} {k : ℕ} → AlikeNamed (variable s t k) (variable s' t k)
  a_function : {n : ℕ} {ts : List ValueType} {t : ValueType} → AlikeNamed (function n ts t) (function n ts t)

pub data AlikeScope : Scope → Scope → Type 0 where
  no_names : AlikeScope [] []
  one_name : {b c : Binding} {bs cs : Scope} → AlikeNamed b.named c.named → AlikeScope bs cs → AlikeScope (b ∷ bs) (c ∷ cs)

pub data Alike : Env → Env → Type 0 where
  no_scopes : Alike [] []
  one_scope : {a b : Scope} {Γ Δ : Env} → AlikeScope a b → Alike Γ Δ → Alike (a ∷ Γ) (b ∷ Δ)

alike_named-refl : (n : Named) → AlikeNamed n n
alike_named-refl (variable s t k) = AlikeNamed.a_variable
alike_named-refl (function n ts t) = AlikeNamed.a_function

alike_named-trans : {a b c : Named} → AlikeNamed a b → AlikeNamed b c → AlikeNamed a c
alike_named-trans AlikeNamed.a_variable AlikeNamed.a_variable = AlikeNamed.a_variable
alike_named-trans AlikeNamed.a_function AlikeNamed.a_function = AlikeNamed.a_function

alike_scope-refl : (s : Scope) → AlikeScope s s
alike_scope-refl [] = AlikeScope.no_names
alike_scope-refl (b ∷ s) = AlikeScope.one_name (alike_named-refl b.named) (alike_scope-refl s)

alike_scope-trans : {a b c : Scope} → AlikeScope a b → AlikeScope b c → AlikeScope a c
alike_scope-trans AlikeScope.no_names AlikeScope.no_names = AlikeScope.no_names
alike_scope-trans (AlikeScope.one_name n r) (AlikeScope.one_name m q) = AlikeScope.one_name (alike_named-trans n m) (alike_scope-trans r q)

pub alike_refl : (Γ : Env) → Alike Γ Γ
alike_refl [] = Alike.no_scopes
alike_refl (s ∷ Γ) = Alike.one_scope (alike_scope-refl s) (alike_refl Γ)

pub alike-trans : {a b c : Env} → Alike a b → Alike b c → Alike a c
alike-trans Alike.no_scopes Alike.no_scopes = Alike.no_scopes
alike-trans (Alike.one_scope n r) (Alike.one_scope m q) = Alike.one_scope (alike_scope-trans n m) (alike-trans r q)

alike-initialised : (n : Named) → AlikeNamed n (initialised n)
alike-initialised (variable s t k) = AlikeNamed.a_variable
alike-initialised (function n ts t) = AlikeNamed.a_function

alike-set_in : (x : ℕ) (scope : Scope) → AlikeScope scope (set_in x scope)
alike-set_in x [] = AlikeScope.no_names
alike-set_in x (b ∷ scope) = at (eqb b.name x) (alike-set_in x scope)
  where
    at : (q : Bool) → AlikeScope scope (set_in x scope) → AlikeScope (b ∷ scope) (cond q (bind b.name (initialised b.named) ∷ scope) (b ∷ set_in x scope))
    at true r = AlikeScope.one_name (alike-initialised b.named) (alike_scope-refl scope)
    at false r = AlikeScope.one_name (alike_named-refl b.named) r

pub alike_set : (x : ℕ) (Γ : Env) → Alike Γ (set x Γ)
alike_set x [] = Alike.no_scopes
alike_set x (scope ∷ Γ) = at (is_there (find x scope)) (alike_set x Γ)
  where
    at : (q : Bool) → Alike Γ (set x Γ) → Alike (scope ∷ Γ) (cond q (set_in x scope ∷ Γ) (scope ∷ set x Γ))
    at true r = Alike.one_scope (alike-set_in x scope) (alike_refl Γ)
    at false r = Alike.one_scope (alike_scope-refl scope) r

alike-choose_named : {n a b : Named} → AlikeNamed n a → AlikeNamed n b → AlikeNamed n (choose_named a b)
alike-choose_named AlikeNamed.a_variable AlikeNamed.a_variable = AlikeNamed.a_variable
alike-choose_named AlikeNamed.a_function AlikeNamed.a_function = AlikeNamed.a_function

alike-choose_scope : {n a b : Scope} → AlikeScope n a → AlikeScope n b → AlikeScope n (choose_scope a b)
alike-choose_scope AlikeScope.no_names AlikeScope.no_names = AlikeScope.no_names
alike-choose_scope (AlikeScope.one_name n r) (AlikeScope.one_name m q) = AlikeScope.one_name (alike-choose_named n m) (alike-choose_scope r q)

pub alike-choose : {n a b : Env} → Alike n a → Alike n b → Alike n (choose a b)
alike-choose Alike.no_scopes Alike.no_scopes = Alike.no_scopes
alike-choose (Alike.one_scope n r) (Alike.one_scope m q) = Alike.one_scope (alike-choose_scope n m) (alike-choose r q)

-- what the scopes before describe, those after describe
alike-stands : {sigs : List Signature} {shape : Shape} {a b : Named} → AlikeNamed a b → Stands sigs shape a → Stands sigs shape b
alike-stands AlikeNamed.a_variable (Stands.a_variable p) = Stands.a_variable p
alike-stands AlikeNamed.a_function (Stands.a_function p) = Stands.a_function p

alike-each : (sigs : List Signature) (shape : Shape) {a b : Scope} → AlikeScope a b → Each (Stands sigs shape) a → Each (Stands sigs shape) b
alike-each sigs shape AlikeScope.no_names e = tt
alike-each sigs shape (AlikeScope.one_name n r) e = (alike-stands n e.0, alike-each sigs shape r e.1)

pub alike-describes : {sigs : List Signature} {shape : Shape} {Γ Δ : Env} → Alike Γ Δ → Describes sigs shape Γ → Describes sigs shape Δ
alike-describes Alike.no_scopes Describes.no_scopes = Describes.no_scopes
alike-describes {sigs} (Alike.one_scope n r) (Describes.one_scope {ks} {shape} e d) = Describes.one_scope (alike-each sigs (ks ∷ shape) n e) (alike-describes r d)

-- after a choice that is set which either branch left set
left-named : {vs : Slots} {n a b : Named} → AlikeNamed n a → AlikeNamed n b → Marked vs a → Marked vs (choose_named a b)
left-named AlikeNamed.a_variable AlikeNamed.a_variable (Marked.set' s) = Marked.set' s
left-named AlikeNamed.a_variable AlikeNamed.a_variable Marked.declared = Marked.declared
left-named AlikeNamed.a_function AlikeNamed.a_function Marked.a_function = Marked.a_function

worse-dec : {vs : Slots} (s : Status) {t : ValueType} {k : ℕ} → Marked vs (variable (worse s dec) t k)
worse-dec dec = Marked.declared
worse-dec init = Marked.declared

right-named : {vs : Slots} {n a b : Named} → AlikeNamed n a → AlikeNamed n b → Marked vs b → Marked vs (choose_named a b)
right-named AlikeNamed.a_variable AlikeNamed.a_variable (Marked.set' s) = Marked.set' s
right-named (AlikeNamed.a_variable {s'}) AlikeNamed.a_variable Marked.declared = worse-dec s'
right-named AlikeNamed.a_function AlikeNamed.a_function Marked.a_function = Marked.a_function

left-scope : (vs : Slots) {n a b : Scope} → AlikeScope n a → AlikeScope n b → Each (Marked vs) a → Each (Marked vs) (choose_scope a b)
left-scope vs AlikeScope.no_names AlikeScope.no_names e = tt
left-scope vs (AlikeScope.one_name n r) (AlikeScope.one_name m q) e = (left-named n m e.0, left-scope vs r q e.1)

right-scope : (vs : Slots) {n a b : Scope} → AlikeScope n a → AlikeScope n b → Each (Marked vs) b → Each (Marked vs) (choose_scope a b)
right-scope vs AlikeScope.no_names AlikeScope.no_names e = tt
right-scope vs (AlikeScope.one_name n r) (AlikeScope.one_name m q) e = (right-named n m e.0, right-scope vs r q e.1)

pub sets-left : {n a b : Env} {env : Chain} → Alike n a → Alike n b → Sets a env → Sets (choose a b) env
sets-left Alike.no_scopes Alike.no_scopes Sets.no_scopes = Sets.no_scopes
sets-left (Alike.one_scope n r) (Alike.one_scope m q) (Sets.one_scope {vs = vs} e s) = Sets.one_scope (left-scope vs n m e) (sets-left r q s)

pub sets-right : {n a b : Env} {env : Chain} → Alike n a → Alike n b → Sets b env → Sets (choose a b) env
sets-right Alike.no_scopes Alike.no_scopes Sets.no_scopes = Sets.no_scopes
sets-right (Alike.one_scope n r) (Alike.one_scope m q) (Sets.one_scope {vs = vs} e s) = Sets.one_scope (right-scope vs n m e) (sets-right r q s)

-- each statement leaves the scopes alike
mutual
  pub alike_runs : {Γ Γ' : Env} {s : Statement} {a : Action} → Runs Γ s Γ' a → Alike Γ Γ'
  alike_runs {Γ} (Runs.var_stm {x = x} e v h) = alike_set x Γ
  alike_runs {Γ} (Runs.fun_stm h) = alike_refl Γ
  alike_runs {Γ} (Runs.if_stm Γ' h a) = alike_refl Γ
  alike_runs (Runs.if_else_stm Γ' Γ'' h a b) = alike-choose (alike-block a) (alike-block b)

  pub alike_all : {Γ Γ' : Env} {ss : Statements} {α : Actions} → RunsAll Γ ss Γ' α → Alike Γ Γ'
  alike_all {Γ} RunsAll.done = alike_refl Γ
  alike_all (RunsAll.then Γ' r rs) = alike-trans (alike_runs r) (alike_all rs)

  pub alike-block : {Γ Γ' : Env} {b : Block} {α : Actions} → RunsBlock Γ b Γ' α → Alike Γ Γ'
  alike-block (RunsBlock.in_block r) = alike_all r
