-- Where the machine's steps lead, beside how evaluation comes out. Assumes nothing.
use Rattle.std.proofs.Common.{◌≡◌, ℕ, ◌+◌, ◌≤◌, Bool, true, false, cond, leb, List, ◌∷◌, ◌++◌, length, Some, None, Ok, Err, Option, Result, sym, refl, ap, ◌∙◌, subst}
use Rattle.std.proofs.lemmas.Bool.{leb-true}
use Rattle.language.specs.declared.faults.Halt.{Halt}
use Rattle.language.specs.declared.faults.Halt.TheVariants.{Troubled, Stopped}
use Rattle.language.specs.declared.faults.Stop.{Stop}
use Rattle.language.specs.declared.values.Value.{Value}
use Rattle.host.specs.Serves.{Serves}
use Rattle.machine.specs.declared.cells.Cell.{Cell}
use Rattle.machine.specs.Cells.{bind, cell_of}
use Rattle.machine.specs.State.{no_room}
use Rattle.stack.specs.Stack.{Stack, stack, Went, next, step, room, onward}
use Rattle.rules.specs.Evaluate.{Env, Eval, done, stopped, trouble, too_deep, and_then, some, wanted, valued, answered, charged}
use Rattle.theory.specs.Runs.{place_at}
use Rattle.theory.proofs.Standing.{Program, words, header}
use Rattle.theory.proofs.Represent.{Skeleton, Fits, flat, base_of}

-- what stays the same through a run: the host's operations, the program, the number of cells
pub record Setting (S : Type 0) : Type 0 where
  pub ops : Serves S
  pub program : Program
  pub limit : ℕ

abbrev pub step_of : {S : Type 0} → Setting S → S → Stack → Result (Went S) Halt
step_of x s t = step x.ops (words x.program) (header x.program) x.limit s t

-- the steps lead to where Q holds, or to where there is no room
pub data Leads {S : Type 0} (x : Setting S) (Q : S → Stack → Type 0) : S → Stack → Type 0 where
  here : {s : S} {t : Stack} → Q s t → Leads x Q s t
  full : {s : S} {t : Stack} → step_of x s t ≡ no_room → Leads x Q s t
  more : {s s' : S} {t t' : Stack} → step_of x s t ≡ Ok (next t' s') → Leads x Q s' t' → Leads x Q s t

pub leads-on : {S : Type 0} {x : Setting S} {Q R : S → Stack → Type 0} {s : S} {t : Stack} → Leads x Q s t → ((s : S) (t : Stack) → Q s t → Leads x R s t) → Leads x R s t
leads-on (here {s = s} {t = t} q) k = k s t q
leads-on (full e) k = full e
leads-on (more e l) k = more e (leads-on l k)

-- what holds then, by how evaluation comes out: K of a result; at a stop the machine's step is that stop, at a code laid for that place, with that host; nothing is claimed in trouble; D where calls nest too deep
abbrev pub After : {S A : Type 0} → Setting S → Type 0 → (A → Env → S → S → Stack → Type 0) → Eval S A → S → Stack → Type 0
After x D K (done a env s') s t = K a env s' s t
After x D K (stopped c q s') s t = (step_of x s t ≡ Err (Stopped c)) × (place_at x.program.code t.counter ≡ q) × (s ≡ s')
After x D K trouble s t = Unit {0}
After x D K too_deep s t = D

-- the machine comes to what evaluation comes to, or runs out of cells
pub record Comes {S A : Type 0} (x : Setting S) (D : Type 0) (K : A → Env → S → S → Stack → Type 0) (r : Eval S A) (s : S) (t : Stack) : Type 0 where
  pub leads : Leads x (After x D K r) s t

-- a result is reached: the host is evaluation's, and the stack is the one wanted, which represents the environment
abbrev pub Arrives : {S A : Type 0} → Skeleton → (A → Env → Stack) → A → Env → S → S → Stack → Type 0
Arrives sk want a env s' s t = (s ≡ s') × (t ≡ want a env) × Fits sk env

-- the stack with working cells over an environment, and with a value on it where there is one
abbrev pub conf : ℕ → Skeleton → List Cell → Env → Stack
conf k sk w env = stack k (base_of sk) (w ++ flat sk env)

abbrev pub value_at : ℕ → Skeleton → List Cell → Option Value → Env → Stack
value_at k sk w None env = conf k sk w env
value_at k sk w (Some v) env = conf k sk (cell_of v ∷ w) env

module _ {S : Type 0} {x : Setting S} {D : Type 0} where
  pub trouble-comes : {A : Type 0} {K : A → Env → S → S → Stack → Type 0} {s : S} {t : Stack} → Comes x D K trouble s t
  trouble-comes = record { leads = here tt }

  pub deep-comes : {A : Type 0} {K : A → Env → S → S → Stack → Type 0} {s : S} {t : Stack} → D → Comes x D K too_deep s t
  deep-comes d = record { leads = here d }

  pub done-comes : {A : Type 0} {sk : Skeleton} {want : A → Env → Stack} (a : A) {env : Env} {s : S} → Fits sk env → Comes x D (Arrives sk want) (done a env s) s (want a env)
  done-comes a fits = record { leads = here (refl, refl, fits) }

  pub stop-comes : {A : Type 0} {K : A → Env → S → S → Stack → Type 0} {c : Stop} {q : ℕ} {s : S} {t : Stack} → step_of x s t ≡ Err (Stopped c) → place_at x.program.code t.counter ≡ q → Comes x D K (stopped c q s) s t
  stop-comes e p = record { leads = here (e, p, refl) }

  pub more-comes : {A : Type 0} {K : A → Env → S → S → Stack → Type 0} {r : Eval S A} {s s' : S} {t t' : Stack} → step_of x s t ≡ Ok (next t' s') → Comes x D K r s' t' → Comes x D K r s t
  more-comes e c = record { leads = more e c.leads }

  -- on from a result
  pub then-comes : {A B : Type 0} {sk : Skeleton} {want : A → Env → Stack} {K : B → Env → S → S → Stack → Type 0} {f : A → Env → S → Eval S B} {r : Eval S A} {s : S} {t : Stack} → Comes x D (Arrives sk want) r s t → ((a : A) (env : Env) (s : S) → Fits sk env → Comes x D K (f a env s) s (want a env)) → Comes x D K (and_then r f) s t
  then-comes {sk} {want} {K} {f} {r} {s} {t} c k = record { leads = go r c.leads }
    where
      go : (r : Eval S _) → Leads x (After x D (Arrives sk want) r) s t → Leads x (After x D K (and_then r f)) s t
      go (done a env s') l =
          leads-on l
          (λ s t q. subst (λ z. Leads x (After x D K (f a env s')) z t) (sym q.0)
          (subst (λ z. Leads x (After x D K (f a env s')) s' z) (sym q.1) (k a env s' q.2).leads))
      go (stopped p q s') l = l
      go trouble l = here tt
      go too_deep l = l

  -- on from the same result
  pub same-comes : {A : Type 0} {sk : Skeleton} {want : A → Env → Stack} {K : A → Env → S → S → Stack → Type 0} {r : Eval S A} {s : S} {t : Stack} → Comes x D (Arrives sk want) r s t → ((a : A) (env : Env) (s : S) → Fits sk env → Comes x D K (done a env s) s (want a env)) → Comes x D K r s t
  same-comes {sk} {want} {K} {r} {s} {t} c k = record { leads = go r c.leads }
    where
      go : (r : Eval S _) → Leads x (After x D (Arrives sk want) r) s t → Leads x (After x D K r) s t
      go (done a env s') l =
          leads-on l
          (λ s t q. subst (λ z. Leads x (After x D K (done a env s')) z t) (sym q.0)
          (subst (λ z. Leads x (After x D K (done a env s')) s' z) (sym q.1) (k a env s' q.2).leads))
      go (stopped p q s') l = l
      go trouble l = here tt
      go too_deep l = l

  pub wanted-comes : {B : Type 0} {sk : Skeleton} {K : B → Env → S → S → Stack → Type 0} {f : Value → Env → S → Eval S B} {r : Eval S (Option Value)} {s : S} {t : Stack} (k : ℕ) (w : List Cell) → Comes x D (Arrives sk (value_at k sk w)) r s t → ((v : Value) (env : Env) (s : S) → Fits sk env → Comes x D K (f v env s) s (conf k sk (cell_of v ∷ w) env)) → Comes x D K (wanted r f) s t
  wanted-comes {sk} {K} {f} k w c onto = then-comes c go
    where
      go : (a : Option Value) (env : Env) (s : S) → Fits sk env → Comes x D K (some a env s f) s (value_at k sk w a env)
      go None env s fits = trouble-comes
      go (Some v) env s fits = onto v env s fits

  -- a step that wants room
  pub room-comes : {A : Type 0} {K : A → Env → S → S → Stack → Type 0} {r : Eval S A} {s : S} {t : Stack} (n : ℕ) (t' : Stack) → step_of x s t ≡ onward s (room x.limit n t.cells (Ok t')) → (length t.cells + n ≤ x.limit → Comes x D K r s t') → Comes x D K r s t
  room-comes {K} {r} {s} {t} n t' e k = go (leb (length t.cells + n) x.limit) refl
    where
      go : (b : Bool) → leb (length t.cells + n) x.limit ≡ b → Comes x D K r s t
      go true q = more-comes (e ∙ ap (λ b. onward s (cond b (Ok t') no_room)) q) (k (leb-true (length t.cells + n) x.limit q))
      go false q = record { leads = full (e ∙ ap (λ b. onward s (cond b (Ok t') no_room)) q) }

  -- a step that makes a value of an operation's result
  pub valued-comes : {q : ℕ} {sk : Skeleton} {env : Env} {s : S} {t : Stack} (k : ℕ) (w : List Cell) (r : Result Value Halt) → step_of x s t ≡ onward s (bind r (λ v. Ok (conf (k + 1) sk (cell_of v ∷ w) env))) → place_at x.program.code t.counter ≡ q → Fits sk env → Comes x D (Arrives sk (value_at (k + 1) sk w)) (valued q env s r) s t
  valued-comes k w (Ok v) e p fits = more-comes e (done-comes (Some v) fits)
  valued-comes k w (Err (Stopped c)) e p fits = stop-comes e p
  valued-comes k w (Err (Troubled c)) e p fits = trouble-comes

  -- a step that makes a value of the host's answer
  pub answered-comes : {A : Type 0} {q : ℕ} {sk : Skeleton} {env : Env} {s : S} {t : Stack} (k : ℕ) (w : List Cell) (f : A → Value) (r : Result (A × S) Halt) → step_of x s t ≡ bind r (λ a. Ok (next (conf (k + 1) sk (cell_of (f a.0) ∷ w) env) a.1)) → place_at x.program.code t.counter ≡ q → Fits sk env → Comes x D (Arrives sk (value_at (k + 1) sk w)) (answered q env s f r) s t
  answered-comes k w f (Ok a) e p fits = more-comes e (done-comes (Some (f a.0)) fits)
  answered-comes k w f (Err (Stopped c)) e p fits = stop-comes e p
  answered-comes k w f (Err (Troubled c)) e p fits = trouble-comes

  -- a step that posts
  pub charged-comes : {q : ℕ} {sk : Skeleton} {env : Env} {s : S} {t : Stack} (k : ℕ) (w : List Cell) (r : Result S Halt) → step_of x s t ≡ bind r (λ s. Ok (next (conf (k + 1) sk w env) s)) → place_at x.program.code t.counter ≡ q → Fits sk env → Comes x D (Arrives sk (value_at (k + 1) sk w)) (charged q env s r) s t
  charged-comes k w (Ok s') e p fits = more-comes e (done-comes None fits)
  charged-comes k w (Err (Stopped c)) e p fits = stop-comes e p
  charged-comes k w (Err (Troubled c)) e p fits = trouble-comes
