-- Refusals of the walk, and one thing after another. Assumes nothing.
use Rattle.std.specs.Prelude.{ℕ, Ok, Err, Result}
use Rattle.language.specs.declared.faults.Cause.TheVariants as causes
use Rattle.language.specs.declared.faults.Fault.{Fault}
use Rattle.language.specs.declared.faults.WalkRefusal.{WalkRefusal}

-- refused, at the place of a node
abbrev pub refusal : ℕ → WalkRefusal → Fault
refusal p w = record { cause = causes.Walk w; place = p }

-- the first refusal is the answer
abbrev pub bind : {A B : Type 0} → Result A Fault → (A → Result B Fault) → Result B Fault
bind (Ok a) f = f a
bind (Err e) f = Err e

-- what came out, beside the code
abbrev pub beside : {A B : Type 0} → Result A Fault → B → Result (A × B) Fault
beside (Ok a) b = Ok (a, b)
beside (Err e) b = Err e
