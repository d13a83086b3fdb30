-- A script of answers as a host: each question or posting takes the next answer, whatever is asked. Assumes nothing.
use Rattle.std.specs.Prelude.{◌≡◌, ℕ, ◌+◌, Bool, List, [], ◌∷◌, ℤ, Ok, Err, Result}
use Rattle.language.specs.declared.faults.Halt.{Halt}
use Rattle.language.specs.declared.faults.Stop.{Stop}
use Rattle.language.specs.declared.faults.Stop.TheVariants.{NothingThere}
use Rattle.host.specs.Meaning.{Meaning}
use Rattle.host.specs.Serves.{Serves, by_meaning}
use Rattle.image.specs.declared.instruction.Header.{Header}
use Rattle.machine.specs.declared.registers.Outcome.{Outcome}
use Rattle.machine.specs.declared.registers.Outcome.TheVariants.{Paused, Finished, Halted}
use Rattle.stack.specs.Stack.{Stack, Went, next, ended, Run, run}

-- what a host answered: an amount, a flag or a posting, there or not
pub data Answer : Type 0 where
  amount : Result ℤ Stop → Answer
  flag : Result Bool Stop → Answer
  post : Result (Unit {0}) Stop → Answer

abbrev pub Script : Type 0
Script = List Answer

-- what was answered, and the rest of the script
abbrev pub before : {A : Type 0} → Script → Result A Stop → Result (A × Script) Stop
before rest (Ok a) = Ok (a, rest)
before rest (Err stop) = Err stop

abbrev pub only_rest : Script → Result (Unit {0}) Stop → Result Script Stop
only_rest rest (Ok u) = Ok rest
only_rest rest (Err stop) = Err stop

-- a script that has run out, or has another answer next, has nothing there
abbrev pub next_amount : Script → Result (ℤ × Script) Stop
next_amount [] = Err NothingThere
next_amount (amount r ∷ rest) = before rest r
next_amount (flag r ∷ rest) = Err NothingThere
next_amount (post r ∷ rest) = Err NothingThere

abbrev pub next_flag : Script → Result (Bool × Script) Stop
next_flag [] = Err NothingThere
next_flag (amount r ∷ rest) = Err NothingThere
next_flag (flag r ∷ rest) = before rest r
next_flag (post r ∷ rest) = Err NothingThere

abbrev pub next_post : Script → Result Script Stop
next_post [] = Err NothingThere
next_post (amount r ∷ rest) = Err NothingThere
next_post (flag r ∷ rest) = Err NothingThere
next_post (post r ∷ rest) = only_rest rest r

abbrev pub by_script : Serves Script
by_script = record {
  amount = λ script field. next_amount script;
  flag = λ script field. next_flag script;
  post = λ script account value. next_post script;
}

-- a step with any host, as one with a script of which this rest is left
abbrev pub replayed : {S : Type 0} → Script → Result (Went S) Halt → Result (Went Script) Halt
replayed rest (Ok (next t s)) = Ok (next t rest)
replayed rest (Ok (ended v)) = Ok (ended v)
replayed rest (Err h) = Err h

-- one piece of a run: the host as it is then, and an allowance
pub record Piece : Type 0 where
  pub host : Meaning
  pub allowance : ℕ

-- how a run in pieces stands: its steps, its outcome and its stack
pub record Standing : Type 0 where
  pub steps : ℕ
  pub outcome : Outcome
  pub stack : Stack

abbrev pub standing : {S : Type 0} → Run S → Standing
standing r = record { steps = r.steps; outcome = r.outcome; stack = r.stack }

-- a run that has paused goes on with the next piece; one that has ended or halted stays so
abbrev pub go_on : Standing → (Stack → Standing) → Outcome → Standing
go_on r further Paused = record { steps = r.steps + (further r.stack).steps; outcome = (further r.stack).outcome; stack = (further r.stack).stack }
go_on r further (Finished v) = r
go_on r further (Halted h p) = r

-- a run in pieces, each with a host of its own
abbrev pub in_pieces : List ℕ → Header → ℕ → List Piece → Stack → Standing
in_pieces words header limit [] t = record { steps = 0; outcome = Paused; stack = t }
in_pieces words header limit (p ∷ ps) t =
    go_on (standing (run by_meaning words header limit p.allowance p.host t)) (in_pieces words header limit ps) (run by_meaning words header limit p.allowance p.host t).outcome

-- the allowances of all pieces
abbrev pub allowances : List Piece → ℕ
allowances [] = 0
allowances (p ∷ ps) = p.allowance + allowances ps

-- Whatever the hosts of its pieces are, a run in pieces is the run of one script of answers with all the allowances
abbrev pub PiecesAreOneScript : Type 0
PiecesAreOneScript =
    (words : List ℕ) (header : Header) (limit : ℕ) (pieces : List Piece) (t : Stack)
    → (script : Script) × (in_pieces words header limit pieces t ≡ standing (run by_script words header limit (allowances pieces) script t))
