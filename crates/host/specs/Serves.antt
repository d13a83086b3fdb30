-- A host as what answers questions and takes postings, whatever it is inside. A meaning serves so; so does a script of answers. Assumes nothing.
use Rattle.std.specs.Prelude.{ℕ, Bool, cond, ℤ, pos, negsuc, Ok, Err, Result, nat_lt}
use Rattle.language.specs.declared.faults.Halt.{Halt}
use Rattle.language.specs.declared.faults.Halt.TheVariants.{Stopped}
use Rattle.language.specs.declared.faults.Stop.{Stop}
use Rattle.language.specs.declared.faults.Stop.TheVariants.{NoSuchNumber}
use Rattle.host.specs.Meaning.{Meaning, asked, posting}

-- fields and accounts have numbers from 0 to 255
abbrev pub numbered : ℤ → Result ℕ Halt
numbered (pos n) = cond (nat_lt n 256) (Ok n) (Err (Stopped NoSuchNumber))
numbered (negsuc n) = Err (Stopped NoSuchNumber)

-- what a host turns down stops the run
abbrev pub from_host : {A : Type 0} → Result A Stop → Result A Halt
from_host (Ok a) = Ok a
from_host (Err stop) = Err (Stopped stop)

-- asking and posting, on a state of any kind
pub record Serves (S : Type 0) : Type 0 where
  pub amount : S → ℕ → Result (ℤ × S) Stop
  pub flag : S → ℕ → Result (Bool × S) Stop
  pub post : S → ℕ → ℤ → Result S Stop

-- an answer, from a state that asking does not change
abbrev pub still : {A S : Type 0} → S → Result A Stop → Result (A × S) Stop
still s (Ok a) = Ok (a, s)
still s (Err stop) = Err stop

-- a meaning serves by what it means
abbrev pub by_meaning : Serves Meaning
by_meaning = record {
  amount = λ m field. still m (asked (m.amount field));
  flag = λ m field. still m (asked (m.flag field));
  post = posting;
}

-- a question, or a posting, at a number that may be none
abbrev pub amount_at : {S : Type 0} → Serves S → S → Result ℕ Halt → Result (ℤ × S) Halt
amount_at ops s (Ok field) = from_host (ops.amount s field)
amount_at ops s (Err h) = Err h

abbrev pub flag_at : {S : Type 0} → Serves S → S → Result ℕ Halt → Result (Bool × S) Halt
flag_at ops s (Ok field) = from_host (ops.flag s field)
flag_at ops s (Err h) = Err h

abbrev pub post_at : {S : Type 0} → Serves S → S → ℤ → Result ℕ Halt → Result S Halt
post_at ops s value (Ok account) = from_host (ops.post s account value)
post_at ops s value (Err h) = Err h
