-- What a host means to a run, and what asking and posting give. Assumes nothing.
use Rattle.std.specs.Prelude.{ℕ, ◌-◌, cond, ℤ, ◌+ℤ◌, Some, None, Ok, Err, Option, Result, ◌==◌, nat_lt}
use Rattle.std.proofs.Math.Bool as Bools
use Rattle.language.specs.declared.faults.Stop.{Stop}
use Rattle.language.specs.declared.faults.Stop.TheVariants.{NothingThere, PostingRefused}

-- For each field from 0 to 255 an amount or none and a flag or none; for each account from 0 to 255 its total, or none where it is closed; and the charge lines left
pub record Meaning : Type 0 where
  pub amount : ℕ → Option ℤ
  pub flag : ℕ → Option Bools.Bool
  pub account : ℕ → Option ℤ
  pub lines : ℕ

-- the totals of accounts that are open from 0 on below a number
abbrev pub opened : ℕ → (ℕ → ℤ) → ℕ → Option ℤ
opened accounts total account = cond (nat_lt account accounts) (Some (total account)) None

-- asking for what may not be there
abbrev pub asked : {A : Type 0} → Option A → Result A Stop
asked None = Err NothingThere
asked (Some a) = Ok a

-- after a posting that is taken: the account's total has risen by the value, one line less is left, and the rest stays
abbrev pub charged : Meaning → ℕ → ℤ → ℤ → Meaning
charged m account value total = record {
  amount = m.amount;
  flag = m.flag;
  account = λ a. cond (a == account) (Some (total +ℤ value)) (m.account a);
  lines = m.lines - 1;
}

-- a posting to an open account wants a line
abbrev pub taken : Meaning → ℕ → ℤ → ℤ → Result Meaning Stop
taken m account value total = cond (m.lines == 0) (Err PostingRefused) (Ok (charged m account value total))

-- a posting is refused just when the account is closed or no line is left
abbrev pub into : Meaning → ℕ → ℤ → Option ℤ → Result Meaning Stop
into m account value None = Err PostingRefused
into m account value (Some total) = taken m account value total

abbrev pub posting : Meaning → ℕ → ℤ → Result Meaning Stop
posting m account value = into m account value (m.account account)

-- what a posting that came out as p answers
abbrev pub answered : Result Meaning Stop → Result (Unit {0}) Stop
answered (Ok m) = Ok tt
answered (Err s) = Err s

-- the meaning after a posting that came out as p: a refused one changes nothing
abbrev pub left : Result Meaning Stop → Meaning → Meaning
left (Ok after) before = after
left (Err s) before = before
