-- What the host of one field and one line means. Assumes nothing.
use Rattle.std.specs.Prelude.{ℕ, cond, ℤ, pos, Some, None, Option, ◌==◌}
use Rattle.host.specs.declared.one_line.OneLine.{OneLine}
use Rattle.host.specs.Meaning.{Meaning}

-- the total of the one open account: 0, or what was posted
abbrev pub total : Option ℤ → ℤ
total None = pos 0
total (Some z) = z

-- one line is left until something is posted
abbrev pub lines : Option ℤ → ℕ
lines None = 1
lines (Some z) = 0

abbrev pub meaning : OneLine → Meaning
meaning h = record {
  amount = λ f. cond (f == h.field) (Some h.amount) None;
  flag = λ f. cond (f == h.field) (Some h.flag) None;
  account = λ a. cond (a == h.account) (Some (total h.posted)) None;
  lines = lines h.posted;
}
