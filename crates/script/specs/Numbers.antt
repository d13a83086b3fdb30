-- The number that a word writes in decimal digits. Assumes nothing.
use Rattle.std.specs.Prelude.{ℕ, ◌+◌, ◌-◌, ◌*◌, Bool, false, cond, List, [], ◌∷◌, length, drop, ℤ, pos, neg_ℤ, Ok, Err, Result, ◌==◌, nat_le, slice_index}
use Rattle.script.specs.declared.problem.Problem.{Problem}
use Rattle.script.specs.declared.problem.Problem.TheVariants.{NotFlag, NotNumber, TooLarge}

abbrev pub digit : ℕ → Bool
digit b = cond (nat_le 48 b) (nat_le b 57) false

abbrev pub more : ℕ → ℕ → ℕ
more n b = n * 10 + (b - 48)

-- one digit more, up to the greatest word
abbrev pub one_more : ℕ → ℕ → Result ℕ Problem
one_more n b = cond (digit b) (cond (nat_le (more n b) 4294967295) (Ok (more n b)) (Err TooLarge)) (Err NotNumber)

-- one thing after another: the first problem is the answer
abbrev pub and_then : {A B : Type 0} → Result A Problem → (A → Result B Problem) → Result B Problem
and_then (Ok a) f = f a
and_then (Err e) f = Err e

-- digits read on from a number
unfoldable pub read_on : ℕ → List ℕ → Result ℕ Problem
read_on n [] = Ok n
read_on n (b ∷ bs) = and_then (one_more n b) (λ m. read_on m bs)

-- a word of 32 bits: one digit or more
unfoldable pub word_of : List ℕ → Result ℕ Problem
word_of bs = cond (length bs == 0) (Err NotNumber) (read_on 0 bs)

-- without a sign, up to the greatest number
abbrev pub positive : Result ℕ Problem → Result ℤ Problem
positive (Ok n) = cond (nat_le n 2147483647) (Ok (pos n)) (Err TooLarge)
positive (Err e) = Err e

-- after a minus, down to the least
abbrev pub negative : Result ℕ Problem → Result ℤ Problem
negative (Ok n) = cond (nat_le n 2147483648) (Ok (neg_ℤ (pos n))) (Err TooLarge)
negative (Err e) = Err e

-- a number of 32 bits, with a minus before it where it is below 0
abbrev pub signed_of : List ℕ → Result ℤ Problem
signed_of bs = cond (slice_index bs 0 == 45) (negative (word_of (drop 1 bs))) (positive (word_of bs))

-- 0 is false, 1 is true
abbrev pub truth_of : ℕ → Result Bool Problem
truth_of n = cond (nat_le n 1) (Ok (n == 1)) (Err NotFlag)

-- a truth value, written as 0 or 1
abbrev pub flag_of : List ℕ → Result Bool Problem
flag_of bs = and_then (word_of bs) truth_of
