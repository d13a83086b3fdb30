-- Runs worked out by hand, each from its image's words, the number of its cells and an allowance; computed by the definitions of the marked machine. Assumes nothing.
use Rattle.std.specs.Prelude.{◌≡◌, ℕ, ◌+◌, List, [], ◌∷◌, replicate, pos, negsuc, Some, None, slice_index}
use Rattle.language.specs.declared.faults.Halt.TheVariants.{Stopped}
use Rattle.language.specs.declared.faults.Stop.TheVariants.{DivisorZero, OutOfRange, NoRoom}
use Rattle.language.specs.declared.values.Value.TheVariants.{Number}
use Rattle.language.specs.declared.values.ValueType.TheVariants.{Int}
use Rattle.host.specs.Meaning.{Meaning}
use Rattle.machine.specs.declared.cells.Cell.TheVariants as cells
use Rattle.machine.specs.declared.registers.Outcome.{Outcome}
use Rattle.machine.specs.declared.registers.Outcome.TheVariants.{Paused, Finished, Halted}
use Rattle.machine.specs.Begin.{beginning}
use Rattle.machine.specs.Run.{Run, ran}

-- a host that has nothing
abbrev pub nothing : Meaning
nothing = record { amount = λ _. None; flag = λ _. None; account = λ _. None; lines = 0 }

-- steps and outcome
abbrev pub answer : Run → ℕ × Outcome
answer r = (r.steps, r.outcome)

-- the slots of the program's frame are the operand of code 0
abbrev pub slots : List ℕ → ℕ
slots words = slice_index words (2 + slice_index words 0)

-- a run of an image whose result is a number, on so many cells that other runs have left numbers in
abbrev pub run : List ℕ → ℕ → ℕ → ℕ × Outcome
run words room allowance =
    answer (ran words (record { count = slice_index words 0; result = Int }) allowance nothing (beginning (slots words) (replicate room (cells.Number (pos 99)))))

-- 1 + 2 * 3
abbrev pub sum : List ℕ
sum = 7 ∷ 1 ∷ 22 ∷ 1 ∷ 1 ∷ 1 ∷ 5 ∷ 7 ∷ 27 ∷ 0 ∷ 1 ∷ 2 ∷ 3 ∷ 0 ∷ 0 ∷ 1 ∷ []

-- a function of one parameter adds it to a variable of the program, one hop off: a = 5, then f(2)
abbrev pub outer_read : List ℕ
outer_read =
    13 ∷ 1 ∷ 22 ∷ 18 ∷ 22 ∷ 3 ∷ 3 ∷ 7 ∷ 23 ∷ 1 ∷ 4 ∷ 20 ∷ 1 ∷ 21 ∷ 27 ∷ 1 ∷ 7 ∷ 256 ∷ 256 ∷ 0 ∷ 0 ∷ 1 ∷ 5 ∷ 0 ∷ 0 ∷ 2 ∷ 2 ∷ 1 ∷ []

-- (0 - 7) / 2
abbrev pub toward_zero : List ℕ
toward_zero = 7 ∷ 1 ∷ 22 ∷ 1 ∷ 1 ∷ 8 ∷ 1 ∷ 6 ∷ 27 ∷ 0 ∷ 0 ∷ 7 ∷ 0 ∷ 2 ∷ 0 ∷ 1 ∷ []

-- (0 - 2147483647 - 1) / (0 - 1)
abbrev pub least_over_minus_one : List ℕ
least_over_minus_one =
    11 ∷ 1 ∷ 22 ∷ 1 ∷ 1 ∷ 8 ∷ 1 ∷ 8 ∷ 1 ∷ 1 ∷ 8 ∷ 6 ∷ 27 ∷ 0 ∷ 0 ∷ 2147483647 ∷ 0 ∷ 1 ∷ 0 ∷ 0 ∷ 1 ∷ 0 ∷ 0 ∷ 1 ∷ []

-- 7 / 0
abbrev pub over_zero : List ℕ
over_zero = 5 ∷ 1 ∷ 22 ∷ 1 ∷ 1 ∷ 6 ∷ 27 ∷ 0 ∷ 7 ∷ 0 ∷ 0 ∷ 1 ∷ []

-- all of them, each with its steps and its outcome
abbrev pub Worked : Type 0
Worked =
    (run sum 100 10 ≡ (6, Finished (Some (Number (pos 7)))))
    × (run sum 100 4 ≡ (4, Paused))
    × (run sum 6 10 ≡ (2, Halted (Stopped NoRoom) 3))
    × (run outer_read 100 100 ≡ (11, Finished (Some (Number (pos 7)))))
    × (run toward_zero 100 100 ≡ (6, Finished (Some (Number (negsuc 2)))))
    × (run least_over_minus_one 100 100 ≡ (8, Halted (Stopped OutOfRange) 9))
    × (run over_zero 100 100 ≡ (2, Halted (Stopped DivisorZero) 3))
