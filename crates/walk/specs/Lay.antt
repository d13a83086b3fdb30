-- The code laid so far, and how it grows. Assumes nothing.
use Rattle.std.specs.Prelude.{ℕ, List, [], ◌∷◌, ◌++◌, length, slice_set}
use Rattle.bounded_list.specs.Items.{items}
use Rattle.walk.specs.declared.codes.Instr.{Instr}
use Rattle.walk.specs.declared.codes.Code.{Code}

abbrev pub instr : ℕ → ℕ → Instr
instr c x = record { code = c; operand = x }

-- one more instruction
abbrev pub laid : List Instr → ℕ → ℕ → List Instr
laid code c x = code ++ instr c x ∷ []

-- one instruction in the place of another
abbrev pub patched : List Instr → ℕ → ℕ → ℕ → List Instr
patched code at c x = slice_set code at (instr c x)

-- a jump, laid before, that goes to what is laid next
abbrev pub aimed : List Instr → ℕ → ℕ → List Instr
aimed code at c = patched code at c (length code)

-- what is laid in the scratch
abbrev pub live : Code → List Instr
live s = items s.instrs

-- how many instructions are laid
abbrev pub count : Code → ℕ
count s = length (live s)
