-- The two limits beside the typing rules: names in open scopes, and how deep functions nest. Assumes nothing.
use Rattle.std.specs.Prelude.{ℕ, ◌+◌, ◌≤◌, length}
use Rattle.table.specs.Tree.{Declaration, Declarations, Body, Program}
use Rattle.table.specs.Tree.Declaration.{variable, function}
use Rattle.table.specs.Tree.Declarations.{no_declarations, declaration}
use Rattle.table.specs.Tree.Body.{body}
use Rattle.table.specs.Tree.Program.{single, whole}

-- With so many names in open scopes, hidden ones and the host's three counted, and functions nested so deep: no declaration makes more than 255 names, and none nests a function more than 32 deep. A function's parameters and its body's declarations are open until its end
abbrev mutual
  pub Fits : (names depth : ℕ) → Declaration → Type 0
  Fits names depth (variable p t x) = names + 1 ≤ 255
  Fits names depth (function p t x qs b) =
      (names + 1 ≤ 255) × (depth + 1 ≤ 32) × (names + 1 + length qs ≤ 255) × FitsBody (names + 1 + length qs) (depth + 1) b

  pub FitsAll : (names depth : ℕ) → Declarations → Type 0
  FitsAll names depth no_declarations = Unit {0}
  FitsAll names depth (declaration d ds) = Fits names depth d × FitsAll (names + 1) depth ds

  pub FitsBody : (names depth : ℕ) → Body → Type 0
  FitsBody names depth (body p ds ss f) = FitsAll names depth ds

-- a program begins with the host's three names
abbrev pub WithinNames : Program → Type 0
WithinNames (single p e) = Unit {0}
WithinNames (whole p d ds ss f) = FitsAll 3 0 (declaration d ds)
