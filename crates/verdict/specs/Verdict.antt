-- The walk accepts exactly what the typing rules give a type, within the limits, and its code is the translation. Assumes nothing.
use Rattle.std.specs.Prelude.{◌≡◌, List, map, Ok}
use Rattle.language.specs.declared.values.ValueType.{ValueType}
use Rattle.table.specs.Tree.{Program}
use Rattle.table.specs.Layout.{WithinLimits}
use Rattle.rules.specs.Resolved.{Rules}
use Rattle.rules.specs.Translate.{Laid, translated}
use Rattle.typing.specs.Rules.{IsTyped}
use Rattle.typing.specs.Limits.{WithinNames}
use Rattle.walk.specs.declared.codes.Instr.{Instr}
use Rattle.walk.specs.Programs.{walk_program}

-- an instruction without the place of its node
abbrev pub bare : Laid → Instr
bare l = record { code = l.code; operand = l.operand }

-- the code of a translation, without the places
abbrev pub plain : List Laid → List Instr
plain = map bare

-- what has a type, within the limits on names, is accepted, with that type and with its translation
abbrev pub AcceptsWhatIsTyped : Type 0
AcceptsWhatIsTyped = (p : Program) (t : ValueType) (r : Rules) → IsTyped p t r → WithinNames p → walk_program p ≡ Ok (t, plain (translated r))

-- what is accepted has that type, within the limits on names, and the code is its translation
abbrev pub TypedWhereAccepted : Type 0
TypedWhereAccepted =
    (p : Program) (t : ValueType) (code : List Instr) → WithinLimits p → walk_program p ≡ Ok (t, code)
    → (r : Rules) × IsTyped p t r × WithinNames p × (code ≡ plain (translated r))
