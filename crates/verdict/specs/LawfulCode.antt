-- The translation of what has a type, within the limits, is lawful code: each operand is one that its code may have. Assumes nothing.
use Rattle.std.specs.Prelude.{◌≡◌, ℕ, ◌<◌, ◌≤◌, List, map, length, slice_index}
use Rattle.language.specs.declared.values.ValueType.{ValueType}
use Rattle.table.specs.Tree.{Program}
use Rattle.table.specs.Layout.{WithinLimits}
use Rattle.rules.specs.Resolved.{Rules}
use Rattle.rules.specs.Translate.{Laid, translated}
use Rattle.typing.specs.Rules.{IsTyped}
use Rattle.typing.specs.Limits.{WithinNames}

-- the code at a number, and its operand
abbrev pub code_at : List Laid → ℕ → ℕ
code_at code k = slice_index (map (λ i. i.code) code) k

abbrev pub operand_at : List Laid → ℕ → ℕ
operand_at code k = slice_index (map (λ i. i.operand) code) k

-- a code and an operand that it may have, as part of some code
pub data LawfulFor (code : List Laid) : (number operand : ℕ) → Type 0 where
  number : {x : ℕ} → x ≤ 2_147_483_647 → LawfulFor code 1 x
  truth : {x : ℕ} → x ≤ 1 → LawfulFor code 2 x
  -- 256 times hops, at most 32, plus a slot below 256
  load : {x : ℕ} → x < 8_448 → LawfulFor code 3 x
  store : {x : ℕ} → x < 8_448 → LawfulFor code 4 x
  -- operators, not, and the drop of a value
  bare : {c : ℕ} → 5 ≤ c → c ≤ 17 → LawfulFor code c 0
  -- jumps go to code
  jump : {x : ℕ} → x < length code → LawfulFor code 18 x
  jump_if_false : {x : ℕ} → x < length code → LawfulFor code 19 x
  -- hops
  links : {x : ℕ} → x ≤ 32 → LawfulFor code 20 x
  -- a call goes to an entry
  call : {x : ℕ} → x < length code → code_at code x ≡ 22 → LawfulFor code 21 x
  -- 256 times the parameters plus the other slots, which are fewer than 256 together
  entry : {x : ℕ} → x < 65_536 → LawfulFor code 22 x
  return : {x : ℕ} → x ≤ 1 → LawfulFor code 23 x
  -- what is asked of the host
  ask : {c : ℕ} → 24 ≤ c → c ≤ 26 → LawfulFor code c 0
  end : {x : ℕ} → x ≤ 1 → LawfulFor code 27 x

-- every program that has a type and keeps to the limits on records, names and nesting: every instruction of its translation
abbrev pub LawfulCode : Type 0
LawfulCode =
    (p : Program) (t : ValueType) (r : Rules) → IsTyped p t r → WithinLimits p → WithinNames p
    → (k : ℕ) → k < length (translated r) → LawfulFor (translated r) (code_at (translated r) k) (operand_at (translated r) k)
