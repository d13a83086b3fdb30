-- Lawful resolved trees: literals, slots, hops and function numbers within their bounds. What the typing rules and the limits admit resolves to lawful ones. Assumes nothing.
use Rattle.std.specs.Prelude.{ℕ, suc, ◌+◌, ◌<◌, ◌≤◌, length}
use Rattle.language.specs.declared.values.ValueType.{ValueType}
use Rattle.table.specs.Tree.{Program}
use Rattle.table.specs.Layout.{WithinLimits}
use Rattle.rules.specs.Resolved.{Term, Terms, Action, Actions, Ending, Function, Functions, Rules, all}
use Rattle.rules.specs.Resolved.Term.{integer, truth, read, negation, operation, choice, call, amount, flag, post}
use Rattle.rules.specs.Resolved.Terms.{no_terms, term}
use Rattle.rules.specs.Resolved.Action.{assign, perform, perform_and_drop, if_then, if_else}
use Rattle.rules.specs.Resolved.Actions.{no_actions, action}
use Rattle.rules.specs.Resolved.Ending.{nothing, giving}
use Rattle.rules.specs.Resolved.Function.{function}
use Rattle.rules.specs.Resolved.Functions.{no_functions, more}
use Rattle.typing.specs.Rules.{IsTyped}
use Rattle.typing.specs.Limits.{WithinNames}

-- With so many functions in all, and so many frames on the chain: literals go to 2,147,483,647, hops stay within the chain, slots are below 256, and a called function is one of them
abbrev mutual
  pub LawfulTerm : (functions frames : ℕ) → Term → Type 0
  LawfulTerm functions frames (integer p n) = n ≤ 2_147_483_647
  LawfulTerm functions frames (truth p b) = Unit {0}
  LawfulTerm functions frames (read p h k) = (h < frames) × (k < 256)
  LawfulTerm functions frames (negation p e) = LawfulTerm functions frames e
  LawfulTerm functions frames (operation p o a b) = LawfulTerm functions frames a × LawfulTerm functions frames b
  LawfulTerm functions frames (choice p c s a t b) =
      LawfulTerm functions frames c ×
      LawfulActions functions frames s ×
      LawfulTerm functions frames a ×
      LawfulActions functions frames t ×
      LawfulTerm functions frames b
  LawfulTerm functions frames (call p f h es) = (f < functions) × (h < frames) × LawfulTerms functions frames es
  LawfulTerm functions frames (amount p e) = LawfulTerm functions frames e
  LawfulTerm functions frames (flag p e) = LawfulTerm functions frames e
  LawfulTerm functions frames (post p a e) = LawfulTerm functions frames a × LawfulTerm functions frames e

  pub LawfulTerms : (functions frames : ℕ) → Terms → Type 0
  LawfulTerms functions frames no_terms = Unit {0}
  LawfulTerms functions frames (term e es) = LawfulTerm functions frames e × LawfulTerms functions frames es

  pub LawfulAction : (functions frames : ℕ) → Action → Type 0
  LawfulAction functions frames (assign p h k e) = (h < frames) × (k < 256) × LawfulTerm functions frames e
  LawfulAction functions frames (perform e) = LawfulTerm functions frames e
  LawfulAction functions frames (perform_and_drop p e) = LawfulTerm functions frames e
  LawfulAction functions frames (if_then p c a) = LawfulTerm functions frames c × LawfulActions functions frames a
  LawfulAction functions frames (if_else p c a b) =
      LawfulTerm functions frames c × LawfulActions functions frames a × LawfulActions functions frames b

  pub LawfulActions : (functions frames : ℕ) → Actions → Type 0
  LawfulActions functions frames no_actions = Unit {0}
  LawfulActions functions frames (action a rest) = LawfulAction functions frames a × LawfulActions functions frames rest

abbrev pub LawfulEnding : (functions frames : ℕ) → Ending → Type 0
LawfulEnding functions frames nothing = Unit {0}
LawfulEnding functions frames (giving e) = LawfulTerm functions frames e

-- a function that is declared on a chain of so many frames, at most 32, works on one more; its frame has fewer than 256 slots; and so it is with those inside it
abbrev mutual
  pub LawfulFunction : (functions frames : ℕ) → Function → Type 0
  LawfulFunction functions frames (function p t n o inner body ending) =
      (frames ≤ 32) ×
      (n + o < 256) ×
      LawfulFunctions functions (suc frames) inner ×
      LawfulActions functions (suc frames) body ×
      LawfulEnding functions (suc frames) ending

  pub LawfulFunctions : (functions frames : ℕ) → Functions → Type 0
  LawfulFunctions functions frames no_functions = Unit {0}
  LawfulFunctions functions frames (more f fs) = LawfulFunction functions frames f × LawfulFunctions functions frames fs

-- a rule set, whose own frame is the only one at first
pub record Lawful (r : Rules) : Type 0 where
  pub others : r.others < 256
  pub functions : LawfulFunctions (length (all r.functions)) 1 r.functions
  pub actions : LawfulActions (length (all r.functions)) 1 r.actions
  pub ending : LawfulEnding (length (all r.functions)) 1 r.ending

-- every program that has a type and keeps to the limits on records, names and nesting
abbrev pub LawfulWhereTyped : Type 0
LawfulWhereTyped = (program : Program) (t : ValueType) (r : Rules) → IsTyped program t r → WithinLimits program → WithinNames program → Lawful r
