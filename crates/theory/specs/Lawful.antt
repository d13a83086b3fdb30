-- Resolved trees whose code is lawful: numbers that fit their operands. Assumes nothing.
use Rattle.std.specs.Prelude.{◌<◌, ◌≤◌}
use Rattle.rules.specs.Resolved.{Term, Terms, Action, Actions, Ending, Function, Functions, Rules}
use Rattle.rules.specs.Resolved.Term.{integer, truth, read, negation, operation, choice, call, amount, flag, post}
use Rattle.rules.specs.Resolved.Terms.{no_terms, term}
use Rattle.rules.specs.Resolved.Action.{assign, perform, perform_and_drop, if_then, if_else}
use Rattle.rules.specs.Resolved.Actions.{no_actions, action}
use Rattle.rules.specs.Resolved.Ending.{nothing, giving}
use Rattle.rules.specs.Resolved.Function.{function}
use Rattle.rules.specs.Resolved.Functions.{no_functions, more}

-- literals to 2,147,483,647, and slots below 256
abbrev mutual
  pub LawfulTerm : Term → Type 0
  LawfulTerm (integer p n) = n ≤ 2147483647
  LawfulTerm (truth p b) = Unit {0}
  LawfulTerm (read p h k) = k < 256
  LawfulTerm (negation p e) = LawfulTerm e
  LawfulTerm (operation p o a b) = LawfulTerm a × LawfulTerm b
  LawfulTerm (choice p c s a t b) = LawfulTerm c × LawfulActions s × LawfulTerm a × LawfulActions t × LawfulTerm b
  LawfulTerm (call p f h es) = LawfulTerms es
  LawfulTerm (amount p e) = LawfulTerm e
  LawfulTerm (flag p e) = LawfulTerm e
  LawfulTerm (post p a e) = LawfulTerm a × LawfulTerm e

  pub LawfulTerms : Terms → Type 0
  LawfulTerms no_terms = Unit {0}
  LawfulTerms (term e es) = LawfulTerm e × LawfulTerms es

  pub LawfulAction : Action → Type 0
  LawfulAction (assign p h k e) = (k < 256) × LawfulTerm e
  LawfulAction (perform e) = LawfulTerm e
  LawfulAction (perform_and_drop p e) = LawfulTerm e
  LawfulAction (if_then p c a) = LawfulTerm c × LawfulActions a
  LawfulAction (if_else p c a b) = LawfulTerm c × LawfulActions a × LawfulActions b

  pub LawfulActions : Actions → Type 0
  LawfulActions no_actions = Unit {0}
  LawfulActions (action a rest) = LawfulAction a × LawfulActions rest

abbrev pub LawfulEnding : Ending → Type 0
LawfulEnding nothing = Unit {0}
LawfulEnding (giving e) = LawfulTerm e

-- a function's other slots are below 256, and so are those of each function inside
abbrev mutual
  pub LawfulFunction : Function → Type 0
  LawfulFunction (function p t n o inner body ending) = (o < 256) × LawfulFunctions inner × LawfulActions body × LawfulEnding ending

  pub LawfulFunctions : Functions → Type 0
  LawfulFunctions no_functions = Unit {0}
  LawfulFunctions (more f fs) = LawfulFunction f × LawfulFunctions fs

-- a rule set, with all its functions
pub record Lawful (r : Rules) : Type 0 where
  pub others : r.others < 256
  pub functions : LawfulFunctions r.functions
  pub actions : LawfulActions r.actions
  pub ending : LawfulEnding r.ending
