-- What typing makes lawful is lawful for the machine. Assumes nothing.
use Rattle.std.proofs.Common.{ℕ, suc, arith}
use Rattle.rules.specs.Resolved.{Term, Terms, Action, Actions, Ending, Function, Functions, Rules}
use Rattle.rules.specs.Resolved.Term.{integer, truth, read, negation, operation, choice, call, amount, flag, post}
use Rattle.rules.specs.Resolved.Terms.{no_terms, term}
use Rattle.rules.specs.Resolved.Action.{assign, perform, perform_and_drop, if_then, if_else}
use Rattle.rules.specs.Resolved.Actions.{no_actions, action}
use Rattle.rules.specs.Resolved.Ending.{nothing, giving}
use Rattle.rules.specs.Resolved.Function.{function}
use Rattle.rules.specs.Resolved.Functions.{no_functions, more}
use Rattle.safety.specs.Lawful as typed
use Rattle.theory.specs.Lawful as machine

mutual
  fit-term : (n f : ℕ) (e : Term) → typed.LawfulTerm n f e → machine.LawfulTerm e
  fit-term n f (integer p k) h = h
  fit-term n f (truth p b) h = tt
  fit-term n f (read p x k) h = h.1
  fit-term n f (negation p e) h = fit-term n f e h
  fit-term n f (operation p o a b) h = (fit-term n f a h.0, fit-term n f b h.1)
  fit-term n f (choice p c s a t b) h =
      (fit-term n f c h.0, fit-actions n f s h.1, fit-term n f a h.2, fit-actions n f t h.3, fit-term n f b h.4)
  fit-term n f (call p k x es) h = fit-terms n f es h.2
  fit-term n f (amount p e) h = fit-term n f e h
  fit-term n f (flag p e) h = fit-term n f e h
  fit-term n f (post p a e) h = (fit-term n f a h.0, fit-term n f e h.1)

  fit-terms : (n f : ℕ) (es : Terms) → typed.LawfulTerms n f es → machine.LawfulTerms es
  fit-terms n f no_terms h = tt
  fit-terms n f (term e es) h = (fit-term n f e h.0, fit-terms n f es h.1)

  fit-action : (n f : ℕ) (a : Action) → typed.LawfulAction n f a → machine.LawfulAction a
  fit-action n f (assign p x k e) h = (h.1, fit-term n f e h.2)
  fit-action n f (perform e) h = fit-term n f e h
  fit-action n f (perform_and_drop p e) h = fit-term n f e h
  fit-action n f (if_then p c a) h = (fit-term n f c h.0, fit-actions n f a h.1)
  fit-action n f (if_else p c a b) h = (fit-term n f c h.0, fit-actions n f a h.1, fit-actions n f b h.2)

  fit-actions : (n f : ℕ) (as' : Actions) → typed.LawfulActions n f as' → machine.LawfulActions as'
  fit-actions n f no_actions h = tt
  fit-actions n f (action a rest) h = (fit-action n f a h.0, fit-actions n f rest h.1)

fit-ending : (n f : ℕ) (e : Ending) → typed.LawfulEnding n f e → machine.LawfulEnding e
fit-ending n f nothing h = tt
fit-ending n f (giving e) h = fit-term n f e h

mutual
  fit-function : (n f : ℕ) (g : Function) → typed.LawfulFunction n f g → machine.LawfulFunction g
  fit-function n f (function p t k o inner body ending) h =
      (omega (arith, h.1), fit-functions n (suc f) inner h.2, fit-actions n (suc f) body h.3, fit-ending n (suc f) ending h.4)

  fit-functions : (n f : ℕ) (fs : Functions) → typed.LawfulFunctions n f fs → machine.LawfulFunctions fs
  fit-functions n f no_functions h = tt
  fit-functions n f (more g gs) h = (fit-function n f g h.0, fit-functions n f gs h.1)

pub fit : (r : Rules) → typed.Lawful r → machine.Lawful r
fit r h = record {
  others = h.others;
  functions = fit-functions _ _ r.functions h.functions;
  actions = fit-actions _ _ r.actions h.actions;
  ending = fit-ending _ _ r.ending h.ending;
}
