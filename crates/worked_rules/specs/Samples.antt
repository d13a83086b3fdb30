-- Rule sets worked out by hand: what each evaluates to, and how the run of its image ends; computed by the definitions. Assumes nothing.
use Rattle.std.specs.Prelude.{◌≡◌, ℕ, true, false, cond, [], ◌∷◌, ℤ, pos, negsuc, Some, None, Option, ◌==◌}
use Rattle.language.specs.declared.faults.Halt.TheVariants.{Stopped}
use Rattle.language.specs.declared.faults.Stop.{Stop}
use Rattle.language.specs.declared.faults.Stop.TheVariants.{DivisorZero, OutOfRange, NoSuchNumber, PostingRefused}
use Rattle.language.specs.declared.values.Operator.TheVariants.{Multiply, Divide, Add, Subtract, Equal, And, Or}
use Rattle.language.specs.declared.values.Value.{Value}
use Rattle.language.specs.declared.values.Value.TheVariants.{Number, Truth}
use Rattle.language.specs.declared.values.ValueType.TheVariants.{Void, Int, Bool as Truths}
use Rattle.host.specs.Meaning.{Meaning}
use Rattle.host.specs.Serves.{by_meaning}
use Rattle.machine.specs.declared.registers.Outcome.{Outcome}
use Rattle.machine.specs.declared.registers.Outcome.TheVariants.{Finished, Halted}
use Rattle.stack.specs.Stack.{Run}
use Rattle.rules.specs.Resolved.{Rules, Term}
use Rattle.rules.specs.Resolved.Term.{integer, truth, read, operation, choice, call, flag, post}
use Rattle.rules.specs.Resolved.Terms.{no_terms, term}
use Rattle.rules.specs.Resolved.Action.{assign, perform, if_else}
use Rattle.rules.specs.Resolved.Actions.{no_actions, action}
use Rattle.rules.specs.Resolved.Ending.{nothing, giving}
use Rattle.rules.specs.Resolved.Function.{function}
use Rattle.rules.specs.Resolved.Functions.{no_functions, more}
use Rattle.rules.specs.Translate.{image}
use Rattle.rules.specs.Evaluate.{Eval, done, stopped, trouble, too_deep, evaluated}
use Rattle.theory.specs.Runs.{run_of}

-- a host that has nothing
abbrev pub empty : Meaning
empty = record { amount = λ _. None; flag = λ _. None; account = λ _. None; lines = 0 }

-- account 3 open at 0, and one line left
abbrev pub one_line : Meaning
one_line = record { amount = λ _. None; flag = λ _. None; account = λ a. cond (a == 3) (Some (pos 0)) None; lines = 1 }

-- how evaluation came out: a result, or a stop with its place; and what then is on account 3, with the lines left
pub data Came : Type 0 where
  with : Option Value → Option ℤ → ℕ → Came
  stops : Stop → (place : ℕ) → Option ℤ → ℕ → Came
  other : Came

abbrev pub came : Eval Meaning (Option Value) → Came
came (done v env m) = with v (m.account 3) m.lines
came (stopped c p m) = stops c p (m.account 3) m.lines
came trouble = other
came too_deep = other

-- how a run came out: its steps and outcome; and what then is on account 3, with the lines left
pub record Ended : Type 0 where
  pub steps : ℕ
  pub outcome : Outcome
  pub account : Option ℤ
  pub lines : ℕ

abbrev pub ended_as : Run Meaning → Ended
ended_as r = record { steps = r.steps; outcome = r.outcome; account = r.host.account 3; lines = r.host.lines }

abbrev pub evaluation : Rules → Meaning → Came
evaluation r m = came (evaluated by_meaning r 20 m)

abbrev pub runs : Rules → Meaning → Ended
runs r m = ended_as (run_of by_meaning r 200 300 m)

abbrev pub ended : ℕ → Outcome → Ended
ended n o = record { steps = n; outcome = o; account = None; lines = 0 }

-- a rule set that is one expression
abbrev pub only_int : Term → Rules
only_int e = record { place = 0; result = Int; others = 0; functions = no_functions; actions = no_actions; ending = giving e }

abbrev pub only_truth : Term → Rules
only_truth e = record { place = 0; result = Truths; others = 0; functions = no_functions; actions = no_actions; ending = giving e }

-- 1 + 2 * 3
abbrev pub sum : Rules
sum = only_int (operation 2 Add (integer 0 1) (operation 6 Multiply (integer 4 2) (integer 8 3)))

-- int s(int n) { if (n == 0) { 0 } else { n + s(n - 1) } } s(4)
abbrev pub series : Rules
series = record {
  place = 0;
  result = Int;
  others = 0;
  functions = more (function 4 Int 1 0 no_functions no_actions (giving (choice 15 (operation 21 Equal (read 19 0 0) (integer 24 0)) no_actions (integer 29 0) no_actions (operation 42 Add (read 40 0 0) (call 44 0 1 (term (operation 48 Subtract (read 46 0 0) (integer 50 1)) no_terms)))))) no_functions;
  actions = no_actions;
  ending = giving (call 57 0 0 (term (integer 59 4) no_terms));
}

-- int a; if (true) { a = 1; } else { a = 2; } a
abbrev pub both_branches : Rules
both_branches = record {
  place = 0;
  result = Int;
  others = 1;
  functions = no_functions;
  actions = action (if_else 7 (truth 11 true) (action (assign 19 0 0 (integer 23 1)) no_actions) (action (assign 35 0 0 (integer 39 2)) no_actions)) no_actions;
  ending = giving (read 44 0 0);
}

-- (0 - 7) / 2
abbrev pub toward_zero : Rules
toward_zero = only_int (operation 8 Divide (operation 3 Subtract (integer 1 0) (integer 5 7)) (integer 10 2))

-- (0 - 2147483647 - 1) / (0 - 1)
abbrev pub least_over_minus_one : Rules
least_over_minus_one =
    only_int (operation 21 Divide (operation 16 Subtract (operation 3 Subtract (integer 1 0) (integer 5 2147483647)) (integer 18 1)) (operation 26 Subtract (integer 24 0) (integer 28 1)))

-- 7 / 0
abbrev pub over_zero : Rules
over_zero = only_int (operation 2 Divide (integer 0 7) (integer 4 0))

-- true || false && false, grouped from the left
abbrev pub one_level : Rules
one_level = only_truth (operation 14 And (operation 5 Or (truth 0 true) (truth 8 false)) (truth 17 false))

-- true || 1 / 0 == 1: both operands are worked out
abbrev pub both_operands : Rules
both_operands = only_truth (operation 5 Or (truth 0 true) (operation 14 Equal (operation 10 Divide (integer 8 1) (integer 12 0)) (integer 17 1)))

-- int a; post(3, 40); post(3, 2);
abbrev pub postings : Rules
postings = record {
  place = 0;
  result = Void;
  others = 1;
  functions = no_functions;
  actions = action (perform (post 7 (integer 12 3) (integer 15 40))) (action (perform (post 20 (integer 25 3) (integer 28 2))) no_actions);
  ending = nothing;
}

-- flag(256)
abbrev pub no_such_field : Rules
no_such_field = only_truth (flag 0 (integer 5 256))

-- recursion, and a variable that a function inside assigns while three frames of the function around it are alive, each with its own; the inner parameter n hides the outer one:
-- int f(int n) { int b; void g(int n) { b = n; } b = 0; if (n == 0) { g(5); b } else { g(n) ; f(n - 1) + b } } f(2)
abbrev pub two_frames : Rules
two_frames = record {
  place = 0;
  result = Int;
  others = 0;
  functions = more (function 4 Int 1 1
      (more (function 25 Void 1 0 no_functions (action (assign 36 1 1 (read 40 0 0)) no_actions) nothing) no_functions)
      (action (assign 45 0 1 (integer 49 0)) no_actions)
      (giving (choice 52 (operation 58 Equal (read 56 0 0) (integer 61 0))
      (action (perform (call 66 1 0 (term (integer 68 5) no_terms))) no_actions) (read 72 0 1)
      (action (perform (call 83 1 0 (term (read 85 0 0) no_terms))) no_actions) (operation 99 Add (call 90 0 1 (term (operation 94 Subtract (read 92 0 0) (integer 96 1)) no_terms)) (read 101 0 1)))))
      no_functions;
  actions = no_actions;
  ending = giving (call 106 0 0 (term (integer 108 2) no_terms));
}

-- all of them: the image of the first, what each evaluates to, and how its run ends
abbrev pub Worked : Type 0
Worked =
    (image sum ≡ 7 ∷ 1 ∷ 22 ∷ 1 ∷ 1 ∷ 1 ∷ 5 ∷ 7 ∷ 27 ∷ 0 ∷ 1 ∷ 2 ∷ 3 ∷ 0 ∷ 0 ∷ 1 ∷ [])
    × (evaluation sum empty ≡ with (Some (Number (pos 7))) None 0)
    × (runs sum empty ≡ ended 6 (Finished (Some (Number (pos 7)))))
    × (evaluation series empty ≡ with (Some (Number (pos 10))) None 0)
    × (runs series empty ≡ ended 60 (Finished (Some (Number (pos 10)))))
    × (evaluation both_branches empty ≡ with (Some (Number (pos 1))) None 0)
    × (runs both_branches empty ≡ ended 7 (Finished (Some (Number (pos 1)))))
    × (evaluation toward_zero empty ≡ with (Some (Number (negsuc 2))) None 0)
    × (runs toward_zero empty ≡ ended 6 (Finished (Some (Number (negsuc 2)))))
    × (evaluation least_over_minus_one empty ≡ stops OutOfRange 21 None 0)
    × (runs least_over_minus_one empty ≡ ended 8 (Halted (Stopped OutOfRange) 9))
    × (evaluation over_zero empty ≡ stops DivisorZero 2 None 0)
    × (runs over_zero empty ≡ ended 2 (Halted (Stopped DivisorZero) 3))
    × (evaluation one_level empty ≡ with (Some (Truth false)) None 0)
    × (runs one_level empty ≡ ended 6 (Finished (Some (Truth false))))
    × (evaluation both_operands empty ≡ stops DivisorZero 10 None 0)
    × (runs both_operands empty ≡ ended 3 (Halted (Stopped DivisorZero) 4))
    × (evaluation postings one_line ≡ stops PostingRefused 20 (Some (pos 40)) 0)
    × (runs postings one_line ≡ record { steps = 5; outcome = Halted (Stopped PostingRefused) 6; account = Some (pos 40); lines = 0 })
    × (evaluation no_such_field empty ≡ stops NoSuchNumber 0 None 0)
    × (runs no_such_field empty ≡ ended 1 (Halted (Stopped NoSuchNumber) 2))
    × (evaluation two_frames empty ≡ with (Some (Number (pos 8))) None 0)
    × (runs two_frames empty ≡ ended 63 (Finished (Some (Number (pos 8)))))
