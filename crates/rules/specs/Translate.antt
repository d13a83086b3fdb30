-- The code of a rule set: each instruction with the place of the node that it stands for, and the image that their codes and operands make. Assumes nothing.
use Rattle.std.specs.Prelude.{ℕ, ◌+◌, ◌*◌, Bool, true, false, List, [], ◌∷◌, ◌++◌, map, length, slice_index}
use Rattle.language.specs.declared.values.ValueType.{ValueType}
use Rattle.language.specs.declared.values.ValueType.TheVariants.{Void, Int, Bool as Truths}
use Rattle.language.specs.Numbers.{type_number, operator_number}
use Rattle.rules.specs.Resolved.{Term, Terms, Action, Actions, Ending, Function, Functions, Rules}
use Rattle.rules.specs.Resolved.Term.{integer, truth, read, negation, operation, choice, call, amount, flag, post}
use Rattle.rules.specs.Resolved.Terms.{no_terms, term}
use Rattle.rules.specs.Resolved.Action.{assign, perform, perform_and_drop, if_then, if_else}
use Rattle.rules.specs.Resolved.Actions.{no_actions, action}
use Rattle.rules.specs.Resolved.Ending.{nothing, giving}
use Rattle.rules.specs.Resolved.Function.{function}
use Rattle.rules.specs.Resolved.Functions.{no_functions, more}

-- an instruction: its code, its operand, and the place of its node
pub record Laid : Type 0 where
  pub code : ℕ
  pub operand : ℕ
  pub place : ℕ

abbrev pub laid : ℕ → ℕ → ℕ → Laid
laid c x p = record { code = c; operand = x; place = p }

abbrev pub truth_operand : Bool → ℕ
truth_operand false = 0
truth_operand true = 1

-- the operand of a return or an end: whether there is a value
abbrev pub gives : ValueType → ℕ
gives Void = 0
gives Int = 1
gives Truths = 1

-- the number of the code after a piece that begins at a number
abbrev mutual
  pub end_term : ℕ → Term → ℕ
  end_term p (integer q n) = p + 1
  end_term p (truth q b) = p + 1
  end_term p (read q h s) = p + 1
  end_term p (negation q e) = end_term p e + 1
  end_term p (operation q o a b) = end_term (end_term p a) b + 1
  end_term p (choice q c s a t b) = end_term (end_actions (end_term (end_actions (end_term p c + 1) s) a + 1) t) b
  end_term p (call q f h es) = end_terms (p + 1) es + 1
  end_term p (amount q e) = end_term p e + 1
  end_term p (flag q e) = end_term p e + 1
  end_term p (post q a v) = end_term (end_term p a) v + 1

  pub end_terms : ℕ → Terms → ℕ
  end_terms p no_terms = p
  end_terms p (term e es) = end_terms (end_term p e) es

  pub end_action : ℕ → Action → ℕ
  end_action p (assign q h s e) = end_term p e + 1
  end_action p (perform e) = end_term p e
  end_action p (perform_and_drop q e) = end_term p e + 1
  end_action p (if_then q c s) = end_actions (end_term p c + 1) s
  end_action p (if_else q c s t) = end_actions (end_actions (end_term p c + 1) s + 1) t

  pub end_actions : ℕ → Actions → ℕ
  end_actions p no_actions = p
  end_actions p (action a rest) = end_actions (end_action p a) rest

abbrev pub end_ending : ℕ → Ending → ℕ
end_ending p nothing = p
end_ending p (giving e) = end_term p e

-- a function is a jump past it, its entry, the functions declared inside, its actions and ending, and a return
abbrev mutual
  pub end_function : ℕ → Function → ℕ
  end_function p (function q t n o inner body ending) = end_ending (end_actions (end_functions (p + 2) inner) body) ending + 1

  pub end_functions : ℕ → Functions → ℕ
  end_functions p no_functions = p
  end_functions p (more f fs) = end_functions (end_function p f) fs

-- the number of each function's entry, in table order
abbrev mutual
  pub entries_of : ℕ → Function → List ℕ
  entries_of p (function q t n o inner body ending) = (p + 1) ∷ entries (p + 2) inner

  pub entries : ℕ → Functions → List ℕ
  entries p no_functions = []
  entries p (more f fs) = entries_of p f ++ entries (end_function p f) fs

-- the code of a piece that begins at a number, where functions have these entries
abbrev mutual
  pub emit_term : List ℕ → ℕ → Term → List Laid
  emit_term at p (integer q n) = laid 1 n q ∷ []
  emit_term at p (truth q b) = laid 2 (truth_operand b) q ∷ []
  emit_term at p (read q h s) = laid 3 (256 * h + s) q ∷ []
  emit_term at p (negation q e) = emit_term at p e ++ laid 16 0 q ∷ []
  emit_term at p (operation q o a b) = (emit_term at p a ++ emit_term at (end_term p a) b) ++ laid (operator_number o + 4) 0 q ∷ []
  emit_term at p (choice q c s a t b) =
      (((((emit_term at p c ++ laid 19 (end_term (end_actions (end_term p c + 1) s) a + 1) q ∷ []) ++ emit_actions at (end_term p c + 1) s) ++ emit_term at (end_actions (end_term p c + 1) s) a)
      ++ laid 18 (end_term (end_actions (end_term (end_actions (end_term p c + 1) s) a + 1) t) b) q ∷ []) ++ emit_actions at (end_term (end_actions (end_term p c + 1) s) a + 1) t)
      ++ emit_term at (end_actions (end_term (end_actions (end_term p c + 1) s) a + 1) t) b
  emit_term at p (call q f h es) = (laid 20 h q ∷ [] ++ emit_terms at (p + 1) es) ++ laid 21 (slice_index at f) q ∷ []
  emit_term at p (amount q e) = emit_term at p e ++ laid 24 0 q ∷ []
  emit_term at p (flag q e) = emit_term at p e ++ laid 25 0 q ∷ []
  emit_term at p (post q a v) = (emit_term at p a ++ emit_term at (end_term p a) v) ++ laid 26 0 q ∷ []

  pub emit_terms : List ℕ → ℕ → Terms → List Laid
  emit_terms at p no_terms = []
  emit_terms at p (term e es) = emit_term at p e ++ emit_terms at (end_term p e) es

  pub emit_action : List ℕ → ℕ → Action → List Laid
  emit_action at p (assign q h s e) = emit_term at p e ++ laid 4 (256 * h + s) q ∷ []
  emit_action at p (perform e) = emit_term at p e
  emit_action at p (perform_and_drop q e) = emit_term at p e ++ laid 17 0 q ∷ []
  emit_action at p (if_then q c s) =
      (emit_term at p c ++ laid 19 (end_actions (end_term p c + 1) s) q ∷ []) ++ emit_actions at (end_term p c + 1) s
  emit_action at p (if_else q c s t) =
      (((emit_term at p c ++ laid 19 (end_actions (end_term p c + 1) s + 1) q ∷ []) ++ emit_actions at (end_term p c + 1) s)
      ++ laid 18 (end_actions (end_actions (end_term p c + 1) s + 1) t) q ∷ [])
      ++ emit_actions at (end_actions (end_term p c + 1) s + 1) t

  pub emit_actions : List ℕ → ℕ → Actions → List Laid
  emit_actions at p no_actions = []
  emit_actions at p (action a rest) = emit_action at p a ++ emit_actions at (end_action p a) rest

abbrev pub emit_ending : List ℕ → ℕ → Ending → List Laid
emit_ending at p nothing = []
emit_ending at p (giving e) = emit_term at p e

abbrev mutual
  pub emit_function : List ℕ → ℕ → Function → List Laid
  emit_function at p (function q t n o inner body ending) =
      ((((laid 18 (end_ending (end_actions (end_functions (p + 2) inner) body) ending + 1) q ∷ laid 22 (256 * n + o) q ∷ [])
      ++ emit_functions at (p + 2) inner) ++ emit_actions at (end_functions (p + 2) inner) body)
      ++ emit_ending at (end_actions (end_functions (p + 2) inner) body) ending)
      ++ laid 23 (gives t) q ∷ []

  pub emit_functions : List ℕ → ℕ → Functions → List Laid
  emit_functions at p no_functions = []
  emit_functions at p (more f fs) = emit_function at p f ++ emit_functions at (end_function p f) fs

-- the code of a rule set: an entry, its functions, its actions and ending, and an end
abbrev pub translated : Rules → List Laid
translated r =
    (((laid 22 r.others r.place ∷ [] ++ emit_functions (entries 1 r.functions) 1 r.functions)
    ++ emit_actions (entries 1 r.functions) (end_functions 1 r.functions) r.actions)
    ++ emit_ending (entries 1 r.functions) (end_actions (end_functions 1 r.functions) r.actions) r.ending)
    ++ laid 27 (gives r.result) r.place ∷ []

-- the image: the number of codes, the result type, all codes, then all operands
abbrev pub image_of : List Laid → ValueType → List ℕ
image_of code result = length code ∷ type_number result ∷ (map (λ i. i.code) code ++ map (λ i. i.operand) code)

abbrev pub image : Rules → List ℕ
image r = image_of (translated r) r.result
