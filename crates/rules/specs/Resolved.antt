-- What admission makes of a rule set: names are gone, each read or assignment has the hops to the frame that declared its variable and its slot there, each call has its function's number and the hops to the frame that declared it. Every node has its place. Assumes nothing.
use Rattle.std.specs.Prelude.{ℕ, Bool, List, [], ◌∷◌, ◌++◌}
use Rattle.language.specs.declared.values.ValueType.{ValueType}
use Rattle.language.specs.declared.values.Operator.{Operator}

-- terms are resolved expressions, actions are resolved statements
mutual
  pub data Term : Type 0 where
    integer : (place value : ℕ) → Term
    truth : (place : ℕ) (value : Bool) → Term
    read : (place hops slot : ℕ) → Term
    negation : (place : ℕ) → Term → Term
    operation : (place : ℕ) → Operator → Term → Term → Term
    -- condition; actions and value where it is true; actions and value where it is false
    choice : (place : ℕ) → Term → Actions → Term → Actions → Term → Term
    -- a function's number among all, in table order, and the hops to the frame that declared it
    call : (place function hops : ℕ) → Terms → Term
    -- the three calls to the host
    amount : (place : ℕ) → Term → Term
    flag : (place : ℕ) → Term → Term
    -- account, then value
    post : (place : ℕ) → Term → Term → Term

  -- the arguments of a call, in their order
  pub data Terms : Type 0 where
    no_terms : Terms
    term : Term → Terms → Terms

  pub data Action : Type 0 where
    assign : (place hops slot : ℕ) → Term → Action
    -- a call that gives nothing, and one whose result is dropped
    perform : Term → Action
    perform_and_drop : (place : ℕ) → Term → Action
    if_then : (place : ℕ) → Term → Actions → Action
    if_else : (place : ℕ) → Term → Actions → Actions → Action

  -- actions in their order
  pub data Actions : Type 0 where
    no_actions : Actions
    action : Action → Actions → Actions

-- what ends a body or a program
pub data Ending : Type 0 where
  nothing : Ending
  giving : Term → Ending

-- functions hold the functions that their bodies declare
mutual
  pub data Function : Type 0 where
    -- result type, number of parameters, number of other slots, functions declared inside, actions, ending
    function : (place : ℕ) → ValueType → (parameters others : ℕ) → Functions → Actions → Ending → Function

  pub data Functions : Type 0 where
    no_functions : Functions
    more : Function → Functions → Functions

-- its place, result type, number of slots, functions, actions and ending
pub record Rules : Type 0 where
  pub place : ℕ
  pub result : ValueType
  pub others : ℕ
  pub functions : Functions
  pub actions : Actions
  pub ending : Ending

-- all functions in table order: each before those declared inside it, and these before the next
abbrev mutual
  pub all : Functions → List Function
  all no_functions = []
  all (more f fs) = with_inner f ++ all fs

  pub with_inner : Function → List Function
  with_inner (function p t n q inner body ending) = function p t n q inner body ending ∷ all inner
