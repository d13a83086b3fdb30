-- The typing rules, as inductive relations between an environment, a tree, its type and what it resolves to. Assumes nothing.
use Rattle.std.specs.Prelude.{◌≡◌, ℕ, ◌+◌, Bool as Truths, List, [], ◌∷◌, length, None}
use Rattle.language.specs.declared.values.ValueType.{ValueType}
use Rattle.language.specs.declared.values.ValueType.TheVariants.{Void, Int, Bool}
use Rattle.language.specs.declared.values.Operator.{Operator}
use Rattle.language.specs.declared.values.Operator.TheVariants.{Multiply, Divide, Add, Subtract, Less, LessOrEqual, Greater, GreaterOrEqual, Equal, And, Or}
use Rattle.table.specs.Tree.{Expression, Arguments, Statement, Statements, Block, ValueBlock, Final, Parameter, Declaration, Declarations, Body, Program}
use Rattle.table.specs.Tree.Expression.{integer, truth, read, negation, operation, choice, call}
use Rattle.table.specs.Tree.Arguments.{no_arguments, argument}
use Rattle.table.specs.Tree.Statement.{assignment, call_statement, if_then, if_else}
use Rattle.table.specs.Tree.Statements.{no_statements, statement}
use Rattle.table.specs.Tree.Block.{block}
use Rattle.table.specs.Tree.ValueBlock.{value_block}
use Rattle.table.specs.Tree.Final.{no_final, final}
use Rattle.table.specs.Tree.Parameter.{parameter}
use Rattle.table.specs.Tree.Declaration.{variable as declare_variable, function as declare_function}
use Rattle.table.specs.Tree.Declarations.{no_declarations, declaration}
use Rattle.table.specs.Tree.Body.{body}
use Rattle.table.specs.Tree.Program.{single, whole}
use Rattle.rules.specs.Resolved.{Term, Terms, Action, Actions, Ending, Function, Functions, Rules}
use Rattle.rules.specs.Resolved.Term.{integer as integer', truth as truth', read as read', negation as negation', operation as operation', choice as choice', call as call', amount as amount', flag as flag', post as post'}
use Rattle.rules.specs.Resolved.Terms.{no_terms, term}
use Rattle.rules.specs.Resolved.Action.{assign, perform, perform_and_drop, if_then as if_then', if_else as if_else'}
use Rattle.rules.specs.Resolved.Actions.{no_actions, action}
use Rattle.rules.specs.Resolved.Ending.{nothing, giving}
use Rattle.rules.specs.Resolved.Function.{function as function'}
use Rattle.rules.specs.Resolved.Functions.{no_functions, more as more_functions}
use Rattle.typing.specs.Scopes.{Env, Scope, Status, bind, lookup, found, find, enter, set, choose}
use Rattle.typing.specs.Scopes.Status.{dec, init}
use Rattle.typing.specs.Scopes.Named.{variable, function}

-- the type of an operator's result, for the types of its operands
pub data Operates : Operator → ValueType → ValueType → ValueType → Type 0 where
  multiplies : Operates Multiply Int Int Int
  divides : Operates Divide Int Int Int
  adds : Operates Add Int Int Int
  subtracts : Operates Subtract Int Int Int
  less : Operates Less Int Int Bool
  less_or_equal : Operates LessOrEqual Int Int Bool
  greater : Operates Greater Int Int Bool
  greater_or_equal : Operates GreaterOrEqual Int Int Bool
  -- two numbers or two truth values
  equal_numbers : Operates Equal Int Int Bool
  equal_truths : Operates Equal Bool Bool Bool
  and : Operates And Bool Bool Bool
  or : Operates Or Bool Bool Bool

-- variables and parameters have values
pub data Valued : ValueType → Type 0 where
  int : Valued Int
  bool : Valued Bool

-- a call statement drops a result, where there is one
abbrev pub dropping : ℕ → ValueType → Term → Action
dropping p Void e = perform e
dropping p Int e = perform_and_drop p e
dropping p Bool e = perform_and_drop p e

mutual
  -- an expression has a type: Γ ⊢ e : T
  pub data HasType : Env → Expression → ValueType → Term → Type 0 where
    int_exp : {Γ : Env} {p n : ℕ} → HasType Γ (integer p n) Int (integer' p n)
    truth_exp : {Γ : Env} {p : ℕ} {b : Truths} → HasType Γ (truth p b) Bool (truth' p b)
    -- a variable that is read must be set
    var_exp : {Γ : Env} {p x h k : ℕ} {t : ValueType} → lookup x Γ ≡ found h (variable init t k) → HasType Γ (read p x) t (read' p h k)
    not_exp : {Γ : Env} {p : ℕ} {e : Expression} {r : Term} → HasType Γ e Bool r → HasType Γ (negation p e) Bool (negation' p r)
    op_exp : {Γ : Env} {p : ℕ} {o : Operator} {a b : Expression} {s t u : ValueType} {q r : Term} → HasType Γ a s q → HasType Γ b t r → Operates o s t u → HasType Γ (operation p o a b) u (operation' p o q r)
    -- both value blocks have the type of the whole
    if_exp : {Γ : Env} {p : ℕ} {c : Expression} {a b : ValueBlock} {t : ValueType} {r q₁ q₂ : Term} {α₁ α₂ : Actions} → HasType Γ c Bool r → Yields Γ a t α₁ q₁ → Yields Γ b t α₂ q₂ → HasType Γ (choice p c a b) t (choice' p r α₁ q₁ α₂ q₂)
    fun_exp : {Γ : Env} {p f h n : ℕ} {es : Arguments} {ts : List ValueType} {t : ValueType} {rs : Terms} → lookup f Γ ≡ found h (function n ts t) → Matches Γ es ts rs → HasType Γ (call p f es) t (call' p n h rs)
    -- the host's functions, where no scope hides their names
    amount_exp : {Γ : Env} {p : ℕ} {e : Expression} {r : Term} → lookup 0 Γ ≡ None → HasType Γ e Int r → HasType Γ (call p 0 (argument e no_arguments)) Int (amount' p r)
    flag_exp : {Γ : Env} {p : ℕ} {e : Expression} {r : Term} → lookup 1 Γ ≡ None → HasType Γ e Int r → HasType Γ (call p 1 (argument e no_arguments)) Bool (flag' p r)
    post_exp : {Γ : Env} {p : ℕ} {a e : Expression} {q r : Term} → lookup 2 Γ ≡ None → HasType Γ a Int q → HasType Γ e Int r → HasType Γ (call p 2 (argument a (argument e no_arguments))) Void (post' p q r)

  -- arguments match the types of the parameters, one for one
  pub data Matches : Env → Arguments → List ValueType → Terms → Type 0 where
    no_more : {Γ : Env} → Matches Γ no_arguments [] no_terms
    one_more : {Γ : Env} {e : Expression} {es : Arguments} {t : ValueType} {ts : List ValueType} {r : Term} {rs : Terms} → Valued t → HasType Γ e t r → Matches Γ es ts rs → Matches Γ (argument e es) (t ∷ ts) (term r rs)

  -- a value block has the type of its expression, after its statements; what these set is forgotten at its end
  pub data Yields : Env → ValueBlock → ValueType → Actions → Term → Type 0 where
    yields : {Γ : Env} {p : ℕ} {ss : Statements} {e : Expression} {t : ValueType} {α : Actions} {r : Term} (Γ' : Env) → RunsAll Γ ss Γ' α → HasType Γ' e t r → Yields Γ (value_block p ss e) t α r

  -- a statement leads from an environment to the next: Γ ⊢ s : Γ'
  pub data Runs : Env → Statement → Env → Action → Type 0 where
    -- an assignment sets its variable, once its expression has passed
    var_stm : {Γ : Env} {p x h k : ℕ} {e : Expression} {s : Status} {t : ValueType} {r : Term} → lookup x Γ ≡ found h (variable s t k) → Valued t → HasType Γ e t r → Runs Γ (assignment p x e) (set x Γ) (assign p h k r)
    fun_stm : {Γ : Env} {p f : ℕ} {es : Arguments} {t : ValueType} {r : Term} → HasType Γ (call p f es) t r → Runs Γ (call_statement p f es) Γ (dropping p t r)
    -- a missing else leaves what was set before
    if_stm : {Γ : Env} {p : ℕ} {c : Expression} {a : Block} {r : Term} {α : Actions} (Γ' : Env) → HasType Γ c Bool r → RunsBlock Γ a Γ' α → Runs Γ (if_then p c a) Γ (if_then' p r α)
    -- after an if, that is set which both branches leave set
    if_else_stm : {Γ : Env} {p : ℕ} {c : Expression} {a b : Block} {r : Term} {α β : Actions} (Γ' Γ'' : Env) → HasType Γ c Bool r → RunsBlock Γ a Γ' α → RunsBlock Γ b Γ'' β → Runs Γ (if_else p c a b) (choose Γ' Γ'') (if_else' p r α β)

  pub data RunsAll : Env → Statements → Env → Actions → Type 0 where
    done : {Γ : Env} → RunsAll Γ no_statements Γ no_actions
    then : {Γ : Env} {s : Statement} {ss : Statements} {a : Action} {α : Actions} {Γ'' : Env} (Γ' : Env) → Runs Γ s Γ' a → RunsAll Γ' ss Γ'' α → RunsAll Γ (statement s ss) Γ'' (action a α)

  pub data RunsBlock : Env → Block → Env → Actions → Type 0 where
    in_block : {Γ : Env} {p : ℕ} {s : Statement} {ss : Statements} {Γ' : Env} {α : Actions} → RunsAll Γ (statement s ss) Γ' α → RunsBlock Γ (block p s ss) Γ' α

-- what ends a body or a program: its type is the final expression's, void without one
pub data Ends : Env → Final → ValueType → Ending → Type 0 where
  with_none : {Γ : Env} → Ends Γ no_final Void nothing
  with_exp : {Γ : Env} {e : Expression} {t : ValueType} {r : Term} → HasType Γ e t r → Ends Γ (final e) t (giving r)

-- parameters enter a scope one after another, set, in slots from one on; none is declared twice
pub data Parameters : Scope → (slot : ℕ) → List Parameter → Scope → List ValueType → Type 0 where
  no_parameters : {scope : Scope} {slot : ℕ} → Parameters scope slot [] scope []
  one_parameter : {scope after : Scope} {slot p x : ℕ} {t : ValueType} {qs : List Parameter} {ts : List ValueType} → find x scope ≡ None → Valued t → Parameters (bind x (variable init t slot) ∷ scope) (slot + 1) qs after ts → Parameters scope slot (parameter p t x ∷ qs) after (t ∷ ts)

-- the innermost scope
abbrev pub top : Env → Scope
top [] = []
top (scope ∷ env) = scope

-- A declaration leads from an environment to the next. Beside it go the next free slot of the frame and the number of the next function in table order; functions resolve, variables leave nothing
mutual
  pub data Declares : Env → (slot number : ℕ) → Declaration → Env → (slot number : ℕ) → Functions → Type 0 where
    id_dec : {Γ : Env} {slot number : ℕ} {p x : ℕ} {t : ValueType} → find x (top Γ) ≡ None → Valued t → Declares Γ slot number (declare_variable p t x) (enter x (variable dec t slot) Γ) (slot + 1) number no_functions
    -- a function's name is known in its own body; what its body sets is forgotten at its end
    fun_dec : {Γ : Env} {slot number : ℕ} {p x others after : ℕ} {t : ValueType} {qs : List Parameter} {b : Body} {scope : Scope} {ts : List ValueType} {inner : Functions} {α : Actions} {ending : Ending} → find x (top Γ) ≡ None → Parameters [] 0 qs scope ts → HasBody (scope ∷ enter x (function number ts t) Γ) (length ts) (number + 1) b t (length ts + others) after inner α ending → Declares Γ slot number (declare_function p t x qs b) (enter x (function number ts t) Γ) slot after (more_functions (function' p t (length ts) others inner α ending) no_functions)

  pub data DeclaresAll : Env → (slot number : ℕ) → Declarations → Env → (slot number : ℕ) → Functions → Type 0 where
    none_left : {Γ : Env} {slot number : ℕ} → DeclaresAll Γ slot number no_declarations Γ slot number no_functions
    variable_first : {Γ : Env} {slot number : ℕ} {d : Declaration} {ds : Declarations} {Γ'' : Env} {slot'' number'' : ℕ} {fs : Functions} (Γ' : Env) (slot' number' : ℕ) → Declares Γ slot number d Γ' slot' number' no_functions → DeclaresAll Γ' slot' number' ds Γ'' slot'' number'' fs → DeclaresAll Γ slot number (declaration d ds) Γ'' slot'' number'' fs
    function_first : {Γ : Env} {slot number : ℕ} {d : Declaration} {ds : Declarations} {Γ'' : Env} {slot'' number'' : ℕ} {f : Function} {fs : Functions} (Γ' : Env) (slot' number' : ℕ) → Declares Γ slot number d Γ' slot' number' (more_functions f no_functions) → DeclaresAll Γ' slot' number' ds Γ'' slot'' number'' fs → DeclaresAll Γ slot number (declaration d ds) Γ'' slot'' number'' (more_functions f fs)

  -- a body: declarations, statements, ending; its frame then has so many slots, and so many functions are numbered
  pub data HasBody : Env → (slot number : ℕ) → Body → ValueType → (slots after : ℕ) → Functions → Actions → Ending → Type 0 where
    has_body : {Γ : Env} {slot number : ℕ} {p slots after : ℕ} {ds : Declarations} {ss : Statements} {f : Final} {t : ValueType} {inner : Functions} {α : Actions} {ending : Ending} (Γ' Γ'' : Env) → DeclaresAll Γ slot number ds Γ' slots after inner → RunsAll Γ' ss Γ'' α → Ends Γ'' f t ending → HasBody Γ slot number (body p ds ss f) t slots after inner α ending

-- a program has a type, and resolves to rules
pub data IsTyped : Program → ValueType → Rules → Type 0 where
  single_exp : {p : ℕ} {e : Expression} {t : ValueType} {r : Term} → HasType ([] ∷ []) e t r → IsTyped (single p e) t (record { place = p; result = t; others = 0; functions = no_functions; actions = no_actions; ending = giving r })
  dec_stm_exp : {p slots after : ℕ} {d : Declaration} {ds : Declarations} {ss : Statements} {f : Final} {t : ValueType} {fs : Functions} {α : Actions} {ending : Ending} (Γ Γ' : Env) → DeclaresAll ([] ∷ []) 0 0 (declaration d ds) Γ slots after fs → RunsAll Γ ss Γ' α → Ends Γ' f t ending → IsTyped (whole p d ds ss f) t (record { place = p; result = t; others = slots; functions = fs; actions = α; ending = ending })
