-- Expressions and statements that are accepted have a type. Assumes nothing.
use Rattle.std.proofs.Common.{◌≡◌, ℕ, ◌-◌, ◌≤◌, Bool, true, false, cond, ◌&&◌, ◌||◌, ◌⊎◌, List, [], ◌∷◌, length, get_or, set, Some, None, Ok, Err, Option, sym, refl, ap, ◌∙◌, subst, inl, inr, arith}
use Rattle.std.proofs.lemmas.List.{length-set}
use Rattle.std.proofs.lemmas.Bool.{false≢true, true≢false, and_parts, or_cases}
use Rattle.language.specs.declared.values.ValueType.{ValueType}
use Rattle.language.specs.declared.values.ValueType.TheVariants.{Void, Int, Bool as Truths}
use Rattle.language.specs.declared.values.Operator.{Operator}
use Rattle.language.specs.declared.values.Operator.TheVariants.{Multiply, Divide, Add, Subtract, Less, LessOrEqual, Greater, GreaterOrEqual, Equal, And, Or}
use Rattle.table.specs.Tree.{Expression, Arguments, Statement, Statements, Block, ValueBlock}
use Rattle.table.specs.Tree.Expression.{integer, truth, read, negation, operation, choice, call}
use Rattle.table.specs.Tree.Arguments.{no_arguments, argument}
use Rattle.table.specs.Tree.Statement.{assignment, call_statement, if_then, if_else}
use Rattle.table.specs.Tree.Statements.{no_statements, statement}
use Rattle.table.specs.Tree.Block.{block}
use Rattle.table.specs.Tree.ValueBlock.{value_block}
use Rattle.rules.specs.Resolved.{Term, Terms, Action, Actions}
use Rattle.rules.specs.Resolved.Term.{integer as integer', truth as truth', read as read', negation as negation', operation as operation', choice as choice', call as call', amount as amount', flag as flag', post as post'}
use Rattle.rules.specs.Resolved.Terms.{no_terms, term}
use Rattle.rules.specs.Resolved.Action.{assign, if_then as if_then', if_else as if_else'}
use Rattle.rules.specs.Resolved.Actions.{no_actions, action}
use Rattle.typing.specs.Scopes as rules
use Rattle.typing.specs.Scopes.{Env, Status, Found}
use Rattle.typing.specs.Scopes.Status.{init}
use Rattle.typing.specs.Scopes.Named.{variable as variable'}
use Rattle.typing.specs.Rules.{Operates, dropping, HasType, Matches, Yields, Runs, RunsAll, RunsBlock}
use Rattle.typing.specs.Rules.Operates.{multiplies, divides, adds, subtracts, less, less_or_equal, greater, greater_or_equal, equal_numbers, equal_truths, and, or}
use Rattle.typing.specs.Rules.Valued.{int}
use Rattle.typing.specs.Rules.HasType.{int_exp, truth_exp, var_exp, not_exp, op_exp, if_exp, fun_exp, amount_exp, flag_exp, post_exp}
use Rattle.typing.specs.Rules.Matches.{no_more, one_more}
use Rattle.typing.specs.Rules.Yields.{yields}
use Rattle.typing.specs.Rules.Runs.{var_stm, fun_stm, if_stm, if_else_stm}
use Rattle.typing.specs.Rules.RunsAll.{done, then}
use Rattle.typing.specs.Rules.RunsBlock.{in_block}
use Rattle.walk.specs.declared.codes.Instr.{Instr}
use Rattle.walk.specs.Lay.{laid, aimed}
use Rattle.language.specs.declared.faults.WalkRefusal.TheVariants.{WrongCount, NotSet}
use Rattle.walk.specs.Bind.{bind, beside, refusal}
use Rattle.walk.specs.Scopes.{Thing, named, entry, lookup, declared, variable_in, as_variable, callable, operand_of, result_of, parameters_of, opened as opening, closed}
use Rattle.walk.specs.Scopes.Thing.{amount, flag, post}
use Rattle.walk.specs.Sets.{both, must_be_set}
use Rattle.walk.specs.Types.{Tallied, tallied, some_left, twice, takes, makes, operation_type, negation_type, choice_type, same_type, typed, judged}
use Rattle.walk.specs.Expressions.{reading, walk_expression, walk_arguments, walk_statement, walk_statements, walk_block, walk_value_block}
use Rattle.verdict.proofs.Onward.{onward, refused, ok-parts, bound, besides, right-typed, test-passed, types_same}
use Rattle.verdict.proofs.Piles.{Pile, level, size, env, lookup-seek}
use Rattle.verdict.proofs.Related.{Flagged, AllValued, Same, Sought, looked, related-set}
use Rattle.verdict.proofs.Related.Flagged.{not_yet, already}
use Rattle.verdict.proofs.Related.AllValued.{none_valued, one_valued}
use Rattle.verdict.proofs.Related.Same.{same_variable, same_function}
use Rattle.verdict.proofs.Related.Sought.{in_scope, the_amount, the_flag, the_post, nowhere}
use Rattle.verdict.proofs.Accepts.{Known, known_both}

-- nothing is asked of the functions' entries
abbrev pub Anywhere : ℕ → ℕ → Type 0
Anywhere n e = Unit {0}

-- an expression has a type, whatever it resolves to
abbrev pub Typed : Env → Expression → ValueType → Type 0
Typed Γ e t = (r : Term) × HasType Γ e t r

on_both : (P : ValueType → ValueType → Type 0) (t a b : ValueType) → twice t a b ≡ true → P t t → P a b
on_both P t a b h x =
    let k = and_parts (same_type a t) (same_type b t) h in
    subst (λ c. P a c) (sym (types_same b t k.1)) (subst (λ c. P c t) (sym (types_same a t k.0)) x)

equals : (a b : ValueType) → (twice Int a b ≡ true) ⊎ (twice Truths a b ≡ true) → Operates Equal a b Truths
equals a b (inl h) = on_both (λ s t. Operates Equal s t Truths) Int a b h equal_numbers
equals a b (inr h) = on_both (λ s t. Operates Equal s t Truths) Truths a b h equal_truths

operates-back : (o : Operator) (a b : ValueType) → takes o a b ≡ true → Operates o a b (makes o)
operates-back Multiply a b h = on_both (λ s t. Operates Multiply s t Int) Int a b h multiplies
operates-back Divide a b h = on_both (λ s t. Operates Divide s t Int) Int a b h divides
operates-back Add a b h = on_both (λ s t. Operates Add s t Int) Int a b h adds
operates-back Subtract a b h = on_both (λ s t. Operates Subtract s t Int) Int a b h subtracts
operates-back Less a b h = on_both (λ s t. Operates Less s t Truths) Int a b h less
operates-back LessOrEqual a b h = on_both (λ s t. Operates LessOrEqual s t Truths) Int a b h less_or_equal
operates-back Greater a b h = on_both (λ s t. Operates Greater s t Truths) Int a b h greater
operates-back GreaterOrEqual a b h = on_both (λ s t. Operates GreaterOrEqual s t Truths) Int a b h greater_or_equal
operates-back Equal a b h = equals a b (or_cases (twice Int a b) (twice Truths a b) h)
operates-back And a b h = on_both (λ s t. Operates And s t Truths) Truths a b h and
operates-back Or a b h = on_both (λ s t. Operates Or s t Truths) Truths a b h or

flagged_back : {s : Status} {b : Bool} → Flagged s b → b ≡ true → s ≡ init
flagged_back not_yet h = absurd (false≢true h)
flagged_back already h = refl

-- the arguments were right: none too many, none missing, all of the right type
judged-back : (p : ℕ) (y : Tallied) (t : ValueType) {u : ValueType} → judged p y t ≡ Ok u → (y.surplus ≡ false) × (some_left y.left ≡ false) × (y.matched ≡ true) × (t ≡ u)
judged-back p y t h = go y.surplus (some_left y.left) y.matched h
  where
    go : (a b c : Bool) {u : ValueType} → cond (a || b) (Err (refusal p WrongCount)) (typed p c t) ≡ Ok u → (a ≡ false) × (b ≡ false) × (c ≡ true) × (t ≡ u)
    go true b c h = refused h
    go false true c h = refused h
    go false false true h = (refl, refl, refl, cc)
    go false false false h = refused h

module _ (pile : Pile) (flags : List Bool) where
  -- what comes of a name that was found
  reading-is : {y j l : ℕ} {th : Thing} (p x : ℕ) (code : List Instr) → lookup (env pile) x ≡ Some j → entry (env pile) j ≡ named y l th → reading (env pile) p x flags code ≡ bind (variable_in p l th) (λ v. bind (must_be_set p flags j) (λ _. Ok (v.typed, laid code 3 (operand_of (level pile) v))))
  reading-is {j = j} p x code f e = onward _ (ap (declared p) f) (ap (λ n. bind (as_variable p n) (λ v. bind (must_be_set p flags j) (λ _. Ok (v.typed, laid code 3 (operand_of (level pile) v))))) e)

  read_back : {Γ : Env} {x : ℕ} {o : Option Found} {i : Option ℕ} {t : ValueType} {c : List Instr} (p : ℕ) (code : List Instr) → Sought Anywhere flags pile x o i → rules.lookup x Γ ≡ o → lookup (env pile) x ≡ i → reading (env pile) p x flags code ≡ Ok (t, c) → Typed Γ (read p x) t
  read_back {Γ} {x} {t = t} {c = c} p code (in_scope {h = h} {k = j} {l = l} {n = n} {th = th} m g e v s) q f w = go n th s q e
    where
      go : (n : rules.Named) (th : Thing) → Same Anywhere (get_or flags j false) n th → rules.lookup x Γ ≡ rules.found h n → entry (env pile) j ≡ named x l th → Typed Γ (read p x) t
      go n th (same_variable {s = st} {t = u} {k = k} y z) q e =
          let a = bound (must_be_set p flags j) _ (sym (reading-is p x code f e) ∙ w) in
          let same : u ≡ t = (ok-parts a.2).0 in
          (read' p h k, subst (λ u. HasType Γ (read p x) u (read' p h k)) same (var_exp (q ∙ ap (λ s. rules.found h (variable' s u k)) (flagged_back y (test-passed (get_or flags j false) (refusal p NotSet) a.1)))))
      go n th (same_function y z) q e = refused (sym (reading-is p x code f e) ∙ w)
  read_back {x = x} p code (the_amount q e) o f w = refused (sym (reading-is p x code f e) ∙ w)
  read_back {x = x} p code (the_flag q e) o f w = refused (sym (reading-is p x code f e) ∙ w)
  read_back {x = x} p code (the_post q e) o f w = refused (sym (reading-is p x code f e) ∙ w)
  read_back {x = x} p code (nowhere q) o f w = refused (sym (ap (declared p) f) ∙ (bound (declared p (lookup (env pile) x)) _ w).1)

  -- an assignment: a variable, whose type is the expression's
  abbrev Assigned : Env → ℕ → ℕ → Expression → List Bool → Type 0
  Assigned Γ p x e flags' = (Γ' : Env) × (a : Action) × Runs Γ (assignment p x e) Γ' a × Known Anywhere pile flags' Γ'

  assigning-is : {y j l : ℕ} {th : Thing} (p x : ℕ) (e : Expression) (code : List Instr) → lookup (env pile) x ≡ Some j → entry (env pile) j ≡ named y l th → walk_statement (env pile) (assignment p x e) flags code ≡ bind (variable_in p l th) (λ v. bind (walk_expression (env pile) e flags code) (λ r. beside (typed p (same_type r.0 v.typed) (set flags j true)) (laid r.1 4 (operand_of (level pile) v))))
  assigning-is {j = j} p x e code f n = onward _ (ap (declared p) f) (ap (λ m. bind (as_variable p m) (λ v. bind (walk_expression (env pile) e flags code) (λ r. beside (typed p (same_type r.0 v.typed) (set flags j true)) (laid r.1 4 (operand_of (level pile) v))))) n)

  assigned-back : {Γ : Env} {x : ℕ} {o : Option Found} {i : Option ℕ} {flags' : List Bool} {c : List Instr} (p : ℕ) (e : Expression) (code : List Instr) → size pile ≤ 255 → Known Anywhere pile flags Γ → ((t : ValueType) (d : List Instr) → walk_expression (env pile) e flags code ≡ Ok (t, d) → Typed Γ e t) → Sought Anywhere flags pile x o i → rules.lookup x Γ ≡ o → lookup (env pile) x ≡ i → walk_statement (env pile) (assignment p x e) flags code ≡ Ok (flags', c) → Assigned Γ p x e flags'
  assigned-back {Γ} {x} {flags' = flags'} {c = c} p e code room k inner (in_scope {h = h} {k = j} {l = l} {n = n} {th = th} m g r v s) q f w = go n th s q r
    where
      go : (n : rules.Named) (th : Thing) → Same Anywhere (get_or flags j false) n th → rules.lookup x Γ ≡ rules.found h n → entry (env pile) j ≡ named x l th → Assigned Γ p x e flags'
      go n th (same_variable {s = st} {t = u} {k = slot} y z) q r =
          let a = bound (walk_expression (env pile) e flags code) _ (sym (assigning-is p x e code f r) ∙ w) in
          let b = besides (typed p (same_type a.0.0 u) (set flags j true)) _ a.2 in
          let d = right-typed p (same_type a.0.0 u) (set flags j true) b.0 in
          let t = inner a.0.0 a.0.1 a.1 in
          let right = subst (λ u. HasType Γ e u t.0) (types_same a.0.0 u d.0) t.1 in (
            rules.set x Γ,
            assign p h slot t.0,
            var_stm q z right,
            subst (λ fs. Known Anywhere pile fs (rules.set x Γ)) d.1
                (record {
                  related = related-set Anywhere flags x j (omega (arith, k.whole)) (sym (lookup-seek pile x) ∙ f) k.related;
                  whole = length-set flags j true ∙ k.whole;
                }),
          )
      go n th (same_function y z) q r = refused (sym (assigning-is p x e code f r) ∙ w)
  assigned-back {x = x} p e code room k inner (the_amount q r) o f w = refused (sym (assigning-is p x e code f r) ∙ w)
  assigned-back {x = x} p e code room k inner (the_flag q r) o f w = refused (sym (assigning-is p x e code f r) ∙ w)
  assigned-back {x = x} p e code room k inner (the_post q r) o f w = refused (sym (assigning-is p x e code f r) ∙ w)
  assigned-back {x = x} p e code room k inner (nowhere q) o f w = refused (sym (ap (declared p) f) ∙ (bound (declared p (lookup (env pile) x)) _ w).1)

  -- a call: a function, with arguments of its parameters' types
  abbrev Matched : Env → Arguments → Type 0
  Matched Γ es = (ts : List ValueType) (code : List Instr) (y : Tallied) (c : List Instr) → AllValued ts → walk_arguments (env pile) es (tallied ts false true) flags code ≡ Ok (y, c) → y.surplus ≡ false → some_left y.left ≡ false → y.matched ≡ true → (rs : Terms) × Matches Γ es ts rs

  calling-is : {y j l : ℕ} {th : Thing} (p x : ℕ) (es : Arguments) (code : List Instr) → lookup (env pile) x ≡ Some j → entry (env pile) j ≡ named y l th → walk_expression (env pile) (call p x es) flags code ≡ bind (callable p th) (λ _. bind (walk_arguments (env pile) es (tallied (parameters_of th) false true) flags (opening (level pile) l th code)) (λ r. beside (judged p r.0 (result_of th)) (closed th r.1)))
  calling-is p x es code f n = onward _ (ap (declared p) f) (ap (λ m. bind (callable p m.thing) (λ _. bind (walk_arguments (env pile) es (tallied (parameters_of m.thing) false true) flags (opening (level pile) m.level m.thing code)) (λ r. beside (judged p r.0 (result_of m.thing)) (closed m.thing r.1)))) n)

  -- the arguments of what is called
  arguments-back : {Γ : Env} {t u : ValueType} {c : List Instr} (p : ℕ) (es : Arguments) (ts : List ValueType) (code : List Instr) (close : List Instr → List Instr) → AllValued ts → Matched Γ es → bind (walk_arguments (env pile) es (tallied ts false true) flags code) (λ r. beside (judged p r.0 u) (close r.1)) ≡ Ok (t, c) → (rs : Terms) × Matches Γ es ts rs × (u ≡ t)
  arguments-back {u = u} p es ts code close v m w =
      let a = bound (walk_arguments (env pile) es (tallied ts false true) flags code) _ w in
      let b = besides (judged p a.0.0 u) _ a.2 in
      let d = judged-back p a.0.0 u b.0 in
      let r = m ts code a.0.0 a.0.1 v a.1 d.0 d.1 d.2 in
      (r.0, r.1, d.3)

  amount-back : {Γ : Env} {es : Arguments} {rs : Terms} (p : ℕ) → rules.lookup 0 Γ ≡ None → Matches Γ es (Int ∷ []) rs → Typed Γ (call p 0 es) Int
  amount-back p o (one_more {r = r} v h no_more) = (amount' p r, amount_exp o h)

  flag-back : {Γ : Env} {es : Arguments} {rs : Terms} (p : ℕ) → rules.lookup 1 Γ ≡ None → Matches Γ es (Int ∷ []) rs → Typed Γ (call p 1 es) Truths
  flag-back p o (one_more {r = r} v h no_more) = (flag' p r, flag_exp o h)

  post-back : {Γ : Env} {es : Arguments} {rs : Terms} (p : ℕ) → rules.lookup 2 Γ ≡ None → Matches Γ es (Int ∷ Int ∷ []) rs → Typed Γ (call p 2 es) Void
  post-back p o (one_more {r = q} v h (one_more {r = r} w g no_more)) = (post' p q r, post_exp o h g)

  call_back : {Γ : Env} {x : ℕ} {o : Option Found} {i : Option ℕ} {t : ValueType} {c : List Instr} (p : ℕ) (es : Arguments) (code : List Instr) → Matched Γ es → Sought Anywhere flags pile x o i → rules.lookup x Γ ≡ o → lookup (env pile) x ≡ i → walk_expression (env pile) (call p x es) flags code ≡ Ok (t, c) → Typed Γ (call p x es) t
  call_back {Γ} {x} {t = t} {c = c} p es code m (in_scope {h = h} {k = j} {l = l} {n = n} {th = th} b g e v s) q f w = go n th s q e
    where
      go : (n : rules.Named) (th : Thing) → Same Anywhere (get_or flags j false) n th → rules.lookup x Γ ≡ rules.found h n → entry (env pile) j ≡ named x l th → Typed Γ (call p x es) t
      go n th (same_variable y z) q e = refused (sym (calling-is p x es code f e) ∙ w)
      go n th (same_function {n = number} {ts = ts} {t = u} y z) q e =
          let a = arguments-back p es ts (laid code 20 (level pile - l)) (closed th) z m (sym (calling-is p x es code f e) ∙ w) in
          (call' p number h a.0, subst (λ t. HasType Γ (call p x es) t (call' p number h a.0)) a.2 (fun_exp q a.1))
  call_back {Γ} {x} {t = t} p es code m (the_amount q e) o f w =
      let a = arguments-back p es (Int ∷ []) code (closed amount) (one_valued int none_valued) m (sym (calling-is p x es code f e) ∙ w) in
      subst (λ u. Typed Γ (call p x es) u) a.2 (subst (λ y. Typed Γ (call p y es) Int) (sym q) (amount-back p (ap (λ y. rules.lookup y Γ) (sym q) ∙ o) a.1))
  call_back {Γ} {x} {t = t} p es code m (the_flag q e) o f w =
      let a = arguments-back p es (Int ∷ []) code (closed flag) (one_valued int none_valued) m (sym (calling-is p x es code f e) ∙ w) in
      subst (λ u. Typed Γ (call p x es) u) a.2 (subst (λ y. Typed Γ (call p y es) Truths) (sym q) (flag-back p (ap (λ y. rules.lookup y Γ) (sym q) ∙ o) a.1))
  call_back {Γ} {x} {t = t} p es code m (the_post q e) o f w =
      let a = arguments-back p es (Int ∷ Int ∷ []) code (closed post) (one_valued int (one_valued int none_valued)) m (sym (calling-is p x es code f e) ∙ w) in
      subst (λ u. Typed Γ (call p x es) u) a.2 (subst (λ y. Typed Γ (call p y es) Void) (sym q) (post-back p (ap (λ y. rules.lookup y Γ) (sym q) ∙ o) a.1))
  call_back {x = x} p es code m (nowhere q) o f w = refused (sym (ap (declared p) f) ∙ (bound (declared p (lookup (env pile) x)) _ w).1)

-- a statement leads on, whatever it resolves to
abbrev pub LeadsOn : Pile → Env → Statement → List Bool → Type 0
LeadsOn pile Γ s flags = (Γ' : Env) × (a : Action) × Runs Γ s Γ' a × Known Anywhere pile flags Γ'

abbrev pub AllLeadOn : Pile → Env → Statements → List Bool → Type 0
AllLeadOn pile Γ ss flags = (Γ' : Env) × (α : Actions) × RunsAll Γ ss Γ' α × Known Anywhere pile flags Γ'

module _ (pile : Pile) (room : size pile ≤ 255) where
  mutual
    pub typed-back : (e : Expression) {Γ : Env} {flags : List Bool} {t : ValueType} {c : List Instr} (code : List Instr) → Known Anywhere pile flags Γ → walk_expression (env pile) e flags code ≡ Ok (t, c) → Typed Γ e t
    typed-back (integer p n) {Γ} code k w = (integer' p n, subst (λ t. HasType Γ (integer p n) t (integer' p n)) (ok-parts w).0 int_exp)
    typed-back (truth p b) {Γ} code k w = (truth' p b, subst (λ t. HasType Γ (truth p b) t (truth' p b)) (ok-parts w).0 truth_exp)
    typed-back (read p x) {Γ} {flags} code k w = read_back pile flags p code (looked Anywhere flags x k.related) refl refl w
    typed-back (negation p e) {Γ} {flags} code k w =
        let a = bound (walk_expression (env pile) e flags code) _ w in
        let i = typed-back e code k a.1 in
        let d = right-typed p (same_type a.0.0 Truths) Truths (besides (negation_type p a.0.0) _ a.2).0 in
        let r = negation' p i.0 in
        (r, subst (λ t. HasType Γ (negation p e) t r) d.1 (not_exp (subst (λ u. HasType Γ e u i.0) (types_same a.0.0 Truths d.0) i.1)))
    typed-back (operation p o e f) {Γ} {flags} code k w =
        let a = bound (walk_expression (env pile) e flags code) _ w in
        let b = bound (walk_expression (env pile) f flags a.0.1) _ a.2 in
        let i = typed-back e code k a.1 in
        let j = typed-back f a.0.1 k b.1 in
        let d = right-typed p (takes o a.0.0 b.0.0) (makes o) (besides (operation_type p o a.0.0 b.0.0) _ b.2).0 in
        let r = operation' p o i.0 j.0 in
        (r, subst (λ t. HasType Γ (operation p o e f) t r) d.1 (op_exp i.1 j.1 (operates-back o a.0.0 b.0.0 d.0)))
    typed-back (choice p e f g) {Γ} {flags} code k w =
        let a = bound (walk_expression (env pile) e flags code) _ w in
        let b = bound (walk_value_block (env pile) f flags (laid a.0.1 19 0)) _ a.2 in
        let c = bound (walk_value_block (env pile) g flags (aimed (laid b.0.1 18 0) (length a.0.1) 19)) _ b.2 in
        let i = typed-back e code k a.1 in
        let j = value-typed f (laid a.0.1 19 0) k b.1 in
        let l = value-typed g (aimed (laid b.0.1 18 0) (length a.0.1) 19) k c.1 in
        let d = right-typed p (same_type a.0.0 Truths && same_type b.0.0 c.0.0) b.0.0 (besides (choice_type p a.0.0 b.0.0 c.0.0) _ c.2).0 in
        let s = and_parts (same_type a.0.0 Truths) (same_type b.0.0 c.0.0) d.0 in
        let r = choice' p i.0 j.0 j.1 l.0 l.1 in (
          r,
          subst (λ t. HasType Γ (choice p e f g) t r) d.1
              (if_exp (subst (λ u. HasType Γ e u i.0) (types_same a.0.0 Truths s.0) i.1) j.2 (subst (λ u. Yields Γ g u l.0 l.1) (sym (types_same b.0.0 c.0.0 s.1)) l.2)),
        )
    typed-back (call p x es) {Γ} {flags} code k w = call_back pile flags p es code (λ ts d y c v r s l m. (arguments-typed es ts false true d k v r s l m).2) (looked Anywhere flags x k.related) refl refl w

    arguments-typed : (es : Arguments) (ts : List ValueType) (s m : Bool) {Γ : Env} {flags : List Bool} {c : List Instr} {y : Tallied} (code : List Instr) → Known Anywhere pile flags Γ → AllValued ts → walk_arguments (env pile) es (tallied ts s m) flags code ≡ Ok (y, c) → y.surplus ≡ false → some_left y.left ≡ false → y.matched ≡ true → (s ≡ false) × (m ≡ true) × ((rs : Terms) × Matches Γ es ts rs)
    arguments-typed no_arguments [] s m code k v w a b d =
        let e = (ok-parts w).0 in
        (ap (λ y. y.surplus) e ∙ a, ap (λ y. y.matched) e ∙ d, (no_terms, no_more))
    arguments-typed no_arguments (t ∷ ts) s m code k v w a b d = absurd (true≢false (ap (λ y. some_left y.left) (ok-parts w).0 ∙ b))
    arguments-typed (argument e es) [] s m {flags = flags} code k v w a b d =
        let f = bound (walk_expression (env pile) e flags code) _ w in
        absurd (true≢false (arguments-typed es [] true m f.0.1 k none_valued f.2 a b d).0)
    arguments-typed (argument e es) (t ∷ ts) s m {Γ} {flags} code k (one_valued v vs) w a b d =
        let f = bound (walk_expression (env pile) e flags code) _ w in
        let i = typed-back e code k f.1 in
        let j = arguments-typed es ts s (m && same_type t f.0.0) f.0.1 k vs f.2 a b d in
        let g = and_parts m (same_type t f.0.0) j.1 in
        (j.0, g.0, (term i.0 j.2.0, one_more v (subst (λ u. HasType Γ e u i.0) (sym (types_same t f.0.0 g.1)) i.1) j.2.1))

    value-typed : (b : ValueBlock) {Γ : Env} {flags : List Bool} {t : ValueType} {c : List Instr} (code : List Instr) → Known Anywhere pile flags Γ → walk_value_block (env pile) b flags code ≡ Ok (t, c) → (α : Actions) × (r : Term) × Yields Γ b t α r
    value-typed (value_block p ss e) {flags = flags} code k w =
        let a = bound (walk_statements (env pile) ss flags code) _ w in
        let i = statements-typed ss code k a.1 in
        let j = typed-back e a.0.1 i.3 a.2 in
        (i.1, j.0, yields i.0 i.2 j.1)

    pub statement-typed : (s : Statement) {Γ : Env} {flags flags' : List Bool} {c : List Instr} (code : List Instr) → Known Anywhere pile flags Γ → walk_statement (env pile) s flags code ≡ Ok (flags', c) → LeadsOn pile Γ s flags'
    statement-typed (assignment p x e) {Γ} {flags} code k w = assigned-back pile flags p e code room k (λ t d h. typed-back e code k h) (looked Anywhere flags x k.related) refl refl w
    statement-typed (call_statement p x es) {Γ} {flags} code k w =
        let a = bound (walk_expression (env pile) (call p x es) flags code) _ w in
        let i = call_back pile flags p es code (λ ts d y c v r s l m. (arguments-typed es ts false true d k v r s l m).2) (looked Anywhere flags x k.related) refl refl a.1 in
        (Γ, dropping p a.0.0 i.0, fun_stm i.1, subst (λ fs. Known Anywhere pile fs Γ) (ok-parts a.2).0 k)
    statement-typed (if_then p e f) {Γ} {flags} code k w =
        let a = bound (walk_expression (env pile) e flags code) _ w in
        let b = bound (walk_block (env pile) f flags (laid a.0.1 19 0)) _ a.2 in
        let i = typed-back e code k a.1 in
        let j = block-typed f (laid a.0.1 19 0) k b.1 in
        let d = right-typed p (same_type a.0.0 Truths) flags (besides (typed p (same_type a.0.0 Truths) flags) _ b.2).0 in
        (Γ, if_then' p i.0 j.1, if_stm j.0 (subst (λ u. HasType Γ e u i.0) (types_same a.0.0 Truths d.0) i.1) j.2, subst (λ fs. Known Anywhere pile fs Γ) d.1 k)
    statement-typed (if_else p e f g) {Γ} {flags} code k w =
        let a = bound (walk_expression (env pile) e flags code) _ w in
        let b = bound (walk_block (env pile) f flags (laid a.0.1 19 0)) _ a.2 in
        let c = bound (walk_block (env pile) g flags (aimed (laid b.0.1 18 0) (length a.0.1) 19)) _ b.2 in
        let i = typed-back e code k a.1 in
        let j = block-typed f (laid a.0.1 19 0) k b.1 in
        let l = block-typed g (aimed (laid b.0.1 18 0) (length a.0.1) 19) k c.1 in
        let d = right-typed p (same_type a.0.0 Truths) (both b.0.0 c.0.0) (besides (typed p (same_type a.0.0 Truths) (both b.0.0 c.0.0)) _ c.2).0 in (
          rules.choose j.0 l.0,
          if_else' p i.0 j.1 l.1,
          if_else_stm j.0 l.0 (subst (λ u. HasType Γ e u i.0) (types_same a.0.0 Truths d.0) i.1) j.2 l.2,
          subst (λ fs. Known Anywhere pile fs (rules.choose j.0 l.0)) d.1 (known_both room j.3 l.3),
        )

    pub statements-typed : (ss : Statements) {Γ : Env} {flags flags' : List Bool} {c : List Instr} (code : List Instr) → Known Anywhere pile flags Γ → walk_statements (env pile) ss flags code ≡ Ok (flags', c) → AllLeadOn pile Γ ss flags'
    statements-typed no_statements {Γ} code k w = (Γ, no_actions, done, subst (λ fs. Known Anywhere pile fs Γ) (ok-parts w).0 k)
    statements-typed (statement s ss) {flags = flags} code k w =
        let a = bound (walk_statement (env pile) s flags code) _ w in
        let i = statement-typed s code k a.1 in
        let j = statements-typed ss a.0.1 i.3 a.2 in
        (j.0, action i.1 j.1, then i.0 i.2 j.2, j.3)

    block-typed : (b : Block) {Γ : Env} {flags flags' : List Bool} {c : List Instr} (code : List Instr) → Known Anywhere pile flags Γ → walk_block (env pile) b flags code ≡ Ok (flags', c) → (Γ' : Env) × (α : Actions) × RunsBlock Γ b Γ' α × Known Anywhere pile flags' Γ'
    block-typed (block p s ss) {flags = flags} code k w =
        let a = bound (walk_statement (env pile) s flags code) _ w in
        let i = statement-typed s code k a.1 in
        let j = statements-typed ss a.0.1 i.3 a.2 in
        (j.0, action i.1 j.1, in_block (then i.0 i.2 j.2), j.3)
