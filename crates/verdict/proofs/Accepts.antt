-- Expressions and statements that have a type are accepted, with that type and with the code of what they resolve to. Assumes nothing.
use Rattle.std.proofs.Common.{◌≡◌, ℕ, ◌+◌, ◌*◌, ◌≤◌, Bool, true, false, cond, List, [], ◌∷◌, length, get_or, set, Some, None, Ok, Err, Option, Result, sym, refl, ap, ◌∙◌, subst, arith}
use Rattle.std.proofs.lemmas.List.{length-set}
use Rattle.language.specs.declared.faults.Fault.{Fault}
use Rattle.language.specs.declared.values.ValueType.{ValueType}
use Rattle.language.specs.declared.values.ValueType.TheVariants.{Void, Int, Bool as Truths}
use Rattle.language.specs.declared.values.Operator.{Operator}
use Rattle.table.specs.Tree.{Expression, Arguments, Statement, Statements, Block, ValueBlock}
use Rattle.table.specs.Tree.Expression.{call}
use Rattle.table.specs.Tree.Arguments.{no_arguments, argument}
use Rattle.table.specs.Tree.Statement.{assignment}
use Rattle.table.specs.Layout.{truth_number}
use Rattle.rules.specs.Translate.{truth_operand}
use Rattle.rules.specs.Resolved.{Term, Terms, Action, Actions}
use Rattle.typing.specs.Scopes as rules
use Rattle.typing.specs.Scopes.{Env, Status, Found}
use Rattle.typing.specs.Scopes.Status.{init}
use Rattle.typing.specs.Scopes.Named.{variable as variable', function as function'}
use Rattle.typing.specs.Rules.{Operates, dropping, HasType, Matches, Yields, Runs, RunsAll, RunsBlock}
use Rattle.typing.specs.Rules.Operates.{multiplies, divides, adds, subtracts, less, less_or_equal, greater, greater_or_equal, equal_numbers, equal_truths, and, or}
use Rattle.typing.specs.Rules.HasType.{int_exp, truth_exp, var_exp, not_exp, op_exp, if_exp, fun_exp, amount_exp, flag_exp, post_exp}
use Rattle.typing.specs.Rules.Matches.{no_more, one_more}
use Rattle.typing.specs.Rules.Yields.{yields}
use Rattle.typing.specs.Rules.Runs.{var_stm, fun_stm, if_stm, if_else_stm}
use Rattle.typing.specs.Rules.RunsAll.{done, then}
use Rattle.typing.specs.Rules.RunsBlock.{in_block}
use Rattle.walk.specs.declared.codes.Instr.{Instr}
use Rattle.walk.specs.Lay.{laid}
use Rattle.walk.specs.Bind.{refusal}
use Rattle.language.specs.declared.faults.WalkRefusal.TheVariants.{NotSet}
use Rattle.walk.specs.Scopes.{Thing, named, entry, lookup, declared, as_variable, callable, result_of, parameters_of, opened as opening, closed}
use Rattle.walk.specs.Sets.{both}
use Rattle.walk.specs.Types.{tallied, operation_type, same_type}
use Rattle.walk.specs.Expressions.{reading, dropped, walk_expression, walk_arguments, walk_statement, walk_statements, walk_block, walk_value_block}
use Rattle.walk.proofs.Joined.{both-length}
use Rattle.verdict.proofs.Onward.{onward, along, same-type, typed-right}
use Rattle.verdict.proofs.Piles.{Pile, level, size, env, lookup-seek}
use Rattle.verdict.proofs.Related.{Flagged, Same, Related, Sought, looked, related-set, related-both}
use Rattle.verdict.proofs.Related.Flagged.{already}
use Rattle.verdict.proofs.Related.Same.{same_variable, same_function}
use Rattle.verdict.proofs.Related.Sought.{in_scope, the_amount, the_flag, the_post, nowhere}
use Rattle.verdict.proofs.Laying.{lay_term, lay_terms, lay_action, lay_actions}

-- functions with these numbers have those entries
abbrev pub EntryIn : List ℕ → ℕ → ℕ → Type 0
EntryIn at n e = get_or at n 0 ≡ e

-- what the walk knows is what the environment says
pub record Known (Entered : ℕ → ℕ → Type 0) (pile : Pile) (flags : List Bool) (Γ : Env) : Type 0 where
  pub related : Related Entered flags Γ pile
  pub whole : length flags ≡ 256

pub known_both : {Entered : ℕ → ℕ → Type 0} {pile : Pile} {f g : List Bool} {Γ Δ : Env} → size pile ≤ 255 → Known Entered pile f Γ → Known Entered pile g Δ → Known Entered pile (both f g) (rules.choose Γ Δ)
known_both {Entered} {f = f} {g = g} room k l =
    record {
      related = related-both Entered (k.whole ∙ sym l.whole) (omega (arith, k.whole)) k.related l.related;
      whole = both-length f g (k.whole ∙ sym l.whole) ∙ k.whole;
    }

operates : {o : Operator} {s t u : ValueType} (p : ℕ) → Operates o s t u → operation_type p o s t ≡ Ok u
operates p multiplies = refl
operates p divides = refl
operates p adds = refl
operates p subtracts = refl
operates p less = refl
operates p less_or_equal = refl
operates p greater = refl
operates p greater_or_equal = refl
operates p equal_numbers = refl
operates p equal_truths = refl
operates p and = refl
operates p or = refl

truths : (code : List Instr) (b : Bool) → ◌≡◌ {A = Result (ValueType × List Instr) Fault} (Ok (Truths, laid code 2 (truth_number b))) (Ok (Truths, laid code 2 (truth_operand b)))
truths code true = refl
truths code false = refl

flagged-set : {b : Bool} → Flagged init b → b ≡ true
flagged-set already = refl

module _ (at : List ℕ) (pile : Pile) (flags : List Bool) where
  reads : {x h k : ℕ} {t : ValueType} {i : Option ℕ} (p : ℕ) (code : List Instr) → Sought (EntryIn at) flags pile x (rules.found h (variable' init t k)) i → lookup (env pile) x ≡ i → reading (env pile) p x flags code ≡ Ok (t, laid code 3 (256 * h + k))
  reads {x} {h} {k} {t} p code (in_scope {k = j} {l = l} {th = th} m g e v s) f = go th s e
    where
      go : (th : Thing) → Same (EntryIn at) (get_or flags j false) (variable' init t k) th → entry (env pile) j ≡ named x l th → reading (env pile) p x flags code ≡ Ok (t, laid code 3 (256 * h + k))
      go th (same_variable q w) e =
          onward _ (ap (declared p) f) (onward _ (ap (as_variable p) e) (onward _ (ap (λ b. cond b (Ok tt) (Err (refusal p NotSet))) (flagged-set q)) (ap (λ n. Ok (t, laid code 3 n)) (omega arith))))

  -- an assignment's name is found, and its expression and its variable have one type
  assigns : {x h k : ℕ} {s : Status} {t : ValueType} {i : Option ℕ} {Γ : Env} (p : ℕ) (e : Expression) (code c : List Instr) → size pile ≤ length flags → Related (EntryIn at) flags Γ pile → Sought (EntryIn at) flags pile x (rules.found h (variable' s t k)) i → lookup (env pile) x ≡ i → walk_expression (env pile) e flags code ≡ Ok (t, c) → (flags' : List Bool) × (walk_statement (env pile) (assignment p x e) flags code ≡ Ok (flags', laid c 4 (256 * h + k))) × Related (EntryIn at) flags' (rules.set x Γ) pile × (length flags' ≡ length flags)
  assigns {x} {h} {k} {s} {t} {Γ = Γ} p e code c room r (in_scope {k = j} {l = l} {th = th} m g n v q) f w = go th q n
    where
      go : (th : Thing) → Same (EntryIn at) (get_or flags j false) (variable' s t k) th → entry (env pile) j ≡ named x l th → (flags' : List Bool) × (walk_statement (env pile) (assignment p x e) flags code ≡ Ok (flags', laid c 4 (256 * h + k))) × Related (EntryIn at) flags' (rules.set x Γ) pile × (length flags' ≡ length flags)
      go th (same_variable y z) n = (
        set flags j true,
        onward _ (ap (declared p) f) (onward _ (ap (as_variable p) n) (onward _ w (along _ (typed-right p (same_type t t) (set flags j true) (same-type t)) ∙ ap (λ i. Ok (set flags j true, laid c 4 i)) (omega arith)))),
        related-set (EntryIn at) flags x j room (sym (lookup-seek pile x) ∙ f) r,
        length-set flags j true,
      )

  -- a call, where its name was found and its arguments go through
  calls : {x j l : ℕ} {th : Thing} (p : ℕ) (code c : List Instr) (es : Arguments) → lookup (env pile) x ≡ Some j → entry (env pile) j ≡ named x l th → callable p th ≡ Ok tt → walk_arguments (env pile) es (tallied (parameters_of th) false true) flags (opening (level pile) l th code) ≡ Ok (tallied [] false true, c) → walk_expression (env pile) (call p x es) flags code ≡ Ok (result_of th, closed th c)
  calls {x} {j} {l} {th} p code c es f n q a =
      onward _ (ap (declared p) f)
      (onward _ (ap (λ e. callable p e.thing) n ∙ q)
      (onward _ (ap (λ e. walk_arguments (env pile) es (tallied (parameters_of e.thing) false true) flags (opening (level pile) e.level e.thing code)) n ∙ a)
      (ap (λ e. Ok (result_of e.thing, closed e.thing c)) n)))

  calls-function : {x h n : ℕ} {ts : List ValueType} {t : ValueType} {i : Option ℕ} (p : ℕ) (code c : List Instr) (es : Arguments) → Sought (EntryIn at) flags pile x (rules.found h (function' n ts t)) i → lookup (env pile) x ≡ i → walk_arguments (env pile) es (tallied ts false true) flags (laid code 20 h) ≡ Ok (tallied [] false true, c) → walk_expression (env pile) (call p x es) flags code ≡ Ok (t, laid c 21 (get_or at n 0))
  calls-function {x} {h} {n} {ts} {t} p code c es (in_scope {k = j} {l = l} {th = th} m g e v s) f a = go th s e
    where
      go : (th : Thing) → Same (EntryIn at) (get_or flags j false) (function' n ts t) th → entry (env pile) j ≡ named x l th → walk_expression (env pile) (call p x es) flags code ≡ Ok (t, laid c 21 (get_or at n 0))
      go th (same_function q w) e = calls p code c es f e refl (ap (λ k. walk_arguments (env pile) es (tallied ts false true) flags (laid code 20 k)) (omega arith) ∙ a) ∙ ap (λ k. Ok (t, laid c 21 k)) (sym q)

  -- calls of the host's
  calls-amount : {i : Option ℕ} (p : ℕ) (code c : List Instr) (es : Arguments) → Sought (EntryIn at) flags pile 0 None i → lookup (env pile) 0 ≡ i → walk_arguments (env pile) es (tallied (Int ∷ []) false true) flags code ≡ Ok (tallied [] false true, c) → walk_expression (env pile) (call p 0 es) flags code ≡ Ok (Int, laid c 24 0)
  calls-amount p code c es (the_amount q e) f a = calls p code c es f e refl a
  calls-amount p code c es (the_flag q e) f a = absurd (omega arith)
  calls-amount p code c es (the_post q e) f a = absurd (omega arith)
  calls-amount p code c es (nowhere q) f a = absurd (omega arith)

  calls-flag : {i : Option ℕ} (p : ℕ) (code c : List Instr) (es : Arguments) → Sought (EntryIn at) flags pile 1 None i → lookup (env pile) 1 ≡ i → walk_arguments (env pile) es (tallied (Int ∷ []) false true) flags code ≡ Ok (tallied [] false true, c) → walk_expression (env pile) (call p 1 es) flags code ≡ Ok (Truths, laid c 25 0)
  calls-flag p code c es (the_amount q e) f a = absurd (omega arith)
  calls-flag p code c es (the_flag q e) f a = calls p code c es f e refl a
  calls-flag p code c es (the_post q e) f a = absurd (omega arith)
  calls-flag p code c es (nowhere q) f a = absurd (omega arith)

  calls-post : {i : Option ℕ} (p : ℕ) (code c : List Instr) (es : Arguments) → Sought (EntryIn at) flags pile 2 None i → lookup (env pile) 2 ≡ i → walk_arguments (env pile) es (tallied (Int ∷ Int ∷ []) false true) flags code ≡ Ok (tallied [] false true, c) → walk_expression (env pile) (call p 2 es) flags code ≡ Ok (Void, laid c 26 0)
  calls-post p code c es (the_amount q e) f a = absurd (omega arith)
  calls-post p code c es (the_flag q e) f a = absurd (omega arith)
  calls-post p code c es (the_post q e) f a = calls p code c es f e refl a
  calls-post p code c es (nowhere q) f a = absurd (omega arith)

-- a result is dropped where there is one
drops : (at : List ℕ) (flags : List Bool) (p : ℕ) (t : ValueType) (r : Term) (code : List Instr) → ◌≡◌ {A = Result (List Bool × List Instr) Fault} (Ok (flags, dropped t (lay_term at r code))) (Ok (flags, lay_action at (dropping p t r) code))
drops at flags p Void r code = refl
drops at flags p Int r code = refl
drops at flags p Truths r code = refl

-- the walk leads to what is known next, with this code
abbrev pub Leads : List ℕ → Pile → Env → Result (List Bool × List Instr) Fault → List Instr → Type 0
Leads at pile Γ r c = (flags : List Bool) × (r ≡ Ok (flags, c)) × Known (EntryIn at) pile flags Γ

-- what the rules find is what the walk finds
seen : (at : List ℕ) (pile : Pile) {flags : List Bool} {Γ : Env} (x : ℕ) {o : Option Found} → rules.lookup x Γ ≡ o → Known (EntryIn at) pile flags Γ → Sought (EntryIn at) flags pile x o (lookup (env pile) x)
seen at pile {flags} x e k = subst (λ o. Sought (EntryIn at) flags pile x o (lookup (env pile) x)) e (looked (EntryIn at) flags x k.related)

module _ (at : List ℕ) (pile : Pile) (room : size pile ≤ 255) where
  mutual
    pub accepts : {Γ : Env} {e : Expression} {t : ValueType} {r : Term} → HasType Γ e t r → (flags : List Bool) (code : List Instr) → Known (EntryIn at) pile flags Γ → walk_expression (env pile) e flags code ≡ Ok (t, lay_term at r code)
    accepts int_exp flags code k = refl
    accepts (truth_exp {b = b}) flags code k = truths code b
    accepts (var_exp {p = p} {x = x} l) flags code k = reads at pile flags p code (seen at pile x l k) refl
    accepts (not_exp h) flags code k = onward _ (accepts h flags code k) refl
    accepts (op_exp {p = p} h g o) flags code k = onward _ (accepts h flags code k) (onward _ (accepts g flags _ k) (along _ (operates p o)))
    accepts (if_exp {p = p} {t = t} h y z) flags code k =
        onward _ (accepts h flags code k) (onward _ (accepts-block y flags _ k) (onward _ (accepts-block z flags _ k) (along _ (typed-right p (same_type t t) t (same-type t)))))
    accepts (fun_exp {p = p} {f = f} {es = es} l m) flags code k = calls-function at pile flags p code _ es (seen at pile f l k) refl (accepts-arguments m flags _ k)
    accepts (amount_exp {p = p} {e = e} l h) flags code k = calls-amount at pile flags p code _ (argument e no_arguments) (seen at pile 0 l k) refl (onward _ (accepts h flags code k) refl)
    accepts (flag_exp {p = p} {e = e} l h) flags code k = calls-flag at pile flags p code _ (argument e no_arguments) (seen at pile 1 l k) refl (onward _ (accepts h flags code k) refl)
    accepts (post_exp {p = p} {a = a} {e = e} l h g) flags code k = calls-post at pile flags p code _ (argument a (argument e no_arguments)) (seen at pile 2 l k) refl (onward _ (accepts h flags code k) (onward _ (accepts g flags _ k) refl))

    pub accepts-arguments : {Γ : Env} {es : Arguments} {ts : List ValueType} {rs : Terms} → Matches Γ es ts rs → (flags : List Bool) (code : List Instr) → Known (EntryIn at) pile flags Γ → walk_arguments (env pile) es (tallied ts false true) flags code ≡ Ok (tallied [] false true, lay_terms at rs code)
    accepts-arguments no_more flags code k = refl
    accepts-arguments (one_more {es = es} {t = t} {ts = ts} {r = r} v h m) flags code k =
        onward _ (accepts h flags code k) (ap (λ b. walk_arguments (env pile) es (tallied ts false b) flags (lay_term at r code)) (same-type t) ∙ accepts-arguments m flags _ k)

    pub accepts-block : {Γ : Env} {b : ValueBlock} {t : ValueType} {α : Actions} {r : Term} → Yields Γ b t α r → (flags : List Bool) (code : List Instr) → Known (EntryIn at) pile flags Γ → walk_value_block (env pile) b flags code ≡ Ok (t, lay_term at r (lay_actions at α code))
    accepts-block (yields Γ' ss h) flags code k =
        let s = accepts-statements ss flags code k in
        onward _ s.1 (accepts h s.0 _ s.2)

    pub accepts-statement : {Γ : Env} {s : Statement} {Γ' : Env} {a : Action} → Runs Γ s Γ' a → (flags : List Bool) (code : List Instr) → Known (EntryIn at) pile flags Γ → Leads at pile Γ' (walk_statement (env pile) s flags code) (lay_action at a code)
    accepts-statement (var_stm {p = p} {x = x} {e = e} l v h) flags code k =
        let s = assigns at pile flags p e code _ (omega (arith, k.whole)) k.related (seen at pile x l k) refl (accepts h flags code k) in
        (s.0, s.1, record { related = s.2; whole = s.3 ∙ k.whole })
    accepts-statement (fun_stm {p = p} {t = t} {r = r} h) flags code k = (flags, onward _ (accepts h flags code k) (drops at flags p t r code), k)
    accepts-statement (if_stm {p = p} Γ' h b) flags code k =
        let s = accepts-branch b flags _ k in
        (flags, onward _ (accepts h flags code k) (onward _ s.1 refl), k)
    accepts-statement (if_else_stm {p = p} Γ' Γ'' h b c) flags code k =
        let s = accepts-branch b flags _ k in
        let t = accepts-branch c flags _ k in (
          both s.0 t.0,
          onward _ (accepts h flags code k) (onward _ s.1 (onward _ t.1 refl)),
          known_both room s.2 t.2,
        )

    pub accepts-statements : {Γ : Env} {ss : Statements} {Γ' : Env} {α : Actions} → RunsAll Γ ss Γ' α → (flags : List Bool) (code : List Instr) → Known (EntryIn at) pile flags Γ → Leads at pile Γ' (walk_statements (env pile) ss flags code) (lay_actions at α code)
    accepts-statements done flags code k = (flags, refl, k)
    accepts-statements (then Γ' h r) flags code k =
        let s = accepts-statement h flags code k in
        let t = accepts-statements r s.0 _ s.2 in
        (t.0, onward _ s.1 t.1, t.2)

    pub accepts-branch : {Γ : Env} {b : Block} {Γ' : Env} {α : Actions} → RunsBlock Γ b Γ' α → (flags : List Bool) (code : List Instr) → Known (EntryIn at) pile flags Γ → Leads at pile Γ' (walk_block (env pile) b flags code) (lay_actions at α code)
    accepts-branch (in_block r) flags code k = accepts-statements r flags code k
