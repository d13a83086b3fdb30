-- The code of each piece of a rule set stands where its translation has laid it, and is fetched as it was meant. Assumes nothing.
use Rattle.std.proofs.Common.{◌≡◌, ℕ, ◌+◌, ◌*◌, ◌/◌, ◌%◌, ◌<◌, Bool, true, false, List, length, get_or, pos, Some, Ok, Result, refl, ap, ◌∙◌, arith}
use Rattle.std.proofs.lemmas.Bool.{lt-ltb, le-leb, eq-eqb, cond-true}
use Rattle.language.specs.declared.faults.Halt.{Halt}
use Rattle.language.specs.declared.values.ValueType.{ValueType}
use Rattle.language.specs.declared.values.ValueType.TheVariants.{Void, Int, Bool as Truths}
use Rattle.language.specs.declared.values.Operator.{Operator}
use Rattle.language.specs.declared.values.Operator.TheVariants.{Multiply, Divide, Add, Subtract, Less, LessOrEqual, Greater, GreaterOrEqual, Equal, And, Or}
use Rattle.language.specs.Numbers.{operator_number}
use Rattle.image.specs.declared.instruction.Header.{Header}
use Rattle.image.specs.declared.instruction.Entry.{Entry}
use Rattle.image.specs.declared.instruction.Local.{Local}
use Rattle.image.specs.declared.instruction.Local.TheVariants.{PushNumber, PushTruth, Load, Store, Operate, Not, Discard, Jump, JumpIfFalse, Open, Call, Return, ReturnValue}
use Rattle.image.specs.declared.instruction.Instruction.{Instruction}
use Rattle.image.specs.declared.instruction.Instruction.TheVariants as instructions
use Rattle.image.specs.Fetch.{fetched, decoded, slot, entry, target}
use Rattle.rules.specs.Resolved.{Term, Terms, Action, Actions, Ending, Function}
use Rattle.rules.specs.Resolved.Term.{integer, truth, read, negation, operation, choice, call, amount, flag, post}
use Rattle.rules.specs.Resolved.Terms.{no_terms, term}
use Rattle.rules.specs.Resolved.Action.{assign, perform, perform_and_drop, if_then, if_else}
use Rattle.rules.specs.Resolved.Actions.{no_actions, action}
use Rattle.rules.specs.Resolved.Ending.{nothing, giving}
use Rattle.rules.specs.Resolved.Function.{function}
use Rattle.rules.specs.Translate.{Laid, laid, image_of, truth_operand, gives, end_term, end_terms, end_action, end_actions, end_ending, emit_term, emit_terms, emit_action, emit_actions, emit_ending}
use Rattle.rules.specs.Evaluate.{numbered_function}
use Rattle.theory.specs.Runs.{header_for, place_at}
use Rattle.theory.specs.Lawful.{LawfulTerm, LawfulTerms, LawfulAction, LawfulActions, LawfulEnding}
use Rattle.theory.proofs.Placed.{Stands, Lies, Spans, span-one, span_none, span-both, lies-left, lies-right, lies-one, lies-end, stands-below, code-there, operand-there, fetched-there, place-there}

-- a rule set's code with its result type, the functions' entries, and the functions
pub record Program : Type 0 where
  pub code : List Laid
  pub result : ValueType
  pub entries : List ℕ
  pub functions : List Function

abbrev pub words : Program → List ℕ
words c = image_of c.code c.result

abbrev pub header : Program → Header
header c = header_for c.code c.result

-- at a number the machine finds this instruction, laid for the node at that place
pub record Fetches (c : Program) (k : ℕ) (i : Instruction) (q : ℕ) : Type 0 where
  pub fetch : fetched (words c) (header c) k ≡ Ok i
  pub place : place_at c.code k ≡ q

-- where a call of a function goes
abbrev pub entry_of : ℕ → Function → Entry
entry_of a (function q t n o inner body ending) = record { start = a + 1; parameters = n; others = o }

-- a call finds the entry of its function, where there is such a function
abbrev pub CallIn : Program → ℕ → ℕ → ℕ → Type 0
CallIn c k f q = (g : Function) → numbered_function c.functions f ≡ Some g → Fetches c k (instructions.Local (Call (entry_of (get_or c.entries f 0) g))) q

-- the instructions of a piece stand from a number on
abbrev mutual
  pub TermIn : Program → ℕ → Term → Type 0
  TermIn c p (integer q n) = Fetches c p (instructions.Local (PushNumber (pos n))) q
  TermIn c p (truth q b) = Fetches c p (instructions.Local (PushTruth b)) q
  TermIn c p (read q h k) = Fetches c p (instructions.Local (Load (record { hops = h; index = k }))) q
  TermIn c p (negation q e) = TermIn c p e × Fetches c (end_term p e) (instructions.Local Not) q
  TermIn c p (operation q o a b) =
      TermIn c p a × TermIn c (end_term p a) b × Fetches c (end_term (end_term p a) b) (instructions.Local (Operate o)) q
  TermIn c p (choice q e s a t b) =
      TermIn c p e
      × Fetches c (end_term p e) (instructions.Local (JumpIfFalse (end_term (end_actions (end_term p e + 1) s) a + 1))) q
      × ActionsIn c (end_term p e + 1) s
      × TermIn c (end_actions (end_term p e + 1) s) a
      × Fetches c (end_term (end_actions (end_term p e + 1) s) a) (instructions.Local (Jump (end_term (end_actions (end_term (end_actions (end_term p e + 1) s) a + 1) t) b))) q
      × ActionsIn c (end_term (end_actions (end_term p e + 1) s) a + 1) t
      × TermIn c (end_actions (end_term (end_actions (end_term p e + 1) s) a + 1) t) b
  TermIn c p (call q f h es) = Fetches c p (instructions.Local (Open h)) q × TermsIn c (p + 1) es × CallIn c (end_terms (p + 1) es) f q
  TermIn c p (amount q e) = TermIn c p e × Fetches c (end_term p e) instructions.Amount q
  TermIn c p (flag q e) = TermIn c p e × Fetches c (end_term p e) instructions.Flag q
  TermIn c p (post q a e) = TermIn c p a × TermIn c (end_term p a) e × Fetches c (end_term (end_term p a) e) instructions.Post q

  pub TermsIn : Program → ℕ → Terms → Type 0
  TermsIn c p no_terms = Unit {0}
  TermsIn c p (term e es) = TermIn c p e × TermsIn c (end_term p e) es

  pub ActionIn : Program → ℕ → Action → Type 0
  ActionIn c p (assign q h k e) = TermIn c p e × Fetches c (end_term p e) (instructions.Local (Store (record { hops = h; index = k }))) q
  ActionIn c p (perform e) = TermIn c p e
  ActionIn c p (perform_and_drop q e) = TermIn c p e × Fetches c (end_term p e) (instructions.Local Discard) q
  ActionIn c p (if_then q e s) =
      TermIn c p e × Fetches c (end_term p e) (instructions.Local (JumpIfFalse (end_actions (end_term p e + 1) s))) q × ActionsIn c (end_term p e + 1) s
  ActionIn c p (if_else q e s t) =
      TermIn c p e
      × Fetches c (end_term p e) (instructions.Local (JumpIfFalse (end_actions (end_term p e + 1) s + 1))) q
      × ActionsIn c (end_term p e + 1) s
      × Fetches c (end_actions (end_term p e + 1) s) (instructions.Local (Jump (end_actions (end_actions (end_term p e + 1) s + 1) t))) q
      × ActionsIn c (end_actions (end_term p e + 1) s + 1) t

  pub ActionsIn : Program → ℕ → Actions → Type 0
  ActionsIn c p no_actions = Unit {0}
  ActionsIn c p (action a rest) = ActionIn c p a × ActionsIn c (end_action p a) rest

abbrev pub EndingIn : Program → ℕ → Ending → Type 0
EndingIn c p nothing = Unit {0}
EndingIn c p (giving e) = TermIn c p e

-- each piece reaches to its end
mutual
  pub span-term : (at : List ℕ) (p : ℕ) (e : Term) → Spans p (emit_term at p e) (end_term p e)
  span-term at p (integer q n) = span-one p _
  span-term at p (truth q b) = span-one p _
  span-term at p (read q h k) = span-one p _
  span-term at p (negation q e) = span-both (span-term at p e) (span-one _ _)
  span-term at p (operation q o a b) = span-both (span-both (span-term at p a) (span-term at _ b)) (span-one _ _)
  span-term at p (choice q e s a t b) =
      span-both
      (span-both
      (span-both (span-both (span-both (span-both (span-term at p e) (span-one _ _)) (span-actions at _ s)) (span-term at _ a)) (span-one _ _))
      (span-actions at _ t))
      (span-term at _ b)
  span-term at p (call q f h es) = span-both (span-both (span-one p _) (span-terms at _ es)) (span-one _ _)
  span-term at p (amount q e) = span-both (span-term at p e) (span-one _ _)
  span-term at p (flag q e) = span-both (span-term at p e) (span-one _ _)
  span-term at p (post q a e) = span-both (span-both (span-term at p a) (span-term at _ e)) (span-one _ _)

  pub span-terms : (at : List ℕ) (p : ℕ) (es : Terms) → Spans p (emit_terms at p es) (end_terms p es)
  span-terms at p no_terms = span_none p
  span-terms at p (term e es) = span-both (span-term at p e) (span-terms at _ es)

  pub span-action : (at : List ℕ) (p : ℕ) (a : Action) → Spans p (emit_action at p a) (end_action p a)
  span-action at p (assign q h k e) = span-both (span-term at p e) (span-one _ _)
  span-action at p (perform e) = span-term at p e
  span-action at p (perform_and_drop q e) = span-both (span-term at p e) (span-one _ _)
  span-action at p (if_then q e s) = span-both (span-both (span-term at p e) (span-one _ _)) (span-actions at _ s)
  span-action at p (if_else q e s t) =
      span-both
      (span-both (span-both (span-both (span-term at p e) (span-one _ _)) (span-actions at _ s)) (span-one _ _))
      (span-actions at _ t)

  pub span-actions : (at : List ℕ) (p : ℕ) (a : Actions) → Spans p (emit_actions at p a) (end_actions p a)
  span-actions at p no_actions = span_none p
  span-actions at p (action a rest) = span-both (span-action at p a) (span-actions at _ rest)

pub span-ending : (at : List ℕ) (p : ℕ) (e : Ending) → Spans p (emit_ending at p e) (end_ending p e)
span-ending at p nothing = span_none p
span-ending at p (giving e) = span-term at p e

-- 256 times one number plus another below 256 is taken apart again
apart : (h k : ℕ) → k < 256 → ((256 * h + k) / 256 ≡ h) × ((256 * h + k) % 256 ≡ k)
apart h k l = (omega arith, omega arith)

pub slot_is : (h k : ℕ) → k < 256 → slot (256 * h + k) ≡ record { hops = h; index = k }
slot_is h k l = λ i. record { hops = (apart h k l).0 i; index = (apart h k l).1 i }

-- an operator's code is the operator's
operator-code : (c : Program) (o : Operator) → decoded (words c) (header c) (operator_number o + 4) 0 ≡ Ok (instructions.Local (Operate o))
operator-code c Multiply = refl
operator-code c Divide = refl
operator-code c Add = refl
operator-code c Subtract = refl
operator-code c Less = refl
operator-code c LessOrEqual = refl
operator-code c Greater = refl
operator-code c GreaterOrEqual = refl
operator-code c Equal = refl
operator-code c And = refl
operator-code c Or = refl

truth-code : (c : Program) (b : Bool) → decoded (words c) (header c) 2 (truth_operand b) ≡ Ok (instructions.Local (PushTruth b))
truth-code c false = refl
truth-code c true = refl

-- what a return or an end is, by the result type
abbrev pub returning : ValueType → Local
returning Void = Return
returning Int = ReturnValue
returning Truths = ReturnValue

abbrev pub finishing : ValueType → Instruction
finishing Void = instructions.End
finishing Int = instructions.EndValue
finishing Truths = instructions.EndValue

pub return-code : (c : Program) (t : ValueType) → decoded (words c) (header c) 23 (gives t) ≡ Ok (instructions.Local (returning t))
return-code c Void = refl
return-code c Int = refl
return-code c Truths = refl

pub end-code : (c : Program) (t : ValueType) → decoded (words c) (header c) 27 (gives t) ≡ Ok (finishing t)
end-code c Void = refl
end-code c Int = refl
end-code c Truths = refl

-- the entry of a function stands at a number
abbrev pub EntryStands : Program → ℕ → Function → Type 0
EntryStands c a (function q t n o inner body ending) = Stands c.code a (laid 22 (256 * n + o) q) × (o < 256)

pub fetches : {c : Program} {k w x q : ℕ} {i : Instruction} → Stands c.code k (laid w x q) → decoded (words c) (header c) w x ≡ Ok i → Fetches c k i q
fetches {c} h e = record { fetch = fetched-there c.result h ∙ e; place = place-there h }

pub target_code : (c : Program) (x : ℕ) (i : Instruction) → x < length c.code → target (header c) x i ≡ Ok i
target_code c x i l = cond-true _ _ _ (lt-ltb _ _ l)

call-code : (c : Program) (a : ℕ) (g : Function) → EntryStands c a g → decoded (words c) (header c) 21 a ≡ Ok (instructions.Local (Call (entry_of a g)))
call-code c a (function q t n o inner body end) h =
    cond-true _ _ _ (lt-ltb a (length c.code) (stands-below h.0))
    ∙ cond-true _ _ _ (eq-eqb _ 22 (code-there c.result h.0))
    ∙ ap {B = Result Instruction Halt} (λ x. Ok (instructions.Local (Call (entry a x)))) (operand-there c.result h.0)
    ∙ (λ i. Ok (instructions.Local (Call (record { start = a + 1; parameters = (apart n o h.1).0 i; others = (apart n o h.1).1 i }))))

-- every function's entry stands at its number
abbrev pub EntriesStand : Program → Type 0
EntriesStand c = (f : ℕ) (g : Function) → numbered_function c.functions f ≡ Some g → EntryStands c (get_or c.entries f 0) g

module _ (c : Program) (stand : EntriesStand c) where
  mutual
    pub term_in : (p : ℕ) (e : Term) → LawfulTerm e → Lies c.code p (emit_term c.entries p e) → TermIn c p e
    term_in p (integer q n) l h = fetches (lies-one h) (cond-true _ _ _ (le-leb n 2147483647 l))
    term_in p (truth q b) l h = fetches (lies-one h) (truth-code c b)
    term_in p (read q n k) l h = fetches (lies-one h) (ap {B = Result Instruction Halt} (λ x. Ok (instructions.Local (Load x))) (slot_is n k l))
    term_in p (negation q e) l h =
        (term_in p e l (lies-left _ _ h), fetches (lies-one (lies-right _ _ (span-term c.entries p e) h)) refl)
    term_in p (operation q o a b) l h =
        let first = lies-left _ _ h in (
          term_in p a l.0 (lies-left _ _ first),
          term_in _ b l.1 (lies-right _ _ (span-term c.entries p a) first),
          fetches (lies-one (lies-right _ _ (span-both (span-term c.entries p a) (span-term c.entries _ b)) h)) (operator-code c o),
        )
    term_in p (choice q e s a t b) l h =
        let h6 = lies-left _ _ h in
        let h5 = lies-left _ _ h6 in
        let h4 = lies-left _ _ h5 in
        let h3 = lies-left _ _ h4 in
        let h2 = lies-left _ _ h3 in
        let h1 = lies-left _ _ h2 in
        let s1 = span-term c.entries p e in
        let s2 = span-both s1 (span-one _ (laid 19 (end_term (end_actions (end_term p e + 1) s) a + 1) q)) in
        let s3 = span-both s2 (span-actions c.entries _ s) in
        let s4 = span-both s3 (span-term c.entries _ a) in
        let s5 = span-both s4 (span-one _ (laid 18 (end_term (end_actions (end_term (end_actions (end_term p e + 1) s) a + 1) t) b) q)) in
        let s6 = span-both s5 (span-actions c.entries _ t) in
        let s7 = span-both s6 (span-term c.entries _ b) in (
          term_in p e l.0 h1,
          fetches (lies-one (lies-right _ _ s1 h2)) (target_code c _ _ (lies-end s5 h5)),
          actions-in _ s l.1 (lies-right _ _ s2 h3),
          term_in _ a l.2 (lies-right _ _ s3 h4),
          fetches (lies-one (lies-right _ _ s4 h5)) (target_code c _ _ (lies-end s7 h)),
          actions-in _ t l.3 (lies-right _ _ s5 h6),
          term_in _ b l.4 (lies-right _ _ s6 h),
        )
    term_in p (call q f n es) l h =
        let first = lies-left _ _ h in (
          fetches (lies-one (lies-left _ _ first)) refl,
          terms-in _ es l (lies-right _ _ (span-one p (laid 20 n q)) first),
          λ g e. fetches (lies-one (lies-right _ _ (span-both (span-one p (laid 20 n q)) (span-terms c.entries _ es)) h)) (call-code c _ g (stand f g e)),
        )
    term_in p (amount q e) l h =
        (term_in p e l (lies-left _ _ h), fetches (lies-one (lies-right _ _ (span-term c.entries p e) h)) refl)
    term_in p (flag q e) l h =
        (term_in p e l (lies-left _ _ h), fetches (lies-one (lies-right _ _ (span-term c.entries p e) h)) refl)
    term_in p (post q a b) l h =
        let first = lies-left _ _ h in (
          term_in p a l.0 (lies-left _ _ first),
          term_in _ b l.1 (lies-right _ _ (span-term c.entries p a) first),
          fetches (lies-one (lies-right _ _ (span-both (span-term c.entries p a) (span-term c.entries _ b)) h)) refl,
        )

    pub terms-in : (p : ℕ) (es : Terms) → LawfulTerms es → Lies c.code p (emit_terms c.entries p es) → TermsIn c p es
    terms-in p no_terms l h = tt
    terms-in p (term e es) l h =
        (term_in p e l.0 (lies-left _ _ h), terms-in _ es l.1 (lies-right _ _ (span-term c.entries p e) h))

    pub action-in : (p : ℕ) (a : Action) → LawfulAction a → Lies c.code p (emit_action c.entries p a) → ActionIn c p a
    action-in p (assign q n k e) l h = (
      term_in p e l.1 (lies-left _ _ h),
      fetches (lies-one (lies-right _ _ (span-term c.entries p e) h)) (ap {B = Result Instruction Halt} (λ x. Ok (instructions.Local (Store x))) (slot_is n k l.0)),
    )
    action-in p (perform e) l h = term_in p e l h
    action-in p (perform_and_drop q e) l h =
        (term_in p e l (lies-left _ _ h), fetches (lies-one (lies-right _ _ (span-term c.entries p e) h)) refl)
    action-in p (if_then q e s) l h =
        let h2 = lies-left _ _ h in
        let s1 = span-term c.entries p e in
        let s2 = span-both s1 (span-one _ (laid 19 (end_actions (end_term p e + 1) s) q)) in
        let s3 = span-both s2 (span-actions c.entries _ s) in (
          term_in p e l.0 (lies-left _ _ h2),
          fetches (lies-one (lies-right _ _ s1 h2)) (target_code c _ _ (lies-end s3 h)),
          actions-in _ s l.1 (lies-right _ _ s2 h),
        )
    action-in p (if_else q e s t) l h =
        let h4 = lies-left _ _ h in
        let h3 = lies-left _ _ h4 in
        let h2 = lies-left _ _ h3 in
        let s1 = span-term c.entries p e in
        let s2 = span-both s1 (span-one _ (laid 19 (end_actions (end_term p e + 1) s + 1) q)) in
        let s3 = span-both s2 (span-actions c.entries _ s) in
        let s4 = span-both s3 (span-one _ (laid 18 (end_actions (end_actions (end_term p e + 1) s + 1) t) q)) in
        let s5 = span-both s4 (span-actions c.entries _ t) in (
          term_in p e l.0 (lies-left _ _ h2),
          fetches (lies-one (lies-right _ _ s1 h2)) (target_code c _ _ (lies-end s4 h4)),
          actions-in _ s l.1 (lies-right _ _ s2 h3),
          fetches (lies-one (lies-right _ _ s3 h4)) (target_code c _ _ (lies-end s5 h)),
          actions-in _ t l.2 (lies-right _ _ s4 h),
        )

    pub actions-in : (p : ℕ) (a : Actions) → LawfulActions a → Lies c.code p (emit_actions c.entries p a) → ActionsIn c p a
    actions-in p no_actions l h = tt
    actions-in p (action a rest) l h =
        (action-in p a l.0 (lies-left _ _ h), actions-in _ rest l.1 (lies-right _ _ (span-action c.entries p a) h))

  pub ending-in : (p : ℕ) (e : Ending) → LawfulEnding e → Lies c.code p (emit_ending c.entries p e) → EndingIn c p e
  ending-in p nothing l h = tt
  ending-in p (giving e) l h = term_in p e l h
