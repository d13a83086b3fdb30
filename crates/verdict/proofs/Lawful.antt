-- The translation of a lawful rule set is lawful code. Assumes nothing.
use Rattle.std.proofs.Common.{◌≡◌, ℕ, zero, suc, ◌+◌, ◌*◌, ◌<◌, ◌≤◌, Bool, true, false, List, [], ◌∷◌, ◌++◌, map, length, get_or, replicate, sym, refl, ap, ◌∙◌, arith}
use Rattle.std.proofs.lemmas.List.{append_assoc, append-nil, map-append, length-append, length-map, length-replicate, get_or-append-add}
use Rattle.language.specs.declared.values.ValueType.{ValueType}
use Rattle.language.specs.declared.values.ValueType.TheVariants.{Void, Int, Bool as Truths}
use Rattle.language.specs.declared.values.Operator.{Operator}
use Rattle.language.specs.declared.values.Operator.TheVariants.{Multiply, Divide, Add, Subtract, Less, LessOrEqual, Greater, GreaterOrEqual, Equal, And, Or}
use Rattle.language.specs.Numbers.{operator_number}
use Rattle.rules.specs.Resolved.{Term, Terms, Action, Actions, Ending, Function, Functions, Rules, all, with_inner}
use Rattle.rules.specs.Resolved.Term.{integer, truth, read, negation, operation, choice, call, amount, flag, post}
use Rattle.rules.specs.Resolved.Terms.{no_terms, term}
use Rattle.rules.specs.Resolved.Action.{assign, perform, perform_and_drop, if_then, if_else}
use Rattle.rules.specs.Resolved.Actions.{no_actions, action}
use Rattle.rules.specs.Resolved.Ending.{nothing, giving}
use Rattle.rules.specs.Resolved.Function.{function}
use Rattle.rules.specs.Resolved.Functions.{no_functions, more}
use Rattle.rules.specs.Translate.{Laid, laid, truth_operand, gives, end_term, end_terms, end_action, end_actions, end_ending, end_function, end_functions, entries_of, entries, emit_term, emit_terms, emit_action, emit_actions, emit_ending, emit_function, emit_functions, translated}
use Rattle.safety.specs.Lawful.{LawfulTerm, LawfulTerms, LawfulAction, LawfulActions, LawfulEnding, LawfulFunction, LawfulFunctions, Lawful}
use Rattle.safety.proofs.Lawful.{lawful-where-typed}
use Rattle.walk.specs.Lay.{instr}
use Rattle.verdict.specs.Verdict.{bare, plain}
use Rattle.verdict.specs.LawfulCode as lawful
use Rattle.verdict.specs.LawfulCode.{code_at, operand_at, LawfulFor, LawfulCode}
use Rattle.verdict.proofs.Laying.{Grows, Adds, adds_one, adds_then, adds-entered, lays-term, lays-terms, lays-actions, lays-ending, lays-function, lays-functions}

-- a piece is as long as from its first number to its end
spans : {f : Grows} {X : ℕ → List Laid} {e : ℕ → ℕ} → Adds f X e → (p : ℕ) → p + length (X p) ≡ e p
spans {f} {X} {e} a p =
    let c = replicate p (instr 0 0) in
    let n : length c ≡ p = length-replicate p (instr 0 0) in
    let l : length (f c) ≡ length c + length (plain (X (length c))) = ap length (a.adds c) ∙ length-append c (plain (X (length c))) in
    let m : length (plain (X (length c))) ≡ length (X p) = ap (λ k. length (plain (X k))) n ∙ length-map (X p) bare in
    omega (arith, l, m, a.ends c ∙ ap e n)

grows : {f : Grows} {X : ℕ → List Laid} {e : ℕ → ℕ} → Adds f X e → (p : ℕ) → p ≤ e p
grows {X = X} a p = omega (arith, spans a p)

-- instructions of some code, each lawful in it
data Each (code : List Laid) : List Laid → Type 0 where
  none : Each code []
  one : {i : Laid} {is : List Laid} → LawfulFor code i.code i.operand → Each code is → Each code (i ∷ is)

each_both : {code xs ys : List Laid} → Each code xs → Each code ys → Each code (xs ++ ys)
each_both none q = q
each_both (one h p) q = one h (each_both p q)

each_at : {code xs : List Laid} → Each code xs → (k : ℕ) → k < length xs → LawfulFor code (code_at xs k) (operand_at xs k)
each_at none k h = absurd (omega arith)
each_at (one l p) zero h = l
each_at (one l p) (suc k) h = each_at p k (omega arith)

just : {code : List Laid} {i : Laid} → LawfulFor code i.code i.operand → Each code (i ∷ [])
just h = one h none

given : (t : ValueType) → gives t ≤ 1
given Void = omega arith
given Int = omega arith
given Truths = omega arith

truths : (b : Bool) → truth_operand b ≤ 1
truths true = omega arith
truths false = omega arith

operators : (o : Operator) → (1 ≤ operator_number o) × (operator_number o ≤ 11)
operators Multiply = omega arith
operators Divide = omega arith
operators Add = omega arith
operators Subtract = omega arith
operators Less = omega arith
operators LessOrEqual = omega arith
operators Greater = omega arith
operators GreaterOrEqual = omega arith
operators Equal = omega arith
operators And = omega arith
operators Or = omega arith

-- an entry in some code
abbrev IsEntry : List Laid → ℕ → Type 0
IsEntry code x = (x < length code) × (code_at code x ≡ 22)

module _ (code : List Laid) (at : List ℕ) (functions : ℕ) (called : (f : ℕ) → f < functions → IsEntry code (get_or at f 0)) where
  mutual
    lawful-term : (r : Term) (p frames : ℕ) → frames ≤ 33 → LawfulTerm functions frames r → end_term p r < length code → Each code (emit_term at p r)
    lawful-term (integer q n) p frames d l h = just (lawful.number l)
    lawful-term (truth q b) p frames d l h = just (lawful.truth (truths b))
    lawful-term (read q i k) p frames d l h = just (lawful.load (omega (arith, l.0, l.1)))
    lawful-term (negation q e) p frames d l h = each_both (lawful-term e p frames d l (omega arith)) (just (lawful.bare (omega arith) (omega arith)))
    lawful-term (operation q o a b) p frames d l h =
        each_both
        (each_both (lawful-term a p frames d l.0 (omega (arith, grows (lays-term at b) (end_term p a)))) (lawful-term b (end_term p a) frames d l.1 (omega arith)))
        (just (lawful.bare (omega (arith, operators o)) (omega (arith, operators o))))
    lawful-term (choice q c s a t b) p frames d l h =
        let p₁ = end_term p c in
        let p₂ = end_actions (p₁ + 1) s in
        let p₃ = end_term p₂ a in
        let p₄ = end_actions (p₃ + 1) t in
        let g₂ = grows (lays-actions at s) (p₁ + 1) in
        let g₃ = grows (lays-term at a) p₂ in
        let g₄ = grows (lays-actions at t) (p₃ + 1) in
        let g₅ = grows (lays-term at b) p₄ in
        each_both
        (each_both
        (each_both
        (each_both
        (each_both
        (each_both (lawful-term c p frames d l.0 (omega arith)) (just (lawful.jump_if_false (omega arith))))
        (lawful-actions s (p₁ + 1) frames d l.1 (omega arith)))
        (lawful-term a p₂ frames d l.2 (omega arith)))
        (just (lawful.jump h)))
        (lawful-actions t (p₃ + 1) frames d l.3 (omega arith)))
        (lawful-term b p₄ frames d l.4 h)
    lawful-term (call q f i es) p frames d l h =
        each_both (each_both (just (lawful.links (omega (arith, l.1)))) (lawful-terms es (p + 1) frames d l.2 (omega arith))) (just (lawful.call (called f l.0).0 (called f l.0).1))
    lawful-term (amount q e) p frames d l h = each_both (lawful-term e p frames d l (omega arith)) (just (lawful.ask (omega arith) (omega arith)))
    lawful-term (flag q e) p frames d l h = each_both (lawful-term e p frames d l (omega arith)) (just (lawful.ask (omega arith) (omega arith)))
    lawful-term (post q a b) p frames d l h =
        each_both
        (each_both (lawful-term a p frames d l.0 (omega (arith, grows (lays-term at b) (end_term p a)))) (lawful-term b (end_term p a) frames d l.1 (omega arith)))
        (just (lawful.ask (omega arith) (omega arith)))

    lawful-terms : (rs : Terms) (p frames : ℕ) → frames ≤ 33 → LawfulTerms functions frames rs → end_terms p rs < length code → Each code (emit_terms at p rs)
    lawful-terms no_terms p frames d l h = none
    lawful-terms (term e es) p frames d l h = each_both (lawful-term e p frames d l.0 (omega (arith, grows (lays-terms at es) (end_term p e)))) (lawful-terms es (end_term p e) frames d l.1 h)

    lawful-action : (a : Action) (p frames : ℕ) → frames ≤ 33 → LawfulAction functions frames a → end_action p a < length code → Each code (emit_action at p a)
    lawful-action (assign q i k e) p frames d l h = each_both (lawful-term e p frames d l.2 (omega arith)) (just (lawful.store (omega (arith, l.0, l.1))))
    lawful-action (perform e) p frames d l h = lawful-term e p frames d l h
    lawful-action (perform_and_drop q e) p frames d l h = each_both (lawful-term e p frames d l (omega arith)) (just (lawful.bare (omega arith) (omega arith)))
    lawful-action (if_then q c s) p frames d l h =
        let g = grows (lays-actions at s) (end_term p c + 1) in
        each_both (each_both (lawful-term c p frames d l.0 (omega arith)) (just (lawful.jump_if_false h))) (lawful-actions s (end_term p c + 1) frames d l.1 h)
    lawful-action (if_else q c s t) p frames d l h =
        let p₁ = end_term p c in
        let p₂ = end_actions (p₁ + 1) s in
        let g₂ = grows (lays-actions at s) (p₁ + 1) in
        let g₃ = grows (lays-actions at t) (p₂ + 1) in
        each_both
        (each_both
        (each_both
        (each_both (lawful-term c p frames d l.0 (omega arith)) (just (lawful.jump_if_false (omega arith))))
        (lawful-actions s (p₁ + 1) frames d l.1 (omega arith)))
        (just (lawful.jump h)))
        (lawful-actions t (p₂ + 1) frames d l.2 h)

    lawful-actions : (α : Actions) (p frames : ℕ) → frames ≤ 33 → LawfulActions functions frames α → end_actions p α < length code → Each code (emit_actions at p α)
    lawful-actions no_actions p frames d l h = none
    lawful-actions (action a rest) p frames d l h = each_both (lawful-action a p frames d l.0 (omega (arith, grows (lays-actions at rest) (end_action p a)))) (lawful-actions rest (end_action p a) frames d l.1 h)

  lawful-ending : (e : Ending) (p frames : ℕ) → frames ≤ 33 → LawfulEnding functions frames e → end_ending p e < length code → Each code (emit_ending at p e)
  lawful-ending nothing p frames d l h = none
  lawful-ending (giving e) p frames d l h = lawful-term e p frames d l h

  mutual
    lawful-function : (f : Function) (p frames : ℕ) → LawfulFunction functions frames f → end_function p f < length code → Each code (emit_function at p f)
    lawful-function (function q t n o inner body e) p frames l h =
        let p₁ = end_functions (p + 2) inner in
        let p₂ = end_actions p₁ body in
        let g₁ = grows (lays-functions at inner) (p + 2) in
        let g₂ = grows (lays-actions at body) p₁ in
        let g₃ = grows (lays-ending at e) p₂ in
        let d : suc frames ≤ 33 = omega (arith, l.0) in
        each_both
        (each_both
        (each_both
        (each_both (one (lawful.jump h) (just (lawful.entry (omega (arith, l.1))))) (lawful-functions inner (p + 2) (suc frames) l.2 (omega arith)))
        (lawful-actions body p₁ (suc frames) d l.3 (omega arith)))
        (lawful-ending e p₂ (suc frames) d l.4 (omega arith)))
        (just (lawful.return (given t)))

    lawful-functions : (fs : Functions) (p frames : ℕ) → LawfulFunctions functions frames fs → end_functions p fs < length code → Each code (emit_functions at p fs)
    lawful-functions no_functions p frames l h = none
    lawful-functions (more f fs) p frames l h = each_both (lawful-function f p frames l.0 (omega (arith, grows (lays-functions at fs) (end_function p f)))) (lawful-functions fs (end_function p f) frames l.1 h)

-- a piece stands in some code from a number on
record Stands (code : List Laid) (p : ℕ) (piece : List Laid) : Type 0 where
  before : List Laid
  after : List Laid
  is : code ≡ before ++ (piece ++ after)
  long : length before ≡ p

stands-left : {code : List Laid} {p : ℕ} (xs ys : List Laid) → Stands code p (xs ++ ys) → Stands code p xs
stands-left xs ys s = record { before = s.before; after = ys ++ s.after; is = s.is ∙ ap (λ zs. s.before ++ zs) (append_assoc xs ys s.after); long = s.long }

stands-right : {code : List Laid} {p q : ℕ} (xs ys : List Laid) → p + length xs ≡ q → Stands code p (xs ++ ys) → Stands code q ys
stands-right xs ys e s =
    record {
      before = s.before ++ xs;
      after = s.after;
      is = s.is ∙ ap (λ zs. s.before ++ zs) (append_assoc xs ys s.after) ∙ sym (append_assoc s.before xs (ys ++ s.after));
      long = length-append s.before xs ∙ ap (λ n. n + length xs) s.long ∙ e;
    }

-- numbers at which entries stand
data AllEntries (code : List Laid) : List ℕ → Type 0 where
  no_entries : AllEntries code []
  one_entry : {x : ℕ} {xs : List ℕ} → IsEntry code x → AllEntries code xs → AllEntries code (x ∷ xs)

entries-both : {code : List Laid} {xs ys : List ℕ} → AllEntries code xs → AllEntries code ys → AllEntries code (xs ++ ys)
entries-both no_entries q = q
entries-both (one_entry h p) q = one_entry h (entries-both p q)

entry_at : {code : List Laid} {xs : List ℕ} → AllEntries code xs → (k : ℕ) → k < length xs → IsEntry code (get_or xs k 0)
entry_at no_entries k h = absurd (omega arith)
entry_at (one_entry l p) zero h = l
entry_at (one_entry l p) (suc k) h = entry_at p k (omega arith)

-- the second instruction of a function
second-there : {code : List Laid} {p x : ℕ} {q : ℕ} (i : Laid) (rest : List Laid) → Stands code p (i ∷ laid 22 x q ∷ rest) → IsEntry code (p + 1)
second-there {code} {p} {x} {q} i rest s =
    let b = s.before in
    let tail = i ∷ laid 22 x q ∷ (rest ++ s.after) in
    let whole : length code ≡ length b + length tail = ap length s.is ∙ length-append b tail in
    let at : p + 1 ≡ length (map (λ (l : Laid). l.code) b) + 1 = omega (arith, s.long, length-map b (λ (l : Laid). l.code)) in (
      omega (arith, whole, s.long),
      ap (λ k. code_at code k) at
          ∙ ap (λ c. code_at c (length (map (λ (l : Laid). l.code) b) + 1)) s.is
          ∙ ap (λ cs. get_or cs (length (map (λ (l : Laid). l.code) b) + 1) 0) (map-append (λ (l : Laid). l.code) b tail)
          ∙ get_or-append-add (map (λ (l : Laid). l.code) b) (map (λ (l : Laid). l.code) tail) 1 0,
    )

module _ (code : List Laid) (at : List ℕ) where
  mutual
    entries-function : (f : Function) (p : ℕ) → Stands code p (emit_function at p f) → AllEntries code (entries_of p f)
    entries-function (function q t n o inner body e) p s =
        let p₁ = end_functions (p + 2) inner in
        let p₂ = end_actions p₁ body in
        let first = laid 18 (end_ending p₂ e + 1) q ∷ laid 22 (256 * n + o) q ∷ [] in
        let xs = first ++ emit_functions at (p + 2) inner in
        let ys = emit_actions at p₁ body in
        let zs = emit_ending at p₂ e in
        let here = stands-left xs ys (stands-left (xs ++ ys) zs (stands-left ((xs ++ ys) ++ zs) (laid 23 (gives t) q ∷ []) s)) in
        one_entry (second-there (laid 18 (end_ending p₂ e + 1) q) (emit_functions at (p + 2) inner) here) (entries-functions inner (p + 2) (stands-right first (emit_functions at (p + 2) inner) refl here))

    entries-functions : (fs : Functions) (p : ℕ) → Stands code p (emit_functions at p fs) → AllEntries code (entries p fs)
    entries-functions no_functions p s = no_entries
    entries-functions (more f fs) p s =
        entries-both (entries-function f p (stands-left (emit_function at p f) (emit_functions at (end_function p f) fs) s))
        (entries-functions fs (end_function p f) (stands-right (emit_function at p f) (emit_functions at (end_function p f) fs) (spans (lays-function at f) p) s))

-- as many entries as functions
mutual
  count-function : (f : Function) (p : ℕ) → length (entries_of p f) ≡ length (with_inner f)
  count-function (function q t n o inner body e) p = ap suc (count-functions inner (p + 2))

  count-functions : (fs : Functions) (p : ℕ) → length (entries p fs) ≡ length (all fs)
  count-functions no_functions p = refl
  count-functions (more f fs) p =
      omega (arith, length-append (entries_of p f) (entries (end_function p f) fs), length-append (with_inner f) (all fs), count-function f p, count-functions fs (end_function p f))

pub lawful-code : (r : Rules) → Lawful r → (k : ℕ) → k < length (translated r) → LawfulFor (translated r) (code_at (translated r) k) (operand_at (translated r) k)
lawful-code r l =
    let fs = r.functions in
    let at = entries 1 fs in
    let p₁ = end_functions 1 fs in
    let p₂ = end_actions p₁ r.actions in
    let first = laid 22 r.others r.place ∷ [] in
    let xs = first ++ emit_functions at 1 fs in
    let ys = emit_actions at p₁ r.actions in
    let zs = emit_ending at p₂ r.ending in
    let last = laid 27 (gives r.result) r.place ∷ [] in
    let whole : Stands (translated r) 0 (translated r) = record { before = []; after = []; is = sym (append-nil (translated r)); long = refl } in
    let here = stands-left xs ys (stands-left (xs ++ ys) zs (stands-left ((xs ++ ys) ++ zs) last whole)) in
    let entered = entries-functions (translated r) at fs 1 (stands-right first (emit_functions at 1 fs) refl here) in
    let called : (f : ℕ) → f < length (all fs) → IsEntry (translated r) (get_or at f 0) = λ f h. entry_at entered f (omega (arith, count-functions fs 1)) in
    let long = spans (adds_then (adds_then (adds_then (adds-entered r.others r.place (lays-functions at fs)) (lays-actions at r.actions)) (lays-ending at r.ending)) (adds_one 27 (gives r.result) r.place)) 0 in
    let g₂ = grows (lays-actions at r.actions) p₁ in
    let g₃ = grows (lays-ending at r.ending) p₂ in
    let each : Each (translated r) (translated r) =
    each_both
    (each_both
    (each_both
    (each_both (just (lawful.entry (omega (arith, l.others)))) (lawful-functions (translated r) at (length (all fs)) called fs 1 1 l.functions (omega arith)))
    (lawful-actions (translated r) at (length (all fs)) called r.actions p₁ 1 (omega arith) l.actions (omega arith)))
    (lawful-ending (translated r) at (length (all fs)) called r.ending p₂ 1 (omega arith) l.ending (omega arith)))
    (just (lawful.end (given r.result))) in
    each_at each

pub lawful-translation : LawfulCode
lawful-translation p t r h limits names = lawful-code r (lawful-where-typed p t r h limits names)
