-- Declarations, bodies and programs that have a type are accepted, with the code of what they resolve to. Assumes nothing.
use Rattle.std.proofs.Common.{◌≡◌, ℕ, suc, ◌+◌, ◌*◌, ◌<◌, ◌≤◌, Bool, true, false, cond, List, [], ◌∷◌, ◌++◌, map, length, get_or, set, None, Ok, Err, Result, sym, refl, ap, ◌∙◌, subst, arith}
use Rattle.std.proofs.lemmas.List.{append-nil, length-append, length_push, length-replicate, get_or_append_left, get_or-append-add}
use Rattle.std.proofs.lemmas.Bool.{lt-leb}
use Rattle.language.specs.declared.faults.Fault.{Fault}
use Rattle.language.specs.declared.faults.WalkRefusal.TheVariants.{DeclaredTwice, TooManyNames, TooDeep}
use Rattle.language.specs.declared.values.ValueType.{ValueType}
use Rattle.table.specs.Tree.{Statements, Final, Parameter, Declaration, Declarations, Body}
use Rattle.rules.specs.Resolved.{Actions, Ending, Functions, Rules}
use Rattle.table.specs.Tree.Declarations.{declaration}
use Rattle.rules.specs.Resolved.Actions.{no_actions}
use Rattle.rules.specs.Resolved.Ending.{giving}
use Rattle.rules.specs.Resolved.Functions.{no_functions}
use Rattle.rules.specs.Translate.{gives, end_function, entries_of, entries, translated}
use Rattle.typing.specs.Scopes as rules
use Rattle.typing.specs.Scopes.{Env, is_there, find}
use Rattle.typing.specs.Scopes.Named.{function as function'}
use Rattle.typing.specs.Rules.{top, RunsAll, Ends, Parameters, Declares, DeclaresAll, HasBody}
use Rattle.typing.specs.Rules.RunsAll.{done}
use Rattle.typing.specs.Rules.Ends.{with_none, with_exp}
use Rattle.typing.specs.Rules.Parameters.{no_parameters, one_parameter}
use Rattle.typing.specs.Rules.Declares.{id_dec, fun_dec}
use Rattle.typing.specs.Rules.DeclaresAll.{none_left, variable_first, function_first}
use Rattle.typing.specs.Rules.HasBody.{has_body}
use Rattle.typing.specs.Rules.IsTyped.{single_exp, dec_stm_exp}
use Rattle.typing.specs.Limits.{Fits, FitsAll, FitsBody}
use Rattle.walk.specs.declared.codes.Instr.{Instr}
use Rattle.walk.specs.Bind.{refusal}
use Rattle.walk.specs.Lay.{instr, laid}
use Rattle.walk.specs.Sets.{none_set}
use Rattle.walk.specs.Scopes.Thing.{variable, function}
use Rattle.walk.specs.Types.{same_type}
use Rattle.walk.specs.Expressions.{walk_statements}
use Rattle.walk.specs.Programs.{Scope, new, room_for, shallow, declaring, type_of, walk_parameters, walk_final, inside, walk_declaration, walk_declarations, walk_body}
use Rattle.verdict.specs.Verdict.{plain, AcceptsWhatIsTyped}
use Rattle.verdict.proofs.Onward.{onward, along, same-type, typed-right}
use Rattle.verdict.proofs.Piles.{Pile, level, size, env, scope, size-with}
use Rattle.verdict.proofs.Piles.Pile.{base, opened, with}
use Rattle.verdict.proofs.Related.{AllValued, Same, looked-above}
use Rattle.verdict.proofs.Related.AllValued.{none_valued, one_valued}
use Rattle.verdict.proofs.Related.Flagged.{not_yet, already}
use Rattle.verdict.proofs.Related.Same.{same_variable, same_function}
use Rattle.verdict.proofs.Related.Related.{related_base}
use Rattle.verdict.proofs.Laying.{lay_actions, lay_ending, entered_by, lay_function, lay_functions, adds_one, adds_then, adds-entered, lays-actions, lays-ending, lays-function, lays-functions}
use Rattle.verdict.proofs.Accepts.{EntryIn, Known, accepts, accepts-statements}
use Rattle.verdict.proofs.Entering.{known-enter, known-open}

-- From a number on, the entries are these
pub record Listed (at : List ℕ) (n : ℕ) (es : List ℕ) : Type 0 where
  pub there : (j : ℕ) → j < length es → get_or at (n + j) 0 ≡ get_or es j 0

listed-left : {at : List ℕ} {n : ℕ} (xs ys : List ℕ) → Listed at n (xs ++ ys) → Listed at n xs
listed-left xs ys l = record { there = λ j h. l.there j (omega (arith, length-append xs ys)) ∙ get_or_append_left xs ys 0 j h }

listed-right : {at : List ℕ} {n m : ℕ} (xs ys : List ℕ) → m ≡ n + length xs → Listed at n (xs ++ ys) → Listed at m ys
listed-right {at} {n} {m} xs ys e l =
    record { there = λ j h. ap (λ k. get_or at k 0) (omega arith) ∙ l.there (length xs + j) (omega (arith, length-append xs ys)) ∙ get_or-append-add xs ys j 0 }

listed-first : {at : List ℕ} {n : ℕ} (x : ℕ) (xs : List ℕ) → Listed at n (x ∷ xs) → get_or at n 0 ≡ x
listed-first {at} {n} x xs l = ap (λ k. get_or at k 0) (omega arith) ∙ l.there 0 (omega arith)

listed-rest : {at : List ℕ} {n : ℕ} (x : ℕ) (xs : List ℕ) → Listed at n (x ∷ xs) → Listed at (n + 1) xs
listed-rest {at} {n} x xs l = record { there = λ j h. ap (λ k. get_or at k 0) (omega arith) ∙ l.there (suc j) (omega arith) }

listed-all : (at : List ℕ) → Listed at 0 at
listed-all at = record { there = λ j h. ap (λ k. get_or at k 0) (omega arith) }

-- the limits hold
module _ (pile : Pile) (slots : ℕ) (flags : List Bool) (p : ℕ) where
  is-new : {Entered : ℕ → ℕ → Type 0} {Γ : Env} (x : ℕ) → find x (top Γ) ≡ None → Known Entered pile flags Γ → new p (scope pile slots flags) x ≡ Ok tt
  is-new {Entered} x e k = ap (λ b. cond b (Err (refusal p DeclaredTwice)) (Ok tt)) (looked-above Entered flags x k.related ∙ ap is_there e)

  has_room : size pile + 1 ≤ 255 → room_for p (scope pile slots flags) ≡ Ok tt
  has_room h = ap (λ b. cond b (Err (refusal p TooManyNames)) (Ok tt)) (lt-leb 255 (size pile) (omega arith))

  is-shallow : level pile + 1 ≤ 32 → shallow p (scope pile slots flags) ≡ Ok tt
  is-shallow h = ap (λ b. cond b (Err (refusal p TooDeep)) (Ok tt)) (lt-leb 32 (level pile) (omega arith))

-- the parameters' types
pub parameter-types : {σ σ' : rules.Scope} {k : ℕ} {qs : List Parameter} {ts : List ValueType} → Parameters σ k qs σ' ts → map type_of qs ≡ ts
parameter-types no_parameters = refl
parameter-types (one_parameter {t = t} e v r) = ap (λ ts. t ∷ ts) (parameter-types r)

pub parameters-valued : {σ σ' : rules.Scope} {k : ℕ} {qs : List Parameter} {ts : List ValueType} → Parameters σ k qs σ' ts → AllValued ts
parameters-valued no_parameters = none_valued
parameters-valued (one_parameter e v r) = one_valued v (parameters-valued r)

-- where the walk comes to after declarations: to this many slots and this code
pub record After (at : List ℕ) (Γ : Env) (slots : ℕ) (result : Result (Scope × List Instr) Fault) (code : List Instr) : Type 0 where
  pub pile : Pile
  pub flags : List Bool
  pub goes : result ≡ Ok (scope pile slots flags, code)
  pub known : Known (EntryIn at) pile flags Γ
  pub room : size pile ≤ 255

module _ (at : List ℕ) where
  declares-variable : {Γ : Env} (t : ValueType) (p x slot : ℕ) (b : Bool) (pile : Pile) (flags : List Bool) → find x (top Γ) ≡ None → Known (EntryIn at) pile flags Γ → size pile + 1 ≤ 255 → declaring p t x b (scope pile slot flags) ≡ Ok (scope (with x (variable t slot) pile) (slot + 1) (set flags (size pile) b))
  declares-variable t p x slot b pile flags e k h = onward _ (is-new pile slot flags p x e k) (onward _ (has_room pile slot flags p h) refl)

  accepts-parameters : {σ σ' : rules.Scope} {slot : ℕ} {qs : List Parameter} {ts : List ValueType} → Parameters σ slot qs σ' ts → {Γ : Env} (pile : Pile) (flags : List Bool) (slots : ℕ) → slots ≡ slot + length ts → Known (EntryIn at) pile flags (σ ∷ Γ) → size pile + length qs ≤ 255 → (pile' : Pile) × (flags' : List Bool) × (walk_parameters qs (scope pile slot flags) ≡ Ok (scope pile' slots flags')) × Known (EntryIn at) pile' flags' (σ' ∷ Γ) × (size pile' ≡ size pile + length qs) × (level pile' ≡ level pile)
  accepts-parameters (no_parameters {slot = slot}) pile flags slots e k h = (pile, flags, ap (λ n. Ok (scope pile n flags)) (omega arith), k, omega arith, refl)
  accepts-parameters (one_parameter {slot = slot} {p = p} {x = x} {t = t} f v r) {Γ} pile flags slots e k h =
      let s = accepts-parameters r {Γ = Γ} (with x (variable t slot) pile) (set flags (size pile) true) slots (omega arith) (known-enter (EntryIn at) flags true (omega arith) (same_variable already v) k) (omega (arith, size-with x (variable t slot) pile)) in
      (s.0, s.1, onward {r = Ok (scope s.0 slots s.1)} _ (declares-variable t p x slot true pile flags f k (omega arith)) s.2, s.3, omega (arith, s.4, size-with x (variable t slot) pile), s.5)

  accepts-final : {Γ : Env} {f : Final} {t : ValueType} {e : Ending} → Ends Γ f t e → (pile : Pile) (flags : List Bool) (code : List Instr) → size pile ≤ 255 → Known (EntryIn at) pile flags Γ → walk_final (env pile) f flags code ≡ Ok (t, lay_ending at e code)
  accepts-final with_none pile flags code room k = refl
  accepts-final (with_exp h) pile flags code room k = accepts at pile room h flags code k

  -- the inside of a body, once its declarations have gone through
  accepts-inside : {Γ Γ' : Env} {ss : Statements} {f : Final} {t : ValueType} {α : Actions} {e : Ending} (inner : Functions) (pile : Pile) (slot slots : ℕ) (flags : List Bool) (code : List Instr) (walking : Scope → List Instr → Result (Scope × List Instr) Fault) → After at Γ slots (walking (scope pile slot flags) (laid code 22 0)) (lay_functions at inner (laid code 22 0)) → RunsAll Γ ss Γ' α → Ends Γ' f t e → (others : ℕ) → slots ≡ slot + others → inside (scope pile slot flags) ss f code walking ≡ Ok (t, lay_ending at e (lay_actions at α (entered_by (256 * slot + others) (λ d. lay_functions at inner d) code)))
  accepts-inside {ss = ss} inner pile slot slots flags code walking a r e others o =
      let c = entered_by (256 * slot + others) (λ d. lay_functions at inner d) code in
      let s = accepts-statements at a.pile a.room r a.flags c a.known in
      onward _ a.goes
      (onward _ (ap (λ n. walk_statements (env a.pile) ss a.flags (entered_by (256 * slot + n) (λ d. lay_functions at inner d) code)) (omega arith) ∙ s.1)
      (accepts-final e a.pile s.0 _ a.room s.2))

  mutual
    pub accepts-declaration : {Γ Γ' : Env} {slot slot' number number' : ℕ} {d : Declaration} {fs : Functions} → Declares Γ slot number d Γ' slot' number' fs → (pile : Pile) (flags : List Bool) (code : List Instr) (names depth : ℕ) → size pile ≡ names → level pile ≡ depth → Known (EntryIn at) pile flags Γ → Fits names depth d → Listed at number (entries (length code) fs)
        → (a : After at Γ' slot' (walk_declaration d (scope pile slot flags) code) (lay_functions at fs code)) × (size a.pile ≡ names + 1) × (level a.pile ≡ depth) × (number' ≡ number + length (entries (length code) fs))
    accepts-declaration (id_dec {slot = slot} {p = p} {x = x} {t = t} e v) pile flags code names depth n l k fits es =
        let grown = size-with x (variable t slot) pile in (
          record {
            pile = with x (variable t slot) pile;
            flags = set flags (size pile) false;
            goes = along _ (declares-variable t p x slot false pile flags e k (omega arith));
            known = known-enter (EntryIn at) flags false (omega arith) (same_variable not_yet v) k;
            room = omega arith;
          },
          omega arith,
          l,
          omega arith,
        )
    accepts-declaration (fun_dec {slot = slot} {number = number} {p = p} {x = x} {others = others} {t = t} {qs = qs} {b = b} {ts = ts} {inner = inner} {α = α} {ending = e} f ps h) pile flags code names depth n l k fits es =
        let inside = entries (length code + 2) inner in
        let this = function t (map type_of qs) (length code + 1) in
        let grown = size-with x this pile in
        let same : Same (EntryIn at) false (function' number ts t) this =
        subst (λ us. Same (EntryIn at) false (function' number ts t) (function t us (length code + 1))) (sym (parameter-types ps)) (same_function (listed-first (length code + 1) (inside ++ []) es) (parameters-valued ps)) in
        let known = known-enter (EntryIn at) flags false {x = x} (omega arith) same k in
        let q = accepts-parameters ps (opened (with x this pile)) (set flags (size pile) false) (length ts) (omega arith) (known-open known) (omega (arith, fits.2)) in
        let two : length code + 2 ≡ length (laid code 18 0) + 1 = omega (arith, length_push code (instr 18 0)) in
        let r =
        accepts-body h q.0 q.1 (laid code 18 0) (names + 1 + length qs) (depth + 1) others (omega (arith, q.4)) (omega (arith, q.5)) (omega (arith, q.4, fits.2)) refl q.3 fits.3
        (subst (λ c. Listed at (number + 1) (entries c inner)) two (listed-left inside [] (listed-rest (length code + 1) (inside ++ []) es))) in (
          record {
            pile = with x this pile;
            flags = set flags (size pile) false;
            goes = onward _ (is-new pile slot flags p x f k) (onward _ (has_room pile slot flags p (omega (arith, fits.0))) (onward _ (is-shallow pile slot flags p (omega (arith, fits.1))) (onward _ q.2 (onward _ r.0 refl))));
            known = known;
            room = omega (arith, fits.0);
          },
          omega arith,
          l,
          omega (arith, r.1 ∙ ap (λ c. number + 1 + length (entries c inner)) (sym two), ap length (append-nil inside)),
        )

    pub accepts-declarations : {Γ Γ' : Env} {slot slot' number number' : ℕ} {ds : Declarations} {fs : Functions} → DeclaresAll Γ slot number ds Γ' slot' number' fs → (pile : Pile) (flags : List Bool) (code : List Instr) (names depth : ℕ) → size pile ≡ names → level pile ≡ depth → size pile ≤ 255 → Known (EntryIn at) pile flags Γ → FitsAll names depth ds → Listed at number (entries (length code) fs)
        → (a : After at Γ' slot' (walk_declarations ds (scope pile slot flags) code) (lay_functions at fs code)) × (number' ≡ number + length (entries (length code) fs))
    accepts-declarations none_left pile flags code names depth n l room k fits es = (record { pile = pile; flags = flags; goes = refl; known = k; room = room }, omega arith)
    accepts-declarations (variable_first {fs = fs} Γ' slot' number' d ds) pile flags code names depth n l room k fits es =
        let a = accepts-declaration d pile flags code names depth n l k fits.0 (record { there = λ j h. absurd (omega arith) }) in
        let b = accepts-declarations ds a.0.pile a.0.flags code (names + 1) depth a.1 a.2 a.0.room a.0.known fits.1 (listed-right [] (entries (length code) fs) a.3 es) in
        (record { pile = b.0.pile; flags = b.0.flags; goes = onward _ a.0.goes b.0.goes; known = b.0.known; room = b.0.room }, omega (arith, a.3, b.1))
    accepts-declarations (function_first {number = number} {f = f} {fs = fs} Γ' slot' number' d ds) pile flags code names depth n l room k fits es =
        let first = entries_of (length code) f in
        let rest = entries (end_function (length code) f) fs in
        let a = accepts-declaration d pile flags code names depth n l k fits.0 (subst (λ xs. Listed at number xs) (sym (append-nil first)) (listed-left first rest es)) in
        let end : length (lay_function at f code) ≡ end_function (length code) f = (lays-function at f).ends code in
        let more : number' ≡ number + length first = a.3 ∙ ap (λ xs. number + length xs) (append-nil first) in
        let b = accepts-declarations ds a.0.pile a.0.flags (lay_function at f code) (names + 1) depth a.1 a.2 a.0.room a.0.known fits.1 (subst (λ q. Listed at number' (entries q fs)) (sym end) (listed-right first rest more es)) in
        (record { pile = b.0.pile; flags = b.0.flags; goes = onward _ a.0.goes b.0.goes; known = b.0.known; room = b.0.room }, omega (arith, b.1 ∙ ap (λ q. number' + length (entries q fs)) end, more, length-append first rest))

    pub accepts-body : {Γ : Env} {slot number slots after : ℕ} {b : Body} {t : ValueType} {inner : Functions} {α : Actions} {e : Ending} → HasBody Γ slot number b t slots after inner α e → (pile : Pile) (flags : List Bool) (code : List Instr) (names depth others : ℕ) → size pile ≡ names → level pile ≡ depth → size pile ≤ 255 → slots ≡ slot + others → Known (EntryIn at) pile flags Γ → FitsBody names depth b → Listed at number (entries (length code + 1) inner)
        → (walk_body b t (scope pile slot flags) code ≡ Ok (t, lay_ending at e (lay_actions at α (entered_by (256 * slot + others) (λ d. lay_functions at inner d) code)))) × (after ≡ number + length (entries (length code + 1) inner))
    accepts-body (has_body {slot = slot} {number = number} {p = p} {slots = slots} {ds = ds} {t = t} {inner = inner} Γ' Γ'' d r f) pile flags code names depth others n l room o k fits es =
        let grown = length_push code (instr 22 0) in
        let a = accepts-declarations d pile flags (laid code 22 0) names depth n l room k fits (subst (λ q. Listed at number (entries q inner)) (sym grown) es) in (
          onward _ (accepts-inside inner pile slot slots flags code (λ q c. walk_declarations ds q c) a.0 r f others o) (along _ (typed-right p (same_type t t) t (same-type t))),
          a.1 ∙ ap (λ q. number + length (entries q inner)) grown,
        )

pub known-base : (Entered : ℕ → ℕ → Type 0) → Known Entered base none_set ([] ∷ [])
known-base Entered = record { related = related_base; whole = length-replicate 256 false }

-- a program's code is its translation
lays-program : (r : Rules) → laid (lay_ending (entries 1 r.functions) r.ending (lay_actions (entries 1 r.functions) r.actions (entered_by (256 * 0 + r.others) (λ d. lay_functions (entries 1 r.functions) r.functions d) []))) 27 (gives r.result) ≡ plain (translated r)
lays-program r =
    let at = entries 1 r.functions in
    ap (λ n. laid (lay_ending at r.ending (lay_actions at r.actions (entered_by n (λ d. lay_functions at r.functions d) []))) 27 (gives r.result)) (omega arith)
    ∙ (adds_then (adds_then (adds_then (adds-entered r.others r.place (lays-functions at r.functions)) (lays-actions at r.actions)) (lays-ending at r.ending)) (adds_one 27 (gives r.result) r.place)).adds []

-- what has a type is accepted
pub accepts-typed : AcceptsWhatIsTyped
accepts-typed p t r (single_exp {p = q} {r = e} h) fits =
    onward _
    (accepts-inside [] no_functions base 0 0 none_set [] (λ s c. Ok (s, c)) (record { pile = base; flags = none_set; goes = refl; known = known-base (EntryIn []); room = omega arith }) done (with_exp h) 0 (omega arith))
    (ap (λ c. Ok (t, c)) (lays-program (record { place = q; result = t; others = 0; functions = no_functions; actions = no_actions; ending = giving e })))
accepts-typed p t r (dec_stm_exp {p = q} {slots = slots} {d = d} {ds = ds} {fs = fs} {α = α} {ending = e} Γ Γ' h g f) fits =
    let at = entries 1 fs in
    let a = accepts-declarations at h base none_set (laid [] 22 0) 3 0 refl refl (omega arith) (known-base (EntryIn at)) fits (listed-all at) in
    onward _
    (accepts-inside at fs base 0 slots none_set [] (λ s c. walk_declarations (declaration d ds) s c) a.0 g f slots (omega arith))
    (ap (λ c. Ok (t, c)) (lays-program (record { place = q; result = t; others = slots; functions = fs; actions = α; ending = e })))
