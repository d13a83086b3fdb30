-- Typed programs that keep to the limits are lawful. Assumes nothing.
use Rattle.std.proofs.Common.{◌≡◌, ℕ, suc, ◌+◌, ◌<◌, ◌≤◌, List, [], ◌∷◌, length, sym, refl, ap, ◌∙◌, subst, arith}
use Rattle.std.proofs.lemmas.List.{append-nil, length-append, length-map}
use Rattle.language.specs.declared.values.ValueType.{ValueType}
use Rattle.table.specs.Tree.{Parameter, Declaration, Declarations, Body, Statements, Final}
use Rattle.table.specs.Tree.Declaration.{variable as a_variable, function as a_function}
use Rattle.table.specs.Tree.Declarations.{no_declarations, declaration}
use Rattle.table.specs.Layout.{Branches, Limited, LimitedAll, of_statements, of_final, of_parameters, of_declaration, of_declarations, of_body}
use Rattle.rules.specs.Resolved.{Function, Functions, Actions, Ending, all}
use Rattle.typing.specs.Scopes.{Env}
use Rattle.typing.specs.Rules.{RunsAll, Ends, Declares, DeclaresAll, HasBody, IsTyped}
use Rattle.typing.specs.Limits.{Fits, FitsAll, FitsBody}
use Rattle.safety.specs.Lawful.{LawfulFunctions, LawfulActions, LawfulEnding, LawfulWhereTyped}
use Rattle.safety.proofs.Places.{segment-all}
use Rattle.safety.proofs.Worlds.{Kind, Shape}
use Rattle.safety.proofs.Worlds.Kind.{kind}
use Rattle.typing.specs.Scopes.Status.{dec}
use Rattle.safety.proofs.Scoped.{Signature, Describes}
use Rattle.safety.proofs.Calling.{kinds, AllSound}
use Rattle.safety.proofs.Declaring.{types_of, declared_before, declared_types, body_types, signatures, all_signatures, body_signatures, Leave, declares, declares-all, has_body_lem, function-enters, parameters-enter, as-derived, parameters-types, slots-left}
use Rattle.safety.proofs.Whole.{empty-promises}
use Rattle.safety.proofs.Alike.{alike_all, alike-describes}
use Rattle.safety.proofs.LawfulTerms.{Small, term-lawful, actions-lawful, ending-lawful}

-- names in open scopes bound the slots of a frame
declared-more : (d : Declaration) (us : List ValueType) → length (declared_before d us) ≤ length us + 1
declared-more (a_variable p t x) us = omega arith
declared-more (a_function p t x qs b) us = omega arith

one_more_lem : (names depth : ℕ) (d : Declaration) → Fits names depth d → names + 1 ≤ 255
one_more_lem names depth (a_variable p t x) f = f
one_more_lem names depth (a_function p t x qs b) f = f.0

names-bound : (names depth : ℕ) (ds : Declarations) → names ≤ 255 → FitsAll names depth ds → names + length (declared_types ds) ≤ 255
names-bound names depth no_declarations b f = omega arith
names-bound names depth (declaration d ds) b f =
    let c = names-bound (names + 1) depth ds (one_more_lem names depth d f.0) f.1 in
    let e = declared-more d (declared_types ds) in
    omega arith

body-bound : (names depth : ℕ) (b : Body) → names ≤ 255 → FitsBody names depth b → names + length (body_types b) ≤ 255
body-bound names depth (Body.body p ds ss f) b h = names-bound names depth ds b h

types-length : (qs : List Parameter) → length (types_of qs) ≡ length qs
types-length [] = refl
types-length (Parameter.parameter p t x ∷ qs) = ap suc (types-length qs)

kinds-length : (ts us : List ValueType) → length (kinds ts us) ≡ length ts + length us
kinds-length ts us = simp (length-append, length-map)

past-parameters : (qs : List Parameter) (others : Branches) → LimitedAll (of_parameters qs others) → LimitedAll others
past-parameters [] others l = l
past-parameters (q ∷ qs) others l = past-parameters qs others l.1

slots-bound : (names q n u : ℕ) → q ≡ n → names + 1 + q + u ≤ 255 → n + u < 256
slots-bound names q n u e b = omega arith

-- statements and ending together
parts-lawful : {Γ Γ' : Env} {ss : Statements} {f : Final} {t : ValueType} {α : Actions} {ending : Ending} (sigs : List Signature) (ks : List Kind) (shape : Shape) → Small (ks ∷ shape) → RunsAll Γ ss Γ' α → Ends Γ' f t ending → Describes sigs (ks ∷ shape) Γ → LimitedAll (of_statements ss (of_final f)) → LawfulActions (length sigs) (suc (length shape)) α × LawfulEnding (length sigs) (suc (length shape)) ending
parts-lawful {f = f} sigs ks shape small rs ends d l =
    let q = actions-lawful sigs (ks ∷ shape) small rs (of_final f) d l in
    (q.0, ending-lawful sigs (ks ∷ shape) small ends (alike-describes (alike_all rs) d) q.1)

mutual
  declares-lawful : {Γ Γ' : Env} {slot number slot' number' : ℕ} {d : Declaration} {fs : Functions} → Declares Γ slot number d Γ' slot' number' fs → (sigs : List Signature) (ks : List Kind) (shape : Shape) (us : List ValueType) (rest : List Signature) (names depth : ℕ) → Leave sigs ks shape Γ slot number (declared_before d us) (signatures (ks ∷ shape) d rest) → Small (ks ∷ shape) → length shape ≤ depth → Fits names depth d → Limited (of_declaration d) → LawfulFunctions (length sigs) (length (ks ∷ shape)) fs
  declares-lawful (Declares.id_dec n v) sigs ks shape us rest names depth l small deep fits limited = tt
  declares-lawful (Declares.fun_dec {x = x} {others = others} {t = t} {qs = qs} {b = b} {ts = ts} n ps h) sigs ks shape us rest names depth l small deep fits limited =
      let inside = parameters-enter (body_types b) ps (function-enters x ts t (as-derived t b rest ps l)) in
      let bound : length ts + length (body_types b) < 256 = slots-bound names (length qs) (length ts) (length (body_types b)) (sym (types-length qs) ∙ ap length (parameters-types ps)) (body-bound (names + 1 + length qs) (depth + 1) b fits.2 fits.3) in
      let is-small : length (kinds ts (body_types b)) < 256 = subst (λ n. n < 256) (sym (kinds-length ts (body_types b))) bound in
      let r = body-lawful h sigs (ks ∷ shape) ts rest (names + 1 + length qs) (depth + 1) inside (is-small, small) (omega arith) fits.3 (past-parameters qs (Branches.cons (of_body b) Branches.nil) limited.1).0 in
      let o : others ≡ length (body_types b) = slots-left ts (body_types b) others (has_body_lem h sigs (ks ∷ shape) ts rest inside).1 in
      let deeper = fits.1 in
      ((omega arith, omega arith, r.0, r.1, r.2), tt)

  declares-all-lawful : {Γ Γ' : Env} {slot number slot' number' : ℕ} {ds : Declarations} {fs : Functions} → DeclaresAll Γ slot number ds Γ' slot' number' fs → (sigs : List Signature) (ks : List Kind) (shape : Shape) (rest : List Signature) (names depth : ℕ) (others : Branches) → Leave sigs ks shape Γ slot number (declared_types ds) (all_signatures (ks ∷ shape) ds rest) → Small (ks ∷ shape) → length shape ≤ depth → FitsAll names depth ds → LimitedAll (of_declarations ds others) → LawfulFunctions (length sigs) (length (ks ∷ shape)) fs × LimitedAll others
  declares-all-lawful DeclaresAll.none_left sigs ks shape rest names depth others l small deep fits limited = (tt, limited)
  declares-all-lawful (DeclaresAll.variable_first {ds = ds} Γ' slot' number' d ds-after) sigs ks shape rest names depth others l small deep fits limited =
      let r = declares d sigs ks shape (declared_types ds) (all_signatures (ks ∷ shape) ds rest) l in
      declares-all-lawful ds-after sigs ks shape rest (names + 1) depth others r.0 small deep fits.1 limited.1
  declares-all-lawful (DeclaresAll.function_first {ds = ds} Γ' slot' number' d ds-after) sigs ks shape rest names depth others l small deep fits limited =
      let r = declares d sigs ks shape (declared_types ds) (all_signatures (ks ∷ shape) ds rest) l in
      let f = declares-lawful d sigs ks shape (declared_types ds) (all_signatures (ks ∷ shape) ds rest) names depth l small deep fits.0 limited.0 in
      let q = declares-all-lawful ds-after sigs ks shape rest (names + 1) depth others r.0 small deep fits.1 limited.1 in
      ((f.0, q.0), q.1)

  body-lawful : {Γ : Env} {slot number slots after : ℕ} {b : Body} {t : ValueType} {inner : Functions} {α : Actions} {ending : Ending} → HasBody Γ slot number b t slots after inner α ending → (sigs : List Signature) (shape : Shape) (ts : List ValueType) (rest : List Signature) (names depth : ℕ) → Leave sigs (kinds ts (body_types b)) shape Γ slot number (body_types b) (body_signatures shape ts b rest) → Small (kinds ts (body_types b) ∷ shape) → length shape ≤ depth → FitsBody names depth b → Limited (of_body b) → LawfulFunctions (length sigs) (suc (length shape)) inner × LawfulActions (length sigs) (suc (length shape)) α × LawfulEnding (length sigs) (suc (length shape)) ending
  body-lawful (HasBody.has_body {ds = ds} {ss = ss} {f = f} Γ' Γ'' d rs ends) sigs shape ts rest names depth l small deep fits limited =
      let q = declares-all-lawful d sigs (kinds ts (declared_types ds)) shape rest names depth (of_statements ss (of_final f)) l small deep fits limited.1 in
      let parts = parts-lawful sigs (kinds ts (declared_types ds)) shape small rs ends (declares-all d sigs (kinds ts (declared_types ds)) shape rest l).0.describes q.1 in
      (q.0, parts.0, parts.1)

sound-length : {sigs : List Signature} {fs : List Function} {gs : List Signature} → AllSound sigs fs gs → length gs ≡ length fs
sound-length AllSound.no_more = refl
sound-length (AllSound.one_more s rest) = ap suc (sound-length rest)

pub lawful-where-typed : LawfulWhereTyped
lawful-where-typed program t r (IsTyped.single_exp h) limited fits = record {
  others = omega arith;
  functions = tt;
  actions = tt;
  ending = term-lawful [] ([] ∷ []) (omega arith, tt) h (Describes.one_scope tt Describes.no_scopes) limited.1.0;
}
lawful-where-typed program t r (IsTyped.dec_stm_exp {slots = slots} {d = d} {ds = ds} {ss = ss} {f = f} {fs = fs} {α = α} {ending = ending} Γ Γ' declared rs ends) limited fits =
    let us : List ValueType = declared_types (declaration d ds) in
    let ks : List Kind = kinds [] us in
    let sigs : List Signature = all_signatures (ks ∷ []) (declaration d ds) [] in
    let begun : Leave sigs ks [] ([] ∷ []) 0 0 us sigs = record {
      describes = Describes.one_scope tt Describes.no_scopes;
      promises = empty-promises ks;
      slots = segment-all ks;
      numbers = segment-all sigs;
    } in
    let l = declares-all declared sigs ks [] [] begun in
    let sounds : AllSound sigs (all fs) sigs = subst (λ gs. AllSound sigs gs sigs) (append-nil (all fs)) (l.2 [] AllSound.no_more) in
    let bound : 3 + length us ≤ 255 = names-bound 3 0 (declaration d ds) (omega arith) fits in
    let small : length ks < 256 = subst (λ n. n < 256) (sym (length-map us (kind dec))) (omega arith) in
    let q = declares-all-lawful declared sigs ks [] [] 3 0 (of_statements ss (of_final f)) begun (small, tt) (omega arith) fits limited.1 in
    let parts = parts-lawful sigs ks [] (small, tt) rs ends l.0.describes q.1 in
    let same : length sigs ≡ length (all fs) = sound-length sounds in
    let total : slots ≡ 0 + length us = l.1 in
    record {
      others = omega arith;
      functions = subst (λ n. LawfulFunctions n 1 fs) same q.0;
      actions = subst (λ n. LawfulActions n 1 α) same parts.0;
      ending = subst (λ n. LawfulEnding n 1 ending) same parts.1;
    }
