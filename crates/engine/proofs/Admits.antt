-- What admit answers and leaves, by the verdict on its table; and that it admits just what has a type. Assumes nothing.
use Rattle.std.proofs.Common.{◌≡◌, ℕ, ◌+◌, ◌*◌, ◌<◌, ◌≤◌, List, ◌∷◌, ◌++◌, map, length, drop, Ok, Err, Result, sym, refl, ap, ◌∙◌, subst, arith, length-append}
use mathlib.Core.List.{map-map}
use Rattle.std.proofs.lemmas.List.{length-map}
use Rattle.language.specs.declared.faults.Fault.{Fault}
use Rattle.language.specs.declared.values.ValueType.{ValueType}
use Rattle.language.specs.Numbers.{type_number}
use Rattle.rules.specs.Resolved.{Rules}
use Rattle.rules.specs.Translate.{Laid, translated, image}
use Rattle.table.specs.declared.nodes.Node.{Node}
use Rattle.table.specs.Tree.{Program}
use Rattle.typing.specs.Rules.{IsTyped, single_exp, dec_stm_exp}
use Rattle.walk.specs.declared.codes.Instr.{Instr}
use Rattle.walk.specs.Programs.{walk_program}
use Rattle.verdict.specs.Verdict.{plain}
use Rattle.verdict.proofs.Declared.{accepts-typed}
use Rattle.verdict.proofs.Typed.{typed-accepted}
use Rattle.admission.specs.Judged.{Verdict, Judged, walked}
use Rattle.admission.proofs.Verdicts.{one-verdict, accepted-walk}
use Rattle.engine.specs.Admit.{image_of, Typed, AdmitsJustTyped}

-- an image has two words more than twice its codes
pub image-length : (t : ValueType) (code : List Instr) → length (image_of t code) ≡ 2 + 2 * length code
image-length t code =
    omega (arith, length-append (map (λ (i : Instr). i.code) code) (map (λ (i : Instr). i.operand) code), length-map code (λ (i : Instr). i.code), length-map code (λ (i : Instr). i.operand))

-- a program resolves to rules of its type
pub result-is : (p : Program) (t : ValueType) (r : Rules) → IsTyped p t r → r.result ≡ t
result-is p t r (single_exp h) = refl
result-is p t r (dec_stm_exp Γ Γ' d s e) = refl

-- the image of a translation, without its places
pub plain-length : (code : List Laid) → length (plain code) ≡ length code
plain-length code = length-map code _

pub plain-codes : (code : List Laid) → map (λ (i : Instr). i.code) (plain code) ≡ map (λ (i : Laid). i.code) code
plain-codes code = map-map _ _ code

pub plain-operands : (code : List Laid) → map (λ (i : Instr). i.operand) (plain code) ≡ map (λ (i : Laid). i.operand) code
plain-operands code = map-map _ _ code

pub plain-image : (r : Rules) → image_of r.result (plain (translated r)) ≡ image r
plain-image r = λ i. plain-length (translated r) i ∷ type_number r.result ∷ (plain-codes (translated r) i ++ plain-operands (translated r) i)

pub same-pair : {A B F : Type 0} (a c : A) (b d : B) → ◌≡◌ {A = Result (A × B) F} (Ok (a, b)) (Ok (c, d)) → (a ≡ c) × (b ≡ d)
same-pair {A} {B} {F} a c b d e = let p : ◌≡◌ {A = A × B} (a, b) (c, d) = cc in (ap (λ (x : A × B). x.0) p, ap (λ (x : A × B). x.1) p)

-- what a typed table's verdict is
typed-verdict : (table : List Node) (r : Typed table) (v : Verdict) → Judged table v → v ≡ Ok (r.result, plain (translated r.rules))
typed-verdict table r v j =
    one-verdict table v (walk_program r.program) j (walked r.program r.limited r.lays r.sized) ∙
    accepts-typed r.program r.result r.rules r.typed r.named

typed-image : (table : List Node) (r : Typed table) (t : ValueType) (code : List Instr) → Judged table (Ok (t, code)) → image_of t code ≡ image r.rules
typed-image table r t code j =
    let e = same-pair t r.result code (plain (translated r.rules)) (typed-verdict table r (Ok (t, code)) j) in
    ap (λ u. image_of u code) (e.0 ∙ sym (result-is r.program r.result r.rules r.typed)) ∙ ap (image_of r.rules.result) e.1 ∙ plain-image r.rules

module _ (table : List Node) (before : List ℕ) where
  pub typed-refused : (f : Fault) → Judged table (Err f) → AdmitsJustTyped table before (Err f) before
  typed-refused f j r = let e = typed-verdict table r (Err f) j in let z : ◌≡◌ {A = ℕ} 0 1 = cc in absurd (omega arith)

  module _ (t : ValueType) (code : List Instr) (j : Judged table (Ok (t, code))) where
    pub typed-full : length before < length (image_of t code) → (r : Typed table) → length before < length (image r.rules)
    typed-full h r = subst (λ ws. length before < length ws) (typed-image table r t code j) h

    pub typed-done : (n : ℕ) (after : List ℕ) → n ≡ length (image_of t code) → n ≤ length before → after ≡ image_of t code ++ drop (length (image_of t code)) before → AdmitsJustTyped table before (Ok n) after
    typed-done n after e h w =
        let x = accepted-walk table t code j in
        let y = typed-accepted x.program t code x.limited (sym x.says) in
        let r : Typed table = record { program = x.program; result = t; rules = y.0; sized = x.sized; lays = x.lays; limited = x.limited; named = y.2; typed = y.1 } in
        let same = typed-image table r t code j in
        (r, e ∙ ap length same, h, w ∙ ap (λ m. image_of t code ++ drop m before) (sym e) ∙ ap (λ ws. ws ++ drop n before) same)
