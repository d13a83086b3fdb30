-- Every function of a rule set, and the rule set itself, stand whole in the code. Assumes nothing.
use Rattle.std.proofs.Common.{◌≡◌, ℕ, zero, suc, ◌+◌, ◌*◌, List, [], ◌∷◌, ◌++◌, length, get_or, drop, Some, refl, ap, ◌∙◌, subst, arith, length-append}
use lib.Seq.{drop-append_seam}
use Rattle.image.specs.declared.instruction.Local.TheVariants.{Jump}
use Rattle.image.specs.declared.instruction.Instruction.TheVariants as instructions
use Rattle.language.specs.declared.values.ValueType.{ValueType}
use Rattle.rules.specs.Resolved.{Actions, Ending, Function, Functions, Rules, all, with_inner}
use Rattle.rules.specs.Resolved.Function.{function}
use Rattle.rules.specs.Resolved.Functions.{no_functions, more}
use Rattle.rules.specs.Translate.{Laid, laid, gives, end_actions, end_ending, end_function, end_functions, entries_of, entries, emit_actions, emit_ending, emit_function, emit_functions, translated}
use Rattle.rules.specs.Evaluate.{numbered_function}
use Rattle.theory.specs.Lawful.{LawfulFunction, LawfulFunctions, Lawful}
use Rattle.theory.proofs.Placed.{Stands, Lies, Spans, span-one, span_none, span-both, lies-left, lies-right, lies-one, lies-end}
use Rattle.theory.proofs.Standing.{Program, Fetches, ActionsIn, EndingIn, EntryStands, EntriesStand, span-actions, span-ending, fetches, target_code, return-code, end-code, returning, finishing, actions-in, ending-in}

-- a jump past each function, one after another
abbrev pub place_of : Function → ℕ
place_of (function q t n o inner body end) = q

abbrev pub JumpsPast : Program → ℕ → Functions → Type 0
JumpsPast c p no_functions = Unit {0}
JumpsPast c p (more f fs) = Fetches c p (instructions.Local (Jump (end_function p f))) (place_of f) × JumpsPast c (end_function p f) fs

-- what stands from a function's start on: jumps past the functions inside, actions, ending, return
abbrev pub BodyIn : Program → ℕ → Function → Type 0
BodyIn c b (function q t n o inner body end) =
    JumpsPast c b inner
    × ActionsIn c (end_functions b inner) body
    × EndingIn c (end_actions (end_functions b inner) body) end
    × Fetches c (end_ending (end_actions (end_functions b inner) body) end) (instructions.Local (returning t)) q

-- the same holds of each number and the function of the same position
abbrev pub Each : (ℕ → Function → Type 0) → List ℕ → List Function → Type 0
Each P [] [] = Unit {0}
Each P [] (g ∷ gs) = ⊥
Each P (a ∷ rest) [] = ⊥
Each P (a ∷ rest) (g ∷ gs) = P a g × Each P rest gs

each_both : (P : ℕ → Function → Type 0) (xs ys : List ℕ) (gs hs : List Function) → Each P xs gs → Each P ys hs → Each P (xs ++ ys) (gs ++ hs)
each_both P [] ys [] hs h k = k
each_both P [] ys (g ∷ gs) hs h k = elim h [ ]
each_both P (x ∷ xs) ys [] hs h k = elim h [ ]
each_both P (x ∷ xs) ys (g ∷ gs) hs h k = (h.0, each_both P xs ys gs hs h.1 k)

each_at : (P : ℕ → Function → Type 0) (xs : List ℕ) (gs : List Function) → Each P xs gs → (f : ℕ) (g : Function) → numbered_function gs f ≡ Some g → P (get_or xs f 0) g
each_at P [] [] h f g e = let z : ◌≡◌ {A = ℕ} 0 1 = cc in absurd (omega arith)
each_at P [] (x ∷ gs) h f g e = elim h [ ]
each_at P (a ∷ xs) [] h f g e = elim h [ ]
each_at P (a ∷ xs) (x ∷ gs) h zero g e = let same : x ≡ g = cc in subst (λ y. P a y) same h.0
each_at P (a ∷ xs) (x ∷ gs) h (suc f) g e = each_at P xs gs h.1 f g e

span-two : (p : ℕ) (i j : Laid) → Spans p (i ∷ j ∷ []) (p + 2)
span-two p i j = record { long = refl }

mutual
  pub span-function : (at : List ℕ) (p : ℕ) (f : Function) → Spans p (emit_function at p f) (end_function p f)
  span-function at p (function q t n o inner body end) =
      span-both
      (span-both (span-both (span-both (span-two p _ _) (span-functions at _ inner)) (span-actions at _ body)) (span-ending at _ end))
      (span-one _ _)

  pub span-functions : (at : List ℕ) (p : ℕ) (fs : Functions) → Spans p (emit_functions at p fs) (end_functions p fs)
  span-functions at p no_functions = span_none p
  span-functions at p (more f fs) = span-both (span-function at p f) (span-functions at _ fs)

-- the parts of a function's code, one after another
pub record Parts (c : Program) (p q n o : ℕ) (t : ValueType) (inner : Functions) (body : Actions) (end : Ending) : Type 0 where
  pub jump : Stands c.code p (laid 18 (end_ending (end_actions (end_functions (p + 2) inner) body) end + 1) q)
  pub entry : Stands c.code (p + 1) (laid 22 (256 * n + o) q)
  pub functions : Lies c.code (p + 2) (emit_functions c.entries (p + 2) inner)
  pub actions : Lies c.code (end_functions (p + 2) inner) (emit_actions c.entries (end_functions (p + 2) inner) body)
  pub ending : Lies c.code (end_actions (end_functions (p + 2) inner) body) (emit_ending c.entries (end_actions (end_functions (p + 2) inner) body) end)
  pub back : Stands c.code (end_ending (end_actions (end_functions (p + 2) inner) body) end) (laid 23 (gives t) q)

-- five pieces, one after another
five : {code : List Laid} {p k l m n : ℕ} {xs ys zs us vs : List Laid} → Spans p xs k → Spans k ys l → Spans l zs m → Spans m us n → Lies code p ((((xs ++ ys) ++ zs) ++ us) ++ vs) → Lies code p xs × Lies code k ys × Lies code l zs × Lies code m us × Lies code n vs
five {xs} {ys} {zs} {us} {vs} a b c d h =
    let h4 = lies-left (((xs ++ ys) ++ zs) ++ us) vs h in
    let h3 = lies-left ((xs ++ ys) ++ zs) us h4 in
    let h2 = lies-left (xs ++ ys) zs h3 in (
      lies-left xs ys h2,
      lies-right xs ys a h2,
      lies-right (xs ++ ys) zs (span-both a b) h3,
      lies-right ((xs ++ ys) ++ zs) us (span-both (span-both a b) c) h4,
      lies-right (((xs ++ ys) ++ zs) ++ us) vs (span-both (span-both (span-both a b) c) d) h,
    )

parts : (c : Program) (p q : ℕ) (t : ValueType) (n o : ℕ) (inner : Functions) (body : Actions) (end : Ending) → Lies c.code p (emit_function c.entries p (function q t n o inner body end)) → Parts c p q n o t inner body end
parts c p q t n o inner body end h =
    let first = laid 18 (end_ending (end_actions (end_functions (p + 2) inner) body) end + 1) q in
    let second = laid 22 (256 * n + o) q in
    let all = five {vs = laid 23 (gives t) q ∷ []} (span-two p first second) (span-functions c.entries _ inner) (span-actions c.entries _ body) (span-ending c.entries _ end) h in
    record {
      jump = lies-one (lies-left (first ∷ []) (second ∷ []) all.0);
      entry = lies-one (lies-right (first ∷ []) (second ∷ []) (span-one p first) all.0);
      functions = all.1;
      actions = all.2;
      ending = all.3;
      back = lies-one all.4;
    }

-- what can be shown of each function where it stands holds of all of them
module _ (c : Program) (P : ℕ → Function → Type 0) (make : (p : ℕ) (g : Function) → LawfulFunction g → Lies c.code p (emit_function c.entries p g) → P (p + 1) g) where
  mutual
    each-function : (p : ℕ) (f : Function) → LawfulFunction f → Lies c.code p (emit_function c.entries p f) → Each P (entries_of p f) (with_inner f)
    each-function p (function q t n o inner body end) l h = (
      make p (function q t n o inner body end) l h,
      each-functions (p + 2) inner l.1 (parts c p q t n o inner body end h).functions,
    )

    each-functions : (p : ℕ) (fs : Functions) → LawfulFunctions fs → Lies c.code p (emit_functions c.entries p fs) → Each P (entries p fs) (all fs)
    each-functions p no_functions l h = tt
    each-functions p (more f fs) l h =
        each_both P (entries_of p f) (entries (end_function p f) fs) (with_inner f) (all fs)
        (each-function p f l.0 (lies-left (emit_function c.entries p f) (emit_functions c.entries (end_function p f) fs) h))
        (each-functions _ fs l.1 (lies-right (emit_function c.entries p f) (emit_functions c.entries (end_function p f) fs) (span-function c.entries p f) h))

module _ (c : Program) where
  entry-stands : (p : ℕ) (g : Function) → LawfulFunction g → Lies c.code p (emit_function c.entries p g) → EntryStands c (p + 1) g
  entry-stands p (function q t n o inner body end) l h = ((parts c p q t n o inner body end h).entry, l.0)

  jump-past : (p : ℕ) (f : Function) → Lies c.code p (emit_function c.entries p f) → Fetches c p (instructions.Local (Jump (end_function p f))) (place_of f)
  jump-past p (function q t n o inner body end) h =
      fetches (parts c p q t n o inner body end h).jump
      (target_code c _ _ (lies-end (span-function c.entries p (function q t n o inner body end)) h))

  pub jumps-past : (p : ℕ) (fs : Functions) → Lies c.code p (emit_functions c.entries p fs) → JumpsPast c p fs
  jumps-past p no_functions h = tt
  jumps-past p (more f fs) h = (
    jump-past p f (lies-left (emit_function c.entries p f) (emit_functions c.entries (end_function p f) fs) h),
    jumps-past (end_function p f) fs (lies-right (emit_function c.entries p f) (emit_functions c.entries (end_function p f) fs) (span-function c.entries p f) h),
  )

  module _ (stand : EntriesStand c) where
    body-in : (p : ℕ) (g : Function) → LawfulFunction g → Lies c.code p (emit_function c.entries p g) → BodyIn c (p + 1 + 1) g
    body-in p (function q t n o inner body end) l h =
        let all = parts c p q t n o inner body end h in
        let start : p + 2 ≡ p + 1 + 1 = omega arith in
        let made : BodyIn c (p + 2) (function q t n o inner body end) = (
          jumps-past (p + 2) inner all.functions,
          actions-in c stand _ body l.2 all.actions,
          ending-in c stand _ end l.3 all.ending,
          fetches all.back (return-code c t),
        ) in
        subst (λ b. BodyIn c b (function q t n o inner body end)) start made

-- a rule set as a program
abbrev pub program_of : Rules → Program
program_of r = record { code = translated r; result = r.result; entries = entries 1 r.functions; functions = all r.functions }

-- every function's body stands at its start
abbrev pub BodiesIn : Program → Type 0
BodiesIn c = (f : ℕ) (g : Function) → numbered_function c.functions f ≡ Some g → BodyIn c (get_or c.entries f 0 + 1) g

-- a rule set's own code: jumps past its functions, actions, ending, and the end of the run
pub record RulesIn (r : Rules) : Type 0 where
  pub bodies : BodiesIn (program_of r)
  pub past : JumpsPast (program_of r) 1 r.functions
  pub actions : ActionsIn (program_of r) (end_functions 1 r.functions) r.actions
  pub ending : EndingIn (program_of r) (end_actions (end_functions 1 r.functions) r.actions) r.ending
  pub last : Fetches (program_of r) (end_ending (end_actions (end_functions 1 r.functions) r.actions) r.ending) (finishing r.result) r.place

-- all but the last instruction of a code, and the last
lies-first : (xs : List Laid) (i : Laid) → Lies (xs ++ i ∷ []) 0 xs
lies-first xs i = record { rest = i ∷ []; here = refl; within = omega (arith, length-append xs (i ∷ [])) }

stands-last : {m : ℕ} (xs : List Laid) (i : Laid) → Spans 0 xs m → Stands (xs ++ i ∷ []) m i
stands-last {m} xs i e =
    record { rest = []; here = ap (λ k. drop k (xs ++ i ∷ [])) (let k : m ≡ length xs = omega (arith, e.long) in k) ∙ drop-append_seam xs (i ∷ []) }

pub rules-in : (r : Rules) → Lawful r → RulesIn r
rules-in r l =
    let c = program_of r in
    let last = laid 27 (gives r.result) r.place in
    let first = laid 22 r.others r.place in
    let s1 = span-one 0 first in
    let s2 = span-functions c.entries 1 r.functions in
    let s3 = span-actions c.entries (end_functions 1 r.functions) r.actions in
    let s4 = span-ending c.entries (end_actions (end_functions 1 r.functions) r.actions) r.ending in
    let functions = emit_functions c.entries 1 r.functions in
    let actions = emit_actions c.entries (end_functions 1 r.functions) r.actions in
    let ending = emit_ending c.entries (end_actions (end_functions 1 r.functions) r.actions) r.ending in
    let h = lies-first (((first ∷ [] ++ functions) ++ actions) ++ ending) last in
    let h3 = lies-left ((first ∷ [] ++ functions) ++ actions) ending h in
    let h2 = lies-left (first ∷ [] ++ functions) actions h3 in
    let lie = lies-right (first ∷ []) functions s1 h2 in
    let stand : EntriesStand c =
    each_at (EntryStands c) c.entries c.functions (each-functions c (EntryStands c) (entry-stands c) 1 r.functions l.functions lie) in
    let In : ℕ → Function → Type 0 = λ a g. BodyIn c (a + 1) g in
    record {
      bodies = each_at In c.entries c.functions (each-functions c In (body-in c stand) 1 r.functions l.functions lie);
      past = jumps-past c 1 r.functions lie;
      actions = actions-in c stand _ r.actions l.actions (lies-right (first ∷ [] ++ functions) actions (span-both s1 s2) h3);
      ending = ending-in c stand _ r.ending l.ending (lies-right ((first ∷ [] ++ functions) ++ actions) ending (span-both (span-both s1 s2) s3) h);
      last = fetches (stands-last (((first ∷ [] ++ functions) ++ actions) ++ ending) last (span-both (span-both (span-both s1 s2) s3) s4)) (end-code c r.result);
    }
