-- Typed programs do not come to trouble. Assumes nothing.
use Rattle.std.proofs.Common.{ℕ, List, [], ◌∷◌, length, replicate, None, Option, sym, ◌∙◌, subst, zero-add}
use Rattle.std.proofs.lemmas.List.{append-nil}
use Rattle.language.specs.declared.values.Value.{Value}
use Rattle.language.specs.declared.values.ValueType.{ValueType}
use Rattle.host.specs.Meaning.{Meaning}
use Rattle.host.specs.Serves.{Serves, by_meaning}
use Rattle.table.specs.Tree.Declarations.{declaration}
use Rattle.rules.specs.Resolved.{Function, Actions, Ending, all}
use Rattle.rules.specs.Evaluate.{Env as Chain}
use Rattle.rules.specs.Evaluate.{Eval, and_then, calls_to, eval_actions, eval_ending, typed}
use Rattle.typing.specs.Rules.{RunsAll, Ends, IsTyped}
use Rattle.safety.specs.Safety.{Keeps, SafeWith, Safe}
use Rattle.safety.proofs.Places.{segment-all}
use Rattle.safety.proofs.Worlds.{Kind, Shape, FillsAll}
use Rattle.safety.proofs.Scoped.{Signature, Describes, Sets}
use Rattle.safety.proofs.Fine.{Fine, fine-typed}
use Rattle.safety.proofs.Terms.{Gives, AreOf}
use Rattle.safety.proofs.Calling.{kinds, Promises, TypedBody, AllSound, fills-new, body-fine, calls-able}
use Rattle.safety.proofs.Declaring.{declared_types, all_signatures, declares-all}

keeps : {S : Type 0} {t : ValueType} {shape : Shape} {env : Chain} {r : Eval S (Option Value)} → Fine (Gives t shape env) r → Keeps t r
keeps (Fine.done p) = p.0
keeps Fine.stopped = tt
keeps Fine.too_deep = tt

-- the program's scope has no name at first
pub empty-promises : (ks : List Kind) → Promises (ks ∷ []) ([] ∷ [])
empty-promises ks env (FillsAll.frame f FillsAll.no_frames) = Sets.one_scope tt Sets.no_scopes

-- a program's functions and its body, all sound: it keeps to its type
whole-keeps : {S : Type 0} {t : ValueType} {α : Actions} {ending : Ending} (ops : Serves S) (fs : List Function) (sigs : List Signature) (us : List ValueType) → AllSound sigs fs sigs → TypedBody sigs (kinds [] us ∷ []) t α ending → (depth : ℕ) (s : S) → Keeps t (and_then (eval_actions ops (calls_to ops fs depth) α (replicate (length us) None ∷ []) s) (λ _ env s. and_then (eval_ending ops (calls_to ops fs depth) ending env s) (λ v env s. typed t v env s)))
whole-keeps {t = t} ops fs sigs us sounds body depth s =
    keeps (body-fine ops (calls_to ops fs depth) sigs (calls-able ops fs sigs sounds depth) (kinds [] us ∷ []) (replicate (length us) None ∷ []) s body (FillsAll.frame (fills-new us AreOf.no_more) FillsAll.no_frames) (typed t) (λ v env' s' i g. fine-typed env' s' i (i, g)))

-- for every host
pub safe-with : (S : Type 0) (ops : Serves S) → SafeWith S ops
safe-with S ops program t r (IsTyped.single_exp h) depth s = whole-keeps ops [] [] [] AllSound.no_more (TypedBody.typed_body ([] ∷ []) ([] ∷ []) (Describes.one_scope tt Describes.no_scopes) (empty-promises []) RunsAll.done (Ends.with_exp h)) depth s
safe-with S ops program t r (IsTyped.dec_stm_exp {slots = slots} {d = d} {ds = ds} {fs = fs} {α = α} {ending = ending} Γ Γ' declared rs ends) depth s =
    let us : List ValueType = declared_types (declaration d ds) in
    let ks : List Kind = kinds [] us in
    let sigs : List Signature = all_signatures (ks ∷ []) (declaration d ds) [] in
    let l = declares-all declared sigs ks [] [] (record {
      describes = Describes.one_scope tt Describes.no_scopes;
      promises = empty-promises ks;
      slots = segment-all ks;
      numbers = segment-all sigs;
    }) in
    let sounds : AllSound sigs (all fs) sigs = subst (λ gs. AllSound sigs gs sigs) (append-nil (all fs)) (l.2 [] AllSound.no_more) in
    subst (λ n. Keeps t (and_then (eval_actions ops (calls_to ops (all fs) depth) α (replicate n None ∷ []) s) (λ _ env s. and_then (eval_ending ops (calls_to ops (all fs) depth) ending env s) (λ v env s. typed t v env s))))
    (sym (l.1 ∙ zero-add (length us)))
    (whole-keeps ops (all fs) sigs us sounds (TypedBody.typed_body Γ Γ' l.0.describes l.0.promises rs ends) depth s)

pub safe : Safe
safe = safe-with Meaning by_meaning
