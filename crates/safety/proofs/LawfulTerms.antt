-- Typed terms and actions are lawful, where the scopes describe the chain and the records keep to their limits. Assumes nothing.
use Rattle.std.proofs.Common.{ℕ, ◌<◌, List, [], ◌∷◌, length, arith}
use Rattle.std.proofs.lemmas.Bool.{leb-true}
use Rattle.language.specs.declared.values.ValueType.{ValueType}
use Rattle.language.specs.declared.values.ValueType.TheVariants.{Void, Int, Bool}
use Rattle.table.specs.Tree.{Expression, Arguments, Statement, Statements, Block, ValueBlock, Final}
use Rattle.table.specs.Layout.{Branches, Limited, LimitedAll, of_expression, of_arguments, of_statement, of_statements, of_block, of_value_block, of_final}
use Rattle.rules.specs.Resolved.{Term, Terms, Action, Actions, Ending}
use Rattle.typing.specs.Scopes.{Env, Status}
use Rattle.typing.specs.Scopes.Status.{init}
use Rattle.typing.specs.Scopes.Named.{variable, function}
use Rattle.typing.specs.Rules.{HasType, Matches, Yields, Runs, RunsAll, RunsBlock, Ends, dropping}
use Rattle.safety.specs.Lawful.{LawfulTerm, LawfulTerms, LawfulAction, LawfulActions, LawfulEnding}
use Rattle.safety.proofs.Places.{at-below}
use Rattle.safety.proofs.Worlds.{Shape}
use Rattle.safety.proofs.Scoped.{Signature, Stands, Describes, Looks, looks, find-each}
use Rattle.safety.proofs.Reading.{variable-slot, function-found}
use Rattle.safety.proofs.Alike.{alike_runs, alike_all, alike-describes}

-- no frame has more than 255 slots
abbrev pub Small : Shape → Type 0
Small [] = Unit {0}
Small (ks ∷ shape) = (length ks < 256) × Small shape

variable-lawful : {sigs : List Signature} {x h k : ℕ} {s : Status} {t : ValueType} {Γ : Env} {shape : Shape} → Looks x Γ h (variable s t k) → Describes sigs shape Γ → Small shape → (h < length shape) × (k < 256)
variable-lawful {sigs} {x} {k = k} {s = s} {t = t} (Looks.in_this {scope} e) (Describes.one_scope {ks} {shape} d ds) small =
    let b : k < length ks = at-below (variable-slot (find-each (Stands sigs (ks ∷ shape)) x scope (variable s t k) e d)).1 in
    let c = small.0 in
    (omega arith, omega arith)
variable-lawful (Looks.further e l) (Describes.one_scope d ds) small = let r = variable-lawful l ds small.1 in (let b = r.0 in omega arith, r.1)

dropping-lawful : (functions frames p : ℕ) (t : ValueType) (r : Term) → LawfulTerm functions frames r → LawfulAction functions frames (dropping p t r)
dropping-lawful functions frames p Void r l = l
dropping-lawful functions frames p Int r l = l
dropping-lawful functions frames p Bool r l = l

module _ (sigs : List Signature) (shape : Shape) (small : Small shape) where
  mutual
    pub term-lawful : {Γ : Env} {e : Expression} {t : ValueType} {r : Term} → HasType Γ e t r → Describes sigs shape Γ → Limited (of_expression e) → LawfulTerm (length sigs) (length shape) r
    term-lawful (HasType.int_exp {n = n}) d l = leb-true n 2_147_483_647 l.0
    term-lawful HasType.truth_exp d l = tt
    term-lawful {Γ} (HasType.var_exp {x = x} {h = h} {k = k} {t = t} e) d l = variable-lawful (looks x Γ h (variable init t k) e) d small
    term-lawful (HasType.not_exp a) d l = term-lawful a d l.1.0
    term-lawful (HasType.op_exp a b o) d l = (term-lawful a d l.1.0, term-lawful b d l.1.1.0)
    term-lawful (HasType.if_exp c a b) d l =
        let p = block-lawful a d l.1.1.0 in
        let q = block-lawful b d l.1.1.1.0 in
        (term-lawful c d l.1.0, p.0, p.1, q.0, q.1)
    term-lawful {Γ} (HasType.fun_exp {f = x} {h = h} {n = n} {ts = ts} {t = t} e rest) d l =
        let r = function-found (looks x Γ h (function n ts t) e) d in
        (at-below r.0, r.1, terms-lawful rest d l.1)
    term-lawful (HasType.amount_exp n a) d l = term-lawful a d l.1.0
    term-lawful (HasType.flag_exp n a) d l = term-lawful a d l.1.0
    term-lawful (HasType.post_exp n a b) d l = (term-lawful a d l.1.0, term-lawful b d l.1.1.0)

    pub terms-lawful : {Γ : Env} {es : Arguments} {ts : List ValueType} {rs : Terms} → Matches Γ es ts rs → Describes sigs shape Γ → LimitedAll (of_arguments es) → LawfulTerms (length sigs) (length shape) rs
    terms-lawful Matches.no_more d l = tt
    terms-lawful (Matches.one_more v a rest) d l = (term-lawful a d l.0, terms-lawful rest d l.1)

    pub block-lawful : {Γ : Env} {b : ValueBlock} {t : ValueType} {α : Actions} {r : Term} → Yields Γ b t α r → Describes sigs shape Γ → Limited (of_value_block b) → LawfulActions (length sigs) (length shape) α × LawfulTerm (length sigs) (length shape) r
    block-lawful (Yields.yields Γ' rs a) d l =
        let q = actions-lawful rs _ d l.1 in
        (q.0, term-lawful a (alike-describes (alike_all rs) d) q.1.0)

    pub action-lawful : {Γ Γ' : Env} {st : Statement} {a : Action} → Runs Γ st Γ' a → Describes sigs shape Γ → Limited (of_statement st) → LawfulAction (length sigs) (length shape) a
    action-lawful {Γ} (Runs.var_stm {x = x} {h = h} {k = k} {s = s} {t = t} e v a) d l =
        let r = variable-lawful (looks x Γ h (variable s t k) e) d small in
        (r.0, r.1, term-lawful a d l.1.0)
    action-lawful (Runs.fun_stm {p = p} {t = t} {r = r} a) d l = dropping-lawful (length sigs) (length shape) p t r (term-lawful a d l)
    action-lawful (Runs.if_stm Γ' c a) d l = (term-lawful c d l.1.0, statements-lawful a d l.1.1.0)
    action-lawful (Runs.if_else_stm Γ' Γ'' c a b) d l = (term-lawful c d l.1.0, statements-lawful a d l.1.1.0, statements-lawful b d l.1.1.1.0)

    -- statements, and what the records after them keep to
    pub actions-lawful : {Γ Γ' : Env} {ss : Statements} {α : Actions} → RunsAll Γ ss Γ' α → (others : Branches) → Describes sigs shape Γ → LimitedAll (of_statements ss others) → LawfulActions (length sigs) (length shape) α × LimitedAll others
    actions-lawful RunsAll.done others d l = (tt, l)
    actions-lawful (RunsAll.then Γ' r rs) others d l =
        let q = actions-lawful rs others (alike-describes (alike_runs r) d) l.1 in
        ((action-lawful r d l.0, q.0), q.1)

    pub statements-lawful : {Γ Γ' : Env} {b : Block} {α : Actions} → RunsBlock Γ b Γ' α → Describes sigs shape Γ → Limited (of_block b) → LawfulActions (length sigs) (length shape) α
    statements-lawful (RunsBlock.in_block rs) d l = (actions-lawful rs Branches.nil d l.1).0

  pub ending-lawful : {Γ : Env} {f : Final} {t : ValueType} {ending : Ending} → Ends Γ f t ending → Describes sigs shape Γ → LimitedAll (of_final f) → LawfulEnding (length sigs) (length shape) ending
  ending-lawful Ends.with_none d l = tt
  ending-lawful (Ends.with_exp a) d l = term-lawful a d l.0
