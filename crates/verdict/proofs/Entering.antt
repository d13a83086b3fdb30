-- Names that enter a scope, and scopes that open, on both sides. Assumes nothing.
use Rattle.std.proofs.Common.{ℕ, ◌<◌, ◌≤◌, Bool, false, List, [], ◌∷◌, length, set, sym, ◌∙◌, subst, arith}
use Rattle.std.proofs.lemmas.List.{length-set, get_or-set_same, get_or-set_other}
use Rattle.typing.specs.Scopes as rules
use Rattle.typing.specs.Scopes.{Env}
use Rattle.walk.specs.Scopes.{Thing}
use Rattle.verdict.proofs.Piles.{Pile, size}
use Rattle.verdict.proofs.Piles.Pile.{opened, with}
use Rattle.verdict.proofs.Related.{Same, Related, related-flags}
use Rattle.verdict.proofs.Related.Related.{related_base, related_opened, related_with}
use Rattle.verdict.proofs.Accepts.{Known}

module _ (Entered : ℕ → ℕ → Type 0) (flags : List Bool) (b : Bool) where
  one_more : {σ : rules.Scope} {Γ : Env} {pile : Pile} {x : ℕ} {n : rules.Named} {th : Thing} → size pile < length flags → Same Entered b n th → Related Entered flags (σ ∷ Γ) pile → Related Entered (set flags (size pile) b) ((rules.bind x n ∷ σ) ∷ Γ) (with x th pile)
  one_more {pile = pile} {n = n} {th = th} h s r =
      related_with
      (related-flags Entered flags (set flags (size pile) b) (λ j k. sym (get_or-set_other flags (size pile) j b false (omega arith))) r)
      (subst (λ c. Same Entered c n th) (sym (get_or-set_same flags (size pile) b false h)) s)

  related-enter : {Γ : Env} {pile : Pile} {x : ℕ} {n : rules.Named} {th : Thing} → size pile < length flags → Same Entered b n th → Related Entered flags Γ pile → Related Entered (set flags (size pile) b) (rules.enter x n Γ) (with x th pile)
  related-enter h s related_base = one_more h s related_base
  related-enter h s (related_opened r) = one_more h s (related_opened r)
  related-enter h s (related_with r q) = one_more h s (related_with r q)

  pub known-enter : {Γ : Env} {pile : Pile} {x : ℕ} {n : rules.Named} {th : Thing} → size pile ≤ 255 → Same Entered b n th → Known Entered pile flags Γ → Known Entered (with x th pile) (set flags (size pile) b) (rules.enter x n Γ)
  known-enter {pile = pile} h s k = record { related = related-enter (omega (arith, k.whole)) s k.related; whole = length-set flags (size pile) b ∙ k.whole }

pub known-open : {Entered : ℕ → ℕ → Type 0} {flags : List Bool} {Γ : Env} {pile : Pile} → Known Entered pile flags Γ → Known Entered (opened pile) flags ([] ∷ Γ)
known-open k = record { related = related_opened k.related; whole = k.whole }
