-- A posting to an account that is open, with a line left, by the totals of accounts.
use Rattle.std.proofs.Common.{◌≡◌, ℕ, ◌-◌, ◌<◌, Bool, cond, eqb, ltb, ℤ, ◌+ℤ◌, Some, None, Ok, Err, Option, sym, ap, ◌∙◌, inl, inr, arith}
use mathlib.Core.Path.{fun_ext}
use Rattle.language.specs.declared.faults.Stop.TheVariants.{PostingRefused}
use Rattle.std.proofs.lemmas.Bool.{cases_eq, cond-true, cond-false, eq-eqb, ne_eqb, lt-ltb}
use Rattle.host.specs.Meaning.{Meaning, charged, into, opened, posting}

module _ (total after : ℕ → ℤ) (accounts a : ℕ) (v : ℤ) (inside : a < accounts) (own : after a ≡ total a +ℤ v) (others : (x : ℕ) → (x ≡ a → ⊥) → after x ≡ total x) where
  -- the totals after the posting, by account
  written : (x : ℕ) → cond (eqb x a) (Some (total a +ℤ v)) (opened accounts total x) ≡ opened accounts after x
  written x = elim (cases_eq x a) [
    | inl same ↦
        cond-true (eqb x a) (Some (total a +ℤ v)) (opened accounts total x) (eq-eqb x a same)
        ∙ ap Some (sym own)
        ∙ sym (cond-true (ltb a accounts) (Some (after a)) None (lt-ltb a accounts inside))
        ∙ ap (opened accounts after) (sym same)
    | inr other ↦
        cond-false (eqb x a) (Some (total a +ℤ v)) (opened accounts total x) (ne_eqb x a other)
        ∙ ap (λ t. cond (ltb x accounts) (Some t) None) (sym (others x other))
  ]

  pub posted : (amount : ℕ → Option ℤ) (flag : ℕ → Option Bool) (lines left : ℕ) → 0 < lines → left ≡ lines - 1
      → posting (record { amount = amount; flag = flag; account = opened accounts total; lines = lines }) a v
      ≡ Ok (record { amount = amount; flag = flag; account = opened accounts after; lines = left })
  posted amount flag lines left some one_less =
      let m : Meaning = record { amount = amount; flag = flag; account = opened accounts total; lines = lines } in
      ap (into m a v) (cond-true (ltb a accounts) (Some (total a)) None (lt-ltb a accounts inside))
      ∙ cond-false (eqb lines 0) (Err PostingRefused) (Ok (charged m a v (total a))) (ne_eqb lines 0 (λ e. omega arith))
      ∙ ap (λ f. Ok (record { amount = amount; flag = flag; account = f; lines = lines - 1 })) (fun_ext written)
      ∙ ap (λ n. Ok (record { amount = amount; flag = flag; account = opened accounts after; lines = n })) (sym one_less)
