-- A charge line at the end of the list is the posting that a run means.
use Rattle.std.proofs.Common.{◌≡◌, ℕ, ◌-◌, ◌<◌, Bool, eqb, List, [], ◌∷◌, ◌++◌, ℤ, pos, ◌+ℤ◌, Ok, Option, sym, refl, ap, ◌∙◌, arith}
use Rattle.std.proofs.lemmas.Int.{ints}
use Rattle.std.proofs.lemmas.List.Sums.{fold_push}
use Rattle.std.proofs.lemmas.Bool.{cond-true, cond-false, eq-eqb, ne_eqb}
use Rattle.host.proofs.Posting as host
use Rattle.host.specs.Meaning.{posting}
use Rattle.worksheet.specs.declared.charges.Charge.{Charge}
use Rattle.worksheet.specs.Sheet.{open_total, share, total_of}

-- a line more adds its value to its own account's total
own : (lines : List Charge) (a : ℕ) (v : ℤ) → total_of a (lines ++ (record { account = a; value = v } ∷ [])) ≡ total_of a lines +ℤ v
own lines a v =
    fold_push (λ sum charge. sum +ℤ share a charge) (pos 0) lines (record { account = a; value = v })
    ∙ ap (λ s. total_of a lines +ℤ s) (cond-true (eqb a a) v (pos 0) (eq-eqb a a refl))

nothing : (z : ℤ) → z +ℤ pos 0 ≡ z
nothing z = omega (arith, ints)

-- and nothing to another's
others : (lines : List Charge) (a x : ℕ) (v : ℤ) → (x ≡ a → ⊥) → total_of x (lines ++ (record { account = a; value = v } ∷ [])) ≡ total_of x lines
others lines a x v other =
    fold_push (λ sum charge. sum +ℤ share x charge) (pos 0) lines (record { account = a; value = v })
    ∙ ap (λ s. total_of x lines +ℤ s) (cond-false (eqb a x) v (pos 0) (ne_eqb a x (λ e. other (sym e))))
    ∙ nothing (total_of x lines)

pub posted : (amount : ℕ → Option ℤ) (flag : ℕ → Option Bool) (lines : List Charge) (accounts left rest a : ℕ) (v : ℤ)
    → a < accounts → 0 < left → rest ≡ left - 1
    → posting (record { amount = amount; flag = flag; account = open_total accounts lines; lines = left }) a v
    ≡ Ok (record { amount = amount; flag = flag; account = open_total accounts (lines ++ (record { account = a; value = v } ∷ [])); lines = rest })
posted amount flag lines accounts left rest a v opened some one_less =
    let longer : List Charge = lines ++ (record { account = a; value = v } ∷ []) in
    host.posted (λ x. total_of x lines) (λ x. total_of x longer) accounts a v opened (own lines a v) (λ x other. others lines a x v other) amount flag left rest some one_less
