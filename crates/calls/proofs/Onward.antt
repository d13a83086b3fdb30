-- With one host a run can be carried on to any sum of allowances. Assumes nothing.
use Rattle.std.proofs.Common.{◌≡◌, ℕ, zero, suc, ◌+◌, ◌≤◌, Bool, true, false, cond, List, [], ◌∷◌, ◌++◌, sym, refl, ◌∙◌, subst, append_assoc, append-nil, arith, lit≤}
use Rattle.host.specs.Meaning.{Meaning}
use Rattle.calls.specs.declared.call.Call.TheVariants.{Continue}
use Rattle.calls.specs.History.{Entry, RunOf, OneHost, Finds, taken, allowance_of, allowances}
use Rattle.calls.specs.Law.{CanGoFar}
use Rattle.calls.proofs.Found.{can-go-on}

-- one more accepted continue, of the same host
serves_more : (es : List Entry) (e : Entry) (m k : Meaning) → OneHost m es k → e.found ≡ k → taken e.answer ≡ true → OneHost m (es ++ e ∷ []) e.left
serves_more [] e m k h f t = subst (λ b. Finds b m e (λ j. OneHost j [] e.left)) (sym t) (f ∙ h, refl)
serves_more (d ∷ es) e m k h f t = by (taken d.answer) (λ m h. serves_more es e m k h f t) h
  where
    by : (b : Bool) → ((m : Meaning) → OneHost m es k → OneHost m (es ++ e ∷ []) e.left) → Finds b m d (λ j. OneHost j es k) → Finds b m d (λ j. OneHost j (es ++ e ∷ []) e.left)
    by true ih h = (h.0, ih d.left h.1)
    by false ih h = ih m h

one-allowance : (e : Entry) (n : ℕ) → taken e.answer ≡ true → e.call ≡ Continue n → cond (taken e.answer) (allowance_of e.call) 0 ≡ n
one-allowance e n t c = (λ i. cond (t i) (allowance_of (c i)) 0)

allows-more : (es : List Entry) (e : Entry) (n : ℕ) → taken e.answer ≡ true → e.call ≡ Continue n → allowances (es ++ e ∷ []) ≡ allowances es + n
allows-more [] e n t c = let h = one-allowance e n t c in omega arith
allows-more (d ∷ es) e n t c = let ih = allows-more es e n t c in omega arith

-- by continues with an allowance of 1
pub can-go-far : CanGoFar
can-go-far table cells begun since left x h zero = (
  [],
  left,
  subst (RunOf table cells begun) (sym (append-nil since)) x,
  subst (λ l. OneHost begun.found l left) (sym (append-nil since)) h,
  omega arith,
)
can-go-far table cells begun since left x h (suc n) =
    let r = can-go-far table cells begun since left x h n in
    let g = can-go-on table cells begun (since ++ r.0) r.2 r.1 1 (lit≤ tt) in
    let e = g.0 in
    let longer = append_assoc since r.0 (e ∷ []) in
    let more = allows-more (since ++ r.0) e 1 g.3 g.1 in
    let far = r.4 in (
      r.0 ++ e ∷ [],
      e.left,
      subst (RunOf table cells begun) longer g.4,
      subst (λ l. OneHost begun.found l e.left) longer (serves_more (since ++ r.0) e begun.found r.1 r.3 g.2 g.3),
      subst (λ l. suc n ≤ allowances l) longer (omega arith),
    )
