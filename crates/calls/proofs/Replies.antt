-- What is known of a call from its answer. Assumes nothing.
use Rattle.std.proofs.Common.{◌≡◌, ℕ, Bool, true, false, cond, length, Ok, Err, Result, sym, refl, ap, ◌∙◌, subst, inl, inr, arith}
use Rattle.std.proofs.lemmas.Bool.{cases_Bool, true≢false}
use Rattle.language.specs.declared.faults.Fault.{Fault}
use Rattle.host.specs.Meaning.{Meaning}
use Rattle.engine.specs.Calls.{Area, Resumed, and_then, bringing, beginning, resuming}
use Rattle.engine.specs.Admit.{admitting, words_of}
use Rattle.calls.specs.declared.call.Call.{Call}
use Rattle.calls.specs.declared.call.Call.TheVariants.{Admit, Bring, Begin, Continue, Clear}
use Rattle.calls.specs.declared.call.Answer.{Answer}
use Rattle.calls.specs.declared.call.Answer.TheVariants.{Admitted, Brought, Begun, Continued}
use Rattle.calls.specs.Called.{World, Answered, world, Gives, Called, replied, resumed}
use Rattle.calls.specs.History.{taken, ends_run}

-- what was turned down did not come out
pub err-is-not-ok : {A E : Type 0} {e : E} {a : A} → ◌≡◌ {A = Result A E} (Err e) (Ok a) → ⊥
err-is-not-ok e = let z : ◌≡◌ {A = ℕ} 0 1 = cc in omega arith

-- the answer that turns a call down
pub turned_down : (x : Answered) → taken x ≡ false → (f : Fault) × (x ≡ Err f)
turned_down (Ok a) e = absurd (true≢false e)
turned_down (Err f) e = (f, refl)

-- a reply that is turned down is from a result that was, and leaves the world as it was; an accepted one is from what came out
module _ (good : Answer) (w : World) (a : Answered) (after : World) where
  pub replied-refused : (x : Result Area Fault) → Gives (replied good x w) a after → taken a ≡ false → after ≡ w
  replied-refused (Ok b) g e = absurd (true≢false (sym (ap taken g.0) ∙ e))
  replied-refused (Err f) g e = g.1

  pub replied-taken : (x : Result Area Fault) → Gives (replied good x w) a after → taken a ≡ true → (b : Area) × (x ≡ Ok b) × (after ≡ world b w.meaning)
  replied-taken (Ok b) g e = (b, refl, g.1)
  replied-taken (Err f) g e = absurd (true≢false (sym e ∙ ap taken g.0))

module _ (w : World) (a : Answered) (after : World) where
  resumed-refused : (x : Result Resumed Fault) → Gives (resumed x w) a after → taken a ≡ false → after ≡ w
  resumed-refused (Ok r) g e = absurd (true≢false (sym (ap taken g.0) ∙ e))
  resumed-refused (Err f) g e = g.1

  pub resumed-taken : (x : Result Resumed Fault) → Gives (resumed x w) a after → taken a ≡ true → (r : Resumed) × (x ≡ Ok r) × (a ≡ Ok (Continued r.answer)) × (after ≡ world r.area r.meaning)
  resumed-taken (Ok r) g e = (r, refl, g.0, g.1)
  resumed-taken (Err f) g e = absurd (true≢false (sym e ∙ ap taken g.0))

-- a call that is turned down changes nothing
pub refused-changes-nothing : (c : Call) (w : World) (a : Answered) (after : World) → Called c w a after → taken a ≡ false → after ≡ w
refused-changes-nothing (Admit table) w a after h e = replied-refused (Admitted (words_of h.0)) w a after (admitting h.0 w.area) h.2 e
refused-changes-nothing (Bring words) w a after h e = replied-refused (Brought (length words.now)) w a after (bringing words.now w.area) h e
refused-changes-nothing Begin w a after h e = replied-refused Begun w a after (beginning w.area) h e
refused-changes-nothing (Continue n) w a after h e = resumed-refused w a after (resuming n w.meaning w.area) h e
refused-changes-nothing Clear w a after h e = absurd (true≢false (sym (ap taken h.0) ∙ e))

-- what comes out of two things in turn came out of both
pub came-of : {A B : Type 0} (x : Result A Fault) (f : A → Result B Fault) (b : B) → and_then x f ≡ Ok b → (a : A) × (x ≡ Ok a) × (f a ≡ Ok b)
came-of (Ok a) f b e = (a, refl, e)
came-of (Err x) f b e = absurd (err-is-not-ok e)

-- what comes out of a test passed it
pub came-past : {A : Type 0} (t : Bool) (x : Result A Fault) (f : Fault) (a : A) → cond t x (Err f) ≡ Ok a → (t ≡ true) × (x ≡ Ok a)
came-past true x f a e = (refl, e)
came-past false x f a e = absurd (err-is-not-ok e)

-- A call that does not end a run was turned down, or is a continue that was accepted
pub data Lasting (area : Area) : Call → Meaning → Answered → Area → Meaning → Type 0 where
  turned : {c : Call} {m : Meaning} (f : Fault) → Lasting area c m (Err f) area m
  went : {m : Meaning} (n : ℕ) (r : Resumed) → resuming n m area ≡ Ok r → Lasting area (Continue n) m (Ok (Continued r.answer)) r.area r.meaning

lasting-refused : (c : Call) (area next : Area) (m m' : Meaning) (a : Answered) → Called c (world area m) a (world next m') → taken a ≡ false → Lasting area c m a next m'
lasting-refused c area next m m' a h e =
    let f = turned_down a e in
    let same = refused-changes-nothing c (world area m) a (world next m') h e in
    subst (λ x. Lasting area c m x next m') (sym f.1) (subst (λ (w : World). Lasting area c m (Err f.0) w.area w.meaning) (sym same) (turned f.0))

lasting-resumed : (n : ℕ) (area next : Area) (m m' : Meaning) (a : Answered) → Called (Continue n) (world area m) a (world next m') → taken a ≡ true → Lasting area (Continue n) m a next m'
lasting-resumed n area next m m' a h e =
    let r = resumed-taken (world area m) a (world next m') (resuming n m area) h e in
    subst (λ x. Lasting area (Continue n) m x next m') (sym r.2) (subst (λ (w : World). Lasting area (Continue n) m (Ok (Continued r.0.answer)) w.area w.meaning) (sym r.3) (went n r.0 r.1))

-- a test of a call that is accepted
pub not_taken : (b : Bool) → cond b true false ≡ false → b ≡ false
not_taken true e = e
not_taken false e = refl

pub lasting : (c : Call) (area next : Area) (m m' : Meaning) (a : Answered) → Called c (world area m) a (world next m') → cond (taken a) (ends_run c) false ≡ false → Lasting area c m a next m'
lasting (Admit table) area next m m' a h e = lasting-refused (Admit table) area next m m' a h (not_taken (taken a) e)
lasting (Bring words) area next m m' a h e = lasting-refused (Bring words) area next m m' a h (not_taken (taken a) e)
lasting Begin area next m m' a h e = lasting-refused Begin area next m m' a h (not_taken (taken a) e)
lasting (Continue n) area next m m' a h e =
    elim (cases_Bool (taken a)) [
      | inl yes' ↦ lasting-resumed n area next m m' a h yes'
      | inr no' ↦ lasting-refused (Continue n) area next m m' a h no'
    ]
lasting Clear area next m m' a h e = lasting-refused Clear area next m m' a h (not_taken (taken a) e)
