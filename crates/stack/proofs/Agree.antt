-- An instruction on whole cells and one on the stack agree: the same answer, and the cells afterwards are the new stack laid over the old ones, within their number. Assumes nothing.
use Rattle.std.proofs.Common.{◌≡◌, ℕ, ◌+◌, ◌≤◌, Bool, true, false, cond, leb, List, length, Ok, Err, Option, Result, sym, refl, ap, subst}
use Rattle.std.proofs.lemmas.Bool.{leb-true}
use Rattle.language.specs.declared.faults.Halt.{Halt}
use Rattle.language.specs.declared.values.Value.{Value}
use Rattle.host.specs.Meaning.{Meaning}
use Rattle.machine.specs.declared.cells.Cell.{Cell}
use Rattle.machine.specs.declared.frames.Frame.{Frame}
use Rattle.machine.specs.Cells.{bind}
use Rattle.machine.specs.State.{State}
use Rattle.machine.specs.Step as marked
use Rattle.stack.specs.Stack.{Stack, Went, next, ended, holds, onward}
use Rattle.stack.specs.Law.{laid_over, spread}
use Rattle.stack.proofs.Alike.{gives-ok, gives-cond, given}

-- an instruction that touches the machine and its cells alone
pub Agree : List Cell → Result State Halt → Result Stack Halt → Type 0
Agree w r (Ok t) = (r ≡ Ok (laid_over w t)) × (length t.cells ≤ length w)
Agree w r (Err h) = r ≡ Err h

-- any instruction
pub Agrees : List Cell → Result marked.Went Halt → Result (Went Meaning) Halt → Type 0
Agrees w r (Ok (next t m)) = (r ≡ Ok (marked.next (laid_over w t) m)) × (length t.cells ≤ length w)
Agrees w r (Ok (ended v)) = r ≡ Ok (marked.ended v)
Agrees w r (Err h) = r ≡ Err h

pub agree-ok : (w : List Cell) (r : State) (t : Stack) → r ≡ laid_over w t → length t.cells ≤ length w → Agree w (Ok r) (Ok t)
unfolding Agree
agree-ok w r t e h = (ap Ok e, h)

pub agrees-ok : (w : List Cell) (r : State) (t : Stack) (m : Meaning) → r ≡ laid_over w t → length t.cells ≤ length w → Agrees w (Ok (marked.next r m)) (Ok (next t m))
unfolding Agrees
agrees-ok w r t m e h = (ap (λ s. Ok (marked.next s m)) e, h)

pub agrees-ended : (w : List Cell) (v : Option Value) → Agrees w (Ok (marked.ended v)) (Ok (ended v))
unfolding Agrees
agrees-ended w v = refl

pub agree-halts : (w : List Cell) (h : Halt) → Agree w (Err h) (Err h)
unfolding Agree
agree-halts w h = refl

pub agrees-halts : (w : List Cell) (h : Halt) → Agrees w (Err h) (Err h)
unfolding Agrees
agrees-halts w h = refl

-- what agrees at each halt agrees on from the same answer, and past the same test
module _ {X Y : Type 0} (R : Result X Halt → Result Y Halt → Type 0) (halts : (h : Halt) → R (Err h) (Err h)) where
  related : {A : Type 0} (y : Result A Halt) (f : A → Result X Halt) (g : A → Result Y Halt) → ((a : A) → y ≡ Ok a → R (f a) (g a)) → R (bind y f) (bind y g)
  related (Ok a) f g h = h a refl
  related (Err e) f g h = halts e

  pub related-bind : {A : Type 0} (x y : Result A Halt) (f : A → Result X Halt) (g : A → Result Y Halt) → x ≡ y → ((a : A) → y ≡ Ok a → R (f a) (g a)) → R (bind x f) (bind y g)
  related-bind x y f g e h = subst (λ z. R (bind z f) (bind y g)) (sym e) (related y f g h)

  pub related-cond : (b : Bool) (x : Result X Halt) (y : Result Y Halt) (h : Halt) → (b ≡ true → R x y) → R (cond b x (Err h)) (cond b y (Err h))
  related-cond true x y h k = k refl
  related-cond false x y h k = halts h

pub agree-bind : {A : Type 0} (w : List Cell) (x y : Result A Halt) (f : A → Result State Halt) (g : A → Result Stack Halt) → x ≡ y → ((a : A) → y ≡ Ok a → Agree w (f a) (g a)) → Agree w (bind x f) (bind y g)
agree-bind w x y f g e h = related-bind (Agree w) (agree-halts w) x y f g e h

pub agrees-bind : {A : Type 0} (w : List Cell) (x y : Result A Halt) (f : A → Result marked.Went Halt) (g : A → Result (Went Meaning) Halt) → x ≡ y → ((a : A) → y ≡ Ok a → Agrees w (f a) (g a)) → Agrees w (bind x f) (bind y g)
agrees-bind w x y f g e h = related-bind (Agrees w) (agrees-halts w) x y f g e h

pub agree-cond : (w : List Cell) (b : Bool) (x : Result State Halt) (y : Result Stack Halt) (h : Halt) → (b ≡ true → Agree w x y) → Agree w (cond b x (Err h)) (cond b y (Err h))
agree-cond w b x y h k = related-cond (Agree w) (agree-halts w) b x y h k

-- an instruction that leaves the host alone
pub agrees-onward : (w : List Cell) (m : Meaning) (r : Result State Halt) (q : Result Stack Halt) → Agree w r q → Agrees w (bind r (λ s. Ok (marked.next s m))) (onward m q)
unfolding Agree Agrees
agrees-onward w m r (Ok t) h = (ap (λ z. bind z (λ s. Ok (marked.next s m))) h.0, h.1)
agrees-onward w m r (Err e) h = ap (λ z. bind z (λ s. Ok (marked.next s m))) h

-- what agrees is what the stack's answer is on whole cells
pub agrees-spread : (w : List Cell) (r : Result marked.Went Halt) (q : Result (Went Meaning) Halt) → Agrees w r q → r ≡ spread w q
unfolding Agrees
agrees-spread w r (Ok (next t m)) h = h.0
agrees-spread w r (Ok (ended v)) h = h
agrees-spread w r (Err e) h = h

-- where both go on
pub agrees-next : (w : List Cell) (r : Result marked.Went Halt) (t : Stack) (m : Meaning) → Agrees w r (Ok (next t m)) → (r ≡ Ok (marked.next (laid_over w t) m)) × (length t.cells ≤ length w)
unfolding Agrees
agrees-next w r t m h = h

-- states are equal where their parts are
pub state-same : {c c' b b' n n' : ℕ} {k k' : List Cell} → c ≡ c' → b ≡ b' → n ≡ n' → k ≡ k' → ◌≡◌ {A = State} (record { counter = c; base = b; top = n; cells = k }) (record { counter = c'; base = b'; top = n'; cells = k' })
state-same p q r s = λ i. record { counter = p i; base = q i; top = r i; cells = s i }

-- there are so many working cells
pub held : (f : Frame) (n : ℕ) (s : List Cell) (u : Unit {0}) → holds f n s ≡ Ok u → f.end + n ≤ length s
held f n s u e =
    given (λ _. f.end + n ≤ length s) (holds f n s) u (gives-cond (λ _. f.end + n ≤ length s) (leb (f.end + n) (length s)) (Ok tt) _ (λ l. gives-ok (λ _. f.end + n ≤ length s) tt (leb-true (f.end + n) (length s) l))) e
