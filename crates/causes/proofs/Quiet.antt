-- What can be in trouble, but never stops. Assumes nothing.
use Rattle.std.proofs.Common.{◌≡◌, ℕ, zero, suc, ◌+◌, Bool, true, false, cond, eqb, ltb, leb, List, Ok, Err, Result, refl, ap, arith}
use Rattle.language.specs.declared.faults.Halt.{Halt}
use Rattle.language.specs.declared.faults.Halt.TheVariants.{Troubled, Stopped}
use Rattle.language.specs.declared.faults.Stop.{Stop}
use Rattle.language.specs.declared.faults.Trouble.{Trouble}
use Rattle.image.specs.declared.instruction.Header.{Header}
use Rattle.image.specs.Fetch.{fetched, decoded, operator, code, operand}
use Rattle.machine.specs.declared.cells.Cell.{Cell}
use Rattle.machine.specs.declared.cells.Cell.TheVariants.{Unset, Number, Truth, Link}
use Rattle.machine.specs.declared.frames.Frame.{Frame}
use Rattle.machine.specs.Cells.{bind, times, link, present, value, number, truth, values, numbers}
use Rattle.machine.specs.Frames.{arguments, caller, four_links, frame, hop, outer, place}
use Rattle.image.specs.declared.instruction.Slot.{Slot}
use Rattle.stack.specs.Stack.{holds}

-- no stop comes of it
pub record Quiet {A : Type 0} (r : Result A Halt) : Type 0 where
  pub quiet : (c : Stop) → r ≡ Err (Stopped c) → ⊥

pub quiet_ok : {A : Type 0} (a : A) → Quiet (Ok a)
quiet_ok a = record { quiet = λ c e. let z : ◌≡◌ {A = ℕ} 0 1 = cc in omega arith }

pub quiet-trouble : {A : Type 0} (t : Trouble) → Quiet {A = A} (Err (Troubled t))
quiet-trouble t = record { quiet = λ c e. let z : ◌≡◌ {A = ℕ} 0 1 = cc in omega arith }

pub quiet_bind : {A B : Type 0} (x : Result A Halt) (f : A → Result B Halt) → Quiet x → ((a : A) → Quiet (f a)) → Quiet (bind x f)
quiet_bind (Ok a) f q h = h a
quiet_bind (Err h) f q g = record { quiet = λ c e. let same : h ≡ Stopped c = cc in q.quiet c (ap Err same) }

pub quiet-cond : {A : Type 0} (b : Bool) (x y : Result A Halt) → Quiet x → Quiet y → Quiet (cond b x y)
quiet-cond true x y p q = p
quiet-cond false x y p q = q

pub quiet-times : {A : Type 0} (n : ℕ) (f : A → Result A Halt) (a : A) → ((b : A) → Quiet (f b)) → Quiet (times n f a)
quiet-times zero f a h = quiet_ok a
quiet-times (suc n) f a h = quiet_bind (f a) (times n f) (h a) (λ b. quiet-times n f b h)

pub quiet-link : (c : Cell) → Quiet (link c)
quiet-link Unset = quiet-trouble _
quiet-link (Number z) = quiet-trouble _
quiet-link (Truth b) = quiet-trouble _
quiet-link (Link n) = quiet_ok n

pub quiet-present : (c : Cell) → Quiet (present c)
quiet-present Unset = quiet-trouble _
quiet-present (Number z) = quiet_ok tt
quiet-present (Truth b) = quiet_ok tt
quiet-present (Link n) = quiet_ok tt

pub quiet-value : (c : Cell) → Quiet (value c)
quiet-value Unset = quiet-trouble _
quiet-value (Number z) = quiet_ok _
quiet-value (Truth b) = quiet_ok _
quiet-value (Link n) = quiet-trouble _

pub quiet-number : (c : Cell) → Quiet (number c)
quiet-number Unset = quiet-trouble _
quiet-number (Number z) = quiet_ok z
quiet-number (Truth b) = quiet-trouble _
quiet-number (Link n) = quiet-trouble _

pub quiet-truth : (c : Cell) → Quiet (truth c)
quiet-truth Unset = quiet-trouble _
quiet-truth (Number z) = quiet-trouble _
quiet-truth (Truth b) = quiet_ok b
quiet-truth (Link n) = quiet-trouble _

pub quiet-values : (a b : Cell) → Quiet (values a b)
quiet-values a b =
    quiet_bind (present a) _ (quiet-present a)
    (λ _. quiet_bind (present b) _ (quiet-present b)
    (λ _. quiet_bind (value a) _ (quiet-value a) (λ v. quiet_bind (value b) _ (quiet-value b) (λ w. quiet_ok _))))

pub quiet-numbers : (a b : Cell) → Quiet (numbers a b)
quiet-numbers a b =
    quiet_bind (present a) _ (quiet-present a)
    (λ _. quiet_bind (present b) _ (quiet-present b)
    (λ _. quiet_bind (number a) _ (quiet-number a) (λ v. quiet_bind (number b) _ (quiet-number b) (λ w. quiet_ok _))))

module _ (read : ℕ → Cell) where
  pub quiet_frame : (base limit : ℕ) → Quiet (frame read base limit)
  quiet_frame base limit =
      quiet-cond (leb (base + 4) limit) _ _
      (quiet_bind (link (read base)) _ (quiet-link (read base))
      (λ _. quiet_bind (link (read (base + 1))) _ (quiet-link (read (base + 1)))
      (λ _. quiet_bind (link (read (base + 2))) _ (quiet-link (read (base + 2)))
      (λ _. quiet_bind (link (read (base + 3))) _ (quiet-link (read (base + 3)))
      (λ n. quiet-cond (leb (base + 4 + n) limit) _ _ (quiet_ok _) (quiet-trouble _))))))
      (quiet-trouble _)

  pub quiet-outer : (n : ℕ) (f : Frame) → Quiet (outer n read f)
  quiet-outer n f =
      quiet-times n (hop read) f (λ g. quiet_bind (link (read g.base)) _ (quiet-link (read g.base)) (λ a. quiet_frame a g.base))

  pub quiet-place : (f : Frame) (s : Slot) → Quiet (place read f s)
  quiet-place f s =
      quiet_bind (outer s.hops read f) _ (quiet-outer s.hops f)
      (λ g. quiet-cond (ltb (g.base + 4 + s.index) g.end) _ _ (quiet_ok _) (quiet-trouble _))

  pub quiet-caller : (f : Frame) → Quiet (caller read f)
  quiet-caller f =
      quiet_bind (link (read (f.base + 1))) _ (quiet-link (read (f.base + 1))) (λ b. quiet_frame b f.base)

  pub quiet-four-links : (k : ℕ) → Quiet (four_links read k)
  quiet-four-links k =
      quiet_bind (link (read k)) _ (quiet-link (read k))
      (λ _. quiet_bind (link (read (k + 1))) _ (quiet-link (read (k + 1)))
      (λ _. quiet_bind (link (read (k + 2))) _ (quiet-link (read (k + 2))) (λ _. quiet-link (read (k + 3)))))

  pub quiet-arguments : (from n : ℕ) → Quiet (arguments read from n)
  quiet-arguments from n =
      quiet_bind (times n _ from) _
      (quiet-times n _ from (λ k. quiet_bind (present (read k)) _ (quiet-present (read k)) (λ _. quiet_ok (k + 1))))
      (λ _. quiet-times n _ from (λ k. quiet_bind (value (read k)) _ (quiet-value (read k)) (λ _. quiet_ok (k + 1))))

pub quiet-holds : (f : Frame) (n : ℕ) (cells : List Cell) → Quiet (holds f n cells)
quiet-holds f n cells = quiet-cond _ _ _ (quiet_ok tt) (quiet-trouble _)

-- an operator's code, any code, and what is fetched
quiet-operator : (c x : ℕ) → Quiet (operator c x)
quiet-operator c x =
    quiet-cond (eqb c 5) _ _ (quiet-cond (eqb x 0) _ _ (quiet_ok _) (quiet-trouble _))
    (quiet-cond (eqb c 6) _ _ (quiet-cond (eqb x 0) _ _ (quiet_ok _) (quiet-trouble _))
    (quiet-cond (eqb c 7) _ _ (quiet-cond (eqb x 0) _ _ (quiet_ok _) (quiet-trouble _))
    (quiet-cond (eqb c 8) _ _ (quiet-cond (eqb x 0) _ _ (quiet_ok _) (quiet-trouble _))
    (quiet-cond (eqb c 9) _ _ (quiet-cond (eqb x 0) _ _ (quiet_ok _) (quiet-trouble _))
    (quiet-cond (eqb c 10) _ _ (quiet-cond (eqb x 0) _ _ (quiet_ok _) (quiet-trouble _))
    (quiet-cond (eqb c 11) _ _ (quiet-cond (eqb x 0) _ _ (quiet_ok _) (quiet-trouble _))
    (quiet-cond (eqb c 12) _ _ (quiet-cond (eqb x 0) _ _ (quiet_ok _) (quiet-trouble _))
    (quiet-cond (eqb c 13) _ _ (quiet-cond (eqb x 0) _ _ (quiet_ok _) (quiet-trouble _))
    (quiet-cond (eqb c 14) _ _ (quiet-cond (eqb x 0) _ _ (quiet_ok _) (quiet-trouble _))
    (quiet-cond (eqb c 15) _ _ (quiet-cond (eqb x 0) _ _ (quiet_ok _) (quiet-trouble _))
    (quiet-trouble _)))))))))))

quiet-decoded : (words : List ℕ) (header : Header) (c x : ℕ) → Quiet (decoded words header c x)
quiet-decoded words header c x =
    quiet-cond (eqb c 1) _ _ (quiet-cond (leb x 2147483647) _ _ (quiet_ok _) (quiet-trouble _))
    (quiet-cond (eqb c 2) _ _ (quiet-cond (eqb x 0) _ _ (quiet_ok _) (quiet-cond (eqb x 1) _ _ (quiet_ok _) (quiet-trouble _)))
    (quiet-cond (eqb c 3) _ _ (quiet_ok _)
    (quiet-cond (eqb c 4) _ _ (quiet_ok _)
    (quiet-cond (eqb c 16) _ _ (quiet-cond (eqb x 0) _ _ (quiet_ok _) (quiet-trouble _))
    (quiet-cond (eqb c 17) _ _ (quiet-cond (eqb x 0) _ _ (quiet_ok _) (quiet-trouble _))
    (quiet-cond (eqb c 18) _ _ (quiet-cond (ltb x header.count) _ _ (quiet_ok _) (quiet-trouble _))
    (quiet-cond (eqb c 19) _ _ (quiet-cond (ltb x header.count) _ _ (quiet_ok _) (quiet-trouble _))
    (quiet-cond (eqb c 20) _ _ (quiet_ok _)
    (quiet-cond (eqb c 21) _ _ (quiet-cond (ltb x header.count) _ _ (quiet-cond (eqb (code words x) 22) _ _ (quiet_ok _) (quiet-trouble _)) (quiet-trouble _))
    (quiet-cond (eqb c 23) _ _ (quiet-cond (eqb x 0) _ _ (quiet_ok _) (quiet-cond (eqb x 1) _ _ (quiet_ok _) (quiet-trouble _)))
    (quiet-cond (eqb c 24) _ _ (quiet-cond (eqb x 0) _ _ (quiet_ok _) (quiet-trouble _))
    (quiet-cond (eqb c 25) _ _ (quiet-cond (eqb x 0) _ _ (quiet_ok _) (quiet-trouble _))
    (quiet-cond (eqb c 26) _ _ (quiet-cond (eqb x 0) _ _ (quiet_ok _) (quiet-trouble _))
    (quiet-cond (eqb c 27) _ _ (quiet-cond (eqb x 0) _ _ (quiet_ok _) (quiet-cond (eqb x 1) _ _ (quiet_ok _) (quiet-trouble _)))
    (quiet-operator c x)))))))))))))))

pub quiet-fetched : (words : List ℕ) (header : Header) (at : ℕ) → Quiet (fetched words header at)
quiet-fetched words header at =
    quiet-cond (ltb at header.count) _ _ (quiet-decoded words header (code words at) (operand words header at)) (quiet-trouble _)

-- a stop after something quiet comes from what follows
pub bind-stop : {A B : Type 0} (x : Result A Halt) (f : A → Result B Halt) (c : Stop) → Quiet x → bind x f ≡ Err (Stopped c) → (a : A) × (x ≡ Ok a) × (f a ≡ Err (Stopped c))
bind-stop (Ok a) f c q e = (a, refl, e)
bind-stop (Err h) f c q e = let same : h ≡ Stopped c = cc in absurd (q.quiet c (ap Err same))

-- and where what follows cannot halt, from what comes first
pub bind-first : {A B : Type 0} (x : Result A Halt) (f : A → B) (c : Stop) → bind x (λ a. Ok (f a)) ≡ Err (Stopped c) → x ≡ Err (Stopped c)
bind-first (Ok a) f c e = let z : ◌≡◌ {A = ℕ} 0 1 = cc in absurd (omega arith)
bind-first (Err h) f c e = let same : h ≡ Stopped c = cc in ap Err same
