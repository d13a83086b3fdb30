-- Each stop has its cause. Assumes nothing.
use Rattle.std.proofs.Common.{◌≡◌, ℕ, ◌+◌, ◌-◌, ◌<◌, Bool, true, false, cond, eqb, ltb, leb, List, [], ◌∷◌, length, ℤ, pos, negsuc, Some, None, Ok, Err, Option, Result, sym, refl, ap, ◌∙◌, subst, inl, inr, arith, eqb-true, leb-false}
use lib.Signed.{lt_z, quot_z}
use Rattle.language.specs.declared.faults.Halt.{Halt}
use Rattle.language.specs.declared.faults.Halt.TheVariants.{Stopped}
use Rattle.language.specs.declared.faults.Stop.{Stop}
use Rattle.language.specs.declared.faults.Stop.TheVariants.{DivisorZero, OutOfRange, NoRoom, NoSuchNumber, NothingThere, PostingRefused}
use Rattle.language.specs.declared.values.Operator.{Operator}
use Rattle.language.specs.declared.values.Operator.TheVariants.{Multiply, Divide, Add, Subtract, Less, LessOrEqual, Greater, GreaterOrEqual, Equal, And, Or}
use Rattle.language.specs.declared.values.Value.{Value}
use Rattle.language.specs.declared.values.Value.TheVariants as vals
use Rattle.language.specs.declared.values.ValueType.{ValueType}
use Rattle.language.specs.declared.values.ValueType.TheVariants.{Void, Int, Bool as Truths}
use Rattle.language.specs.Operators.{applied, negated, eq_z, greatest, in_range, least, number as number_of, on_truths, quotient}
use Rattle.host.specs.Meaning.{Meaning, asked, into, charged}
use Rattle.host.specs.Serves.{by_meaning, numbered, from_host, still, amount_at, flag_at, post_at}
use Rattle.image.specs.declared.instruction.Local.{Local as Locals}
use Rattle.image.specs.declared.instruction.Local.TheVariants.{PushNumber, PushTruth, Load, Store, Operate, Not, Discard, Jump, JumpIfFalse, Open, Call, Return, ReturnValue}
use Rattle.image.specs.declared.instruction.Instruction.{Instruction}
use Rattle.image.specs.declared.instruction.Instruction.TheVariants.{Local, Amount, Flag, Post, End, EndValue}
use Rattle.image.specs.Fetch.{fetched}
use Rattle.machine.specs.declared.cells.Cell.{Cell}
use Rattle.machine.specs.declared.cells.Cell.TheVariants.{Unset, Number, Truth, Link}
use Rattle.machine.specs.declared.frames.Frame.{Frame}
use Rattle.machine.specs.Cells.{bind, cell_of, link, value, number, numbers, truth, values}
use Rattle.machine.specs.Frames.{arguments, caller, four_links, frame, outer, place}
use Rattle.machine.specs.Step.{ends_void, ends_with}
use Rattle.stack.specs.Stack.{Stack, stack, next, carry, carry_local, ask, post, holds, one, two, room, on_to, cell_at}
use Rattle.causes.specs.Causes.{Exact, Outside, Wants, Holds, StoppedForACause}
use Rattle.causes.specs.Causes.Exact.{product, quotient as quotient_of, sum, difference}
use Rattle.causes.specs.Causes.Wants.{number as wants_number, truth as wants_truth, copy, links, slots}
use Rattle.causes.specs.Causes.Holds.{divisor_zero, out_of_range, no_room, no_field, no_flag_field, no_account, no_amount, no_flag, closed, no_line}
use Rattle.causes.proofs.Quiet.{Quiet, quiet_ok, quiet-trouble, quiet_bind, quiet-fetched, quiet_frame, quiet-outer, quiet-place, quiet-caller, quiet-four-links, quiet-arguments, quiet-holds, quiet-link, quiet-value, quiet-truth, bind-stop, bind-first}

-- a stop that cannot be
never : {A X : Type 0} (r : Result A Halt) (c : Stop) → Quiet r → r ≡ Err (Stopped c) → X
never r c q e = absurd (q.quiet c e)

same_stop : {A : Type 0} (a b : Stop) → ◌≡◌ {A = Result A Halt} (Err (Stopped a)) (Err (Stopped b)) → b ≡ a
same_stop a b e = cc

-- no room: the cells that are wanted pass the limit
room-stop : {A : Type 0} (limit n : ℕ) (cells : List Cell) (a : A) (c : Stop) → room limit n cells (Ok a) ≡ Err (Stopped c) → (c ≡ NoRoom) × (limit < length cells + n)
room-stop {A} limit n cells a c e = by (leb (length cells + n) limit) refl e
  where
    by : (b : Bool) → leb (length cells + n) limit ≡ b → cond b (Ok a) (Err (Stopped NoRoom)) ≡ Err (Stopped c) → (c ≡ NoRoom) × (limit < length cells + n)
    by true t e = never (Ok a) c (quiet_ok a) e
    by false t e = (same_stop {A = A} NoRoom c e, leb-false (length cells + n) limit t)

-- out of range
range-stop : (z : ℤ) (c : Stop) → number_of (in_range z) ≡ Err (Stopped c) → (c ≡ OutOfRange) × Outside z
range-stop z c e = by (lt_z z least) (lt_z greatest z) refl refl e
  where
    by : (p q : Bool) → lt_z z least ≡ p → lt_z greatest z ≡ q → number_of (cond p (Err OutOfRange) (cond q (Err OutOfRange) (Ok z))) ≡ Err (Stopped c) → (c ≡ OutOfRange) × Outside z
    by true q h k e = (same_stop {A = Value} OutOfRange c e, inl h)
    by false true h k e = (same_stop {A = Value} OutOfRange c e, inr k)
    by false false h k e = never (Ok (vals.Number z)) c (quiet_ok _) e

module _ (m : Meaning) (limit : ℕ) where
  full : {A : Type 0} (i : Instruction) (n : ℕ) (cells : List Cell) (a : A) (c : Stop) → Wants i n → room limit n cells (Ok a) ≡ Err (Stopped c) → Holds m limit i cells c
  full i n cells a c w e =
      let h = room-stop limit n cells a c e in
      subst (Holds m limit i cells) (sym h.0) (no_room w h.1)

  out : (o : Operator) (a b z : ℤ) (rest : List Cell) (c : Stop) → Exact o a b z → number_of (in_range z) ≡ Err (Stopped c) → Holds m limit (Local (Operate o)) (Number b ∷ Number a ∷ rest) c
  out o a b z rest c x e =
      let h = range-stop z c e in
      subst (Holds m limit (Local (Operate o)) (Number b ∷ Number a ∷ rest)) (sym h.0) (out_of_range x h.1)

  zero_is : (b : ℤ) → eq_z b (pos 0) ≡ true → b ≡ pos 0
  zero_is (pos n) e = ap pos (eqb-true n 0 e)
  zero_is (negsuc n) e = let z : ◌≡◌ {A = ℕ} 0 1 = cc in absurd (omega arith)

  divides : (a b : ℤ) (rest : List Cell) (c : Stop) → number_of (quotient a b) ≡ Err (Stopped c) → Holds m limit (Local (Operate Divide)) (Number b ∷ Number a ∷ rest) c
  divides a b rest c e = by (eq_z b (pos 0)) refl e
    where
      by : (t : Bool) → eq_z b (pos 0) ≡ t → number_of (cond t (Err DivisorZero) (in_range (quot_z a b))) ≡ Err (Stopped c) → Holds m limit (Local (Operate Divide)) (Number b ∷ Number a ∷ rest) c
      by true t e =
          subst (λ b. Holds m limit (Local (Operate Divide)) (Number b ∷ Number a ∷ rest) c) (sym (zero_is b t))
          (subst (Holds m limit (Local (Operate Divide)) (Number (pos 0) ∷ Number a ∷ rest)) (sym (same_stop {A = Value} DivisorZero c e)) divisor_zero)
      by false t e = out Divide a b (quot_z a b) rest c quotient_of e

  -- two numbers under an operator
  on-numbers : (o : Operator) (a b : ℤ) (rest : List Cell) (c : Stop) → applied o (vals.Number a) (vals.Number b) ≡ Err (Stopped c) → Holds m limit (Local (Operate o)) (Number b ∷ Number a ∷ rest) c
  on-numbers Multiply a b rest c e = out Multiply a b _ rest c product e
  on-numbers Divide a b rest c e = divides a b rest c e
  on-numbers Add a b rest c e = out Add a b _ rest c sum e
  on-numbers Subtract a b rest c e = out Subtract a b _ rest c difference e
  on-numbers Less a b rest c e = never _ c (quiet_ok _) e
  on-numbers LessOrEqual a b rest c e = never _ c (quiet_ok _) e
  on-numbers Greater a b rest c e = never _ c (quiet_ok _) e
  on-numbers GreaterOrEqual a b rest c e = never _ c (quiet_ok _) e
  on-numbers Equal a b rest c e = never _ c (quiet_ok _) e
  on-numbers And a b rest c e = never _ c (quiet-trouble _) e
  on-numbers Or a b rest c e = never _ c (quiet-trouble _) e

  quiet-truths : (o : Operator) (a b : Bool) → Quiet (on_truths o a b)
  quiet-truths Multiply a b = quiet-trouble _
  quiet-truths Divide a b = quiet-trouble _
  quiet-truths Add a b = quiet-trouble _
  quiet-truths Subtract a b = quiet-trouble _
  quiet-truths Less a b = quiet-trouble _
  quiet-truths LessOrEqual a b = quiet-trouble _
  quiet-truths Greater a b = quiet-trouble _
  quiet-truths GreaterOrEqual a b = quiet-trouble _
  quiet-truths Equal a b = quiet_ok _
  quiet-truths And a b = quiet_ok _
  quiet-truths Or a b = quiet_ok _

  -- an operator on the two topmost cells
  operated : (o : Operator) (a b : Cell) (rest : List Cell) (t : Stack) (c : Stop) → bind (values a b) (λ p. bind (applied o p.0 p.1) (λ v. on_to t (cell_of v ∷ rest))) ≡ Err (Stopped c) → Holds m limit (Local (Operate o)) (b ∷ a ∷ rest) c
  operated o (Number x) (Number y) rest t c e = on-numbers o x y rest c (bind-first (applied o (vals.Number x) (vals.Number y)) _ c e)
  operated o (Truth x) (Truth y) rest t c e = never _ c (quiet-truths o x y) (bind-first (applied o (vals.Truth x) (vals.Truth y)) _ c e)
  operated o (Number x) (Truth y) rest t c e = never _ c (quiet-trouble _) e
  operated o (Truth x) (Number y) rest t c e = never _ c (quiet-trouble _) e
  operated o Unset b rest t c e = never _ c (quiet-trouble _) e
  operated o (Number x) Unset rest t c e = never _ c (quiet-trouble _) e
  operated o (Number x) (Link n) rest t c e = never _ c (quiet-trouble _) e
  operated o (Truth x) Unset rest t c e = never _ c (quiet-trouble _) e
  operated o (Truth x) (Link n) rest t c e = never _ c (quiet-trouble _) e
  operated o (Link n) Unset rest t c e = never _ c (quiet-trouble _) e
  operated o (Link n) (Number y) rest t c e = never _ c (quiet-trouble _) e
  operated o (Link n) (Truth y) rest t c e = never _ c (quiet-trouble _) e
  operated o (Link n) (Link k) rest t c e = never _ c (quiet-trouble _) e

  quiet-negated : (v : Value) → Quiet (negated v)
  quiet-negated (vals.Number z) = quiet-trouble _
  quiet-negated (vals.Truth b) = quiet_ok _

  -- what takes one cell and cannot stop
  quiet_one : {A : Type 0} (cells : List Cell) (k : Cell → List Cell → Result A Halt) → ((c : Cell) (rest : List Cell) → Quiet (k c rest)) → Quiet (one cells k)
  quiet_one [] k h = quiet-trouble _
  quiet_one (c ∷ rest) k h = h c rest

  -- each instruction that touches the machine alone
  local-stop : (l : Locals) (f : Frame) (t : Stack) (c : Stop) → carry_local limit l f t ≡ Err (Stopped c) → Holds m limit (Local l) t.cells c
  local-stop (PushNumber z) f t c e = full (Local (PushNumber z)) 1 t.cells _ c wants_number e
  local-stop (PushTruth b) f t c e = full (Local (PushTruth b)) 1 t.cells _ c wants_truth e
  local-stop (Load slot) f t c e =
      let p = bind-stop (place (cell_at t.cells) f slot) _ c (quiet-place (cell_at t.cells) f slot) e in
      let v = bind-stop (value (cell_at t.cells p.0)) _ c (quiet-value (cell_at t.cells p.0)) p.2 in
      full (Local (Load slot)) 1 t.cells _ c copy v.2
  local-stop (Store slot) f t c e =
      never _ c
      (quiet_bind (holds f 1 t.cells) _ (quiet-holds f 1 t.cells)
      (λ _. quiet_bind (place (cell_at t.cells) f slot) _ (quiet-place (cell_at t.cells) f slot)
      (λ k. quiet_one t.cells _ (λ x rest. quiet_bind (value x) _ (quiet-value x) (λ v. quiet_ok _)))))
      e
  local-stop (Operate o) f t c e =
      let h = bind-stop (holds f 2 t.cells) _ c (quiet-holds f 2 t.cells) e in
      on-two t.cells h.2
    where
      on-two : (cells : List Cell) → two cells (λ a b rest. bind (values a b) (λ p. bind (applied o p.0 p.1) (λ v. on_to t (cell_of v ∷ rest)))) ≡ Err (Stopped c) → Holds m limit (Local (Operate o)) cells c
      on-two [] e = never _ c (quiet-trouble _) e
      on-two (x ∷ []) e = never _ c (quiet-trouble _) e
      on-two (b ∷ a ∷ rest) e = operated o a b rest t c e
  local-stop Not f t c e =
      never _ c
      (quiet_bind (holds f 1 t.cells) _ (quiet-holds f 1 t.cells)
      (λ _. quiet_one t.cells _ (λ x rest. quiet_bind (value x) _ (quiet-value x) (λ v. quiet_bind (negated v) _ (quiet-negated v) (λ w. quiet_ok _)))))
      e
  local-stop Discard f t c e =
      never _ c
      (quiet_bind (holds f 1 t.cells) _ (quiet-holds f 1 t.cells)
      (λ _. quiet_one t.cells _ (λ x rest. quiet_bind (value x) _ (quiet-value x) (λ v. quiet_ok _))))
      e
  local-stop (Jump target) f t c e = never _ c (quiet_ok _) e
  local-stop (JumpIfFalse target) f t c e =
      never _ c
      (quiet_bind (holds f 1 t.cells) _ (quiet-holds f 1 t.cells)
      (λ _. quiet_one t.cells _ (λ x rest. quiet_bind (truth x) _ (quiet-truth x) (λ v. quiet_ok _))))
      e
  local-stop (Open hops) f t c e =
      let g = bind-stop (outer hops (cell_at t.cells) f) _ c (quiet-outer (cell_at t.cells) hops f) e in
      full (Local (Open hops)) 4 t.cells _ c links g.2
  local-stop (Call entry) f t c e =
      let h = bind-stop (holds f (entry.parameters + 4) t.cells) _ c (quiet-holds f (entry.parameters + 4) t.cells) e in
      let l = bind-stop (four_links (cell_at t.cells) (length t.cells - (entry.parameters + 4))) _ c (quiet-four-links (cell_at t.cells) (length t.cells - (entry.parameters + 4))) h.2 in
      let a = bind-stop (arguments (cell_at t.cells) (length t.cells - entry.parameters) entry.parameters) _ c (quiet-arguments (cell_at t.cells) (length t.cells - entry.parameters) entry.parameters) l.2 in
      full (Local (Call entry)) entry.others t.cells _ c slots a.2
  local-stop Return f t c e =
      never _ c
      (quiet_bind (caller (cell_at t.cells) f) _ (quiet-caller (cell_at t.cells) f)
      (λ g. quiet_bind (link (cell_at t.cells (f.base + 2))) _ (quiet-link (cell_at t.cells (f.base + 2))) (λ n. quiet_ok _)))
      e
  local-stop ReturnValue f t c e =
      never _ c
      (quiet_bind (caller (cell_at t.cells) f) _ (quiet-caller (cell_at t.cells) f)
      (λ g. quiet_bind (link (cell_at t.cells (f.base + 2))) _ (quiet-link (cell_at t.cells (f.base + 2)))
      (λ n. quiet_bind (holds f 1 t.cells) _ (quiet-holds f 1 t.cells)
      (λ _. quiet_one t.cells _ (λ x rest. quiet_bind (value x) _ (quiet-value x) (λ v. quiet_ok _))))))
      e

  -- a number that is none of a field or an account
  numbered-stop : (z : ℤ) (h : Halt) → numbered z ≡ Err h → h ≡ Stopped NoSuchNumber
  numbered-stop (pos n) h e = by (ltb n 256) e
    where
      by : (b : Bool) → cond b (Ok n) (Err (Stopped NoSuchNumber)) ≡ Err h → h ≡ Stopped NoSuchNumber
      by true e = let z : ◌≡◌ {A = ℕ} 0 1 = cc in absurd (omega arith)
      by false e = cc
  numbered-stop (negsuc n) h e = cc

  amount-stop : (z : ℤ) (rest : List Cell) (c : Stop) (n : Result ℕ Halt) → numbered z ≡ n → amount_at by_meaning m n ≡ Err (Stopped c) → Holds m limit Amount (Number z ∷ rest) c
  amount-stop z rest c (Err h) k e =
      let s = numbered-stop z h k in
      let same : c ≡ NoSuchNumber = cc in
      subst (Holds m limit Amount (Number z ∷ rest)) (sym same) (no_field (k ∙ ap Err s))
  amount-stop z rest c (Ok field) k e = by (m.amount field) refl e
    where
      by : (o : Option ℤ) → m.amount field ≡ o → from_host (still m (asked o)) ≡ Err (Stopped c) → Holds m limit Amount (Number z ∷ rest) c
      by None there e =
          let same : c ≡ NothingThere = cc in
          subst (Holds m limit Amount (Number z ∷ rest)) (sym same) (no_amount k there)
      by (Some v) there e = never _ c (quiet_ok _) e

  flag-stop : (z : ℤ) (rest : List Cell) (c : Stop) (n : Result ℕ Halt) → numbered z ≡ n → flag_at by_meaning m n ≡ Err (Stopped c) → Holds m limit Flag (Number z ∷ rest) c
  flag-stop z rest c (Err h) k e =
      let s = numbered-stop z h k in
      let same : c ≡ NoSuchNumber = cc in
      subst (Holds m limit Flag (Number z ∷ rest)) (sym same) (no_flag_field (k ∙ ap Err s))
  flag-stop z rest c (Ok field) k e = by (m.flag field) refl e
    where
      by : (o : Option Bool) → m.flag field ≡ o → from_host (still m (asked o)) ≡ Err (Stopped c) → Holds m limit Flag (Number z ∷ rest) c
      by None there e =
          let same : c ≡ NothingThere = cc in
          subst (Holds m limit Flag (Number z ∷ rest)) (sym same) (no_flag k there)
      by (Some v) there e = never _ c (quiet_ok _) e

  post-stop : (a v : ℤ) (rest : List Cell) (c : Stop) (n : Result ℕ Halt) → numbered a ≡ n → post_at by_meaning m v n ≡ Err (Stopped c) → Holds m limit Post (Number v ∷ Number a ∷ rest) c
  post-stop a v rest c (Err h) k e =
      let s = numbered-stop a h k in
      let same : c ≡ NoSuchNumber = cc in
      subst (Holds m limit Post (Number v ∷ Number a ∷ rest)) (sym same) (no_account (k ∙ ap Err s))
  post-stop a v rest c (Ok account) k e = by (m.account account) refl e
    where
      by : (o : Option ℤ) → m.account account ≡ o → from_host (into m account v o) ≡ Err (Stopped c) → Holds m limit Post (Number v ∷ Number a ∷ rest) c
      by None there e =
          let same : c ≡ PostingRefused = cc in
          subst (Holds m limit Post (Number v ∷ Number a ∷ rest)) (sym same) (closed k there)
      by (Some total) there e = lines_left (eqb m.lines 0) refl e
        where
          lines_left : (b : Bool) → eqb m.lines 0 ≡ b → from_host (cond b (Err PostingRefused) (Ok (charged m account v total))) ≡ Err (Stopped c) → Holds m limit Post (Number v ∷ Number a ∷ rest) c
          lines_left true q e =
              let same : c ≡ PostingRefused = cc in
              subst (Holds m limit Post (Number v ∷ Number a ∷ rest)) (sym same) (no_line k (eqb-true m.lines 0 q))
          lines_left false q e = never _ c (quiet_ok _) e

  -- the field number on top
  asks-amount : (f : Frame) (t : Stack) (c : Stop) → ask f t Number (amount_at by_meaning m) ≡ Err (Stopped c) → Holds m limit Amount t.cells c
  asks-amount f t c e = on_one t.cells (bind-stop (holds f 1 t.cells) _ c (quiet-holds f 1 t.cells) e).2
    where
      on_one : (cells : List Cell) → one cells (λ x rest. bind (number x) (λ z. bind (amount_at by_meaning m (numbered z)) (λ r. Ok (next (stack (t.counter + 1) t.base (Number r.0 ∷ rest)) r.1)))) ≡ Err (Stopped c) → Holds m limit Amount cells c
      on_one [] e = never _ c (quiet-trouble _) e
      on_one (Unset ∷ rest) e = never _ c (quiet-trouble _) e
      on_one (Number z ∷ rest) e = amount-stop z rest c (numbered z) refl (bind-first (amount_at by_meaning m (numbered z)) _ c e)
      on_one (Truth b ∷ rest) e = never _ c (quiet-trouble _) e
      on_one (Link n ∷ rest) e = never _ c (quiet-trouble _) e

  asks-flag : (f : Frame) (t : Stack) (c : Stop) → ask f t Truth (flag_at by_meaning m) ≡ Err (Stopped c) → Holds m limit Flag t.cells c
  asks-flag f t c e = on_one t.cells (bind-stop (holds f 1 t.cells) _ c (quiet-holds f 1 t.cells) e).2
    where
      on_one : (cells : List Cell) → one cells (λ x rest. bind (number x) (λ z. bind (flag_at by_meaning m (numbered z)) (λ r. Ok (next (stack (t.counter + 1) t.base (Truth r.0 ∷ rest)) r.1)))) ≡ Err (Stopped c) → Holds m limit Flag cells c
      on_one [] e = never _ c (quiet-trouble _) e
      on_one (Unset ∷ rest) e = never _ c (quiet-trouble _) e
      on_one (Number z ∷ rest) e = flag-stop z rest c (numbered z) refl (bind-first (flag_at by_meaning m (numbered z)) _ c e)
      on_one (Truth b ∷ rest) e = never _ c (quiet-trouble _) e
      on_one (Link n ∷ rest) e = never _ c (quiet-trouble _) e

  posts : (f : Frame) (t : Stack) (c : Stop) → post by_meaning f m t ≡ Err (Stopped c) → Holds m limit Post t.cells c
  posts f t c e = on-two t.cells (bind-stop (holds f 2 t.cells) _ c (quiet-holds f 2 t.cells) e).2
    where
      on-two : (cells : List Cell) → two cells (λ a b rest. bind (numbers a b) (λ p. bind (post_at by_meaning m p.1 (numbered p.0)) (λ after. Ok (next (stack (t.counter + 1) t.base rest) after)))) ≡ Err (Stopped c) → Holds m limit Post cells c
      on-two [] e = never _ c (quiet-trouble _) e
      on-two (x ∷ []) e = never _ c (quiet-trouble _) e
      on-two (Number v ∷ Number a ∷ rest) e = post-stop a v rest c (numbered a) refl (bind-first (post_at by_meaning m v (numbered a)) _ c e)
      on-two (Unset ∷ Unset ∷ rest) e = never _ c (quiet-trouble _) e
      on-two (Unset ∷ Number a ∷ rest) e = never _ c (quiet-trouble _) e
      on-two (Unset ∷ Truth a ∷ rest) e = never _ c (quiet-trouble _) e
      on-two (Unset ∷ Link a ∷ rest) e = never _ c (quiet-trouble _) e
      on-two (Number v ∷ Unset ∷ rest) e = never _ c (quiet-trouble _) e
      on-two (Number v ∷ Truth a ∷ rest) e = never _ c (quiet-trouble _) e
      on-two (Number v ∷ Link a ∷ rest) e = never _ c (quiet-trouble _) e
      on-two (Truth v ∷ Unset ∷ rest) e = never _ c (quiet-trouble _) e
      on-two (Truth v ∷ Number a ∷ rest) e = never _ c (quiet-trouble _) e
      on-two (Truth v ∷ Truth a ∷ rest) e = never _ c (quiet-trouble _) e
      on-two (Truth v ∷ Link a ∷ rest) e = never _ c (quiet-trouble _) e
      on-two (Link v ∷ Unset ∷ rest) e = never _ c (quiet-trouble _) e
      on-two (Link v ∷ Number a ∷ rest) e = never _ c (quiet-trouble _) e
      on-two (Link v ∷ Truth a ∷ rest) e = never _ c (quiet-trouble _) e
      on-two (Link v ∷ Link a ∷ rest) e = never _ c (quiet-trouble _) e

  quiet-ends-void : (t : ValueType) → Quiet (ends_void t)
  quiet-ends-void Void = quiet_ok _
  quiet-ends-void Int = quiet-trouble _
  quiet-ends-void Truths = quiet-trouble _

  quiet-ends-with : (t : ValueType) (v : Value) → Quiet (ends_with t v)
  quiet-ends-with Void v = quiet-trouble _
  quiet-ends-with Int (vals.Number z) = quiet_ok _
  quiet-ends-with Int (vals.Truth b) = quiet-trouble _
  quiet-ends-with Truths (vals.Number z) = quiet-trouble _
  quiet-ends-with Truths (vals.Truth b) = quiet_ok _

  carry-stop : (i : Instruction) (result : ValueType) (f : Frame) (t : Stack) (c : Stop) → carry by_meaning limit i result f m t ≡ Err (Stopped c) → Holds m limit i t.cells c
  carry-stop (Local l) result f t c e = local-stop l f t c (bind-first (carry_local limit l f t) _ c e)
  carry-stop Amount result f t c e = asks-amount f t c e
  carry-stop Flag result f t c e = asks-flag f t c e
  carry-stop Post result f t c e = posts f t c e
  carry-stop End result f t c e = never _ c (quiet_bind (ends_void result) _ (quiet-ends-void result) (λ _. quiet_ok _)) e
  carry-stop EndValue result f t c e =
      never _ c
      (quiet_bind (holds f 1 t.cells) _ (quiet-holds f 1 t.cells)
      (λ _. quiet_one t.cells _ (λ x rest. quiet_bind (value x) _ (quiet-value x) (λ v. quiet_bind (ends_with result v) _ (quiet-ends-with result v) (λ w. quiet_ok _)))))
      e

pub stopped-for-a-cause : StoppedForACause
stopped-for-a-cause words header limit m t c e =
    let i = bind-stop (fetched words header t.counter) _ c (quiet-fetched words header t.counter) e in
    let f = bind-stop (frame (cell_at t.cells) t.base (length t.cells)) _ c (quiet_frame (cell_at t.cells) t.base (length t.cells)) i.2 in
    (i.0, i.1, carry-stop m limit i.0 header.result f.0 t c f.2)
