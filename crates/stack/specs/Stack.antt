-- The marked machine without what lies above its top: the stack is a list, its top first, and the number of cells only decides whether there is room. The host is a state of any kind that serves. Assumes nothing.
use Rattle.std.specs.Prelude.{ℕ, zero, suc, ◌+◌, ◌-◌, cond, List, [], ◌∷◌, ◌++◌, length, drop, replicate, Some, None, Ok, Err, Option, Result, ◌==◌, nat_le}
use Rattle.language.specs.declared.faults.Halt.{Halt}
use Rattle.language.specs.declared.values.Value.{Value}
use Rattle.language.specs.declared.values.ValueType.{ValueType}
use Rattle.language.specs.declared.values.Operator.{Operator}
use Rattle.language.specs.Operators.{applied, negated}
use Rattle.host.specs.Serves.{Serves, numbered, amount_at, flag_at, post_at}
use Rattle.image.specs.declared.instruction.Header.{Header}
use Rattle.image.specs.declared.instruction.Slot.{Slot}
use Rattle.image.specs.declared.instruction.Entry.{Entry}
use Rattle.image.specs.declared.instruction.Local.{Local}
use Rattle.image.specs.declared.instruction.Local.TheVariants.{PushNumber, PushTruth, Load, Store, Operate, Not, Discard, Jump, JumpIfFalse, Open, Call, Return, ReturnValue}
use Rattle.image.specs.declared.instruction.Instruction.{Instruction}
use Rattle.image.specs.declared.instruction.Instruction.TheVariants as instructions
use Rattle.image.specs.Fetch.{fetched}
use Rattle.machine.specs.declared.cells.Cell.{Cell}
use Rattle.machine.specs.declared.cells.Cell.TheVariants.{Unset, Number, Truth, Link}
use Rattle.machine.specs.declared.frames.Frame.{Frame}
use Rattle.machine.specs.declared.registers.Outcome.{Outcome}
use Rattle.machine.specs.declared.registers.Outcome.TheVariants.{Paused, Finished, Halted}
use Rattle.machine.specs.Cells.{bind, cell_of, link, value, number, numbers, truth, values, no_frame}
use Rattle.machine.specs.Frames.{arguments, caller, four_links, frame, outer, place}
use Rattle.machine.specs.State.{no_room}
use Rattle.machine.specs.Step.{ends_void, ends_with}

-- program counter, base, and the cells below the top, the topmost first
pub record Stack : Type 0 where
  pub counter : ℕ
  pub base : ℕ
  pub cells : List Cell

abbrev pub stack : ℕ → ℕ → List Cell → Stack
stack counter base cells = record { counter = counter; base = base; cells = cells }

-- the cell at a place, which counts from the bottom
abbrev pub cell_at : List Cell → ℕ → Cell
cell_at [] k = Unset
cell_at (c ∷ rest) k = cond (k == length rest) c (cell_at rest k)

-- the cells with another at a place
abbrev pub put_at : List Cell → ℕ → Cell → List Cell
put_at [] k v = []
put_at (c ∷ rest) k v = cond (k == length rest) (v ∷ rest) (c ∷ put_at rest k v)

-- there are so many working cells above the own slots
abbrev pub holds : Frame → ℕ → List Cell → Result (Unit {0}) Halt
holds f n cells = cond (nat_le (f.end + n) (length cells)) (Ok tt) no_frame

-- the topmost cell, and what lies below it
abbrev pub one : {A : Type 0} → List Cell → (Cell → List Cell → Result A Halt) → Result A Halt
one [] k = no_frame
one (c ∷ rest) k = k c rest

-- the two topmost cells, the lower one first, and what lies below them
abbrev pub two : {A : Type 0} → List Cell → (Cell → Cell → List Cell → Result A Halt) → Result A Halt
two [] k = no_frame
two (c ∷ []) k = no_frame
two (c ∷ d ∷ rest) k = k d c rest

-- so many cells more must fit
abbrev pub room : {A : Type 0} → ℕ → ℕ → List Cell → Result A Halt → Result A Halt
room limit n cells r = cond (nat_le (length cells + n) limit) r no_room

-- on to the next code
abbrev pub on_to : Stack → List Cell → Result Stack Halt
on_to t cells = Ok (stack (t.counter + 1) t.base cells)

abbrev pub push : ℕ → Cell → Stack → Result Stack Halt
push limit c t = room limit 1 t.cells (on_to t (c ∷ t.cells))

abbrev pub load : ℕ → Slot → Frame → Stack → Result Stack Halt
load limit slot f t =
    bind (place (cell_at t.cells) f slot) (λ k. bind (value (cell_at t.cells k)) (λ v. push limit (cell_of v) t))

abbrev pub store : Slot → Frame → Stack → Result Stack Halt
store slot f t =
    bind (holds f 1 t.cells)
    (λ _. bind (place (cell_at t.cells) f slot)
    (λ k. one t.cells (λ c rest. bind (value c) (λ v. on_to t (put_at rest k (cell_of v))))))

abbrev pub operate : Operator → Frame → Stack → Result Stack Halt
operate o f t =
    bind (holds f 2 t.cells)
    (λ _. two t.cells (λ a b rest. bind (values a b) (λ p. bind (applied o p.0 p.1) (λ v. on_to t (cell_of v ∷ rest)))))

abbrev pub negate : Frame → Stack → Result Stack Halt
negate f t =
    bind (holds f 1 t.cells)
    (λ _. one t.cells (λ c rest. bind (value c) (λ v. bind (negated v) (λ w. on_to t (cell_of w ∷ rest)))))

abbrev pub discard : Frame → Stack → Result Stack Halt
discard f t = bind (holds f 1 t.cells) (λ _. one t.cells (λ c rest. bind (value c) (λ _. on_to t rest)))

abbrev pub branch : ℕ → Frame → Stack → Result Stack Halt
branch target f t =
    bind (holds f 1 t.cells)
    (λ _. one t.cells (λ c rest. bind (truth c) (λ b. Ok (stack (cond b (t.counter + 1) target) t.base rest))))

abbrev pub open_links : ℕ → ℕ → Frame → Stack → Result Stack Halt
open_links limit hops f t =
    bind (outer hops (cell_at t.cells) f)
    (λ g. room limit 4 t.cells (on_to t (Link 0 ∷ Link 0 ∷ Link t.base ∷ Link g.base ∷ t.cells)))

-- the stack of a new frame whose base is given: return counter and slot count are filled in, and the other slots are unset
abbrev pub framed : Entry → ℕ → Stack → List Cell
framed e base t =
    replicate e.others Unset ++ put_at (put_at t.cells (base + 2) (Link (t.counter + 1))) (base + 3) (Link (e.parameters + e.others))

abbrev pub call_to : ℕ → Entry → Frame → Stack → Result Stack Halt
call_to limit e f t =
    bind (holds f (e.parameters + 4) t.cells)
    (λ _. bind (four_links (cell_at t.cells) (length t.cells - (e.parameters + 4)))
    (λ _. bind (arguments (cell_at t.cells) (length t.cells - e.parameters) e.parameters)
    (λ _. room limit e.others t.cells
    (Ok (stack e.start (length t.cells - (e.parameters + 4)) (framed e (length t.cells - (e.parameters + 4)) t))))))

-- the cells below a base
abbrev pub below : ℕ → List Cell → List Cell
below base cells = drop (length cells - base) cells

abbrev pub give_back : Frame → Stack → Result Stack Halt
give_back f t =
    bind (caller (cell_at t.cells) f)
    (λ g. bind (link (cell_at t.cells (f.base + 2))) (λ next. Ok (stack next g.base (below f.base t.cells))))

abbrev pub give_back_value : Frame → Stack → Result Stack Halt
give_back_value f t =
    bind (caller (cell_at t.cells) f)
    (λ g. bind (link (cell_at t.cells (f.base + 2)))
    (λ next. bind (holds f 1 t.cells)
    (λ _. one t.cells (λ c rest. bind (value c) (λ v. Ok (stack next g.base (cell_of v ∷ below f.base t.cells)))))))

-- an instruction that touches the machine and its cells alone
abbrev pub carry_local : ℕ → Local → Frame → Stack → Result Stack Halt
carry_local limit (PushNumber z) f t = push limit (Number z) t
carry_local limit (PushTruth b) f t = push limit (Truth b) t
carry_local limit (Load slot) f t = load limit slot f t
carry_local limit (Store slot) f t = store slot f t
carry_local limit (Operate o) f t = operate o f t
carry_local limit Not f t = negate f t
carry_local limit Discard f t = discard f t
carry_local limit (Jump target) f t = Ok (stack target t.base t.cells)
carry_local limit (JumpIfFalse target) f t = branch target f t
carry_local limit (Open hops) f t = open_links limit hops f t
carry_local limit (Call entry) f t = call_to limit entry f t
carry_local limit Return f t = give_back f t
carry_local limit ReturnValue f t = give_back_value f t

-- where a step leads: to the next stack and host, or to the end of the run
pub data Went (S : Type 0) : Type 0 where
  next : Stack → S → Went S
  ended : Option Value → Went S

-- the field number on top, what lies below it, and the host's answer as a cell
abbrev pub ask : {S A : Type 0} → Frame → Stack → (A → Cell) → (Result ℕ Halt → Result (A × S) Halt) → Result (Went S) Halt
ask f t to_cell answer =
    bind (holds f 1 t.cells)
    (λ _. one t.cells
    (λ c rest. bind (number c) (λ z. bind (answer (numbered z)) (λ r. Ok (next (stack (t.counter + 1) t.base (to_cell r.0 ∷ rest)) r.1)))))

-- take a value, then an account, and post
abbrev pub post : {S : Type 0} → Serves S → Frame → S → Stack → Result (Went S) Halt
post ops f s t =
    bind (holds f 2 t.cells)
    (λ _. two t.cells
    (λ a b rest. bind (numbers a b) (λ p. bind (post_at ops s p.1 (numbered p.0)) (λ after. Ok (next (stack (t.counter + 1) t.base rest) after)))))

abbrev pub onward : {S : Type 0} → S → Result Stack Halt → Result (Went S) Halt
onward s r = bind r (λ t. Ok (next t s))

-- carry out an instruction, from the own frame
abbrev pub carry : {S : Type 0} → Serves S → ℕ → Instruction → ValueType → Frame → S → Stack → Result (Went S) Halt
carry ops limit (instructions.Local l) result f s t = onward s (carry_local limit l f t)
carry ops limit instructions.Amount result f s t = ask f t Number (amount_at ops s)
carry ops limit instructions.Flag result f s t = ask f t Truth (flag_at ops s)
carry ops limit instructions.Post result f s t = post ops f s t
carry ops limit instructions.End result f s t = bind (ends_void result) (λ _. Ok (ended None))
carry ops limit instructions.EndValue result f s t =
    bind (holds f 1 t.cells) (λ _. one t.cells (λ c rest. bind (value c) (λ v. bind (ends_with result v) (λ w. Ok (ended (Some w))))))

-- one step: a lawful instruction, in a frame below the top
abbrev pub step : {S : Type 0} → Serves S → List ℕ → Header → ℕ → S → Stack → Result (Went S) Halt
step ops words header limit s t =
    bind (fetched words header t.counter)
    (λ i. bind (frame (cell_at t.cells) t.base (length t.cells)) (λ f. carry ops limit i header.result f s t))

-- how many steps were carried out, how it came out, and what stack and host then are
pub record Run (S : Type 0) : Type 0 where
  pub steps : ℕ
  pub outcome : Outcome
  pub stack : Stack
  pub host : S

-- on from a step: an end is a step, a halt is none and names its code's number
abbrev pub then_run : {S : Type 0} → Result (Went S) Halt → Stack → S → (S → Stack → Run S) → Run S
then_run (Ok (next t' s')) t s rest = record { steps = 1 + (rest s' t').steps; outcome = (rest s' t').outcome; stack = (rest s' t').stack; host = (rest s' t').host }
then_run (Ok (ended v)) t s rest = record { steps = 1; outcome = Finished v; stack = t; host = s }
then_run (Err h) t s rest = record { steps = 0; outcome = Halted h t.counter; stack = t; host = s }

-- a run pauses once its allowance is used up
abbrev pub run : {S : Type 0} → Serves S → List ℕ → Header → ℕ → ℕ → S → Stack → Run S
run ops words header limit zero s t = record { steps = 0; outcome = Paused; stack = t; host = s }
run ops words header limit (suc n) s t = then_run (step ops words header limit s t) t s (run ops words header limit n)

-- the stack that a run begins with: the program's frame
abbrev pub beginning : ℕ → Stack
beginning others = stack 1 0 (replicate others Unset ++ Link others ∷ Link 0 ∷ Link 0 ∷ Link 0 ∷ [])
