-- A call's steps come to what calling comes to, however deep calls may nest. Assumes nothing.
use Rattle.std.proofs.Common.{◌≡◌, ℕ, zero, suc, ◌+◌, ◌-◌, ◌≤◌, Bool, true, false, cond, eqb, List, [], ◌∷◌, ◌++◌, map, length, get_or, take, drop, replicate, Some, None, Ok, Option, Result, sym, refl, ap, ◌∙◌, arith, length-append, take-append-drop}
use lib.ListN.{length-map, length-replicate}
use lib.Seq.{drop-append_seam}
use Rattle.std.proofs.lemmas.List.{append_assoc}
use Rattle.std.proofs.lemmas.Bool.{eqb-true}
use Rattle.language.specs.declared.faults.Halt.{Halt}
use Rattle.language.specs.declared.values.Value.{Value}
use Rattle.language.specs.declared.values.Value.TheVariants as vals
use Rattle.language.specs.declared.values.ValueType.{ValueType}
use Rattle.language.specs.declared.values.ValueType.TheVariants.{Void, Int, Bool as Truths}
use Rattle.image.specs.declared.instruction.Entry.{Entry}
use Rattle.image.specs.declared.instruction.Local.TheVariants.{Call, Return, ReturnValue}
use Rattle.image.specs.declared.instruction.Instruction.TheVariants as instructions
use Rattle.machine.specs.declared.cells.Cell.{Cell}
use Rattle.machine.specs.declared.cells.Cell.TheVariants.{Unset, Link}
use Rattle.machine.specs.Cells.{bind, cell_of, link, present, value, times}
use Rattle.machine.specs.Frames.{frame, caller, four_links, present_at, value_at as value_in, arguments}
use Rattle.stack.specs.Stack.{Stack, stack, Went, next, cell_at, put_at, holds, room, onward, framed, below}
use Rattle.rules.specs.Resolved.{Function, Functions, Actions, Ending}
use Rattle.rules.specs.Resolved.Function.{function}
use Rattle.rules.specs.Resolved.Functions.{no_functions, more}
use Rattle.rules.specs.Translate.{end_actions, end_ending, end_function, end_functions}
use Rattle.rules.specs.Evaluate.{Slots, Env, Eval, done, stopped, trouble, too_deep, and_then, back_under, leaving, given, frame_for, eval_body, invoked, numbered_function, calls_to}
use Rattle.theory.proofs.Standing.{Fetches, CallIn, returning}
use Rattle.theory.proofs.Functions.{JumpsPast, BodyIn, BodiesIn}
use Rattle.theory.proofs.Represent.{Bone, Skeleton, Fits, one, flat, base_of, frame_of, slot_cell, stacked, links, front, length-stacked, length-flat, stacked-append, at-stacked, set-stacked, at_here, at_under, set_here, set-under, flat-front, fits-back, fits-drop, fits-rest, frame-there, caller-link, back-link}
use Rattle.theory.proofs.Leads.{Setting, step_of, Leads, leads-on, here, After, Comes, Arrives, conf, value_at, trouble-comes, deep-comes, done-comes, more-comes, then-comes, room-comes}
use Rattle.theory.proofs.Steps.{value_cell, holds-there, step-at}
use Rattle.theory.proofs.Terms.{push_all, opened, Deep, CallsCome, actions-come, ending-comes}

-- arguments are slots that are set
pushed-stacked : (vs : List Value) (w rest : List Cell) → push_all vs w ++ rest ≡ stacked (map Some vs) (w ++ rest)
pushed-stacked [] w rest = refl
pushed-stacked (v ∷ vs) w rest = pushed-stacked vs (cell_of v ∷ w) rest

-- a new frame's slots: its arguments, and over them the unset ones
stacked-both : (f g : Slots) (rest : List Cell) → stacked (f ++ g) rest ≡ stacked g (stacked f rest)
stacked-both [] g rest = refl
stacked-both (v ∷ f) g rest = stacked-both f g (slot_cell v ∷ rest)

unset-shift : (n : ℕ) (rest : List Cell) → replicate n Unset ++ Unset ∷ rest ≡ Unset ∷ (replicate n Unset ++ rest)
unset-shift zero rest = refl
unset-shift (suc n) rest = ap {B = List Cell} (λ l. Unset ∷ l) (unset-shift n rest)

pub stacked-unset : (n : ℕ) (rest : List Cell) → stacked (replicate n None) rest ≡ replicate n Unset ++ rest
stacked-unset zero rest = refl
stacked-unset (suc n) rest = stacked-unset n (Unset ∷ rest) ∙ unset-shift n rest

-- values stand from a place on
abbrev Reads : (ℕ → Cell) → ℕ → List Value → Type 0
Reads read k [] = Unit {0}
Reads read k (v ∷ vs) = (read k ≡ cell_of v) × Reads read (k + 1) vs

reads-stacked : (cells : List Cell) (vs : List Value) (rest : List Cell) (k : ℕ) → cells ≡ stacked (map Some vs) rest → k ≡ length rest → Reads (cell_at cells) k vs
reads-stacked cells [] rest k is e = tt
reads-stacked cells (v ∷ vs) rest k is e = (
  ap (λ l. cell_at l k) is ∙ at-stacked (map Some vs) (cell_of v ∷ rest) k (omega arith) ∙ at_here (cell_of v) rest k e,
  reads-stacked cells vs (cell_of v ∷ rest) (k + 1) is (omega arith),
)

present-cell : (v : Value) → present (cell_of v) ≡ Ok tt
present-cell (vals.Number z) = refl
present-cell (vals.Truth b) = refl

-- so they can be taken as arguments
all-present : (read : ℕ → Cell) (vs : List Value) (k : ℕ) → Reads read k vs → (r : ℕ) × (times (length vs) (present_at read) k ≡ Ok r)
all-present read [] k h = (k, refl)
all-present read (v ∷ vs) k h =
    let ih = all-present read vs (k + 1) h.1 in (
      ih.0,
      ap (λ c. bind (bind (present c) (λ _. Ok (k + 1))) (times (length vs) (present_at read))) h.0
          ∙ ap (λ r. bind (bind r (λ _. Ok (k + 1))) (times (length vs) (present_at read))) (present-cell v)
          ∙ ih.1,
    )

all-values : (read : ℕ → Cell) (vs : List Value) (k : ℕ) → Reads read k vs → (r : ℕ) × (times (length vs) (value_in read) k ≡ Ok r)
all-values read [] k h = (k, refl)
all-values read (v ∷ vs) k h =
    let ih = all-values read vs (k + 1) h.1 in (
      ih.0,
      ap (λ c. bind (bind (value c) (λ _. Ok (k + 1))) (times (length vs) (value_in read))) h.0
          ∙ ap (λ r. bind (bind r (λ _. Ok (k + 1))) (times (length vs) (value_in read))) (value_cell v)
          ∙ ih.1,
    )

taken : (read : ℕ → Cell) (vs : List Value) (k : ℕ) → Reads read k vs → (r : ℕ) × (arguments read k (length vs) ≡ Ok r)
taken read vs k h =
    let a = all-present read vs k h in
    let b = all-values read vs k h in
    (b.0, ap (λ r. bind r (λ _. times (length vs) (value_in read) k)) a.1 ∙ b.1)

-- four links under slots, read and filled in
module _ (f : Slots) (a b c d : ℕ) (rest : List Cell) (k : ℕ) (e : k ≡ length rest) where
  abbrev four : List Cell
  four = Link a ∷ Link b ∷ Link c ∷ Link d ∷ rest

  four-first : cell_at (stacked f four) k ≡ Link d
  four-first =
      at-stacked f four k (omega arith)
      ∙ at_under (Link a) (Link b ∷ Link c ∷ Link d ∷ rest) k (omega arith)
      ∙ at_under (Link b) (Link c ∷ Link d ∷ rest) k (omega arith)
      ∙ at_under (Link c) (Link d ∷ rest) k (omega arith)
      ∙ at_here (Link d) rest k e

  four-second : cell_at (stacked f four) (k + 1) ≡ Link c
  four-second =
      at-stacked f four (k + 1) (omega arith)
      ∙ at_under (Link a) (Link b ∷ Link c ∷ Link d ∷ rest) (k + 1) (omega arith)
      ∙ at_under (Link b) (Link c ∷ Link d ∷ rest) (k + 1) (omega arith)
      ∙ at_here (Link c) (Link d ∷ rest) (k + 1) (omega arith)

  four-third : cell_at (stacked f four) (k + 2) ≡ Link b
  four-third =
      at-stacked f four (k + 2) (omega arith)
      ∙ at_under (Link a) (Link b ∷ Link c ∷ Link d ∷ rest) (k + 2) (omega arith)
      ∙ at_here (Link b) (Link c ∷ Link d ∷ rest) (k + 2) (omega arith)

  four-fourth : cell_at (stacked f four) (k + 3) ≡ Link a
  four-fourth = at-stacked f four (k + 3) (omega arith) ∙ at_here (Link a) (Link b ∷ Link c ∷ Link d ∷ rest) (k + 3) (omega arith)

  four-read : four_links (cell_at (stacked f four)) k ≡ Ok a
  four-read =
      λ i. bind (link (four-first i)) (λ _. bind (link (four-second i)) (λ _. bind (link (four-third i)) (λ _. link (four-fourth i))))

  four-filled : (x y : ℕ) → put_at (put_at (stacked f four) (k + 2) (Link x)) (k + 3) (Link y) ≡ stacked f (Link y ∷ Link x ∷ Link c ∷ Link d ∷ rest)
  four-filled x y =
      ap (λ l. put_at l (k + 3) (Link y))
      (set-stacked f four (k + 2) (Link x) (omega arith)
      ∙ ap (stacked f)
      (set-under (Link a) (Link b ∷ Link c ∷ Link d ∷ rest) (k + 2) (Link x) (omega arith)
      ∙ ap {B = List Cell} (λ l. Link a ∷ l) (set_here (Link b) (Link c ∷ Link d ∷ rest) (k + 2) (Link x) (omega arith))))
      ∙ set-stacked f (Link a ∷ Link x ∷ Link c ∷ Link d ∷ rest) (k + 3) (Link y) (omega arith)
      ∙ ap (stacked f) (set_here (Link a) (Link x ∷ Link c ∷ Link d ∷ rest) (k + 3) (Link y) (omega arith))

-- the bone of a called function's frame: under it lie the caller's working cells and the frames between
abbrev callee : ℕ → ℕ → Skeleton → ℕ → List Cell → Env → Bone
callee slots back sk h w env = record { slots = slots; back = back; caller = base_of sk; under = w ++ front h sk env }

-- the frame that a function works in has gone from the chain
abbrev tail_of : Env → Env
tail_of [] = []
tail_of (f ∷ env) = env

module _ (b : Bone) (sk : Skeleton) (h : ℕ) (w : List Cell) {env : Env} (fits : Fits (b ∷ sk) env) where
  -- what lies under the called function's frame is the caller's stack, whatever the chain has become
  under-is : (d : Env) → (w ++ front h (b ∷ sk) env) ++ flat (drop h (b ∷ sk)) d ≡ w ++ flat (b ∷ sk) (take h env ++ d)
  under-is d = append_assoc w (front h (b ∷ sk) env) (flat (drop h (b ∷ sk)) d) ∙ ap (λ l. w ++ l) (sym (flat-front h d fits))

  under-now : (w ++ front h (b ∷ sk) env) ++ flat (drop h (b ∷ sk)) (drop h env) ≡ w ++ flat (b ∷ sk) env
  under-now = under-is (drop h env) ∙ ap (λ e. w ++ flat (b ∷ sk) e) (take-append-drop h env)

  base-is : (slots back : ℕ) (d : Env) → Fits (drop h (b ∷ sk)) d → base_of (callee slots back (b ∷ sk) h w env ∷ drop h (b ∷ sk)) ≡ length (w ++ flat (b ∷ sk) (take h env ++ d))
  base-is slots back d k =
      let n = ap length (under-is d) in
      omega (arith, n, length-append (w ++ front h (b ∷ sk) env) (flat (drop h (b ∷ sk)) d), length-flat k)

  -- the stack of a new frame over arguments
  new-frame : (k m o start : ℕ) (vs : List Value) (cells : List Cell) → cells ≡ stacked (map Some vs) (Link 0 ∷ Link 0 ∷ Link (base_of (b ∷ sk)) ∷ Link (base_of (drop h (b ∷ sk))) ∷ (w ++ flat (b ∷ sk) env)) → stack start (length (w ++ flat (b ∷ sk) env)) (framed (record { start = start; parameters = m; others = o }) (length (w ++ flat (b ∷ sk) env)) (stack k (base_of (b ∷ sk)) cells)) ≡ conf start (callee (m + o) (k + 1) (b ∷ sk) h w env ∷ drop h (b ∷ sk)) [] (frame_for vs o ∷ drop h env)
  new-frame k m o start vs cells is =
      let rest = w ++ flat (b ∷ sk) env in
      let access = base_of (drop h (b ∷ sk)) in
      let base : length rest ≡ base_of (callee (m + o) (k + 1) (b ∷ sk) h w env ∷ drop h (b ∷ sk)) =
      sym (base-is (m + o) (k + 1) (drop h env) (fits-drop h fits) ∙ ap (λ e. length (w ++ flat (b ∷ sk) e)) (take-append-drop h env)) in
      let L = λ (l : List Cell). Link (m + o) ∷ Link (k + 1) ∷ Link (base_of (b ∷ sk)) ∷ Link access ∷ l in
      let under = (w ++ front h (b ∷ sk) env) ++ flat (drop h (b ∷ sk)) (drop h env) in
      let new : replicate o Unset ++ put_at (put_at cells (length rest + 2) (Link (k + 1))) (length rest + 3) (Link (m + o)) ≡ stacked (frame_for vs o) (L under) =
      ap (λ l. replicate o Unset ++ put_at (put_at l (length rest + 2) (Link (k + 1))) (length rest + 3) (Link (m + o))) is
      ∙ ap (λ l. replicate o Unset ++ l) (four-filled (map Some vs) 0 0 (base_of (b ∷ sk)) access rest (length rest) refl (k + 1) (m + o))
      ∙ ap (λ l. replicate o Unset ++ stacked (map Some vs) (L l)) (sym under-now)
      ∙ sym (stacked-unset o (stacked (map Some vs) (L under)))
      ∙ sym (stacked-both (map Some vs) (replicate o None) (L under)) in
      λ i. stack start (base i) (new i)

module _ {S : Type 0} (x : Setting S) (b : Bone) (sk : Skeleton) (h : ℕ) (w : List Cell) {env : Env} (fits : Fits (b ∷ sk) env) (s : S) where
  -- a call's step: a new frame over the arguments
  call_step : (k q a m o : ℕ) (vs : List Value) → length vs ≡ m → Fetches x.program k (instructions.Local (Call (record { start = a + 1; parameters = m; others = o }))) q → step_of x s (conf k (b ∷ sk) (push_all vs (opened (b ∷ sk) h w)) env) ≡ onward s (room x.limit o (push_all vs (opened (b ∷ sk) h w) ++ flat (b ∷ sk) env) (Ok (conf (a + 1) (callee (m + o) (k + 1) (b ∷ sk) h w env ∷ drop h (b ∷ sk)) [] (frame_for vs o ∷ drop h env))))
  call_step k q a m o vs n f =
      let W = push_all vs (opened (b ∷ sk) h w) in
      let t = conf k (b ∷ sk) W env in
      let rest = w ++ flat (b ∷ sk) env in
      let L = Link 0 ∷ Link 0 ∷ Link (base_of (b ∷ sk)) ∷ Link (base_of (drop h (b ∷ sk))) ∷ rest in
      let is : t.cells ≡ stacked (map Some vs) L = pushed-stacked vs (opened (b ∷ sk) h w) (flat (b ∷ sk) env) in
      let size : length t.cells ≡ length rest + 4 + m =
      omega (arith, n, ap length is, length-stacked (map Some vs) L, length-map vs (λ (v : Value). Some v)) in
      let E : Entry = record { start = a + 1; parameters = m; others = o } in
      let read = cell_at t.cells in
      let to = λ (base : ℕ). room x.limit o t.cells (Ok (stack (a + 1) base (framed E base t))) in
      let reads = taken read vs (length rest + 4) (reads-stacked t.cells vs L (length rest + 4) is (omega arith)) in
      let args : arguments read (length rest + 4) m ≡ Ok reads.0 = ap (arguments read (length rest + 4)) (sym n) ∙ reads.1 in
      let wide : m + 4 ≤ length W = omega (arith, size, length-append W (flat (b ∷ sk) env), length-append w (flat (b ∷ sk) env)) in
      let base₁ : length t.cells - (m + 4) ≡ length rest = omega arith in
      let base₂ : length t.cells - m ≡ length rest + 4 = omega arith in
      let four : four_links read (length rest) ≡ Ok 0 =
      ap (λ l. four_links (cell_at l) (length rest)) is ∙ four-read (map Some vs) 0 0 (base_of (b ∷ sk)) (base_of (drop h (b ∷ sk))) rest (length rest) refl in
      step-at x f W s fits
      ∙ ap
      (λ r. onward s (bind r (λ _. bind (four_links read (length t.cells - (m + 4))) (λ _. bind (arguments read (length t.cells - m) m) (λ _. to (length t.cells - (m + 4)))))))
      (holds-there (m + 4) W fits wide)
      ∙ ap (λ base. onward s (bind (four_links read base) (λ _. bind (arguments read (length t.cells - m) m) (λ _. to base)))) base₁
      ∙ ap (λ from. onward s (bind (four_links read (length rest)) (λ _. bind (arguments read from m) (λ _. to (length rest))))) base₂
      ∙ ap (λ r. onward s (bind r (λ _. bind (arguments read (length rest + 4) m) (λ _. to (length rest))))) four
      ∙ ap (λ r. onward s (bind r (λ _. to (length rest)))) args
      ∙ ap (λ u. onward s (room x.limit o t.cells (Ok u))) (new-frame b sk h w fits k m o (a + 1) vs t.cells is)

-- from the called function's frame back to the caller's
module _ (b : Bone) (sk : Skeleton) (h : ℕ) (w : List Cell) {env : Env} (fits : Fits (b ∷ sk) env) (slots back : ℕ) (p : List Cell) {f : Slots} {d : Env} (fits' : Fits (callee slots back (b ∷ sk) h w env ∷ drop h (b ∷ sk)) (f ∷ d)) where
  abbrev mine : Skeleton
  mine = callee slots back (b ∷ sk) h w env ∷ drop h (b ∷ sk)

  abbrev cells : List Cell
  cells = p ++ flat mine (f ∷ d)

  abbrev above : List Cell
  above = p ++ stacked f (links (callee slots back (b ∷ sk) h w env) (base_of (drop h (b ∷ sk))) [])

  cells_are : cells ≡ above ++ (w ++ flat (b ∷ sk) (take h env ++ d))
  cells_are =
      let L = links (callee slots back (b ∷ sk) h w env) (base_of (drop h (b ∷ sk))) in
      ap (λ l. p ++ stacked f (L l)) (under-is b sk h w fits d)
      ∙ ap (λ l. p ++ l) (stacked-append f (L []) (w ++ flat (b ∷ sk) (take h env ++ d)))
      ∙ sym (append_assoc p (stacked f (L [])) (w ++ flat (b ∷ sk) (take h env ++ d)))

  caller-fits : Fits (b ∷ sk) (take h env ++ d)
  caller-fits = fits-back h d fits (fits-rest fits')

  base_there : base_of mine ≡ length (w ++ flat (b ∷ sk) (take h env ++ d))
  base_there = base-is b sk h w fits slots back d (fits-rest fits')

  caller-there : caller (cell_at cells) (frame_of mine) ≡ Ok (frame_of (b ∷ sk))
  caller-there =
      ap (λ c. bind (link c) (λ base. frame (cell_at cells) base (base_of mine))) (caller-link cells p refl fits')
      ∙ frame-there cells (above ++ w) (cells_are ∙ sym (append_assoc above w (flat (b ∷ sk) (take h env ++ d)))) caller-fits (base_of mine)
      (omega (arith, base_there, length-append w (flat (b ∷ sk) (take h env ++ d)), length-flat caller-fits))

  back-there : link (cell_at cells (base_of mine + 2)) ≡ Ok back
  back-there = ap link (back-link cells p refl fits')

  below-there : below (base_of mine) cells ≡ w ++ flat (b ∷ sk) (take h env ++ d)
  below-there =
      let rest = w ++ flat (b ∷ sk) (take h env ++ d) in
      let n : length cells - base_of mine ≡ length above = omega (arith, ap length cells_are, length-append above rest, base_there) in
      ap (λ j. drop j cells) n ∙ ap (drop (length above)) cells_are ∙ drop-append_seam above rest

module _ {S : Type 0} (x : Setting S) (b : Bone) (sk : Skeleton) (h : ℕ) (w : List Cell) {env : Env} (fits : Fits (b ∷ sk) env) (slots back : ℕ) (s : S) where
  return-step : (k q : ℕ) → Fetches x.program k (instructions.Local Return) q → (e : Env) → Fits (callee slots back (b ∷ sk) h w env ∷ drop h (b ∷ sk)) e → step_of x s (conf k (callee slots back (b ∷ sk) h w env ∷ drop h (b ∷ sk)) [] e) ≡ Ok (next (conf back (b ∷ sk) w (take h env ++ tail_of e)) s)
  return-step k q f [] fits' = elim fits' [ ]
  return-step k q f (g ∷ d) fits' =
      let mine = callee slots back (b ∷ sk) h w env ∷ drop h (b ∷ sk) in
      let cells = flat mine (g ∷ d) in
      step-at x f [] s fits'
      ∙ ap
      (λ r. onward s (bind r (λ g. bind (link (cell_at cells (base_of mine + 2))) (λ next. Ok (stack next g.base (below (base_of mine) cells))))))
      (caller-there b sk h w fits slots back [] fits')
      ∙ ap (λ r. onward s (bind r (λ next. Ok (stack next (base_of (b ∷ sk)) (below (base_of mine) cells))))) (back-there b sk h w fits slots back [] fits')
      ∙ ap {B = Result (Went S) Halt} (λ l. Ok (next (stack back (base_of (b ∷ sk)) l) s)) (below-there b sk h w fits slots back [] fits')

  return-value-step : (k q : ℕ) → Fetches x.program k (instructions.Local ReturnValue) q → (v : Value) (e : Env) → Fits (callee slots back (b ∷ sk) h w env ∷ drop h (b ∷ sk)) e → step_of x s (conf k (callee slots back (b ∷ sk) h w env ∷ drop h (b ∷ sk)) (cell_of v ∷ []) e) ≡ Ok (next (conf back (b ∷ sk) (cell_of v ∷ w) (take h env ++ tail_of e)) s)
  return-value-step k q f v [] fits' = elim fits' [ ]
  return-value-step k q f v (g ∷ d) fits' =
      let mine = callee slots back (b ∷ sk) h w env ∷ drop h (b ∷ sk) in
      let cells = cell_of v ∷ flat mine (g ∷ d) in
      let to = λ (next : ℕ) (base : ℕ). bind (value (cell_of v)) (λ v. Ok (stack next base (cell_of v ∷ below (base_of mine) cells))) in
      step-at x f (cell_of v ∷ []) s fits'
      ∙ ap
      (λ r. onward s (bind r (λ g. bind (link (cell_at cells (base_of mine + 2))) (λ next. bind (holds (frame_of mine) 1 cells) (λ _. to next g.base)))))
      (caller-there b sk h w fits slots back (cell_of v ∷ []) fits')
      ∙ ap
      (λ r. onward s (bind r (λ next. bind (holds (frame_of mine) 1 cells) (λ _. to next (base_of (b ∷ sk))))))
      (back-there b sk h w fits slots back (cell_of v ∷ []) fits')
      ∙ ap (λ r. onward s (bind r (λ _. to back (base_of (b ∷ sk))))) (holds-there 1 (cell_of v ∷ []) fits' (omega arith))
      ∙ ap (λ r. onward s (bind r (λ v. Ok (stack back (base_of (b ∷ sk)) (cell_of v ∷ below (base_of mine) cells))))) (value_cell v)
      ∙ ap {B = Result (Went S) Halt} (λ l. Ok (next (stack back (base_of (b ∷ sk)) (cell_of v ∷ l)) s)) (below-there b sk h w fits slots back (cell_of v ∷ []) fits')

-- where a called function's result arrives: with the caller, at the code after the call
abbrev returned : ℕ → Skeleton → ℕ → List Cell → Env → Option Value → Env → Stack
returned back sk h w env v e = value_at back sk w v (take h env ++ tail_of e)

module _ {S : Type 0} (x : Setting S) {D : Type 0} (b : Bone) (sk : Skeleton) (h : ℕ) (w : List Cell) {env : Env} (fits : Fits (b ∷ sk) env) (slots back : ℕ) where
  -- a return, where there is a value just if the type is not void
  given-comes : (k q : ℕ) (t : ValueType) → Fetches x.program k (instructions.Local (returning t)) q → (v : Option Value) (e : Env) (s : S) → Fits (callee slots back (b ∷ sk) h w env ∷ drop h (b ∷ sk)) e → Comes x D (Arrives (callee slots back (b ∷ sk) h w env ∷ drop h (b ∷ sk)) (returned back (b ∷ sk) h w env)) (given t v e s) s (value_at k (callee slots back (b ∷ sk) h w env ∷ drop h (b ∷ sk)) [] v e)
  given-comes k q Void f None e s fits' = more-comes (return-step x b sk h w fits slots back s k q f e fits') (done-comes None fits')
  given-comes k q Void f (Some v) e s fits' = trouble-comes
  given-comes k q Int f None e s fits' = trouble-comes
  given-comes k q Int f (Some v) e s fits' = more-comes (return-value-step x b sk h w fits slots back s k q f v e fits') (done-comes (Some v) fits')
  given-comes k q Truths f None e s fits' = trouble-comes
  given-comes k q Truths f (Some v) e s fits' = more-comes (return-value-step x b sk h w fits slots back s k q f v e fits') (done-comes (Some v) fits')

  -- the called function's frame goes from the chain, and the frames before it are put back
  back-comes : {D' : Type 0} {r : Eval S (Option Value)} {s : S} {t : Stack} → (D → D') → Comes x D (Arrives (callee slots back (b ∷ sk) h w env ∷ drop h (b ∷ sk)) (returned back (b ∷ sk) h w env)) r s t → Comes x D' (Arrives (b ∷ sk) (value_at back (b ∷ sk) w)) (back_under (take h env) (and_then r leaving)) s t
  back-comes {D'} {r} {s} {t} deeper c = record { leads = go r c.leads }
    where
      go : (r : Eval S (Option Value)) → Leads x (After x D (Arrives (callee slots back (b ∷ sk) h w env ∷ drop h (b ∷ sk)) (returned back (b ∷ sk) h w env)) r) s t → Leads x (After x D' (Arrives (b ∷ sk) (value_at back (b ∷ sk) w)) (back_under (take h env) (and_then r leaving))) s t
      go (done v [] s') l = here tt
      go (done v (f ∷ d) s') l = leads-on l (λ s t q. here (q.0, q.1, fits-back h d fits (fits-rest q.2)))
      go (stopped c p s') l = l
      go trouble l = here tt
      go too_deep l = leads-on l (λ s t q. here (deeper q))

-- jumps past functions change nothing
pub skip-comes : {S A : Type 0} {x : Setting S} {D : Type 0} {K : A → Env → S → S → Stack → Type 0} {r : Eval S A} {s : S} {b : Bone} {sk : Skeleton} {env : Env} (fs : Functions) (p : ℕ) (w : List Cell) → JumpsPast x.program p fs → Fits (b ∷ sk) env → Comes x D K r s (conf (end_functions p fs) (b ∷ sk) w env) → Comes x D K r s (conf p (b ∷ sk) w env)
skip-comes no_functions p w c fits k = k
skip-comes {x} {s} (more f fs) p w c fits k = more-comes (step-at x c.0 w s fits) (skip-comes fs (end_function p f) w c.1 fits k)

module _ {S : Type 0} (x : Setting S) (bodies : BodiesIn x.program) where
  abbrev calls_of : ℕ → ℕ → List Value → Env → S → Eval S (Option Value)
  calls_of n = calls_to x.ops x.program.functions n

  -- one function, called with as many arguments as it has parameters
  function-comes : (n : ℕ) → CallsCome x (calls_of n) n → (k q a h : ℕ) (p : ℕ) (t : ValueType) (m o : ℕ) (inner : Functions) (body : Actions) (end : Ending) → Fetches x.program k (instructions.Local (Call (record { start = a + 1; parameters = m; others = o }))) q → BodyIn x.program (a + 1) (function p t m o inner body end) → (vs : List Value) → length vs ≡ m → (b : Bone) (sk : Skeleton) (w : List Cell) (env : Env) (s : S) → Fits (b ∷ sk) env → Comes x (Deep x (b ∷ sk) (suc n)) (Arrives (b ∷ sk) (value_at (k + 1) (b ∷ sk) w)) (back_under (take h env) (and_then (eval_body x.ops (calls_of n) t body end (frame_for vs o ∷ drop h env) s) leaving)) s (conf k (b ∷ sk) (push_all vs (opened (b ∷ sk) h w)) env)
  function-comes n calls_come k q a h p t m o inner body end f c vs e b sk w env s fits =
      let bone = callee (m + o) (k + 1) (b ∷ sk) h w env in
      let chain = drop h (b ∷ sk) in
      let size : length (frame_for vs o) ≡ m + o =
      omega (arith, e, length-append (map Some vs) (replicate o None), length-map vs (λ (v : Value). Some v), length-replicate {A = Option Value} o None) in
      let fits' : Fits (bone ∷ chain) (frame_for vs o ∷ drop h env) = one size (fits-drop h fits) in
      let base : base_of (bone ∷ chain) ≡ length (w ++ flat (b ∷ sk) env) =
      base-is b sk h w fits (m + o) (k + 1) (drop h env) (fits-drop h fits) ∙ ap (λ e. length (w ++ flat (b ∷ sk) e)) (take-append-drop h env) in
      let higher : base_of (b ∷ sk) + 4 ≤ base_of (bone ∷ chain) = omega (arith, base, length-append w (flat (b ∷ sk) env), length-flat fits) in
      let start = end_functions (a + 1) inner in
      let middle = end_actions start body in
      let last = end_ending middle end in
      room-comes o (conf (a + 1) (bone ∷ chain) [] (frame_for vs o ∷ drop h env)) (call_step x b sk h w fits s k q a m o vs e f)
      (λ _. back-comes x b sk h w fits (m + o) (k + 1) (λ deep. omega (arith, deep, higher))
      (skip-comes inner (a + 1) [] c.0 fits'
      (then-comes (actions-come x (calls_of n) n calls_come bone chain body start c.1 [] (frame_for vs o ∷ drop h env) s fits')
      (λ _ env' s' fits'. then-comes (ending-comes x (calls_of n) n calls_come bone chain end middle c.2 [] env' s' fits')
      (λ v env' s' fits'. given-comes x b sk h w fits (m + o) (k + 1) last p t c.3 v env' s' fits')))))

  -- a call of a function, if there is one with that number
  invoked-comes : (n : ℕ) → CallsCome x (calls_of n) n → (k f q h : ℕ) → CallIn x.program k f q → (vs : List Value) (b : Bone) (sk : Skeleton) (w : List Cell) (env : Env) (s : S) → Fits (b ∷ sk) env → (g : Option Function) → numbered_function x.program.functions f ≡ g → Comes x (Deep x (b ∷ sk) (suc n)) (Arrives (b ∷ sk) (value_at (k + 1) (b ∷ sk) w)) (back_under (take h env) (invoked x.ops (calls_of n) g vs (drop h env) s)) s (conf k (b ∷ sk) (push_all vs (opened (b ∷ sk) h w)) env)
  invoked-comes n calls_come k f q h c vs b sk w env s fits None e = trouble-comes
  invoked-comes n calls_come k f q h c vs b sk w env s fits (Some (function p t m o inner body end)) e = go (eqb (length vs) m) refl
    where
      go : (y : Bool) → eqb (length vs) m ≡ y → Comes x (Deep x (b ∷ sk) (suc n)) (Arrives (b ∷ sk) (value_at (k + 1) (b ∷ sk) w)) (back_under (take h env) (cond y (and_then (eval_body x.ops (calls_of n) t body end (frame_for vs o ∷ drop h env) s) leaving) trouble)) s (conf k (b ∷ sk) (push_all vs (opened (b ∷ sk) h w)) env)
      go true same =
          function-comes n calls_come k q (get_or x.program.entries f 0) h p t m o inner body end
          (c (function p t m o inner body end) e) (bodies f (function p t m o inner body end) e) vs (eqb-true (length vs) m same) b sk w env s fits
      go false same = trouble-comes

  -- calls come to what calling comes to, at every depth
  pub calls-come : (n : ℕ) → CallsCome x (calls_of n) n
  calls-come zero k f q h c vs b sk w env s fits l low = deep-comes (omega arith)
  calls-come (suc n) k f q h c vs b sk w env s fits l low =
      invoked-comes n (calls-come n) k f q h c vs b sk w env s fits (numbered_function x.program.functions f) refl
