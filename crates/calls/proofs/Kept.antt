-- What every call keeps: the number of cells, and that a run's top lies within them; and what each keeps but an accepted admit or bring: the words, and the record's knowledge of them. Assumes nothing.
use Rattle.std.proofs.Common.{◌≡◌, ℕ, ◌+◌, ◌≤◌, Bool, true, false, cond, ltb, leb, List, [], ◌∷◌, length, drop, replicate, Ok, Err, Result, sym, refl, ap, ◌∙◌, subst, arith, length-append, length-drop}
use lib.ListN.{length-replicate}
use Rattle.std.proofs.lemmas.Bool.{ltb-false, le-leb}
use Rattle.language.specs.declared.faults.Fault.{Fault}
use Rattle.language.specs.declared.faults.BeginRefusal.{BeginRefusal}
use Rattle.language.specs.declared.faults.BeginRefusal.TheVariants.{CellCount}
use Rattle.host.specs.Meaning.{Meaning}
use Rattle.host.specs.Serves.{by_meaning}
use Rattle.machine.specs.declared.cells.Cell.{Cell}
use Rattle.machine.specs.declared.cells.Cell.TheVariants.{Unset, Link}
use Rattle.machine.specs.declared.registers.Machine.{Machine}
use Rattle.machine.specs.declared.registers.Outcome.{Outcome}
use Rattle.machine.specs.declared.registers.Outcome.TheVariants.{Paused, Finished, Halted}
use Rattle.machine.specs.State.{State, state}
use Rattle.machine.specs.Run.{Run, ran}
use Rattle.machine.specs.Begin as begins
use Rattle.image.specs.declared.instruction.Accepted.{Accepted}
use Rattle.image.specs.Accept as images
use Rattle.stack.specs.Stack.{run, beginning}
use Rattle.stack.specs.Law.{over, whole, stack_of}
use Rattle.stack.proofs.Over.{length_over}
use Rattle.stack.proofs.Runs.{run-of-any-state, beginning-is-the-stacks}
use Rattle.engine.specs.declared.record.Loaded.{Loaded}
use Rattle.engine.specs.declared.record.Stage.{Stage}
use Rattle.engine.specs.declared.record.Stage.TheVariants.{Blank, Ready, Running, Ended}
use Rattle.engine.specs.Calls.{Area, Resumed, area, and_then, written, holding, bringing, loaded, started, beginning as beginning_area, standing, machine_of, went_on, allowed, same_lengths, resumed_from, resuming}
use Rattle.engine.specs.Admit.{admitting, words_of, image_of, known_of}
use Rattle.calls.specs.declared.call.Call.{Call}
use Rattle.calls.specs.declared.call.Call.TheVariants.{Admit, Bring, Begin, Continue, Clear}
use Rattle.calls.specs.declared.call.Answer.{Answer}
use Rattle.calls.specs.declared.call.Answer.TheVariants.{Admitted, Brought, Begun}
use Rattle.calls.specs.Called.{World, Answered, world, Gives, Called, replied, resumed}
use Rattle.calls.specs.History.{Entry, History, taken, puts_image, ends_run, None-of}
use Rattle.calls.proofs.Replies.{err-is-not-ok, refused-changes-nothing, not_taken}

-- whatever area comes out is of this kind
abbrev Out : (Area → Type 0) → Result Area Fault → Type 0
Out P (Ok a) = P a
Out P (Err e) = Unit {0}

module _ (P : Area → Type 0) where
  out-tested : (t : Bool) (x : Result Area Fault) (f : Fault) → Out P x → Out P (cond t x (Err f))
  out-tested true x f h = h
  out-tested false x f h = tt

  out-then : {A : Type 0} (x : Result A Fault) (f : A → Result Area Fault) → ((a : A) → x ≡ Ok a → Out P (f a)) → Out P (and_then x f)
  out-then (Ok a) f h = h a refl
  out-then (Err e) f h = tt

  after-replied : (good : Answer) (x : Result Area Fault) (w : World) (a : Answered) (after : World) → Gives (replied good x w) a after → P w.area → Out P x → P after.area
  after-replied good (Ok b) w a after g p h = subst (λ (z : World). P z.area) (sym g.1) h
  after-replied good (Err e) w a after g p h = subst (λ (z : World). P z.area) (sym g.1) p

-- the same of a continue
abbrev OutResumed : (Area → Type 0) → Result Resumed Fault → Type 0
OutResumed P (Ok r) = P r.area
OutResumed P (Err e) = Unit {0}

module _ (P : Area → Type 0) where
  out-allowed : (x : Result (Unit {0}) Fault) (r : Resumed) → P r.area → OutResumed P (and_then x (λ _. Ok r))
  out-allowed (Ok u) r h = h
  out-allowed (Err e) r h = tt

  after-resumed : (x : Result Resumed Fault) (w : World) (a : Answered) (after : World) → Gives (resumed x w) a after → P w.area → OutResumed P x → P after.area
  after-resumed (Ok r) w a after g p h = subst (λ (z : World). P z.area) (sym g.1) h
  after-resumed (Err e) w a after g p h = subst (λ (z : World). P z.area) (sym g.1) p

-- the program's frame over what lies above it has as many cells as there were
length-frame : (others : ℕ) → length (beginning others).cells ≡ 4 + others
length-frame others =
    omega (arith, length-append (replicate others Unset) (Link others ∷ Link 0 ∷ Link 0 ∷ Link 0 ∷ []), length-replicate others Unset)

pub framed : (others : ℕ) (cells : List Cell) → 4 + others ≤ length cells → length (over (beginning others).cells (drop (4 + others) cells)) ≡ length cells
framed others cells h =
    omega (arith, length_over (beginning others).cells (drop (4 + others) cells), length-drop (4 + others) cells, length-frame others)

-- where a run begins: there is room for the frame, and the state is the frame over what lies above it
pub begun-at : (others : ℕ) (cells : List Cell) (s : State) → begins.begun others cells ≡ Ok s → (4 + others ≤ length cells) × (s ≡ whole (beginning others) (drop (4 + others) cells))
begun-at others cells s e = go (ltb (length cells) (4 + others)) (ltb 65536 (length cells)) (ltb-false (length cells) (4 + others)) e
  where
    go : (x y : Bool) → (x ≡ false → 4 + others ≤ length cells) → cond x (Err CellCount) (cond y (Err CellCount) (Ok (begins.beginning others cells))) ≡ Ok s → (4 + others ≤ length cells) × (s ≡ whole (beginning others) (drop (4 + others) cells))
    go true y h e = absurd (err-is-not-ok e)
    go false true h e = absurd (err-is-not-ok e)
    go false false h e =
        let same : begins.beginning others cells ≡ s = cc in
        (h refl, sym same ∙ beginning-is-the-stacks others cells (h refl))

-- a run's top lies within so many cells
abbrev pub Top : ℕ → Stage → Type 0
Top n Blank = Unit {0}
Top n (Ready l) = Unit {0}
Top n (Running l m) = m.top ≤ n
Top n (Ended l o) = Unit {0}

-- so many cells, and a run's top within them
abbrev pub Numbered : ℕ → Area → Type 0
Numbered n a = (length a.cells ≡ n) × Top n a.stage

-- a stack under what lies above it: its length is at most theirs
under : (s junk : List Cell) → length s ≤ length (over s junk)
under s junk = omega (arith, length_over s junk)

-- how a run leaves the record: its top is within the cells
top-standing : (n : ℕ) (l : Loaded) (o : Outcome) (m : Machine) → m.top ≤ n → Top n (standing l o m)
top-standing n l Paused m h = h
top-standing n l (Finished v) m h = tt
top-standing n l (Halted x k) m h = tt

module _ (n : ℕ) where
  started-numbered : (l : Loaded) (a : Area) (others : ℕ) → length a.cells ≡ n → (x : Result State BeginRefusal) → begins.begun others a.cells ≡ x → Out (Numbered n) (started l a x)
  started-numbered l a others h (Ok s) e =
      let q = begun-at others a.cells s e in
      let junk = drop (4 + others) a.cells in
      subst (λ (z : State). Numbered n (record { words = a.words; cells = z.cells; stage = Running l (machine_of z) })) (sym q.1)
      (framed others a.cells q.0 ∙ h, subst (λ k. length (beginning others).cells ≤ k) (framed others a.cells q.0 ∙ h) (under (beginning others).cells junk))
  started-numbered l a others h (Err x) e = tt

  ran-numbered : (l : Loaded) (a : Area) (m : Machine) (k : ℕ) (h : Meaning) → length a.cells ≡ n → m.top ≤ n → Numbered n (went_on l a (ran a.words l.image.header k h (state m a.cells))).area
  ran-numbered l a m k h e t =
      let shows = run-of-any-state a.words l.image.header k h (state m a.cells) (subst (λ j. m.top ≤ j) (sym e) t) in
      let r = run by_meaning a.words l.image.header (length a.cells) k h (stack_of (state m a.cells)) in
      subst (λ (q : Run). Numbered n (went_on l a q).area) (sym shows.1)
      (shows.2 ∙ e, top-standing n l r.outcome _ (subst (λ j. length r.stack.cells ≤ j) (shows.2 ∙ e) (under r.stack.cells shows.0)))

  resumed-numbered : (stage : Stage) (k : ℕ) (m : Meaning) (a : Area) → length a.cells ≡ n → Top n a.stage → Top n stage → OutResumed (Numbered n) (resumed_from stage k m a)
  resumed-numbered Blank k m a e h t = tt
  resumed-numbered (Ready l) k m a e h t = tt
  resumed-numbered (Running l machine) k m a e h t =
      out-allowed (Numbered n) (allowed l (length a.words) (length a.cells) k) (went_on l a (ran a.words l.image.header k m (state machine a.cells))) (ran-numbered l a machine k m e t)
  resumed-numbered (Ended l o) k m a e h t =
      out-allowed (Numbered n) (allowed l (length a.words) (length a.cells) k) (record { answer = record { steps = 0; outcome = o }; area = a; meaning = m }) (e, h)

  written-numbered : (words : List ℕ) (a : Area) (image : Accepted) → length a.cells ≡ n → Out (Numbered n) (written words a image)
  written-numbered words a image e = out-tested (Numbered n) (leb (length words) (length a.words)) (Ok (holding words image a)) _ (e, tt)

  numbered-called : (c : Call) (w : World) (a : Answered) (after : World) → Called c w a after → Numbered n w.area → Numbered n after.area
  numbered-called (Admit table) w a after h s =
      after-replied (Numbered n) (Admitted (words_of h.0)) (admitting h.0 w.area) w a after h.2 s
      (out-then (Numbered n) h.0 (λ p. written (image_of p.0 p.1) w.area (known_of p.0 p.1)) (λ p _. written-numbered (image_of p.0 p.1) w.area (known_of p.0 p.1) s.0))
  numbered-called (Bring words) w a after h s =
      after-replied (Numbered n) (Brought (length words.now)) (bringing words.now w.area) w a after h s
      (out-then (Numbered n) (images.accepted words.now) (written words.now w.area) (λ p _. written-numbered words.now w.area p s.0))
  numbered-called Begin w a after h s =
      after-replied (Numbered n) Begun (beginning_area w.area) w a after h s
      (out-then (Numbered n) (loaded w.area.stage) _
      (λ l _. out-tested (Numbered n) (same_lengths l (length w.area.words) (length w.area.cells)) (started l w.area (begins.begun l.image.others w.area.cells)) _
      (started-numbered l w.area l.image.others s.0 (begins.begun l.image.others w.area.cells) refl)))
  numbered-called (Continue k) w a after h s =
      after-resumed (Numbered n) (resuming k w.meaning w.area) w a after h s (resumed-numbered w.area.stage k w.meaning w.area s.0 s.1 s.1)
  numbered-called Clear w a after h s = subst (λ (z : World). Numbered n z.area) (sym h.1) (s.0, tt)

  pub numbered : (es : List Entry) (area after : Area) → History area es after → Numbered n area → Numbered n after
  numbered [] area after h s = subst (Numbered n) (sym h) s
  numbered (e ∷ es) area after h s =
      numbered es h.0 after h.2 (numbered-called e.call (world area e.found) e.answer (world h.0 e.left) h.1 s)

module _ (P : Area → Type 0) where
  -- a call that is turned down keeps what holds of the area
  unless-taken : (c : Call) (w : World) (a : Answered) (after : World) → Called c w a after → cond (taken a) true false ≡ false → P w.area → P after.area
  unless-taken c w a after h e s =
      subst (λ (z : World). P z.area) (sym (refused-changes-nothing c w a after h (not_taken (taken a) e))) s

  -- and so do calls of which none is an accepted one of a kind, where all others keep it
  still : (kind : Call → Bool) → ((c : Call) (w : World) (a : Answered) (after : World) → Called c w a after → cond (taken a) (kind c) false ≡ false → P w.area → P after.area) → (es : List Entry) (area after : Area) → History area es after → None-of kind es → P area → P after
  still kind keeps [] area after h none s = subst P (sym h) s
  still kind keeps (e ∷ es) area after h none s =
      still kind keeps es h.0 after h.2 none.1 (keeps e.call (world area e.found) e.answer (world h.0 e.left) h.1 none.0 s)

-- what the record knows of the image, unless it is blank
abbrev pub Knows : Loaded → Stage → Type 0
Knows k Blank = Unit {0}
Knows k (Ready l) = l ≡ k
Knows k (Running l m) = l ≡ k
Knows k (Ended l o) = l ≡ k

-- the words, and what the record knows of them
abbrev pub Holds : List ℕ → Loaded → Area → Type 0
Holds words k a = (a.words ≡ words) × Knows k a.stage

module _ (words : List ℕ) (k : Loaded) where
  pub knows-loaded : (s : Stage) (l : Loaded) → Knows k s → loaded s ≡ Ok l → l ≡ k
  knows-loaded Blank l h e = absurd (err-is-not-ok e)
  knows-loaded (Ready x) l h e = let q : x ≡ l = cc in sym q ∙ h
  knows-loaded (Running x m) l h e = let q : x ≡ l = cc in sym q ∙ h
  knows-loaded (Ended x o) l h e = let q : x ≡ l = cc in sym q ∙ h

  knows-standing : (l : Loaded) (o : Outcome) (m : Machine) → l ≡ k → Knows k (standing l o m)
  knows-standing l Paused m h = h
  knows-standing l (Finished v) m h = h
  knows-standing l (Halted x p) m h = h

  started-holds : (l : Loaded) (a : Area) → a.words ≡ words → l ≡ k → (x : Result State BeginRefusal) → Out (Holds words k) (started l a x)
  started-holds l a e h (Ok s) = (e, h)
  started-holds l a e h (Err x) = tt

  resumed-holds : (stage : Stage) (n : ℕ) (m : Meaning) (a : Area) → Holds words k a → Knows k stage → OutResumed (Holds words k) (resumed_from stage n m a)
  resumed-holds Blank n m a e h = tt
  resumed-holds (Ready l) n m a e h = tt
  resumed-holds (Running l machine) n m a e h =
      let r = ran a.words l.image.header n m (state machine a.cells) in
      out-allowed (Holds words k) (allowed l (length a.words) (length a.cells) n) (went_on l a r) (e.0, knows-standing l r.outcome (machine_of r.state) h)
  resumed-holds (Ended l o) n m a e h =
      out-allowed (Holds words k) (allowed l (length a.words) (length a.cells) n) (record { answer = record { steps = 0; outcome = o }; area = a; meaning = m }) e

  holds-called : (c : Call) (w : World) (a : Answered) (after : World) → Called c w a after → cond (taken a) (puts_image c) false ≡ false → Holds words k w.area → Holds words k after.area
  holds-called (Admit table) w a after h e s = unless-taken (Holds words k) (Admit table) w a after h e s
  holds-called (Bring ws) w a after h e s = unless-taken (Holds words k) (Bring ws) w a after h e s
  holds-called Begin w a after h e s =
      after-replied (Holds words k) Begun (beginning_area w.area) w a after h s
      (out-then (Holds words k) (loaded w.area.stage) _
      (λ l q. out-tested (Holds words k) (same_lengths l (length w.area.words) (length w.area.cells)) (started l w.area (begins.begun l.image.others w.area.cells)) _
      (started-holds l w.area s.0 (knows-loaded w.area.stage l s.1 q) (begins.begun l.image.others w.area.cells))))
  holds-called (Continue n) w a after h e s =
      after-resumed (Holds words k) (resuming n w.meaning w.area) w a after h s (resumed-holds w.area.stage n w.meaning w.area s s.1)
  holds-called Clear w a after h e s = subst (λ (z : World). Holds words k z.area) (sym h.1) (s.0, tt)

  pub still-holds : (es : List Entry) (area after : Area) → History area es after → None-of puts_image es → Holds words k area → Holds words k after
  still-holds = still (Holds words k) puts_image holds-called

-- a run is there: paused, or ended
abbrev pub Begun-stage : Stage → Type 0
Begun-stage Blank = ⊥
Begun-stage (Ready l) = ⊥
Begun-stage (Running l m) = Unit {0}
Begun-stage (Ended l o) = Unit {0}

abbrev HasRun : Area → Type 0
HasRun a = Begun-stage a.stage

standing-runs : (l : Loaded) (o : Outcome) (m : Machine) → Begun-stage (standing l o m)
standing-runs l Paused m = tt
standing-runs l (Finished v) m = tt
standing-runs l (Halted x p) m = tt

resumed-runs : (stage : Stage) (n : ℕ) (m : Meaning) (a : Area) → HasRun a → OutResumed HasRun (resumed_from stage n m a)
resumed-runs Blank n m a h = tt
resumed-runs (Ready l) n m a h = tt
resumed-runs (Running l machine) n m a h =
    let r = ran a.words l.image.header n m (state machine a.cells) in
    out-allowed HasRun (allowed l (length a.words) (length a.cells) n) (went_on l a r) (standing-runs l r.outcome (machine_of r.state))
resumed-runs (Ended l o) n m a h =
    out-allowed HasRun (allowed l (length a.words) (length a.cells) n) (record { answer = record { steps = 0; outcome = o }; area = a; meaning = m }) h

runs-called : (c : Call) (w : World) (a : Answered) (after : World) → Called c w a after → cond (taken a) (ends_run c) false ≡ false → HasRun w.area → HasRun after.area
runs-called (Admit table) w a after h e s = unless-taken HasRun (Admit table) w a after h e s
runs-called (Bring words) w a after h e s = unless-taken HasRun (Bring words) w a after h e s
runs-called Begin w a after h e s = unless-taken HasRun Begin w a after h e s
runs-called (Continue n) w a after h e s =
    after-resumed HasRun (resuming n w.meaning w.area) w a after h s (resumed-runs w.area.stage n w.meaning w.area s)
runs-called Clear w a after h e s = unless-taken HasRun Clear w a after h e s

pub still-runs : (es : List Entry) (area after : Area) → History area es after → None-of ends_run es → Begun-stage area.stage → Begun-stage after.stage
still-runs = still HasRun ends_run runs-called

-- calls that end no run put no image
puts-less : (c : Call) (b : Bool) → cond b (ends_run c) false ≡ false → cond b (puts_image c) false ≡ false
puts-less (Admit table) b e = e
puts-less (Bring words) b e = e
puts-less Begin true e = refl
puts-less Begin false e = refl
puts-less (Continue n) b e = e
puts-less Clear true e = refl
puts-less Clear false e = refl

pub puts_none : (es : List Entry) → None-of ends_run es → None-of puts_image es
puts_none [] none = tt
puts_none (e ∷ es) none = (puts-less e.call (taken e.answer) none.0, puts_none es none.1)

passed : {A : Type 0} (b : Bool) (x y : A) → b ≡ true → cond b x y ≡ x
passed b x y e = ap (λ z. cond z x y) e

-- where a run is there and the lengths are as they were, a continue is accepted
allowed_all : (k : Loaded) (buffer cells n : ℕ) → same_lengths k buffer cells ≡ true → n ≤ 1000000 → allowed k buffer cells n ≡ Ok tt
allowed_all k buffer cells n e h = passed (same_lengths k buffer cells) _ _ e ∙ passed (leb n 1000000) _ _ (le-leb n 1000000 h)

pub goes_on : (k : Loaded) (stage : Stage) (n : ℕ) (m : Meaning) (a : Area) → Begun-stage stage → Knows k stage → same_lengths k (length a.words) (length a.cells) ≡ true → n ≤ 1000000 → (r : Resumed) × (resumed_from stage n m a ≡ Ok r)
goes_on k Blank n m a b h e l = absurd b
goes_on k (Ready x) n m a b h e l = absurd b
goes_on k (Running x machine) n m a b h e l =
    (_, ap (λ z. and_then z (λ _. Ok (went_on x a (ran a.words x.image.header n m (state machine a.cells))))) ((λ i. allowed (h i) (length a.words) (length a.cells) n) ∙ allowed_all k (length a.words) (length a.cells) n e l))
goes_on k (Ended x o) n m a b h e l =
    (_, ap (λ z. and_then z (λ _. Ok (record { answer = record { steps = 0; outcome = o }; area = a; meaning = m }))) ((λ i. allowed (h i) (length a.words) (length a.cells) n) ∙ allowed_all k (length a.words) (length a.cells) n e l))
