-- A run and the calls since its begin: what they tell is what the machine does in pieces. Assumes nothing.
use Rattle.std.proofs.Common.{◌≡◌, ℕ, ◌+◌, Bool, true, false, List, [], ◌∷◌, length, Ok, Result, sym, refl, ap, ◌∙◌, subst, zero-add, arith}
use Rattle.language.specs.declared.faults.Fault.{Fault}
use Rattle.host.specs.Meaning.{Meaning}
use Rattle.host.specs.Serves.{by_meaning}
use Rattle.image.specs.declared.instruction.Header.{Header}
use Rattle.image.specs.Fetch.{fetched}
use Rattle.machine.specs.declared.cells.Cell.{Cell}
use Rattle.machine.specs.declared.registers.Outcome.{Outcome}
use Rattle.machine.specs.declared.registers.Outcome.TheVariants.{Paused, Finished, Halted}
use Rattle.machine.specs.Run.{ran}
use Rattle.stack.specs.Stack.{Stack, Run, run}
use Rattle.stack.specs.Law.{Told, Shows, over, whole, whole_run}
use Rattle.stack.proofs.Runs.{run-is-the-stacks}
use Rattle.replay.specs.Script.{Standing, go_on, in_pieces}
use Rattle.replay.specs.Script as replay
use Rattle.promises.specs.Promises.{last_host, onward_host}
use Rattle.engine.specs.declared.record.Loaded.{Loaded}
use Rattle.engine.specs.declared.record.Stage.TheVariants.{Running, Ended}
use Rattle.engine.specs.Calls.{Area, Resumed, area, and_then, allowed, standing, machine_of, went_on}
use Rattle.calls.specs.declared.call.Call.{Call}
use Rattle.calls.specs.declared.call.Call.TheVariants.{Continue}
use Rattle.calls.specs.declared.call.Answer.TheVariants.{Continued}
use Rattle.calls.specs.Called.{Answered}
use Rattle.calls.specs.History.{Entry, History, None-of, OneHost, Finds, taken, ends_run, ran_of, steps_of, steps, outcome_of, outcome_from, allowances, pieces, onward, host_where}
use Rattle.calls.specs.Law.{told_since}
use Rattle.calls.proofs.Replies.{Lasting, turned, went, lasting, came-of}
use Rattle.calls.proofs.Words.{on_to, run-same, run-split}

-- what a run of the stack tells
abbrev pub tells : Run Meaning → Told
tells r = record { steps = r.steps; outcome = r.outcome; meaning = r.host }

-- what calls tell of a run that stood paused with this stack
pub record Follows (image : List ℕ) (header : Header) (limit : ℕ) (es : List Entry) (t : Stack) : Type 0 where
  pub outcomes : outcome_from Paused es ≡ (in_pieces image header limit (pieces es) t).outcome
  pub counts : steps es ≡ (in_pieces image header limit (pieces es) t).steps
  pub hosts : (m : Meaning) → host_where m es ≡ last_host image header limit m (pieces es) t
  pub alone : (m last : Meaning) → OneHost m es last → told_since es last ≡ tells (run by_meaning image header limit (allowances es) m t)

abbrev entry : Call → Meaning → Answered → Meaning → Entry
entry c m x m' = record { call = c; found = m; answer = x; left = m' }

-- only what was allowed came out
went-is : (x : Result (Unit {0}) Fault) (r q : Resumed) → and_then x (λ _. Ok r) ≡ Ok q → r ≡ q
went-is x r q e = let h = (came-of x (λ _. Ok r) q e).2 in let same : r ≡ q = cc in same

-- a run that has ended stays so
module _ (words : List ℕ) (k : Loaded) (cells : List Cell) (o : Outcome) where
  pub over-area : Area
  over-area = area words cells (Ended k o)

  pub record Stays (x : Answered) (m m' : Meaning) (next : Area) : Type 0 where
    pub area_same : next ≡ area words cells (Ended k o)
    pub outcome-same : outcome_of o (ran_of x) ≡ o
    pub no_steps : steps_of (ran_of x) ≡ 0
    pub host-same : m' ≡ m

  stays : (c : Call) (m : Meaning) (x : Answered) (next : Area) (m' : Meaning) → Lasting (area words cells (Ended k o)) c m x next m' → Stays x m m' next
  stays c m x next m' (turned f) = record { area_same = refl; outcome-same = refl; no_steps = refl; host-same = refl }
  stays c m x next m' (went n r e) =
      let same = went-is (allowed k (length words) (length cells) n) (record { answer = record { steps = 0; outcome = o }; area = area words cells (Ended k o); meaning = m }) r e in
      subst (λ (q : Resumed). Stays (Ok (Continued q.answer)) m q.meaning q.area) same
      (record { area_same = refl; outcome-same = refl; no_steps = refl; host-same = refl })

  pub record Over (es : List Entry) : Type 0 where
    pub outcomes : outcome_from o es ≡ o
    pub counts : steps es ≡ 0
    pub hosts : (m last : Meaning) → OneHost m es last → last ≡ m

  pub over-since : (es : List Entry) (after : Area) → History (area words cells (Ended k o)) es after → None-of ends_run es → Over es
  over-since [] after h none = record { outcomes = refl; counts = refl; hosts = λ m last q. q }
  over-since (e ∷ es) after h none =
      let s = stays e.call e.found e.answer h.0 e.left (lasting e.call (area words cells (Ended k o)) h.0 e.found e.left e.answer h.1 none.0) in
      let further = over-since es after (subst (λ a. History a es after) s.area_same h.2) none.1 in
      record {
        outcomes = ap (λ z. outcome_from z es) s.outcome-same ∙ further.outcomes;
        counts = let p = s.no_steps in let q = further.counts in omega arith;
        hosts = λ m last. by (taken e.answer) m last s.host-same further.hosts;
      }
    where
      by : (b : Bool) (m last : Meaning) → e.left ≡ e.found → ((m last : Meaning) → OneHost m es last → last ≡ m) → Finds b m e (λ j. OneHost j es last) → last ≡ m
      by true m last s further q = further e.left last q.1 ∙ s ∙ q.0
      by false m last s further q = further m last q

module _ (words : List ℕ) (k : Loaded) (limit : ℕ) (image : List ℕ) (same : (at : ℕ) → fetched words k.image.header at ≡ fetched image k.image.header at) where
  -- the area of a run that stands paused with this stack, and this above it
  abbrev pub running : Stack → List Cell → Area
  running t junk = area words (over t.cells junk) (Running k (record { counter = t.counter; base = t.base; top = length t.cells }))

  -- what the calls tell from a paused run on
  abbrev From : List Entry → Type 0
  From es = (t : Stack) (junk : List Cell) (after : Area) → length (over t.cells junk) ≡ limit → History (running t junk) es after → None-of ends_run es → Follows image k.image.header limit es t

  -- on from a piece that came out so
  pub record Goes (r : Run Meaning) (es : List Entry) (o : Outcome) : Type 0 where
    pub outcomes : outcome_from o es ≡ (go_on (replay.standing r) (in_pieces image k.image.header limit (pieces es)) o).outcome
    pub counts : r.steps + steps es ≡ (go_on (replay.standing r) (in_pieces image k.image.header limit (pieces es)) o).steps
    pub hosts : onward o r.host (λ m. host_where m es) ≡ onward_host r (last_host image k.image.header limit r.host (pieces es)) o
    pub alone : (last : Meaning) → OneHost r.host es last → ◌≡◌ {A = Told} (record { steps = r.steps + steps es; outcome = outcome_from o es; meaning = last }) (tells (on_to r (run by_meaning image k.image.header limit (allowances es)) o))

  ended-goes : (r : Run Meaning) (cells : List Cell) (o : Outcome) (es : List Entry) → r.outcome ≡ o → Over words k cells o es → (outcome_from o es ≡ r.outcome) × (r.steps + steps es ≡ r.steps) × ((last : Meaning) → OneHost r.host es last → ◌≡◌ {A = Told} (record { steps = r.steps + steps es; outcome = outcome_from o es; meaning = last }) (tells r))
  ended-goes r cells o es e v =
      let c : r.steps + steps es ≡ r.steps = (let q = v.counts in omega arith) in
      let p : outcome_from o es ≡ r.outcome = v.outcomes ∙ sym e in
      (p, c, λ last q i. record { steps = c i; outcome = p i; meaning = v.hosts r.host last q i })

  goes : (r : Run Meaning) (es : List Entry) (junk : List Cell) (after : Area) → length (over r.stack.cells junk) ≡ limit → From es → (o : Outcome) → r.outcome ≡ o → History (area words (over r.stack.cells junk) (standing k o (machine_of (whole r.stack junk)))) es after → None-of ends_run es → Goes r es o
  goes r es junk after l from Paused e h none =
      let f = from r.stack junk after l h none in record {
        outcomes = f.outcomes;
        counts = ap (λ n. r.steps + n) f.counts;
        hosts = f.hosts r.host;
        alone = λ last q. ap (λ (x : Told). record { steps = r.steps + x.steps; outcome = x.outcome; meaning = x.meaning }) (f.alone r.host last q);
      }
  goes r es junk after l from (Finished v) e h none =
      let g = ended-goes r (over r.stack.cells junk) (Finished v) es e (over-since words k (over r.stack.cells junk) (Finished v) es after h none) in
      record { outcomes = g.0; counts = g.1; hosts = refl; alone = g.2 }
  goes r es junk after l from (Halted x p) e h none =
      let g = ended-goes r (over r.stack.cells junk) (Halted x p) es e (over-since words k (over r.stack.cells junk) (Halted x p) es after h none) in
      record { outcomes = g.0; counts = g.1; hosts = refl; alone = g.2 }

  -- the machine's piece of a run
  abbrev piece_run : ℕ → Meaning → Stack → Run Meaning
  piece_run n m t = run by_meaning image k.image.header limit n m t

  shown : (n : ℕ) (m : Meaning) (t : Stack) (junk : List Cell) → length (over t.cells junk) ≡ limit → Shows limit (piece_run n m t) (ran words k.image.header n m (whole t junk))
  shown n m t junk l =
      subst (λ (r : Run Meaning). Shows limit r (ran words k.image.header n m (whole t junk))) (run-same by_meaning words image k.image.header limit same n m t)
      (subst (λ j. Shows j (run by_meaning words k.image.header j n m t) (ran words k.image.header n m (whole t junk))) l (run-is-the-stacks words k.image.header n m t junk))

  more-follows : (n : ℕ) (m : Meaning) (t : Stack) (es : List Entry) → Goes (piece_run n m t) es (piece_run n m t).outcome → Follows image k.image.header limit (entry (Continue n) m (Ok (Continued (record { steps = (piece_run n m t).steps; outcome = (piece_run n m t).outcome }))) (piece_run n m t).host ∷ es) t
  more-follows n m t es g = record {
    outcomes = g.outcomes;
    counts = g.counts;
    hosts = λ _. g.hosts;
    alone = λ m' last q. g.alone last q.1 ∙ sym (ap tells (run-split by_meaning image k.image.header limit n (allowances es) m t)) ∙ ap (λ x. tells (piece_run (n + allowances es) x t)) q.0;
  }

  one_more : (es : List Entry) → From es → (t : Stack) (junk : List Cell) (after : Area) → length (over t.cells junk) ≡ limit → (c : Call) (m : Meaning) (x : Answered) (next : Area) (m' : Meaning) → Lasting (running t junk) c m x next m' → History next es after → None-of ends_run es → Follows image k.image.header limit (entry c m x m' ∷ es) t
  one_more es from t junk after l c m x next m' (turned f) h none =
      let g = from t junk after l h none in record {
        outcomes = g.outcomes;
        counts = zero-add (steps es) ∙ g.counts;
        hosts = g.hosts;
        alone = λ m'' last q. (λ i. record { steps = zero-add (steps es) i; outcome = outcome_from Paused es; meaning = last }) ∙ g.alone m'' last q ∙ ap (λ n. tells (piece_run n m'' t)) (sym (zero-add (allowances es)));
      }
  one_more es from t junk after l c m x next m' (went n r e) h none =
      let s = shown n m t junk l in
      let is : went_on k (running t junk) (whole_run (piece_run n m t) s.0) ≡ r =
      sym (ap (went_on k (running t junk)) s.1) ∙ went-is (allowed k (length words) (length (over t.cells junk)) n) (went_on k (running t junk) (ran words k.image.header n m (whole t junk))) r e in
      subst (λ (q : Resumed). History q.area es after → Follows image k.image.header limit (entry (Continue n) m (Ok (Continued q.answer)) q.meaning ∷ es) t) is
      (λ h'. more-follows n m t es (goes (piece_run n m t) es s.0 after s.2 from (piece_run n m t).outcome refl h' none))
      h

  pub follows : (es : List Entry) → From es
  follows [] t junk after l h none = record {
    outcomes = refl;
    counts = refl;
    hosts = λ m. refl;
    alone = λ m last q i. record { steps = 0; outcome = Paused; meaning = q i };
  }
  follows (e ∷ es) t junk after l h none =
      one_more es (follows es) t junk after l e.call e.found e.answer h.0 e.left
      (lasting e.call (running t junk) h.0 e.found e.left e.answer h.1 none.0) h.2 none.1
