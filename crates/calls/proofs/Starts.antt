-- What an accepted admit and an accepted begin leave, and histories cut in two. Assumes nothing.
use Rattle.std.proofs.Common.{◌≡◌, ℕ, ◌+◌, ◌≤◌, true, leb, List, [], ◌∷◌, ◌++◌, length, drop, Some, Ok, Err, Result, sym, refl, ap, ◌∙◌, subst}
use Rattle.std.proofs.lemmas.Option.{none-some}
use Rattle.language.specs.declared.faults.BeginRefusal.{BeginRefusal}
use Rattle.language.specs.declared.values.ValueType.{ValueType}
use Rattle.host.specs.Meaning.{Meaning}
use Rattle.machine.specs.declared.cells.Cell.{Cell}
use Rattle.machine.specs.State.{State}
use Rattle.machine.specs.Begin as begins
use Rattle.stack.specs.Stack.{beginning}
use Rattle.stack.specs.Law.{over, whole}
use Rattle.table.specs.declared.nodes.Node.{Node}
use Rattle.walk.specs.declared.codes.Instr.{Instr}
use Rattle.engine.specs.declared.record.Loaded.{Loaded}
use Rattle.engine.specs.declared.record.Stage.TheVariants.{Running}
use Rattle.engine.specs.Calls.{Area, written, holding, loaded, started, same_lengths, machine_of}
use Rattle.engine.specs.Calls as engine
use Rattle.engine.specs.Admit.{admitting, words_of, image_of, known_of}
use Rattle.calls.specs.declared.call.Call.{Call}
use Rattle.calls.specs.declared.call.Call.TheVariants.{Admit, Bring, Begin, Continue, Clear}
use Rattle.calls.specs.declared.call.Answer.TheVariants.{Admitted, Begun}
use Rattle.admission.specs.Judged.{Verdict, Judged}
use Rattle.calls.specs.Called.{World, Answered, world, Called}
use Rattle.calls.specs.History.{Entry, History, taken, table_of}
use Rattle.calls.proofs.Replies.{err-is-not-ok, replied-taken, came-of, came-past}
use Rattle.calls.proofs.Kept.{Holds, knows-loaded, begun-at}

-- the area between two parts of a list
pub cut : (es fs : List Entry) (area after : Area) → History area (es ++ fs) after → (b : Area) × History area es b × History b fs after
cut [] fs area after h = (area, refl, h)
cut (e ∷ es) fs area after h = let c = cut es fs h.0 after h.2 in (c.0, (h.0, h.1, c.1), c.2)

pub join : (es fs : List Entry) (area b after : Area) → History area es b → History b fs after → History area (es ++ fs) after
join [] fs area b after h k = subst (λ a. History a fs after) h k
join (e ∷ es) fs area b after h k = (h.0, h.1, join es fs h.0 b after h.2 k)

-- after an accepted admit the buffer begins with the table's image, and the record knows it
pub record Admits (table : List Node) (next : Area) : Type 0 where
  pub type : ValueType
  pub code : List Instr
  pub more : List ℕ
  pub buffer : ℕ
  pub cells : ℕ
  pub judged : Judged table (Ok (type, code))
  pub holds : Holds (image_of type code ++ more) (record { image = known_of type code; buffer = buffer; cells = cells }) next

admits-verdict : (table : List Node) (v : Verdict) (a next : Area) → Judged table v → admitting v a ≡ Ok next → Admits table next
admits-verdict table v a next j e =
    let c = came-of v (λ p. written (image_of p.0 p.1) a (known_of p.0 p.1)) next e in
    let t = c.0.0 in
    let code = c.0.1 in
    let w = (came-past (leb (length (image_of t code)) (length a.words)) (Ok (holding (image_of t code) (known_of t code) a)) _ next c.2).1 in
    let same : holding (image_of t code) (known_of t code) a ≡ next = cc in
    record {
      type = t;
      code = code;
      more = drop (length (image_of t code)) a.words;
      buffer = length a.words;
      cells = length a.cells;
      judged = subst (Judged table) c.1 j;
      holds = subst (Holds (image_of t code ++ drop (length (image_of t code)) a.words) (record { image = known_of t code; buffer = length a.words; cells = length a.cells })) same (refl, refl);
    }

pub admits-call : (c : Call) (table : List Node) (a next : Area) (m m' : Meaning) (x : Answered) → table_of c ≡ Some table → Called c (world a m) x (world next m') → taken x ≡ true → Admits table next
admits-call (Admit ref) table a next m m' x e h y =
    let g = replied-taken (Admitted (words_of h.0)) (world a m) x (world next m') (admitting h.0 a) h.2 y in
    let same : ref.now ≡ table = cc in
    subst (λ z. Admits z next) same (admits-verdict ref.now h.0 a next h.1 (g.1 ∙ ap (λ (w : World). Ok w.area) (sym g.2)))
admits-call (Bring ws) table a next m m' x e h y = absurd (none-some table e)
admits-call Begin table a next m m' x e h y = absurd (none-some table e)
admits-call (Continue n) table a next m m' x e h y = absurd (none-some table e)
admits-call Clear table a next m m' x e h y = absurd (none-some table e)

-- after an accepted begin the record runs, on the program's frame over what lies above it
pub record Starts (words : List ℕ) (k : Loaded) (row : List Cell) (next : Area) : Type 0 where
  pub room : 4 + k.image.others ≤ length row
  pub lengths : same_lengths k (length words) (length row) ≡ true
  pub begun : begins.begun k.image.others row ≡ Ok (whole (beginning k.image.others) (drop (4 + k.image.others) row))
  pub stands : next ≡ engine.area words (over (beginning k.image.others).cells (drop (4 + k.image.others) row)) (Running k (record { counter = 1; base = 0; top = length (beginning k.image.others).cells }))

starts_from : (words : List ℕ) (k : Loaded) (a next : Area) → Holds words k a → same_lengths k (length words) (length a.cells) ≡ true → (x : Result State BeginRefusal) → begins.begun k.image.others a.cells ≡ x → started k a x ≡ Ok next → Starts words k a.cells next
starts_from words k a next h l (Ok s) b e =
    let q = begun-at k.image.others a.cells s b in
    let same : engine.area a.words s.cells (Running k (machine_of s)) ≡ next = cc in
    record {
      room = q.0;
      lengths = l;
      begun = b ∙ ap Ok q.1;
      stands = sym same ∙ (λ i. engine.area (h.0 i) (q.1 i).cells (Running k (machine_of (q.1 i))));
    }
starts_from words k a next h l (Err f) b e = absurd (err-is-not-ok e)

starts-area : (words : List ℕ) (k : Loaded) (a next : Area) → Holds words k a → engine.beginning a ≡ Ok next → Starts words k a.cells next
starts-area words k a next h e =
    let c = came-of (loaded a.stage) _ next e in
    let w = came-past (same_lengths c.0 (length a.words) (length a.cells)) (started c.0 a (begins.begun c.0.image.others a.cells)) _ next c.2 in
    let same = knows-loaded words k a.stage c.0 h.1 c.1 in
    starts_from words k a next h ((λ i. same_lengths (sym same i) (length (sym h.0 i)) (length a.cells)) ∙ w.0) (begins.begun k.image.others a.cells) refl
    (subst (λ (l : Loaded). started l a (begins.begun l.image.others a.cells) ≡ Ok next) same w.1)

pub starts-call : (c : Call) (words : List ℕ) (k : Loaded) (a next : Area) (m m' : Meaning) (x : Answered) → c ≡ Begin → Called c (world a m) x (world next m') → taken x ≡ true → Holds words k a → Starts words k a.cells next
starts-call c words k a next m m' x e h y s =
    let g = replied-taken Begun (world a m) x (world next m') (engine.beginning a) (subst (λ z. Called z (world a m) x (world next m')) e h) y in
    starts-area words k a next s (g.1 ∙ ap (λ (w : World). Ok w.area) (sym g.2))
