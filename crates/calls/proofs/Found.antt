-- A run in a list of calls, found by cutting the list: the image of its table's rule set is in the buffer, and the calls since its begin follow the machine. Assumes nothing.
use Rattle.std.proofs.Common.{◌≡◌, ℕ, ◌+◌, ◌*◌, ◌≤◌, true, false, List, [], ◌∷◌, ◌++◌, length, get_or, drop, Ok, sym, refl, ap, ◌∙◌, subst, subst₂, append_assoc, append-nil, arith}
use Rattle.language.specs.declared.values.ValueType.{ValueType}
use Rattle.image.specs.declared.instruction.Accepted.{Accepted}
use Rattle.machine.specs.declared.cells.Cell.{Cell}
use Rattle.machine.specs.Begin as begins
use Rattle.stack.specs.Stack.{beginning}
use Rattle.stack.specs.Law.{whole}
use Rattle.table.specs.declared.nodes.Node.{Node}
use Rattle.table.proofs.Proved.{one-tree}
use Rattle.walk.specs.declared.codes.Instr.{Instr}
use Rattle.walk.specs.Programs.{walk_program}
use Rattle.rules.specs.Resolved.{Rules}
use Rattle.rules.specs.Translate.{image, translated}
use Rattle.theory.specs.Runs.{header_for}
use Rattle.engine.specs.declared.record.Loaded.{Loaded}
use Rattle.engine.specs.Calls.{Area, same_lengths}
use Rattle.engine.specs.Admit.{image_of, known_of}
use Rattle.engine.proofs.Admits.{image-length, result-is, plain-length, plain-operands, plain-image, same-pair}
use Rattle.calls.specs.declared.call.Call.TheVariants.{Continue}
use Rattle.calls.specs.declared.call.Answer.TheVariants.{Continued}
use Rattle.admission.specs.Judged.{Judged}
use Rattle.admission.proofs.Verdicts.{accepted-walk}
use Rattle.calls.specs.Called.{Called, world, resumed}
use Rattle.calls.specs.History.{Entry, History, New, RunOf, None-of, accepted, ends_run}
use Rattle.verdict.specs.Verdict.{plain}
use Rattle.verdict.proofs.Declared.{accepts-typed}
use Rattle.calls.specs.Law.{RuleSet, CanGoOn}
use Rattle.calls.proofs.Kept.{Top, Numbered, Holds, Begun-stage, numbered, still-holds, still-runs, puts_none, goes_on, framed}
use Rattle.calls.proofs.Words.{fetched-before}
use Rattle.calls.proofs.Follows.{Follows, follows}
use Rattle.calls.proofs.Starts.{Admits, Starts, cut, join, admits-call, starts-call}

-- calls since a begin, on a row of so many cells, follow the machine on an image of which this is known
pub record Machine (words : List ℕ) (known : Accepted) (cells : ℕ) (since : List Entry) : Type 0 where
  pub row : List Cell
  pub number : length row ≡ cells
  pub begun : begins.begun known.others row ≡ Ok (whole (beginning known.others) (drop (4 + known.others) row))
  pub room : 4 + known.others ≤ length row
  pub follows : Follows words known.header cells since (beginning known.others)

-- the verdict on the table of a run, and the machine's run of that code
pub record Found (table : List Node) (cells : ℕ) (since : List Entry) : Type 0 where
  pub type : ValueType
  pub code : List Instr
  pub judged : Judged table (Ok (type, code))
  pub machine : Machine (image_of type code) (known_of type code) cells since

-- A list of calls cut at a run: what its admit left, its begin, and the calls since
pub record Cut (table : List Node) (cells : ℕ) (begun : Entry) (since : List Entry) (x : RunOf table cells begun since) : Type 0 where
  pub ready : Area
  pub admits : Admits table ready
  pub before : Area
  pub next : Area
  pub last : Area
  pub starts : Starts (image_of admits.type admits.code ++ admits.more) (record { image = known_of admits.type admits.code; buffer = admits.buffer; cells = admits.cells }) before.cells next
  pub number : length before.cells ≡ cells
  pub last-number : length last.cells ≡ cells
  pub calls : History next since last
  pub all : History x.area (x.within.earlier ++ x.within.admitted ∷ (x.within.between ++ begun ∷ since)) last

-- a new area is numbered
new-numbered : (area : Area) (n : ℕ) → New area → length area.cells ≡ n → Numbered n area
new-numbered area n new e = (e, subst (Top n) (sym new) tt)

pub cut_at : (table : List Node) (cells : ℕ) (begun : Entry) (since : List Entry) (x : RunOf table cells begun since) → Cut table cells begun since x
cut_at table cells begun since x =
    let w = x.within in
    let whole-list : History x.area (w.earlier ++ w.admitted ∷ (w.between ++ begun ∷ (since ++ w.rest))) x.after = subst (λ l. History x.area l x.after) w.these x.history in
    let c = cut w.earlier (w.admitted ∷ (w.between ++ begun ∷ (since ++ w.rest))) x.area x.after whole-list in
    let admit = c.2 in
    let a = admits-call w.admitted.call table c.0 admit.0 w.admitted.found w.admitted.left w.admitted.answer w.admits admit.1 w.admits-taken in
    let d = cut w.between (begun ∷ (since ++ w.rest)) admit.0 x.after admit.2 in
    let words = image_of a.type a.code ++ a.more in
    let k : Loaded = record { image = known_of a.type a.code; buffer = a.buffer; cells = a.cells } in
    let holds = still-holds words k w.between admit.0 d.0 d.1 w.stays a.holds in
    let begin = d.2 in
    let s = starts-call begun.call words k d.0 begin.0 begun.found begun.left begun.answer w.begins begin.1 w.begins-taken holds in
    let l = cut since w.rest begin.0 x.after begin.2 in
    let onward = join w.between (begun ∷ since) admit.0 d.0 l.0 d.1 (begin.0, begin.1, l.1) in
    let first = numbered cells w.earlier x.area c.0 c.1 (new-numbered x.area cells x.new x.number) in
    let second = numbered cells (w.admitted ∷ []) c.0 admit.0 (admit.0, admit.1, refl) first in
    let third = numbered cells w.between admit.0 d.0 d.1 second in
    let fourth = numbered cells (begun ∷ since) d.0 l.0 (begin.0, begin.1, l.1) third in
    record {
      ready = admit.0;
      admits = a;
      before = d.0;
      next = begin.0;
      last = l.0;
      starts = s;
      number = third.0;
      last-number = fourth.0;
      calls = l.1;
      all = join w.earlier (w.admitted ∷ (w.between ++ begun ∷ since)) x.area c.0 l.0 c.1 (admit.0, admit.1, onward);
    }

pub found : (table : List Node) (cells : ℕ) (begun : Entry) (since : List Entry) → RunOf table cells begun since → Found table cells since
found table cells begun since x =
    let c = cut_at table cells begun since x in
    let a = c.admits in
    let s = c.starts in
    let words = image_of a.type a.code in
    let k : Loaded = record { image = known_of a.type a.code; buffer = a.buffer; cells = a.cells } in
    let long : 2 + 2 * length a.code ≤ length words = omega (arith, image-length a.type a.code) in
    record {
      type = a.type;
      code = a.code;
      judged = a.judged;
      machine = record {
        row = c.before.cells;
        number = c.number;
        begun = s.begun;
        room = s.room;
        follows =
            follows (words ++ a.more) k cells words (fetched-before words a.more k.image.header long) since (beginning k.image.others) (drop (4 + k.image.others) c.before.cells) c.last
            (framed k.image.others c.before.cells s.room ∙ c.number) (subst (λ z. History z since c.last) s.stands c.calls) x.within.lasts;
      };
    }

-- one more that ends no run
none_more : (es : List Entry) (e : Entry) → None-of ends_run es → accepted ends_run e ≡ false → None-of ends_run (es ++ e ∷ [])
none_more [] e none h = (h, tt)
none_more (d ∷ es) e none h = (none.0, none_more es e none.1 h)

same-list : (a b c : List Entry) (d f e : Entry) → (a ++ d ∷ (b ++ f ∷ c)) ++ e ∷ [] ≡ a ++ d ∷ (b ++ f ∷ ((c ++ e ∷ []) ++ []))
same-list a b c d f e =
    append_assoc a (d ∷ (b ++ f ∷ c)) (e ∷ []) ∙ ap (λ l. a ++ d ∷ l) (append_assoc b (f ∷ c) (e ∷ []) ∙ ap (λ l. b ++ f ∷ l) (sym (append-nil (c ++ e ∷ []))))

pub can-go-on : CanGoOn
can-go-on table cells begun since x m n h =
    let c = cut_at table cells begun since x in
    let a = c.admits in
    let s = c.starts in
    let w = x.within in
    let words = image_of a.type a.code ++ a.more in
    let k : Loaded = record { image = known_of a.type a.code; buffer = a.buffer; cells = a.cells } in
    let started : Holds words k c.next = subst (Holds words k) (sym s.stands) (refl, refl) in
    let holds = still-holds words k since c.next c.last c.calls (puts_none since w.lasts) started in
    let runs = still-runs since c.next c.last c.calls w.lasts (subst (λ (z : Area). Begun-stage z.stage) (sym s.stands) tt) in
    let lengths : same_lengths k (length c.last.words) (length c.last.cells) ≡ true = (λ i. same_lengths k (length (holds.0 i)) ((c.last-number ∙ sym c.number) i)) ∙ s.lengths in
    let r = goes_on k c.last.stage n m c.last runs holds.1 lengths h in
    let e : Entry = record { call = Continue n; found = m; answer = Ok (Continued r.0.answer); left = r.0.meaning } in
    let called : Called (Continue n) (world c.last m) (Ok (Continued r.0.answer)) (world r.0.area r.0.meaning) = (
      ap (λ z. (resumed z (world c.last m)).answer) (sym r.1),
      ap (λ z. (resumed z (world c.last m)).after) (sym r.1),
    ) in (
      e,
      refl,
      refl,
      refl,
      record {
        area = x.area;
        after = r.0.area;
        entries = (w.earlier ++ w.admitted ∷ (w.between ++ begun ∷ since)) ++ e ∷ [];
        new = x.new;
        number = x.number;
        history = join (w.earlier ++ w.admitted ∷ (w.between ++ begun ∷ since)) (e ∷ []) x.area c.last r.0.area c.all (r.0.area, called, refl);
        within = record {
          earlier = w.earlier;
          admitted = w.admitted;
          between = w.between;
          rest = [];
          these = same-list w.earlier w.between since w.admitted begun e;
          admits = w.admits;
          admits-taken = w.admits-taken;
          stays = w.stays;
          begins = w.begins;
          begins-taken = w.begins-taken;
          lasts = none_more since e w.lasts refl;
        };
      },
    )

-- what is known of a rule set's image
abbrev pub known_rules : Rules → Accepted
known_rules r = record { header = header_for (translated r) r.result; others = r.others }

plain_known : (r : Rules) → known_of r.result (plain (translated r)) ≡ known_rules r
plain_known r = λ i. record {
  header = record { count = plain-length (translated r) i; result = r.result };
  others = get_or (plain-operands (translated r) i) 0 0;
}

-- A run of an admitted table is the machine's run of its rule set's image
pub machine-of : (table : List Node) (t : ValueType) (r : Rules) → RuleSet table t r → (cells : ℕ) (since : List Entry) → Found table cells since → Machine (image r) (known_rules r) cells since
machine-of table t r rules cells since f =
    let p = rules.admitted.program in
    let w = accepted-walk table f.type f.code f.judged in
    let walks : walk_program p ≡ Ok (t, plain (translated r)) = accepts-typed p t r rules.admitted.typed rules.admitted.named in
    let says = w.says ∙ ap walk_program (one-tree w.program p (w.lays ∙ sym rules.lays)) ∙ walks in
    let e = same-pair f.type t f.code (plain (translated r)) says in
    let type-is : f.type ≡ r.result = e.0 ∙ sym (result-is p t r rules.admitted.typed) in
    subst₂ (λ words known. Machine words known cells since)
    ((λ i. image_of (type-is i) (e.1 i)) ∙ plain-image r)
    ((λ i. known_of (type-is i) (e.1 i)) ∙ plain_known r)
    f.machine
