-- Lookup among the code's entries is lookup among the names that they stand for, and what the walk does with a name that was found. Assumes nothing.
use Rattle.std.proofs.Common.{◌≡◌, ℕ, ◌<◌, true, false, Bool, List, length, get_or, Ok, Result, sym, ap, ◌∙◌}
use Rattle.std.proofs.lemmas.List.{length-map, get_or-map}
use Rattle.language.specs.declared.faults.Fault.{Fault}
use Rattle.language.specs.declared.values.ValueType.{ValueType}
use Rattle.table.specs.declared.nodes.Node.{Node}
use Rattle.table.specs.Tree.{Expression}
use Rattle.table.specs.Tree.Statement.{assignment}
use Rattle.walk.specs.declared.codes.Instr.{Instr}
use Rattle.walk.specs.declared.contexts.Context.{Context}
use Rattle.walk.specs.declared.names.Entry.{Entry}
use Rattle.walk.specs.declared.names.Variable.{Variable}
use Rattle.walk.specs.Bind.{bind, beside}
use Rattle.walk.specs.Lay.{laid}
use Rattle.walk.specs.Sets.{marked, must_be_set}
use Rattle.walk.specs.Scopes.{Thing, newest, nobody, entry, lookup, declared, found, as_variable, variable_in, callable, operand_of, parameters_of, result_of, opened, closed}
use Rattle.walk.specs.Types.{same_type, typed, Tallied, tallied, judged}
use Rattle.walk.specs.Known.{known, seen, no_entry, name_at, thing_of}
use Rattle.walk.specs.Expressions.{reading, calling, walk_expression, walk_statement}
use Rattle.walk.specs.Walked.{env_of}
use Rattle.walk.proofs.Exits.{goes, same-assignment, same-calling}
use Rattle.walk.proofs.Found.{newest-same}

module _ (table : List Node) (entries : List Entry) (level : ℕ) where
  pub entry_seen : (k : ℕ) → k < length entries → entry (seen table entries level) k ≡ known table (get_or entries k no_entry)
  entry_seen k h = get_or-map (known table) entries k no_entry nobody h

  pub lookup-seen : (x : ℕ) → lookup (seen table entries level) x ≡ newest (name_at entries) (length entries) x
  lookup-seen x =
      ap (λ n. newest (λ k. (entry (seen table entries level) k).name) n x) (length-map entries (known table)) ∙
      newest-same (λ k. (entry (seen table entries level) k).name) (name_at entries) (length entries) x (λ k h. ap (λ n. n.name) (entry_seen k h))

  pub found_seen : (p x : ℕ) {r : Result ℕ Fault} → r ≡ declared p (newest (name_at entries) (length entries) x) → found p (seen table entries level) x ≡ r
  found_seen p x e = ap (declared p) (lookup-seen x) ∙ sym e

module _ (context : Context) where
  -- what the entry of a name stands for
  abbrev pub meant : ℕ → Thing
  meant k = thing_of context.nodes.now (get_or context.names.now k no_entry).what

  -- the entry that the code has found, and what it has asked of it
  module _ (p x k : ℕ) (flags : List Bool) (code : List Instr) (f : Ok k ≡ declared p (newest (name_at context.names.now) (length context.names.now) x)) (h : k < length context.names.now) where
    module _ {v : Result Variable Fault} (g : v ≡ variable_in p (get_or context.names.now k no_entry).level (meant k)) where
      variable_seen : v ≡ as_variable p (entry (env_of context) k)
      variable_seen = g ∙ sym (ap (as_variable p) (entry_seen context.nodes.now context.names.now context.level k h))

      pub reading-seen : reading (env_of context) p x flags code ≡ bind v (λ w. bind (must_be_set p flags k) (λ _. Ok (w.typed, laid code 3 (operand_of context.level w))))
      reading-seen =
          goes _ (found_seen context.nodes.now context.names.now context.level p x f) ∙
          ap (λ r. bind r (λ w. bind (must_be_set p flags k) (λ _. Ok (w.typed, laid code 3 (operand_of context.level w))))) (sym variable_seen)

      pub assigning-seen : {q y : ℕ} → p ≡ q → x ≡ y → (e : Expression) → walk_statement (env_of context) (assignment q y e) flags code ≡ bind v (λ w. bind (walk_expression (env_of context) e flags code) (λ r. beside (typed p (same_type r.0 w.typed) (marked flags k true)) (laid r.1 4 (operand_of context.level w))))
      assigning-seen place name e =
          same-assignment (env_of context) flags code place name e ∙
          goes _ (found_seen context.nodes.now context.names.now context.level p x f) ∙
          ap (λ r. bind r (λ w. bind (walk_expression (env_of context) e flags code) (λ r. beside (typed p (same_type r.0 w.typed) (marked flags k true)) (laid r.1 4 (operand_of context.level w))))) (sym variable_seen)

    pub calling-seen : {u : Result (Unit {0}) Fault} {qs : List ValueType} {s : List Instr} {t : ValueType} → u ≡ callable p (meant k) → qs ≡ parameters_of (meant k) → s ≡ opened context.level (get_or context.names.now k no_entry).level (meant k) code → t ≡ result_of (meant k) →
        {q y : ℕ} → p ≡ q → x ≡ y → (arguments : Tallied → List Instr → Result (Tallied × List Instr) Fault) →
        calling (env_of context) q y code arguments ≡ bind u (λ _. bind (arguments (tallied qs false true) s) (λ r. beside (judged p r.0 t) (closed (meant k) r.1)))
    calling-seen {u} {qs} {s} {t} a b c d place name arguments =
        same-calling (env_of context) flags code place name arguments ∙
        goes _ (found_seen context.nodes.now context.names.now context.level p x f) ∙
        ap (λ n. bind (callable p n.thing) (λ _. bind (arguments (tallied (parameters_of n.thing) false true) (opened context.level n.level n.thing code)) (λ r. beside (judged p r.0 (result_of n.thing)) (closed n.thing r.1)))) (entry_seen context.nodes.now context.names.now context.level k h) ∙
        ap (λ r. bind r (λ _. bind (arguments (tallied (parameters_of (meant k)) false true) (opened context.level (get_or context.names.now k no_entry).level (meant k) code)) (λ r. beside (judged p r.0 (result_of (meant k))) (closed (meant k) r.1)))) (sym a) ∙
        ap (λ ps. bind u (λ _. bind (arguments (tallied ps false true) (opened context.level (get_or context.names.now k no_entry).level (meant k) code)) (λ r. beside (judged p r.0 (result_of (meant k))) (closed (meant k) r.1)))) (sym b) ∙
        ap (λ i. bind u (λ _. bind (arguments (tallied qs false true) i) (λ r. beside (judged p r.0 (result_of (meant k))) (closed (meant k) r.1)))) (sym c) ∙
        ap (λ w. bind u (λ _. bind (arguments (tallied qs false true) s) (λ r. beside (judged p r.0 w) (closed (meant k) r.1)))) (sym d)
