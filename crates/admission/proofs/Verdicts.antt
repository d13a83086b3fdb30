-- One table has one verdict. Assumes nothing.
use Rattle.std.proofs.Common.{◌≡◌, ℕ, ◌⊎◌, List, Ok, Err, Result, sym, refl, ap, ◌∙◌, inl, inr, arith}
use Rattle.language.specs.declared.faults.Fault.{Fault}
use Rattle.language.specs.declared.values.ValueType.{ValueType}
use Rattle.table.specs.declared.nodes.Node.{Node}
use Rattle.table.specs.Tree.{Program}
use Rattle.table.specs.Layout.{WithinLimits, layout}
use Rattle.table.specs.Answers.{Sized, Refused}
use Rattle.table.proofs.Proved.{one-tree, one_answer}
use Rattle.walk.specs.declared.codes.Instr.{Instr}
use Rattle.walk.specs.Programs.{walk_program}
use Rattle.admission.specs.Judged.{Verdict, Judged, refused_table, walked}

-- a program that lays the table out, and on which this is the walk's answer
pub record Walked (table : List Node) (v : Verdict) : Type 0 where
  pub program : Program
  pub limited : WithinLimits program
  pub lays : layout program ≡ table
  pub sized : Sized table
  pub says : v ≡ walk_program program

-- why a table was refused
pub record Faulty (table : List Node) (v : Verdict) : Type 0 where
  pub fault : Fault
  pub why : Refused table fault
  pub says : v ≡ Err fault

pub judged : (table : List Node) (v : Verdict) → Judged table v → Faulty table v ⊎ Walked table v
judged table v (refused_table f h) = inl (record { fault = f; why = h; says = refl })
judged table v (walked p w e s) = inr (record { program = p; limited = w; lays = e; sized = s; says = refl })

same-fault : (f g : Fault) → ◌≡◌ {A = Result (Unit {0}) Fault} (Err f) (Err g) → f ≡ g
same-fault f g e = cc

not-both : (f : Fault) → ◌≡◌ {A = Result (Unit {0}) Fault} (Err f) (Ok tt) → ⊥
not-both f e = let z : ◌≡◌ {A = ℕ} 0 1 = cc in omega arith

never_both : (table : List Node) (v u : Verdict) → Faulty table v → Walked table u → ⊥
never_both table v u f w = not-both f.fault (one_answer table (Err f.fault) (Ok tt) f.why (w.sized, (w.program, w.limited, w.lays)))

one_of : (table : List Node) (v u : Verdict) → Faulty table v ⊎ Walked table v → Faulty table u ⊎ Walked table u → v ≡ u
one_of table v u (inl f) (inl g) =
    f.says ∙ ap Err (same-fault f.fault g.fault (one_answer table (Err f.fault) (Err g.fault) f.why g.why)) ∙ sym g.says
one_of table v u (inl f) (inr w) = absurd (never_both table v u f w)
one_of table v u (inr w) (inl f) = absurd (never_both table u v f w)
one_of table v u (inr w) (inr x) =
    w.says ∙ ap walk_program (one-tree w.program x.program (w.lays ∙ sym x.lays)) ∙ sym x.says

pub one-verdict : (table : List Node) (v u : Verdict) → Judged table v → Judged table u → v ≡ u
one-verdict table v u h k = one_of table v u (judged table v h) (judged table u k)

-- the walk's answer on the program that lays out an accepted table
pub accepted-walk : (table : List Node) (t : ValueType) (code : List Instr) → Judged table (Ok (t, code)) → Walked table (Ok (t, code))
accepted-walk table t code j = by (judged table (Ok (t, code)) j)
  where
    by : Faulty table (Ok (t, code)) ⊎ Walked table (Ok (t, code)) → Walked table (Ok (t, code))
    by (inl f) = let e = f.says in let z : ◌≡◌ {A = ℕ} 0 1 = cc in absurd (omega arith)
    by (inr w) = w
