-- A whole program, and the verdict on its table. Assumes nothing.
use Rattle.std.proofs.Common.{◌≡◌, ℕ, true, List, [], length, take, Ok, Err, Result, sym, refl, ap, ◌∙◌, subst}
use Rattle.std.proofs.lemmas.Bool.{false≢true}
use Rattle.std.proofs.lemmas.List.{nil_from_length}
use Rattle.std.specs.Result.{is_err}
use Rattle.language.specs.declared.faults.Fault.{Fault}
use Rattle.language.specs.declared.values.ValueType.{ValueType}
use Rattle.table.specs.declared.nodes.Node.{Node}
use Rattle.table.specs.Listed.{end_at}
use Rattle.table.specs.Tree.{Statements, Final, Declarations, Program}
use Rattle.table.specs.Tree.Statements.{no_statements}
use Rattle.table.specs.Tree.Final.{final}
use Rattle.table.specs.Tree.Declarations.{no_declarations, declaration}
use Rattle.table.specs.Tree.Program.{single, whole}
use Rattle.table.specs.Layout.{LaidOut, of_program}
use Rattle.table.specs.Lays.{Lays}
use Rattle.table.specs.Answers.{Sized}
use Rattle.table.proofs.Proved.{layout-lays, layout-end}
use Rattle.walk.specs.declared.codes.Instr.{Instr}
use Rattle.walk.specs.declared.codes.Code.{Code}
use Rattle.walk.specs.Bind.{bind}
use Rattle.rules.specs.Translate.{gives}
use Rattle.walk.specs.Lay.{live, laid, count}
use Rattle.walk.specs.Known.{seen}
use Rattle.walk.specs.Sets.{none_set}
use Rattle.walk.specs.Programs.{outermost, inside, ending, walk_declarations, walk_program}
use Rattle.walk.proofs.Exits.{goes, breaks}
use Rattle.admission.specs.declared.scopes.Names.{Names}
use Rattle.admission.specs.Standing.{scope_of}
use Rattle.admission.specs.Judged.{Judged, walked, verdict_of}
use Rattle.admission.specs.Walks.{host_entries, LaysMembers, GaveProgram}

-- a program by its members
pub members : (table : List Node) (n : ℕ) (p : Program) → Lays (of_program p) table 0 → end_at table 0 ≡ n → (ds : Declarations) × (ss : Statements) × (z : Final) × LaysMembers table ds ss z 1 n × (walk_program p ≡ bind (inside outermost ss z [] (λ q c. walk_declarations ds q c)) ending)
members table n (single p e) l end = (no_declarations, no_statements, final e, subst (λ k. LaysMembers table no_declarations no_statements (final e) 1 k) end l.5, refl)
members table n (whole p d ds ss f) l end = (declaration d ds, ss, f, subst (λ k. LaysMembers table (declaration d ds) ss f 1 k) end l.5, refl)

-- the program's scope lies inside the host's
pub outermost-is : (table : List Node) (names : Names) → take 3 names.entries ≡ host_entries → names.scope.height ≡ 3 → names.scope.level ≡ 0 → names.scope.floor ≡ 3 → names.scope.slots ≡ 0 → names.scope.flags.set ≡ none_set → scope_of table names ≡ outermost
outermost-is table names entries height level floor slots flags =
    let e : take names.scope.height names.entries ≡ host_entries = ap (λ n. take n names.entries) height ∙ entries in
    let known : seen table (take names.scope.height names.entries) names.scope.level ≡ seen table host_entries 0 = ap (λ xs. seen table xs names.scope.level) e ∙ ap (λ n. seen table host_entries n) level in
    ap (λ z. record { env = z; floor = names.scope.floor; slots = names.scope.slots; flags = names.scope.flags.set }) known ∙
    ap (λ n. record { env = seen table host_entries 0; floor = n; slots = names.scope.slots; flags = names.scope.flags.set }) floor ∙
    ap (λ n. record { env = seen table host_entries 0; floor = 3; slots = n; flags = names.scope.flags.set }) slots ∙
    ap (λ g. record { env = seen table host_entries 0; floor = 3; slots = 0; flags = g }) flags

-- a table with its form and its walk has its verdict
pub judged-walk : (table : List Node) (r : Result ValueType Fault) (after : Code) → Sized table → LaidOut table → GaveProgram table r after → Judged table (verdict_of r after)
judged-walk table (Ok t) after sized laid given =
    let e = given laid.0 (layout-lays laid.0 table laid.2) (layout-end laid.0 table laid.2) in
    subst (λ v. Judged table v) e (walked laid.0 laid.1 laid.2 sized)
judged-walk table (Err f) after sized laid given =
    let e = given laid.0 (layout-lays laid.0 table laid.2) (layout-end laid.0 table laid.2) in
    subst (λ v. Judged table v) e (walked laid.0 laid.1 laid.2 sized)

-- a refusal's verdict says nothing of the code
pub judged-bare : (table : List Node) (r : Result ValueType Fault) (laid bare : Code) → is_err r ≡ true → Judged table (verdict_of r laid) → Judged table (verdict_of r bare)
judged-bare table (Ok t) laid bare e j = absurd (false≢true e)
judged-bare table (Err f) laid bare e j = j

-- a program's inside, in the program's scope and with nothing laid before it
module _ (table : List Node) (names : Names) (before : Code) (bare : count before ≡ 0) (outer : scope_of table names ≡ outermost) where
  inside_is : (ds : Declarations) (ss : Statements) (z : Final) → inside outermost ss z [] (λ q c. walk_declarations ds q c) ≡ inside (scope_of table names) ss z (live before) (λ q c. walk_declarations ds q c)
  inside_is ds ss z =
      ap (λ o. inside o ss z [] (λ q c. walk_declarations ds q c)) (sym outer) ∙
      ap (λ c. inside (scope_of table names) ss z c (λ q c. walk_declarations ds q c)) (sym (nil_from_length (live before) bare))

  pub program-refused : (y : Fault) → ((ds : Declarations) (ss : Statements) (z : Final) → LaysMembers table ds ss z 1 (length table) → inside (scope_of table names) ss z (live before) (λ q c. walk_declarations ds q c) ≡ Err y) → (p : Program) → Lays (of_program p) table 0 → end_at table 0 ≡ length table → walk_program p ≡ Err y
  program-refused y e p l end =
      let m = members table (length table) p l end in
      m.4 ∙ breaks ending (inside_is m.0 m.1 m.2 ∙ e m.0 m.1 m.2 m.3)

  pub program-done : (t : ValueType) (after : List Instr) → ((ds : Declarations) (ss : Statements) (z : Final) → LaysMembers table ds ss z 1 (length table) → inside (scope_of table names) ss z (live before) (λ q c. walk_declarations ds q c) ≡ Ok (t, after)) → (p : Program) → Lays (of_program p) table 0 → end_at table 0 ≡ length table → walk_program p ≡ Ok (t, laid after 27 (gives t))
  program-done t after e p l end =
      let m = members table (length table) p l end in
      m.4 ∙ goes ending (inside_is m.0 m.1 m.2 ∙ e m.0 m.1 m.2 m.3)
