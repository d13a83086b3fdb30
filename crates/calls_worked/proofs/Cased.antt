-- The eleven rule sets come to what is worked out, by computation: each table has its tree, the tree its verdict, and the verdict its run. Assumes nothing.
use Rattle.std.proofs.Common.{◌≡◌, ℕ, List, [], ◌∷◌, pos, negsuc, false, Ok, Err, lit≤, refl, subst}
use Rattle.language.specs.declared.faults.Cause.TheVariants as causes
use Rattle.language.specs.declared.faults.Stop.TheVariants as stops
use Rattle.language.specs.declared.faults.WalkRefusal.TheVariants.{NotSet}
use Rattle.language.specs.declared.values.Value.TheVariants.{Number, Truth}
use Rattle.table.specs.declared.nodes.Node.{Node}
use Rattle.table.specs.Tree.{Program}
use Rattle.table.specs.Layout.{WithinLimits, layout}
use Rattle.table.specs.Answers.{Sized}
use Rattle.table.specs.Samples.{sum_tree, sum_table, recursion_tree, recursion_table, one_branch_tree, one_branch_table, two_branches_tree, two_branches_table, unset_argument_tree, unset_argument_table, set_in_body_tree, set_in_body_table, quotient_tree, quotient_table, least_quotient_tree, least_quotient_table, by_zero_tree, by_zero_table, grouped_tree, grouped_table, both_sides_tree, both_sides_table}
use Rattle.calls_worked.proofs.Computed.{samples-laid-out}
use Rattle.walk.specs.Programs.{walk_program}
use Rattle.walk.specs.Sets.{both}
use Rattle.admission.specs.Judged.{Judged, walked}
use Rattle.calls.specs.declared.call.Call.TheVariants.{Begin, Continue}
use Rattle.calls.specs.declared.call.Answer.TheVariants.{Admitted, Begun}
use Rattle.calls.specs.Called.{Answered}
use Rattle.calls.specs.Played.{Played, answers_of}
use Rattle.calls_worked.specs.Sample.{admit}
use Rattle.calls_worked.specs.Cases.{fresh, RunsTo, ReadsUnset, ends, halts, Worked}
use Rattle.calls_worked.proofs.Folded.{after, entries, plays}

-- a tree that lays a table out within the limits
abbrev Lays : Program → List Node → Type 0
Lays p table = WithinLimits p × (layout p ≡ table) × Sized table

verdict : (p : Program) (table : List Node) → Lays p table → Judged table (walk_program p)
verdict p table l = walked p l.0 l.1 l.2

runs : (p : Program) (table : List Node) (room words : ℕ) (answer : Answered)
    → Lays p table
    → answers_of (entries (walk_program p) (admit table ∷ Begin ∷ Continue 1000 ∷ []) (fresh room)) ≡ Ok (Admitted words) ∷ Ok Begun ∷ answer ∷ []
    → RunsTo room table words answer
runs p table room words answer l told = (
  after (walk_program p) (admit table ∷ Begin ∷ Continue 1000 ∷ []) (fresh room),
  plays (walk_program p) _ _ (fresh room) (verdict p table l, (tt, (tt, tt))) told,
)

unset : (p : Program) (table : List Node) (place : ℕ)
    → Lays p table
    → answers_of (entries (walk_program p) (admit table ∷ []) (fresh 100)) ≡ Err (record { cause = causes.Walk NotSet; place = place }) ∷ []
    → after (walk_program p) (admit table ∷ []) (fresh 100) ≡ fresh 100
    → ReadsUnset table place
unset p table place l told same =
    subst (λ w. Played (admit table ∷ []) (Err (record { cause = causes.Walk NotSet; place = place }) ∷ []) (fresh 100) w) same
    (plays (walk_program p) _ _ (fresh 100) (verdict p table l, tt) told)

-- the samples are laid out by their trees, one after another
abbrev sum-laid : Lays sum_tree sum_table
sum-laid = (samples-laid-out.0, samples-laid-out.1, (lit≤ tt, lit≤ tt))

abbrev recursion-laid : Lays recursion_tree recursion_table
recursion-laid = (samples-laid-out.2.0, samples-laid-out.2.1, (lit≤ tt, lit≤ tt))

abbrev one-branch-laid : Lays one_branch_tree one_branch_table
one-branch-laid = (samples-laid-out.2.2.0, samples-laid-out.2.2.1, (lit≤ tt, lit≤ tt))

abbrev two-branches-laid : Lays two_branches_tree two_branches_table
two-branches-laid = (samples-laid-out.2.2.2.0, samples-laid-out.2.2.2.1, (lit≤ tt, lit≤ tt))

abbrev unset-argument-laid : Lays unset_argument_tree unset_argument_table
unset-argument-laid = (samples-laid-out.2.2.2.2.0, samples-laid-out.2.2.2.2.1, (lit≤ tt, lit≤ tt))

abbrev set-in-body-laid : Lays set_in_body_tree set_in_body_table
set-in-body-laid = (samples-laid-out.2.2.2.2.2.0, samples-laid-out.2.2.2.2.2.1, (lit≤ tt, lit≤ tt))

abbrev quotient-laid : Lays quotient_tree quotient_table
quotient-laid = (samples-laid-out.2.2.2.2.2.2.0, samples-laid-out.2.2.2.2.2.2.1, (lit≤ tt, lit≤ tt))

abbrev least-quotient-laid : Lays least_quotient_tree least_quotient_table
least-quotient-laid = (samples-laid-out.2.2.2.2.2.2.2.0, samples-laid-out.2.2.2.2.2.2.2.1, (lit≤ tt, lit≤ tt))

abbrev by-zero-laid : Lays by_zero_tree by_zero_table
by-zero-laid = (samples-laid-out.2.2.2.2.2.2.2.2.0, samples-laid-out.2.2.2.2.2.2.2.2.1, (lit≤ tt, lit≤ tt))

abbrev grouped-laid : Lays grouped_tree grouped_table
grouped-laid = (samples-laid-out.2.2.2.2.2.2.2.2.2.0, samples-laid-out.2.2.2.2.2.2.2.2.2.1, (lit≤ tt, lit≤ tt))

abbrev both-sides-laid : Lays both_sides_tree both_sides_table
both-sides-laid = (samples-laid-out.2.2.2.2.2.2.2.2.2.2.0, samples-laid-out.2.2.2.2.2.2.2.2.2.2.1, (lit≤ tt, lit≤ tt))

two-branches : RunsTo 100 two_branches_table 22 (ends 7 (Number (pos 1)))
unfolding both
two-branches = runs two_branches_tree two_branches_table 100 22 (ends 7 (Number (pos 1))) two-branches-laid refl

pub worked : Worked
worked = record {
  sum = runs sum_tree sum_table 100 16 (ends 6 (Number (pos 7))) sum-laid refl;
  sum-in-six-cells = runs sum_tree sum_table 6 16 (halts 2 stops.NoRoom 3) sum-laid refl;
  recursion = runs recursion_tree recursion_table 100 44 (ends 60 (Number (pos 10))) recursion-laid refl;
  one-branch = unset one_branch_tree one_branch_table 28 one-branch-laid refl refl;
  two-branches = two-branches;
  unset-argument = unset unset_argument_tree unset_argument_table 27 unset-argument-laid refl refl;
  set-in-a-body = unset set_in_body_tree set_in_body_table 34 set-in-body-laid refl refl;
  quotient = runs quotient_tree quotient_table 100 16 (ends 6 (Number (negsuc 2))) quotient-laid refl;
  least-quotient = runs least_quotient_tree least_quotient_table 100 24 (halts 8 stops.OutOfRange 9) least-quotient-laid refl;
  by_zero = runs by_zero_tree by_zero_table 100 12 (halts 2 stops.DivisorZero 3) by-zero-laid refl;
  grouped = runs grouped_tree grouped_table 100 16 (ends 6 (Truth false)) grouped-laid refl;
  both-sides = runs both_sides_tree both_sides_table 100 20 (halts 3 stops.DivisorZero 4) both-sides-laid refl;
}
