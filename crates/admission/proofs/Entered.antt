-- A name that enters the innermost scope, over the names that there were. Assumes nothing.
use Rattle.std.proofs.Common.{◌≡◌, ℕ, ◌+◌, ◌<◌, Bool, List, [], ◌∷◌, ◌++◌, map, length, take, set, ap, ◌∙◌, sym, arith}
use Rattle.std.proofs.lemmas.List.{length-map, length-take-le, take_more_set, map-append}
use Rattle.table.specs.declared.nodes.Node.{Node}
use Rattle.walk.specs.declared.names.Entry.{Entry}
use Rattle.walk.specs.Scopes.{Named}
use Rattle.walk.specs.Known.{known}
use Rattle.walk.specs.Sets.{marked}
use Rattle.walk.specs.Programs.{Scope as Walked}
use Rattle.admission.specs.declared.scopes.Names.{Names}
use Rattle.admission.specs.Standing.{scope_of}

-- a scope by its parts
abbrev pub parts : List Named → ℕ → ℕ → ℕ → List Bool → Walked
parts names level floor slots flags =
    record { env = record { names = names; level = level }; floor = floor; slots = slots; flags = flags }

-- as many names as the height says
pub names-length : (table : List Node) (names : Names) → length (scope_of table names).env.names ≡ names.scope.height
names-length table names =
    length-map (take names.scope.height names.entries) (known table) ∙
    length-take-le names.scope.height names.entries (omega (arith, names.whole, names.scope.few))

-- one more name, over the names that there were
pub one_more : (table : List Node) (before after : Names) (e : Entry) (b : Bool) → before.scope.height < 255 → after.entries ≡ set before.entries before.scope.height e → after.scope.height ≡ before.scope.height + 1 → after.scope.level ≡ before.scope.level → after.scope.floor ≡ before.scope.floor → after.scope.slots ≡ before.scope.slots → after.scope.flags.set ≡ marked before.scope.flags.set before.scope.height b → scope_of table after ≡ parts (map (known table) (take before.scope.height before.entries) ++ known table e ∷ []) before.scope.level before.scope.floor before.scope.slots (marked before.scope.flags.set (length (map (known table) (take before.scope.height before.entries))) b)
one_more table before after e b h entries height level floor slots flags =
    ap (λ x. parts (map (known table) x) after.scope.level after.scope.floor after.scope.slots after.scope.flags.set) (ap (λ k. take k after.entries) height ∙ ap (take (before.scope.height + 1)) entries ∙ take_more_set before.entries before.scope.height e (omega (arith, before.whole))) ∙
    ap (λ x. parts x after.scope.level after.scope.floor after.scope.slots after.scope.flags.set) (map-append (known table) (take before.scope.height before.entries) (e ∷ [])) ∙
    ap (λ l. parts (map (known table) (take before.scope.height before.entries) ++ known table e ∷ []) l after.scope.floor after.scope.slots after.scope.flags.set) level ∙
    ap (λ f. parts (map (known table) (take before.scope.height before.entries) ++ known table e ∷ []) before.scope.level f after.scope.slots after.scope.flags.set) floor ∙
    ap (λ n. parts (map (known table) (take before.scope.height before.entries) ++ known table e ∷ []) before.scope.level before.scope.floor n after.scope.flags.set) slots ∙
    ap (λ g. parts (map (known table) (take before.scope.height before.entries) ++ known table e ∷ []) before.scope.level before.scope.floor before.scope.slots g) (flags ∙ ap (λ n. marked before.scope.flags.set n b) (sym (names-length table before)))
