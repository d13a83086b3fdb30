-- A scope that is built from the fields of another is that one.
use Rattle.std.proofs.Common.{◌≡◌, ◌≤◌, ℕ, ap, subst, ◌∙◌}
use Rattle.std.proofs.Math.Bridge.{le_prop}
use Rattle.admission.specs.declared.scopes.Scope.{Scope}

module _ (s : Scope) where
  -- the scope with another height, and proofs of the two bounds on it
  abbrev pub built : (height : ℕ) → height ≤ 255 → s.slots ≤ height → Scope
  built height few fewer = record { height = height; level = s.level; floor = s.floor; slots = s.slots; flags = s.flags; few = few; fewer = fewer }

  -- a bound has one proof at most
  rebuilt : (few : s.height ≤ 255) (fewer : s.slots ≤ s.height) → built s.height few fewer ≡ s
  rebuilt few fewer = ap (λ p. built s.height p fewer) (le_prop few s.few) ∙ ap (built s.height s.few) (le_prop fewer s.fewer)

  pub same_scope : (height : ℕ) → s.height ≡ height → (few : height ≤ 255) (fewer : s.slots ≤ height) → built height few fewer ≡ s
  same_scope height same = subst (λ h. (few : h ≤ 255) (fewer : s.slots ≤ h) → built h few fewer ≡ s) same rebuilt
