-- The walk's names and flags beside the environment of the typing rules. Assumes nothing.
use Rattle.std.proofs.Common.{◌≡◌, ℕ, ◌+◌, ◌<◌, ◌≤◌, Bool, true, false, cond, ◌&&◌, eqb, List, [], ◌∷◌, length, get_or, set, Some, None, Option, sym, refl, ap, ◌∙◌, subst, arith}
use Rattle.std.proofs.lemmas.List.{get_or-set_same, get_or-set_other}
use Rattle.std.proofs.lemmas.Bool.{eqb-true, eqb-false, le-leb, lt-leb}
use Rattle.language.specs.declared.values.ValueType.{ValueType}
use Rattle.typing.specs.Scopes as rules
use Rattle.typing.specs.Scopes.{Env, Status, Found, or_outward, outward, is_there, initialised, set_in, choose_named, find, found, choose, worse}
use Rattle.typing.specs.Scopes.Status.{dec, init}
use Rattle.typing.specs.Scopes.Named.{variable as variable', function as function'}
use Rattle.typing.specs.Rules.{Valued, top}
use Rattle.walk.specs.Scopes.{Thing, named, entry, lookup}
use Rattle.walk.specs.Scopes.Thing.{variable, function, amount, flag, post}
use Rattle.walk.specs.Sets.{both}
use Rattle.walk.specs.Programs.{at_or_above}
use Rattle.walk.proofs.Joined.{both_at}
use Rattle.verdict.proofs.Piles.{Pile, level, size, floor, env, seek, size-with, size-hosts, floor-size, entry-older, entry-newest, lookup-seek}
use Rattle.verdict.proofs.Piles.Pile.{base, opened, with}

-- a variable is set where its flag says so
pub data Flagged : Status → Bool → Type 0 where
  not_yet : Flagged dec false
  already : Flagged init true

-- parameters have values
pub data AllValued : List ValueType → Type 0 where
  none_valued : AllValued []
  one_valued : {t : ValueType} {ts : List ValueType} → Valued t → AllValued ts → AllValued (t ∷ ts)

-- What a name stands for is the same on both sides, where its flag is this and functions with these numbers have those entries
pub data Same (Entered : ℕ → ℕ → Type 0) : Bool → rules.Named → Thing → Type 0 where
  same_variable : {b : Bool} {s : Status} {t : ValueType} {k : ℕ} → Flagged s b → Valued t → Same Entered b (variable' s t k) (variable t k)
  same_function : {b : Bool} {n e : ℕ} {ts : List ValueType} {t : ValueType} → Entered n e → AllValued ts → Same Entered b (function' n ts t) (function t ts e)

-- Each scope has the names that entered it, and each name stands for the same on both sides
pub data Related (Entered : ℕ → ℕ → Type 0) (flags : List Bool) : Env → Pile → Type 0 where
  related_base : Related Entered flags ([] ∷ []) base
  related_opened : {Γ : Env} {pile : Pile} → Related Entered flags Γ pile → Related Entered flags ([] ∷ Γ) (opened pile)
  related_with : {σ : rules.Scope} {Γ : Env} {pile : Pile} {x : ℕ} {n : rules.Named} {th : Thing} → Related Entered flags (σ ∷ Γ) pile → Same Entered (get_or flags (size pile) false) n th → Related Entered flags ((rules.bind x n ∷ σ) ∷ Γ) (with x th pile)

-- What a name was found to be, on both sides: a name in a scope so many hops off, one of the host's three, or nothing
pub data Sought (Entered : ℕ → ℕ → Type 0) (flags : List Bool) (pile : Pile) (x : ℕ) : Option Found → Option ℕ → Type 0 where
  in_scope : {h k l : ℕ} {n : rules.Named} {th : Thing} → k < size pile → 3 ≤ k → entry (env pile) k ≡ named x l th → level pile ≡ h + l → Same Entered (get_or flags k false) n th → Sought Entered flags pile x (found h n) (Some k)
  the_amount : x ≡ 0 → entry (env pile) 0 ≡ named 0 0 amount → Sought Entered flags pile x None (Some 0)
  the_flag : x ≡ 1 → entry (env pile) 1 ≡ named 1 0 flag → Sought Entered flags pile x None (Some 1)
  the_post : x ≡ 2 → entry (env pile) 2 ≡ named 2 0 post → Sought Entered flags pile x None (Some 2)
  nowhere : 3 ≤ x → Sought Entered flags pile x None None

three : (x : ℕ) → (0 ≡ x → ⊥) → (1 ≡ x → ⊥) → (2 ≡ x → ⊥) → 3 ≤ x
three x a b c = omega arith

module _ (Entered : ℕ → ℕ → Type 0) (flags : List Bool) where
  -- one more scope is one more hop
  further : (pile : Pile) (x : ℕ) (o : Option Found) (i : Option ℕ) → Sought Entered flags pile x o i → Sought Entered flags (opened pile) x (outward o) i
  further pile x o i (in_scope {h} k g e l s) = in_scope k g e (omega arith) s
  further pile x o i (the_amount e f) = the_amount e f
  further pile x o i (the_flag e f) = the_flag e f
  further pile x o i (the_post e f) = the_post e f
  further pile x o i (nowhere g) = nowhere g

  -- one more name that is another
  past : (pile : Pile) (x y : ℕ) (th : Thing) (o : Option Found) (i : Option ℕ) → Sought Entered flags pile x o i → Sought Entered flags (with y th pile) x o i
  past pile x y th o i (in_scope {k} h g e l s) = in_scope (omega (arith, size-with y th pile)) g (entry-older y th pile k h ∙ e) l s
  past pile x y th o i (the_amount e f) = the_amount e (entry-older y th pile 0 (omega (arith, size-hosts pile)) ∙ f)
  past pile x y th o i (the_flag e f) = the_flag e (entry-older y th pile 1 (omega (arith, size-hosts pile)) ∙ f)
  past pile x y th o i (the_post e f) = the_post e (entry-older y th pile 2 (omega (arith, size-hosts pile)) ∙ f)
  past pile x y th o i (nowhere g) = nowhere g

  sought-hosts : (a b c : Bool) (x : ℕ) → eqb 0 x ≡ a → eqb 1 x ≡ b → eqb 2 x ≡ c → Sought Entered flags base x None (cond c (Some 2) (cond b (Some 1) (cond a (Some 0) None)))
  sought-hosts a b true x p q r = the_post (sym (eqb-true 2 x r)) refl
  sought-hosts a true false x p q r = the_flag (sym (eqb-true 1 x q)) refl
  sought-hosts true false false x p q r = the_amount (sym (eqb-true 0 x p)) refl
  sought-hosts false false false x p q r = nowhere (three x (eqb-false 0 x p) (eqb-false 1 x q) (eqb-false 2 x r))

  sought : (Γ : Env) (pile : Pile) (x : ℕ) → Related Entered flags Γ pile → Sought Entered flags pile x (rules.lookup x Γ) (seek pile x)
  sought Γ pile x related_base = sought-hosts (eqb 0 x) (eqb 1 x) (eqb 2 x) x refl refl refl
  sought Γ pile x (related_opened {Γ = Γ₀} {pile = below} r) = further below x (rules.lookup x Γ₀) (seek below x) (sought Γ₀ below x r)
  sought Γ pile x (related_with {σ = σ} {Γ = Γ₀} {pile = below} {x = y} {n = n} {th = th} r s) = here (eqb y x) refl (sought (σ ∷ Γ₀) below x r)
    where
      here : (b : Bool) → eqb y x ≡ b → Sought Entered flags below x (rules.lookup x (σ ∷ Γ₀)) (seek below x) → Sought Entered flags (with y th below) x (or_outward (cond b (Some n) (find x σ)) (rules.lookup x Γ₀)) (cond b (Some (size below)) (seek below x))
      here true e q = in_scope (omega (arith, size-with y th below)) (size-hosts below) (entry-newest y th below ∙ ap (λ z. named z (level below) th) (eqb-true y x e)) (omega arith) s
      here false e q = past below x y th (rules.lookup x (σ ∷ Γ₀)) (seek below x) q

  -- what the walk finds and what the rules find is the same
  pub looked : {Γ : Env} {pile : Pile} (x : ℕ) → Related Entered flags Γ pile → Sought Entered flags pile x (rules.lookup x Γ) (lookup (env pile) x)
  looked {Γ} {pile} x r = subst (λ i. Sought Entered flags pile x (rules.lookup x Γ) i) (sym (lookup-seek pile x)) (sought Γ pile x r)

  -- a name that was found lies in the list
  sought-below : {pile : Pile} {x k : ℕ} {o : Option Found} → Sought Entered flags pile x o (Some k) → k < size pile
  sought-below (in_scope h g e l s) = h
  sought-below {pile} (the_amount e f) = omega (arith, size-hosts pile)
  sought-below {pile} (the_flag e f) = omega (arith, size-hosts pile)
  sought-below {pile} (the_post e f) = omega (arith, size-hosts pile)

  seek-below : {Γ : Env} {pile : Pile} (x k : ℕ) → Related Entered flags Γ pile → seek pile x ≡ Some k → k < size pile
  seek-below {Γ} {pile} x k r e = sought-below {pile = pile} {x = x} {k = k} {o = rules.lookup x Γ} (subst (λ i. Sought Entered flags pile x (rules.lookup x Γ) i) e (sought Γ pile x r))

  -- the flag of each name is what matters
  pub related-flags : (f : List Bool) {Γ : Env} {pile : Pile} → ((j : ℕ) → j < size pile → get_or flags j false ≡ get_or f j false) → Related Entered flags Γ pile → Related Entered f Γ pile
  related-flags f same related_base = related_base
  related-flags f same (related_opened r) = related_opened (related-flags f same r)
  related-flags f same (related_with {pile = pile} {x = x} {n = n} {th = th} r s) =
      related_with (related-flags f (λ j h. same j (omega (arith, size-with x th pile))) r) (subst (λ b. Same Entered b n th) (same (size pile) (omega (arith, size-with x th pile))) s)

  same_set : {b : Bool} {n : rules.Named} {th : Thing} → Same Entered b n th → Same Entered true (initialised n) th
  same_set (same_variable f v) = same_variable already v
  same_set (same_function e v) = same_function e v

  -- a variable is set on both sides
  pub related-set : {Γ : Env} {pile : Pile} (x k : ℕ) → size pile ≤ length flags → seek pile x ≡ Some k → Related Entered flags Γ pile → Related Entered (set flags k true) (rules.set x Γ) pile
  related-set x k room e related_base = related_base
  related-set x k room e (related_opened r) = related_opened (related-set x k room e r)
  related-set x k room e (related_with {σ = σ} {Γ = Γ} {pile = pile} {x = y} {n = n} {th = th} r s) =
      there (eqb y x) refl e (λ f. related-set x k (omega (arith, size-with y th pile)) f r)
    where
      grown : size (with y th pile) ≡ size pile + 1
      grown = size-with y th pile

      inside : (there : Bool) → k < size pile → Related Entered (set flags k true) (cond there (set_in x σ ∷ Γ) (σ ∷ rules.set x Γ)) pile → Related Entered (set flags k true) (cond there ((rules.bind y n ∷ set_in x σ) ∷ Γ) ((rules.bind y n ∷ σ) ∷ rules.set x Γ)) (with y th pile)
      inside true h q = related_with q (subst (λ b. Same Entered b n th) (sym (get_or-set_other flags k (size pile) true false (omega arith))) s)
      inside false h q = related_with q (subst (λ b. Same Entered b n th) (sym (get_or-set_other flags k (size pile) true false (omega arith))) s)

      there : (b : Bool) → eqb y x ≡ b → cond b (Some (size pile)) (seek pile x) ≡ Some k → (seek pile x ≡ Some k → Related Entered (set flags k true) (rules.set x (σ ∷ Γ)) pile) → Related Entered (set flags k true) (cond (is_there (cond b (Some n) (find x σ))) (cond b (rules.bind y (initialised n) ∷ σ) (rules.bind y n ∷ set_in x σ) ∷ Γ) ((rules.bind y n ∷ σ) ∷ rules.set x Γ)) (with y th pile)
      there true q f inner =
          let at : size pile ≡ k = cc in
          related_with (related-flags (set flags k true) (λ j h. sym (get_or-set_other flags k j true false (omega arith))) r)
          (subst (λ b. Same Entered b (initialised n) th) (sym (ap (λ j. get_or (set flags k true) j false) at ∙ get_or-set_same flags k true false (omega (arith, grown)))) (same_set s))
      there false q f inner = inside (is_there (find x σ)) (seek-below x k r f) (inner f)

  -- a name is in the innermost scope where the walk finds it at or above that scope's first
  above-hosts : (a b c : Bool) → at_or_above 3 (cond c (Some 2) (cond b (Some 1) (cond a (Some 0) None))) ≡ false
  above-hosts a b true = refl
  above-hosts a true false = refl
  above-hosts true false false = refl
  above-hosts false false false = refl

  outside : {pile : Pile} {x : ℕ} {o : Option Found} {i : Option ℕ} → Sought Entered flags pile x o i → at_or_above (size pile) i ≡ false
  outside {pile} (in_scope {k = k} h g e l s) = lt-leb (size pile) k h
  outside {pile} (the_amount e f) = lt-leb (size pile) 0 (omega (arith, size-hosts pile))
  outside {pile} (the_flag e f) = lt-leb (size pile) 1 (omega (arith, size-hosts pile))
  outside {pile} (the_post e f) = lt-leb (size pile) 2 (omega (arith, size-hosts pile))
  outside (nowhere g) = refl

  sought-above : {Γ : Env} {pile : Pile} (x : ℕ) → Related Entered flags Γ pile → at_or_above (floor pile) (seek pile x) ≡ is_there (find x (top Γ))
  sought-above x related_base = above-hosts (eqb 0 x) (eqb 1 x) (eqb 2 x)
  sought-above x (related_opened {Γ = Γ} {pile = pile} r) = outside (sought Γ pile x r)
  sought-above x (related_with {σ = σ} {Γ = Γ} {pile = pile} {x = y} {n = n} r s) = newer (eqb y x) (sought-above x r)
    where
      newer : (b : Bool) → at_or_above (floor pile) (seek pile x) ≡ is_there (find x σ) → at_or_above (floor pile) (cond b (Some (size pile)) (seek pile x)) ≡ is_there (cond b (Some n) (find x σ))
      newer true e = le-leb (floor pile) (size pile) (floor-size pile)
      newer false e = e

  pub looked-above : {Γ : Env} {pile : Pile} (x : ℕ) → Related Entered flags Γ pile → at_or_above (floor pile) (lookup (env pile) x) ≡ is_there (find x (top Γ))
  looked-above {pile = pile} x r = ap (at_or_above (floor pile)) (lookup-seek pile x) ∙ sought-above x r

-- after two branches that is set which both leave set
flagged-both : {s s' : Status} {b b' : Bool} → Flagged s b → Flagged s' b' → Flagged (worse s s') (b && b')
flagged-both not_yet f = not_yet
flagged-both already f = f

module _ (Entered : ℕ → ℕ → Type 0) where
  same-both : {b b' : Bool} {n n' : rules.Named} {th : Thing} → Same Entered b n th → Same Entered b' n' th → Same Entered (b && b') (choose_named n n') th
  same-both (same_variable f v) (same_variable f' v') = same_variable (flagged-both f f') v
  same-both (same_function e v) (same_function e' v') = same_function e v

  pub related-both : {f g : List Bool} {Γ Δ : Env} {pile : Pile} → length f ≡ length g → size pile ≤ length f → Related Entered f Γ pile → Related Entered g Δ pile → Related Entered (both f g) (choose Γ Δ) pile
  related-both e room related_base related_base = related_base
  related-both e room (related_opened r) (related_opened q) = related_opened (related-both e room r q)
  related-both {f} {g} e room (related_with {pile = pile} {x = x} {n = n} {th = th} r s) (related_with {n = n'} q s') =
      let h : size pile < length f = omega (arith, size-with x th pile) in
      related_with (related-both e (omega arith) r q) (subst (λ b. Same Entered b (choose_named n n') th) (sym (both_at f g (size pile) e h)) (same-both s s'))
