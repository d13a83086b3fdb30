-- The instructions that touch the machine and its cells alone, on whole cells and on the stack. Assumes nothing.
use Rattle.std.proofs.Common.{◌≡◌, ℕ, suc, ◌+◌, ◌-◌, ◌<◌, ◌≤◌, cond, leb, List, [], ◌∷◌, ◌++◌, length, drop, set, replicate, Ok, sym, refl, ap, ◌∙◌, subst, arith, length-append, length-drop, drop-drop}
use lib.ListN.{length-replicate}
use Rattle.std.proofs.lemmas.Bool.{leb-true}
use Rattle.language.specs.declared.values.Value.{Value}
use Rattle.language.specs.declared.values.Operator.{Operator}
use Rattle.language.specs.Operators.{applied, negated}
use Rattle.image.specs.declared.instruction.Slot.{Slot}
use Rattle.image.specs.declared.instruction.Entry.{Entry}
use Rattle.image.specs.declared.instruction.Local.{Local}
use Rattle.image.specs.declared.instruction.Local.TheVariants.{PushNumber, PushTruth, Load, Store, Operate, Not, Discard, Jump, JumpIfFalse, Open, Call, Return, ReturnValue}
use Rattle.machine.specs.declared.cells.Cell.{Cell}
use Rattle.machine.specs.declared.cells.Cell.TheVariants.{Unset, Number, Truth, Link}
use Rattle.machine.specs.declared.frames.Frame.{Frame}
use Rattle.machine.specs.Cells.{cell_of, link, value, truth, values}
use Rattle.machine.specs.Frames.{at, arguments, caller, four_links, outer, place}
use Rattle.machine.specs.State.{State, no_room, pushed, loaded, stored, replaced, operated, turned, discarded, jumped, branched, opened, called, cleared, laid, returned, returned_value}
use Rattle.machine.specs.Step.{local}
use Rattle.stack.specs.Stack.{carry_local, stack, cell_at, put_at, holds, push, load, store, operate, negate, discard, branch, open_links, framed, call_to, below, give_back, give_back_value, on_to}
use Rattle.stack.specs.Law.{over, whole, laid_over}
use Rattle.stack.proofs.Over.{length_over, drop-over, read-top, read_below, set_below, length-put_at, again, put, put_four, cleared-over, above-below}
use Rattle.stack.proofs.Alike.{given, Found, outer_same, place_same, place_found, caller-same, four_links-same, arguments-same}
use Rattle.stack.proofs.Agree.{Agree, agree-ok, agree-bind, agree-cond, state-same, held}

-- the stack is within the cells
pub fits : (s j : List Cell) → length s ≤ length (over s j)
fits s j = omega (arith, length_over s j)

-- a cell over what lies below, where there is a place for it
put-over : (w t j : List Cell) (v : Cell) → w ≡ over t j → length t < length w → set w (length t) v ≡ over (v ∷ t) (drop (suc (length t)) w)
put-over w t [] v e h = absurd (omega (arith, length_over t [], ap length e))
put-over w t (x ∷ j) v e h = put w t x v j e

-- the topmost cell, and the one below it
pub top_one : (d : Cell) (s j : List Cell) → at (over (d ∷ s) j) (length (d ∷ s) - 1) ≡ d
top_one d s j =
    let e : suc (length s) - 1 ≡ length s = omega arith in
    ap (at (over (d ∷ s) j)) e ∙ read-top s d j

pub top-two : (d e : Cell) (s j : List Cell) → at (over (d ∷ e ∷ s) j) (length (d ∷ e ∷ s) - 2) ≡ e
top-two d e s j =
    let p : suc (suc (length s)) - 2 ≡ length s = omega arith in
    ap (at (over (d ∷ e ∷ s) j)) p ∙ read-top s e (d ∷ j)

-- one cell is replaced by another, or two by one
pub replaced-one : (c b : ℕ) (d : Cell) (s j : List Cell) (v : Value) → replaced 1 v (whole (stack c b (d ∷ s)) j) ≡ laid_over (over (d ∷ s) j) (stack (c + 1) b (cell_of v ∷ s))
replaced-one c b d s j v =
    let p : suc (length s) - 1 ≡ length s = omega arith in
    state-same refl refl (omega arith) (ap (λ n. set (over (d ∷ s) j) n (cell_of v)) p ∙ put (over (d ∷ s) j) s d (cell_of v) j refl)

replaced-two : (c b : ℕ) (d e : Cell) (s j : List Cell) (v : Value) → replaced 2 v (whole (stack c b (d ∷ e ∷ s)) j) ≡ laid_over (over (d ∷ e ∷ s) j) (stack (c + 1) b (cell_of v ∷ s))
replaced-two c b d e s j v =
    let p : suc (suc (length s)) - 2 ≡ length s = omega arith in
    state-same refl refl (omega arith) (ap (λ n. set (over (d ∷ e ∷ s) j) n (cell_of v)) p ∙ put (over (d ∷ e ∷ s) j) s e (cell_of v) (d ∷ j) refl)

-- so many cells lie below a base
length-below : (s : List Cell) (k : ℕ) → k ≤ length s → length (below k s) ≡ k
length-below s k l = omega (arith, length-drop (length s - k) s)

-- a new frame's cells
laid-over : (c b : ℕ) (s j : List Cell) (e : Entry) (base : ℕ) → base + 3 < length s → length s + e.others ≤ length (over s j) → (laid e base (whole (stack c b s) j) ≡ over (framed e base (stack c b s)) (drop (length (framed e base (stack c b s))) (over s j))) × (length (framed e base (stack c b s)) ≡ length s + e.others)
laid-over c b s j e base l r =
    let x = Link (c + 1) in
    let y = Link (e.parameters + e.others) in
    let s₁ = put_at s (base + 2) x in
    let s₂ = put_at s₁ (base + 3) y in
    let n₁ : length s₁ ≡ length s = length-put_at s (base + 2) x in
    let n₂ : length s₂ ≡ length s = length-put_at s₁ (base + 3) y ∙ n₁ in
    let n : length (framed e base (stack c b s)) ≡ length s + e.others = omega (arith, length-append (replicate e.others Unset) s₂, length-replicate e.others Unset) in (
      ap (λ z. cleared e.others (set z (base + 3) y) (length s)) (set_below s j (base + 2) x (omega arith))
          ∙ ap (λ z. cleared e.others z (length s)) (set_below s₁ j (base + 3) y (omega arith))
          ∙ cleared-over e.others s₂ j (length s) n₂ (omega (arith, length_over s j))
          ∙ ap (over (replicate e.others Unset ++ s₂))
          (sym (ap (λ k. drop k (over s j)) n ∙ sym (drop-drop e.others (length s) (over s j)) ∙ ap (drop e.others) (drop-over s j))),
      n,
    )

-- the same cells, with a lower top
pub lowered : (c b n : ℕ) (s j : List Cell) → n ≡ length s → ◌≡◌ {A = State} (record { counter = c; base = b; top = n; cells = over s j }) (laid_over (over s j) (stack c b s))
lowered c b n s j e = state-same refl refl e (sym (again (over s j) s j refl))

module _ (c b : ℕ) where
  -- each instruction by itself, at a counter and a base; push needs no frame
  push-agree : (s j : List Cell) (x : Cell) → Agree (over s j) (pushed x (whole (stack c b s) j)) (push (length (over s j)) x (stack c b s))
  push-agree s j x =
      subst (λ n. Agree (over s j) (pushed x (whole (stack c b s) j)) (cond (leb n (length (over s j))) (on_to (stack c b s) (x ∷ s)) no_room)) one_more
      (agree-cond (over s j) (leb (suc (length s)) (length (over s j))) _ _ _ λ e.
      let l = leb-true (suc (length s)) (length (over s j)) e in
      agree-ok (over s j) _ _ (state-same refl refl (omega arith) (put-over (over s j) s j x refl l)) l)
    where
      one_more : suc (length s) ≡ length s + 1
      one_more = omega arith

  module _ (f : Frame) where
    -- and the others, in a frame
    load-agree : (s j : List Cell) (slot : Slot) → Found (length s) f → Agree (over s j) (loaded slot f (whole (stack c b s) j)) (load (length (over s j)) slot f (stack c b s))
    load-agree s j slot q =
        agree-bind (over s j) (place (at (over s j)) f slot) (place (cell_at s) f slot) _ _ (place_same (at (over s j)) (cell_at s) (length s) (read_below s j) f slot (omega arith)) λ k e.
        let l = given (λ k. k < f.end) (place (cell_at s) f slot) k (place_found (cell_at s) f slot q.links) e in
        agree-bind (over s j) (value (at (over s j) k)) (value (cell_at s k)) _ _ (ap value (read_below s j k (omega arith))) λ v _.
        push-agree s j (cell_of v)

    discard-agree : (s j : List Cell) → Found (length s) f → Agree (over s j) (discarded f (whole (stack c b s) j)) (discard f (stack c b s))
    discard-agree [] j q = absurd (omega arith)
    discard-agree (d ∷ s) j q =
        agree-bind (over (d ∷ s) j) (holds f 1 (d ∷ s)) (holds f 1 (d ∷ s)) _ _ refl λ u e.
        agree-bind (over (d ∷ s) j) (value (at (over (d ∷ s) j) (length (d ∷ s) - 1))) (value d) _ _ (ap value (top_one d s j)) λ v _.
        agree-ok (over s (d ∷ j)) _ _ (lowered (c + 1) b (suc (length s) - 1) s (d ∷ j) (omega arith)) (fits s (d ∷ j))

    store-agree : (s j : List Cell) (slot : Slot) → Found (length s) f → Agree (over s j) (stored slot f (whole (stack c b s) j)) (store slot f (stack c b s))
    store-agree [] j slot q = absurd (omega arith)
    store-agree (d ∷ s) j slot q =
        let w = over (d ∷ s) j in
        agree-bind w (holds f 1 (d ∷ s)) (holds f 1 (d ∷ s)) _ _ refl λ u e.
        agree-bind w (place (at w) f slot) (place (cell_at (d ∷ s)) f slot) _ _ (place_same (at w) (cell_at (d ∷ s)) (length (d ∷ s)) (read_below (d ∷ s) j) f slot (omega arith)) λ k p.
        agree-bind w (value (at w (length (d ∷ s) - 1))) (value d) _ _ (ap value (top_one d s j)) λ v _.
        let l = given (λ k. k < f.end) (place (cell_at (d ∷ s)) f slot) k (place_found (cell_at (d ∷ s)) f slot q.links) p in
        let n = held f 1 (d ∷ s) u e in
        agree-ok w _ _ (stored-cells d s j k (cell_of v) (omega arith)) (omega (arith, length-put_at s k (cell_of v), fits s (d ∷ j)))
      where
        stored-cells : (d : Cell) (s j : List Cell) (k : ℕ) (v : Cell) → k < length s → ◌≡◌ {A = State} (record { counter = c + 1; base = b; top = length (d ∷ s) - 1; cells = set (over (d ∷ s) j) k v }) (laid_over (over (d ∷ s) j) (stack (c + 1) b (put_at s k v)))
        stored-cells d s j k v l =
            let z = length-put_at s k v in
            state-same refl refl (omega arith)
            (set_below s (d ∷ j) k v l ∙ ap (over (put_at s k v)) (sym (ap (λ n. drop n (over s (d ∷ j))) z ∙ drop-over s (d ∷ j))))

    operate-agree : (s j : List Cell) (o : Operator) → Found (length s) f → Agree (over s j) (operated o f (whole (stack c b s) j)) (operate o f (stack c b s))
    operate-agree [] j o q = absurd (omega arith)
    operate-agree (d ∷ []) j o q = absurd (omega arith)
    operate-agree (d ∷ x ∷ s) j o q =
        let w = over (d ∷ x ∷ s) j in
        agree-bind w (holds f 2 (d ∷ x ∷ s)) (holds f 2 (d ∷ x ∷ s)) _ _ refl λ u e.
        agree-bind w (values (at w (length (d ∷ x ∷ s) - 2)) (at w (length (d ∷ x ∷ s) - 1))) (values x d) _ _ (λ i. values (top-two d x s j i) (top_one d (x ∷ s) j i)) λ p _.
        agree-bind w (applied o p.0 p.1) (applied o p.0 p.1) _ _ refl λ v _.
        agree-ok w _ _ (replaced-two c b d x s j v) (fits (x ∷ s) (d ∷ j))

    negate-agree : (s j : List Cell) → Found (length s) f → Agree (over s j) (turned f (whole (stack c b s) j)) (negate f (stack c b s))
    negate-agree [] j q = absurd (omega arith)
    negate-agree (d ∷ s) j q =
        let w = over (d ∷ s) j in
        agree-bind w (holds f 1 (d ∷ s)) (holds f 1 (d ∷ s)) _ _ refl λ u e.
        agree-bind w (value (at w (length (d ∷ s) - 1))) (value d) _ _ (ap value (top_one d s j)) λ v _.
        agree-bind w (negated v) (negated v) _ _ refl λ v' _.
        agree-ok w _ _ (replaced-one c b d s j v') (fits (d ∷ s) j)

    branch-agree : (s j : List Cell) (target : ℕ) → Found (length s) f → Agree (over s j) (branched target f (whole (stack c b s) j)) (branch target f (stack c b s))
    branch-agree [] j target q = absurd (omega arith)
    branch-agree (d ∷ s) j target q =
        let w = over (d ∷ s) j in
        agree-bind w (holds f 1 (d ∷ s)) (holds f 1 (d ∷ s)) _ _ refl λ u e.
        agree-bind w (truth (at w (length (d ∷ s) - 1))) (truth d) _ _ (ap truth (top_one d s j)) λ v _.
        agree-ok w _ _ (lowered (cond v (c + 1) target) b (length (d ∷ s) - 1) s (d ∷ j) (omega arith)) (fits s (d ∷ j))

    jump-agree : (s j : List Cell) (target : ℕ) → Agree (over s j) (jumped target (whole (stack c b s) j)) (Ok (stack target b s))
    jump-agree s j target = agree-ok (over s j) _ _ (lowered target b (length s) s j refl) (fits s j)

    open-agree : (s j : List Cell) (hops : ℕ) → Found (length s) f → Agree (over s j) (opened hops f (whole (stack c b s) j)) (open_links (length (over s j)) hops f (stack c b s))
    open-agree s j hops q =
        let w = over s j in
        agree-bind w (outer hops (at w) f) (outer hops (cell_at s) f) _ _ (outer_same (at w) (cell_at s) (length s) (read_below s j) hops f (omega arith)) λ g _.
        agree-cond w (leb (length s + 4) (length w)) _ _ _ λ e.
        let l = leb-true (length s + 4) (length w) e in
        agree-ok w _ _ (state-same refl refl (omega arith) (put_four s (Link g.base) (Link b) (Link 0) (Link 0) j (omega (arith, length_over s j)))) (omega arith)

    return-agree : (s j : List Cell) → Found (length s) f → Agree (over s j) (returned f (whole (stack c b s) j)) (give_back f (stack c b s))
    return-agree s j q =
        let w = over s j in
        agree-bind w (caller (at w) f) (caller (cell_at s) f) _ _ (caller-same (at w) (cell_at s) (length s) (read_below s j) f (omega arith)) λ g _.
        agree-bind w (link (at w (f.base + 2))) (link (cell_at s (f.base + 2))) _ _ (ap link (read_below s j (f.base + 2) (omega arith))) λ next _.
        let n = length-below s f.base (omega arith) in
        let a = above-below (length s - f.base) s j in
        agree-ok w _ _ (state-same refl refl (sym n) (sym (again w (below f.base s) a.0 a.1))) (omega (arith, fits s j))

    return_value-agree : (s j : List Cell) → Found (length s) f → Agree (over s j) (returned_value f (whole (stack c b s) j)) (give_back_value f (stack c b s))
    return_value-agree [] j q = absurd (omega arith)
    return_value-agree (d ∷ s) j q =
        let w = over (d ∷ s) j in
        agree-bind w (caller (at w) f) (caller (cell_at (d ∷ s)) f) _ _ (caller-same (at w) (cell_at (d ∷ s)) (length (d ∷ s)) (read_below (d ∷ s) j) f (omega arith)) λ g _.
        agree-bind w (link (at w (f.base + 2))) (link (cell_at (d ∷ s) (f.base + 2))) _ _ (ap link (read_below (d ∷ s) j (f.base + 2) (omega arith))) λ next _.
        agree-bind w (holds f 1 (d ∷ s)) (holds f 1 (d ∷ s)) _ _ refl λ u e.
        agree-bind w (value (at w (length (d ∷ s) - 1))) (value d) _ _ (ap value (top_one d s j)) λ v _.
        let n = length-below (d ∷ s) f.base (omega arith) in
        let a = above-below (length (d ∷ s) - f.base) (d ∷ s) j in
        let t = below f.base (d ∷ s) in
        let l = fits (d ∷ s) j in
        agree-ok w _ _
        (state-same refl refl (omega arith) (ap (λ k. set w k (cell_of v)) (sym n) ∙ put-over w t a.0 (cell_of v) a.1 (omega arith)))
        (omega arith)

    call-agree : (s j : List Cell) (e : Entry) → Found (length s) f → Agree (over s j) (called e f (whole (stack c b s) j)) (call_to (length (over s j)) e f (stack c b s))
    call-agree s j e q =
        let w = over s j in
        let base : ℕ = length s - (e.parameters + 4) in
        agree-bind w (holds f (e.parameters + 4) s) (holds f (e.parameters + 4) s) _ _ refl λ u h.
        let l = held f (e.parameters + 4) s u h in
        agree-bind w (four_links (at w) base) (four_links (cell_at s) base) _ _ (four_links-same (at w) (cell_at s) (length s) (read_below s j) base (omega arith)) λ _ _.
        agree-bind w (arguments (at w) (length s - e.parameters) e.parameters) (arguments (cell_at s) (length s - e.parameters) e.parameters) _ _ (arguments-same (at w) (cell_at s) (length s) (read_below s j) (length s - e.parameters) e.parameters (omega arith)) λ _ _.
        agree-cond w (leb (length s + e.others) (length w)) _ _ _ λ r.
        let m = leb-true (length s + e.others) (length w) r in
        let p = laid-over c b s j e base (omega arith) m in
        agree-ok w _ _ (state-same refl refl (sym p.1) p.0) (omega arith)

    -- each of them
    pub local-agree : (l : Local) (s j : List Cell) → Found (length s) f → Agree (over s j) (local l f (whole (stack c b s) j)) (carry_local (length (over s j)) l f (stack c b s))
    local-agree (PushNumber z) s j q = push-agree s j (Number z)
    local-agree (PushTruth x) s j q = push-agree s j (Truth x)
    local-agree (Load slot) s j q = load-agree s j slot q
    local-agree (Store slot) s j q = store-agree s j slot q
    local-agree (Operate o) s j q = operate-agree s j o q
    local-agree Not s j q = negate-agree s j q
    local-agree Discard s j q = discard-agree s j q
    local-agree (Jump target) s j q = jump-agree s j target
    local-agree (JumpIfFalse target) s j q = branch-agree s j target q
    local-agree (Open hops) s j q = open-agree s j hops q
    local-agree (Call entry) s j q = call-agree s j entry q
    local-agree Return s j q = return-agree s j q
    local-agree ReturnValue s j q = return_value-agree s j q
