-- The stack that represents an environment: a frame for each on the chain, and between two frames whatever lies there. Assumes nothing.
use Rattle.std.proofs.Common.{◌≡◌, ℕ, zero, suc, ◌+◌, ◌<◌, ◌≤◌, List, [], ◌∷◌, ◌++◌, length, take, drop, Some, None, Ok, Option, sym, refl, ap, ◌∙◌, subst, arith, length-append}
use Rattle.std.proofs.lemmas.List.{append_assoc}
use Rattle.std.proofs.lemmas.Bool.{lt-ltb, le-leb, eq-eqb, ne_eqb, cond-true, cond-false}
use Rattle.language.specs.declared.values.Value.{Value}
use Rattle.machine.specs.declared.cells.Cell.{Cell}
use Rattle.machine.specs.declared.cells.Cell.TheVariants.{Unset, Link}
use Rattle.machine.specs.declared.frames.Frame.{Frame}
use Rattle.machine.specs.Cells.{bind, cell_of, link, times}
use Rattle.machine.specs.Frames.{frame, hop, outer, place, slot_in, within}
use Rattle.stack.specs.Stack.{cell_at, put_at}
use Rattle.rules.specs.Evaluate.{Slots, Env, slot_value, variable, set_slot, set_variable, behind, in_front}

-- what a frame has on the stack besides its slots' values: how many slots, where its call returns to, the caller's base, and all the cells between it and the next frame on the chain
pub record Bone : Type 0 where
  pub slots : ℕ
  pub back : ℕ
  pub caller : ℕ
  pub under : List Cell

abbrev pub Skeleton : Type 0
Skeleton = List Bone

-- the number of cells up to the end of the first frame's slots, and the first frame's base
abbrev pub height : Skeleton → ℕ
height [] = 0
height (b ∷ sk) = length b.under + height sk + 4 + b.slots

abbrev pub base_of : Skeleton → ℕ
base_of [] = 0
base_of (b ∷ sk) = length b.under + height sk

-- the first frame, as the machine finds it
abbrev pub frame_of : Skeleton → Frame
frame_of sk = record { base = base_of sk; end = height sk }

-- the cell of a slot
abbrev pub slot_cell : Option Value → Cell
slot_cell None = Unset
slot_cell (Some v) = cell_of v

-- slots on a stack: the first lies lowest
abbrev pub stacked : Slots → List Cell → List Cell
stacked [] rest = rest
stacked (v ∷ vs) rest = stacked vs (slot_cell v ∷ rest)

-- the four links of a frame
abbrev pub links : Bone → ℕ → List Cell → List Cell
links b access rest = Link b.slots ∷ Link b.back ∷ Link b.caller ∷ Link access ∷ rest

-- the stack of an environment
abbrev pub flat : Skeleton → Env → List Cell
flat [] env = []
flat (b ∷ sk) [] = []
flat (b ∷ sk) (f ∷ env) = stacked f (links b (base_of sk) (b.under ++ flat sk env))

-- the environment has a frame for each bone, with as many slots
pub data Fits : Skeleton → Env → Type 0 where
  none : Fits [] []
  one : {b : Bone} {sk : Skeleton} {f : Slots} {env : Env} → length f ≡ b.slots → Fits sk env → Fits (b ∷ sk) (f ∷ env)

pub length-stacked : (f : Slots) (rest : List Cell) → length (stacked f rest) ≡ length rest + length f
length-stacked [] rest = omega arith
length-stacked (v ∷ vs) rest = omega (arith, length-stacked vs (slot_cell v ∷ rest))

pub stacked-front : (f : Slots) (rest : List Cell) → stacked f rest ≡ stacked f [] ++ rest
stacked-front [] rest = refl
stacked-front (v ∷ vs) rest =
    stacked-front vs (slot_cell v ∷ rest) ∙ sym (append_assoc (stacked vs []) (slot_cell v ∷ []) rest) ∙ ap (λ l. l ++ rest) (sym (stacked-front vs (slot_cell v ∷ [])))

-- the stack is as high as its skeleton says
pub length-flat : {sk : Skeleton} {env : Env} → Fits sk env → length (flat sk env) ≡ height sk
length-flat none = refl
length-flat (one {b = b} {sk = sk} {f = f} {env = env} e h) =
    omega (arith, length-stacked f (links b (base_of sk) (b.under ++ flat sk env)), length-append b.under (flat sk env), length-flat h)

-- reading and writing below what lies on top
pub at_here : (c : Cell) (rest : List Cell) (k : ℕ) → k ≡ length rest → cell_at (c ∷ rest) k ≡ c
at_here c rest k e = cond-true _ _ _ (eq-eqb k (length rest) e)

pub at_under : (c : Cell) (rest : List Cell) (k : ℕ) → k < length rest → cell_at (c ∷ rest) k ≡ cell_at rest k
at_under c rest k h = cond-false _ _ _ (ne_eqb k (length rest) (λ e. omega arith))

pub at-below : (xs ys : List Cell) (k : ℕ) → k < length ys → cell_at (xs ++ ys) k ≡ cell_at ys k
at-below [] ys k h = refl
at-below (x ∷ xs) ys k h =
    let l : k < length (xs ++ ys) = omega (arith, length-append xs ys) in
    at_under x (xs ++ ys) k l ∙ at-below xs ys k h

pub set_here : (c : Cell) (rest : List Cell) (k : ℕ) (v : Cell) → k ≡ length rest → put_at (c ∷ rest) k v ≡ v ∷ rest
set_here c rest k v e = cond-true _ _ _ (eq-eqb k (length rest) e)

pub set-under : (c : Cell) (rest : List Cell) (k : ℕ) (v : Cell) → k < length rest → put_at (c ∷ rest) k v ≡ c ∷ put_at rest k v
set-under c rest k v h = cond-false _ _ _ (ne_eqb k (length rest) (λ e. omega arith))

pub set_below : (xs ys : List Cell) (k : ℕ) (v : Cell) → k < length ys → put_at (xs ++ ys) k v ≡ xs ++ put_at ys k v
set_below [] ys k v h = refl
set_below (x ∷ xs) ys k v h =
    let l : k < length (xs ++ ys) = omega (arith, length-append xs ys) in
    set-under x (xs ++ ys) k v l ∙ ap {B = List Cell} (λ r. x ∷ r) (set_below xs ys k v h)

-- below the slots
pub at-stacked : (f : Slots) (rest : List Cell) (k : ℕ) → k < length rest → cell_at (stacked f rest) k ≡ cell_at rest k
at-stacked f rest k h = ap (λ l. cell_at l k) (stacked-front f rest) ∙ at-below (stacked f []) rest k h

pub set-stacked : (f : Slots) (rest : List Cell) (k : ℕ) (v : Cell) → k < length rest → put_at (stacked f rest) k v ≡ stacked f (put_at rest k v)
set-stacked f rest k v h =
    ap (λ l. put_at l k v) (stacked-front f rest) ∙ set_below (stacked f []) rest k v h ∙ sym (stacked-front f (put_at rest k v))

-- a slot's own cell
slot-cell : (f : Slots) (rest : List Cell) (k : ℕ) (v : Value) → slot_value f k ≡ Some v → (k < length f) × (cell_at (stacked f rest) (length rest + k) ≡ cell_of v)
slot-cell [] rest k v e = let z : ◌≡◌ {A = ℕ} 0 1 = cc in absurd (omega arith)
slot-cell (u ∷ us) rest zero v e =
    let here : length rest + 0 ≡ length rest = omega arith in
    let l : length rest + 0 < length (slot_cell u ∷ rest) = omega arith in
    (omega arith, at-stacked us (slot_cell u ∷ rest) (length rest + 0) l ∙ at_here (slot_cell u) rest (length rest + 0) here ∙ ap slot_cell e)
slot-cell (u ∷ us) rest (suc k) v e =
    let ih = slot-cell us (slot_cell u ∷ rest) k v e in
    let n : length rest + suc k ≡ length (slot_cell u ∷ rest) + k = omega arith in
    (omega (arith, ih.0), ap (λ j. cell_at (stacked us (slot_cell u ∷ rest)) j) n ∙ ih.1)

-- with a slot set, its cell is that value's, and there are as many slots as before
slot-set : (f : Slots) (rest : List Cell) (k : ℕ) (v : Value) (f' : Slots) → set_slot f k v ≡ Some f' → (k < length f) × (length f' ≡ length f) × (put_at (stacked f rest) (length rest + k) (cell_of v) ≡ stacked f' rest)
slot-set [] rest k v f' e = let z : ◌≡◌ {A = ℕ} 0 1 = cc in absurd (omega arith)
slot-set (u ∷ us) rest zero v f' e =
    let same : Some v ∷ us ≡ f' = cc in
    let here : length rest + 0 ≡ length rest = omega arith in
    let l : length rest + 0 < length (slot_cell u ∷ rest) = omega arith in (
      omega arith,
      sym (ap length same),
      set-stacked us (slot_cell u ∷ rest) (length rest + 0) (cell_of v) l ∙ ap (stacked us) (set_here (slot_cell u) rest (length rest + 0) (cell_of v) here) ∙ ap (λ g. stacked g rest) same,
    )
slot-set (u ∷ us) rest (suc k) v f' e = go (set_slot us k v) refl e (λ g a. slot-set us (slot_cell u ∷ rest) k v g a)
  where
    go : (r : Option Slots) → set_slot us k v ≡ r → behind u r ≡ Some f' → ((g : Slots) → set_slot us k v ≡ Some g → (k < length us) × (length g ≡ length us) × (put_at (stacked us (slot_cell u ∷ rest)) (length (slot_cell u ∷ rest) + k) (cell_of v) ≡ stacked g (slot_cell u ∷ rest))) → (suc k < length (u ∷ us)) × (length f' ≡ length (u ∷ us)) × (put_at (stacked (u ∷ us) rest) (length rest + suc k) (cell_of v) ≡ stacked f' rest)
    go None a b rec = let z : ◌≡◌ {A = ℕ} 0 1 = cc in absurd (omega arith)
    go (Some g) a b rec =
        let same : u ∷ g ≡ f' = cc in
        let ih = rec g a in
        let n : length rest + suc k ≡ length (slot_cell u ∷ rest) + k = omega arith in (
          omega (arith, ih.0),
          sym (ap length same) ∙ ap suc ih.1,
          ap (λ j. put_at (stacked us (slot_cell u ∷ rest)) j (cell_of v)) n ∙ ih.2 ∙ ap (λ g. stacked g rest) same,
        )

-- a frame with what lies under it, over the rest of the chain
abbrev pub over : Bone → Skeleton → Slots → List Cell
over b sk f = stacked f (links b (base_of sk) b.under)

pub stacked-append : (f : Slots) (xs rest : List Cell) → stacked f (xs ++ rest) ≡ stacked f xs ++ rest
stacked-append [] xs rest = refl
stacked-append (v ∷ vs) xs rest = stacked-append vs (slot_cell v ∷ xs) rest

pub flat-over : (b : Bone) (sk : Skeleton) (f : Slots) (env : Env) → flat (b ∷ sk) (f ∷ env) ≡ over b sk f ++ flat sk env
flat-over b sk f env = stacked-append f (links b (base_of sk) b.under) (flat sk env)

-- the cells over the chain that many hops off
abbrev pub front : ℕ → Skeleton → Env → List Cell
front zero sk env = []
front (suc h) [] env = []
front (suc h) (b ∷ sk) [] = []
front (suc h) (b ∷ sk) (f ∷ env) = over b sk f ++ front h sk env

-- whatever that chain becomes, they stay
pub flat-front : (h : ℕ) {sk : Skeleton} {env : Env} (d : Env) → Fits sk env → flat sk (take h env ++ d) ≡ front h sk env ++ flat (drop h sk) d
flat-front zero d fits = refl
flat-front (suc h) d none = refl
flat-front (suc h) d (one {b = b} {sk = sk} {f = f} {env = env} e fits) =
    flat-over b sk f (take h env ++ d) ∙ ap (λ l. over b sk f ++ l) (flat-front h d fits) ∙ sym (append_assoc (over b sk f) (front h sk env) (flat (drop h sk) d))

pub fits-back : (h : ℕ) {sk : Skeleton} {env : Env} (d : Env) → Fits sk env → Fits (drop h sk) d → Fits sk (take h env ++ d)
fits-back zero d fits k = k
fits-back (suc h) d none k = k
fits-back (suc h) d (one e fits) k = one e (fits-back h d fits k)

pub fits-drop : (h : ℕ) {sk : Skeleton} {env : Env} → Fits sk env → Fits (drop h sk) (drop h env)
fits-drop zero fits = fits
fits-drop (suc h) none = none
fits-drop (suc h) (one e fits) = fits-drop h fits

pub fits-rest : {b : Bone} {sk : Skeleton} {f : Slots} {env : Env} → Fits (b ∷ sk) (f ∷ env) → Fits sk env
fits-rest (one e fits) = fits

-- the four links of the first frame
module _ (cells u : List Cell) {b : Bone} {sk : Skeleton} {f : Slots} {env : Env} (is : cells ≡ u ++ flat (b ∷ sk) (f ∷ env)) (fits : Fits (b ∷ sk) (f ∷ env)) where
  rest-length : length (b.under ++ flat sk env) ≡ base_of (b ∷ sk)
  rest-length = omega (arith, length-append b.under (flat sk env), length-flat (fits-rest fits))

  links-there : (k : ℕ) → k < base_of (b ∷ sk) + 4 → cell_at cells k ≡ cell_at (links b (base_of sk) (b.under ++ flat sk env)) k
  links-there k l =
      let L = links b (base_of sk) (b.under ++ flat sk env) in
      let n : k < length L = omega (arith, rest-length) in
      let m : k < length (stacked f L) = omega (arith, length-stacked f L) in
      ap (λ x. cell_at x k) is ∙ at-below u (stacked f L) k m ∙ at-stacked f L k n

  pub access-link : cell_at cells (base_of (b ∷ sk)) ≡ Link (base_of sk)
  access-link =
      let R = b.under ++ flat sk env in
      let e = rest-length in
      links-there (base_of (b ∷ sk)) (omega arith)
      ∙ at_under (Link b.slots) (Link b.back ∷ Link b.caller ∷ Link (base_of sk) ∷ R) (base_of (b ∷ sk)) (omega arith)
      ∙ at_under (Link b.back) (Link b.caller ∷ Link (base_of sk) ∷ R) (base_of (b ∷ sk)) (omega arith)
      ∙ at_under (Link b.caller) (Link (base_of sk) ∷ R) (base_of (b ∷ sk)) (omega arith)
      ∙ at_here (Link (base_of sk)) R (base_of (b ∷ sk)) (sym e)

  pub caller-link : cell_at cells (base_of (b ∷ sk) + 1) ≡ Link b.caller
  caller-link =
      let R = b.under ++ flat sk env in
      let e = rest-length in
      links-there (base_of (b ∷ sk) + 1) (omega arith)
      ∙ at_under (Link b.slots) (Link b.back ∷ Link b.caller ∷ Link (base_of sk) ∷ R) (base_of (b ∷ sk) + 1) (omega arith)
      ∙ at_under (Link b.back) (Link b.caller ∷ Link (base_of sk) ∷ R) (base_of (b ∷ sk) + 1) (omega arith)
      ∙ at_here (Link b.caller) (Link (base_of sk) ∷ R) (base_of (b ∷ sk) + 1) (omega arith)

  pub back-link : cell_at cells (base_of (b ∷ sk) + 2) ≡ Link b.back
  back-link =
      let R = b.under ++ flat sk env in
      let e = rest-length in
      links-there (base_of (b ∷ sk) + 2) (omega arith)
      ∙ at_under (Link b.slots) (Link b.back ∷ Link b.caller ∷ Link (base_of sk) ∷ R) (base_of (b ∷ sk) + 2) (omega arith)
      ∙ at_here (Link b.back) (Link b.caller ∷ Link (base_of sk) ∷ R) (base_of (b ∷ sk) + 2) (omega arith)

  pub slots-link : cell_at cells (base_of (b ∷ sk) + 3) ≡ Link b.slots
  slots-link =
      let R = b.under ++ flat sk env in
      let e = rest-length in
      links-there (base_of (b ∷ sk) + 3) (omega arith)
      ∙ at_here (Link b.slots) (Link b.back ∷ Link b.caller ∷ Link (base_of sk) ∷ R) (base_of (b ∷ sk) + 3) (omega arith)

  -- the first frame is one, below any limit that it keeps
  pub frame-first : (limit : ℕ) → height (b ∷ sk) ≤ limit → frame (cell_at cells) (base_of (b ∷ sk)) limit ≡ Ok (frame_of (b ∷ sk))
  frame-first limit l =
      let B = base_of (b ∷ sk) in
      cond-true _ _ _ (le-leb (B + 4) limit (omega arith))
      ∙ (λ i. bind (link (access-link i)) (λ _. bind (link (caller-link i)) (λ _. bind (link (back-link i)) (λ _. bind (link (slots-link i)) (λ slots. within B (B + 4 + slots) limit)))))
      ∙ cond-true _ _ _ (le-leb (B + 4 + b.slots) limit l)

-- the first frame of any chain that has one
pub frame-there : (cells u : List Cell) {b : Bone} {sk : Skeleton} {env : Env} → cells ≡ u ++ flat (b ∷ sk) env → Fits (b ∷ sk) env → (limit : ℕ) → height (b ∷ sk) ≤ limit → frame (cell_at cells) (base_of (b ∷ sk)) limit ≡ Ok (frame_of (b ∷ sk))
frame-there cells u is (one e fits) limit l = frame-first cells u is (one e fits) limit l

-- the same cells, over the rest of the chain
deeper : {cells : List Cell} (u : List Cell) (b : Bone) (sk : Skeleton) (f : Slots) (env : Env) → cells ≡ u ++ flat (b ∷ sk) (f ∷ env) → cells ≡ (u ++ over b sk f) ++ flat sk env
deeper u b sk f env is = is ∙ ap (λ l. u ++ l) (flat-over b sk f env) ∙ sym (append_assoc u (over b sk f) (flat sk env))

-- a hop reaches the next frame on the chain
hop-there : (cells u : List Cell) {b : Bone} {sk : Skeleton} {f : Slots} {env : Env} → cells ≡ u ++ flat (b ∷ sk) (f ∷ env) → Fits (b ∷ sk) (f ∷ env) → 0 < length env → hop (cell_at cells) (frame_of (b ∷ sk)) ≡ Ok (frame_of sk)
hop-there cells u is (one n none) l = absurd (omega arith)
hop-there cells u {b} {f} is (one n (one {b = b'} {sk = sk} {f = f'} {env = env} e fits)) l =
    ap (λ c. bind (link c) (λ access. frame (cell_at cells) access (base_of (b ∷ b' ∷ sk)))) (access-link cells u is (one n (one e fits)))
    ∙ frame-first cells (u ++ over b (b' ∷ sk) f) (deeper u b (b' ∷ sk) f (f' ∷ env) is) (one e fits) (base_of (b ∷ b' ∷ sk)) (omega arith)

-- so do several
pub outer-there : (h : ℕ) (cells u : List Cell) {sk : Skeleton} {env : Env} → cells ≡ u ++ flat sk env → Fits sk env → h < length env → outer h (cell_at cells) (frame_of sk) ≡ Ok (frame_of (drop h sk))
outer-there zero cells u is fits l = refl
outer-there (suc h) cells u is none l = absurd (omega arith)
outer-there (suc h) cells u is (one {b = b} {sk = sk} {f = f} {env = env} e fits) l =
    ap (λ r. bind r (times h (hop (cell_at cells)))) (hop-there cells u is (one e fits) (omega arith))
    ∙ outer-there h cells (u ++ over b sk f) (deeper u b sk f env is) fits (omega arith)

-- where a variable's cell lies
abbrev pub slot_place : Skeleton → ℕ → ℕ → ℕ
slot_place sk h k = base_of (drop h sk) + 4 + k

-- a set variable's cell holds its value
pub variable-there : (h k : ℕ) (v : Value) (cells u : List Cell) {sk : Skeleton} {env : Env} → cells ≡ u ++ flat sk env → Fits sk env → variable env h k ≡ Some v → (place (cell_at cells) (frame_of sk) (record { hops = h; index = k }) ≡ Ok (slot_place sk h k)) × (cell_at cells (slot_place sk h k) ≡ cell_of v)
variable-there h k v cells u is none e = let z : ◌≡◌ {A = ℕ} 0 1 = cc in absurd (omega arith)
variable-there zero k v cells u is (one {b = b} {sk = sk} {f = f} {env = env} n fits) e =
    let L = links b (base_of sk) (b.under ++ flat sk env) in
    let found = slot-cell f L k v e in
    let R : length (b.under ++ flat sk env) ≡ base_of (b ∷ sk) = omega (arith, length-append b.under (flat sk env), length-flat fits) in
    let at : base_of (b ∷ sk) + 4 + k ≡ length L + k = omega arith in
    let low : length L + k < length (stacked f L) = omega (arith, length-stacked f L, found.0) in (
      cond-true _ _ _ (lt-ltb (base_of (b ∷ sk) + 4 + k) (height (b ∷ sk)) (omega (arith, found.0))),
      ap (cell_at cells) at ∙ ap (λ x. cell_at x (length L + k)) is ∙ at-below u (stacked f L) (length L + k) low ∙ found.1,
    )
variable-there (suc h) k v cells u is (one {b = b} {sk = sk} {f = f} {env = env} n fits) e =
    let ih = variable-there h k v cells (u ++ over b sk f) (deeper u b sk f env is) fits e in
    let some : 0 < length env = has env h e in (
      ap (λ r. bind (bind r (times h (hop (cell_at cells)))) (λ g. slot_in g k)) (hop-there cells u is (one n fits) some) ∙ ih.0,
      ih.1,
    )
  where
    has : (env : Env) (h : ℕ) → variable env h k ≡ Some v → 0 < length env
    has [] h e = let z : ◌≡◌ {A = ℕ} 0 1 = cc in absurd (omega arith)
    has (f ∷ env) h e = omega arith

-- what setting a variable comes to on the stack that represents the environment
pub record Assigns (h k : ℕ) (v : Value) (sk : Skeleton) (env env' : Env) : Type 0 where
  pub finds : (cells u : List Cell) → cells ≡ u ++ flat sk env → place (cell_at cells) (frame_of sk) (record { hops = h; index = k }) ≡ Ok (slot_place sk h k)
  pub low : slot_place sk h k < height sk
  pub sets : put_at (flat sk env) (slot_place sk h k) (cell_of v) ≡ flat sk env'
  pub fits : Fits sk env'

assigns-here : (k : ℕ) (v : Value) {b : Bone} {sk : Skeleton} {f : Slots} {env : Env} (f' : Slots) → Fits (b ∷ sk) (f ∷ env) → set_slot f k v ≡ Some f' → Assigns 0 k v (b ∷ sk) (f ∷ env) (f' ∷ env)
assigns-here k v f' (one {b = b} {sk = sk} {f = f} {env = env} n fits) e =
    let L = links b (base_of sk) (b.under ++ flat sk env) in
    let found = slot-set f L k v f' e in
    let R : length (b.under ++ flat sk env) ≡ base_of (b ∷ sk) = omega (arith, length-append b.under (flat sk env), length-flat fits) in
    let at : base_of (b ∷ sk) + 4 + k ≡ length L + k = omega arith in
    let low : base_of (b ∷ sk) + 4 + k < height (b ∷ sk) = omega (arith, found.0) in
    record {
      finds = λ cells u is. cond-true _ _ _ (lt-ltb (base_of (b ∷ sk) + 4 + k) (height (b ∷ sk)) low);
      low = low;
      sets = ap (λ x. put_at (stacked f L) x (cell_of v)) at ∙ found.2;
      fits = one (found.1 ∙ n) fits;
    }

assigns-deeper : (h k : ℕ) (v : Value) {b : Bone} {sk : Skeleton} {f : Slots} {env : Env} (env' : Env) → Fits (b ∷ sk) (f ∷ env) → 0 < length env → Assigns h k v sk env env' → Assigns (suc h) k v (b ∷ sk) (f ∷ env) (f ∷ env')
assigns-deeper h k v env' (one {b = b} {sk = sk} {f = f} {env = env} n fits) some ih =
    let low : slot_place sk h k < length (flat sk env) = omega (arith, ih.low, length-flat fits) in
    record {
      finds = λ cells u is.
          ap (λ r. bind (bind r (times h (hop (cell_at cells)))) (λ g. slot_in g k)) (hop-there cells u is (one n fits) some)
          ∙ ih.finds cells (u ++ over b sk f) (deeper u b sk f env is);
      low = omega (arith, ih.low);
      sets =
          ap (λ x. put_at x (slot_place sk h k) (cell_of v)) (flat-over b sk f env)
          ∙ set_below (over b sk f) (flat sk env) (slot_place sk h k) (cell_of v) low
          ∙ ap (λ x. over b sk f ++ x) ih.sets
          ∙ sym (flat-over b sk f env');
      fits = one n ih.fits;
    }

pub assigned-there : (h k : ℕ) (v : Value) {sk : Skeleton} {env : Env} (env' : Env) → Fits sk env → set_variable env h k v ≡ Some env' → Assigns h k v sk env env'
assigned-there h k v env' none e = let z : ◌≡◌ {A = ℕ} 0 1 = cc in absurd (omega arith)
assigned-there zero k v env' (one {b = b} {sk = sk} {f = f} {env = env} n fits) e = go (set_slot f k v) refl e
  where
    go : (r : Option Slots) → set_slot f k v ≡ r → in_front r env ≡ Some env' → Assigns 0 k v (b ∷ sk) (f ∷ env) env'
    go None a q = let z : ◌≡◌ {A = ℕ} 0 1 = cc in absurd (omega arith)
    go (Some f') a q =
        let same : f' ∷ env ≡ env' = cc in
        subst (λ x. Assigns 0 k v (b ∷ sk) (f ∷ env) x) same (assigns-here k v f' (one n fits) a)
assigned-there (suc h) k v env' (one {b = b} {sk = sk} {f = f} {env = env} n fits) e =
    go (set_variable env h k v) refl e (λ g a. assigned-there h k v g fits a)
  where
    has : (env : Env) (g : Env) → set_variable env h k v ≡ Some g → 0 < length env
    has [] g e = let z : ◌≡◌ {A = ℕ} 0 1 = cc in absurd (omega arith)
    has (f ∷ env) g e = omega arith

    go : (r : Option Env) → set_variable env h k v ≡ r → behind f r ≡ Some env' → ((g : Env) → set_variable env h k v ≡ Some g → Assigns h k v sk env g) → Assigns (suc h) k v (b ∷ sk) (f ∷ env) env'
    go None a q rec = let z : ◌≡◌ {A = ℕ} 0 1 = cc in absurd (omega arith)
    go (Some g) a q rec =
        let same : f ∷ g ≡ env' = cc in
        subst (λ x. Assigns (suc h) k v (b ∷ sk) (f ∷ env) x) same (assigns-deeper h k v g (one n fits) (has env g a) (rec g a))
