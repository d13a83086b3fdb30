-- Frames depend on the cells below their limit alone. Assumes nothing.
use Rattle.std.proofs.Common.{◌≡◌, ℕ, zero, suc, ◌+◌, ◌<◌, ◌≤◌, Bool, true, false, cond, ltb, leb, Ok, Err, Result, refl, ap, ◌∙◌, subst, arith}
use Rattle.std.proofs.lemmas.Bool.{ltb-true, leb-true}
use Rattle.language.specs.declared.faults.Halt.{Halt}
use Rattle.image.specs.declared.instruction.Slot.{Slot}
use Rattle.machine.specs.declared.cells.Cell.{Cell}
use Rattle.machine.specs.declared.frames.Frame.{Frame}
use Rattle.machine.specs.Cells.{bind, link, present, times, value}
use Rattle.machine.specs.Frames.{within, frame, hop, outer, slot_in, place, caller, four_links, present_at, value_at, arguments}

-- two ways to read that agree below a limit
abbrev pub Alike : (ℕ → Cell) → (ℕ → Cell) → ℕ → Type 0
Alike read read' n = (k : ℕ) → k < n → read k ≡ read' k

-- what is so of an answer, where there is one
pub Gives : {A : Type 0} → (A → Type 0) → Result A Halt → Type 0
Gives P (Ok a) = P a
Gives P (Err h) = Unit {0}

pub gives-ok : {A : Type 0} (P : A → Type 0) (a : A) → P a → Gives P (Ok a)
unfolding Gives
gives-ok P a p = p

pub gives-bind : {A B : Type 0} (P : B → Type 0) (x : Result A Halt) (f : A → Result B Halt) → ((a : A) → x ≡ Ok a → Gives P (f a)) → Gives P (bind x f)
unfolding Gives
gives-bind P (Ok a) f h = h a refl
gives-bind P (Err e) f h = tt

pub gives-cond : {A : Type 0} (P : A → Type 0) (b : Bool) (x : Result A Halt) (e : Halt) → (b ≡ true → Gives P x) → Gives P (cond b x (Err e))
unfolding Gives
gives-cond P true x e h = h refl
gives-cond P false x e h = tt

pub given : {A : Type 0} (P : A → Type 0) (x : Result A Halt) (a : A) → Gives P x → x ≡ Ok a → P a
unfolding Gives
given P x a g e = subst (Gives P) e g

pub bind-same : {A B : Type 0} (x y : Result A Halt) (f g : A → Result B Halt) → x ≡ y → ((a : A) → y ≡ Ok a → f a ≡ g a) → bind x f ≡ bind y g
bind-same x y f g e h = ap (λ r. bind r f) e ∙ go y f g h
  where
    go : {A B : Type 0} (y : Result A Halt) (f g : A → Result B Halt) → ((a : A) → y ≡ Ok a → f a ≡ g a) → bind y f ≡ bind y g
    go (Ok a) f g h = h a refl
    go (Err x) f g h = refl

pub cond_same : {A : Type 0} (b : Bool) (x y z : A) → (b ≡ true → x ≡ y) → cond b x z ≡ cond b y z
cond_same true x y z h = h refl
cond_same false x y z h = refl

-- what is so of a frame that was found below a limit
pub record Found (limit : ℕ) (f : Frame) : Type 0 where
  pub links : f.base + 4 ≤ f.end
  pub within : f.end ≤ limit

pub frame_found : (read : ℕ → Cell) (base limit : ℕ) → Gives (Found limit) (frame read base limit)
frame_found read base limit =
    gives-cond (Found limit) (leb (base + 4) limit) _ _ λ _.
    gives-bind (Found limit) (link (read base)) _ λ _ _.
    gives-bind (Found limit) (link (read (base + 1))) _ λ _ _.
    gives-bind (Found limit) (link (read (base + 2))) _ λ _ _.
    gives-bind (Found limit) (link (read (base + 3))) _ λ slots _.
    gives-cond (Found limit) (leb (base + 4 + slots) limit) _ _ λ e.
    gives-ok (Found limit) _ (record { links = omega arith; within = leb-true (base + 4 + slots) limit e })

pub frame_same : (read read' : ℕ → Cell) (base limit : ℕ) → Alike read read' limit → frame read base limit ≡ frame read' base limit
frame_same read read' base limit h =
    cond_same (leb (base + 4) limit) _ _ _ λ e.
    let t = leb-true (base + 4) limit e in
    let p₀ = h base (omega arith) in
    let p₁ = h (base + 1) (omega arith) in
    let p₂ = h (base + 2) (omega arith) in
    let p₃ = h (base + 3) (omega arith) in
    λ i. bind (link (p₀ i))
    (λ _. bind (link (p₁ i))
    (λ _. bind (link (p₂ i))
    (λ _. bind (link (p₃ i)) (λ slots. within base (base + 4 + slots) limit))))

pub hop-found : (read : ℕ → Cell) (f : Frame) → Gives (Found f.base) (hop read f)
hop-found read f = gives-bind (Found f.base) (link (read f.base)) _ λ access _. frame_found read access f.base

-- a hop, hops, and what they lead to, of two ways to read that agree below a limit that lies above the own base
module _ (read read' : ℕ → Cell) (limit : ℕ) (h : Alike read read' limit) where
  hop-same : (f : Frame) → f.base < limit → hop read f ≡ hop read' f
  hop-same f b =
      bind-same (link (read f.base)) (link (read' f.base)) _ _ (ap link (h f.base b)) λ access _.
      frame_same read read' access f.base (λ k l. h k (omega arith))

  pub outer_same : (n : ℕ) (f : Frame) → f.base < limit → outer n read f ≡ outer n read' f
  outer_same zero f b = refl
  outer_same (suc n) f b =
      bind-same (hop read f) (hop read' f) _ _ (hop-same f b) λ g e.
      let q = given (Found f.base) (hop read' f) g (hop-found read' f) e in
      outer_same n g (omega arith)

  pub place_same : (f : Frame) (s : Slot) → f.base < limit → place read f s ≡ place read' f s
  place_same f s b = ap (λ r. bind r (λ g. slot_in g s.index)) (outer_same s.hops f b)

  pub caller-same : (f : Frame) → f.base + 1 < limit → caller read f ≡ caller read' f
  caller-same f b =
      bind-same (link (read (f.base + 1))) (link (read' (f.base + 1))) _ _ (ap link (h (f.base + 1) b)) λ base _.
      frame_same read read' base f.base (λ k l. h k (omega arith))

  pub four_links-same : (k : ℕ) → k + 4 ≤ limit → four_links read k ≡ four_links read' k
  four_links-same k b =
      let p₀ = h k (omega arith) in
      let p₁ = h (k + 1) (omega arith) in
      let p₂ = h (k + 2) (omega arith) in
      let p₃ = h (k + 3) (omega arith) in
      λ i. bind (link (p₀ i)) (λ _. bind (link (p₁ i)) (λ _. bind (link (p₂ i)) (λ _. link (p₃ i))))

  present-same : (n k : ℕ) → k + n ≤ limit → times n (present_at read) k ≡ times n (present_at read') k
  present-same zero k b = refl
  present-same (suc n) k b =
      let p = h k (omega arith) in
      bind-same (present_at read k) (present_at read' k) _ _ (λ i. bind (present (p i)) (λ _. Ok (k + 1))) λ j e.
      let q = given (λ x. x ≡ k + 1) (present_at read' k) j (gives-bind (λ x. x ≡ k + 1) (present (read' k)) (λ _. Ok (k + 1)) (λ _ _. gives-ok (λ x. x ≡ k + 1) (k + 1) refl)) e in
      present-same n j (omega arith)

  value_same : (n k : ℕ) → k + n ≤ limit → times n (value_at read) k ≡ times n (value_at read') k
  value_same zero k b = refl
  value_same (suc n) k b =
      let p = h k (omega arith) in
      bind-same (value_at read k) (value_at read' k) _ _ (λ i. bind (value (p i)) (λ _. Ok (k + 1))) λ j e.
      let q = given (λ x. x ≡ k + 1) (value_at read' k) j (gives-bind (λ x. x ≡ k + 1) (value (read' k)) (λ _. Ok (k + 1)) (λ _ _. gives-ok (λ x. x ≡ k + 1) (k + 1) refl)) e in
      value_same n j (omega arith)

  pub arguments-same : (from n : ℕ) → from + n ≤ limit → arguments read from n ≡ arguments read' from n
  arguments-same from n b =
      bind-same (times n (present_at read) from) (times n (present_at read') from) _ _ (present-same n from b) (λ _ _. value_same n from b)

-- a frame that hops lead to ends below the own one's end, and so do its slots
outer-found : (n : ℕ) (read : ℕ → Cell) (f : Frame) (limit : ℕ) → Found limit f → Gives (Found limit) (outer n read f)
outer-found zero read f limit q = gives-ok (Found limit) f q
outer-found (suc n) read f limit q =
    gives-bind (Found limit) (hop read f) _ λ g e.
    let p = given (Found f.base) (hop read f) g (hop-found read f) e in
    outer-found n read g limit (record { links = p.links; within = omega arith })

pub place_found : (read : ℕ → Cell) (f : Frame) (s : Slot) → f.base + 4 ≤ f.end → Gives (λ k. k < f.end) (place read f s)
place_found read f s q =
    gives-bind (λ k. k < f.end) (outer s.hops read f) _ λ g e.
    let p = given (Found f.end) (outer s.hops read f) g (outer-found s.hops read f f.end (record { links = q; within = omega arith })) e in
    gives-cond (λ k. k < f.end) (ltb (g.base + 4 + s.index) g.end) _ _ λ t.
    gives-ok (λ k. k < f.end) _ (omega (arith, ltb-true (g.base + 4 + s.index) g.end t))
