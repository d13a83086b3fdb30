-- The code of resolved trees laid as the walk lays it, one instruction after another and with jumps aimed afterwards, is the translation. Assumes nothing.
use Rattle.std.proofs.Common.{◌≡◌, ℕ, ◌+◌, ◌*◌, List, [], ◌∷◌, ◌++◌, length, get_or, set, sym, refl, ap, ◌∙◌, arith}
use Rattle.std.proofs.lemmas.List.{append_assoc, append-nil, map-append, length-append, length-set, length_push, set_at}
use Rattle.language.specs.Numbers.{operator_number}
use Rattle.rules.specs.Resolved.{Term, Terms, Action, Actions, Ending, Function, Functions}
use Rattle.rules.specs.Resolved.Term.{integer, truth, read, negation, operation, choice, call, amount, flag, post}
use Rattle.rules.specs.Resolved.Terms.{no_terms, term}
use Rattle.rules.specs.Resolved.Action.{assign, perform, perform_and_drop, if_then, if_else}
use Rattle.rules.specs.Resolved.Actions.{no_actions, action}
use Rattle.rules.specs.Resolved.Ending.{nothing, giving}
use Rattle.rules.specs.Resolved.Function.{function}
use Rattle.rules.specs.Resolved.Functions.{no_functions, more}
use Rattle.rules.specs.Translate as translation
use Rattle.rules.specs.Translate.{Laid, truth_operand, gives, end_term, end_terms, end_action, end_actions, end_ending, end_function, end_functions, emit_term, emit_terms, emit_action, emit_actions, emit_ending, emit_function, emit_functions}
use Rattle.walk.specs.declared.codes.Instr.{Instr}
use Rattle.walk.specs.Lay.{instr, laid, patched, aimed}
use Rattle.verdict.specs.Verdict.{bare, plain}

-- what grows code
abbrev pub Grows : Type 0
Grows = List Instr → List Instr

-- a jump past a piece, aimed once the piece is laid
abbrev pub past : ℕ → Grows → Grows
past k piece code = aimed (piece (laid code k 0)) (length code) k

-- after a condition: a piece where it is true, a jump past the other, and the other
abbrev pub either : Grows → Grows → Grows
either first other code = aimed (other (aimed (laid (first (laid code 19 0)) 18 0) (length code) 19)) (length (first (laid code 19 0))) 18

-- an entry, patched once what is declared inside is laid
abbrev pub entered_by : ℕ → Grows → Grows
entered_by x piece code = patched (piece (laid code 22 0)) (length code) 22 x

abbrev mutual
  pub lay_term : List ℕ → Term → Grows
  lay_term at (integer q n) code = laid code 1 n
  lay_term at (truth q b) code = laid code 2 (truth_operand b)
  lay_term at (read q h s) code = laid code 3 (256 * h + s)
  lay_term at (negation q e) code = laid (lay_term at e code) 16 0
  lay_term at (operation q o a b) code = laid (lay_term at b (lay_term at a code)) (operator_number o + 4) 0
  lay_term at (choice q c s a t b) code = either (λ d. lay_term at a (lay_actions at s d)) (λ d. lay_term at b (lay_actions at t d)) (lay_term at c code)
  lay_term at (call q f h es) code = laid (lay_terms at es (laid code 20 h)) 21 (get_or at f 0)
  lay_term at (amount q e) code = laid (lay_term at e code) 24 0
  lay_term at (flag q e) code = laid (lay_term at e code) 25 0
  lay_term at (post q a v) code = laid (lay_term at v (lay_term at a code)) 26 0

  pub lay_terms : List ℕ → Terms → Grows
  lay_terms at no_terms code = code
  lay_terms at (term e es) code = lay_terms at es (lay_term at e code)

  pub lay_action : List ℕ → Action → Grows
  lay_action at (assign q h s e) code = laid (lay_term at e code) 4 (256 * h + s)
  lay_action at (perform e) code = lay_term at e code
  lay_action at (perform_and_drop q e) code = laid (lay_term at e code) 17 0
  lay_action at (if_then q c s) code = past 19 (λ d. lay_actions at s d) (lay_term at c code)
  lay_action at (if_else q c s t) code = either (λ d. lay_actions at s d) (λ d. lay_actions at t d) (lay_term at c code)

  pub lay_actions : List ℕ → Actions → Grows
  lay_actions at no_actions code = code
  lay_actions at (action a rest) code = lay_actions at rest (lay_action at a code)

abbrev pub lay_ending : List ℕ → Ending → Grows
lay_ending at nothing code = code
lay_ending at (giving e) code = lay_term at e code

abbrev mutual
  pub lay_function : List ℕ → Function → Grows
  lay_function at (function q t n o inner body ending) code =
      past 18 (λ c. laid (lay_ending at ending (lay_actions at body (entered_by (256 * n + o) (λ d. lay_functions at inner d) c))) 23 (gives t)) code

  pub lay_functions : List ℕ → Functions → Grows
  lay_functions at no_functions code = code
  lay_functions at (more f fs) code = lay_functions at fs (lay_function at f code)

-- A way to grow code adds these instructions, which depend on the number of the first, and then the next number is that
pub record Adds (grow : Grows) (emit : ℕ → List Laid) (end : ℕ → ℕ) : Type 0 where
  pub adds : (code : List Instr) → grow code ≡ code ++ plain (emit (length code))
  pub ends : (code : List Instr) → length (grow code) ≡ end (length code)

pub adds_same : {f : Grows} {X Y : ℕ → List Laid} {e k : ℕ → ℕ} → Adds f X e → ((p : ℕ) → X p ≡ Y p) → ((p : ℕ) → e p ≡ k p) → Adds f Y k
adds_same a same ends = record { adds = λ c. a.adds c ∙ ap (λ xs. c ++ plain xs) (same (length c)); ends = λ c. a.ends c ∙ ends (length c) }

pub adds_none : Adds (λ c. c) (λ p. []) (λ p. p)
adds_none = record { adds = λ c. sym (append-nil c); ends = λ c. refl }

pub adds_one : (k x q : ℕ) → Adds (λ c. laid c k x) (λ p. translation.laid k x q ∷ []) (λ p. p + 1)
adds_one k x q = record { adds = λ c. refl; ends = λ c. length_push c (instr k x) }

-- one after the other
pub adds_then : {f g : Grows} {X Y : ℕ → List Laid} {e h : ℕ → ℕ} → Adds f X e → Adds g Y h → Adds (λ c. g (f c)) (λ p. X p ++ Y (e p)) (λ p. h (e p))
adds_then {f} {g} {X} {Y} {e} {h} a b =
    record {
      adds = λ c.
          b.adds (f c)
          ∙ ap (λ n. f c ++ plain (Y n)) (a.ends c)
          ∙ ap (λ d. d ++ plain (Y (e (length c)))) (a.adds c)
          ∙ append_assoc c (plain (X (length c))) (plain (Y (e (length c))))
          ∙ ap (λ xs. c ++ xs) (sym (map-append bare (X (length c)) (Y (e (length c)))));
      ends = λ c. b.ends (f c) ∙ ap h (a.ends c);
    }

-- an instruction in the place of the one that was laid before a piece
pub swapped : (c xs : List Instr) (k x y : ℕ) → patched (laid c k x ++ xs) (length c) k y ≡ laid c k y ++ xs
swapped c xs k x y =
    ap (λ d. set d (length c) (instr k y)) (append_assoc c (instr k x ∷ []) xs)
    ∙ set_at c (instr k x) xs (instr k y) (length c) refl
    ∙ sym (append_assoc c (instr k y ∷ []) xs)

pub adds-past : (k q : ℕ) {g : Grows} {A : ℕ → List Laid} {a : ℕ → ℕ} → Adds g A a → Adds (past k g) (λ p. translation.laid k (a (p + 1)) q ∷ [] ++ A (p + 1)) (λ p. a (p + 1))
adds-past k q {g} {A} {a} s =
    record {
      adds = λ c.
          let n : length (g (laid c k 0)) ≡ a (length c + 1) = s.ends (laid c k 0) ∙ ap a (length_push c (instr k 0)) in
          ap (λ m. patched (g (laid c k 0)) (length c) k m) n
          ∙ ap (λ d. patched d (length c) k (a (length c + 1))) (s.adds (laid c k 0) ∙ ap (λ m. laid c k 0 ++ plain (A m)) (length_push c (instr k 0)))
          ∙ swapped c (plain (A (length c + 1))) k 0 (a (length c + 1))
          ∙ append_assoc c (instr k (a (length c + 1)) ∷ []) (plain (A (length c + 1)));
      ends = λ c.
          length-set (g (laid c k 0)) (length c) (instr k (length (g (laid c k 0))))
          ∙ s.ends (laid c k 0) ∙ ap a (length_push c (instr k 0));
    }

pub adds-entered : (x q : ℕ) {g : Grows} {A : ℕ → List Laid} {a : ℕ → ℕ} → Adds g A a → Adds (entered_by x g) (λ p. translation.laid 22 x q ∷ [] ++ A (p + 1)) (λ p. a (p + 1))
adds-entered x q {g} {A} {a} s =
    record {
      adds = λ c.
          ap (λ d. patched d (length c) 22 x) (s.adds (laid c 22 0) ∙ ap (λ m. laid c 22 0 ++ plain (A m)) (length_push c (instr 22 0)))
          ∙ swapped c (plain (A (length c + 1))) 22 0 x
          ∙ append_assoc c (instr 22 x ∷ []) (plain (A (length c + 1)));
      ends = λ c. length-set (g (laid c 22 0)) (length c) (instr 22 x) ∙ s.ends (laid c 22 0) ∙ ap a (length_push c (instr 22 0));
    }

module _ (q : ℕ) {g h : Grows} {A B : ℕ → List Laid} {a b : ℕ → ℕ} (s : Adds g A a) (t : Adds h B b) where
  -- the code to the end of the first piece
  begun : List Instr → List Instr
  begun c = c ++ plain (translation.laid 19 (a (length c + 1) + 1) q ∷ [] ++ A (length c + 1))

  begun-is : (c : List Instr) → past 19 (λ d. laid (g d) 18 0) c ≡ laid (begun c) 18 0
  unfolding begun
  begun-is c =
      (adds-past 19 q (adds_then s (adds_one 18 0 q))).adds c
      ∙ ap (λ xs. c ++ instr 19 (a (length c + 1) + 1) ∷ xs) (map-append bare (A (length c + 1)) (translation.laid 18 0 q ∷ []))
      ∙ sym (append_assoc c (plain (translation.laid 19 (a (length c + 1) + 1) q ∷ [] ++ A (length c + 1))) (instr 18 0 ∷ []))

  begun-length : (c : List Instr) → length (begun c) ≡ a (length c + 1)
  unfolding begun
  begun-length c =
      let xs = A (length c + 1) in
      let k : length (laid c 19 0 ++ plain xs) ≡ a (length c + 1) = ap length (sym (s.adds (laid c 19 0) ∙ ap (λ m. laid c 19 0 ++ plain (A m)) (length_push c (instr 19 0)))) ∙ s.ends (laid c 19 0) ∙ ap a (length_push c (instr 19 0)) in
      omega (arith, k, length-append c (plain (translation.laid 19 (a (length c + 1) + 1) q ∷ [] ++ xs)), length-append (laid c 19 0) (plain xs), length_push c (instr 19 0))

  either_is : (c : List Instr) → either g h c ≡ past 18 h (begun c)
  either_is c =
      ap (λ d. aimed (h d) (length (g (laid c 19 0))) 18) (begun-is c)
      ∙ ap (λ n. aimed (h (laid (begun c) 18 0)) n 18) (s.ends (laid c 19 0) ∙ ap a (length_push c (instr 19 0)) ∙ sym (begun-length c))

  pub adds-either : Adds (either g h) (λ p. (translation.laid 19 (a (p + 1) + 1) q ∷ [] ++ A (p + 1)) ++ (translation.laid 18 (b (a (p + 1) + 1)) q ∷ [] ++ B (a (p + 1) + 1))) (λ p. b (a (p + 1) + 1))
  unfolding begun
  adds-either =
      record {
        adds = λ c.
            either_is c
            ∙ (adds-past 18 q t).adds (begun c)
            ∙ ap (λ n. begun c ++ plain (translation.laid 18 (b (n + 1)) q ∷ [] ++ B (n + 1))) (begun-length c)
            ∙ append_assoc c (plain (translation.laid 19 (a (length c + 1) + 1) q ∷ [] ++ A (length c + 1))) (plain (translation.laid 18 (b (a (length c + 1) + 1)) q ∷ [] ++ B (a (length c + 1) + 1)))
            ∙ ap (λ xs. c ++ xs) (sym (map-append bare (translation.laid 19 (a (length c + 1) + 1) q ∷ [] ++ A (length c + 1)) (translation.laid 18 (b (a (length c + 1) + 1)) q ∷ [] ++ B (a (length c + 1) + 1))));
        ends = λ c. ap length (either_is c) ∙ (adds-past 18 q t).ends (begun c) ∙ ap (λ n. b (n + 1)) (begun-length c);
      }

-- the code of each piece is its translation
mutual
  pub lays-term : (at : List ℕ) (r : Term) → Adds (lay_term at r) (λ p. emit_term at p r) (λ p. end_term p r)
  lays-term at (integer q n) = adds_one 1 n q
  lays-term at (truth q b) = adds_one 2 (truth_operand b) q
  lays-term at (read q h s) = adds_one 3 (256 * h + s) q
  lays-term at (negation q e) = adds_then (lays-term at e) (adds_one 16 0 q)
  lays-term at (operation q o a b) = adds_then (adds_then (lays-term at a) (lays-term at b)) (adds_one (operator_number o + 4) 0 q)
  lays-term at (choice q c s a t b) =
      adds_same (adds_then (lays-term at c) (adds-either q (adds_then (lays-actions at s) (lays-term at a)) (adds_then (lays-actions at t) (lays-term at b)))) (λ p. simp append_assoc) (λ p. refl)
  lays-term at (call q f h es) = adds_then (adds_then (adds_one 20 h q) (lays-terms at es)) (adds_one 21 (get_or at f 0) q)
  lays-term at (amount q e) = adds_then (lays-term at e) (adds_one 24 0 q)
  lays-term at (flag q e) = adds_then (lays-term at e) (adds_one 25 0 q)
  lays-term at (post q a v) = adds_then (adds_then (lays-term at a) (lays-term at v)) (adds_one 26 0 q)

  pub lays-terms : (at : List ℕ) (rs : Terms) → Adds (lay_terms at rs) (λ p. emit_terms at p rs) (λ p. end_terms p rs)
  lays-terms at no_terms = adds_none
  lays-terms at (term e es) = adds_then (lays-term at e) (lays-terms at es)

  pub lays-action : (at : List ℕ) (a : Action) → Adds (lay_action at a) (λ p. emit_action at p a) (λ p. end_action p a)
  lays-action at (assign q h s e) = adds_then (lays-term at e) (adds_one 4 (256 * h + s) q)
  lays-action at (perform e) = lays-term at e
  lays-action at (perform_and_drop q e) = adds_then (lays-term at e) (adds_one 17 0 q)
  lays-action at (if_then q c s) = adds_same (adds_then (lays-term at c) (adds-past 19 q (lays-actions at s))) (λ p. simp append_assoc) (λ p. refl)
  lays-action at (if_else q c s t) = adds_same (adds_then (lays-term at c) (adds-either q (lays-actions at s) (lays-actions at t))) (λ p. simp append_assoc) (λ p. refl)

  pub lays-actions : (at : List ℕ) (α : Actions) → Adds (lay_actions at α) (λ p. emit_actions at p α) (λ p. end_actions p α)
  lays-actions at no_actions = adds_none
  lays-actions at (action a rest) = adds_then (lays-action at a) (lays-actions at rest)

pub lays-ending : (at : List ℕ) (f : Ending) → Adds (lay_ending at f) (λ p. emit_ending at p f) (λ p. end_ending p f)
lays-ending at nothing = adds_none
lays-ending at (giving e) = lays-term at e

two-more : (p : ℕ) → p + 1 + 1 ≡ p + 2
two-more p = omega arith

mutual
  pub lays-function : (at : List ℕ) (f : Function) → Adds (lay_function at f) (λ p. emit_function at p f) (λ p. end_function p f)
  lays-function at (function q t n o inner body ending) =
      adds_same
      (adds-past 18 q (adds_then (adds_then (adds_then (adds-entered (256 * n + o) q (lays-functions at inner)) (lays-actions at body)) (lays-ending at ending)) (adds_one 23 (gives t) q)))
      (λ p. simp append_assoc (ap (λ k. translation.laid 18 (end_ending (end_actions (end_functions k inner) body) ending + 1) q ∷ (translation.laid 22 (256 * n + o) q ∷ (emit_functions at k inner ++ (emit_actions at (end_functions k inner) body ++ (emit_ending at (end_actions (end_functions k inner) body) ending ++ translation.laid 23 (gives t) q ∷ []))))) (two-more p)))
      (λ p. ap (λ k. end_ending (end_actions (end_functions k inner) body) ending + 1) (two-more p))

  pub lays-functions : (at : List ℕ) (fs : Functions) → Adds (lay_functions at fs) (λ p. emit_functions at p fs) (λ p. end_functions p fs)
  lays-functions at no_functions = adds_none
  lays-functions at (more f fs) = adds_then (lays-function at f) (lays-functions at fs)
