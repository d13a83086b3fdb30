-- One step along a chain of children. Assumes nothing.
use Rattle.std.proofs.Common.{◌≡◌, ℕ, ◌<◌, ◌≤◌, Bool, true, false, ◌⊎◌, List, [], ◌∷◌, Some, None, Decides, Option, sym, refl, ap, ◌∙◌, subst, inl, inr, arith}
use Rattle.std.proofs.lemmas.Bool.{both_ways}
use Rattle.std.proofs.lemmas.Option.{none-some, same_Some}
use Rattle.std.proofs.lemmas.Bool.Decides.{Decides-like}
use Rattle.std.specs.Fn.{Called}
use denote.Param.Members.{Mut}
use Rattle.std.specs.List.{FoldsTo}
use Rattle.std.specs.Option.{MatchOption}
use Rattle.std.specs.ControlFlow.{continue_value}
use Rattle.std.specs.Iterator.{Yields, TryFoldTurn, TryFoldsItems}
use Rattle.std.specs.declared.ops.ControlFlow.{ControlFlow}
use Rattle.std.specs.declared.ops.ControlFlow.TheVariants.{Continue, Break}
use Rattle.table.specs.declared.kinds.Class.{Class}
use Rattle.table.specs.declared.kinds.Form.{Form}
use Rattle.table.specs.declared.nodes.Node.{Node}
use Rattle.table.specs.declared.checking.ChildNodes.{ChildNodes}
use Rattle.table.specs.Kinds.{kind_at, class_or}
use Rattle.table.specs.Forms.{after, complete}
use Rattle.table.specs.Listed.{node_at, end_at, Children}
use Rattle.table.specs.ChildNodes.{StandsWithin, GivesChild}
use Rattle.table.specs.Listed.Children.{ended, child}

-- the class of the node that stands at a number
abbrev pub class_at : List Node → ℕ → Class
class_at table at = class_or (kind_at (node_at table at).kind)

-- what one more child shows
pub record Step (table : List Node) (stop : ℕ) (form : Form) (at : ℕ) : Type 0 where
  pub rest : Form
  pub here : at < stop
  pub rises : at < end_at table at
  pub keeps : end_at table at ≤ stop
  pub comes : after form (class_at table at) ≡ Some rest
  pub others : Children table stop rest (end_at table at)

pub unchain : {table : List Node} {stop : ℕ} {form : Form} {at : ℕ} → Children table stop form at → ((at ≡ stop) × (complete form ≡ true)) ⊎ Step table stop form at
unchain (ended c) = inl (refl, c)
unchain (child a b c d e) = inr (record { rest = _; here = a; rises = b; keeps = c; comes = d; others = e })

-- the children that are still to come are those of a form
abbrev pub Left : Form → ChildNodes → Type 0
Left form c = Children c.nodes.now c.stop form c.at

module _ (old new : ChildNodes) (form : Form) where
  -- a child that stands here is the first of those to come
  step : StandsWithin old → Left form old → Step old.nodes.now old.stop form old.at
  step w c = elim (unchain c) [ inl e ↦ absurd (omega (arith, e.0, w.0, w.1)) | inr s ↦ s ]

  module _ (given : ℕ × Node) (g : GivesChild old (Some given) new) where
    comes : (o : Option Form) → after form (class_or (kind_at given.1.kind)) ≡ o → after form (class_at old.nodes.now old.at) ≡ o
    comes o e = ap (λ n. after form (class_or (kind_at n.1.kind))) (sym g.1) ∙ e

    -- a child that may not come
    pub refused : after form (class_or (kind_at given.1.kind)) ≡ None → Left form old → ⊥
    refused e c = none-some _ (sym (comes None e) ∙ (step g.0 c).comes)

    -- one that may takes the form a step on
    pub goes-on : (rest : Form) → after form (class_or (kind_at given.1.kind)) ≡ Some rest → (Left form old → Left rest new) × (Left rest new → Left form old)
    goes-on rest e = (
      λ c. let s = step g.0 c in subst (Left rest) (sym g.2) (subst (λ f. Children old.nodes.now old.stop f (end_at old.nodes.now old.at)) (same_Some _ _ (sym s.comes ∙ comes (Some rest) e)) s.others),
      λ c. child (omega (arith, g.0.0, g.0.1)) g.0.0 g.0.1 (comes (Some rest) e) (subst (Left rest) g.2 c),
    )

  -- where no child is given, none is left just when that is the stop and nothing more need come
  pub ends : GivesChild old None new → (r : Bool) → r ≡ complete form → new.at ≡ new.stop → Decides r (Left form old)
  ends g r e h =
      let at-stop : old.at ≡ old.stop = ap (λ c. c.at) (sym g.1) ∙ h ∙ ap (λ c. c.stop) g.1 in (
        λ t. subst (λ k. Children old.nodes.now old.stop form k) (sym at-stop) (ended (sym e ∙ t)),
        λ c. elim (unchain c) [ inl p ↦ e ∙ p.1 | inr s ↦ absurd (g.0 (s.rises, s.keeps)) ],
      )

  pub ends-short : GivesChild old None new → (new.at ≡ new.stop → ⊥) → Left form old → ⊥
  ends-short g n c = elim (unchain c) [ inl p ↦ n (ap (λ c. c.at) g.1 ∙ p.0 ∙ ap (λ c. c.stop) (sym g.1)) | inr s ↦ g.0 (s.rises, s.keeps) ]

-- what does not hold is answered by false
pub decides-no : {P : Type 0} (r : Bool) → r ≡ false → (P → ⊥) → Decides r P
decides-no r e h = (λ t. absurd (both_ways r e t), λ p. absurd (h p))

-- a fold over children by a closure that takes a form a step on; at an Option a turn goes on where there is a value
module _ (E : Type 0) {F : Type 0} (g : Mut F (Form × ((ℕ × Node) × Unit {0})) (Option Form)) (calls : (p : F) (form : Form) (given : ℕ × Node) (v : Option Form) (q : F) → Called g p (form, (given, tt)) v q → v ≡ after form (class_or (kind_at given.1.kind))) where
  abbrev branches : Option Form → ControlFlow E Form → Type 0
  branches v b = v ≡ continue_value b

  along : (nodes : List (ℕ × Node)) (s t : ChildNodes) (p q : F × Form) → Yields GivesChild s nodes t → FoldsTo (TryFoldTurn g branches) p nodes q → (Left p.1 s → Left q.1 t) × (Left q.1 t → Left p.1 s)
  along [] s t p q y f = (
    λ l. subst (λ k. Left k.1 t) f (subst (Left p.1) y l),
    λ l. subst (Left p.1) (sym y) (subst (λ k. Left k.1 t) (sym f) l),
  )
  along (x ∷ xs) s t p q (j, y, ys) (k, f, fs) =
      let h = goes-on s j p.1 x y k.1 (sym (calls _ _ _ _ _ f.1) ∙ f.2) in
      let r = along xs j t k q ys fs in
      (λ l. r.0 (h.0 l), λ l. h.1 (r.1 l))

  abbrev Ended : Option (ℕ × Node) → F → Form → Option Form → Type 0
  Ended o q a r = MatchOption o (branches r (Continue a)) (λ x. (v : Option Form) × (h : F) × (e : E) × Called g q (a, (x, tt)) v h × branches v (Break e) × (r ≡ None))

  last : (o : Option (ℕ × Node)) (t u : ChildNodes) (q : F) (a : Form) (r : Option Form) (b : Bool) → GivesChild t o u → Ended o q a r → MatchOption r (b ≡ false) (λ rest. b ≡ complete rest) → u.at ≡ u.stop → Decides b (Left a t)
  last None t u q a r b s z m h = ends t u a s b (subst (λ k. MatchOption k (b ≡ false) (λ rest. b ≡ complete rest)) z m) h
  last (Some x) t u q a r b s z m h =
      decides-no b (subst (λ k. MatchOption k (b ≡ false) (λ rest. b ≡ complete rest)) z.5 m)
      (refused t u a x s (sym (calls _ _ _ _ _ z.3) ∙ z.4))

  short : (o : Option (ℕ × Node)) (t u : ChildNodes) (q : F) (a : Form) (r : Option Form) → GivesChild t o u → Ended o q a r → (u.at ≡ u.stop → ⊥) → Left a t → ⊥
  short None t u q a r s z n = ends-short t u a s n
  short (Some x) t u q a r s z n = refused t u a x s (sym (calls _ _ _ _ _ z.3) ∙ z.4)

  module _ (s u : ChildNodes) (p : F) (form : Form) (r : Option Form) (f : TryFoldsItems GivesChild g branches (λ e v. v ≡ None) s p form r u) where
    -- the fold went on to the stop: what it left of the form decides
    pub folded : (b : Bool) → MatchOption r (b ≡ false) (λ rest. b ≡ complete rest) → u.at ≡ u.stop → Decides b (Left form s)
    folded b m h =
        let w = along f.0 s f.4.0 (p, form) (f.2, f.3) f.4.1 f.5 in
        Decides-like _ w.1 w.0 (last f.1 f.4.0 u f.2 f.3 r b f.4.2 f.6 m h)

    -- it did not
    pub folded-short : (u.at ≡ u.stop → ⊥) → Left form s → ⊥
    folded-short n l =
        let w = along f.0 s f.4.0 (p, form) (f.2, f.3) f.4.1 f.5 in
        short f.1 f.4.0 u f.2 f.3 r f.4.2 f.6 n (w.0 l)
