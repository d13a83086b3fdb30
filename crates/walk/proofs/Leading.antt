-- The parameters that a row of nodes begins with. Assumes nothing.
use Rattle.std.proofs.Common.{◌≡◌, ℕ, ◌+◌, ◌<◌, true, false, cond, List, [], ◌∷◌, length, drop, ap, ◌∙◌}
use Rattle.std.proofs.lemmas.List.{drop_more}
use Rattle.table.specs.declared.nodes.Node.{Node}
use Rattle.table.specs.Kinds.{kind_at, class_or}
use Rattle.table.specs.Listed.{node_at, blank}
use Rattle.walk.specs.Known.{is_parameter, type_or, leading}

module _ (table : List Node) (k : ℕ) where
  pub leading-more : k < length table → is_parameter (class_or (kind_at (node_at table k).kind)) ≡ true → leading (drop k table) ≡ type_or (node_at table k).sub ∷ leading (drop (k + 1) table)
  leading-more h e =
      ap leading (drop_more table k blank h) ∙
      ap (λ b. cond b (type_or (node_at table k).sub ∷ leading (drop (k + 1) table)) []) e

  pub leading-other : k < length table → is_parameter (class_or (kind_at (node_at table k).kind)) ≡ false → leading (drop k table) ≡ []
  leading-other h e =
      ap leading (drop_more table k blank h) ∙
      ap (λ b. cond b (type_or (node_at table k).sub ∷ leading (drop (k + 1) table)) []) e
