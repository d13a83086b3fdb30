-- What the iterator over the children of a node gives. Assumes nothing.
use Rattle.std.specs.Prelude.{◌≡◌, ℕ, ◌<◌, ◌≤◌, Some, None, Option}
use Rattle.table.specs.declared.nodes.Node.{Node}
use Rattle.table.specs.declared.checking.ChildNodes.{ChildNodes}
use Rattle.table.specs.Listed.{node_at, end_at}

-- the node that stands here ends further on and not past the stop
abbrev pub StandsWithin : ChildNodes → Type 0
StandsWithin c = (c.at < end_at c.nodes.now c.at) × (end_at c.nodes.now c.at ≤ c.stop)

-- the next child is the node that stands here, with its number, if it is one, and the child after it stands where it ends
abbrev pub GivesChild : ChildNodes → Option (ℕ × Node) → ChildNodes → Type 0
GivesChild old None new = (StandsWithin old → ⊥) × (new ≡ old)
GivesChild old (Some child) new =
    StandsWithin old ×
    (child ≡ (old.at, node_at old.nodes.now old.at)) ×
    (new ≡ record { nodes = old.nodes; at = end_at old.nodes.now old.at; stop = old.stop })
