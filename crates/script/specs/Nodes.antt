-- The nodes that words write, five words a node. Assumes nothing.
use Rattle.std.specs.Prelude.{◌≡◌, ℕ, ◌+◌, ◌*◌, ◌/◌, ◌<◌, List, length, slice_index}
use Rattle.table.specs.declared.nodes.Node.{Node}
use Rattle.table.specs.Listed.{node_at}

-- the node that the five words from 5 k on write
abbrev pub node_from : List ℕ → ℕ → Node
node_from words k = record {
  kind = slice_index words (5 * k);
  sub = slice_index words (5 * k + 1);
  value = slice_index words (5 * k + 2);
  end = slice_index words (5 * k + 3);
  place = slice_index words (5 * k + 4);
}

-- a node for each five words, in their order
abbrev pub FirstFives : List ℕ → ℕ → List Node → Type 0
FirstFives words n nodes = (length nodes ≡ n) × ((k : ℕ) → k < n → node_at nodes k ≡ node_from words k)

abbrev pub InFives : List ℕ → List Node → Type 0
InFives words nodes = FirstFives words (length words / 5) nodes
