-- Where a table has a branch, with the numbers of its children as code reads them: the first child is the next node, each other one begins at the end of the one before. Assumes nothing.
use Rattle.std.specs.Prelude.{◌≡◌, ℕ, ◌+◌, ◌<◌, List, length}
use Rattle.table.specs.declared.nodes.Node.{Node}
use Rattle.table.specs.Kinds.{kind_number}
use Rattle.table.specs.Listed.{node_at, end_at}
use Rattle.table.specs.Layout.{Branch, Branches}
use Rattle.table.specs.Layout.Branch.{branch}
use Rattle.table.specs.Layout.Branches.{nil, cons}

abbrev mutual
  -- the branch stands at node i
  pub Lays : Branch → List Node → ℕ → Type 0
  Lays (branch k s v p bs) table i =
      (i < length table) ×
      ((node_at table i).kind ≡ kind_number k) ×
      ((node_at table i).sub ≡ s) ×
      ((node_at table i).value ≡ v) ×
      ((node_at table i).place ≡ p) ×
      LaysAll bs table (i + 1) (end_at table i)

  -- the branches stand in their order from one node to a stop
  pub LaysAll : Branches → List Node → ℕ → ℕ → Type 0
  LaysAll nil table at stop = at ≡ stop
  LaysAll (cons b bs) table at stop = Lays b table at × LaysAll bs table (end_at table at) stop
