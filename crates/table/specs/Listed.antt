-- When a node of a table is as listed, and which is the lowest that is not. Assumes nothing.
use Rattle.std.specs.Prelude.{◌≡◌, ℕ, ◌+◌, ◌<◌, ◌≤◌, Bool, true, cond, not, ◌&&◌, List, length, Some, ◌==◌, slice_index_or}
use Rattle.table.specs.declared.kinds.Kind.{Kind}
use Rattle.table.specs.declared.kinds.Form.{Form}
use Rattle.table.specs.declared.nodes.Node.{Node}
use Rattle.table.specs.Kinds.{kind_at, class_or, limits_of, within}
use Rattle.table.specs.Forms.{after, complete, form_of}

-- what stands past the end of a table
abbrev pub blank : Node
blank = record { kind = 0; sub = 0; value = 0; end = 0; place = 0 }

-- node i
abbrev pub node_at : List Node → ℕ → Node
node_at table i = slice_index_or table i blank

-- where node i ends
abbrev pub end_at : List Node → ℕ → ℕ
end_at table i = (node_at table i).end

-- the children from here to the stop are those of the form: none is left, or the child that stands here may come, ends further on and not past the stop, and those from its end on are of the form that is left
pub data Children (table : List Node) (stop : ℕ) : Form → ℕ → Type 0 where
  ended : {form : Form} → complete form ≡ true → Children table stop form stop
  child : {form rest : Form} {at : ℕ} → at < stop → at < end_at table at → end_at table at ≤ stop → after form (class_or (kind_at (node_at table at).kind)) ≡ Some rest → Children table stop rest (end_at table at) → Children table stop form at

-- kind 1 stands at node 0 and nowhere else, and node 0 ends with the table
abbrev pub standing : ℕ → ℕ → Node → Bool
standing count i node = cond (i == 0) (node.kind == 1 && node.end == count) (not (node.kind == 1))

-- node i is as listed: its kind is one of the seventeen and stands where it may, its sub and value keep to the kind's limits, it ends within the table, and its children, from the next node to its end, are the kind's
pub record Listed (table : List Node) (i : ℕ) : Type 0 where
  pub kind : Kind
  pub known : kind_at (node_at table i).kind ≡ Some kind
  pub stands : standing (length table) i (node_at table i) ≡ true
  pub limited : within (limits_of kind) (node_at table i).sub (node_at table i).value ≡ true
  pub inside : end_at table i ≤ length table
  pub children : Children table (end_at table i) (form_of kind) (i + 1)

-- every node is as listed
abbrev pub AllListed : List Node → Type 0
AllListed table = (i : ℕ) → i < length table → Listed table i

-- node i is the lowest that is not
pub record Lowest (table : List Node) (i : ℕ) : Type 0 where
  pub there : i < length table
  pub bad : Listed table i → ⊥
  pub below : (j : ℕ) → j < i → Listed table j
