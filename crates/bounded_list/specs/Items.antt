-- What a bounded list holds. Assumes nothing.
use Rattle.std.specs.Prelude.{ℕ, List, take}
use Rattle.bounded_list.specs.declared.list.BoundedList.{BoundedList}

-- the items, in the order in which they were added
abbrev pub items : {T : Type 0} → {N : ℕ} → BoundedList T N → List T
items list = take list.count list.places
