use Rattle.std.proofs.Common.{◌≡◌, ◌∷◌, ◌++◌, map, length, take}
use Rattle.language.specs.Numbers.{type_number}
use Rattle.engine.proofs.Written.{begun_with}
use Rattle.engine.proofs.record.admit.write_image.Given as goal

abbrev pub invariant-loop-k : goal.invariant-loop-k
invariant-loop-k l = l.buffer ≡ begun_with (length l.laid ∷ type_number l.fn.result_type ∷ map (λ i. i.code) (take l.k l.laid)) l.fn.buffer

abbrev pub invariant-loop-k-2 : goal.invariant-loop-k-2
invariant-loop-k-2 l = l.buffer ≡ begun_with ((length l.laid ∷ type_number l.fn.result_type ∷ map (λ i. i.code) l.laid) ++ map (λ i. i.operand) (take l.k l.laid)) l.fn.buffer
