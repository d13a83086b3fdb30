use Rattle.std.proofs.Common.{◌∷◌, [], map, length, ap, arith}
use Rattle.std.proofs.lemmas.List.{length-map}
use Rattle.language.specs.Numbers.{type_number}
use Rattle.engine.proofs.Written.{part-more}
use Rattle.engine.proofs.record.admit.write_image.Goals as goal

pub loop-k-preserved : goal.loop-k-preserved
loop-k-preserved c =
    let laid = c.as_slice-laid.result.now in
    let size = ap length c.as_slice-laid.ensures in
    part-more (λ i. i.code) (length laid ∷ type_number c.args.result_type ∷ []) c.args.buffer.now c.loop-k.buffer laid c.loop-k.k _
    c.loop-k-test.true (omega (arith, c.requires, size)) (omega arith) c.loop-k.invariant

pub loop-k-2-preserved : goal.loop-k-2-preserved
loop-k-2-preserved c =
    let laid = c.as_slice-laid.result.now in
    let size = ap length c.as_slice-laid.ensures in
    let codes = length-map laid (λ i. i.code) in
    part-more (λ i. i.operand) (length laid ∷ type_number c.args.result_type ∷ map (λ i. i.code) laid) c.args.buffer.now c.loop-k-2.buffer laid c.loop-k-2.k _
    c.loop-k-2-test.true (omega (arith, c.requires, size, codes)) (omega (arith, codes)) c.loop-k-2.invariant
