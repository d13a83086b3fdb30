use Rattle.std.proofs.Common.{◌≡◌, ◌+◌, ◌*◌, length, arith}
use Rattle.std.proofs.lemmas.Result.{err_from_is_err_and}
use Rattle.walk.specs.Lay.{live}
use Rattle.engine.specs.Admit.{image_of}
use Rattle.engine.proofs.Admits.{image-length, typed-refused, typed-full, typed-done}
use Rattle.engine.proofs.record.Record.admit.Goals as goal

pub returns-in_err-result-clause-typed : goal.returns-in_err-result-clause-typed
returns-in_err-result-clause-typed c =
    let q = err_from_is_err_and c.from_residual.result c.from_residual.ensures.1 in
    rw q.1 (typed-refused c.args.nodes.now c.args.buffer.now c.in_err-result.field-0.0 c.in_err-result.ensures.verdict)

pub returns-then-buffer-words-clause-typed : goal.returns-then-buffer-words-clause-typed
returns-then-buffer-words-clause-typed c =
    let size : 2 + 2 * c.next-count.result ≡ length (image_of c.in_ok-result.result (live c.decide.new.code)) =
    omega (arith, image-length c.in_ok-result.result (live c.decide.new.code)) in
    typed-full c.args.nodes.now c.args.buffer.now c.in_ok-result.result (live c.decide.new.code) c.in_ok-result.ensures.verdict (omega (arith, c.if-buffer-words.true, size))

pub returns-clause-typed : goal.returns-clause-typed
returns-clause-typed c =
    let size : 2 + 2 * c.next-count.result ≡ length (image_of c.in_ok-result.result (live c.decide.new.code)) =
    omega (arith, image-length c.in_ok-result.result (live c.decide.new.code)) in
    typed-done c.args.nodes.now c.args.buffer.now c.in_ok-result.result (live c.decide.new.code) c.in_ok-result.ensures.verdict _ _ size c.if-buffer-words.false c.write_image.ensures
