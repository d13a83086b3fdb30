use Rattle.std.proofs.Common.{◌≡◌, drop}
use Rattle.script.specs.Numbers.{read_on}
use Rattle.script.proofs.numbers.word.Given as goal

abbrev pub invariant-loop-byte : goal.invariant-loop-byte
invariant-loop-byte l = read_on 0 l.text ≡ read_on l.number (drop l.byte-index l.text)
