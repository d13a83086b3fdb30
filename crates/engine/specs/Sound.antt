-- What a record can be relied on for. Assumes nothing.
use Rattle.std.specs.Prelude.{◌+◌, ◌*◌, Bool, true, false, cond, nat_le}
use Rattle.machine.specs.declared.registers.Machine.{Machine}
use Rattle.engine.specs.declared.record.Loaded.{Loaded}
use Rattle.engine.specs.declared.record.Stage.{Stage}
use Rattle.engine.specs.declared.record.Stage.TheVariants.{Blank, Ready, Running, Ended}

-- all words of the image lie within the buffer
abbrev pub fits : Loaded → Bool
fits l = nat_le (2 + 2 * l.image.header.count) l.buffer

-- the top lies within the cells, of which there are at most 65,536
abbrev pub inside : Loaded → Machine → Bool
inside l m = cond (nat_le m.top l.cells) (nat_le l.cells 65536) false

abbrev pub soundly : Stage → Bool
soundly Blank = true
soundly (Ready l) = fits l
soundly (Running l m) = cond (fits l) (inside l m) false
soundly (Ended l o) = fits l
