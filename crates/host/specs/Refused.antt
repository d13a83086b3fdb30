-- Why a host cannot be made, or a row of one cannot be set, as a fault. Assumes nothing.
use Rattle.language.specs.declared.faults.Fault.{Fault}
use Rattle.language.specs.declared.faults.Cause.TheVariants.{Host}
use Rattle.language.specs.declared.faults.HostRefusal.{HostRefusal}

-- a host's refusal as a fault, at place 0
abbrev pub refused : HostRefusal → Fault
refused refusal = record { cause = Host refusal; place = 0 }
