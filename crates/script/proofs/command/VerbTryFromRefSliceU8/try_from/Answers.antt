use Rattle.std.proofs.Common.{codes, rules}
use Rattle.script.proofs.Named.{named}
use Rattle.script.proofs.command.VerbTryFromRefSliceU8.try_from.Goals as goal

pub returns-in-record : goal.returns-in-record
returns-in-record c = search (rules, named (codes "record"))

pub returns-in-amount : goal.returns-in-amount
returns-in-amount c = search (rules, named (codes "amount"))

pub returns-in-bring : goal.returns-in-bring
returns-in-bring c = search (rules, named (codes "bring"))

pub returns-in-begin : goal.returns-in-begin
returns-in-begin c = search (rules, named (codes "begin"))

pub returns-in-continue : goal.returns-in-continue
returns-in-continue c = search (rules, named (codes "continue"))

pub returns-in-clear : goal.returns-in-clear
returns-in-clear c = search (rules, named (codes "clear"))

pub returns-in-image : goal.returns-in-image
returns-in-image c = search (rules, named (codes "image"))

pub returns-in-totals : goal.returns-in-totals
returns-in-totals c = search (rules, named (codes "totals"))

pub returns-in-state : goal.returns-in-state
returns-in-state c = search (rules, named (codes "state"))

pub returns-in-trace : goal.returns-in-trace
returns-in-trace c = search (rules, named (codes "trace"))

pub returns-in-worksheet : goal.returns-in-worksheet
returns-in-worksheet c = search (rules, named (codes "worksheet"))
