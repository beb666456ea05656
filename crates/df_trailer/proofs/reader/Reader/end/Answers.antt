use Rattle.std.proofs.Common.{◌∙◌, Option, ap}
use Rattle.df_trailer.{specs.{declared.fault.Failing.{Failing}, Text.{answer, fault_in}}, proofs.Fed.{fails_as_read}}
use Rattle.df_trailer.proofs.reader.Reader.end.Goals as goal

pub returns-in-None-clause-fault : goal.returns-in-None-clause-fault
returns-in-None-clause-fault c = λ layout op text read.
    ap (λ (o : Option Failing). answer (fault_in o)) (c.in-None.ensures ∙ fails_as_read layout op text c.args.self.now read)

pub returns-in-Some-clause-fault : goal.returns-in-Some-clause-fault
returns-in-Some-clause-fault c = λ layout op text read.
    ap (λ (o : Option Failing). answer (fault_in o)) (c.in-Some.ensures ∙ fails_as_read layout op text c.args.self.now read)
