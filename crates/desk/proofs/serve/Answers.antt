use Rattle.desk.proofs.Serving.{lines_of}
use Rattle.desk.proofs.serve.Goals as goal

pub returns-clause-lines : goal.returns-clause-lines
returns-clause-lines g c = λ read written. lines_of _ _ _ (c.serve_exact.ensures.text read written)
