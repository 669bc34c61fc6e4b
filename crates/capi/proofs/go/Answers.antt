use Rattle.capi.proofs.go.Goals as goal

pub returns : goal.returns
returns c = record { last = _; made = c.make_calls.ensures; rooms = c.count.ensures _ }
