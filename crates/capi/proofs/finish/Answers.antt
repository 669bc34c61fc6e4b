use Rattle.capi.proofs.finish.Goals as goal

pub returns : goal.returns
returns c = record { number = c.tell.ensures.number; value = c.hand_over.ensures.value; cells = c.hand_over.ensures.cells; out = c.tell.ensures.written }
