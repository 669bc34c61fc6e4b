use mathlib.Core.Path.{sym, ◌∙◌}
use Rattle.capi.proofs.Sessions.{session_none, session_ended}
use Rattle.capi.proofs.jobdesk_session.Goals as goal

pub returns-then-is_short : goal.returns-then-is_short
returns-then-is_short c = session_none _ _ _ _ (sym c.is_short.ensures ∙ c.if-is_short.true)

pub returns : goal.returns
returns c = session_ended _ _ _ _ _ _ _ _ _ _ _ _ _ _ _ _ (sym c.is_short.ensures ∙ c.if-is_short.false) c.session-held.ensures c.finish.ensures
