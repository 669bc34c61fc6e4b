use Rattle.initial.proofs.Jobs.{job_few}
use Rattle.initial.specs.Begun.{source_in, word_source}
use Rattle.initial.specs.Empty.{no_job}
use Rattle.names.specs.Ancestors.{names_in}
use Rattle.initial.specs.Entries.{values_from}
use mathlib.Core.Path.{sym, ◌∙◌}
use Rattle.initial.proofs.tables.Goals as goal

pub entered-requires : goal.entered-requires
entered-requires c = job_few _ _ _ (sym c.is_job.ensures ∙ c.if-is_job.true)

pub returns-then-is_job : goal.returns-then-is_job
unfolding source_in
returns-then-is_job c = simp (← c.is_job.ensures, c.if-is_job.true) c.entered.ensures

pub returns-else-is_job : goal.returns-else-is_job
unfolding source_in word_source no_job names_in values_from
returns-else-is_job c = simp (← c.is_job.ensures, c.if-is_job.false) c.entered-else-is_job.ensures
