use Rattle.writer.proofs.Sending.{take_all, in_scratch, write_sent, write_short}
use Rattle.job.proofs.ReadTables.{short_tables}
use Prim.Native.Nat.{ℕ}
use lib.ListN.{length-replicate}
use mathlib.Core.Bool.{not}
use mathlib.Core.Path.{refl, sym, ap, ◌∙◌}
use Rattle.writer.proofs.write.Goals as goal

pub slice_bounds-scratch-end : goal.slice_bounds-scratch-end
slice_bounds-scratch-end c = in_scratch c.reach-n.ensures c.encode-pen.ensures (length-replicate {A = ℕ} 12544 0)

pub slice_bounds-deliver-end : goal.slice_bounds-deliver-end
slice_bounds-deliver-end c = take_all _ _ (in_scratch c.reach-n.ensures c.encode-pen.ensures (length-replicate {A = ℕ} 12544 0))

pub deliver-requires : goal.deliver-requires
deliver-requires c =
    record {
      reach = sym c.reach-n.ensures ∙ take_all _ _ (in_scratch c.reach-n.ensures c.encode-pen.ensures (length-replicate {A = ℕ} 12544 0));
      told = c.encode-pen.ensures.penned.refused;
    }

pub returns-then-long_enough : goal.returns-then-long_enough
returns-then-long_enough c = write_sent refl c.reach-n.ensures (short_tables _ _ _ _ _ _ ∙ ap not (sym c.long_enough.ensures ∙ c.if-long_enough.true)) c.encode-pen.ensures (in_scratch c.reach-n.ensures c.encode-pen.ensures (length-replicate {A = ℕ} 12544 0)) c.deliver.ensures

pub returns-else-long_enough : goal.returns-else-long_enough
returns-else-long_enough c = write_short refl (short_tables _ _ _ _ _ _ ∙ ap not (sym c.long_enough.ensures ∙ c.if-long_enough.false)) refl refl
