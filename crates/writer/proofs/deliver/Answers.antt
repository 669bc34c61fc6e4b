use Rattle.std.proofs.lemmas.Result.{err_from_is_err_and}
use Rattle.writer.proofs.Sending.{no_fault, some_fault, reach_is, place_is, fault_is, whole_refused, whole_short, whole_sent, fault_job, fault_later, fault_first}
use mathlib.Core.Path.{◌≡◌, refl, ap, ◌∙◌}
use native.Mathlib.Omega.{arith}
use lib.ListN.{length}
use Rattle.std.specs.Prelude.{Ok, ◌≤◌}
use Rattle.table.proofs.Copied.{copied_all}
use Rattle.writer.proofs.deliver.Goals as goal

pub returns-in_err-would_read-in-Ok : goal.returns-in_err-would_read-in-Ok
returns-in_err-would_read-in-Ok c =
    let p = err_from_is_err_and c.from_residual.result c.from_residual.ensures.1 in
    rw (p.1, p.2) (whole_refused _ c.in_err-would_read-in-Ok.ensures (no_fault _ c.in-Ok.is) _ refl refl)

pub returns-then-buffer-n : goal.returns-then-buffer-n
returns-then-buffer-n c =
    let n : c.in-Ok.n ≡ length c.args.bytes.now = reach_is _ c.in-Ok.is c.requires.reach in
    whole_short _ c.in_ok-would_read-in-Ok.ensures (no_fault _ c.in-Ok.is) _ refl (omega (arith, n, c.if-buffer-n.true)) refl

pub returns-else-buffer-n : goal.returns-else-buffer-n
returns-else-buffer-n c =
    let n : c.in-Ok.n ≡ length c.args.bytes.now = reach_is _ c.in-Ok.is c.requires.reach in
    let fits : length c.args.bytes.now ≤ length c.args.buffer.now = omega (arith, n, c.if-buffer-n.false) in
    whole_sent _ c.in_ok-would_read-in-Ok.ensures (no_fault _ c.in-Ok.is) _ refl fits (ap Ok n) (c.copy.ensures ∙ copied_all _ _ fits)

pub returns-then-q-k : goal.returns-then-q-k
returns-then-q-k c =
    let k : c.in-Err.k.place ≡ length c.args.bytes.now = place_is _ c.in-Err.is c.requires.reach in
    fault_first _ c.in-Err-would_read.ensures (some_fault _ c.in-Err.is c.requires.told) _ refl (omega (arith, k, c.if-q-k.true)) refl

pub returns-else-q-k : goal.returns-else-q-k
returns-else-q-k c =
    let k : c.in-Err.k.place ≡ length c.args.bytes.now = place_is _ c.in-Err.is c.requires.reach in
    fault_later _ c.in-Err-would_read.ensures (some_fault _ c.in-Err.is c.requires.told) _ refl (omega (arith, k, c.if-q-k.false)) (fault_is _ c.in-Err.is c.requires.reach)

pub returns-in-Ok-would_read : goal.returns-in-Ok-would_read
returns-in-Ok-would_read c = fault_job _ c.in-Ok-would_read.ensures (some_fault _ c.in-Err.is c.requires.told) _ refl (fault_is _ c.in-Err.is c.requires.reach)
