-- The machine of a job's start, from the machine's tables.
use mathlib.Core.Path.{◌≡◌, sym, ap, ◌∙◌}
use Prim.Native.Nat.{ℕ}
use native.Mathlib.Omega.{arith}
use mathlib.Core.List.{List, [], ◌∷◌}
use lib.ListN.{length, replicate}
use Rattle.syntax.specs.Job.{Src}
use Rattle.syntax.specs.Tree.{root}
use Rattle.semantics.specs.Machine.{Value, Link, enter, System, most_threads}
use Rattle.semantics.specs.Start.{start_of, first_thread, first_store, valued}
use Rattle.store.specs.Tables.{capped, list_of, stack_of}
use Rattle.store.specs.Words.{link_in}
use Rattle.store.proofs.Laws.{list_length}
use Rattle.acts.specs.declared.Control.TheVariants.{Enter}
use Rattle.acts.specs.View.{tables}
use Rattle.thread.specs.declared.Thread.{Thread}
use Rattle.machine.specs.Scheduled.{thread_at, listed, system_of}
use Rattle.initial.specs.declared.Initial.{Initial}
use Rattle.initial.specs.Begun.{Begun}
use Rattle.initial.proofs.Jobs.{capped_le}

-- a machine of one thread, which enters e and has no frame, from its parts
abbrev parts : ℕ → ℕ → ℕ → List Value → List ℕ → List Link → System
parts e n o cs ks bs =
    record {
      threads = record { control = enter e; env = n; on = o; frames = [] } ∷ [];
      store = record { cells = cs; keys = ks; pairs = []; functions = []; bindings = bs };
      round = 0;
      from = 0;
    }

same_parts : (e e' n n' o o' : ℕ) (cs cs' : List Value) (ks ks' : List ℕ) (bs bs' : List Link)
    → e ≡ e' → n ≡ n' → o ≡ o' → cs ≡ cs' → ks ≡ ks' → bs ≡ bs' → parts e n o cs ks bs ≡ parts e' n' o' cs' ks' bs'
same_parts e e' n n' o o' cs cs' ks ks' bs bs' a b c d g h = λ i. parts (a i) (b i) (c i) (d i) (g i) (h i)

-- the first thread
abbrev begins : Initial → Thread
begins b = record { now = record { control = Enter (record { 0 = b.root }); env = b.nbindings; on = b.on }; frames = 0 }

pub started : (S : Src) (b : Initial) → Begun S b → (fs pa fu : List ℕ)
    → system_of (replicate most_threads (begins b)) (capped 1 most_threads) (capped 0 most_threads) 0
    (record { cells = b.ncells; keys = b.nkeys; pairs = 0; functions = 0; bindings = b.nbindings })
    (tables [] fs b.cells b.keys pa fu b.bindings)
    ≡ start_of S
unfolding start_of first_thread first_store list_of stack_of thread_at listed
started S b g fs pa fu =
    same_parts b.root (root S) b.nbindings (length (valued S).bindings) _ _ _ _ _ _ _ _ g.its_root
    (sym (list_length link_in b.bindings b.nbindings) ∙ ap length g.bindings)
    g.on
    (rw (capped_le b.ncells 256 (omega (arith, g.few_cells))) g.cells)
    (rw (capped_le b.nkeys 128 g.few_keys) g.keys)
    (rw (capped_le b.nbindings 1024 (omega (arith, g.few_bindings))) g.bindings)
