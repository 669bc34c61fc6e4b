-- The passes over names, host values and rights give the start of what the words hold.
use Prim.Native.Nat.{ℕ, ◌+◌, ◌-◌, ◌<◌, ◌≤◌}
use mathlib.Core.Path.{◌≡◌, refl, ap, sym, ◌∙◌}
use mathlib.Core.Bool.{Bool, true, false, cond}
use mathlib.Core.List.{List, [], map}
use native.Mathlib.Omega.{arith}
use borrow.Author.Tests.{ltb-false, leb-true}
use lib.Dec.{ltb}
use lib.ListN.{get_or, length-replicate}
use Rattle.order.proofs.Bools.{and_l, and_r}
use Rattle.order.specs.Sets.{set_of}
use Rattle.order.specs.Effects as effects
use Rattle.syntax.specs.Job.{Src}
use Rattle.syntax.specs.Reading.{most_expressions}
use Rattle.syntax.specs.Tree.{root, predecessor}
use Rattle.syntax.proofs.Context.{predecessor_minus}
use Rattle.semantics.specs.Start.{Named, named, key_named, Valued, valued, add_values}
use Rattle.names.specs.Ancestors.{names_in}
use Rattle.store.specs.Meaning.{keys_in}
use Rattle.store.specs.Words.{link_in}
use Rattle.store.specs.Tables.{list_of, capped}
use Rattle.initial.specs.Entries.{key_in, named_in, NamesEntered, values_from, valued_in, ValuesEntered}
use Rattle.initial.specs.Begun.{word_source, is_job, Begun}
use Rattle.initial.specs.declared.Initial.{Initial}

-- a count that is within its places
pub capped_le : (n most : ℕ) → n ≤ most → capped n most ≡ n
capped_le n most h = at (ltb n most) refl
  where
    at : (b : Bool) → ltb n most ≡ b → cond b n most ≡ n
    at true e = refl
    at false e = omega (arith, ltb-false n most e)

-- counts that are a job's
pub job_few : (n m k : ℕ) → is_job n m k ≡ true → (n ≤ 62) × (m ≤ 64) × (k ≤ 512)
unfolding is_job
job_few n m k e =
    let a = and_l _ _ e in
    let b = and_l _ _ a in
    (leb-true n 62 (and_l _ _ b), leb-true m 64 (and_r _ _ b), leb-true k 512 (and_r _ _ e))

pub root_small : (n : ℕ) {r : ℕ} → r ≡ predecessor n → n ≤ most_expressions → r < 65536
root_small n e h = omega (arith, e, predecessor_minus n)

-- what the passes over names, host values and rights give together
pub begun :
    (names : List ℕ) (n : ℕ) (types values : List ℕ) (m rights cmds : ℕ) (of bound : List ℕ) (r : Initial) → n ≤ 62 → m ≤ 64 → r.nbindings ≡ r.nkeys - 2 + m → r.root ≡ predecessor cmds →
    NamesEntered (names_in names n) r.keys of bound r.nkeys (n + 2) →
    ValuesEntered (key_in of (n + 2)) types values m (r.nkeys - 2) bound r.cells r.bindings r.ncells →
    keys_in r.on ≡ set_of (map (key_in of (n + 2)) (effects.names (effects.of_word rights))) → Begun (word_source names n types values m rights cmds) r
unfolding word_source named key_named valued named_in valued_in root
begun names n types values m rights cmds of bound r hn hm eb er sn sv so =
    record {
      keys = ap (λ (s : Named). s.keys) all;
      cells = ap (λ (s : Valued). s.cells) held;
      bindings = ap (λ (i : ℕ). list_of link_in r.bindings i) eb ∙ ap (λ (s : Valued). s.bindings) held;
      on = so ∙ ap (λ (f : ℕ → ℕ). set_of (map f (effects.names (effects.of_word rights)))) key;
      its_root = er ∙ ap predecessor (sym (length-replicate cmds _));
      few_keys = omega (arith, sn.few);
      few_cells = omega (arith, sv.few);
      few_bindings = omega (arith, sn.few);
    }
  where
    S : Src
    S = word_source names n types values m rights cmds

    all : named_in r.keys of bound r.nkeys (n + 2) ≡ named S
    all = sn.same

    key : key_in of (n + 2) ≡ key_named S
    key = ap {B = ℕ → ℕ} (λ (s : Named). λ (q : ℕ). get_or s.of q 0) all

    held : valued_in r.cells r.bindings r.ncells (r.nkeys - 2 + m) ≡ valued S
    held =
        sv.same
        ∙ ap (λ (f : ℕ → ℕ). add_values f 0 (values_from types values 0 m) (record { cells = []; bindings = list_of link_in bound (r.nkeys - 2) })) key
        ∙ ap (λ (s : Named). add_values (key_named S) 0 (values_from types values 0 m) (record { cells = []; bindings = s.bindings })) all
