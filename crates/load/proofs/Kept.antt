-- A load keeps the length of each lent table.
use Rattle.std.specs.Prelude.{◌≡◌, refl, ℕ, suc, ◌*◌, Bool, true, false, length}
use Rattle.std.proofs.Math.Path.{subst⁻¹}
use Rattle.std.proofs.Common.{arith, length-append}
use mathlib.Core.List.{List, [], ◌∷◌, flat_map}
use Rattle.std.proofs.lemmas.List.{length-map, length-replicate}
use Rattle.syntax.specs.Commands.{Cmd}
use Rattle.syntax.specs.Operands.{nth}
use Rattle.syntax.specs.Job.{Job}
use Rattle.syntax.specs.Words.{name_word, type_word, set_word, value_word, head_word, slots, name_words, type_words, set_words, value_words, head_words, slot_words}
use Rattle.syntax.specs.WordLaws.{Bytes, CmdFits, JobFits}
use Rattle.syntax.proofs.WordLaws.{job_fits, slots_length, filled_length}
use Rattle.syntax.specs.Reading.{Read, refused, read}
use Rattle.syntax.specs.ReadLaws.{JobOk}
use Rattle.syntax.proofs.ReadLaws.{read_ok}
use Rattle.syntax.specs.Loading.{JobTables, short, zeros, cleared, filled_with, loading, holding, tables_after_load}
use Rattle.syntax.specs.LoadLaws.{Long, Lengths}
use Rattle.syntax.proofs.LoadLaws.{loaded, long_after, short_after, long_is}
use Rattle.job.specs.Answer.{Answer}
use Rattle.load.specs.Loads.{LoadTo}

-- an expression takes five places
five_each : (l : List (Cmd ℕ)) → ((e : ℕ) → CmdFits (nth l e)) → length (flat_map slots l) ≡ length l * 5
unfolding flat_map nth
five_each [] f = refl
five_each (k ∷ l) f = omega (arith, length-append (slots k) (flat_map slots l), slots_length k (f 0), five_each l (λ e. f (suc e)))

cleared_kept : (w : JobTables) → Lengths (cleared w) w
unfolding cleared zeros
cleared_kept w =
    record {
      names = length-replicate _ _;
      types = length-replicate _ _;
      sets = length-replicate _ _;
      values = length-replicate _ _;
      heads = length-replicate _ _;
      slots = length-replicate _ _;
    }

filled_kept : (J : Job) → JobOk J → JobFits J → (w : JobTables) → Long w → Lengths (filled_with J.types J w) w
unfolding filled_with
filled_kept J o f w l =
    record {
      names = filled_length (length w.names) (name_words J) (omega (arith, l.names, o.few_names, length-map J.names name_word));
      types = filled_length (length w.types) (type_words J.types) (omega (arith, l.types, o.few_types, length-map J.types type_word));
      sets = filled_length (length w.sets) (set_words J.types) (omega (arith, l.sets, o.few_types, length-map J.types set_word));
      values = filled_length (length w.values) (value_words J) (omega (arith, l.values, o.few_values, length-map J.values value_word));
      heads = filled_length (length w.heads) (head_words J) (omega (arith, l.heads, o.few_cmds, length-map J.cmds head_word));
      slots = filled_length (length w.slots) (slot_words J) (omega (arith, l.slots, o.few_cmds, five_each J.cmds f.cmds));
    }

after_kept : (w : JobTables) (bytes : List ℕ) → Bytes bytes → Lengths (tables_after_load w bytes) w
unfolding holding
after_kept w bytes b = at (short w) refl
  where
    held : (R : Read) → loading bytes ≡ R → Long w → Lengths (holding R w) w
    held (refused r) e l = cleared_kept w
    held (read J) e l = let i = (loaded bytes J e).0 in filled_kept J (read_ok bytes J i) (job_fits bytes J b i) w l

    at : (s : Bool) → short w ≡ s → Lengths (tables_after_load w bytes) w
    at true h = subst⁻¹ (λ (x : JobTables). Lengths x w) (short_after w bytes h) (record { names = refl; types = refl; sets = refl; values = refl; heads = refl; slots = refl })
    at false h = subst⁻¹ (λ (x : JobTables). Lengths x w) (long_after w bytes h) (held (loading bytes) refl (long_is w h))

-- after a load each table is as long as before
pub load_kept : {bytes : List ℕ} {r : Answer} {w x : JobTables} → Bytes bytes → LoadTo bytes r w x → Lengths x w
load_kept {bytes} {r} {w} {x} b to = subst⁻¹ (λ (y : JobTables). Lengths y w) to.tables (after_kept w bytes b)
