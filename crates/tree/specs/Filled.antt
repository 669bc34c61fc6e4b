-- Tables that are filled with a job's words, as reading leaves them, hold the job.
use Rattle.std.specs.Prelude.{◌≡◌, refl, ℕ, zero, suc, ◌+◌, ◌*◌, ◌<◌, List, [], ◌∷◌, map, length, get_or}
use Rattle.std.proofs.Common.{sym, ap, ◌∙◌, arith}
use Rattle.std.proofs.Math.Option.{some}
use Rattle.std.proofs.Math.ListN.{get_elem?}
use Rattle.syntax.specs.Commands.{Cmd}
use Rattle.syntax.specs.Operands.{nth}
use Rattle.syntax.specs.Job.{Name, Job}
use Rattle.syntax.specs.Words.{filled, name_word, type_word, set_word, head_word, name_words, type_words, set_words, head_words, slot_words}
use Rattle.syntax.specs.WordLaws.{JobFits}
use Rattle.syntax.proofs.WordLaws.{filled_at, word_at, slots_length, slots_at}
use Rattle.tree.specs.Holds.{Holds}

nth_some : (l : List (Cmd ℕ)) (e : ℕ) → e < length l → get_elem? l e ≡ some (nth l e)
unfolding nth
nth_some [] e h = absurd (omega arith)
nth_some (k ∷ l) zero h = refl
nth_some (k ∷ l) (suc e) h = nth_some l e (omega arith)

mapped : (l : List Name) (i : ℕ) (d : Name) → get_elem? l i ≡ some d → get_or (map name_word l) i 0 ≡ name_word d
mapped l i d e = sym (filled_at 0 (map name_word l) i) ∙ word_at name_word 0 l i d e

pub filled_holds : (J : Job) → JobFits J → (a b c d f : ℕ)
    → Holds J (filled a 0 (head_words J)) (filled b 0 (slot_words J)) (length J.cmds) (filled c 0 (name_words J)) (length J.names) (filled d 0 (type_words J.types)) (filled f 0 (set_words J.types))
    (length J.types) (length J.values)
filled_holds J fits a b c d f =
    record {
      cmds_are = refl;
      names_are = refl;
      types_are = refl;
      values_are = refl;
      head = λ e h. word_at head_word a J.cmds e (nth J.cmds e) (nth_some J.cmds e h);
      five = λ e h. slots_length (nth J.cmds e) (fits.cmds e);
      slot = λ e i h k. filled_at b (slot_words J) (e * 5 + i) ∙ slots_at J.cmds fits.cmds e i k;
      name_word_lem = λ i n h. filled_at c (name_words J) (i + 2) ∙ two i n h;
      type_word_lem = λ i t h. word_at type_word d J.types i t h;
      set_word_lem = λ i t h. word_at set_word f J.types i t h;
    }
  where
    two : (i : ℕ) (n : Name) → get_elem? J.names i ≡ some n → get_or (name_words J) (i + 2) 0 ≡ name_word n
    two i n h = let z : i + 2 ≡ suc (suc i) = omega arith in ap (λ (j : ℕ). get_or (name_words J) j 0) z ∙ mapped J.names i n h
