-- The two ways that a session for C and Rust ends.
use mathlib.Core.Path.{◌≡◌, refl, sym, ap, ◌∙◌}
use Prim.Native.Nat.{ℕ, ◌≤◌}
use native.Mathlib.Omega.{arith}
use mathlib.Core.Bool.{true, false, false≢true}
use mathlib.Core.List.{List, ◌++◌}
use lib.ListN.{length, drop}
use Rattle.typing.specs.Tables.{Tables}
use Rattle.semantics.specs.Machine.{System, most_cells}
use Rattle.machine.specs.View.{seen}
use Rattle.calls.specs.Words.{over}
use Rattle.calls.proofs.Laws.{over_fits}
use Rattle.session.specs.declared.Held.{Held}
use Rattle.session.specs.Session.{SessionTo}
use Rattle.results.specs.Told.{out_words, cell_words_lem, lent_short}
use Rattle.results.specs.Values.{value_at, value_words, cell_words}
use Rattle.results.proofs.Told.{long_lent, out_length}
use Rattle.results.proofs.Values.{cells_length}
use Rattle.capi.specs.Sessions.{Lent, lent, Reported, Sessions}

value_length : (m : System) → length (value_words m) ≡ 2
unfolding value_words value_at
value_length m = refl

cell_length : (m : System) → length (cell_words m) ≡ cell_words_lem
unfolding cell_words
cell_length m = cells_length m.store.cells 0 most_cells

-- words that have their places are written whole
whole : (n : ℕ) (l ws : List ℕ) {k : List ℕ} → length ws ≡ n → n ≤ length l → k ≡ over l ws → k ≡ ws ++ drop n l
whole n l ws e h z = z ∙ over_fits l ws (omega arith) ∙ ap (λ (i : ℕ). ws ++ drop i l) e

pub session_none : (bytes ws : List ℕ) (w : Tables) (l : Lent) → lent_short ws l.answers l.value l.cells l.out ≡ true → Sessions bytes ws 1 w w l l
session_none bytes ws w l e = record { short = λ z. record { number = refl; tables = refl; lent_same = refl }; long = λ z. absurd (false≢true (sym z ∙ e)) }

pub session_ended : (bytes ws : List ℕ) (r : ℕ) (h : Held) (w x : Tables) (fs fs' a a' v v' c c' o o' : List ℕ) → lent_short ws a v c o ≡ false → SessionTo bytes ws h w x fs fs' a a' → Reported h r v v' c c' o o'
    → Sessions bytes ws r w x (lent a v c o) (lent a' v' c' o')
session_ended bytes ws r h w x fs fs' a a' v v' c c' o o' e s t =
    let z = long_lent ws a v c o e in
    record {
      short = λ y. absurd (false≢true (sym e ∙ y));
      long =
          λ y. record {
            held = h;
            frames = fs;
            frames_after = fs';
            to = s;
            number = t.number;
            value = whole 2 v (value_words (seen h.machine fs')) (value_length (seen h.machine fs')) z.0 (t.value fs');
            cells = whole cell_words_lem c (cell_words (seen h.machine fs')) (cell_length (seen h.machine fs')) z.1 (t.cells fs');
            out = whole 2 o (out_words h.verdict) (out_length h.verdict) z.2 t.out;
          };
    }
