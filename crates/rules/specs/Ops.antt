-- The tests and operations on names and effects as the code has them: by the table of ancestors, and the upper name by the names table.
use Rattle.std.specs.Prelude.{ℕ, ◌%◌, List, get_or, eqb}
use Rattle.order.specs.Effects.{of_word}
use Rattle.typing.specs.Numbered.{Ops}
use Rattle.names.specs.Ancestors.{below_by, effects_by, touch_by, reduce_by, drop_by, raise_by}

-- ancestors, names
abbrev pub ops_by : List ℕ → List ℕ → Ops
ops_by anc names =
    record {
      over = λ r u. eqb u (get_or names r 0 % 256);
      below = below_by anc;
      eff_below = effects_by anc;
      touch = λ q s. of_word (touch_by q s.set);
      reduce = λ s. of_word (reduce_by anc s.set);
      drop = λ r s. of_word (drop_by anc r s.set);
      raise = λ r u s. of_word (raise_by r u s.set);
    }
