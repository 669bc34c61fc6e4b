-- What a command writes, as an entry of the tables; the job with it; the condition on it.
use mathlib.Core.Path.{◌≡◌, refl}
use Prim.Native.Nat.{ℕ}
use mathlib.Core.Bool.{Bool, true, false, cond}
use mathlib.Core.List.{[], ◌∷◌, ◌++◌}
use lib.ListN.{length, get_or}
use Rattle.std.specs.Prelude.{Ok, Err}
use Rattle.syntax.specs.Types.{TypeEntry, tree, depth}
use Rattle.syntax.specs.Commands.{Cmd}
use Rattle.syntax.specs.Job.{Job}
use Rattle.syntax.specs.Words.{name_word, type_word, set_word, value_word, head_word, slots}
use Rattle.syntax.specs.Reading.{Written, w_name, w_type, w_value, w_rights, w_cmd, w_end, unwritten, given, enter, name_ok, type_ok, host_value_ok, rights_ok, cmd_ok}
use Rattle.entry.specs.Entries.{Judged}
use Rattle.entry.specs.declared.Form.{Form}
use Rattle.entry.specs.declared.Entry.{Entry}
use Rattle.entry.specs.declared.Entry.TheVariants.{Named, Typed, Valued, Rights, Formed, Last}

unfoldable pub ok_w : Written → Job → Bool
ok_w (w_name d) J = name_ok J.names d
ok_w (w_type e) J = type_ok J.names J.types e
ok_w (w_value h) J = host_value_ok J.names J.types h
ok_w (w_rights s) J = rights_ok J.names s
ok_w (w_cmd k) J = cmd_ok J k
ok_w w_end J = true
ok_w unwritten J = false

unfoldable pub extended : Written → Job → Job
extended (w_name d) J = record { names = J.names ++ (d ∷ []); types = J.types; values = J.values; rights = J.rights; cmds = J.cmds }
extended (w_type e) J = record { names = J.names; types = J.types ++ (e ∷ []); values = J.values; rights = J.rights; cmds = J.cmds }
extended (w_value h) J = record { names = J.names; types = J.types; values = J.values ++ (h ∷ []); rights = J.rights; cmds = J.cmds }
extended (w_rights s) J = record { names = J.names; types = J.types; values = J.values; rights = s; cmds = J.cmds }
extended (w_cmd k) J = record { names = J.names; types = J.types; values = J.values; rights = J.rights; cmds = J.cmds ++ (k ∷ []) }
extended w_end J = J
extended unwritten J = J

pub enter_is : (w : Written) (J : Job) → enter w J ≡ given (ok_w w J) (extended w J)
unfolding enter ok_w extended given
enter_is (w_name d) J = refl
enter_is (w_type e) J = refl
enter_is (w_value h) J = refl
enter_is (w_rights s) J = refl
enter_is (w_cmd k) J = refl
enter_is w_end J = refl
enter_is unwritten J = refl

unfoldable pub words_of : Cmd ℕ → Form
words_of k =
    record {
      head = head_word k;
      a = get_or (slots k) 0 0;
      b = get_or (slots k) 1 0;
      c = get_or (slots k) 2 0;
      d = get_or (slots k) 3 0;
      e = get_or (slots k) 4 0;
    }

-- the depth of a new last type
unfoldable pub new_depth : Job → TypeEntry → ℕ
new_depth J e = depth (tree (J.types ++ (e ∷ [])) (length J.types))

unfoldable pub entry_w : Written → Job → Entry
entry_w (w_name d) J = Named (name_word d)
entry_w (w_type e) J = Typed (type_word e) (set_word e) (new_depth J e)
entry_w (w_value h) J = Valued (value_word h)
entry_w (w_rights s) J = Rights s.set
entry_w (w_cmd k) J = Formed (words_of k)
entry_w w_end J = Last
entry_w unwritten J = Last

-- what the command comes to where 2 to 5 are not given
unfoldable pub judged_w : Written → Job → Judged
judged_w w J = cond (ok_w w J) (Ok (entry_w w J)) (Err 6)
