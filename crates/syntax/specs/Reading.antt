-- Reading (document 01, "The bytes of a job" and refusals 2 to 7): the job that the bytes write, or the first refusal.
use Rattle.std.specs.Prelude.{ℕ, zero, suc, ◌+◌, ◌-◌, Bool, true, false, cond, not, List, [], ◌∷◌, ◌++◌, length, get_or, drop, take, eqb, ltb, leb}
use Rattle.std.proofs.Math.Option.{Option, none, some}
use Rattle.std.proofs.Math.ListN.{get_elem?}
use Rattle.order.specs.Bools.{◌and◌, ◌or◌}
use Rattle.order.specs.Sets.{all_of}
use Rattle.order.specs.Effects.{Effect, of_word, pure, names, reduced}
use Rattle.syntax.specs.Types.{Ty, on_num, on_cell, on_lim, on_grant, TypeEntry, e_num, e_pair, e_cell, e_fn, e_lim, e_grant, tree, depth}
use Rattle.syntax.specs.Commands.{Cmd, c_num, c_top, c_var, c_pair, c_part, c_fn, c_app, c_new, c_asg, c_read, c_sum, c_test, c_lim, c_grant, c_newkey, c_assoc, c_access, c_divide, c_spawn}
use Rattle.syntax.specs.Commands.{Op, o_host, o_local, o_number, o_pair, o_cell, o_function, o_limit, o_grant, o_value, o_rights, o_end, form, allowed, op_of, operands, width, section_of, fields}
use Rattle.syntax.specs.Commands.{x_number, x_top, x_variable, x_pair, x_part, x_function, x_apply, x_cell, x_assign, x_read, x_sum, x_test, x_limit, x_grant, x_newkey, x_associate, x_access, x_divide, x_spawn}
use Rattle.syntax.specs.Operands.{children, types_of, uses_var, binds_var, binds_name}
use Rattle.syntax.specs.Job.{Name, HostValue, Job, uppers}

-- a refusal: its number, and its place
pub record Refusal : Type 0 where
  pub number : ℕ
  pub place : ℕ

-- what has been read so far, and the section that reading is in
pub record State : Type 0 where
  pub section : ℕ
  pub job : Job

-- "At most 64 names with 0 and 1, 256 types, 64 variables, 512 expressions."
abbrev pub most_names : ℕ
most_names = 64

-- names 0 and 1 are not declared
abbrev pub most_declared : ℕ
most_declared = most_names - 2

abbrev pub most_types : ℕ
most_types = 256

abbrev pub most_variables : ℕ
most_variables = 64

abbrev pub most_expressions : ℕ
most_expressions = 512

abbrev pub most_depth : ℕ
most_depth = 16

-- a name that is 0, 1 or declared
unfoldable pub declared : List Name → ℕ → Bool
declared ds q = ltb q (2 + length ds)

unfoldable pub is_host : Option Name → Bool
is_host none = false
is_host (some d) = d.host

-- a host name or 1
unfoldable pub host_name : List Name → ℕ → Bool
host_name ds q = eqb q 1 or (leb 2 q and is_host (get_elem? ds (q - 2)))

-- a host name, 1 or 0
unfoldable pub open_name : List Name → ℕ → Bool
open_name ds q = eqb q 0 or host_name ds q

-- a declared name that is not the host's
unfoldable pub local_name : List Name → ℕ → Bool
local_name ds q = leb 2 q and declared ds q and not (host_name ds q)

-- a written set: reduced, of declared names
unfoldable pub set_ok : List Name → Effect → Bool
set_ok ds s = all_of (declared ds) (names s) and reduced (uppers ds) s

-- 0x01, 0x02: the upper name is not 0 and declared earlier; a host name's is a host name or 1
unfoldable pub name_ok : List Name → Name → Bool
name_ok ds d = not (eqb d.upper 0) and declared ds d.upper and (not d.host or host_name ds d.upper)

-- 0x10 to 0x15: names declared, r not 0, parts earlier, the set as above; depth at most 16
unfoldable pub parts_ok : List Name → ℕ → TypeEntry → Bool
parts_ok ds n (e_num q) = declared ds q
parts_ok ds n (e_pair q a b) = declared ds q and ltb a n and ltb b n
parts_ok ds n (e_cell q a) = declared ds q and ltb a n
parts_ok ds n (e_fn q a b s) = declared ds q and ltb a n and ltb b n and set_ok ds s
parts_ok ds n (e_lim q r) = declared ds q and declared ds r and not (eqb r 0)
parts_ok ds n (e_grant q r) = declared ds q and declared ds r and not (eqb r 0)

unfoldable pub type_ok : List Name → List TypeEntry → TypeEntry → Bool
type_ok ds ts e = parts_ok ds (length ts) e and leb (depth (tree (ts ++ (e ∷ [])) (length ts))) most_depth

-- 0x20: a cell of unkeyed numbers, or a limit or grant key (n is then 0), of 0, 1 and host names
unfoldable pub unkeyed_number : Ty → Bool
unkeyed_number T = on_num T (λ q. eqb q 0) false

unfoldable pub host_type_ok : List Name → Ty → ℕ → Bool
host_type_ok ds T n =
    let key : ℕ → ℕ → Bool = λ q r. open_name ds q and open_name ds r and eqb n 0 in
    on_cell T (λ q A. open_name ds q and unkeyed_number A) (on_lim T key (on_grant T key false))

unfoldable pub host_value_ok : List Name → List TypeEntry → HostValue ℕ → Bool
host_value_ok ds ts h = ltb h.ty (length ts) and host_type_ok ds (tree ts h.ty) h.init

-- 0x21: of 1 and host names
unfoldable pub rights_ok : List Name → Effect → Bool
rights_ok ds s = set_ok ds s and all_of (host_name ds) (names s)

-- an expression: operands and types earlier, variables below 64, a bound variable not the host's, a bound name local
unfoldable pub cmd_ok : Job → Cmd ℕ → Bool
cmd_ok J k =
    all_of (λ e. ltb e (length J.cmds)) (children k)
    and all_of (λ t. ltb t (length J.types)) (types_of k)
    and all_of (λ v. ltb v most_variables) (uses_var k)
    and all_of (λ v. leb (length J.values) v and ltb v most_variables) (binds_var k)
    and all_of (local_name J.names) (binds_name k)

-- what a command writes; `unwritten` where an operand has no meaning
pub data Written : Type 0 where
  w_name : Name → Written
  w_type : TypeEntry → Written
  w_value : HostValue ℕ → Written
  w_rights : Effect → Written
  w_cmd : Cmd ℕ → Written
  w_end : Written
  unwritten : Written

-- what a command's operands mean, in order
unfoldable pub means : Op → List ℕ → Written
means o_host o = w_name (record { host = true; upper = get_or o 0 0 })
means o_local o = w_name (record { host = false; upper = get_or o 0 0 })
means o_number o = w_type (e_num (get_or o 0 0))
means o_pair o = w_type (e_pair (get_or o 0 0) (get_or o 1 0) (get_or o 2 0))
means o_cell o = w_type (e_cell (get_or o 0 0) (get_or o 1 0))
means o_function o = w_type (e_fn (get_or o 0 0) (get_or o 1 0) (get_or o 2 0) (of_word (get_or o 3 0)))
means o_limit o = w_type (e_lim (get_or o 0 0) (get_or o 1 0))
means o_grant o = w_type (e_grant (get_or o 0 0) (get_or o 1 0))
means o_value o = w_value (record { ty = get_or o 0 0; init = get_or o 1 0 })
means o_rights o = w_rights (of_word (get_or o 0 0))
means x_number o = w_cmd (c_num (get_or o 0 0))
means x_top o = w_cmd c_top
means x_variable o = w_cmd (c_var (get_or o 0 0))
means x_pair o = w_cmd (c_pair (get_or o 0 0) (get_or o 1 0))
means x_part o = w_cmd (c_part (get_or o 0 0) (eqb (get_or o 1 0) 1))
means x_function o = w_cmd (c_fn (get_or o 0 0) (get_or o 1 0) (get_or o 2 0))
means x_apply o = w_cmd (c_app (get_or o 0 0) (get_or o 1 0))
means x_cell o = w_cmd (c_new (get_or o 0 0) (get_or o 1 0))
means x_assign o = w_cmd (c_asg (get_or o 0 0) (get_or o 1 0))
means x_read o = w_cmd (c_read (get_or o 0 0))
means x_sum o = w_cmd (c_sum (eqb (get_or o 0 0) 0) (get_or o 1 0) (get_or o 2 0))
means x_test o = w_cmd (c_test (get_or o 0 0) (get_or o 1 0) (get_or o 2 0) (get_or o 3 0))
means x_limit o = w_cmd (c_lim (take (get_or o 0 0) (take 4 (drop 1 o))) (get_or o 5 0))
means x_grant o = w_cmd (c_grant (get_or o 0 0) (get_or o 1 0))
means x_newkey o = w_cmd (c_newkey (get_or o 0 0) (get_or o 1 0) (get_or o 2 0) (get_or o 3 0) (get_or o 4 0))
means x_associate o = w_cmd (c_assoc (get_or o 0 0) (get_or o 1 0))
means x_access o = w_cmd (c_access (get_or o 0 0) (get_or o 1 0) (get_or o 2 0) (get_or o 3 0))
means x_divide o = w_cmd (c_divide (get_or o 0 0) (get_or o 1 0))
means x_spawn o = w_cmd (c_spawn (get_or o 0 0))
means o_end o = w_end

-- what they write: nothing where one of them is not allowed
unfoldable pub written : Op → List ℕ → Written
unfolding form allowed means
written op o = cond (allowed (form op).roles o) (means op o) unwritten

-- the job with one entry more, where the entry meets its conditions
unfoldable pub given : Bool → Job → Option Job
given b J = cond b (some J) none

unfoldable pub enter : Written → Job → Option Job
enter (w_name d) J =
    given (name_ok J.names d) (record { names = J.names ++ (d ∷ []); types = J.types; values = J.values; rights = J.rights; cmds = J.cmds })
enter (w_type e) J =
    given (type_ok J.names J.types e) (record { names = J.names; types = J.types ++ (e ∷ []); values = J.values; rights = J.rights; cmds = J.cmds })
enter (w_value h) J =
    given (host_value_ok J.names J.types h) (record { names = J.names; types = J.types; values = J.values ++ (h ∷ []); rights = J.rights; cmds = J.cmds })
enter (w_rights s) J =
    given (rights_ok J.names s) (record { names = J.names; types = J.types; values = J.values; rights = s; cmds = J.cmds })
enter (w_cmd k) J =
    given (cmd_ok J k) (record { names = J.names; types = J.types; values = J.values; rights = J.rights; cmds = J.cmds ++ (k ∷ []) })
enter w_end J = some J
enter unwritten J = none

-- refusal 3: before or after its section, a second 0x21, an expression or 0xFF before 0x21, 0xFF with no expression
unfoldable pub misplaced : State → ℕ → Bool
misplaced st sec =
    ltb sec st.section
    or (eqb sec 3 and eqb st.section 3)
    or (leb 4 sec and ltb st.section 3)
    or (eqb sec 5 and eqb (length st.job.cmds) 0)

-- refusal 5: one entry more than a limit; the rights and the end have none
unfoldable pub full : Job → ℕ → Bool
full J sec =
    (eqb sec 0 and leb most_names (2 + length J.names))
    or (eqb sec 1 and leb most_types (length J.types))
    or (eqb sec 2 and leb most_variables (length J.values))
    or (eqb sec 4 and leb most_expressions (length J.cmds))

-- what one command comes to
pub data Step : Type 0 where
  refuse : ℕ → Step
  proceed : State → Step
  finish : Job → Step

unfoldable pub settle : ℕ → Option Job → Step
settle sec none = refuse 6
settle sec (some J) = cond (eqb sec 5) (finish J) (proceed (record { section = sec; job = J }))

-- "within one command": refusals 3, 4, 5, 6 in this order; `s` is what follows the command byte
unfoldable pub command : Op → List ℕ → State → Step
command op s st =
    cond (misplaced st (section_of op)) (refuse 3)
    (cond (ltb (length s) (width op)) (refuse 4)
    (cond (full st.job (section_of op)) (refuse 5)
    (settle (section_of op) (enter (written op (fields (operands op) s)) st.job))))

-- the job, or the refusal
pub data Read : Type 0 where
  refused : Refusal → Read
  read : Job → Read

abbrev pub refused_at : ℕ → ℕ → Read
refused_at n p = refused (record { number = n; place = p })

-- after 0xFF: refusal 7 where a byte follows
unfoldable pub ended : ℕ → List ℕ → Job → Read
ended pos [] J = read J
ended pos (b ∷ s) J = refused_at 7 pos

-- go on at the next command
unfoldable pub onward : Step → ℕ → List ℕ → (State → Read) → Read
onward (refuse n) pos s next = refused_at n pos
onward (proceed st) pos s next = next st
onward (finish J) pos s next = ended (suc pos) s J

unfoldable pub on_op : Option Op → ℕ → (Op → Read) → Read
on_op none pos f = refused_at 2 pos
on_op (some op) pos f = f op

-- from the command at offset `pos` on; each command takes a byte or more
unfoldable pub read_from : ℕ → ℕ → State → List ℕ → Read
read_from zero pos st s = refused_at 4 pos
read_from (suc f) pos st [] = refused_at 4 pos
read_from (suc f) pos st (b ∷ s) =
    on_op (op_of b) pos (λ op. onward (command op s st) pos s (λ next. read_from f (pos + 1 + width op) next (drop (width op) s)))

abbrev pub no_job : Job
no_job = record { names = []; types = []; values = []; rights = pure; cmds = [] }

unfoldable pub reading : List ℕ → Read
reading s = read_from (suc (length s)) 0 (record { section = 0; job = no_job }) s
