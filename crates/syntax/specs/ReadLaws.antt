-- What holds of every job that is read: each entry met its conditions when it was read, and those conditions are about the entries before it.
use Rattle.std.specs.Prelude.{◌≡◌, ℕ, ◌+◌, ◌≤◌, ◌<◌, Bool, true, List, [], ◌∷◌, ◌++◌, length}
use Rattle.order.specs.Effects.{Effect}
use Rattle.syntax.specs.Types.{TypeEntry}
use Rattle.syntax.specs.Commands.{Cmd}
use Rattle.syntax.specs.Job.{Name, HostValue, Job}
use Rattle.syntax.specs.Reading.{Refusal, State, most_names, most_types, most_variables, most_expressions, name_ok, type_ok, host_value_ok, rights_ok, cmd_ok}
use Rattle.syntax.specs.Reading.{Written, w_name, w_type, w_value, w_rights, w_cmd, w_end, unwritten}
use Rattle.syntax.specs.Reading.{Step, refuse, proceed, finish, Read, refused, read}

-- a list built one entry after another at its end, each with a test that knows the entries before it
pub data Built {A : Type 0} (ok : List A → A → Bool) : List A → Type 0 where
  nothing : Built ok []
  more : {l : List A} → Built ok l → (a : A) → ok l a ≡ true → Built ok (l ++ (a ∷ []))

-- the job with other expressions
abbrev pub with_cmds : Job → List (Cmd ℕ) → Job
with_cmds J l = record { names = J.names; types = J.types; values = J.values; rights = J.rights; cmds = l }

abbrev pub NamesOk : List Name → Type 0
NamesOk ds = Built name_ok ds

-- types are written when all names are
abbrev pub TypesOk : List Name → List TypeEntry → Type 0
TypesOk ds ts = Built (λ l e. type_ok ds l e) ts

abbrev pub ValuesOk : List Name → List TypeEntry → List (HostValue ℕ) → Type 0
ValuesOk ds ts vs = Built (λ l h. host_value_ok ds ts h) vs

abbrev pub CmdsOk : Job → List (Cmd ℕ) → Type 0
CmdsOk J l = Built (λ m k. cmd_ok (with_cmds J m) k) l

-- a job that is read
pub record JobOk (J : Job) : Type 0 where
  pub names : NamesOk J.names
  pub types : TypesOk J.names J.types
  pub values : ValuesOk J.names J.types J.values
  pub rights : rights_ok J.names J.rights ≡ true
  pub cmds : CmdsOk J J.cmds
  pub few_names : 2 + length J.names ≤ most_names
  pub few_types : length J.types ≤ most_types
  pub few_values : length J.values ≤ most_variables
  pub few_cmds : length J.cmds ≤ most_expressions
  pub some_cmds : 0 < length J.cmds

-- a command in its place: `n` expressions are read, and reading is in section `cur`
pub record Placed (cur sec n : ℕ) : Type 0 where
  pub after : cur ≤ sec
  pub once : sec ≡ 3 → cur < 3
  pub late : 4 ≤ sec → 3 ≤ cur
  pub some_before : sec ≡ 5 → 0 < n

-- room for one entry more
pub record Room (J : Job) (sec : ℕ) : Type 0 where
  pub for_name : sec ≡ 0 → 2 + length J.names < most_names
  pub for_type : sec ≡ 1 → length J.types < most_types
  pub for_value : sec ≡ 2 → length J.values < most_variables
  pub for_cmd : sec ≡ 4 → length J.cmds < most_expressions

-- what a command writes belongs to its section
pub data Wrote : ℕ → Written → Type 0 where
  wrote_name : (d : Name) → Wrote 0 (w_name d)
  wrote_type : (e : TypeEntry) → Wrote 1 (w_type e)
  wrote_value : (h : HostValue ℕ) → Wrote 2 (w_value h)
  wrote_rights : (s : Effect) → Wrote 3 (w_rights s)
  wrote_cmd : (k : Cmd ℕ) → Wrote 4 (w_cmd k)
  wrote_end : Wrote 5 w_end
  wrote_none : (sec : ℕ) → Wrote sec unwritten

-- what holds while reading is in section `sec`
pub record Sofar (sec : ℕ) (J : Job) : Type 0 where
  pub names : NamesOk J.names
  pub types : TypesOk J.names J.types
  pub values : ValuesOk J.names J.types J.values
  pub rights : 3 ≤ sec → rights_ok J.names J.rights ≡ true
  pub cmds : CmdsOk J J.cmds
  pub few_names : 2 + length J.names ≤ most_names
  pub few_types : length J.types ≤ most_types
  pub few_values : length J.values ≤ most_variables
  pub few_cmds : length J.cmds ≤ most_expressions
  pub no_types : sec < 1 → J.types ≡ []
  pub no_values : sec < 2 → J.values ≡ []
  pub no_cmds : sec < 4 → J.cmds ≡ []

-- a fact about what one command comes to, about what reading comes to
pub data StepOk : Step → Type 0 where
  step_refuse : (n : ℕ) → StepOk (refuse n)
  step_proceed : (st : State) → Sofar st.section st.job → StepOk (proceed st)
  step_finish : (J : Job) → JobOk J → StepOk (finish J)

pub data ReadOk : Read → Type 0 where
  read_refused : (r : Refusal) → ReadOk (refused r)
  read_done : (J : Job) → JobOk J → ReadOk (read J)
