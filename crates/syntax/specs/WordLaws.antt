-- The numbers of a job that is read fit its tables, and an expression is read back from its words.
use Rattle.std.specs.Prelude.{◌≡◌, ℕ, ◌/◌, ◌%◌, ◌≤◌, ◌<◌, length, get_or}
use mathlib.Core.List.{List, [], ◌∷◌, Memᴰ}
use Rattle.std.proofs.Math.Option.{some}
use Rattle.std.proofs.Math.ListN.{get_elem?}
use Rattle.order.specs.Effects.{Effect}
use Rattle.order.specs.EffectLaws.{Within}
use Rattle.syntax.specs.Types.{TypeEntry, e_num, e_pair, e_cell, e_fn, e_lim, e_grant}
use Rattle.syntax.specs.Commands.{Cmd}
use Rattle.syntax.specs.Commands.{operands}
use Rattle.syntax.specs.Commands.{r_count, r_number, row}
use Rattle.syntax.specs.Operands.{nth, of_roles, children, types_of, uses_var, binds_var, binds_name}
use Rattle.syntax.specs.Job.{Name, HostValue, Job}
use Rattle.syntax.specs.Reading.{w_cmd, written}
use Rattle.syntax.specs.Words.{head_word, slots, decode}
use Rattle.syntax.specs.WrittenLaws.{numbers_of}

-- Ranges

-- an expression whose numbers fit its words
pub record CmdFits (k : Cmd ℕ) : Type 0 where
  pub operand : (c : ℕ) → Memᴰ c (children k) → c < 512
  pub type_operand : (t : ℕ) → Memᴰ t (types_of k) → t < 256
  pub used_variable : (v : ℕ) → Memᴰ v (uses_var k) → v < 64
  pub bound_variable : (v : ℕ) → Memᴰ v (binds_var k) → v < 64
  pub bound_name_lem : (r : ℕ) → Memᴰ r (binds_name k) → r < 64
  pub number : (n : ℕ) → Memᴰ n (of_roles (r_number ∷ []) k) → n < 4294967296
  pub few_keys : (c : ℕ) → Memᴰ c (of_roles (r_count ∷ []) k) → c ≤ 4

-- an entry of the type table whose numbers fit its words
pub data TypeFits : TypeEntry → Type 0 where
  t_num : {q : ℕ} → q < 64 → TypeFits (e_num q)
  t_pair : {q a b : ℕ} → q < 64 → a < 256 → b < 256 → TypeFits (e_pair q a b)
  t_cell : {q a : ℕ} → q < 64 → a < 256 → TypeFits (e_cell q a)
  t_fn : {q a b : ℕ} {s : Effect} → q < 64 → a < 256 → b < 256 → Within 64 s → TypeFits (e_fn q a b s)
  t_lim : {q r : ℕ} → q < 64 → r < 64 → TypeFits (e_lim q r)
  t_grant : {q r : ℕ} → q < 64 → r < 64 → TypeFits (e_grant q r)

pub record ValueFits (h : HostValue ℕ) : Type 0 where
  pub ty : h.ty < 256
  pub init : h.init < 4294967296

-- a job whose numbers fit its tables
pub record JobFits (J : Job) : Type 0 where
  pub upper : (i : ℕ) (d : Name) → get_elem? J.names i ≡ some d → d.upper < 64
  pub types : (i : ℕ) (e : TypeEntry) → get_elem? J.types i ≡ some e → TypeFits e
  pub values : (i : ℕ) (h : HostValue ℕ) → get_elem? J.values i ≡ some h → ValueFits h
  pub rights : Within 64 J.rights
  pub cmds : (e : ℕ) → CmdFits (nth J.cmds e)

-- Lists filled up

-- an expression's words: it is read back from its head and its five places; and its operands: it is what they write, one for each width
pub record InWords (k : Cmd ℕ) : Type 0 where
  pub back : decode (head_word k % 256) (head_word k / 256 % 4294967296) (get_or (slots k) 0 0) (get_or (slots k) 1 0) (get_or (slots k) 2 0) (get_or (slots k) 3 0) (get_or (slots k) 4 0) ≡ k
  pub five : length (slots k) ≡ 5
  pub writes : written (row k).op (numbers_of k) ≡ w_cmd k
  pub wide : length (numbers_of k) ≡ length (operands (row k).op)

-- every element of a list is a byte
abbrev pub Bytes : List ℕ → Type 0
Bytes s = (i : ℕ) → get_or s i 0 < 256

-- what the widths of operands bound
pub record Narrow (k : Cmd ℕ) : Type 0 where
  pub number : (n : ℕ) → Memᴰ n (of_roles (r_number ∷ []) k) → n < 4294967296
  pub few_keys : (c : ℕ) → Memᴰ c (of_roles (r_count ∷ []) k) → c ≤ 4

pub record Slim (J : Job) : Type 0 where
  pub values : (i : ℕ) (h : HostValue ℕ) → get_elem? J.values i ≡ some h → h.init < 4294967296
  pub cmds : (i : ℕ) (k : Cmd ℕ) → get_elem? J.cmds i ≡ some k → Narrow k
