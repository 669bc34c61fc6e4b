-- The host values of a job, entered one after another.
use Prim.Native.Nat.{ℕ, suc, ◌+◌, ◌-◌, ◌/◌, ◌%◌, ◌<◌, ◌≤◌}
use mathlib.Core.Path.{◌≡◌, refl, ap, sym, ◌∙◌}
use mathlib.Core.Bool.{Bool, true, false, cond}
use mathlib.Core.List.{List, [], ◌∷◌, append-nil}
use native.Mathlib.Omega.{arith}
use native.Mathlib.Numerals.{add-one}
use borrow.Author.Tests.{ne_eqb}
use lib.Dec.{eqb}
use lib.ListN.{get_or}
use Rattle.syntax.specs.Types.{num, lim, grant, by_type, on_cell, on_lim, on_grant}
use Rattle.semantics.specs.Machine.{Value, unkeyed, k_num, k_cell, k_lim, k_grant, b_var}
use Rattle.semantics.specs.Start.{bind_to, host_value, host_cell, Valued, add_values}
use Rattle.store.specs.Words.{cell_in, link_in}
use Rattle.store.specs.Tables.{Wrote, list_of}
use Rattle.store.proofs.Laws.{list_length, list_extended}
use Rattle.initial.specs.Entries.{head_of, host_of, values_from, valued_in, add_value, ValueEntered, ValuesLeft, ValuesEntered}

-- a host value by the command byte of its type
module _ (key : ℕ → ℕ) (w c : ℕ) where
  pub value_cell : w % 256 ≡ 0x12 → host_value key (head_of w) c ≡ record { key = key (w / 256 % 256); kind = k_cell c }
  unfolding head_of host_value on_cell on_lim on_grant by_type
  value_cell e = simp e

  pub value_lim : w % 256 ≡ 0x14 → host_value key (head_of w) c ≡ record { key = key (w / 256 % 256); kind = k_lim (key (w / 65536 % 256)) }
  unfolding head_of host_value on_cell on_lim on_grant by_type
  value_lim e = simp e

  pub value_grant : w % 256 ≡ 0x15 → host_value key (head_of w) c ≡ record { key = key (w / 256 % 256); kind = k_grant (key (w / 65536 % 256)) }
  unfolding head_of host_value on_cell on_lim on_grant by_type
  value_grant e = simp e

  pub value_none : (w % 256 ≡ 0x12 → ⊥) → (w % 256 ≡ 0x14 → ⊥) → (w % 256 ≡ 0x15 → ⊥) → host_value key (head_of w) c ≡ unkeyed (k_num 0)
  unfolding head_of host_value on_cell on_lim on_grant by_type
  value_none x y z = simp (ne_eqb _ _ x, ne_eqb _ _ y, ne_eqb _ _ z)

-- a key in 8 bits
pub low_key : (k : ℕ) → k < 256 → k % 256 ≡ k
low_key k h = omega arith

-- the cell that it takes
cell_some : (w n : ℕ) → w % 256 ≡ 0x12 → host_cell (head_of w) n ≡ unkeyed (k_num n) ∷ []
unfolding head_of host_cell on_cell by_type
cell_some w n e = simp e

cell_none : (w n : ℕ) → (w % 256 ≡ 0x12 → ⊥) → host_cell (head_of w) n ≡ []
unfolding head_of host_cell on_cell by_type
cell_none w n e = simp (ne_eqb _ _ e) (at (eqb (w % 256) 0x14) (eqb (w % 256) 0x15))
  where
    at : (a b : Bool) → host_cell (cond a (lim (w / 256 % 256) (w / 65536 % 256)) (cond b (grant (w / 256 % 256) (w / 65536 % 256)) (num 0))) n ≡ []
    at true b = refl
    at false true = refl
    at false false = refl

module _ (key : ℕ → ℕ) (types values : List ℕ) (v w t ncells nbindings : ℕ) (x : Value) (cells bindings cells' bindings' : List ℕ) (few : ncells ≤ v)
    (ew : w ≡ get_or values v 0) (et : t ≡ get_or types (w / 256 % 65536) 0) (ex : x ≡ host_value key (head_of t) ncells)
    (wb : Wrote link_in bindings bindings' nbindings (record { bind = b_var v x; next = nbindings }))
  where
    pub cell_entered :
        t % 256 ≡ 0x12 → Wrote cell_in cells cells' ncells (unkeyed (k_num (w / 16777216 % 4294967296))) →
        ValueEntered key types values v ncells nbindings cells bindings cells' bindings' (ncells + 1)
    unfolding valued_in add_value host_of bind_to
    cell_entered e wc =
        record {
          same = simp (list_extended cell_in cells cells' ncells _ wc, list_extended link_in bindings bindings' nbindings _ wb, list_length, ← ew, ← et, cell_some t (w / 16777216 % 4294967296) e, ex);
          few = omega arith;
        }

    pub key_entered :
        (t % 256 ≡ 0x12 → ⊥) → ValueEntered key types values v ncells nbindings cells bindings cells bindings' ncells
    unfolding valued_in add_value host_of bind_to
    key_entered e =
        record {
          same = simp (list_extended link_in bindings bindings' nbindings _ wb, list_length, ← ew, ← et, cell_none t (w / 16777216 % 4294967296) e, append-nil, ex);
          few = omega arith;
        }

-- one host value of those that are left
pub next_value :
    {key : ℕ → ℕ} {types values : List ℕ} {m ncells nbindings : ℕ} (v : ℕ) {first cells bindings cells' bindings' : List ℕ} {r : ℕ} → v < m →
    ValuesLeft key types values m nbindings first cells bindings ncells v → ValueEntered key types values v ncells (nbindings + v) cells bindings cells' bindings' r →
    ValuesLeft key types values m nbindings first cells' bindings' r (v + 1)
unfolding values_from add_values add_value
next_value {key} {types} {values} {m} {ncells} {nbindings} v {first} {cells} {bindings} {cells'} {bindings'} {r} h e s =
    let a : m - v ≡ suc (m - (v + 1)) = omega arith in
    let b : nbindings + (v + 1) ≡ nbindings + v + 1 = omega arith in
    record {
      same = e.same ∙ ap (λ (i : ℕ). add_values key v (values_from types values v i) (valued_in cells bindings ncells (nbindings + v))) a
          ∙ ap (λ (x : Valued). add_values key (suc v) (values_from types values (suc v) (m - (v + 1))) x) (sym s.same)
          ∙ ap (λ (i : ℕ). add_values key (suc v) (values_from types values (suc v) (m - (v + 1))) (valued_in cells' bindings' r i)) (sym b)
          ∙ ap (λ (i : ℕ). add_values key i (values_from types values i (m - (v + 1))) (valued_in cells' bindings' r (nbindings + (v + 1)))) (sym (add-one v));
      few = s.few;
      within = omega arith;
    }

pub last_value :
    {key : ℕ → ℕ} {types values : List ℕ} {m v ncells nbindings : ℕ} {first cells bindings : List ℕ} → m ≤ v →
    ValuesLeft key types values m nbindings first cells bindings ncells v → ValuesEntered key types values m nbindings first cells bindings ncells
unfolding values_from add_values
last_value {key} {types} {values} {m} {v} {ncells} {nbindings} {first} {cells} {bindings} h e =
    let a : m - v ≡ 0 = omega arith in
    let b : v ≡ m = omega (arith, e.within) in
    record {
      same = sym (e.same ∙ ap (λ (i : ℕ). add_values key v (values_from types values v i) (valued_in cells bindings ncells (nbindings + v))) a
          ∙ ap (λ (i : ℕ). valued_in cells bindings ncells (nbindings + i)) b);
      few = omega (arith, e.few);
    }

pub no_value :
    {key : ℕ → ℕ} {types values : List ℕ} {m nbindings : ℕ} {cells bindings : List ℕ} → ValuesLeft key types values m nbindings bindings cells bindings 0 0
unfolding valued_in list_of
no_value {key} {types} {values} {m} {nbindings} {cells} {bindings} =
    let a : m - 0 ≡ m = omega arith in
    let b : nbindings + 0 ≡ nbindings = omega arith in
    record {
      same = sym (ap (λ (i : ℕ). add_values key 0 (values_from types values 0 i) (valued_in cells bindings 0 (nbindings + 0))) a
          ∙ ap (λ (i : ℕ). add_values key 0 (values_from types values 0 m) (valued_in cells bindings 0 i)) b);
      few = omega arith;
      within = omega arith;
    }
