-- Typing by numbers: the type of each expression as the number of an entry of the type table, the effects beside it, expression after expression, as a program
-- does it. `NumberedLaws` shows that this is the typing by trees of `Least` and the table of `Layout`.
use Rattle.std.specs.Prelude.{ℕ, suc, ◌+◌, Bool, true, false, cond, List, [], ◌∷◌, ◌++◌, length, get_or}
use Rattle.std.proofs.Math.Option.{Option}
use Rattle.std.proofs.Math.ListN.{get_elem?}
use Rattle.order.specs.Order.{below}
use Rattle.order.specs.Effects.{Effect, pure, touch, join, drop, raise, reduce, eff_below}
use Rattle.syntax.specs.Types.{TypeEntry, e_num, e_pair, e_cell, e_fn, e_lim, by_entry}
use Rattle.syntax.specs.Commands.{Cmd, c_num, c_top, c_var, c_pair, c_part, c_fn, c_app, c_new, c_asg, c_read, c_sum, c_test, c_lim, c_grant, c_newkey, c_assoc, c_access, c_divide, c_spawn}
use Rattle.syntax.specs.Job.{Job}
use Rattle.syntax.specs.Reading.{Refusal, most_depth}
use Rattle.typing.specs.Least.{is_upper}
use Rattle.typing.specs.Layout.{new_keys, key_entries, var_entry, rekeyed}
use Rattle.typing.specs.Entries.{sub_in}

-- the tests and operations on names and effects, so that a program may have them by a table of its own
pub record Ops : Type 0 where
  -- the second is the upper name of the first
  pub over : ℕ → ℕ → Bool
  pub below : ℕ → ℕ → Bool
  pub eff_below : Effect → Effect → Bool
  pub touch : ℕ → Effect → Effect
  pub reduce : Effect → Effect
  pub drop : ℕ → Effect → Effect
  -- name, its upper name
  pub raise : ℕ → ℕ → Effect → Effect

-- those of the order, by the list of upper names
abbrev pub ops_of : List ℕ → Ops
ops_of up =
    record {
      over = λ r u. is_upper (get_elem? up r) u;
      below = λ a b. below up a b;
      eff_below = λ s t. eff_below up s t;
      touch = λ q s. touch q s;
      reduce = λ s. reduce up s;
      drop = λ r s. drop up r s;
      raise = λ r u s. raise r u s;
    }

-- an expression's type, as the last of the entries that it makes or the number of one, and its effect; or the number of a refusal
pub data Result : Type 0 where
  makes : List TypeEntry → TypeEntry → Effect → Result
  points : ℕ → Effect → Result
  wrong : ℕ → Result

-- 11: an operand of the wrong kind
unfoldable pub need_num : Option TypeEntry → (ℕ → Result) → Result
unfolding by_entry
need_num o f = by_entry (wrong 11) f (λ q a b. wrong 11) (λ q a. wrong 11) (λ q a b s. wrong 11) (λ q r. wrong 11) (λ q r. wrong 11) o

unfoldable pub need_pair : Option TypeEntry → (ℕ → ℕ → ℕ → Result) → Result
unfolding by_entry
need_pair o f = by_entry (wrong 11) (λ q. wrong 11) f (λ q a. wrong 11) (λ q a b s. wrong 11) (λ q r. wrong 11) (λ q r. wrong 11) o

unfoldable pub need_cell : Option TypeEntry → (ℕ → ℕ → Result) → Result
unfolding by_entry
need_cell o f = by_entry (wrong 11) (λ q. wrong 11) (λ q a b. wrong 11) f (λ q a b s. wrong 11) (λ q r. wrong 11) (λ q r. wrong 11) o

unfoldable pub need_fn : Option TypeEntry → (ℕ → ℕ → ℕ → Effect → Result) → Result
unfolding by_entry
need_fn o f = by_entry (wrong 11) (λ q. wrong 11) (λ q a b. wrong 11) (λ q a. wrong 11) f (λ q r. wrong 11) (λ q r. wrong 11) o

unfoldable pub need_lim : Option TypeEntry → (ℕ → ℕ → Result) → Result
unfolding by_entry
need_lim o f = by_entry (wrong 11) (λ q. wrong 11) (λ q a b. wrong 11) (λ q a. wrong 11) (λ q a b s. wrong 11) f (λ q r. wrong 11) o

unfoldable pub need_grant : Option TypeEntry → (ℕ → ℕ → Result) → Result
unfolding by_entry
need_grant o f = by_entry (wrong 11) (λ q. wrong 11) (λ q a b. wrong 11) (λ q a. wrong 11) (λ q a b s. wrong 11) (λ q r. wrong 11) f o

-- a condition, and the number given where it fails
unfoldable pub need : ℕ → Bool → Result → Result
need n true r = r
need n false r = wrong n

-- the key of an entry
unfoldable pub key_in : Option TypeEntry → ℕ
unfolding by_entry
key_in o = by_entry 0 (λ q. q) (λ q a b. q) (λ q a. q) (λ q a b s. q) (λ q r. q) (λ q r. q) o

-- var: the entry of each variable; at: the entries; of, eff: the entry and the effect of each expression so far
module _ (O : Ops) (var : ℕ → ℕ) (at : ℕ → Option TypeEntry) (of : ℕ → ℕ) (eff : ℕ → Effect) where
  -- "A subtype of t is needed": one side is a declared type, which is no deeper than 16
  unfoldable pub fits : ℕ → ℕ → Bool
  fits a t = sub_in O.below O.eff_below most_depth at a t

  -- the limit keys of 0x3C, in order: the set of their names and the effect so far
  unfoldable pub keys_from : List ℕ → Effect → Effect → (Effect → Effect → Result) → Result
  keys_from [] rs s f = f rs s
  keys_from (a ∷ ks) rs s f = need_lim (at (of a)) (λ q r. keys_from ks (O.touch r rs) (O.touch q (join (eff a) s)) f)

  -- where n entries stand before
  unfoldable pub result_at : ℕ → Cmd ℕ → Result
  result_at n (c_num x) = makes [] (e_num 0) pure
  result_at n c_top = makes [] (e_lim 0 1) pure
  result_at n (c_var v) = points (var v) pure
  result_at n (c_pair a b) = makes [] (e_pair 0 (of a) (of b)) (O.reduce (join (eff a) (eff b)))
  result_at n (c_part a i) = need_pair (at (of a)) (λ q x y. points (cond i x y) (O.reduce (O.touch q (eff a))))
  result_at n (c_fn v t b) = makes [] (e_fn 0 t (of b) (eff b)) pure
  result_at n (c_app f a) = need_fn (at (of f)) (λ q t u l. need 12 (fits (of a) t) (points u (O.reduce (O.touch q (join l (join (eff f) (eff a)))))))
  result_at n (c_new t a) = need 12 (fits (of a) t) (makes [] (e_cell 0 t) (eff a))
  result_at n (c_asg a b) = need_cell (at (of a)) (λ q t. need 12 (fits (of b) t) (points t (O.reduce (O.touch q (join (eff a) (eff b))))))
  result_at n (c_read a) = need_cell (at (of a)) (λ q t. points t (O.reduce (O.touch q (eff a))))
  result_at n (c_sum i a b) =
      need_num (at (of a)) (λ p. need_num (at (of b)) (λ q. makes [] (e_num 0) (O.reduce (O.touch p (O.touch q (join (eff a) (eff b)))))))
  result_at n (c_test a b c t) =
      need_num (at (of a)) (λ q. need 12 (fits (of b) t) (need 12 (fits (of c) t) (points t (O.reduce (O.touch q (join (eff a) (join (eff b) (eff c))))))))
  result_at n (c_lim ks b) = keys_from ks pure pure (λ rs s. need 13 (O.eff_below (eff b) rs) (points (of b) (O.reduce (join s (eff b)))))
  result_at n (c_grant a b) = need_grant (at (of a)) (λ q r. points (of b) (O.reduce (O.touch q (join (eff a) (O.drop r (eff b))))))
  result_at n (c_newkey v r a b t) =
      need_lim (at (of a)) (λ q u. need 11 (O.over r u) (need 12 (fits (of b) t) (points t (O.reduce (O.touch q (join (eff a) (O.raise r u (eff b))))))))
  result_at n (c_assoc a b) =
      need_lim (at (of b)) (λ q r. makes [] (rekeyed r (at (of a))) (O.reduce (O.touch (key_in (at (of a))) (O.touch q (join (eff a) (eff b))))))
  result_at n (c_access a b c t) =
      need_lim (at (of a)) (λ q r. need 12 (fits (of b) t) (need 12 (fits (of c) t) (points t (O.reduce (O.touch q (join (eff a) (join (O.drop r (eff b)) (eff c))))))))
  result_at n (c_divide a b) =
      need_num (at (of a)) (λ p. need_num (at (of b)) (λ q. makes (e_num 0 ∷ []) (e_pair 0 n n) (O.reduce (O.touch p (O.touch q (join (eff a) (eff b)))))))
  result_at n (c_spawn b) = need 16 (O.eff_below (eff b) pure) (makes [] (e_num 0) pure)

-- the entries so far, and the entry and the effect of each expression so far
pub record Sofar : Type 0 where
  pub entries : List TypeEntry
  pub of : List ℕ
  pub effects : List Effect

-- the state with one expression more, or the number of a refusal
pub data Numbered : Type 0 where
  next : Sofar → Numbered
  stop : ℕ → Numbered

unfoldable pub settle : Sofar → Result → Numbered
settle σ (makes l x s) = next (record { entries = σ.entries ++ (l ++ (x ∷ [])); of = σ.of ++ ((length l + length σ.entries) ∷ []); effects = σ.effects ++ (s ∷ []) })
settle σ (points i s) = next (record { entries = σ.entries; of = σ.of ++ (i ∷ []); effects = σ.effects ++ (s ∷ []) })
settle σ (wrong n) = stop n

unfoldable pub number_at : Ops → (ℕ → ℕ) → Sofar → Cmd ℕ → Numbered
number_at O var σ k = settle σ (result_at O var (get_elem? σ.entries) (λ e. get_or σ.of e 0) (λ e. get_or σ.effects e pure) (length σ.entries) k)

-- the state when all expressions are done, or the first refusal
pub data Whole : Type 0 where
  whole : Sofar → Whole
  halted : Refusal → Whole

unfoldable pub onto : Numbered → ℕ → (Sofar → Whole) → Whole
onto (next σ) e f = f σ
onto (stop n) e f = halted (record { number = n; place = e })

-- the expressions in order, from number e on
unfoldable pub number_all : Ops → (ℕ → ℕ) → ℕ → List (Cmd ℕ) → Sofar → Whole
number_all O var e [] σ = whole σ
number_all O var e (k ∷ l) σ = onto (number_at O var σ k) e (λ τ. number_all O var (suc e) l τ)

-- the declared types and the entries of 0x3E, no expression yet
unfoldable pub start_of : Job → Sofar
start_of J = record { entries = J.types ++ key_entries (length J.types) (new_keys J.cmds); of = []; effects = [] }

unfoldable pub numbering : Ops → Job → Whole
numbering O J = number_all O (var_entry J) 0 J.cmds (start_of J)
