-- The layout of the type table in general, for commands that make any number of entries, for all jobs: how many entries each command makes, by its byte; how many there are, and that they never pass
-- the table's 2,304; and where those of an expression stand.
use Rattle.std.specs.Prelude.{◌≡◌, true, false}
use Rattle.std.proofs.Math.Path.{refl, sym, ap, subst}
use Rattle.std.proofs.Common.{◌∙◌, arith}
use Prim.Native.Nat.{ℕ, suc, ◌+◌, ◌*◌, ◌≤◌}
use mathlib.Core.List.{List, [], ◌∷◌, ◌++◌, append_assoc, append-nil}
use Rattle.std.proofs.Math.Option.{some}
use Rattle.std.proofs.Math.ListN.{length, length-append, get_or, get_elem?}
use Rattle.std.proofs.Math.Seq.{get_or_at}
use Rattle.order.proofs.OrderLaws.{get_elem?_append, length_snoc}
use Rattle.order.specs.Sets.{some_of}
use Rattle.order.specs.Effects.{Effect, pure}
use Rattle.syntax.specs.Types.{TypeEntry, e_num, e_pair}
use Rattle.syntax.specs.Commands.{Cmd, c_num, c_top, c_var, c_pair, c_part, c_fn, c_app, c_new, c_asg, c_read, c_sum, c_test, c_lim, c_grant, c_newkey, c_assoc, c_access, c_divide, c_spawn, form, row, total}
use Rattle.syntax.specs.Operands.{binds_name}
use Rattle.syntax.proofs.RowLaws.{bound_few, bound}
use Rattle.syntax.specs.Job.{Job}
use Rattle.syntax.specs.Loading.{most_entries}
use Rattle.syntax.specs.ReadLaws.{JobOk}
use Rattle.typing.specs.Layout.{new_keys, key_entries, var_entry, Points, new, old, points_to, Layout, point, layout_from, layout_of}
use Rattle.typing.proofs.NumberedTables.{keys_length}
use Rattle.typing.specs.LayoutLaws.{Grown, all_made, begins, declared, entries_of, made, makes_of, most_each}

few_of : (k : Cmd ℕ) (m : ℕ) → m ≤ 1 → m + 3 * length (binds_name k) ≤ most_each
few_of k m h = omega (arith, bound_few (bound k))

pub points_few : (var : ℕ → ℕ) (eff : ℕ → Effect) (T : List TypeEntry) (of : ℕ → ℕ) (k : Cmd ℕ) → made (points_to var eff T of k) + 3 * length (binds_name k) ≤ most_each
unfolding made points_to binds_name
points_few var eff T of (c_num n) = few_of (c_num n) 1 (omega arith)
points_few var eff T of c_top = few_of c_top 1 (omega arith)
points_few var eff T of (c_var v) = few_of (c_var v) 0 (omega arith)
points_few var eff T of (c_pair a b) = few_of (c_pair a b) 1 (omega arith)
points_few var eff T of (c_part a true) = few_of (c_part a true) 0 (omega arith)
points_few var eff T of (c_part a false) = few_of (c_part a false) 0 (omega arith)
points_few var eff T of (c_fn v t b) = few_of (c_fn v t b) 1 (omega arith)
points_few var eff T of (c_app f a) = few_of (c_app f a) 0 (omega arith)
points_few var eff T of (c_new t a) = few_of (c_new t a) 1 (omega arith)
points_few var eff T of (c_asg a b) = few_of (c_asg a b) 0 (omega arith)
points_few var eff T of (c_read a) = few_of (c_read a) 0 (omega arith)
points_few var eff T of (c_sum i a b) = few_of (c_sum i a b) 1 (omega arith)
points_few var eff T of (c_test a b c t) = few_of (c_test a b c t) 0 (omega arith)
points_few var eff T of (c_lim ks b) = few_of (c_lim ks b) 0 (omega arith)
points_few var eff T of (c_grant a b) = few_of (c_grant a b) 0 (omega arith)
points_few var eff T of (c_newkey v r a b t) = few_of (c_newkey v r a b t) 0 (omega arith)
points_few var eff T of (c_assoc a b) = few_of (c_assoc a b) 1 (omega arith)
points_few var eff T of (c_access a b c t) = few_of (c_access a b c t) 0 (omega arith)
points_few var eff T of (c_divide a b) = omega arith
points_few var eff T of (c_spawn b) = few_of (c_spawn b) 1 (omega arith)

pub made_exactly : (var : ℕ → ℕ) (eff : ℕ → Effect) (T : List TypeEntry) (of : ℕ → ℕ) (k : Cmd ℕ) → made (points_to var eff T of k) ≡ makes_of k
unfolding made points_to makes_of entries_of some_of form row
made_exactly var eff T of (c_num n) = refl
made_exactly var eff T of c_top = refl
made_exactly var eff T of (c_var v) = refl
made_exactly var eff T of (c_pair a b) = refl
made_exactly var eff T of (c_part a true) = refl
made_exactly var eff T of (c_part a false) = refl
made_exactly var eff T of (c_fn v t b) = refl
made_exactly var eff T of (c_app f a) = refl
made_exactly var eff T of (c_new t a) = refl
made_exactly var eff T of (c_asg a b) = refl
made_exactly var eff T of (c_read a) = refl
made_exactly var eff T of (c_sum i a b) = refl
made_exactly var eff T of (c_test a b c t) = refl
made_exactly var eff T of (c_lim ks b) = refl
made_exactly var eff T of (c_grant a b) = refl
made_exactly var eff T of (c_newkey v r a b t) = refl
made_exactly var eff T of (c_assoc a b) = refl
made_exactly var eff T of (c_access a b c t) = refl
made_exactly var eff T of (c_divide a b) = refl
made_exactly var eff T of (c_spawn b) = refl

each_few : (k : Cmd ℕ) → makes_of k + 3 * length (binds_name k) ≤ most_each
each_few k = omega (arith, made_exactly (λ v. 0) (λ e. pure) [] (λ e. 0) k, points_few (λ v. 0) (λ e. pure) [] (λ e. 0) k)

-- How many there are

pub new_few : (l : List (Cmd ℕ)) → length (new_keys l) ≤ length l
unfolding new_keys
new_few [] = omega arith
new_few (k ∷ l) = omega (arith, length-append (binds_name k) (new_keys l), bound_few (bound k), new_few l)

all_few : (l : List (Cmd ℕ)) → all_made l + 3 * length (new_keys l) ≤ most_each * length l
unfolding all_made new_keys total
all_few [] = omega arith
all_few (k ∷ l) = omega (arith, each_few k, all_few l, length-append (binds_name k) (new_keys l))

module _ (var : ℕ → ℕ) (eff : ℕ → Effect) where
  one_grown : (p : Points) (k : Cmd ℕ) (L : Layout) → made p ≡ makes_of k → Grown (k ∷ []) L (point p L)
  unfolding point made all_made total
  one_grown (new l x) k L e = record { added = l ++ (x ∷ []); numbers = (length l + length L.entries) ∷ []; entries = refl; of = refl; count = omega (arith, e, length_snoc l x); each = refl }
  one_grown (old i) k L e = record { added = []; numbers = i ∷ []; entries = sym (append-nil L.entries); of = refl; count = omega (arith, e); each = refl }

  then_grown : {k : Cmd ℕ} {l : List (Cmd ℕ)} {L M N : Layout} → Grown (k ∷ []) L M → Grown l M N → Grown (k ∷ l) L N
  unfolding all_made total
  then_grown {L = L} g h =
      record {
        added = g.added ++ h.added;
        numbers = g.numbers ++ h.numbers;
        entries = h.entries ∙ ap (λ x. x ++ h.added) g.entries ∙ append_assoc L.entries g.added h.added;
        of = h.of ∙ ap (λ x. x ++ h.numbers) g.of ∙ append_assoc L.of g.numbers h.numbers;
        count = omega (arith, length-append g.added h.added, g.count, h.count);
        each = omega (arith, length-append g.numbers h.numbers, g.each, h.each);
      }

  grown : (l : List (Cmd ℕ)) (L : Layout) → Grown l L (layout_from var eff l L)
  unfolding layout_from all_made total
  grown [] L = record { added = []; numbers = []; entries = sym (append-nil L.entries); of = sym (append-nil L.of); count = refl; each = refl }
  grown (k ∷ l) L = then_grown (one_grown _ k L (made_exactly var eff L.entries (λ e. get_or L.of e 0) k)) (grown l _)

  -- the first expressions, then the others
  from_append : (p l : List (Cmd ℕ)) (L : Layout) → layout_from var eff (p ++ l) L ≡ layout_from var eff l (layout_from var eff p L)
  unfolding layout_from
  from_append [] l L = refl
  from_append (k ∷ p) l L = from_append p l _

get_elem?_later : (l m : List TypeEntry) (i : ℕ) → get_elem? (l ++ m) (i + length l) ≡ get_elem? m i
get_elem?_later [] m i = let e : i + 0 ≡ i = omega arith in ap (λ n. get_elem? m n) e
get_elem?_later (x ∷ l) m i = let e : i + suc (length l) ≡ suc (i + length l) = omega arith in ap (λ n. get_elem? (x ∷ (l ++ m)) n) e ∙ get_elem?_later l m i

pub declared_count : (J : Job) → length (declared J).entries ≡ length J.types + 3 * length (new_keys J.cmds)
unfolding declared
declared_count J = omega (arith, length-append J.types (key_entries (length J.types) (new_keys J.cmds)), keys_length (length J.types) (new_keys J.cmds))

module _ (J : Job) (eff : ℕ → Effect) where
  -- the layout when the expressions p are done
  abbrev pub laid : List (Cmd ℕ) → Layout
  laid p = layout_from (var_entry J) eff p (declared J)

  laid_count : (p : List (Cmd ℕ)) → length (laid p).entries ≡ begins J p
  unfolding begins
  laid_count p = let g = grown (var_entry J) eff p (declared J) in omega (arith, ap length g.entries, length-append (declared J).entries g.added, g.count, declared_count J)

  laid_each : (p : List (Cmd ℕ)) → length (laid p).of ≡ length p
  unfolding declared
  laid_each p = let g = grown (var_entry J) eff p (declared J) in ap length g.of ∙ g.each

  -- all entries, and no more than the table has
  pub layout_count : length (layout_of J eff).entries ≡ begins J J.cmds
  unfolding layout_of declared
  layout_count = laid_count J.cmds

  pub layout_few : JobOk J → length (layout_of J eff).entries ≤ most_entries
  unfolding begins
  layout_few j = omega (arith, layout_count, all_few J.cmds, j.few_types, j.few_cmds)

  -- the expression k after the expressions p
  module _ (p l : List (Cmd ℕ)) (k : Cmd ℕ) (here : J.cmds ≡ p ++ (k ∷ l)) where
    abbrev pub said : Points
    said = points_to (var_entry J) eff (laid p).entries (λ e. get_or (laid p).of e 0) k

    after : Grown l (point said (laid p)) (layout_of J eff)
    unfolding layout_of declared layout_from
    after = subst (λ M. Grown l (point said (laid p)) M) (sym (ap (λ c. layout_from (var_entry J) eff c (declared J)) here ∙ from_append (var_entry J) eff p (k ∷ l) (declared J))) (grown (var_entry J) eff l (point said (laid p)))

    -- an entry already there
    pub points_there : {i : ℕ} → said ≡ old i → get_or (layout_of J eff).of (length p) 0 ≡ i
    unfolding point
    points_there {i} e =
        let g = subst (λ s. Grown l (point s (laid p)) (layout_of J eff)) e after in
        ap (λ n. get_or n (length p) 0) (g.of ∙ append_assoc (laid p).of (i ∷ []) g.numbers) ∙ get_or_at (laid p).of i g.numbers 0 (length p) (laid_each p)

    -- entries of its own: they stand in order where its entries begin, and its type is the last
    pub points_last : {u : List TypeEntry} {x : TypeEntry} → said ≡ new u x → get_or (layout_of J eff).of (length p) 0 ≡ length u + begins J p
    unfolding point
    points_last {u} {x} e =
        let g = subst (λ s. Grown l (point s (laid p)) (layout_of J eff)) e after in
        let n : ℕ = length u + length (laid p).entries in
        ap (λ m. get_or m (length p) 0) (g.of ∙ append_assoc (laid p).of (n ∷ []) g.numbers)
        ∙ get_or_at (laid p).of n g.numbers 0 (length p) (laid_each p)
        ∙ ap (λ m. length u + m) (laid_count p)

    pub stands_there : {u : List TypeEntry} {x : TypeEntry} → said ≡ new u x → (i : ℕ) (y : TypeEntry) → get_elem? (u ++ (x ∷ [])) i ≡ some y → get_elem? (layout_of J eff).entries (i + begins J p) ≡ some y
    unfolding point
    stands_there {u} {x} e i y h =
        let g = subst (λ s. Grown l (point s (laid p)) (layout_of J eff)) e after in
        ap (λ m. get_elem? m (i + begins J p)) g.entries
        ∙ get_elem?_append ((laid p).entries ++ (u ++ (x ∷ []))) g.added (i + begins J p) y
        (ap (λ n. get_elem? ((laid p).entries ++ (u ++ (x ∷ []))) (i + n)) (sym (laid_count p)) ∙ get_elem?_later (laid p).entries (u ++ (x ∷ [])) i ∙ h)

  -- 0x41 "makes a type entry for the number, then one for the pair", both of whose parts are that number; its type is the pair
  module _ (p l : List (Cmd ℕ)) (a b : ℕ) (here : J.cmds ≡ p ++ (c_divide a b ∷ l)) where
    divides : said p l (c_divide a b) here ≡ new (e_num 0 ∷ []) (e_pair 0 (begins J p) (begins J p))
    unfolding points_to
    divides = ap (λ n. new (e_num 0 ∷ []) (e_pair 0 n n)) (laid_count p)

    pub divide_entries : (get_elem? (layout_of J eff).entries (begins J p) ≡ some (e_num 0))
        × (get_elem? (layout_of J eff).entries (1 + begins J p) ≡ some (e_pair 0 (begins J p) (begins J p)))
        × (get_or (layout_of J eff).of (length p) 0 ≡ 1 + begins J p)
    divide_entries =
        let s = stands_there p l (c_divide a b) here divides in
        let z : 0 + begins J p ≡ begins J p = omega arith in
        (subst (λ n. get_elem? (layout_of J eff).entries n ≡ some (e_num 0)) z (s 0 (e_num 0) refl), s 1 (e_pair 0 (begins J p) (begins J p)) refl, points_last p l (c_divide a b) here divides)
