-- Every refusal by its number and place: 2 to 7 at a place in the input or right after it, 8 to 14 and 16 at one of the job's expressions. No other number is given; 15 is the writer's alone.
use Rattle.std.specs.Prelude.{◌≡◌, refl, ℕ, zero, suc, ◌+◌, ◌≤◌, ◌<◌, Bool, true, false, cond, ◌↔◌, ◌⊎◌, length, get_or}
use Rattle.std.proofs.Common.{sym, ap, ◌∙◌, subst, arith, inl, inr}
use mathlib.Core.List.{List, [], ◌∷◌}
use Rattle.std.proofs.Math.Option.{Option, none, some}
use Rattle.std.proofs.Math.ListN.{get_elem?}
use Rattle.std.proofs.lemmas.List.{length-map}
use Rattle.order.specs.Effects.{Effect, pure}
use Rattle.syntax.specs.Types.{Ty, tree, TypeEntry, e_num, e_pair, e_cell, e_fn, e_lim, e_grant}
use Rattle.syntax.specs.Commands.{Cmd, c_num, c_top, c_var, c_pair, c_part, c_fn, c_app, c_new, c_asg, c_read, c_sum, c_test, c_lim, c_grant, c_newkey, c_assoc, c_access, c_divide, c_spawn, map_cmd}
use Rattle.syntax.specs.Job.{Job, source_of}
use Rattle.syntax.specs.Reading.{Refusal, Read, refused, read, reading}
use Rattle.syntax.specs.ReadLaws.{JobOk}
use Rattle.syntax.proofs.ReadLaws.{read_ok}
use Rattle.syntax.proofs.ReadPlaces.{refused_number, refused_place}
use Rattle.syntax.specs.Loading as loads
use Rattle.syntax.specs.Loading.{in_tree, loading}
use Rattle.syntax.specs.Tree.{predecessor, first_bad, or_else, numbered, lowest, tree_refusal}
use Rattle.typing.specs.Verdict.{Verdict, accept, refuse, unless, within, judge, judge_read, verdict_of}
use Rattle.typing.specs.Tables.{Tables, short, verdict_with}
use Rattle.typing.specs.Numbered.{Ops, Result, makes, points, wrong, need_num, need_pair, need_cell, need_fn, need_lim, need_grant, need, keys_from, result_at, Sofar, settle, number_at, Whole, whole, halted, onto, number_all, start_of, numbering}
use Rattle.typing.specs.Layout.{var_entry}
use Rattle.typing.specs.NumberedVerdict.{last_of, last_entry, last_effect, reported, judge_by, judge_read_by, verdict_by, order_ops}
use Rattle.typing.proofs.NumberedVerdict.{verdict_by_order}
use Rattle.typing.specs.RefusalLaws.{Among, CheckNumber, Stands, among, by_expression, by_reading, no_refusal}

-- One expression: 11, 12, 13 or 16

data Fine : Result → Type 0 where
  f_makes : (l : List TypeEntry) (x : TypeEntry) (s : Effect) → Fine (makes l x s)
  f_points : (i : ℕ) (s : Effect) → Fine (points i s)
  f_wrong : (n : ℕ) → 11 ≤ n → (n ≤ 13) ⊎ (n ≡ 16) → Fine (wrong n)

wrong_11 : Fine (wrong 11)
wrong_11 = f_wrong 11 (omega arith) (inl (omega arith))

need_fine : (n : ℕ) → 11 ≤ n → (n ≤ 13) ⊎ (n ≡ 16) → (b : Bool) {r : Result} → Fine r → Fine (need n b r)
unfolding need
need_fine n l h true f = f
need_fine n l h false f = f_wrong n l h

need_11 : (b : Bool) {r : Result} → Fine r → Fine (need 11 b r)
need_11 b f = need_fine 11 (omega arith) (inl (omega arith)) b f

need_12 : (b : Bool) {r : Result} → Fine r → Fine (need 12 b r)
need_12 b f = need_fine 12 (omega arith) (inl (omega arith)) b f

need_13 : (b : Bool) {r : Result} → Fine r → Fine (need 13 b r)
need_13 b f = need_fine 13 (omega arith) (inl (omega arith)) b f

num_fine : (x : Option TypeEntry) {f : ℕ → Result} → ((q : ℕ) → Fine (f q)) → Fine (need_num x f)
unfolding need_num
num_fine none g = wrong_11
num_fine (some (e_num q)) g = g q
num_fine (some (e_pair q a b)) g = wrong_11
num_fine (some (e_cell q a)) g = wrong_11
num_fine (some (e_fn q a b s)) g = wrong_11
num_fine (some (e_lim q r)) g = wrong_11
num_fine (some (e_grant q r)) g = wrong_11

pair_fine : (x : Option TypeEntry) {f : ℕ → ℕ → ℕ → Result} → ((q a b : ℕ) → Fine (f q a b)) → Fine (need_pair x f)
unfolding need_pair
pair_fine none g = wrong_11
pair_fine (some (e_num q)) g = wrong_11
pair_fine (some (e_pair q a b)) g = g q a b
pair_fine (some (e_cell q a)) g = wrong_11
pair_fine (some (e_fn q a b s)) g = wrong_11
pair_fine (some (e_lim q r)) g = wrong_11
pair_fine (some (e_grant q r)) g = wrong_11

cell_fine : (x : Option TypeEntry) {f : ℕ → ℕ → Result} → ((q a : ℕ) → Fine (f q a)) → Fine (need_cell x f)
unfolding need_cell
cell_fine none g = wrong_11
cell_fine (some (e_num q)) g = wrong_11
cell_fine (some (e_pair q a b)) g = wrong_11
cell_fine (some (e_cell q a)) g = g q a
cell_fine (some (e_fn q a b s)) g = wrong_11
cell_fine (some (e_lim q r)) g = wrong_11
cell_fine (some (e_grant q r)) g = wrong_11

fn_fine : (x : Option TypeEntry) {f : ℕ → ℕ → ℕ → Effect → Result} → ((q a b : ℕ) (s : Effect) → Fine (f q a b s)) → Fine (need_fn x f)
unfolding need_fn
fn_fine none g = wrong_11
fn_fine (some (e_num q)) g = wrong_11
fn_fine (some (e_pair q a b)) g = wrong_11
fn_fine (some (e_cell q a)) g = wrong_11
fn_fine (some (e_fn q a b s)) g = g q a b s
fn_fine (some (e_lim q r)) g = wrong_11
fn_fine (some (e_grant q r)) g = wrong_11

lim_fine : (x : Option TypeEntry) {f : ℕ → ℕ → Result} → ((q r : ℕ) → Fine (f q r)) → Fine (need_lim x f)
unfolding need_lim
lim_fine none g = wrong_11
lim_fine (some (e_num q)) g = wrong_11
lim_fine (some (e_pair q a b)) g = wrong_11
lim_fine (some (e_cell q a)) g = wrong_11
lim_fine (some (e_fn q a b s)) g = wrong_11
lim_fine (some (e_lim q r)) g = g q r
lim_fine (some (e_grant q r)) g = wrong_11

grant_fine : (x : Option TypeEntry) {f : ℕ → ℕ → Result} → ((q r : ℕ) → Fine (f q r)) → Fine (need_grant x f)
unfolding need_grant
grant_fine none g = wrong_11
grant_fine (some (e_num q)) g = wrong_11
grant_fine (some (e_pair q a b)) g = wrong_11
grant_fine (some (e_cell q a)) g = wrong_11
grant_fine (some (e_fn q a b s)) g = wrong_11
grant_fine (some (e_lim q r)) g = wrong_11
grant_fine (some (e_grant q r)) g = g q r

module _ (O : Ops) (var : ℕ → ℕ) (at : ℕ → Option TypeEntry) (of : ℕ → ℕ) (eff : ℕ → Effect) where
  keys_fine : (ks : List ℕ) (rs s : Effect) {f : Effect → Effect → Result} → ((rs s : Effect) → Fine (f rs s)) → Fine (keys_from O var at of eff ks rs s f)
  unfolding keys_from
  keys_fine [] rs s g = g rs s
  keys_fine (a ∷ ks) rs s g = lim_fine (at (of a)) (λ q r. keys_fine ks _ _ g)

  result_fine : (n : ℕ) (k : Cmd ℕ) → Fine (result_at O var at of eff n k)
  unfolding result_at
  result_fine n (c_num x) = f_makes _ _ _
  result_fine n c_top = f_makes _ _ _
  result_fine n (c_var v) = f_points _ _
  result_fine n (c_pair a b) = f_makes _ _ _
  result_fine n (c_part a i) = pair_fine (at (of a)) (λ q x y. f_points _ _)
  result_fine n (c_fn v t b) = f_makes _ _ _
  result_fine n (c_app f a) = fn_fine (at (of f)) (λ q t u l. need_12 _ (f_points _ _))
  result_fine n (c_new t a) = need_12 _ (f_makes _ _ _)
  result_fine n (c_asg a b) = cell_fine (at (of a)) (λ q t. need_12 _ (f_points _ _))
  result_fine n (c_read a) = cell_fine (at (of a)) (λ q t. f_points _ _)
  result_fine n (c_sum i a b) = num_fine (at (of a)) (λ p. num_fine (at (of b)) (λ q. f_makes _ _ _))
  result_fine n (c_test a b c t) = num_fine (at (of a)) (λ q. need_12 _ (need_12 _ (f_points _ _)))
  result_fine n (c_lim ks b) = keys_fine ks pure _ (λ rs s. need_13 _ (f_points _ _))
  result_fine n (c_grant a b) = grant_fine (at (of a)) (λ q r. f_points _ _)
  result_fine n (c_newkey v r a b t) = lim_fine (at (of a)) (λ q u. need_11 _ (need_12 _ (f_points _ _)))
  result_fine n (c_assoc a b) = lim_fine (at (of b)) (λ q r. f_makes _ _ _)
  result_fine n (c_access a b c t) = lim_fine (at (of a)) (λ q r. need_12 _ (need_12 _ (f_points _ _)))
  result_fine n (c_divide a b) = num_fine (at (of a)) (λ p. num_fine (at (of b)) (λ q. f_makes _ _ _))
  result_fine n (c_spawn b) = need_fine _ (omega arith) (inr refl) _ (f_makes _ _ _)

-- All expressions of a job, of which there are k

data Halts (k : ℕ) : Whole → Type 0 where
  h_whole : (σ : Sofar) → Halts k (whole σ)
  h_halted : (q : Refusal) → 11 ≤ q.number → (q.number ≤ 13) ⊎ (q.number ≡ 16) → q.place < k → Halts k (halted q)

halts : (O : Ops) (var : ℕ → ℕ) (e : ℕ) (l : List (Cmd ℕ)) (σ : Sofar) (k : ℕ) → e + length l ≤ k → Halts k (number_all O var e l σ)
unfolding number_all number_at settle onto
halts O var e [] σ k h = h_whole σ
halts O var e (c ∷ l) σ k h = go (result_fine O var (get_elem? σ.entries) (λ a. get_or σ.of a 0) (λ a. get_or σ.effects a pure) (length σ.entries) c) (λ τ. halts O var (suc e) l τ k (omega arith))
  where
    go : {r : Result} → Fine r → ((τ : Sofar) → Halts k (number_all O var (suc e) l τ)) → Halts k (onto (settle σ r) e (λ τ. number_all O var (suc e) l τ))
    go (f_makes l x s) g = g _
    go (f_points i s) g = g _
    go (f_wrong n a b) g = h_halted (record { number = n; place = e }) a b (omega arith)

-- The tree

bad_among : (a b number k : ℕ) → a ≤ number → number ≤ b → (p : ℕ → Bool) (i n : ℕ) → i + n ≤ k → Among a b k (numbered number (first_bad p i n))
unfolding first_bad numbered
bad_among a b number k x y p i zero h = no_refusal
bad_among a b number k x y p i (suc n) h = at (p i) (bad_among a b number k x y p (suc i) n (omega arith))
  where
    at : (c : Bool) → Among a b k (numbered number (first_bad p (suc i) n)) → Among a b k (numbered number (cond c (first_bad p (suc i) n) (some i)))
    at true w = w
    at false w = among (record { number = number; place = i }) x y (omega arith)

or_among : {a b k : ℕ} {o p : Option Refusal} → Among a b k o → Among a b k p → Among a b k (or_else o p)
unfolding or_else
or_among no_refusal w = w
or_among (among q x y h) w = among q x y h

pub tree_among : (J : Job) → Among 8 10 (length J.cmds) (tree_refusal (source_of J))
unfolding tree_refusal lowest source_of
tree_among J =
    let n : length (source_of J).cmds ≡ length J.cmds = length-map J.cmds (map_cmd (tree J.types)) in
    or_among (bad_among 8 10 8 _ (omega arith) (omega arith) _ 0 _ (omega (arith, n)))
    (or_among (bad_among 8 10 9 _ (omega arith) (omega arith) _ 0 _ (omega (arith, n))) (bad_among 8 10 10 _ (omega arith) (omega arith) _ 0 _ (omega (arith, n))))

-- The verdict

data Ends (a k : ℕ) : Verdict → Type 0 where
  e_accept : (T : Ty) (e : Effect) → Ends a k (accept T e)
  e_refuse : (q : Refusal) → a ≤ q.number → CheckNumber q.number → q.place < k → Ends a k (refuse q)

last_lt : (n : ℕ) → 0 < n → predecessor n < n
unfolding predecessor
last_lt zero h = absurd (omega arith)
last_lt (suc n) h = omega arith

reported_ends : (O : Ops) (J : Job) → 0 < length J.cmds → {w : Whole} → Halts (length J.cmds) w → Ends 11 (length J.cmds) (reported O J w)
unfolding reported within last_of
reported_ends O J h (h_halted q a (inl b) c) = e_refuse q a (inl (omega arith)) c
reported_ends O J h (h_halted q a (inr b) c) = e_refuse q a (inr b) c
reported_ends O J h (h_whole σ) = at (O.eff_below (last_effect J σ) J.rights)
  where
    at : (b : Bool) → Ends 11 (length J.cmds) (within b (predecessor (length J.cmds)) (tree σ.entries (last_entry J σ)) (last_effect J σ))
    at true = e_accept _ _
    at false = e_refuse (record { number = 14; place = predecessor (length J.cmds) }) (omega arith) (inl (omega arith)) (last_lt (length J.cmds) h)

lower : {k : ℕ} {v : Verdict} → Ends 11 k v → Ends 8 k v
lower (e_accept T e) = e_accept T e
lower (e_refuse q a b c) = e_refuse q (omega arith) b c

unless_ends : {k : ℕ} {o : Option Refusal} {v : Verdict} → Among 8 10 k o → Ends 11 k v → Ends 8 k (unless o v)
unfolding unless
unless_ends no_refusal w = lower w
unless_ends (among q a b h) w = e_refuse q a (inl (omega arith)) h

ends : {a k : ℕ} {v : Verdict} {q : Refusal} → Ends a k v → v ≡ refuse q → (a ≤ q.number) × CheckNumber q.number × (q.place < k)
ends (e_accept T e) f = absurd (let z : ◌≡◌ {A = ℕ} 0 1 = cc in omega arith)
ends {q = q} (e_refuse p a b c) f =
    let z : p ≡ q = cc in
    let n : p.number ≡ q.number = ap (λ (x : Refusal). x.number) z in
    let o : p.place ≡ q.place = ap (λ (x : Refusal). x.place) z in
    (omega arith, subst CheckNumber n b, omega arith)

typing_ends : (J : Job) → JobOk J → Ends 11 (length J.cmds) (reported (order_ops J) J (numbering (order_ops J) J))
unfolding numbering
typing_ends J j = reported_ends (order_ops J) J j.some_cmds (halts (order_ops J) (var_entry J) 0 J.cmds (start_of J) (length J.cmds) (omega arith))

-- 8, 9 and 10 are given by the tree alone
pub tree_decides : (s : List ℕ) (J : Job) → reading s ≡ read J → (q : Refusal) → q.number ≤ 10 → (verdict_of s ≡ refuse q) ↔ (tree_refusal (source_of J) ≡ some q)
unfolding verdict_by judge_read_by judge_by unless
tree_decides s J r q l = (λ e. to (tree_refusal (source_of J)) (sym by_numbers ∙ e), λ t. by_numbers ∙ rw t)
  where
    by_numbers : verdict_of s ≡ unless (tree_refusal (source_of J)) (reported (order_ops J) J (numbering (order_ops J) J))
    by_numbers = sym (verdict_by_order s) ∙ ap (judge_read_by order_ops) r

    to : (o : Option Refusal) → unless o (reported (order_ops J) J (numbering (order_ops J) J)) ≡ refuse q → o ≡ some q
    to none e = absurd (omega (arith, (ends (typing_ends J (read_ok s J r)) e).0))
    to (some p) e = let z : p ≡ q = cc in ap some z

-- a number above 7 is given to a job that is read
pub refused_read : (s : List ℕ) (q : Refusal) → verdict_of s ≡ refuse q → 8 ≤ q.number → (J : Job) × (reading s ≡ read J)
unfolding verdict_of judge_read
refused_read s q e l = at (reading s) refl e
  where
    at : (R : Read) → reading s ≡ R → judge_read R ≡ refuse q → (J : Job) × (reading s ≡ read J)
    at (refused r) f g = let z : r ≡ q = cc in let n : r.number ≡ q.number = ap (λ (x : Refusal). x.number) z in absurd (omega (arith, (refused_number s r f).1))
    at (read J) f g = (J, f)

pub refusal_stands : (s : List ℕ) (q : Refusal) → verdict_of s ≡ refuse q → Stands s q
unfolding verdict_by judge_read_by judge_by
refusal_stands s q e = at (reading s) refl (verdict_by_order s ∙ e)
  where
    at : (R : Read) → reading s ≡ R → judge_read_by order_ops R ≡ refuse q → Stands s q
    at (refused r) f g =
        let z : r ≡ q = cc in
        let n : r.number ≡ q.number = ap (λ (x : Refusal). x.number) z in
        let o : r.place ≡ q.place = ap (λ (x : Refusal). x.place) z in
        let a = refused_number s r f in
        by_reading q (omega (arith, a.0)) (omega (arith, a.1)) (omega (arith, refused_place s r f))
    at (read J) f g =
        let w = unless_ends (tree_among J) (typing_ends J (read_ok s J f)) in
        let z = ends w g in
        by_expression q J f z.0 z.1 z.2

-- a load gives 2 to 10
pub load_number : (s : List ℕ) (q : Refusal) → loading s ≡ refused q → (2 ≤ q.number) × (q.number ≤ 10)
unfolding loading in_tree loads.unless
load_number s q e = at (reading s) refl e
  where
    same : {p : Refusal} → refused p ≡ refused q → p.number ≡ q.number
    same {p} f = let z : p ≡ q = cc in ap (λ (x : Refusal). x.number) z

    tree : {k : ℕ} {o : Option Refusal} (K : Job) → Among 8 10 k o → loads.unless o K ≡ refused q → (2 ≤ q.number) × (q.number ≤ 10)
    tree K no_refusal f = absurd (let z : ◌≡◌ {A = ℕ} 0 1 = cc in omega arith)
    tree K (among p a b h) f = let n = same f in (omega arith, omega arith)

    at : (R : Read) → reading s ≡ R → in_tree R ≡ refused q → (2 ≤ q.number) × (q.number ≤ 10)
    at (refused r) f g = let n = same g in let a = refused_number s r f in (omega (arith, a.0), omega (arith, a.1))
    at (read K) f g = tree K (tree_among K) g

-- and the check gives it too
pub verdict_load : (s : List ℕ) (q : Refusal) → loading s ≡ refused q → verdict_of s ≡ refuse q
unfolding loading in_tree loads.unless verdict_of judge_read judge unless
verdict_load s q e = at (reading s) e
  where
    tree : (K : Job) (o : Option Refusal) (v : Verdict) → loads.unless o K ≡ refused q → unless o v ≡ refuse q
    tree K none v g = absurd (let z : ◌≡◌ {A = ℕ} 0 1 = cc in omega arith)
    tree K (some r) v g = let z : r ≡ q = cc in ap refuse z

    at : (R : Read) → in_tree R ≡ refused q → judge_read R ≡ refuse q
    at (refused r) g = let z : r ≡ q = cc in ap refuse z
    at (read K) g = tree K (tree_refusal (source_of K)) _ g

-- with lent tables, 1 besides: so neither 0 nor 15 is the number of a check's refusal
pub refusal_number : (w : Tables) (s : List ℕ) (q : Refusal) → verdict_with w s ≡ refuse q → (1 ≤ q.number) × CheckNumber q.number
unfolding verdict_with
refusal_number w s q e = at (short w) e
  where
    of : Stands s q → (1 ≤ q.number) × CheckNumber q.number
    of (by_reading p a b c) = (omega arith, inl (omega arith))
    of (by_expression p J f a b c) = (omega arith, b)

    at : (b : Bool) → cond b (refuse (record { number = 1; place = 0 })) (verdict_of s) ≡ refuse q → (1 ≤ q.number) × CheckNumber q.number
    at true g = let z : record { number = 1; place = 0 } ≡ q = cc in let n : 1 ≡ q.number = ap (λ (x : Refusal). x.number) z in (omega arith, inl (omega arith))
    at false g = of (refusal_stands s q g)
