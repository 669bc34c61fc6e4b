-- The invariant: when a machine is well typed for a job.
use Rattle.std.specs.Prelude.{◌≡◌, ℕ, zero, suc, ◌≤◌, ◌<◌, Bool, true, false, ◌≢◌, ◌⊎◌, length}
use mathlib.Core.List.{List, [], ◌∷◌, ◌++◌, map, Memᴰ}
use Rattle.std.proofs.Math.Option.{some}
use Rattle.std.proofs.Math.ListN.{get_elem?}
use Rattle.order.specs.Order.{Below}
use Rattle.order.specs.OrderLaws.{Proper}
use Rattle.order.specs.Sets.{members}
use Rattle.order.specs.Effects.{Effect, names}
use Rattle.syntax.specs.Types.{Ty, num, lim}
use Rattle.syntax.specs.Commands.{Cmd, c_pair, c_part, c_app, c_new, c_asg, c_read, c_sum, c_test, c_lim, c_grant, c_newkey, c_assoc, c_access, c_divide}
use Rattle.syntax.specs.Job.{Src, up_of}
use Rattle.syntax.specs.Tree.{Entry, e_var, e_name, key_pair}
use Rattle.typing.specs.Subtype.{Sub}
use Rattle.typing.specs.Rules.{Has, HasKeys, Fresh, code_of}
use Rattle.typing.specs.FreeNames.{Free}
use Rattle.semantics.specs.Machine.{Kind, k_num, k_pair, k_fn, k_cell, k_lim, k_grant, Value, Two, Bind, b_var, b_name, Link, Closure, Frame, Control, enter, hand, Store, Machine, most_bindings}
use Rattle.semantics.specs.RuntimeTypes.{RTy, rnum, rpair, rcell, rfn, rlim, rgrant, RSub, rkey, rrekey, inst}
use Rattle.semantics.specs.Chains.{look, Chain}

pub record TwoTy : Type 0 where
  pub one : RTy
  pub two : RTy

-- argument, result, and the keys of the effect
pub data FnTy : Type 0 where
  fty : RTy → RTy → List ℕ → FnTy

-- the type of each pair, function and cell by number; the upper key of each key; the bindings
pub record World : Type 0 where
  pub pt : List TwoTy
  pub ft : List FnTy
  pub ct : List RTy
  pub keys : List ℕ
  pub links : List Link

-- the second world has all that the first has
pub record Ext (W X : World) : Type 0 where
  pub pts : (i : ℕ) (a : TwoTy) → get_elem? W.pt i ≡ some a → get_elem? X.pt i ≡ some a
  pub fts : (i : ℕ) (a : FnTy) → get_elem? W.ft i ≡ some a → get_elem? X.ft i ≡ some a
  pub cts : (i : ℕ) (a : RTy) → get_elem? W.ct i ≡ some a → get_elem? X.ct i ≡ some a
  pub ks : (a b : ℕ) → Below W.keys a b → Below X.keys a b
  pub klen : length W.keys ≤ length X.keys
  pub lks : (i : ℕ) (l : Link) → get_elem? W.links i ≡ some l → get_elem? X.links i ≡ some l

-- the exact type of a value, by its key and kind; a limit or grant key stands for a key above 0
pub data Typ (W : World) : ℕ → Kind → RTy → Type 0 where
  t_num : {k n : ℕ} → Typ W k (k_num n) (rnum k)
  t_pair : {k p : ℕ} {t : TwoTy} → get_elem? W.pt p ≡ some t → Typ W k (k_pair p) (rpair k t.one t.two)
  t_cell : {k c : ℕ} {A : RTy} → get_elem? W.ct c ≡ some A → Typ W k (k_cell c) (rcell k A)
  t_fn : {k f : ℕ} {A B : RTy} {L : List ℕ} → get_elem? W.ft f ≡ some (fty A B L) → Typ W k (k_fn f) (rfn k A B L)
  t_lim : {k j : ℕ} → 0 < j → Typ W k (k_lim j) (rlim k j)
  t_grant : {k j : ℕ} → 0 < j → Typ W k (k_grant j) (rgrant k j)

-- a value of the type or of one below it
pub record Fits (W : World) (v : Value) (T : RTy) : Type 0 where
  pub exact : RTy
  pub typ : Typ W v.key v.kind exact
  pub sub : RSub W.keys exact T

-- key k is 0 or below a key of the list
pub data On (ks l : List ℕ) (k : ℕ) : Type 0 where
  on_zero : k ≡ 0 → On ks l k
  on_key : {a : ℕ} → Memᴰ a l → Below ks k a → On ks l k

-- every key of a list; every name of an effect, read under a map from names to keys
pub record OnAll (ks l L : List ℕ) : Type 0 where
  pub each : (k : ℕ) → Memᴰ k L → On ks l k

pub record Covers (ks l : List ℕ) (μ : ℕ → ℕ) (s : Effect) : Type 0 where
  pub each : (n : ℕ) → Memᴰ n (names s) → On ks l (μ n)

-- a name's key is below its upper name's
pub record Mono (S : Src) (ks : List ℕ) (μ : ℕ → ℕ) : Type 0 where
  pub step : (a u : ℕ) → get_elem? (up_of S) a ≡ some u → Below ks (μ a) (μ u)

-- a bound name's upper name is bound
pub record Up (S : Src) (μ : ℕ → ℕ) : Type 0 where
  pub step : (a u : ℕ) → get_elem? (up_of S) a ≡ some u → (μ a ≡ 0) ⊎ (0 < μ u)

-- bindings that a context describes
pub data EnvOk (S : Src) (W : World) : List Bind → List Entry → Type 0 where
  eo_nil : Mono S W.keys (look []) → Up S (look []) → EnvOk S W [] []
  eo_var : {E : List Bind} {Γ : List Entry} {x : ℕ} {v : Value} {T : Ty} → EnvOk S W E Γ → Fits W v (inst (look E) T) → EnvOk S W (b_var x v ∷ E) (e_var x T ∷ Γ)
  eo_name : {E : List Bind} {Γ : List Entry} {r k : ℕ} → EnvOk S W E Γ → Fresh (up_of S) Γ r → Mono S W.keys (look (b_name r k ∷ E)) → Up S (look (b_name r k ∷ E)) → k < length W.keys
      → EnvOk S W (b_name r k ∷ E) (e_name r ∷ Γ)

-- the same of the bindings that a number leads to
pub record Env (S : Src) (W : World) (e : ℕ) (E : List Bind) (Γ : List Entry) : Type 0 where
  pub chain : Chain W.links e E
  pub ok : EnvOk S W E Γ

-- limit keys in hand that may be touched, and the keys that they stand for
pub data Held (W : World) (l : List ℕ) : List Value → List ℕ → Type 0 where
  hd_nil : Held W l [] []
  hd_cons : {v : Value} {q j : ℕ} {vs : List Value} {js : List ℕ} → Fits W v (rlim q j) → On W.keys l q → Held W l vs js → Held W l (v ∷ vs) (j ∷ js)

-- what a list has from place n on
pub data Rest : List ℕ → ℕ → List ℕ → Type 0 where
  rest_here : {l : List ℕ} → Rest l zero l
  rest_next : {a n : ℕ} {l r : List ℕ} → Rest l n r → Rest (a ∷ l) (suc n) r

-- a frame by its command, values in hand, bindings and enabled keys: it takes a value of the first type and hands on one of the second. The enabled keys
-- cover what is left of its effect
pub data FrameOk (S : Src) (W : World) : Cmd Ty → List Value → ℕ → ℕ → RTy → RTy → Type 0 where
  fo_pair1 : {e on a b : ℕ} {E : List Bind} {Γ : List Entry} {A : RTy} {B : Ty} {t : Effect}
      → Env S W e E Γ → Has S Γ b B t → Covers W.keys (members on) (look E) t → FrameOk S W (c_pair a b) [] e on A (rpair 0 A (inst (look E) B))
  fo_pair2 : {e on a b : ℕ} {v : Value} {A B : RTy} → Fits W v A → FrameOk S W (c_pair a b) (v ∷ []) e on B (rpair 0 A B)
  fo_part1 : {e on a q : ℕ} {A B : RTy} → On W.keys (members on) q → FrameOk S W (c_part a true) [] e on (rpair q A B) A
  fo_part2 : {e on a q : ℕ} {A B : RTy} → On W.keys (members on) q → FrameOk S W (c_part a false) [] e on (rpair q A B) B
  fo_app1 : {e on a b q : ℕ} {E : List Bind} {Γ : List Entry} {A : Ty} {T U : RTy} {L : List ℕ} {t : Effect}
      → Env S W e E Γ → Has S Γ b A t → Covers W.keys (members on) (look E) t → RSub W.keys (inst (look E) A) T → On W.keys (members on) q → OnAll W.keys (members on) L
      → FrameOk S W (c_app a b) [] e on (rfn q T U L) U
  fo_app2 : {e on a b q : ℕ} {v : Value} {T U : RTy} {L : List ℕ}
      → Fits W v (rfn q T U L) → On W.keys (members on) q → OnAll W.keys (members on) L → FrameOk S W (c_app a b) (v ∷ []) e on T U
  fo_new : {e on a : ℕ} {X : Ty} {T : RTy} → FrameOk S W (c_new X a) [] e on T (rcell 0 T)
  fo_read : {e on a q : ℕ} {T : RTy} → On W.keys (members on) q → FrameOk S W (c_read a) [] e on (rcell q T) T
  fo_asg1 : {e on a b q : ℕ} {E : List Bind} {Γ : List Entry} {A : Ty} {T : RTy} {t : Effect}
      → Env S W e E Γ → Has S Γ b A t → Covers W.keys (members on) (look E) t → RSub W.keys (inst (look E) A) T → On W.keys (members on) q
      → FrameOk S W (c_asg a b) [] e on (rcell q T) T
  fo_asg2 : {e on a b q : ℕ} {v : Value} {T : RTy} → Fits W v (rcell q T) → On W.keys (members on) q → FrameOk S W (c_asg a b) (v ∷ []) e on T T
  fo_sum1 : {e on a b p q : ℕ} {i : Bool} {E : List Bind} {Γ : List Entry} {t : Effect}
      → Env S W e E Γ → Has S Γ b (num q) t → Covers W.keys (members on) (look E) t → On W.keys (members on) p → On W.keys (members on) (look E q)
      → FrameOk S W (c_sum i a b) [] e on (rnum p) (rnum 0)
  fo_sum2 : {e on a b p q : ℕ} {i : Bool} {v : Value}
      → Fits W v (rnum p) → On W.keys (members on) p → On W.keys (members on) q → FrameOk S W (c_sum i a b) (v ∷ []) e on (rnum q) (rnum 0)
  fo_test : {e on a b c q : ℕ} {E : List Bind} {Γ : List Entry} {B C T : Ty} {t u : Effect}
      → Env S W e E Γ → Has S Γ b B t → Covers W.keys (members on) (look E) t → Sub (up_of S) B T → Has S Γ c C u → Covers W.keys (members on) (look E) u → Sub (up_of S) C T
      → On W.keys (members on) q → FrameOk S W (c_test a b c T) [] e on (rnum q) (inst (look E) T)
  -- of the keys `rest` are still to come; the body's effect is covered by the keys in hand, the one that is waited for and those to come
  fo_lim : {e on b q j : ℕ} {E : List Bind} {Γ : List Entry} {ks rest rs js : List ℕ} {vs : List Value} {T : Ty} {s t : Effect}
      → Env S W e E Γ → Rest ks (suc (length vs)) rest → HasKeys S Γ rest rs s → Covers W.keys (members on) (look E) s → Held W (members on) vs js → On W.keys (members on) q
      → Has S Γ b T t → Covers W.keys (members on) (look E) t → Covers W.keys (js ++ (j ∷ map (look E) rs)) (look E) t
      → FrameOk S W (c_lim ks b) vs e on (rlim q j) (inst (look E) T)
  fo_grant : {e on a b q j : ℕ} {E : List Bind} {Γ : List Entry} {T : Ty} {t : Effect}
      → Env S W e E Γ → Has S Γ b T t → On W.keys (members on) q → ((n : ℕ) → Memᴰ n (names t) → On W.keys (members on) (look E n) ⊎ Below W.keys (look E n) j)
      → FrameOk S W (c_grant a b) [] e on (rgrant q j) (inst (look E) T)
  fo_newkey : {e on x r a b q u : ℕ} {E : List Bind} {Γ : List Entry} {B T : Ty} {t : Effect}
      → Env S W e E Γ → get_elem? (up_of S) r ≡ some u → Fresh (up_of S) Γ r → Has S (e_var x (key_pair r) ∷ e_name r ∷ Γ) b B t → Sub (up_of S) B T → Free r T → On W.keys (members on) q
      → ((n : ℕ) → Memᴰ n (names t) → n ≢ r → On W.keys (members on) (look E n)) → (Memᴰ r (names t) → On W.keys (members on) (look E u))
      → FrameOk S W (c_newkey x r a b T) [] e on (rlim q (look E u)) (inst (look E) T)
  fo_assoc1 : {e on a b q r : ℕ} {E : List Bind} {Γ : List Entry} {A : RTy} {t : Effect}
      → Env S W e E Γ → Has S Γ b (lim q r) t → Covers W.keys (members on) (look E) t → On W.keys (members on) (rkey A) → On W.keys (members on) (look E q)
      → FrameOk S W (c_assoc a b) [] e on A (rrekey (look E r) A)
  fo_assoc2 : {e on a b q j : ℕ} {v : Value} {A : RTy} → Fits W v A → On W.keys (members on) (rkey A) → On W.keys (members on) q
      → FrameOk S W (c_assoc a b) (v ∷ []) e on (rlim q j) (rrekey j A)
  -- each name of the first branch's effect is covered, or its key lies below the one that is asked for
  fo_access : {e on a b c q j : ℕ} {E : List Bind} {Γ : List Entry} {B C T : Ty} {t u : Effect}
      → Env S W e E Γ → Has S Γ b B t → ((n : ℕ) → Memᴰ n (names t) → On W.keys (members on) (look E n) ⊎ Below W.keys (look E n) j) → Sub (up_of S) B T
      → Has S Γ c C u → Covers W.keys (members on) (look E) u → Sub (up_of S) C T → On W.keys (members on) q
      → FrameOk S W (c_access a b c T) [] e on (rlim q j) (inst (look E) T)
  fo_divide1 : {e on a b p q : ℕ} {E : List Bind} {Γ : List Entry} {t : Effect}
      → Env S W e E Γ → Has S Γ b (num q) t → Covers W.keys (members on) (look E) t → On W.keys (members on) p → On W.keys (members on) (look E q)
      → FrameOk S W (c_divide a b) [] e on (rnum p) (rpair 0 (rnum 0) (rnum 0))
  fo_divide2 : {e on a b p q : ℕ} {v : Value}
      → Fits W v (rnum p) → On W.keys (members on) p → On W.keys (members on) q → FrameOk S W (c_divide a b) (v ∷ []) e on (rnum q) (rpair 0 (rnum 0) (rnum 0))

-- the frames take a value of the type
pub data StackOk (S : Src) (W : World) : List Frame → RTy → Type 0 where
  so_nil : {T : RTy} → StackOk S W [] T
  so_cons : {f : Frame} {fs : List Frame} {k : Cmd Ty} {A B T : RTy}
      → code_of S f.at ≡ k → RSub W.keys T A → FrameOk S W k f.hand f.env f.on A B → StackOk S W fs B → StackOk S W (f ∷ fs) T

pub data ThreadOk (S : Src) (W : World) : Control → ℕ → ℕ → List Frame → Type 0 where
  to_enter_lem : {a e on : ℕ} {fs : List Frame} {E : List Bind} {Γ : List Entry} {T : Ty} {s : Effect}
      → Env S W e E Γ → Has S Γ a T s → Covers W.keys (members on) (look E) s → StackOk S W fs (inst (look E) T) → ThreadOk S W (enter a) e on fs
  to_hand_lem : {v : Value} {e on : ℕ} {fs : List Frame} {T : RTy} → Fits W v T → StackOk S W fs T → ThreadOk S W (hand v) e on fs

-- a pair, a cell and a function as the world says
pub record PairOk (W : World) (ps : List Two) (i : ℕ) (t : TwoTy) : Type 0 where
  pub at : Two
  pub found : get_elem? ps i ≡ some at
  pub one : Fits W at.one t.one
  pub two : Fits W at.two t.two

pub record CellOk (W : World) (cs : List Value) (i : ℕ) (t : RTy) : Type 0 where
  pub at : Value
  pub found : get_elem? cs i ≡ some at
  pub fits : Fits W at t

pub data FnOk (S : Src) (W : World) (fs : List Closure) (i : ℕ) : FnTy → Type 0 where
  f_fn : {x : Closure} {E : List Bind} {Γ : List Entry} {A B : Ty} {s : Effect} → get_elem? fs i ≡ some x → Env S W x.env E Γ → Has S (e_var x.var A ∷ Γ) x.body B s
      → FnOk S W fs i (fty (inst (look E) A) (inst (look E) B) (map (look E) (names s)))

pub record StoreOk (S : Src) (W : World) (cells : List Value) (pairs : List Two) (fns : List Closure) : Type 0 where
  pub plen : length pairs ≡ length W.pt
  pub ps : (i : ℕ) (t : TwoTy) → get_elem? W.pt i ≡ some t → PairOk W pairs i t
  pub clen : length cells ≡ length W.ct
  pub cs : (i : ℕ) (t : RTy) → get_elem? W.ct i ≡ some t → CellOk W cells i t
  pub flen : length fns ≡ length W.ft
  pub fs : (i : ℕ) (t : FnTy) → get_elem? W.ft i ≡ some t → FnOk S W fns i t

-- keys go up to smaller keys above 0, but 0 and 1 are their own; there are 0 and 1
pub record KeysOk (keys : List ℕ) : Type 0 where
  pub proper : Proper keys
  pub two : 1 < length keys

abbrev pub world_of : List TwoTy → List FnTy → List RTy → Store → World
world_of p f c s = record { pt = p; ft = f; ct = c; keys = s.keys; links = s.bindings }

-- the store, and a thread over it
pub record Ok (S : Src) (m : Machine) : Type 0 where
  pub pt : List TwoTy
  pub ft : List FnTy
  pub ct : List RTy
  pub keys : KeysOk m.store.keys
  pub few : length m.store.bindings ≤ most_bindings
  pub store : StoreOk S (world_of pt ft ct m.store) m.store.cells m.store.pairs m.store.functions
  pub thread : ThreadOk S (world_of pt ft ct m.store) m.thread.control m.thread.env m.thread.on m.thread.frames
