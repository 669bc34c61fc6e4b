-- A step in place: the machine that a thread's words stand for after it.
use mathlib.Core.Path.{◌≡◌, refl, sym, ap, ap₂, ◌∙◌, subst, subst⁻¹}
use native.Mathlib.Omega.{arith}
use mathlib.Core.Option.{none, some}
use Prim.Native.Nat.{ℕ, ◌+◌, ◌≤◌, ◌<◌}
use mathlib.Core.List.{List}
use lib.ListN.{get_or}
use Rattle.semantics.specs.Machine.{k_fn, unkeyed, Value as SValue, Machine as Clean, most_frames}
use Rattle.semantics.specs.Step.{Out, o_step, o_done, o_room, o_stuck, o_denied, push, settle, seek, variable, found, touch_all, room, act_fn}
use Rattle.table.specs.declared.Expr.{Expr}
use Rattle.store.specs.declared.Keys.{Keys}
use Rattle.store.specs.declared.Used.{Used}
use Rattle.store.specs.Meaning.{keys_in}
use Rattle.store.specs.Words.{word_in, link_in, function_in}
use Rattle.store.specs.Frames.{frame_words, frame_in, fresh_of}
use Rattle.store.specs.Tables.{Put, capped, list_of}
use Rattle.store.proofs.Laws.{cap_le}
use Rattle.acts.specs.declared.Answer.{Answer}
use Rattle.acts.specs.declared.Answer.TheVariants.{Taken, Finished, NoRoom, Stuck, Denied, Starts}
use Rattle.acts.specs.declared.Control.{Control}
use Rattle.acts.specs.declared.Control.TheVariants.{Enter, Hand}
use Rattle.acts.specs.declared.State.{State}
use Rattle.acts.specs.declared.Acted.{Acted}
use Rattle.acts.specs.Meaning.{StepAnswer, s_taken, s_finished, s_noroom, s_stuck, s_denied, s_starts, answer_in}
use Rattle.acts.specs.View.{Tables, view}
use Rattle.acts.specs.Inner.{Stepped, acted, settled, give, go, go_of, give_of, put_frames, put_functions}
use Rattle.acts.proofs.Acts.{gave, goes, is_stuck}
use Rattle.std.specs.Prelude.{Some, None}
use Rattle.std.specs.Prelude as std
use Rattle.thread.specs.declared.Thread.{Thread}
use Rattle.thread.specs.declared.Ended.{Ended}
use Rattle.thread.specs.Meaning.{found_in}
use Rattle.thread.specs.View.{state_of}
use Rattle.thread.specs.Own.{own_in, with_control, with_place, with_count, Frames_kept, Owned}
use Rattle.thread.specs.Inner.{thread_of, own_state, ended_as, tried_by, Kept}
use Rattle.thread.proofs.Owns.{owned_then, kept_own, kept_stack}
use Rattle.thread.proofs.Enters.{pushed, fn_made}

-- the number of an answer, so that two of them differ
answer_number : StepAnswer → ℕ
answer_number s_taken = 0
answer_number s_finished = 1
answer_number s_noroom = 2
answer_number s_stuck = 3
answer_number s_denied = 4
answer_number s_starts = 5

-- the same frames, the same machine
pub view_kept : (s : State) (w : Tables) (a b : List ℕ) → Frames_kept a b → view s (put_frames w b) ≡ view s (put_frames w a)
unfolding view
view_kept s w a b k = rw (kept_stack a b k (capped s.frames most_frames) (cap_le s.frames most_frames))

-- the words b of a thread that stands as x, over the frames of a
module _ (u : Used) (w : Tables) {a b : List ℕ} {x : Thread} (o : Owned a b x) where
  owned_view : view (own_state u b) (put_frames w b) ≡ view (state_of x u) (put_frames w a)
  owned_view = ap (λ (y : Thread). view (state_of y u) (put_frames w b)) o.is ∙ view_kept (state_of x u) w a b o.frames

  -- a step that led there
  pub owned_acted : (m : Clean) (out : Out) {r : Acted} → r ≡ record { state = state_of x u; answer = Taken } → acted r (put_frames w a) ≡ settled m out
      → acted (record { state = own_state u b; answer = Taken }) (put_frames w b) ≡ settled m out
  owned_acted m out {r} e h = ap (λ (y : Clean). record { machine = y; answer = s_taken }) owned_view ∙ ap (λ (y : Acted). acted y (put_frames w a)) (sym e) ∙ h

-- a value is handed on
pub hands : (u : Used) (w : Tables) {a b : List ℕ} (v : ℕ) → Owned a b (with_control (own_in a) (Hand v)) → (m : Clean) (out : Out) → out ≡ give (word_in v) (view (own_state u a) (put_frames w a))
    → acted (record { state = own_state u b; answer = Taken }) (put_frames w b) ≡ settled m out
hands u w {a} v o m out h = owned_acted u w o m out {r = give_of (own_state u a) v} refl (gave m (own_state u a) (put_frames w a) out (word_in v) (record { word = v; means = refl; gives = refl }) h)

-- a place is taken and an expression entered
pub enters : (u : Used) (w : Tables) {a b : List ℕ} (e : Expr) (env : ℕ) (on : Keys) → Owned a b (with_place (with_control (own_in a) (Enter e)) env on) → (m : Clean) (out : Out)
    → out ≡ go e.0 env (keys_in on) (view (own_state u a) (put_frames w a)) → acted (record { state = own_state u b; answer = Taken }) (put_frames w b) ≡ settled m out
enters u w {a} e env on o m out h = owned_acted u w o m out {r = go_of (own_state u a) e env on} refl (goes m (own_state u a) (put_frames w a) out e env on refl h)

-- a frame is pushed: words after each of three writes
module _ (u : Used) (w : Tables) (t0 t1 t2 t3 : List ℕ) (e first : Expr) where
  abbrev s : State
  s = own_state u t0

  abbrev more_s : State
  more_s = record { now = s.now; frames = s.frames + 1; cells = s.cells; keys = s.keys; pairs = s.pairs; functions = s.functions; bindings = s.bindings }

  abbrev gone : Acted
  gone = go_of more_s first s.now.env s.now.on

  abbrev more : Thread
  more = with_count (with_control (own_in t0) (Enter first)) ((own_in t0).frames + 1)

  pushes_own : (own_in t0).frames < 256 → Put frame_in 256 t0 t1 (own_in t0).frames (fresh_of e (own_in t0).now.env (own_in t0).now.on) → ((j : ℕ) → frame_words ≤ j → get_or t1 j 0 ≡ get_or t0 j 0)
      → Owned t1 t2 (with_control (own_in t1) (Enter first)) → Owned t2 t3 (with_count (own_in t2) ((own_in t0).frames + 1))
      → acted (record { state = own_state u t3; answer = Taken }) (put_frames w t3) ≡ tried_by u t0 (put_frames w t0) (push e.0 first.0)
  pushes_own l p k o q = owned_acted u w all (view s (put_frames w t0)) (settle (push e.0 first.0 (view s (put_frames w t0)))) {r = gone} refl (goes (view s (put_frames w t0)) more_s (put_frames w t1) (settle (push e.0 first.0 (view s (put_frames w t0)))) first s.now.env s.now.on refl (pushed s (put_frames w t0) e first.0 t1 l p))
    where
      same : own_in t1 ≡ own_in t0
      same = kept_own t0 t1 k

      is : own_in t3 ≡ more
      is = q.is ∙ ap (λ (y : Thread). with_count y ((own_in t0).frames + 1)) o.is ∙ ap (λ (y : Thread). with_count (with_control y (Enter first)) ((own_in t0).frames + 1)) same

      all : Owned t1 t3 more
      all = let z = owned_then o q in record { is = is; frames = z.frames; long = z.long }

  pub pushes : {x : Thread} → x ≡ own_in t0 → x.frames < 256 → Put frame_in 256 t0 t1 x.frames (fresh_of e x.now.env x.now.on) → ((j : ℕ) → frame_words ≤ j → get_or t1 j 0 ≡ get_or t0 j 0)
      → Owned t1 t2 (with_control (own_in t1) (Enter first)) → Owned t2 t3 (with_count (own_in t2) (x.frames + 1))
      → acted (record { state = own_state u t3; answer = Taken }) (put_frames w t3) ≡ tried_by u t0 (put_frames w t0) (push e.0 first.0)
  pushes {x} h = subst⁻¹ (λ (y : Thread). y.frames < 256 → Put frame_in 256 t0 t1 y.frames (fresh_of e y.now.env y.now.on) → ((j : ℕ) → frame_words ≤ j → get_or t1 j 0 ≡ get_or t0 j 0)
      → Owned t1 t2 (with_control (own_in t1) (Enter first)) → Owned t2 t3 (with_count (own_in t2) (y.frames + 1))
      → acted (record { state = own_state u t3; answer = Taken }) (put_frames w t3) ≡ tried_by u t0 (put_frames w t0) (push e.0 first.0)) h pushes_own

-- a control, and then a place
pub owned_both : {a b d : List ℕ} (c : Control) (env : ℕ) (on : Keys) → Owned a b (with_control (own_in a) c) → Owned b d (with_place (own_in b) env on) → Owned a d (with_place (with_control (own_in a) c) env on)
owned_both c env on o q = let z = owned_then o q in record { is = q.is ∙ ap (λ (y : Thread). with_place y env on) o.is; frames = z.frames; long = z.long }

-- Commands without operands

var_found : (s : State) (w : Tables) (x : ℕ) {v : SValue} → seek 1024 (list_of link_in w.bindings (capped s.bindings 1024)) s.now.env x ≡ some v
    → settle (variable x (view s w)) ≡ give v (view s w)
unfolding variable found settle touch_all room view
var_found s w x h = simp h

var_none : (s : State) (w : Tables) (x : ℕ) → seek 1024 (list_of link_in w.bindings (capped s.bindings 1024)) s.now.env x ≡ none → settle (variable x (view s w)) ≡ o_stuck
unfolding variable found settle touch_all room view
var_none s w x h = simp h

module _ (u : Used) (w : Tables) (a : List ℕ) {o : Thread} (ho : o ≡ own_in a) where
  pub var_hands : (b : List ℕ) (x v : ℕ) {f : std.Option ℕ} → found_in f ≡ seek 1024 (list_of link_in w.bindings (capped u.bindings 1024)) o.now.env x → f ≡ Some v
      → Owned a b (with_control (own_in a) (Hand v)) → acted (record { state = own_state u b; answer = Taken }) (put_frames w b) ≡ tried_by u a (put_frames w a) (variable x)
  var_hands b x v {f} h q p =
      hands u w v p (view (own_state u a) (put_frames w a)) (settle (variable x (view (own_state u a) (put_frames w a))))
      (var_found (own_state u a) (put_frames w a) x (sym (h ∙ ap (λ (y : Thread). seek 1024 (list_of link_in w.bindings (capped u.bindings 1024)) y.now.env x) ho) ∙ ap found_in q))

  pub var_stuck : (x : ℕ) (f : std.Option ℕ) → found_in f ≡ seek 1024 (list_of link_in w.bindings (capped u.bindings 1024)) o.now.env x → found_in f ≡ none
      → acted (record { state = own_state u a; answer = Stuck }) (put_frames w a) ≡ tried_by u a (put_frames w a) (variable x)
  var_stuck x f h q =
      is_stuck (own_state u a) (put_frames w a) (settle (variable x (view (own_state u a) (put_frames w a)))) refl
      (var_none (own_state u a) (put_frames w a) x (sym (h ∙ ap (λ (y : Thread). seek 1024 (list_of link_in w.bindings (capped u.bindings 1024)) y.now.env x) ho) ∙ q))

  abbrev one_more : Used
  one_more = record { cells = u.cells; keys = u.keys; pairs = u.pairs; functions = u.functions + 1; bindings = u.bindings }

  pub fn_hands : (b q : List ℕ) (x d v : ℕ) → u.functions < 512 → Put function_in 512 w.functions q u.functions (record { var = x; body = d; env = o.now.env })
      → word_in v ≡ unkeyed (k_fn u.functions) → Owned a b (with_control (own_in a) (Hand v))
      → acted (record { state = own_state one_more b; answer = Taken }) (put_frames (put_functions w q) b) ≡ tried_by u a (put_frames w a) (act_fn x d)
  fn_hands b q x d v l p e k =
      hands one_more (put_functions w q) v k (view (own_state u a) (put_frames w a)) (settle (act_fn x d (view (own_state u a) (put_frames w a))))
      (fn_made (own_state u a) (put_frames w a) x d q l (subst (λ (y : Thread). Put function_in 512 w.functions q u.functions (record { var = x; body = d; env = y.now.env })) ho p)
      ∙ ap (λ (y : SValue). give y (view (own_state one_more a) (put_frames (put_functions w q) a))) (sym e))

-- A value goes to the newest frame

module _ (u : Used) (w : Tables) (t0 t1 t2 t3 : List ℕ) (next : Expr) (env : ℕ) (on : Keys) where
  -- a value more in hand, and the next operand is entered
  pub hand_goes : ((j : ℕ) → frame_words ≤ j → get_or t1 j 0 ≡ get_or t0 j 0) → Owned t1 t2 (with_control (own_in t1) (Enter next)) → Owned t2 t3 (with_place (own_in t2) env on)
      → (m : Clean) (out : Out) → out ≡ go next.0 env (keys_in on) (view (own_state u t0) (put_frames w t1)) → acted (record { state = own_state u t3; answer = Taken }) (put_frames w t3) ≡ settled m out
  hand_goes k o q m out h =
      enters u w next env on (owned_both (Enter next) env on o q) m out (h ∙ ap (λ (y : Thread). go next.0 env (keys_in on) (view (state_of y u) (put_frames w t1))) (sym (kept_own t0 t1 k)))

answer_taken : (a : Answer) → answer_in a ≡ s_taken → a ≡ Taken
unfolding answer_number
answer_taken Taken e = refl
answer_taken Finished e = let z : ◌≡◌ {A = ℕ} 1 0 = ap answer_number e in absurd (omega (arith, z))
answer_taken NoRoom e = let z : ◌≡◌ {A = ℕ} 2 0 = ap answer_number e in absurd (omega (arith, z))
answer_taken Stuck e = let z : ◌≡◌ {A = ℕ} 3 0 = ap answer_number e in absurd (omega (arith, z))
answer_taken Denied e = let z : ◌≡◌ {A = ℕ} 4 0 = ap answer_number e in absurd (omega (arith, z))
answer_taken Starts e = let z : ◌≡◌ {A = ℕ} 5 0 = ap answer_number e in absurd (omega (arith, z))

-- what an act gave, kept in the thread's words
module _ (u : Used) (w w0 : Tables) (a b : List ℕ) (s : Acted) (r : Ended) (k : Kept s r a b) where
  abbrev m : Clean
  m = view (own_state u a) (put_frames w0 a)

  stays : (s.answer ≡ Taken → ⊥) → view s.state (put_frames w a) ≡ m → view (own_state r.used b) (put_frames w b) ≡ m
  unfolding view
  stays n e =
      ap (λ (l : List ℕ). view (own_state r.used l) (put_frames w l)) (k.other n)
      ∙ ap (λ (y : Used). view (own_state y a) (put_frames w a)) k.used
      ∙ ap₂ (λ x y. record { thread = m.thread; store = x; threads = y }) (ap (λ (y : Clean). y.store) e) (ap (λ (y : Clean). y.threads) e)

  moves : s.answer ≡ Taken → view (own_state r.used b) (put_frames w b) ≡ view s.state (put_frames w a)
  moves t = owned_view r.used w (k.taken t) ∙ ap (λ (y : Used). view (state_of (thread_of s.state) y) (put_frames w a)) k.used

  pub kept_acted : (o : Out) → acted s (put_frames w a) ≡ settled m o → acted (ended_as r b) (put_frames w b) ≡ settled m o
  unfolding answer_number
  kept_acted o e = ap₂ (λ x y. record { machine = x; answer = answer_in y }) (at o e) k.answer ∙ e
    where
      no : {x : StepAnswer} → answer_in s.answer ≡ x → (x ≡ s_taken → ⊥) → s.answer ≡ Taken → ⊥
      no h n t = n (sym h ∙ ap answer_in t)

      same : (x : Clean) → (s.answer ≡ Taken → ⊥) → view s.state (put_frames w a) ≡ m → view (own_state r.used b) (put_frames w b) ≡ view s.state (put_frames w a)
      same x n h = stays n h ∙ sym h

      at : (o : Out) → acted s (put_frames w a) ≡ settled m o → view (own_state r.used b) (put_frames w b) ≡ view s.state (put_frames w a)
      at (o_step n) h = moves (answer_taken s.answer (ap (λ (y : Stepped). y.answer) h))
      at o_done h = same m (no (ap (λ (y : Stepped). y.answer) h) (λ z. let q : ◌≡◌ {A = ℕ} 1 0 = ap answer_number z in omega (arith, q))) (ap (λ (y : Stepped). y.machine) h)
      at o_room h = same m (no (ap (λ (y : Stepped). y.answer) h) (λ z. let q : ◌≡◌ {A = ℕ} 2 0 = ap answer_number z in omega (arith, q))) (ap (λ (y : Stepped). y.machine) h)
      at o_stuck h = same m (no (ap (λ (y : Stepped). y.answer) h) (λ z. let q : ◌≡◌ {A = ℕ} 3 0 = ap answer_number z in omega (arith, q))) (ap (λ (y : Stepped). y.machine) h)
      at o_denied h = same m (no (ap (λ (y : Stepped). y.answer) h) (λ z. let q : ◌≡◌ {A = ℕ} 4 0 = ap answer_number z in omega (arith, q))) (ap (λ (y : Stepped). y.machine) h)
