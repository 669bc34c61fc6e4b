-- The invariant of all threads over one store, and that every turn keeps it: a step of one thread leaves the others well typed, and the thread that it starts is. Every turn keeps the room of all, too.
use Rattle.std.specs.Prelude.{◌≡◌, refl, ℕ, zero, suc, ◌≤◌, Bool, true, false, List, ◌++◌, length, set}
use Rattle.std.proofs.Common.{sym, ap, ◌∙◌, subst, arith, length-set}
use Rattle.std.proofs.Math.Path.{subst⁻¹}
use Rattle.std.proofs.lemmas.Bool.{false≢true}
use Rattle.std.proofs.Math.Option.{some, none-ne-some, some-injective}
use Rattle.std.proofs.Math.ListN.{get_elem?}
use Rattle.order.proofs.EffectLaws.{pure_name}
use Rattle.order.specs.Effects.{Effect, pure}
use Rattle.syntax.specs.Types.{Ty}
use Rattle.syntax.specs.Commands.{Cmd, c_spawn, form, row}
use Rattle.syntax.specs.Job.{Src}
use Rattle.syntax.specs.Tree.{Entry}
use Rattle.typing.specs.Rules.{code_of, Has, h_num, h_top, h_var, h_pair, h_part1, h_part2, h_fn, h_app, h_new, h_asg, h_read, h_sum, h_test, h_lim, h_grant, h_newkey, h_assoc, h_access, h_divide, h_spawn, h_sub}
use Rattle.semantics.specs.Machine.{Control, enter, Frame, Thread, Machine, System, most_frames, most_threads}
use Rattle.semantics.specs.Step.{Out, o_step, o_room, o_stuck, o_denied, fresh, step}
use Rattle.semantics.specs.Room.{is_done}
use Rattle.semantics.specs.Wants.{needs, wrong, shut, lacks}
use Rattle.semantics.specs.StepExactly.{Exact, ex_done, ex_stuck, ex_denied, ex_room, ex_step}
use Rattle.semantics.proofs.StepExactly.{exact}
use Rattle.semantics.specs.RoomLaws.{Fair, fair_step, fair_done, fair_room, fair_stuck, fair_denied}
use Rattle.semantics.proofs.RoomLaws.{fair}
use Rattle.semantics.proofs.StepKeeps.{room_kept}
use Rattle.semantics.proofs.SpawnLaws.{is_spawn, StartedIs, none_started, one_started, started_is, threads_started}
use Rattle.semantics.specs.Invariant.{World, ThreadOk, to_enter_lem, so_nil, Ok}
use Rattle.semantics.proofs.Growth.{thread_ext}
use Rattle.semantics.proofs.Sound.{Good, g_step, g_done, g_room, sound}
use Rattle.semantics.specs.Preservation.{world_in}
use Rattle.semantics.proofs.Preservation.{extended}
use Rattle.semantics.specs.Start.{first_thread, start_of}
use Rattle.semantics.specs.Threads.{steps_of, alone, Turn, Took, t_step, later, turn, Asked}
use Rattle.semantics.specs.Calls.{Policy, Takes, no_turn, first}
use Rattle.semantics.specs.TurnLaws.{TurnIs, is_step_lem, is_none, is_room, is_stuck, is_denied}
use Rattle.semantics.proofs.TurnLaws.{lawful, turn_is, turn_few}
use Rattle.semantics.specs.AllThreads.{Each, Roomy, SystemOk, ThreadIn, TurnGood, each_cons, each_nil, tg_none, tg_room, tg_step}

module _ {P : Thread → Type 0} where
  each_get : {l : List Thread} → Each P l → (i : ℕ) (t : Thread) → get_elem? l i ≡ some t → P t
  each_get each_nil i t e = absurd (none-ne-some t e)
  each_get (each_cons {t = u} p w) zero t e = subst (λ z. P z) (some-injective u t e) p
  each_get (each_cons p w) (suc i) t e = each_get w i t e

  each_set : {l : List Thread} → Each P l → (i : ℕ) {x : Thread} → P x → Each P (set l i x)
  each_set each_nil i p = each_nil
  each_set (each_cons q w) zero p = each_cons p w
  each_set (each_cons q w) (suc i) p = each_cons q (each_set w i p)

  each_append : {l m : List Thread} → Each P l → Each P m → Each P (l ++ m)
  each_append each_nil v = v
  each_append (each_cons p w) v = each_cons p (each_append w v)

each_map : {P Q : Thread → Type 0} {l : List Thread} → ((t : Thread) → P t → Q t) → Each P l → Each Q l
each_map f each_nil = each_nil
each_map f (each_cons p w) = each_cons (f _ p) (each_map f w)

-- one of them
pub single : {S : Src} {s : System} (k : SystemOk S s) (i : ℕ) (t : Thread) → get_elem? s.threads i ≡ some t → Ok S (alone s t)
single k i t e = record { pt = k.pt; ft = k.ft; ct = k.ct; keys = k.keys; few = k.few; store = k.store; thread = each_get k.threads i t e }

-- the start, whose only thread is the first
pub begun_ok : (S : Src) → Ok S (alone (start_of S) (first_thread S)) → SystemOk S (start_of S)
unfolding start_of
begun_ok S k = record { pt = k.pt; ft = k.ft; ct = k.ct; keys = k.keys; few = k.few; store = k.store; threads = each_cons k.thread each_nil; most = omega arith }

-- the body of a 0x42 has a type, and no effect
body : {S : Src} {Γ : List Entry} {a b : ℕ} {T : Ty} {s : Effect} → Has S Γ a T s → code_of S a ≡ c_spawn b → (U : Ty) × Has S Γ b U pure
unfolding is_spawn form row
body {S} {Γ} {a} {b} d k = at d
  where
    no : {X : Type 0} {c : Cmd Ty} → code_of S a ≡ c → is_spawn c ≡ false → X
    no c n = absurd (false≢true (sym n ∙ ap is_spawn (sym c ∙ k)))

    same : {i j : ℕ} → ◌≡◌ {A = Cmd Ty} (c_spawn i) (c_spawn j) → i ≡ j
    same e = cc

    at : {T : Ty} {s : Effect} → Has S Γ a T s → (U : Ty) × Has S Γ b U pure
    at (h_num c) = no c refl
    at (h_top c) = no c refl
    at (h_var c l) = no c refl
    at (h_pair c x y) = no c refl
    at (h_part1 c x) = no c refl
    at (h_part2 c x) = no c refl
    at (h_fn c w x) = no c refl
    at (h_app c x y z) = no c refl
    at (h_new c w x y) = no c refl
    at (h_asg c x y z) = no c refl
    at (h_read c x) = no c refl
    at (h_sum c x y) = no c refl
    at (h_test c w x y z u v) = no c refl
    at (h_lim c x y z) = no c refl
    at (h_grant c x y) = no c refl
    at (h_newkey c p w x y z u v) = no c refl
    at (h_assoc c x y) = no c refl
    at (h_access c w x y z u v) = no c refl
    at (h_divide c x y) = no c refl
    at (h_spawn {T = U} c x) = (U, subst (λ j. Has S Γ j U pure) (same (sym c ∙ k)) x)
    at (h_sub d x w u v) = at d

-- the threads that a step of a well-typed thread starts are well typed
started_ok : {S : Src} {W : World} {c : Control} {env on : ℕ} {fs : List Frame} {l : List Thread} → StartedIs (code_of S) c env l → ThreadOk S W c env on fs → Each (ThreadIn S W) l
started_ok (none_started f) h = each_nil
started_ok {S} {W} {env = env} {on = on} {fs = fs} (one_started {e = i} {b = b} c k) h = each_cons (new (subst (λ x. ThreadOk S W x env on fs) c h)) each_nil
  where
    new : ThreadOk S W (enter i) env on fs → ThreadIn S W (fresh b env)
    new (to_enter_lem o d v w) = to_enter_lem o (body d k).1 (record { each = λ n m. absurd (pure_name m) }) so_nil

module _ (S : Src) (may : ℕ → Bool) (s : System) (k : SystemOk S s) where
  has_room : {b c : Bool} {o : Out} (m : Machine) → Fair b c o → o ≡ o_step m → c ≡ false
  has_room m fair_step e = refl
  has_room m fair_done e = refl
  has_room m fair_room e = absurd (let z : ◌≡◌ {A = ℕ} 0 1 = cc in omega arith)
  has_room m fair_stuck e = absurd (let z : ◌≡◌ {A = ℕ} 0 1 = cc in omega arith)
  has_room m fair_denied e = absurd (let z : ◌≡◌ {A = ℕ} 0 1 = cc in omega arith)

  no_place : {b c : Bool} {o : Out} → Fair b c o → o ≡ o_room → c ≡ true
  no_place fair_step e = absurd (let z : ◌≡◌ {A = ℕ} 0 1 = cc in omega arith)
  no_place fair_done e = absurd (let z : ◌≡◌ {A = ℕ} 0 1 = cc in omega arith)
  no_place fair_room e = refl
  no_place fair_stuck e = absurd (let z : ◌≡◌ {A = ℕ} 0 1 = cc in omega arith)
  no_place fair_denied e = absurd (let z : ◌≡◌ {A = ℕ} 0 1 = cc in omega arith)

  never_stuck : {W : World} {o : Out} → Good S W o → o ≡ o_stuck → ⊥
  never_stuck (g_step j x) e = let z : ◌≡◌ {A = ℕ} 0 1 = cc in omega arith
  never_stuck g_done e = let z : ◌≡◌ {A = ℕ} 0 1 = cc in omega arith
  never_stuck g_room e = let z : ◌≡◌ {A = ℕ} 0 1 = cc in omega arith

  never_denied : {W : World} {o : Out} → Good S W o → o ≡ o_denied → ⊥
  never_denied (g_step j x) e = let z : ◌≡◌ {A = ℕ} 0 1 = cc in omega arith
  never_denied g_done e = let z : ◌≡◌ {A = ℕ} 0 1 = cc in omega arith
  never_denied g_room e = let z : ◌≡◌ {A = ℕ} 0 1 = cc in omega arith

  -- the thread that stepped, the others, and the one that was started
  all_ok : {p : Turn} {t : Thread} {m : Machine} → Asked may s p t → step (code_of S) (alone s t) ≡ o_step m → length (later p m).threads ≤ most_threads → SystemOk S (later p m)
  unfolding single
  all_ok {p} {t} {m} a e few =
      let j = single k p.at t a.there in
      let z = extended m (sound S (alone s t) j) e in
      record {
        pt = z.0.pt;
        ft = z.0.ft;
        ct = z.0.ct;
        keys = z.0.keys;
        few = z.0.few;
        store = z.0.store;
        threads = each_set (subst⁻¹ (λ l. Each (ThreadIn S (world_in S m z.0)) l) (threads_started (code_of S) (alone s t) m e)
            (each_append (each_map (λ u w. thread_ext z.1 w) k.threads) (each_map (λ u w. thread_ext z.1 w) (started_ok (started_is (code_of S) t.control t.env) j.thread))))
            p.at z.0.thread;
        most = few;
      }

  pub turn_good : TurnGood S may s (turn (steps_of (code_of S)) may s)
  turn_good = at (turn_is (steps_of (code_of S)) (lawful (code_of S)) may s) refl
    where
      fair_at : (t : Thread) → Fair (is_done (alone s t)) (lacks (needs (code_of S)) (alone s t)) (step (code_of S) (alone s t))
      fair_at t = fair (exact (code_of S)) (alone s t)

      at : {o : Took} → TurnIs (steps_of (code_of S)) may s o → turn (steps_of (code_of S)) may s ≡ o → TurnGood S may s o
      at (is_step_lem {t = t} {m = m} a e) z = tg_step a (has_room m (fair_at t) e) (all_ok a e (turn_few (steps_of (code_of S)) (lawful (code_of S)) may s k.most _ _ z))
      at (is_none e f) z = tg_none e
      at (is_room {t = t} a e) z = tg_room a (no_place (fair_at t) e)
      at (is_stuck {p = p} {t = t} a e) z = absurd (never_stuck (sound S (alone s t) (single k p.at t a.there)) e)
      at (is_denied {p = p} {t = t} a e) z = absurd (never_denied (sound S (alone s t) (single k p.at t a.there)) e)

-- an outcome that is neither stuck nor denied, against its conditions
safe_by : {d w x l : Bool} {o : Out} → Exact d w x l o → (o ≡ o_stuck → ⊥) → (o ≡ o_denied → ⊥) → (w ≡ false) × (x ≡ false)
safe_by ex_done f g = (refl, refl)
safe_by ex_stuck f g = absurd (f refl)
safe_by ex_denied f g = absurd (g refl)
safe_by ex_room f g = (refl, refl)
safe_by ex_step f g = (refl, refl)

-- every thread of a well-typed machine, whether or not its turn is next: no kind is wrong for its next step, no entry that it needs is missing, and no key that it touches is shut
pub thread_safe : (S : Src) (s : System) → SystemOk S s → (i : ℕ) (t : Thread) → get_elem? s.threads i ≡ some t
    → (wrong (needs (code_of S)) (alone s t) ≡ false) × (shut (needs (code_of S)) (alone s t) ≡ false)
thread_safe S s k i t e =
    let g = sound S (alone s t) (single k i t e) in
    safe_by ((exact (code_of S)).at (alone s t)) (never_stuck S (λ j. true) s k g) (never_denied S (λ j. true) s k g)

-- Room

-- of each thread by its number
pub roomy_at : {s : System} → Roomy s → (i : ℕ) (t : Thread) → get_elem? s.threads i ≡ some t → length t.frames ≤ most_frames
roomy_at r i t e = each_get r.frames i t e

module _ {T : Type 0} (code : ℕ → Cmd T) where
  -- a new thread has no frame
  started_low : {c : Control} {env : ℕ} {l : List Thread} → StartedIs code c env l → Each (λ t. length t.frames ≤ most_frames) l
  started_low (none_started f) = each_nil
  started_low {env = env} (one_started {b = b} c k) = each_cons {t = fresh b env} (omega arith) each_nil

  -- a turn keeps the machine within its room, with whatever jobs, typed or not
  pub turn_room : (may : ℕ → Bool) (s : System) (i : ℕ) (u : System) → turn (steps_of code) may s ≡ t_step i u → Roomy s → Roomy u
  turn_room may s i u z r = at (turn_is (steps_of code) (lawful code) may s) z
    where
      after : {p : Turn} {t : Thread} (m : Machine) → Asked may s p t → step code (alone s t) ≡ o_step m → Roomy (later p m)
      after {p} {t} m a e =
          let f = room_kept code (alone s t) m e (record {
            cells = r.cells;
            keys = r.keys;
            pairs = r.pairs;
            functions = r.functions;
            bindings = r.bindings;
            frames = roomy_at r p.at t a.there;
            threads = r.threads;
          }) in
          record {
            cells = f.cells;
            keys = f.keys;
            pairs = f.pairs;
            functions = f.functions;
            bindings = f.bindings;
            frames = each_set (subst⁻¹ (λ l. Each (λ (x : Thread). length x.frames ≤ most_frames) l) (threads_started code (alone s t) m e)
                (each_append r.frames (started_low (started_is code t.control t.env)))) p.at f.frames;
            threads = omega (arith, f.threads, length-set m.threads p.at m.thread);
          }

      at : {o : Took} → TurnIs (steps_of code) may s o → o ≡ t_step i u → Roomy u
      at (is_step_lem {p = p} {m = m} a e) z = let x : later p m ≡ u = cc in subst (λ v. Roomy v) x (after m a e)
      at (is_none e f) z = absurd (let y : ◌≡◌ {A = ℕ} 0 1 = cc in omega arith)
      at (is_room a e) z = absurd (let y : ◌≡◌ {A = ℕ} 0 1 = cc in omega arith)
      at (is_stuck a e) z = absurd (let y : ◌≡◌ {A = ℕ} 0 1 = cc in omega arith)
      at (is_denied a e) z = absurd (let y : ◌≡◌ {A = ℕ} 0 1 = cc in omega arith)

  -- and so do turns, one after another
  pub takes_room : {may : Policy} {c d l : List ℕ} {s t : System} → Takes (steps_of code) may c s l d t → Roomy s → Roomy t
  takes_room no_turn r = r
  takes_room {may} (first {c = c} {i = i} {s = s} {t = t} e h) r = takes_room h (turn_room (may c) s i t e r)
