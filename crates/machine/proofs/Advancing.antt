-- What the answer of the thread that was asked last makes of turns that were known ahead, and turns one after another.
use mathlib.Core.Path.{◌≡◌, refl, sym, ap, ap₂, ◌∙◌, subst, subst⁻¹}
use Prim.Native.Nat.{ℕ, zero, suc, ◌+◌, ◌*◌, ◌/◌, ◌%◌, ◌≤◌, ◌<◌}
use native.Mathlib.Omega.{arith}
use mathlib.Core.Bool.{Bool, true, false, cond, false≢true}
use mathlib.Core.List.{List, [], ◌∷◌}
use mathlib.Core.Option.{some}
use lib.Dec.{eqb, ltb}
use lib.ListN.{length, get_or, set}
use borrow.Author.Tests.{eqb-true, ltb-true, ltb-false}
use types.Run.{OneOf, miss}
use denote.Enum.Declared.{tag_of}
use Rattle.order.proofs.Bools.{and_l, and_r, and2}
use Rattle.syntax.specs.Commands.{Cmd, c_spawn, form, row}
use Rattle.syntax.specs.Operands.{plain}
use Rattle.syntax.proofs.DecodeLaws.{decode_cases}
use Rattle.syntax.specs.Words.{code_in}
use Rattle.semantics.specs.Machine.{most_threads}
use Rattle.semantics.proofs.SpawnLaws.{is_spawn}
use Rattle.semantics.specs.Threads.{steps_of}
use Rattle.semantics.specs.Calls.{total}
use Rattle.store.specs.declared.Used.{Used}
use Rattle.store.specs.Frames.{threads_words}
use Rattle.acts.specs.declared.Answer.{Answer}
use Rattle.acts.specs.declared.Answer.TheVariants as answers
use Rattle.acts.specs.declared.Answer.TheVariants.{Taken, Finished, NoRoom}
use Rattle.acts.specs.contracts.Answer.{the_type as answer_type}
use Rattle.acts.specs.Meaning.{s_taken, s_finished, s_starts, answer_in}
use Rattle.acts.specs.View.{Tables}
use Rattle.acts.specs.Inner.{put_frames}
use Rattle.machine.specs.declared.Scheduler.{Scheduler}
use Rattle.machine.specs.declared.Turned.{Turned}
use Rattle.machine.specs.declared.Rounds.{Rounds}
use Rattle.std.specs.Prelude as std
use Rattle.std.specs.Prelude.{Some, None}
use Rattle.machine.specs.declared.Turn as declared
use Rattle.machine.specs.Turns.{has_left, less, turns_of}
use Rattle.machine.specs.Ahead.{next_in, at_of, Held, MarksLeft, Least, with_marks, RoundsFrom, Refused, rounded_by, Ended, all_taken, one_refused, Rounded, without, onward, is_onward, joined, Begun, Few, Leads, to_do, Advanced}
use Rattle.machine.specs.OneTurn.{less_total, less_few, turns_none}
use Rattle.machine.specs.Scheduled.{system_in, marked, whose_in, Started}
use Rattle.machine.proofs.Lefts.{total_few}
use Rattle.machine.proofs.Picked.{nobody_asked, marked_at, among, small, someone}
use Rattle.machine.proofs.Moves.{answer_no_lem, held_without, fails, passes, not_live, held_stayed, full, starts, held_started}

-- Answers by their tags

is_finished : (a : Answer) → OneOf (1 ∷ []) (tag_of answer_type a) → a ≡ Finished
is_finished answers.Taken t = absurd (miss (1 ∷ []) 0 tt t)
is_finished answers.Finished t = refl
is_finished answers.NoRoom t = absurd (miss (1 ∷ []) 2 tt t)
is_finished answers.Stuck t = absurd (miss (1 ∷ []) 3 tt t)
is_finished answers.Denied t = absurd (miss (1 ∷ []) 4 tt t)
is_finished answers.Starts t = absurd (miss (1 ∷ []) 5 tt t)

is_starting : (a : Answer) → OneOf (5 ∷ []) (tag_of answer_type a) → answer_in a ≡ s_starts
is_starting answers.Taken t = absurd (miss (5 ∷ []) 0 tt t)
is_starting answers.Finished t = absurd (miss (5 ∷ []) 1 tt t)
is_starting answers.NoRoom t = absurd (miss (5 ∷ []) 2 tt t)
is_starting answers.Stuck t = absurd (miss (5 ∷ []) 3 tt t)
is_starting answers.Denied t = absurd (miss (5 ∷ []) 4 tt t)
is_starting answers.Starts t = refl

starts_not_taken : (a : Answer) → OneOf (5 ∷ []) (tag_of answer_type a) → a ≡ Taken → ⊥
starts_not_taken a t e = miss (5 ∷ []) 0 tt (subst (λ (b : Answer). OneOf (5 ∷ []) (tag_of answer_type b)) e t)

fails_not_finished : (a : Answer) → OneOf (0 ∷ 2 ∷ 3 ∷ 4 ∷ []) (tag_of answer_type a) → a ≡ Finished → ⊥
fails_not_finished a t e = miss (0 ∷ 2 ∷ 3 ∷ 4 ∷ []) 1 tt (subst (λ (b : Answer). OneOf (0 ∷ 2 ∷ 3 ∷ 4 ∷ []) (tag_of answer_type b)) e t)

finished_not_taken : Finished ≡ Taken → ⊥
unfolding answer_no_lem
finished_not_taken q = let y : ◌≡◌ {A = ℕ} 1 0 = ap (λ (a : Answer). answer_no_lem (answer_in a)) q in omega (arith, y)

-- an answer stands for one answer of a step
of_finished : (a : Answer) → answer_in a ≡ s_finished → a ≡ Finished
unfolding answer_no_lem
of_finished answers.Taken e = let y : ◌≡◌ {A = ℕ} 0 1 = ap answer_no_lem e in absurd (omega (arith, y))
of_finished answers.Finished e = refl
of_finished answers.NoRoom e = let y : ◌≡◌ {A = ℕ} 2 1 = ap answer_no_lem e in absurd (omega (arith, y))
of_finished answers.Stuck e = let y : ◌≡◌ {A = ℕ} 3 1 = ap answer_no_lem e in absurd (omega (arith, y))
of_finished answers.Denied e = let y : ◌≡◌ {A = ℕ} 4 1 = ap answer_no_lem e in absurd (omega (arith, y))
of_finished answers.Starts e = let y : ◌≡◌ {A = ℕ} 5 1 = ap answer_no_lem e in absurd (omega (arith, y))

of_taken : (a : Answer) → answer_in a ≡ s_taken → a ≡ Taken
unfolding answer_no_lem
of_taken answers.Taken e = refl
of_taken answers.Finished e = let y : ◌≡◌ {A = ℕ} 1 0 = ap answer_no_lem e in absurd (omega (arith, y))
of_taken answers.NoRoom e = let y : ◌≡◌ {A = ℕ} 2 0 = ap answer_no_lem e in absurd (omega (arith, y))
of_taken answers.Stuck e = let y : ◌≡◌ {A = ℕ} 3 0 = ap answer_no_lem e in absurd (omega (arith, y))
of_taken answers.Denied e = let y : ◌≡◌ {A = ℕ} 4 0 = ap answer_no_lem e in absurd (omega (arith, y))
of_taken answers.Starts e = let y : ◌≡◌ {A = ℕ} 5 0 = ap answer_no_lem e in absurd (omega (arith, y))

fails_not_starting : (a : Answer) → OneOf (0 ∷ 2 ∷ 3 ∷ 4 ∷ []) (tag_of answer_type a) → answer_in a ≡ s_starts → ⊥
unfolding answer_no_lem
fails_not_starting answers.Taken t e = let y : ◌≡◌ {A = ℕ} 0 5 = ap answer_no_lem e in omega (arith, y)
fails_not_starting answers.Finished t e = let y : ◌≡◌ {A = ℕ} 1 5 = ap answer_no_lem e in omega (arith, y)
fails_not_starting answers.NoRoom t e = let y : ◌≡◌ {A = ℕ} 2 5 = ap answer_no_lem e in omega (arith, y)
fails_not_starting answers.Stuck t e = let y : ◌≡◌ {A = ℕ} 3 5 = ap answer_no_lem e in omega (arith, y)
fails_not_starting answers.Denied t e = let y : ◌≡◌ {A = ℕ} 4 5 = ap answer_no_lem e in omega (arith, y)
fails_not_starting answers.Starts t e = miss (0 ∷ 2 ∷ 3 ∷ 4 ∷ []) 5 tt t

-- The body of a 0x42, in its first place

spawn_body : (heads slots : List ℕ) (e b : ℕ) → code_in heads slots e ≡ c_spawn b → get_or slots (e * 5) 0 ≡ b
unfolding code_in is_spawn form row plain
spawn_body heads slots e b = decode_cases (λ k. k ≡ c_spawn b → get_or slots (e * 5) 0 ≡ b) (get_or heads e 0 % 256) (get_or heads e 0 / 256 % 4294967296)
    (get_or slots (e * 5) 0) (get_or slots (e * 5 + 1) 0) (get_or slots (e * 5 + 2) 0) (get_or slots (e * 5 + 3) 0) (get_or slots (e * 5 + 4) 0)
    (λ h. no _ refl) (λ h. no _ refl) (λ h. no _ refl) (λ h. no _ refl) (λ h. no _ refl) (λ h. no _ refl) (λ h. no _ refl) (λ h. no _ refl) (λ h. no _ refl) (λ h. no _ refl)
    (λ h. no _ refl) (λ h. no _ refl) (λ h. no _ refl) (λ h. no _ refl) (λ h. no _ refl) (λ h. no _ refl) (λ h. no _ refl) (λ h q. ap (λ (k : Cmd ℕ). get_or (plain k) 0 0) q) (no _ refl)
  where
    no : (k : Cmd ℕ) → is_spawn k ≡ false → k ≡ c_spawn b → get_or slots (e * 5) 0 ≡ b
    no k f q = absurd (false≢true (sym f ∙ ap is_spawn q))

-- Marks

pub total_set : (l : List ℕ) (i x : ℕ) → i < length l → total (set l i x) + get_or l i 0 ≡ total l + x
unfolding total
total_set [] i x h = absurd (omega arith)
total_set (a ∷ l) zero x h = omega arith
total_set (a ∷ l) (suc i) x h = let z = total_set l i x (omega arith) in omega (arith, z)

marked_one : (l : List ℕ) (i : ℕ) → marked l i ≡ true → get_or l i 0 ≡ 1
unfolding marked
marked_one l i h = eqb-true (get_or l i 0) 1 h

-- The words of a scheduler

pub few_here : {c : Scheduler} {w : Tables} → Held c w → (rest : List ℕ) → ((j : ℕ) → get_or c.rest j 0 ≤ get_or rest j 0) → (i : ℕ) → i < most_threads → (a : Answer)
    → Few rest (record { scheduler = c; thread = i; answer = a })
few_here h rest l i k a = record { count = h.count; round = h.round; from = h.from; thread = k; left = l }

-- A thread that enters a 0x42

pub begun_full : (c : Scheduler) (i r : ℕ) (slots a : List ℕ) → most_threads ≤ c.count → Begun c i r slots a (record { scheduler = c; thread = i; answer = NoRoom }) a
begun_full c i r slots a h = record { full = λ l. (refl, refl); placed = λ l. absurd (omega (arith, h, l)); long = refl }

pub begun_placed : (c : Scheduler) (i r : ℕ) (slots a b : List ℕ) → c.count < most_threads → Started a b i c.count slots → length b ≡ length a → Begun c i r slots a (onward (joined c i r)) b
begun_placed c i r slots a b h s e = record { full = λ l. absurd (omega (arith, h, l)); placed = λ l. (refl, s); long = e }

-- Marks of those that have a step left

pub held_left : (c : Scheduler) (w : Tables) (lv : List ℕ) → Held c w → MarksLeft c.live c.rest lv → Held (with_marks c lv) w
unfolding marked has_left
held_left c w lv h m = record {
  count = h.count;
  round = h.round;
  from = h.from;
  marks = λ j a b. m.each j ∙ and2 _ _ (h.marks j a b) b;
  below = λ j a. h.below j (and_l _ _ (sym (m.each j) ∙ a));
  live_long = m.long;
  rest_long = h.rest_long;
}

-- nobody is left
pub nobody_left : (heads slots : List ℕ) (c : Scheduler) (w : Tables) (lv : List ℕ) → length w.frames ≡ threads_words → Held c w → MarksLeft c.live c.rest lv
    → (o : std.Option declared.Turn) → whose_in o ≡ next_in lv c.from c.round c.count → o ≡ None → Advanced (code_in heads slots) c w (record { scheduler = c; thread = 0; answer = Finished }) w
nobody_left heads slots c w lv long h m o e t = record {
  leads = record {
    long = long;
    few = few_here h c.rest (λ j. omega arith) 0 (omega arith) Finished;
    on = λ q. absurd (finished_not_taken q);
    over = λ n. sym (turns_none (steps_of (code_in heads slots)) c.rest (nobody_asked (with_marks c lv) w (held_left c w lv h m) (sym e ∙ ap whose_in t)));
  };
  falls = λ q. absurd (finished_not_taken q);
}

-- Turns that are known ahead

module _ (c : Scheduler) (w : Tables) (h : Held c w) (lv : List ℕ) (m : MarksLeft c.live c.rest lv) (o : std.Option declared.Turn) (i r : ℕ)
    (e : whose_in o ≡ next_in lv c.from c.round c.count) (g : o ≡ Some (record { at = i; round = r })) where
  abbrev c₀ : Scheduler
  c₀ = with_marks c lv

  h₀ : Held c₀ w
  h₀ = held_left c w lv h m

  first_turn : next_in lv c.from c.round c.count ≡ some (record { at = i; round = r })
  first_turn = sym e ∙ ap whose_in g

  pub first_few : i < most_threads
  first_few = small c₀ w h₀ i r first_turn

  first_marked : marked lv i ≡ true
  first_marked = marked_at c₀ w h₀ i r first_turn

  -- each that is marked has a step left
  marked_left : (j : ℕ) → marked lv j ≡ true → 0 < get_or c.rest j 0
  unfolding marked has_left
  marked_left j a = ltb-true 0 (get_or c.rest j 0) (and_r _ _ (sym (m.each j) ∙ a))

  module _ (known : List ℕ) (k : (f : ℕ) → f ≤ most_threads → get_or known f 0 ≡ at_of (next_in lv f c.count c.count))
      (q n : ℕ) (b : Least lv c.rest (get_or c.rest i 0) q) (hn : n ≡ cond (eqb r c.count) q 1) where
    some_least : 0 < q
    some_least = b.some (marked_left i first_marked) marked_left

    least_some : n ≤ q
    least_some = at (eqb r c.count) hn
      where
        at : (z : Bool) → n ≡ cond z q 1 → n ≤ q
        at true z = omega (arith, z)
        at false z = omega (arith, z, some_least)

    pub quota_some : 0 < n
    quota_some = at (eqb r c.count) hn
      where
        at : (z : Bool) → n ≡ cond z q 1 → 0 < n
        at true z = omega (arith, z, some_least)
        at false z = omega (arith, z)

    all_in : 1 < n → r ≡ c.count
    all_in a = at (eqb r c.count) refl hn
      where
        at : (y : Bool) → eqb r c.count ≡ y → n ≡ cond y q 1 → r ≡ c.count
        at true y z = eqb-true r c.count y
        at false y z = absurd (omega (arith, z, a))

    next_known : (f : ℕ) → f ≤ most_threads → next_in lv f c.count c.count ≡ some (record { at = get_or known f 0; round = c.count })
    next_known f a = someone c₀ w h₀ i first_marked f ∙ ap (λ (j : ℕ). some (record { at = j; round = c.count })) (sym (k f a))

    -- the scheduler where all threads are in the round and those before f had their turn
    abbrev turned_to : ℕ → Scheduler
    turned_to f = record { live = lv; rest = c.rest; count = c.count; round = c.count; from = f; used = c.used }

    held_there : (f : ℕ) → f ≤ most_threads → Held (turned_to f) w
    held_there f a = record { count = h₀.count; round = h₀.count; from = omega (arith, a); marks = h₀.marks; below = h₀.below; live_long = h₀.live_long; rest_long = h₀.rest_long }

    pub first_enough : n ≤ get_or c.rest i 0
    first_enough = omega (arith, least_some, b.within)

    pub known_enough : (f : ℕ) → f ≤ most_threads → 1 < n → (get_or known f 0 < most_threads) × (n ≤ get_or c.rest (get_or known f 0) 0)
    known_enough f a _ =
        let y = next_known f a in
        let s = small (turned_to f) w (held_there f a) (get_or known f 0) c.count y in
        let z = b.each (get_or known f 0) s (marked_at (turned_to f) w (held_there f a) (get_or known f 0) c.count y) in
        (s, omega (arith, z, least_some))

    pub rounds_from : RoundsFrom lv c.count c.round c.from r n known i c.rest c.used w
    rounds_from = record {
      held = h₀;
      first_turn = first_turn;
      all_known = λ a f z. subst⁻¹ (λ (j : ℕ). next_in lv f j c.count ≡ some (record { at = get_or known f 0; round = j })) (all_in a) (next_known f z);
    }

-- What the last answer makes of them

module _ (heads slots : List ℕ) {c : Scheduler} {v : Tables} {lv : List ℕ} {r n : ℕ} {res : Rounds} {rest : List ℕ} {x : Tables} (h : Held c v) (m : MarksLeft c.live c.rest lv)
    (some : 0 < n) (b : Rounded (code_in heads slots) (with_marks c lv) v r n res rest x) where
  abbrev code : ℕ → Cmd ℕ
  code = code_in heads slots

  abbrev c₁ : Scheduler
  c₁ = rounded_by (with_marks c lv) r n res.left res.last rest b.used

  abbrev d : Scheduler
  d = rounded_by (with_marks c lv) r n res.left res.last rest res.used

  abbrev i : ℕ
  i = res.at

  long_after : length x.frames ≡ threads_words
  long_after = at b.ended
    where
      at : Ended code c₁ b.w r res x → length x.frames ≡ threads_words
      at (all_taken a l u z) = ap (λ (y : Tables). length y.frames) z ∙ b.room
      at (one_refused z) = z.long

  -- a thread that was asked and took no step

  refused_of : (res.answer ≡ Taken → ⊥) → Refused code c₁ b.w i r res.used res.answer x
  refused_of n = at b.ended
    where
      at : Ended code c₁ b.w r res x → Refused code c₁ b.w i r res.used res.answer x
      at (all_taken a l u z) = absurd (n a)
      at (one_refused z) = z

  -- the scheduler's words are those before it
  few_after : (a : Answer) → Few c.rest (record { scheduler = d; thread = i; answer = a })
  few_after a = record { count = b.held.count; round = b.held.round; from = b.held.from; thread = b.at; left = b.few }

  -- no more is to be done than before these turns
  no_more : total rest ≤ total c.rest
  no_more = total_few rest c.rest long_rest b.few
    where
      long_rest : length rest ≡ length c.rest
      long_rest = b.held.rest_long ∙ sym h.rest_long

  -- it is finished
  passed_one : OneOf (1 ∷ []) (tag_of answer_type res.answer) → Advanced code c v (onward (without d i)) x
  unfolding to_do
  passed_one t =
      let f = is_finished res.answer t in
      let z = refused_of (λ q. finished_not_taken (sym f ∙ q)) in
      let y = ap answer_in f in
      let stays = held_stayed code c₁ b.w b.held i r z.is z.left res.used (answer_in res.answer) x z.its z.others y in
      let held = held_without d x stays i (λ a _. false≢true (sym (not_live code c₁ b.w b.held i r z.is z.left res.used (answer_in res.answer) x z.its z.others y) ∙ a)) in
      let cleared = total_set lv i 0 (omega (arith, b.at, m.long)) in
      let one = marked_one lv i (marked_at c₁ b.w b.held i r z.is) in
      record {
        leads = record {
          long = long_after;
          few = few_here held c.rest b.few 0 (omega arith) Taken;
          on = λ _. record {
            held = held;
            turns = b.turns ∙ ap (turns_of (steps_of code) rest) (sym (passes code c₁ b.w b.held i r z.is z.left res.used (answer_in res.answer) x z.its z.others y));
          };
          over = λ n. absurd (n refl);
        };
        falls = λ _. omega (arith, cleared, one, no_more, m.fewer);
      }

  -- all turns are taken, or it fails
  others : OneOf (0 ∷ 2 ∷ 3 ∷ 4 ∷ []) (tag_of answer_type res.answer) → Advanced code c v (record { scheduler = d; thread = i; answer = res.answer }) x
  unfolding to_do
  others t = at b.ended
    where
      at : Ended code c₁ b.w r res x → Advanced code c v (record { scheduler = d; thread = i; answer = res.answer }) x
      at (all_taken a k u z) = record {
        leads = record {
          long = long_after;
          few = few_after res.answer;
          on = λ _. record {
            held = subst⁻¹ (λ (q : Used). Held (rounded_by (with_marks c lv) r n res.left res.last rest q) x) u (subst⁻¹ (λ (y : Tables). Held c₁ y) z b.held);
            turns = b.turns ∙ ap (turns_of (steps_of code) rest) (sym (ap₂ (λ (q : Used) (y : Tables). system_in (rounded_by (with_marks c lv) r n res.left res.last rest q) y) u z));
          };
          over = λ q. absurd (q a);
        };
        falls = λ _. omega (arith, b.sum, k, some, m.fewer);
      }
      at (one_refused z) = record {
        leads = record {
          long = long_after;
          few = few_after res.answer;
          on = λ q. absurd (z.not_taken q);
          over = λ _.
              sym
              (b.turns
              ∙ fails code c₁ b.w b.held i r z.is z.left res.used (answer_in res.answer) x z.its z.others (λ q. z.not_taken (of_taken res.answer q))
              (λ q. fails_not_finished res.answer t (of_finished res.answer q)) (fails_not_starting res.answer t));
        };
        falls = λ q. absurd (z.not_taken q);
      }

  -- it enters a 0x42
  module _ (t : OneOf (5 ∷ []) (tag_of answer_type res.answer)) where
    z : Refused code c₁ b.w i r res.used res.answer x
    z = refused_of (starts_not_taken res.answer t)

    at_among : i < c.count
    at_among = among c₁ b.w b.held i r z.is

    some_left : 0 < get_or rest i 0
    unfolding has_left
    some_left = ltb-true 0 (get_or rest i 0) z.left

    -- no place for one more
    after_full : most_threads ≤ c.count → Advanced code c v (record { scheduler = d; thread = i; answer = NoRoom }) x
    unfolding answer_no_lem
    after_full l = record {
      leads = record {
        long = long_after;
        few = few_after NoRoom;
        on = λ q. absurd (no q);
        over = λ _.
            sym
            (b.turns ∙ full code c₁ b.w b.held i r z.is z.left res.used (answer_in res.answer) x z.its z.others (is_starting res.answer t) l);
      };
      falls = λ q. absurd (no q);
    }
      where
        no : NoRoom ≡ Taken → ⊥
        no q = let y : ◌≡◌ {A = ℕ} 2 0 = ap (λ (a : Answer). answer_no_lem (answer_in a)) q in omega (arith, y)

    -- it starts
    module _ (k : c.count < most_threads) (y : List ℕ) (st : Started x.frames y i c.count slots) (long : length y ≡ threads_words) where
      held_joined : Held (joined d i r) (put_frames x y)
      held_joined =
          held_started code c₁ b.w b.held i r z.is z.left res.used (answer_in res.answer) x z.its z.others (is_starting res.answer t) k slots (λ m q e. spawn_body heads slots q m e) y st

      started_turns : turns_of (steps_of code) rest (system_in c₁ b.w) ≡ turns_of (steps_of code) (less i rest) (system_in (joined d i r) (put_frames x y))
      started_turns =
          starts code c₁ b.w b.held i r z.is z.left res.used (answer_in res.answer) x z.its z.others (is_starting res.answer t) k slots (λ m q e. spawn_body heads slots q m e) y st

      after_started : Advanced code c v (onward (joined d i r)) (put_frames x y)
      unfolding to_do
      after_started =
          let q = total_set lv c.count 1 (omega (arith, k, m.long)) in
          let s = less_total i rest z.left in
          record {
            leads = record {
              long = long;
              few = few_here held_joined c.rest (λ j. let u = less_few i j rest in omega (arith, u, b.few j)) 0 (omega arith) Taken;
              on = λ _. record { held = held_joined; turns = b.turns ∙ started_turns };
              over = λ n. absurd (n refl);
            };
            falls = λ _. omega (arith, q, s, no_more, m.fewer);
          }

    begun_by : (t : Turned) (y : List ℕ) → Begun d i r slots x.frames t y → Advanced code c v t (put_frames x y)
    begun_by t y s = at (ltb c.count most_threads) refl
      where
        at : (q : Bool) → ltb c.count most_threads ≡ q → Advanced code c v t (put_frames x y)
        at true q =
            let l = ltb-true c.count most_threads q in
            let p = s.placed l in
            subst⁻¹ (λ (m : Turned). Advanced code c v m (put_frames x y)) p.0 (after_started l y p.1 (s.long ∙ long_after))
        at false q =
            let l = ltb-false c.count most_threads q in
            let p = s.full l in
            subst⁻¹ (λ (m : Turned). Advanced code c v m (put_frames x y)) p.0 (subst⁻¹ (λ (m : List ℕ). Advanced code c v (record { scheduler = d; thread = i; answer = NoRoom }) (put_frames x m)) p.1 (after_full l))

  -- the same of the scheduler that is made of them
  module _ (s : Scheduler) (is : s ≡ d) where
    pub after_passed : OneOf (1 ∷ []) (tag_of answer_type res.answer) → (z : Turned) → z ≡ onward (without s i) → Advanced code c v z x
    after_passed t z q = subst⁻¹ (λ (y : Turned). Advanced code c v y x) (q ∙ ap (λ (y : Scheduler). onward (without y i)) is) (passed_one t)

    pub after_others : OneOf (0 ∷ 2 ∷ 3 ∷ 4 ∷ []) (tag_of answer_type res.answer) → Advanced code c v (record { scheduler = s; thread = i; answer = res.answer }) x
    after_others t = subst⁻¹ (λ (y : Scheduler). Advanced code c v (record { scheduler = y; thread = i; answer = res.answer }) x) is (others t)

    pub begin_asks : OneOf (5 ∷ []) (tag_of answer_type res.answer) → (i < s.count) × (s.count ≤ most_threads) × (0 < get_or s.rest i 0) × (length x.frames ≡ threads_words)
    begin_asks t = subst⁻¹ (λ (y : Scheduler). (i < y.count) × (y.count ≤ most_threads) × (0 < get_or y.rest i 0) × (length x.frames ≡ threads_words)) is (at_among t, h.count, some_left t, long_after)

    pub after_begun : OneOf (5 ∷ []) (tag_of answer_type res.answer) → (z : Turned) (y : List ℕ) → Begun s i r slots x.frames z y → Advanced code c v z (put_frames x y)
    after_begun t z y q = begun_by t z y (subst (λ (k : Scheduler). Begun k i r slots x.frames z y) is q)

-- Turns one after another

-- before the first
pub leads_first : (heads slots : List ℕ) (c : Scheduler) (w : Tables) → length w.frames ≡ threads_words → Held c w → Leads (code_in heads slots) c w (onward c) w
leads_first heads slots c w long h = record {
  long = long;
  few = few_here h c.rest (λ j. omega arith) 0 (omega arith) Taken;
  on = λ _. record { held = h; turns = refl };
  over = λ n. absurd (n refl);
}

is_onward_lem : (a : Answer) → is_onward a ≡ true → a ≡ Taken
unfolding is_onward
is_onward_lem answers.Taken e = refl
is_onward_lem answers.Finished e = absurd (false≢true e)
is_onward_lem answers.NoRoom e = absurd (false≢true e)
is_onward_lem answers.Stuck e = absurd (false≢true e)
is_onward_lem answers.Denied e = absurd (false≢true e)
is_onward_lem answers.Starts e = absurd (false≢true e)

-- what is to be done, and one for the end
unfoldable pub measure : Turned → ℕ
measure t = cond (is_onward t.answer) (suc (to_do t.scheduler)) 0

module _ (heads slots : List ℕ) {c : Scheduler} {v : Tables} {t : Turned} {x : Tables} (g : Leads (code_in heads slots) c v t x) (e : t.answer ≡ Taken) where
  pub held_now : Held t.scheduler x
  held_now = (g.on e).held

  -- some more
  module _ {u : Turned} {y : Tables} (s : Advanced (code_in heads slots) t.scheduler x u y) where
    pub goes_on : Leads (code_in heads slots) c v u y
    goes_on = record {
      long = s.leads.long;
      few = record {
        count = s.leads.few.count;
        round = s.leads.few.round;
        from = s.leads.few.from;
        thread = s.leads.few.thread;
        left = λ j. let z = s.leads.few.left j in omega (arith, z, g.few.left j);
      };
      on = λ q. let z = s.leads.on q in record { held = z.held; turns = (g.on e).turns ∙ z.turns };
      over = λ n. s.leads.over n ∙ sym (g.on e).turns;
    }

    pub measure_falls : measure u < measure t
    unfolding measure is_onward
    measure_falls = subst⁻¹ (λ (b : Bool). cond (is_onward u.answer) (suc (to_do u.scheduler)) 0 < cond b (suc (to_do t.scheduler)) 0) (ap is_onward e) (at (is_onward u.answer) refl)
      where
        at : (b : Bool) → is_onward u.answer ≡ b → cond b (suc (to_do u.scheduler)) 0 < suc (to_do t.scheduler)
        at true q = let z = s.falls (is_onward_lem u.answer q) in omega (arith, z)
        at false q = omega arith
