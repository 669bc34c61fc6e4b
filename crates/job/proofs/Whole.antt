-- The whole of reading: cleared, filled, and cleared again on a refusal.
use mathlib.Core.Path.{◌≡◌, refl, sym, ap, ◌∙◌}
use Prim.Native.Nat.{ℕ}
use mathlib.Core.Bool.{Bool, true, false, cond, true≢false, false≢true}
use mathlib.Core.List.{List}
use lib.ListN.{length, replicate, length-replicate}
use Rattle.syntax.specs.Job.{Job}
use Rattle.syntax.specs.Words.{filled, name_words, type_words, set_words, value_words, head_words, slot_words}
use Rattle.syntax.specs.Reading.{Refusal, Read, refused, read, reading}
use Rattle.std.specs.Result.{is_err}
use Rattle.job.specs.Answer.{Answer, refused_by, answer_of, table_of, long_tables, after_of, ReadTo, Filled, Zeroed}

-- a table whose length is kept
cleared_length : (n n1 : List ℕ) → n1 ≡ replicate (length n) 0 → length n1 ≡ length n
cleared_length n n1 e = ap length e ∙ length-replicate (length n) 0

module _ {n t s v h p n1 t1 s1 v1 h1 p1 : List ℕ} (z : Zeroed n t s v h p n1 t1 s1 v1 h1 p1) {bytes : List ℕ} {a : Answer} {n2 t2 s2 v2 h2 p2 : List ℕ}
    (f : Filled bytes a n2 t2 s2 v2 h2 p2 (length n1) (length t1) (length s1) (length v1) (length h1) (length p1)) (l : long_tables n t s v h p ≡ true) where
  -- a job is read
  pub read_job : is_err a ≡ false → ReadTo bytes a n t s v h p n2 t2 s2 v2 h2 p2
  unfolding after_of table_of answer_of
  read_job good = at (reading bytes) refl
    where
      after : (words : Job → List ℕ) (J : Job) → reading bytes ≡ read J → (m m1 m2 : List ℕ) → m1 ≡ replicate (length m) 0 → m2 ≡ filled (length m1) 0 (words J) → m2 ≡ cond (long_tables n t s v h p) (table_of words (reading bytes) (length m)) m
      after words J e m m1 m2 q y =
          y ∙ ap (λ (k : ℕ). filled k 0 (words J)) (cleared_length m m1 q) ∙ sym (ap (λ (r : Read). table_of words r (length m)) e)
          ∙ sym (ap (λ (o : Bool). cond o (table_of words (reading bytes) (length m)) m) l)

      at : (r : Read) → reading bytes ≡ r → ReadTo bytes a n t s v h p n2 t2 s2 v2 h2 p2
      at (refused r) e = absurd (false≢true (sym good ∙ ap is_err f.answer ∙ ap (λ (x : Read). is_err (answer_of x)) e))
      at (read J) e =
          let y = f.tables J e in
          record {
            answer = f.answer ∙ sym (ap (λ (o : Bool). cond o (answer_of (reading bytes)) (refused_by 1 0)) l);
            names = after name_words J e n n1 n2 z.names y.names;
            types = after (λ K. type_words K.types) J e t t1 t2 z.types y.types;
            sets = after (λ K. set_words K.types) J e s s1 s2 z.sets y.sets;
            values = after value_words J e v v1 v2 z.values y.values;
            heads = after head_words J e h h1 h2 z.heads y.heads;
            slots = after slot_words J e p p1 p2 z.slots y.slots;
          }

  -- a refusal
  pub read_refused : {n3 t3 s3 v3 h3 p3 : List ℕ} → length n2 ≡ length n1 → length t2 ≡ length t1 → length s2 ≡ length s1 → length v2 ≡ length v1 → length h2 ≡ length h1 → length p2 ≡ length p1
      → Zeroed n2 t2 s2 v2 h2 p2 n3 t3 s3 v3 h3 p3 → is_err a ≡ true → ReadTo bytes a n t s v h p n3 t3 s3 v3 h3 p3
  unfolding after_of table_of answer_of
  read_refused {n3} {t3} {s3} {v3} {h3} {p3} ln lt ls lv lh lp w bad = at (reading bytes) refl
    where
      after : (words : Job → List ℕ) (r : Refusal) → reading bytes ≡ refused r → (m m1 m2 m3 : List ℕ) → m1 ≡ replicate (length m) 0 → length m2 ≡ length m1 → m3 ≡ replicate (length m2) 0
          → m3 ≡ cond (long_tables n t s v h p) (table_of words (reading bytes) (length m)) m
      after words r e m m1 m2 m3 q k y =
          y ∙ ap (λ (i : ℕ). replicate i 0) (k ∙ cleared_length m m1 q) ∙ sym (ap (λ (x : Read). table_of words x (length m)) e)
          ∙ sym (ap (λ (o : Bool). cond o (table_of words (reading bytes) (length m)) m) l)

      at : (r : Read) → reading bytes ≡ r → ReadTo bytes a n t s v h p n3 t3 s3 v3 h3 p3
      at (read J) e = absurd (true≢false (sym bad ∙ ap is_err f.answer ∙ ap (λ (x : Read). is_err (answer_of x)) e))
      at (refused r) e =
          record {
            answer = f.answer ∙ sym (ap (λ (o : Bool). cond o (answer_of (reading bytes)) (refused_by 1 0)) l);
            names = after name_words r e n n1 n2 n3 z.names ln w.names;
            types = after (λ K. type_words K.types) r e t t1 t2 t3 z.types lt w.types;
            sets = after (λ K. set_words K.types) r e s s1 s2 s3 z.sets ls w.sets;
            values = after value_words r e v v1 v2 v3 z.values lv w.values;
            heads = after head_words r e h h1 h2 h3 z.heads lh w.heads;
            slots = after slot_words r e p p1 p2 p3 z.slots lp w.slots;
          }

-- a table is too short: nothing is written
pub read_none : {bytes n t s v h p : List ℕ} → long_tables n t s v h p ≡ false → ReadTo bytes (refused_by 1 0) n t s v h p n t s v h p
unfolding after_of
read_none {bytes} {n} {t} {s} {v} {h} {p} l =
    record {
      answer = sym (ap (λ (o : Bool). cond o (answer_of (reading bytes)) (refused_by 1 0)) l);
      names = sym (ap (λ (o : Bool). cond o (table_of name_words (reading bytes) (length n)) n) l);
      types = sym (ap (λ (o : Bool). cond o (table_of (λ K. type_words K.types) (reading bytes) (length t)) t) l);
      sets = sym (ap (λ (o : Bool). cond o (table_of (λ K. set_words K.types) (reading bytes) (length s)) s) l);
      values = sym (ap (λ (o : Bool). cond o (table_of value_words (reading bytes) (length v)) v) l);
      heads = sym (ap (λ (o : Bool). cond o (table_of head_words (reading bytes) (length h)) h) l);
      slots = sym (ap (λ (o : Bool). cond o (table_of slot_words (reading bytes) (length p)) p) l);
    }
