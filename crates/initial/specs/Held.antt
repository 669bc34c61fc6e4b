-- Words that hold a job: its start is the one that they give, and tables filled with a job's words, and 0 after them, hold the job.
use Rattle.std.specs.Prelude.{ℕ, suc, ◌+◌, ◌*◌, ◌/◌, ◌%◌, ◌<◌, ◌≤◌, ◌≡◌, refl, Bool, true, cond, List, [], ◌∷◌, map, take}
use Rattle.std.proofs.Math.Path.{ap, ap₂, sym}
use Rattle.std.proofs.Common.{◌∙◌, arith, length-take}
use Rattle.std.proofs.lemmas.Bool.{false≢true}
use Rattle.std.proofs.Math.Option.{Option, none, some}
use borrow.Author.Tests.{ltb-true, eqb-true, lt-ltb, le-leb}
use Rattle.std.proofs.Math.ListN.{length, get_or, get_elem?}
use Rattle.std.proofs.lemmas.List.{length-map, length-replicate}
use Rattle.order.specs.Bools.{◌and◌}
use Rattle.order.proofs.Bools.{and_l, and_r}
use Rattle.order.proofs.OrderLaws.{get_elem?_lt}
use Rattle.order.specs.Sets.{set_of}
use Rattle.order.specs.Effects as effects
use Rattle.syntax.specs.Types.{Ty, num, pair, cell, fn, lim, grant, TypeEntry, e_num, e_pair, e_cell, e_fn, e_lim, e_grant, entry_tree, tree_in, tree, by_type, on_num, on_cell, on_grant, on_lim}
use Rattle.syntax.specs.Commands.{c_top, map_cmd}
use Rattle.syntax.specs.Job.{Name, HostValue, Job, Src, value_of, source_of}
use Rattle.syntax.specs.Tree.{root, predecessor}
use Rattle.syntax.specs.Words.{name_word, type_word, value_word, name_words, type_words, value_words, filled}
use Rattle.syntax.specs.Reading.{declared, parts_ok, type_ok, unkeyed_number, host_type_ok, host_value_ok}
use Rattle.syntax.specs.ReadLaws.{JobOk}
use Rattle.syntax.proofs.ReadLaws.{built_at}
use Rattle.syntax.proofs.ReadFormed.{upper_ok, entry_parts}
use Rattle.syntax.specs.WordLaws.{JobFits}
use Rattle.syntax.proofs.WordLaws.{value_back, filled_at, map_at, word_at}
use Rattle.semantics.specs.Machine.{enter, System}
use Rattle.semantics.specs.Start.{first_thread, first_store, start_of, named, key_named, valued, add_names, add_values}
use Rattle.names.specs.Ancestors.{names_in}
use Rattle.names.proofs.Tables.{names_held}
use Rattle.initial.specs.Entries.{head_of, host_of, values_from}
use Rattle.initial.specs.Empty.{no_job}
use Rattle.initial.specs.Begun.{word_source, is_job, source_in}

-- the words are those of J; a host value's number is one of four bytes
pub record Holds (J : Job) (names : List ℕ) (nnames : ℕ) (types values : List ℕ) (nvalues rights : ℕ) : Type 0 where
  pub all_names : nnames ≡ length J.names
  pub all_values : nvalues ≡ length J.values
  pub its_rights : effects.of_word rights ≡ J.rights
  pub name : (i : ℕ) (d : Name) → get_elem? J.names i ≡ some d → get_or names (2 + i) 0 ≡ name_word d
  pub type : (i : ℕ) (e : TypeEntry) → get_elem? J.types i ≡ some e → get_or types i 0 ≡ type_word e
  pub value : (i : ℕ) (h : HostValue ℕ) → get_elem? J.values i ≡ some h → get_or values i 0 ≡ value_word h
  pub number : (i : ℕ) (h : HostValue ℕ) → get_elem? J.values i ≡ some h → h.init < 4294967296

-- the words of types
module _ (q a : ℕ) (hq : q < 256) (ha : a < 256) where
  byte : (b : ℕ) → b < 256 → (b + 256 * q + 65536 * a + 4294967296 * 0) % 256 ≡ b
  byte b h = omega arith

  first : (b : ℕ) → b < 256 → (b + 256 * q + 65536 * a + 4294967296 * 0) / 256 % 256 ≡ q
  first b h = let e : (b + 256 * q + 65536 * a + 4294967296 * 0) / 256 ≡ q + 256 * a = omega arith in rw e (omega arith)

  second : (b : ℕ) → b < 256 → (b + 256 * q + 65536 * a + 4294967296 * 0) / 65536 % 256 ≡ a
  second b h = let e : (b + 256 * q + 65536 * a + 4294967296 * 0) / 65536 ≡ a = omega arith in rw e (omega arith)

  head_cell : head_of (type_word (e_cell q a)) ≡ cell q (num 0)
  unfolding head_of type_word
  head_cell = simp (byte 0x12 (omega arith), first 0x12 (omega arith))

  head_lim : head_of (type_word (e_lim q a)) ≡ lim q a
  unfolding head_of type_word
  head_lim = simp (byte 0x14 (omega arith), first 0x14 (omega arith), second 0x14 (omega arith))

  head_grant : head_of (type_word (e_grant q a)) ≡ grant q a
  unfolding head_of type_word
  head_grant = simp (byte 0x15 (omega arith), first 0x15 (omega arith), second 0x15 (omega arith))

unkeyed_num : (A : Ty) → unkeyed_number A ≡ true → A ≡ num 0
unfolding unkeyed_number on_num by_type
unkeyed_num (num p) h = ap num (eqb-true p 0 h)
unkeyed_num (pair p A B) h = absurd (false≢true h)
unkeyed_num (cell p A) h = absurd (false≢true h)
unkeyed_num (fn p A B s) h = absurd (false≢true h)
unkeyed_num (lim p r) h = absurd (false≢true h)
unkeyed_num (grant p r) h = absurd (false≢true h)

-- a host value's type by its word
head_of_lem :
    (ds : List Name) (i n : ℕ) (f : ℕ → Ty) (o : Option TypeEntry) (w : ℕ) → length ds ≤ 62 → i ≤ 256 → ((e : TypeEntry) → o ≡ some e → parts_ok ds i e ≡ true) →
    ((e : TypeEntry) → o ≡ some e → w ≡ type_word e) → host_type_ok ds (entry_tree o f) n ≡ true → head_of w ≡ entry_tree o f
unfolding entry_tree host_type_ok parts_ok declared on_cell by_type on_lim on_grant
head_of_lem ds i n f none w few le p g h = absurd (false≢true h)
head_of_lem ds i n f (some (e_num q)) w few le p g h = absurd (false≢true h)
head_of_lem ds i n f (some (e_pair q a b)) w few le p g h = absurd (false≢true h)
head_of_lem ds i n f (some (e_cell q a)) w few le p g h =
    let x = p (e_cell q a) refl in
    let y : q < 2 + length ds = ltb-true q (2 + length ds) (and_l _ _ x) in
    let z : a < i = ltb-true a i (and_r _ _ x) in
    ap head_of (g (e_cell q a) refl) ∙ head_cell q a (omega arith) (omega arith) ∙ ap (cell q) (sym (unkeyed_num (f a) (and_r _ _ h)))
head_of_lem ds i n f (some (e_fn q a b s)) w few le p g h = absurd (false≢true h)
head_of_lem ds i n f (some (e_lim q r)) w few le p g h =
    let x = and_l _ _ (p (e_lim q r) refl) in
    let y : q < 2 + length ds = ltb-true q (2 + length ds) (and_l _ _ x) in
    let z : r < 2 + length ds = ltb-true r (2 + length ds) (and_r _ _ x) in
    ap head_of (g (e_lim q r) refl) ∙ head_lim q r (omega arith) (omega arith)
head_of_lem ds i n f (some (e_grant q r)) w few le p g h =
    let x = and_l _ _ (p (e_grant q r) refl) in
    let y : q < 2 + length ds = ltb-true q (2 + length ds) (and_l _ _ x) in
    let z : r < 2 + length ds = ltb-true r (2 + length ds) (and_r _ _ x) in
    ap head_of (g (e_grant q r) refl) ∙ head_grant q r (omega arith) (omega arith)

values_all :
    (T : List TypeEntry) (types values : List ℕ) (l : List (HostValue ℕ)) (v : ℕ) →
    ((k : ℕ) (h : HostValue ℕ) → get_elem? l k ≡ some h → host_of types (get_or values (v + k) 0) ≡ value_of T h) → values_from types values v (length l) ≡ map (value_of T) l
unfolding values_from
values_all T types values [] v f = refl
values_all T types values (h ∷ l) v f =
    let a : v + 0 ≡ v = omega arith in
    ap₂ (λ (x : HostValue Ty) (y : List (HostValue Ty)). x ∷ y)
    (sym (ap (λ (i : ℕ). host_of types (get_or values i 0)) a) ∙ f 0 h refl)
    (values_all T types values l (suc v) (λ k x e. let b : v + suc k ≡ suc v + k = omega arith in sym (ap (λ (i : ℕ). host_of types (get_or values i 0)) b) ∙ f (suc k) x e))

module _ {J : Job} (j : JobOk J) {names : List ℕ} {nnames : ℕ} {types values : List ℕ} {nvalues rights : ℕ} (o : Holds J names nnames types values nvalues rights) where
  pub names_are : names_in names (length J.names) ≡ J.names
  names_are = names_held names J.names (λ i d e. (o.name i d e, small i d (get_elem?_lt J.names i d e) (upper_ok (take i J.names) d (built_at _ j.names i d e)).earlier))
    where
      small : (i : ℕ) (d : Name) → i < length J.names → d.upper < 2 + length (take i J.names) → d.upper < 256
      small i d h l = omega (arith, length-take i J.names, j.few_names)

  value_is : (i : ℕ) (h : HostValue ℕ) → get_elem? J.values i ≡ some h → host_of types (get_or values i 0) ≡ value_of J.types h
  unfolding host_of value_of host_value_ok type_ok tree tree_in
  value_is i h e =
      let k = built_at _ j.values i h e in
      let l : h.ty < length J.types = ltb-true h.ty (length J.types) (and_l _ _ k) in
      let s : h.ty < 256 = omega (arith, j.few_types) in
      let b = value_back h (record { ty = s; init = o.number i h e }) in
      let w : get_or values i 0 / 256 % 65536 ≡ h.ty = ap (λ (x : ℕ). x / 256 % 65536) (o.value i h e) ∙ b.0 in
      let n : get_or values i 0 / 16777216 % 4294967296 ≡ h.init = ap (λ (x : ℕ). x / 16777216 % 4294967296) (o.value i h e) ∙ b.1 in
      ap₂ (λ (x : Ty) (y : ℕ). record { ty = x; init = y })
      (ap (λ (x : ℕ). head_of (get_or types x 0)) w
      ∙ head_of_lem J.names h.ty h.init (tree_in h.ty (get_elem? J.types)) (get_elem? J.types h.ty) (get_or types h.ty 0) (omega (arith, j.few_names)) (omega (arith, j.few_types)) (entry_parts J.names j.types h.ty) (o.type h.ty) (and_r _ _ k))
      n

  pub values_are : values_from types values 0 (length J.values) ≡ map (value_of J.types) J.values
  values_are = values_all J.types types values J.values 0 (λ k h e. let a : 0 + k ≡ k = omega arith in ap (λ (i : ℕ). host_of types (get_or values i 0)) a ∙ value_is k h e)

-- the start looks at the names, the host values, the rights and how many expressions there are
same_start : (S R : Src) → S.names ≡ R.names → S.values ≡ R.values → S.rights ≡ R.rights → length S.cmds ≡ length R.cmds → start_of S ≡ start_of R
unfolding start_of first_thread first_store named key_named valued root
same_start S R a b c d = λ i. starts (a i) (b i) (c i) (d i)
  where
    starts : List Name → List (HostValue Ty) → effects.Effect → ℕ → System
    starts ns vs rs k =
        let N = add_names ns (record { keys = 0 ∷ 1 ∷ []; of = 0 ∷ 1 ∷ []; bindings = [] }) in
        let W = add_values (λ n. get_or N.of n 0) 0 vs (record { cells = []; bindings = N.bindings }) in
        record {
          threads = record { control = enter (predecessor k); env = length W.bindings; on = set_of (map (λ n. get_or N.of n 0) (effects.names rs)); frames = [] } ∷ [];
          store = record { cells = W.cells; keys = N.keys; pairs = []; functions = []; bindings = W.bindings };
          round = 0;
          from = 0;
        }

-- of words that hold a job the start is the job's
module _ {J : Job} (j : JobOk J) {names : List ℕ} {nnames : ℕ} {types values : List ℕ} {nvalues rights cmds : ℕ} (o : Holds J names nnames types values nvalues rights) (e : cmds ≡ length J.cmds) where
  is_job_lem : is_job nnames nvalues cmds ≡ true
  unfolding is_job ◌and◌
  is_job_lem =
      let a : nnames ≤ 62 = omega (arith, o.all_names, j.few_names) in
      let b : nvalues ≤ 64 = omega (arith, o.all_values, j.few_values) in
      let c : 0 < cmds = omega (arith, j.some_cmds) in
      let d : cmds ≤ 512 = omega (arith, j.few_cmds) in
      simp (le-leb _ _ a, le-leb _ _ b, lt-ltb _ _ c, le-leb _ _ d)

  same_words : start_of (word_source names nnames types values nvalues rights cmds) ≡ start_of (source_of J)
  unfolding word_source source_of
  same_words =
      same_start _ _ (ap (names_in names) o.all_names ∙ names_are j o) (ap (values_from types values 0) o.all_values ∙ values_are j o) o.its_rights
      (length-replicate cmds c_top ∙ e ∙ sym (length-map J.cmds (map_cmd (tree J.types))))

  pub held_start : start_of (source_in names nnames types values nvalues rights cmds) ≡ start_of (source_of J)
  unfolding source_in
  held_start = ap (λ (b : Bool). start_of (cond b (word_source names nnames types values nvalues rights cmds) no_job)) is_job_lem ∙ same_words

-- filled tables hold the job
pub filled_holds : (J : Job) → JobFits J → (n t v : ℕ) → Holds J (filled n 0 (name_words J)) (length J.names) (filled t 0 (type_words J.types)) (filled v 0 (value_words J)) (length J.values) J.rights.set
filled_holds J j n t v =
    record {
      all_names = refl;
      all_values = refl;
      its_rights = refl;
      name = λ i d e. let h : 2 + i ≡ suc (suc i) = omega arith in filled_at n (name_words J) (2 + i) ∙ ap (λ (k : ℕ). get_or (name_words J) k 0) h ∙ map_at name_word J.names i d e;
      type = λ i x e. word_at type_word t J.types i x e;
      value = λ i h e. word_at value_word v J.values i h e;
      number = λ i h e. (j.values i h e).init;
    }
