-- A load by what its parts come to, and the lengths of its tables.
use Rattle.std.specs.Prelude.{◌≡◌, refl, ℕ, ◌≤◌, true, false, List, length}
use Rattle.std.proofs.Common.{sym, ◌∙◌, arith, ltb-false, le-ltb, length-append}
use Rattle.std.proofs.Math.Path.{ap}
use Rattle.std.proofs.Math.Option.{Option, none, some}
use Rattle.std.proofs.lemmas.List.{length-replicate}
use Rattle.order.specs.Bools.{◌or◌}
use Rattle.syntax.specs.Types.{TypeEntry}
use Rattle.syntax.specs.Job.{Job, source_of}
use Rattle.syntax.specs.Reading.{Refusal, Read, refused, read, refused_at, reading}
use Rattle.syntax.proofs.ReadLaws.{or_none}
use Rattle.syntax.specs.Tree.{tree_refusal}
use Rattle.syntax.specs.Words.{filled, name_words, type_words, set_words, value_words, head_words, slot_words}
use Rattle.syntax.specs.Loading.{JobTables, short, zeros, cleared, filled_with, unless, in_tree, loading, load_with, holding, tables_after_load}
use Rattle.syntax.specs.LoadLaws.{Lengths, Long}

-- what is read and refused by neither the reading nor the tree is loaded
pub load_refused : (s : List ℕ) (r : Refusal) → reading s ≡ refused r → loading s ≡ refused r
unfolding loading in_tree
load_refused s r e = ap in_tree e

module _ (s : List ℕ) (J : Job) (is : reading s ≡ read J) where
  pub load_tree : loading s ≡ unless (tree_refusal (source_of J)) J
  unfolding loading in_tree
  load_tree = ap in_tree is

  pub load_whole : tree_refusal (source_of J) ≡ none → loading s ≡ read J
  unfolding unless
  load_whole t = load_tree ∙ ap (λ o. unless o J) t

  pub load_out : (r : Refusal) → tree_refusal (source_of J) ≡ some r → loading s ≡ refused r
  unfolding unless
  load_out r t = load_tree ∙ ap (λ o. unless o J) t

-- a job that is loaded was read, and its tree is right
pub loaded : (s : List ℕ) (J : Job) → loading s ≡ read J → (reading s ≡ read J) × (tree_refusal (source_of J) ≡ none)
unfolding loading in_tree unless
loaded s J e = at (reading s) refl e
  where
    tree : (K : Job) (o : Option Refusal) → tree_refusal (source_of K) ≡ o → unless o K ≡ read J → (read K ≡ read J) × (tree_refusal (source_of J) ≡ none)
    tree K none f g = let z : K ≡ J = cc in (g, ap (λ (j : Job). tree_refusal (source_of j)) (sym z) ∙ f)
    tree K (some r) f g = absurd (let z : ◌≡◌ {A = ℕ} 0 1 = cc in omega arith)

    at : (R : Read) → reading s ≡ R → in_tree R ≡ read J → (R ≡ read J) × (tree_refusal (source_of J) ≡ none)
    at (refused r) f g = absurd (let z : ◌≡◌ {A = ℕ} 0 1 = cc in omega arith)
    at (read K) f g = tree K (tree_refusal (source_of K)) refl g

-- Tables that are long enough

module _ (w : JobTables) (s : List ℕ) (h : short w ≡ false) where
  pub long_load : load_with w s ≡ loading s
  unfolding load_with
  long_load = rw h

  pub long_after : tables_after_load w s ≡ holding (loading s) w
  unfolding tables_after_load
  long_after = rw h

-- Tables that are not

module _ (w : JobTables) (s : List ℕ) (h : short w ≡ true) where
  pub short_load : load_with w s ≡ refused_at 1 0
  unfolding load_with
  short_load = rw h

  pub short_after : tables_after_load w s ≡ w
  unfolding tables_after_load
  short_after = rw h

pub long_is : (w : JobTables) → short w ≡ false → Long w
unfolding short
long_is w h =
    let a = or_none _ _ h in
    let b = or_none _ _ a.0 in
    let c = or_none _ _ b.0 in
    let d = or_none _ _ c.0 in
    let e = or_none _ _ d.0 in
    record {
      names = ltb-false _ _ e.0;
      types = ltb-false _ _ e.1;
      sets = ltb-false _ _ d.1;
      values = ltb-false _ _ c.1;
      heads = ltb-false _ _ b.1;
      slots = ltb-false _ _ a.1;
    }

-- Tables of the same lengths

module _ {w x : JobTables} (l : Lengths w x) where
  pub cleared_same : cleared w ≡ cleared x
  unfolding cleared zeros
  cleared_same = rw (l.names, l.types, l.sets, l.values, l.heads, l.slots)

  pub filled_same : (T : List TypeEntry) (J : Job) → filled_with T J w ≡ filled_with T J x
  unfolding filled_with
  filled_same T J = rw (l.names, l.types, l.sets, l.values, l.heads, l.slots)

  pub short_same : short w ≡ short x
  unfolding short
  short_same = rw (l.names, l.types, l.sets, l.values, l.heads, l.slots)

-- a table that is filled is no shorter
longer : (l : List ℕ) (n k : ℕ) → k ≤ n → k ≤ length (filled n 0 l)
unfolding filled
longer l n k h = simp (length-append, length-replicate) (omega arith)

not_short : (w : JobTables) → Long w → short w ≡ false
unfolding short ◌or◌
not_short w l = simp (le-ltb _ _ l.names, le-ltb _ _ l.types, le-ltb _ _ l.sets, le-ltb _ _ l.values, le-ltb _ _ l.heads, le-ltb _ _ l.slots)

pub long_with : (T : List TypeEntry) (J : Job) (w : JobTables) → short w ≡ false → short (filled_with T J w) ≡ false
unfolding filled_with
long_with T J w h =
    let l = long_is w h in
    not_short (filled_with T J w)
    (record {
      names = longer (name_words J) _ _ l.names;
      types = longer (type_words T) _ _ l.types;
      sets = longer (set_words T) _ _ l.sets;
      values = longer (value_words J) _ _ l.values;
      heads = longer (head_words J) _ _ l.heads;
      slots = longer (slot_words J) _ _ l.slots;
    })
