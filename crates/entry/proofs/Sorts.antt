-- An entry is of the section of its command byte, wherever the command stands.
use Rattle.std.specs.Prelude.{◌≡◌, refl, ℕ, zero, suc, ◌+◌, ◌<◌, Bool, true, false, cond, List, Ok, Err, eqb}
use Rattle.std.proofs.Common.{sym, ap, ◌∙◌, arith}
use Rattle.syntax.specs.Job.{Name}
use Rattle.syntax.specs.Words.{type_bits}
use Rattle.syntax.specs.Reading.{host_name}
use Rattle.names.specs.Ancestors.{names_in, declared_of, set_ok_by}
use Rattle.entry.specs.Bytes.{field_at, section_byte}
use Rattle.entry.specs.Entries.{Judged, part_depth, two_depths, named_of, typed_of, name_entry, key_type_of, function_of, type_by, type_entry, value_entry, rights_entry, form_entry, entry_of, judged_by, sort_of}
use Rattle.entry.specs.declared.Shape.{Shape}
use Rattle.entry.specs.declared.Entry.{Entry}
use Rattle.entry.specs.declared.Entry.TheVariants.{Named, Last}
use Rattle.entry.proofs.Agree.{not_ok, same_entry}

-- a refusal, or an entry of section k
data Sorted (k : ℕ) : Judged → Type 0 where
  refused : (m : ℕ) → Sorted k (Err m)
  sorted : (e : Entry) → sort_of e ≡ k → Sorted k (Ok e)

pick : {k : ℕ} (b : Bool) {x y : Judged} → Sorted k x → Sorted k y → Sorted k (cond b x y)
pick true p q = p
pick false p q = q

named_by : (op u : ℕ) (d h : Bool) → Sorted 0 (named_of op u d h)
unfolding sort_of
named_by op u d h = pick (eqb u 0) (refused 6) (pick d (pick (eqb op 1) (pick h (sorted (Named (u + 256)) refl) (refused 6)) (sorted (Named (u + 512)) refl)) (refused 6))

named : (op : ℕ) (s names : List ℕ) (n : ℕ) → Sorted 0 (name_entry op s names n)
unfolding name_entry
named op s names n = named_by op (field_at 1 s 1) (declared_of n (field_at 1 s 1)) (host_name (names_in names n) (field_at 1 s 1))

typed : (w s d : ℕ) → Sorted 1 (typed_of w s d)
unfolding typed_of sort_of
typed w s d = pick _ (sorted _ refl) (refused 6)

functions : (q a b s d : ℕ) (ok : Bool) → Sorted 1 (function_of q a b s d ok)
unfolding function_of
functions q a b s d ok = pick ok (typed _ _ _) (refused 6)

keys : (op q r : ℕ) (d : Bool) → Sorted 1 (key_type_of op q r d)
unfolding key_type_of
keys op q r d = pick _ (refused 6) (pick d (typed _ _ _) (refused 6))

kinds : (op q : ℕ) (s anc : List ℕ) (n : ℕ) (depths : List ℕ) (t : ℕ) → Sorted 1 (type_by op q s anc n depths t)
unfolding type_by
kinds op q s anc n depths t =
    pick (eqb op 0x10) (typed (type_bits op q 0 0) 0 0)
    (pick (eqb op 0x11) (typed (type_bits op q (field_at 2 s 2) (field_at 2 s 4)) 0 (two_depths depths t (field_at 2 s 2) (field_at 2 s 4)))
    (pick (eqb op 0x12) (typed (type_bits op q (field_at 2 s 2) 0) 0 (part_depth depths t (field_at 2 s 2)))
    (pick (eqb op 0x13) (functions q (field_at 2 s 2) (field_at 2 s 4) (field_at 8 s 6) (two_depths depths t (field_at 2 s 2) (field_at 2 s 4)) (set_ok_by anc n (field_at 8 s 6)))
    (keys op q (field_at 1 s 2) (declared_of n (field_at 1 s 2))))))

types_sorted : (op : ℕ) (s anc : List ℕ) (n : ℕ) (depths : List ℕ) (t : ℕ) → Sorted 1 (type_entry op s anc n depths t)
unfolding type_entry
types_sorted op s anc n depths t = pick (declared_of n (field_at 1 s 1)) (kinds op (field_at 1 s 1) s anc n depths t) (refused 6)

valued : (s : List ℕ) (ds : List Name) (types : List ℕ) (t : ℕ) → Sorted 2 (value_entry s ds types t)
unfolding value_entry sort_of
valued s ds types t = pick _ (sorted _ refl) (refused 6)

rights : (s anc : List ℕ) (ds : List Name) → Sorted 3 (rights_entry s anc ds)
unfolding rights_entry sort_of
rights s anc ds = pick _ (sorted _ refl) (refused 6)

formed : (op : ℕ) (s : List ℕ) (ds : List Name) (h : Shape) → Sorted 4 (form_entry op s ds h)
unfolding form_entry sort_of
formed op s ds h = pick _ (pick _ (sorted _ refl) (refused 6)) (refused 6)

-- there are six sections
less : (b : Bool) (x : ℕ) {y : ℕ} → x < 6 → y < 6 → cond b x y < 6
less true x p q = p
less false x p q = q

six : (b : ℕ) → section_byte b < 6
unfolding section_byte
six b = less _ 0 (omega arith) (less _ 1 (omega arith) (less _ 2 (omega arith) (less _ 3 (omega arith) (less _ 4 (omega arith) five))))
  where
    five : 5 < 6
    five = omega arith

-- the entry of a section's own rule
by_section : (k : ℕ) → k < 6 → {a b c d e : Judged} → Sorted 0 a → Sorted 1 b → Sorted 2 c → Sorted 3 d → Sorted 4 e
    → Sorted k (cond (eqb k 0) a (cond (eqb k 1) b (cond (eqb k 2) c (cond (eqb k 3) d (cond (eqb k 4) e (Ok Last))))))
unfolding sort_of
by_section zero h a b c d e = a
by_section (suc zero) h a b c d e = b
by_section (suc (suc zero)) h a b c d e = c
by_section (suc (suc (suc zero))) h a b c d e = d
by_section (suc (suc (suc (suc zero)))) h a b c d e = e
by_section (suc (suc (suc (suc (suc zero))))) h a b c d e = sorted Last refl
by_section (suc (suc (suc (suc (suc (suc k)))))) h a b c d e = absurd (omega arith)

entries : (op : ℕ) (s anc names types depths : List ℕ) (h : Shape) → Sorted (section_byte op) (entry_of op s anc names types depths h)
unfolding entry_of
entries op s anc names types depths h =
    by_section (section_byte op) (six op) (named op s names h.names) (types_sorted op s anc h.names depths h.types) (valued s _ types h.types) (rights s anc _) (formed op s _ h)

judged_sorted : (b : ℕ) (s : List ℕ) (cur : ℕ) (h : Shape) (anc names types depths : List ℕ) → Sorted (section_byte b) (judged_by b s cur h anc names types depths)
unfolding judged_by
judged_sorted b s cur h anc names types depths = pick _ (refused 2) (pick _ (refused 3) (pick _ (refused 4) (pick _ (refused 5) (entries b s anc names types depths h))))

of_sorted : {k : ℕ} {r : Judged} {e : Entry} → Sorted k r → r ≡ Ok e → sort_of e ≡ k
of_sorted {e = e} (refused m) q = absurd (not_ok m e q)
of_sorted {e = e} (sorted x p) q = sym (ap sort_of (same_entry x e q)) ∙ p

pub sort_is : (b : ℕ) (s : List ℕ) (cur : ℕ) (h : Shape) (anc names types depths : List ℕ) {e : Entry} → judged_by b s cur h anc names types depths ≡ Ok e → sort_of e ≡ section_byte b
sort_is b s cur h anc names types depths q = of_sorted (judged_sorted b s cur h anc names types depths) q
