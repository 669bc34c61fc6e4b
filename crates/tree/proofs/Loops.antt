-- One turn of each loop of 10, by the definition that it follows; then the three checks together, and the limits.
use mathlib.Core.Path.{◌≡◌, refl, sym, ap, ap₂, ◌∙◌}
use Prim.Native.Nat.{ℕ, suc, ◌+◌, ◌-◌, ◌*◌, ◌/◌, ◌%◌, ◌≤◌, ◌<◌}
use native.Mathlib.Omega.{arith}
use native.Mathlib.Numerals.{add-one}
use mathlib.Core.Bool.{Bool, true, false, cond, false≢true}
use mathlib.Core.List.{List}
use mathlib.Core.Option.{Option, none, some}
use lib.ListN.{get_or, set, replicate}
use borrow.Author.Tests.{lt-ltb, le-ltb, ltb-false, ne_eqb, eqb-false}
use lib.Dec.{eqb, ltb}
use lib.Bits.{bit_or}
use Rattle.syntax.specs.Reading.{Refusal}
use Rattle.syntax.specs.Tree.{first_bad, or_else, numbered}
use Rattle.names.specs.Ancestors.{one_of}
use Rattle.uses.specs.Passes.{is_new, counts_by, right_count}
use Rattle.tree.specs.Passes.{var_fits, operand_names, is_scoped, host_name, host_names, type_names, masks_from, put_in, inherited_down, scopes_by, host_vars, masks_by, scope_refusal, table_refusal, in_limits}

-- upward

pub names_on : (names : List ℕ) (i : ℕ) {s w o : ℕ} → s ≡ host_names names i → w ≡ get_or names (i + 2) 0 → o ≡ host_name w (i + 2) → bit_or s o ≡ host_names names (i + 1)
unfolding host_names
names_on names i hs hw ho = rw (add-one i, hs, ho, hw)

pub masks_on : (types sets m : List ℕ) (i n : ℕ) {x : List ℕ} {w s o : ℕ} → i < n → w ≡ get_or types i 0 → s ≡ get_or sets i 0 → o ≡ type_names w s m → x ≡ masks_from types sets i (n - i) m
    → x ≡ masks_from types sets (i + 1) (n - (i + 1)) (set m i o)
unfolding masks_from
masks_on types sets m i n h hw hs ho e =
    let z : n - i ≡ suc (n - (i + 1)) = omega arith in
    rw (ho, hw, hs) (e ∙ ap (λ (f : ℕ). masks_from types sets i f m) z)

pub masks_end : (types sets m : List ℕ) (i n : ℕ) {x : List ℕ} → n ≤ i → x ≡ masks_from types sets i (n - i) m → m ≡ x
unfolding masks_from
masks_end types sets m i n h e = let z : n - i ≡ 0 = omega arith in sym (e ∙ ap (λ (f : ℕ). masks_from types sets i f m) z)

pub masks_start : (types sets m : List ℕ) (n : ℕ) → masks_from types sets 0 n m ≡ masks_from types sets 0 (n - 0) m
masks_start types sets m n = let z : n ≡ n - 0 = omega arith in ap (λ (f : ℕ). masks_from types sets 0 f m) z

-- what one turn tests

pub scoped_not : (heads slots masks vars names : List ℕ) (e : ℕ) {w : ℕ} {b : Bool} → w ≡ get_or heads e 0 → b ≡ var_fits w (get_or vars e 0) → b ≡ false
    → is_scoped heads slots masks vars names e ≡ false
unfolding is_scoped
scoped_not heads slots masks vars names e hw hb h = let z : var_fits (get_or heads e 0) (get_or vars e 0) ≡ false = ap (λ (x : ℕ). var_fits x (get_or vars e 0)) (sym hw) ∙ sym hb ∙ h in rw z

pub scoped_is : (heads slots masks vars names : List ℕ) (e : ℕ) {w m : ℕ} {b d : Bool} → w ≡ get_or heads e 0 → b ≡ var_fits w (get_or vars e 0) → b ≡ true → m ≡ operand_names masks slots e w
    → d ≡ eqb (bit_or m (get_or names e 0)) (get_or names e 0) → is_scoped heads slots masks vars names e ≡ d
unfolding is_scoped
scoped_is heads slots masks vars names e {m = m} hw hb h hm hd =
    let z : var_fits (get_or heads e 0) (get_or vars e 0) ≡ true = ap (λ (x : ℕ). var_fits x (get_or vars e 0)) (sym hw) ∙ sym hb ∙ h in
    let y : operand_names masks slots e (get_or heads e 0) ≡ m = ap (operand_names masks slots e) (sym hw) ∙ sym hm in
    rw (z, y) (sym hd)

pub scopes_start : (named : Bool) (heads slots : List ℕ) (n host : ℕ) {x : List ℕ} → n - 1 < 512 → x ≡ inherited_down named heads slots (n * 5) (set (replicate 512 0) (n - 1) host)
    → x ≡ scopes_by named heads slots n host
unfolding scopes_by put_in
scopes_start named heads slots n host h e = e ∙ sym (ap (λ (b : Bool). inherited_down named heads slots (n * 5) (cond b (set (replicate 512 0) (n - 1) host) (replicate 512 0))) (lt-ltb (n - 1) 512 h))

-- the three checks together

pub scope_whole : (heads slots : List ℕ) (n : ℕ) (names : List ℕ) (nnames : ℕ) (types sets : List ℕ) (ntypes nvalues : ℕ) {masks vars locals : List ℕ} {hv hn : ℕ} {x : Option Refusal}
    → masks ≡ masks_by types sets ntypes → hv ≡ host_vars nvalues → vars ≡ scopes_by false heads slots n hv → hn ≡ host_names names nnames → locals ≡ scopes_by true heads slots n hn
    → x ≡ numbered 10 (first_bad (is_scoped heads slots masks vars locals) 0 n) → x ≡ scope_refusal heads slots n names nnames types sets ntypes nvalues
unfolding scope_refusal
scope_whole heads slots n names nnames types sets ntypes nvalues {masks = masks} em ev es en el ex =
    ex
    ∙ ap₂ (λ (v l : List ℕ). numbered 10 (first_bad (is_scoped heads slots masks v l) 0 n)) (es ∙ ap (scopes_by false heads slots n) ev) (el ∙ ap (scopes_by true heads slots n) en)
    ∙ ap (λ (m : List ℕ). numbered 10 (first_bad (is_scoped heads slots m (scopes_by false heads slots n (host_vars nvalues)) (scopes_by true heads slots n (host_names names nnames))) 0 n)) em

module _ (heads slots : List ℕ) (n : ℕ) (names : List ℕ) (nnames : ℕ) (types sets : List ℕ) (ntypes nvalues : ℕ) where
  abbrev whole : Option Refusal
  whole = table_refusal heads slots n names nnames types sets ntypes nvalues

  pub found_8 : {counts : List ℕ} {x : Refusal} → counts ≡ counts_by heads slots n → some x ≡ numbered 8 (first_bad (right_count counts n) 0 n) → some x ≡ whole
  unfolding table_refusal or_else
  found_8 {counts} {x} ec e =
      let z : numbered 8 (first_bad (right_count (counts_by heads slots n) n) 0 n) ≡ some x = ap (λ (c : List ℕ). numbered 8 (first_bad (right_count c n) 0 n)) (sym ec) ∙ sym e in
      sym (ap (λ (o : Option Refusal). or_else o (or_else (numbered 9 (first_bad (is_new heads) 0 n)) (scope_refusal heads slots n names nnames types sets ntypes nvalues))) z)

  past_8 : {counts : List ℕ} → counts ≡ counts_by heads slots n → none ≡ numbered 8 (first_bad (right_count counts n) 0 n)
      → whole ≡ or_else (numbered 9 (first_bad (is_new heads) 0 n)) (scope_refusal heads slots n names nnames types sets ntypes nvalues)
  unfolding table_refusal or_else
  past_8 ec e =
      let z : numbered 8 (first_bad (right_count (counts_by heads slots n) n) 0 n) ≡ none = ap (λ (c : List ℕ). numbered 8 (first_bad (right_count c n) 0 n)) (sym ec) ∙ sym e in
      ap (λ (o : Option Refusal). or_else o (or_else (numbered 9 (first_bad (is_new heads) 0 n)) (scope_refusal heads slots n names nnames types sets ntypes nvalues))) z

  pub found_9 : {counts : List ℕ} {x : Refusal} → counts ≡ counts_by heads slots n → none ≡ numbered 8 (first_bad (right_count counts n) 0 n) → some x ≡ numbered 9 (first_bad (is_new heads) 0 n) → some x ≡ whole
  unfolding or_else
  found_9 ec e d = sym (past_8 ec e ∙ ap (λ (o : Option Refusal). or_else o (scope_refusal heads slots n names nnames types sets ntypes nvalues)) (sym d))

  pub past_9 : {counts : List ℕ} {y : Option Refusal} → counts ≡ counts_by heads slots n → none ≡ numbered 8 (first_bad (right_count counts n) 0 n) → none ≡ numbered 9 (first_bad (is_new heads) 0 n)
      → y ≡ scope_refusal heads slots n names nnames types sets ntypes nvalues → y ≡ whole
  unfolding or_else
  past_9 ec e d ey = ey ∙ sym (past_8 ec e ∙ ap (λ (o : Option Refusal). or_else o (scope_refusal heads slots n names nnames types sets ntypes nvalues)) (sym d))

-- the names in a type, by the fields of its word
module _ (w s : ℕ) (m : List ℕ) {k o f a g b : ℕ} (ek : k ≡ w / 256 % 256) (eo : o ≡ one_of k) (ef : f ≡ w / 65536 % 65536) (ea : a ≡ get_or m f 0)
    (eg : g ≡ w / 4294967296 % 65536) (eb : b ≡ get_or m g 0) where
  pub pair_names : w % 256 ≡ 0x11 → bit_or o (bit_or a b) ≡ type_names w s m
  unfolding type_names
  pair_names h = simp (h, eo, ek, ea, ef, eb, eg)

  pub function_names : w % 256 ≡ 0x13 → bit_or o (bit_or (bit_or a b) s) ≡ type_names w s m
  unfolding type_names
  function_names h = simp (h, eo, ek, ea, ef, eb, eg)

-- limits

pub record Limits (n nnames ntypes : ℕ) : Type 0 where
  pub some_cmds : 0 < n
  pub few_cmds : n ≤ 512
  pub few_names : nnames ≤ 62
  pub few_types : ntypes ≤ 256

pub limits : (n nnames ntypes : ℕ) → in_limits n nnames ntypes ≡ true → Limits n nnames ntypes
unfolding in_limits
limits n nnames ntypes e = at (eqb n 0) refl (ltb 512 n) refl (ltb 62 nnames) refl (ltb 256 ntypes) refl e
  where
    pos : (m : ℕ) → (m ≡ 0 → ⊥) → 0 < m
    pos m h = omega arith

    at : (a : Bool) → eqb n 0 ≡ a → (b : Bool) → ltb 512 n ≡ b → (c : Bool) → ltb 62 nnames ≡ c → (d : Bool) → ltb 256 ntypes ≡ d → cond a false (cond b false (cond c false (cond d false true))) ≡ true → Limits n nnames ntypes
    at true x b y c z d w h = absurd (false≢true h)
    at false x true y c z d w h = absurd (false≢true h)
    at false x false y true z d w h = absurd (false≢true h)
    at false x false y false z true w h = absurd (false≢true h)
    at false x false y false z false w h =
        record { some_cmds = pos n (eqb-false n 0 x); few_cmds = ltb-false 512 n y; few_names = ltb-false 62 nnames z; few_types = ltb-false 256 ntypes w }

pub in_limits_lem : (n nnames ntypes : ℕ) → 0 < n → n ≤ 512 → nnames ≤ 62 → ntypes ≤ 256 → in_limits n nnames ntypes ≡ true
unfolding in_limits
in_limits_lem n nnames ntypes h k l m = rw (ne_eqb n 0 (λ e. omega arith), le-ltb 512 n k, le-ltb 62 nnames l, le-ltb 256 ntypes m)
