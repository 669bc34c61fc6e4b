-- The rules and the machine touch the same operands, those of one list (`Wants`). By each rule but subsumption a name is in the effect of an expression exactly when it is
-- the key of an operand that the list has touched, or in the effect of an operand, or brought by what the act enters; and each operand is of the kind that the list wants.
use Rattle.std.specs.Prelude.{◌≡◌, refl, ℕ, true, false, ◌≢◌, ◌⊎◌, length}
use Rattle.std.proofs.Common.{sym, ◌∙◌, subst, inl, inr}
use Rattle.std.proofs.lemmas.Bool.{false≢true}
use mathlib.Core.List.{List, [], ◌∷◌, Memᴰ}
use Rattle.order.specs.Bools.{◌and◌}
use Rattle.order.specs.Effects.{Effect, pure, names, touch, join}
use Rattle.order.proofs.EffectLaws.{name_not_zero, pure_name, touch_name, touch_old, touch_cases, join_left, join_right, join_cases}
use Rattle.syntax.specs.Types.{Ty, fn, lim, grant, by_type, on_num, on_pair, on_cell, on_fn, on_lim, on_grant}
use Rattle.syntax.specs.Types
use Rattle.syntax.specs.Operands.{evaluated}
use Rattle.syntax.specs.Job.{Src}
use Rattle.syntax.specs.Tree.{Entry}
use Rattle.typing.specs.Rules.{code_of, Has, h_num, h_top, h_var, h_pair, h_part1, h_part2, h_fn, h_app, h_new, h_asg, h_read, h_sum, h_test, h_lim, h_grant, h_newkey, h_assoc, h_access, h_divide, h_spawn, h_sub, HasKeys, k_nil, k_cons}
use Rattle.semantics.specs.Wants.{a_limit, read, touches, alike, wants_of, holds, is_touched}
use Rattle.semantics.specs.Agreement.{From, Names, Operands, Ruled, b_access, b_app, b_asg, b_assoc, b_divide, b_fn, b_grant, b_lim, b_new, b_newkey, b_num, b_pair, b_part, b_read, b_spawn, b_sum, b_test, b_top, b_var, by_act, by_sub, in_first, in_later, of_body, of_operand, op_cons, op_nil, suit_types, suits_type, touched_key, touched_names}

touch_from : (q : ℕ) (s : Effect) {n : ℕ} → Memᴰ n (names (touch q s)) → ((n ≡ q) × (n ≢ 0)) ⊎ Memᴰ n (names s)
touch_from q s {n} m = at (touch_cases q s m)
  where
    at : (n ≡ q) ⊎ Memᴰ n (names s) → ((n ≡ q) × (n ≢ 0)) ⊎ Memᴰ n (names s)
    at (inl e) = inl (e, name_not_zero (touch q s) m)
    at (inr i) = inr i

touch_to : (q : ℕ) (s : Effect) {n : ℕ} → n ≡ q → n ≢ 0 → Memᴰ n (names (touch q s))
touch_to q s {n} e h = subst (λ k. Memᴰ k (names (touch q s))) (sym e) (touch_name q s (λ z. h (e ∙ z)))

-- with one more touched key; with one more operand; with something brought where nothing was
more_key : {n q : ℕ} {ts : List ℕ} {ss : List Effect} {b : Effect} → From n ts ss b → From n (q ∷ ts) ss b
more_key (touched_key m h) = touched_key (Memᴰ.tail m) h
more_key (of_operand m) = of_operand m
more_key (of_body m) = of_body m

more_operand : {n : ℕ} {ts : List ℕ} {s : Effect} {ss : List Effect} {b : Effect} → From n ts ss b → From n ts (s ∷ ss) b
more_operand (touched_key m h) = touched_key m h
more_operand (of_operand m) = of_operand (in_later m)
more_operand (of_body m) = of_body m

more_body : {n : ℕ} {ts : List ℕ} {ss : List Effect} {b : Effect} → From n ts ss pure → From n ts ss b
more_body (touched_key m h) = touched_key m h
more_body (of_operand m) = of_operand m
more_body (of_body m) = absurd (pure_name m)

touching : (q : ℕ) {s : Effect} {ts : List ℕ} {ss : List Effect} {b : Effect} → Names s ts ss b → Names (touch q s) (q ∷ ts) ss b
touching q {s} {ts} {ss} {b} f = record { each = λ n. (λ m. to n (touch_from q s m), from n) }
  where
    to : (n : ℕ) → ((n ≡ q) × (n ≢ 0)) ⊎ Memᴰ n (names s) → From n (q ∷ ts) ss b
    to n (inl e) = touched_key (Memᴰ.head e.0) e.1
    to n (inr m) = more_key ((f.each n).0 m)

    from : (n : ℕ) → From n (q ∷ ts) ss b → Memᴰ n (names (touch q s))
    from n (touched_key (Memᴰ.head e) h) = touch_to q s e h
    from n (touched_key (Memᴰ.tail m) h) = touch_old q s ((f.each n).1 (touched_key m h))
    from n (of_operand m) = touch_old q s ((f.each n).1 (of_operand m))
    from n (of_body m) = touch_old q s ((f.each n).1 (of_body m))

joining : (s t : Effect) {ts : List ℕ} {ss : List Effect} {b : Effect} → Names t ts ss b → Names (join s t) ts (s ∷ ss) b
joining s t {ts} {ss} {b} f = record { each = λ n. (λ m. to n (join_cases s t m), from n) }
  where
    to : (n : ℕ) → Memᴰ n (names s) ⊎ Memᴰ n (names t) → From n ts (s ∷ ss) b
    to n (inl m) = of_operand (in_first m)
    to n (inr m) = more_operand ((f.each n).0 m)

    from : (n : ℕ) → From n ts (s ∷ ss) b → Memᴰ n (names (join s t))
    from n (touched_key m h) = join_right s t ((f.each n).1 (touched_key m h))
    from n (of_operand (in_first m)) = join_left s t m
    from n (of_operand (in_later m)) = join_right s t ((f.each n).1 (of_operand m))
    from n (of_body m) = join_right s t ((f.each n).1 (of_body m))

nothing : Names pure [] [] pure
nothing = record { each = λ n. (λ m. of_body m, from n) }
  where
    from : (n : ℕ) → From n [] [] pure → Memᴰ n (names pure)
    from n (touched_key x' _) = elim x' [ ]
    from n (of_operand x'') = elim x'' [ ]
    from n (of_body m) = m

alone : (s : Effect) → Names s [] (s ∷ []) pure
alone s = record { each = λ n. (λ m. of_operand (in_first m), from n) }
  where
    from : (n : ℕ) → From n [] (s ∷ []) pure → Memᴰ n (names s)
    from n (touched_key x' _) = elim x' [ ]
    from n (of_operand (in_later x5)) = elim x5 [ ]
    from n (of_operand (in_first m)) = m
    from n (of_body m) = absurd (pure_name m)

-- what is brought comes before the rest, or after it
bringing : (b s : Effect) {ts : List ℕ} {ss : List Effect} → Names s ts ss pure → Names (join b s) ts ss b
bringing b s {ts} {ss} f = record { each = λ n. (λ m. to n (join_cases b s m), from n) }
  where
    to : (n : ℕ) → Memᴰ n (names b) ⊎ Memᴰ n (names s) → From n ts ss b
    to n (inl m) = of_body m
    to n (inr m) = more_body ((f.each n).0 m)

    from : (n : ℕ) → From n ts ss b → Memᴰ n (names (join b s))
    from n (touched_key m h) = join_right b s ((f.each n).1 (touched_key m h))
    from n (of_operand m) = join_right b s ((f.each n).1 (of_operand m))
    from n (of_body m) = join_left b s m

and_body : (s b : Effect) {ts : List ℕ} {ss : List Effect} → Names s ts ss pure → Names (join s b) ts ss b
and_body s b {ts} {ss} f = record { each = λ n. (λ m. to n (join_cases s b m), from n) }
  where
    to : (n : ℕ) → Memᴰ n (names s) ⊎ Memᴰ n (names b) → From n ts ss b
    to n (inl m) = more_body ((f.each n).0 m)
    to n (inr m) = of_body m

    from : (n : ℕ) → From n ts ss b → Memᴰ n (names (join s b))
    from n (touched_key m h) = join_left s b ((f.each n).1 (touched_key m h))
    from n (of_operand m) = join_left s b ((f.each n).1 (of_operand m))
    from n (of_body m) = join_right s b m

-- the keys of a limit
record Keyed (S : Src) (Γ : List Entry) (ks : List ℕ) (s : Effect) : Type 0 where
  types : List Ty
  effects : List Effect
  operands : Operands S Γ ks types effects
  suit : suit_types (alike (length types) (touches read a_limit)) types ≡ true
  exactly : Names s (touched_names (alike (length types) (touches read a_limit)) types) effects pure

keyed : {S : Src} {Γ : List Entry} {ks rs : List ℕ} {s : Effect} → HasKeys S Γ ks rs s → Keyed S Γ ks s
unfolding suit_types suits_type by_type on_num on_pair on_fn on_cell on_lim on_grant touched_names is_touched holds alike ◌and◌ Types.key_of
keyed k_nil = record { types = []; effects = []; operands = op_nil; suit = refl; exactly = nothing }
keyed (k_cons {q = q} {r = r} {s = s} {t = t} h hs) =
    let z = keyed hs in
    record { types = lim q r ∷ z.types; effects = s ∷ z.effects; operands = op_cons h z.operands; suit = z.suit; exactly = touching q (joining s t z.exactly) }

-- the theorem
pub touched_exactly : {S : Src} {Γ : List Entry} {e : ℕ} {T : Ty} {s : Effect} (h : Has S Γ e T s) → by_sub h ≡ false → Ruled S Γ (code_of S e) s
unfolding by_sub wants_of evaluated suit_types suits_type by_type on_num on_pair on_fn on_cell on_lim on_grant touched_names is_touched holds ◌and◌ Types.key_of
touched_exactly (h_num c) z = rw c (by_act op_nil refl b_num nothing)
touched_exactly (h_top c) z = rw c (by_act op_nil refl b_top nothing)
touched_exactly (h_var c l) z = rw c (by_act op_nil refl b_var nothing)
touched_exactly (h_pair {s = s} {t = t} c h i) z = rw c (by_act (op_cons h (op_cons i op_nil)) refl b_pair (joining s t (alone t)))
touched_exactly (h_part1 {q = q} {s = s} c h) z = rw c (by_act (op_cons h op_nil) refl b_part (touching q (alone s)))
touched_exactly (h_part2 {q = q} {s = s} c h) z = rw c (by_act (op_cons h op_nil) refl b_part (touching q (alone s)))
touched_exactly (h_fn c w h) z = rw c (by_act op_nil refl b_fn nothing)
touched_exactly (h_app {q = q} {l = l} {s = s} {t = t} c h i p) z = rw c (by_act (op_cons h (op_cons i op_nil)) refl b_app (touching q (bringing l (join s t) (joining s t (alone t)))))
touched_exactly (h_new {s = s} c w h p) z = rw c (by_act (op_cons h op_nil) refl b_new (alone s))
touched_exactly (h_asg {q = q} {s = s} {t = t} c h i p) z = rw c (by_act (op_cons h (op_cons i op_nil)) refl b_asg (touching q (joining s t (alone t))))
touched_exactly (h_read {q = q} {s = s} c h) z = rw c (by_act (op_cons h op_nil) refl b_read (touching q (alone s)))
touched_exactly (h_sum {p = p} {q = q} {s = s} {t = t} c h i) z = rw c (by_act (op_cons h (op_cons i op_nil)) refl b_sum (touching p (touching q (joining s t (alone t)))))
touched_exactly (h_test {q = q} {s = s} {t = t} {u = u} c w h i j p r) z = rw c (by_act (op_cons h op_nil) refl (b_test i j) (touching q (and_body s (join t u) (alone s))))
touched_exactly (h_lim {s = s} {t = t} c h i p) z = let k = keyed h in rw c (by_act k.operands k.suit (b_lim i) (and_body s t k.exactly))
touched_exactly (h_grant {q = q} {r = r} {s = s} {t = t} c h i) z = rw c (by_act (op_cons h op_nil) refl (b_grant i) (touching q (and_body s _ (alone s))))
touched_exactly (h_newkey {q = q} {s = s} c w h u v f i p) z = rw c (by_act (op_cons h op_nil) refl (b_newkey u i) (touching q (and_body s _ (alone s))))
touched_exactly (h_assoc {q = q} {A = A} {s = s} {t = t} c h i) z = rw c (by_act (op_cons h (op_cons i op_nil)) refl b_assoc (touching (Types.key_of A) (touching q (joining s t (alone t)))))
touched_exactly (h_access {q = q} {s = s} c w h i j p r) z = rw c (by_act (op_cons h op_nil) refl (b_access i j) (touching q (and_body s _ (alone s))))
touched_exactly (h_divide {p = p} {q = q} {s = s} {t = t} c h i) z = rw c (by_act (op_cons h (op_cons i op_nil)) refl b_divide (touching p (touching q (joining s t (alone t)))))
touched_exactly (h_spawn c h) z = rw c (by_act op_nil refl b_spawn nothing)
touched_exactly (h_sub h p w q x) z = absurd (false≢true (sym z))
