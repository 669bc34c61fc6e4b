-- Laws that the functions' proofs cite: binders and entries by their kinds, and one turn of each loop.
use mathlib.Core.Path.{◌≡◌, refl, sym, ap, ◌∙◌, subst}
use Prim.Native.Nat.{ℕ, zero, suc, ◌+◌, ◌-◌, ◌/◌, ◌%◌, ◌<◌, ◌≤◌}
use native.Mathlib.Omega.{arith}
use mathlib.Core.List.{List}
use lib.ListN.{get_or, set, replicate}
use Rattle.syntax.specs.Words.{decode, code_in}
use Rattle.syntax.proofs.DecodeLaws.{decode_cases}
use Rattle.typing.specs.Numbered.{Result}
use Rattle.equality.specs.Known.{Known}
use Rattle.equality.proofs.Known.{known_none}
use Rattle.rules.specs.Answer.{result_in}
use Rattle.elaborate.specs.declared.Binder.{Binder}
use Rattle.elaborate.specs.declared.Binder.TheVariants.{Nothing, Function, NewKey}
use Rattle.std.proofs.Common.{Ok, Err}
use Rattle.elaborate.specs.Binders.{binder_of, Bound, bound, bound_one, bound_from, hosts_from}
use Rattle.rules.specs.declared.Typing.{Typing}
use Rattle.rules.specs.declared.Typing.TheVariants.{Makes, Shares, Points}
use Rattle.elaborate.specs.Pass.{Work, work, Answer, refusal, settled, Settled, Out, out, turn, result_by, typed_from, Ended, binders_by, after_binders, numbered_by, after}

-- Kinds

pub no_binder : (byte x a b c d e : ℕ) → (byte ≡ 0x35 → ⊥) → (byte ≡ 0x3E → ⊥) → Nothing ≡ binder_of (decode byte x a b c d e)
unfolding binder_of
no_binder byte x a b c d e h g = decode_cases (λ k. Nothing ≡ binder_of k) byte x a b c d e
    (λ z. refl) (λ z. refl) (λ z. refl) (λ z. refl) (λ z. absurd (h z)) (λ z. refl) (λ z. refl) (λ z. refl) (λ z. refl) (λ z. refl)
    (λ z. refl) (λ z. refl) (λ z. refl) (λ z. absurd (g z)) (λ z. refl) (λ z. refl) (λ z. refl) (λ z. refl) refl

bound_le : (b : Binder) (x : Bound) → (bound_one b x).count ≤ x.count + 3
unfolding bound_one
bound_le Nothing x = omega arith
bound_le (Function v t) x = omega arith
bound_le (NewKey v r) x = omega arith

pub bound_extends : (b : Binder) (x y : Bound) → y ≡ bound_one b x → y.count ≤ x.count + 3
bound_extends b x y h = omega (arith, bound_le b x, ap (λ (z : Bound). z.count) h)

-- Turns

pub bound_turn : (heads slots : List ℕ) (cmds e : ℕ) (x : Bound) {k y : Bound} {b : Binder} → e < cmds → k ≡ bound_from heads slots (cmds - e) e x → b ≡ binder_of (code_in heads slots e)
    → y ≡ bound_one b x → k ≡ bound_from heads slots (cmds - (e + 1)) (e + 1) y
unfolding bound_from
bound_turn heads slots cmds e x {k} {y} {b} h p q r =
    let z : cmds - e ≡ suc (cmds - (e + 1)) = omega arith in
    p ∙ ap (λ (n : ℕ). bound_from heads slots n e x) z ∙ ap (λ (a : Bound). bound_from heads slots (cmds - (e + 1)) (e + 1) a) (ap (λ (c : Binder). bound_one c x) (sym q) ∙ sym r)

pub bound_end : (heads slots : List ℕ) (cmds e : ℕ) (x : Bound) {k : Bound} → cmds ≤ e → k ≡ bound_from heads slots (cmds - e) e x → x ≡ k
unfolding bound_from
bound_end heads slots cmds e x h p = let z : cmds - e ≡ 0 = omega arith in sym (p ∙ ap (λ (n : ℕ). bound_from heads slots n e x) z)

pub host_turn : (values : List ℕ) (n i : ℕ) (vars : List ℕ) {k l : List ℕ} {w : ℕ} → i < n → k ≡ hosts_from values (n - i) i vars → w ≡ get_or values i 0 → l ≡ set vars i (w / 256 % 65536)
    → k ≡ hosts_from values (n - (i + 1)) (i + 1) l
unfolding hosts_from
host_turn values n i vars {k} {l} {w} h p q r =
    let z : n - i ≡ suc (n - (i + 1)) = omega arith in
    p ∙ ap (λ (m : ℕ). hosts_from values m i vars) z ∙ ap (λ (m : List ℕ). hosts_from values (n - (i + 1)) (i + 1) m) (ap (λ (x : ℕ). set vars i (x / 256 % 65536)) (sym q) ∙ sym r)

pub host_end : (values : List ℕ) (n i : ℕ) (vars : List ℕ) {k : List ℕ} → n ≤ i → k ≡ hosts_from values (n - i) i vars → vars ≡ k
unfolding hosts_from
host_end values n i vars h p = let z : n - i ≡ 0 = omega arith in sym (p ∙ ap (λ (m : ℕ). hosts_from values m i vars) z)

-- the count grows by two at most
settled_le : (t : Typing) (e : ℕ) (w : Work) → (settled (result_in (Ok t)) e w).count ≤ w.count + 2
unfolding settled result_in after
settled_le (Makes x s) e w = omega arith
settled_le (Shares x s) e w = omega arith
settled_le (Points x s) e w = omega arith

pub count_le : (t : Typing) (e : ℕ) (w : Work) {n : ℕ} {ts ss os es : List ℕ} → Settled (result_in (Ok t)) e w n ts ss os es → n ≤ w.count + 2
count_le t e w a = omega (arith, a.count, settled_le t e w)

turn_typed : (t : Typing) (e : ℕ) (w : Work) (go : Work → Out) → turn (result_in (Ok t)) e w go ≡ go (settled (result_in (Ok t)) e w)
unfolding turn result_in
turn_typed (Makes x s) e w go = refl
turn_typed (Shares x s) e w go = refl
turn_typed (Points x s) e w go = refl

module _ (anc names vars heads slots : List ℕ) (cmds e : ℕ) (w : Work) {o : Out} (sofar : o ≡ typed_from anc names vars heads slots (cmds - e) e w) (h : e < cmds) where
  step : {r : Result} → r ≡ result_by anc names vars heads slots e w → o ≡ turn r e w (λ v. typed_from anc names vars heads slots (cmds - (e + 1)) (e + 1) v)
  unfolding typed_from
  step {r} now =
      let z : cmds - e ≡ suc (cmds - (e + 1)) = omega arith in
      sofar ∙ ap (λ (m : ℕ). typed_from anc names vars heads slots m e w) z ∙ ap (λ (x : Result). turn x e w (λ v. typed_from anc names vars heads slots (cmds - (e + 1)) (e + 1) v)) (sym now)

  -- an expression that has a type
  pub type_turn : (t : Typing) → result_in (Ok t) ≡ result_by anc names vars heads slots e w → {n : ℕ} {ts ss os es : List ℕ} → Settled (result_in (Ok t)) e w n ts ss os es
      → o ≡ typed_from anc names vars heads slots (cmds - (e + 1)) (e + 1) (work n ts ss os es)
  type_turn t now a =
      step now ∙ turn_typed t e w _
      ∙ λ i. typed_from anc names vars heads slots (cmds - (e + 1)) (e + 1) (work (sym a.count i) (sym a.types i) (sym a.sets i) (sym a.entries i) (sym a.effects i))

  -- the first that has none
  pub type_stop : (k : ℕ) → result_in (Err k) ≡ result_by anc names vars heads slots e w → o ≡ out (Err (refusal k e)) w
  unfolding turn result_in
  type_stop k now = step now

pub type_end : (anc names vars heads slots : List ℕ) (cmds e : ℕ) (w : Work) {o : Out} → cmds ≤ e → o ≡ typed_from anc names vars heads slots (cmds - e) e w → o ≡ out (Ok tt) w
unfolding typed_from
type_end anc names vars heads slots cmds e w h p = let z : cmds - e ≡ 0 = omega arith in p ∙ ap (λ (n : ℕ). typed_from anc names vars heads slots n e w) z

-- what a pass came to
pub ended : {o : Out} {a : Answer} {w : Work} → o ≡ out a w → Ended o a w.types w.sets w.entries w.effects
ended e =
    record {
      answer = ap (λ (o : Out). o.answer) (sym e);
      types = ap (λ (o : Out). o.work.types) (sym e);
      sets = ap (λ (o : Out). o.work.sets) (sym e);
      entries = ap (λ (o : Out). o.work.entries) (sym e);
      effects = ap (λ (o : Out). o.work.effects) (sym e);
    }

-- the binders, then the expressions
pub begun : (anc names values heads slots : List ℕ) (nt nv nc : ℕ) (types sets entries effects : List ℕ) {n : ℕ} {us vs ts : List ℕ} {a : Answer} {ps qs rs ss : List ℕ}
    → us ≡ hosts_from values nv 0 (replicate 64 0) → bound n ts vs ≡ bound_from heads slots nc 0 (bound nt types us)
    → Ended (typed_from anc names vs heads slots nc 0 (work n ts sets entries effects)) a ps qs rs ss
    → Ended (numbered_by anc names values heads slots nt nv nc types sets entries effects) a ps qs rs ss
unfolding numbered_by after_binders binders_by
begun anc names values heads slots nt nv nc types sets entries effects {a = a} {ps} {qs} {rs} {ss} p q h =
    subst (λ (o : Out). Ended o a ps qs rs ss)
    (ap (λ (x : Bound). after_binders anc names heads slots nc x sets entries effects) (q ∙ ap (λ (u : List ℕ). bound_from heads slots nc 0 (bound nt types u)) p))
    h

-- a memory of words that are 0 is right
pub none_known : (anc types sets : List ℕ) (n : ℕ) → Known anc types sets (replicate n 0)
none_known anc types sets n = known_none anc types sets (zeros n)
  where
    zeros : (n i : ℕ) → ◌≡◌ {A = ℕ} (get_or (replicate n 0) i 0) 0
    zeros zero i = refl
    zeros (suc n) zero = refl
    zeros (suc n) (suc i) = zeros n i
