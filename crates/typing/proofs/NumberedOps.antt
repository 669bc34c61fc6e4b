-- Operations on names and effects by which types are worked out by numbers: they agree with those of the order on the names of the job and on sets of them.
use Rattle.std.specs.Prelude.{refl, ℕ, List, length}
use Rattle.typing.specs.Numbered.{Ops, ops_of}
use Rattle.typing.specs.EntryLaws.{Order}
use Rattle.typing.specs.NumberedOps.{Agree}

-- the operations of the order agree with themselves
pub agree_self : (up : List ℕ) → Agree up (ops_of up)
agree_self up =
    record {
      over = λ r u h k l. refl;
      below = λ a b h k. refl;
      eff_below = λ s t h k. refl;
      touch = λ q s h k. refl;
      reduce = λ s h. refl;
      drop = λ r s h k. refl;
      raise = λ r u s h k l. refl;
    }

-- their tests of names and of effects are those of the order
pub agree_order : {up : List ℕ} {O : Ops} → Agree up O → Order (length up) up O.below O.eff_below
agree_order ag = record { names = λ p q h k. ag.below p q h k; sets = λ s t h k. ag.eff_below s t h k }
