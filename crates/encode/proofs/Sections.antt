-- The pen along one table, within its limit.
use mathlib.Core.Path.{◌≡◌, refl, sym, ap}
use Prim.Native.Nat.{ℕ, ◌+◌, ◌*◌, ◌≤◌, ◌<◌}
use native.Mathlib.Omega.{arith}
use mathlib.Core.Bool.{Bool, true, false, cond}
use mathlib.Core.List.{List}
use lib.Dec.{eqb}
use borrow.Author.Tests.{lt-ltb, le-ltb}
use Rattle.syntax.specs.Loading.{JobTables}
use Rattle.syntax.specs.Writing.{Item, fault, within}
use Rattle.std.specs.Prelude.{Ok, Err}
use Rattle.encode.specs.Laid.{most_scratch}
use Rattle.encode.specs.Entries.{limit_of, entry_item, item_in}
use Rattle.encode.specs.Penned.{Pen, Penned, reach_of, fault_in, alone, Sectioned}
use Rattle.encode.proofs.Pens.{Sound, sound_item_of, sound_within, entry_length, penned_fault, penned_as, Along, along_next, along_stop, along_end}

-- a bound that was told
pub under : {i k m : ℕ} → k ≡ m → i < k → i < m
under e h = omega (arith, e, h)

limit_most : (sec : ℕ) → limit_of sec ≤ 512
unfolding limit_of
limit_most sec = at (eqb sec 0) (eqb sec 1) (eqb sec 2)
  where
    at : (a b c : Bool) → cond a 62 (cond b 256 (cond c 64 512)) ≤ 512
    at true b c = omega arith
    at false true c = omega arith
    at false false true = omega arith
    at false false false = omega arith

sound_cond : (b : Bool) {x y : Item} → Sound x → Sound y → Sound (cond b x y)
sound_cond true h k = h
sound_cond false h k = k

module _ (w : JobTables) (sec : ℕ) where
  sound_entry : (i : ℕ) → Sound (entry_item w sec i)
  unfolding entry_item
  sound_entry i =
      sound_cond (eqb sec 0) (sound_item_of 0 _ _) (sound_cond (eqb sec 1) (sound_item_of 1 _ _) (sound_cond (eqb sec 2) (sound_item_of 2 _ _) (sound_item_of 4 _ _)))

  pub sound_in : (i : ℕ) → Sound (item_in w sec i)
  unfolding item_in
  sound_in i = sound_within (limit_of sec) i (entry_item w sec i) (sound_entry i)

  inside : (i : ℕ) → i < limit_of sec → entry_item w sec i ≡ item_in w sec i
  unfolding item_in within
  inside i h = sym (rw (lt-ltb i (limit_of sec) h))

  beyond : (i : ℕ) → limit_of sec ≤ i → item_in w sec i ≡ fault 5
  unfolding item_in within
  beyond i h = rw (le-ltb i (limit_of sec) h)

  module _ {l m : List ℕ} {at p i : ℕ} (x : Along (item_in w sec) l m at p i) where
    -- one more than the limit
    pub section_past : (n : ℕ) {k : ℕ} → i < n → i ≤ limit_of sec → k ≡ limit_of sec → k ≤ i → Sectioned (item_in w sec) (limit_of sec) n l m at (Err (record { number = 5; place = p }))
    section_past n {k} b e q h =
        record { penned = along_stop x b (penned_fault refl (omega arith) refl (beyond i (omega (arith, q, h)))) (omega arith); room = omega (arith, x.room, e) }

    module _ {k : List ℕ} {r : Pen} (y : Penned m k p r (alone (entry_item w sec i))) (h : i < limit_of sec) where
      here : Penned m k p r (alone (item_in w sec i))
      here = penned_as (ap alone (inside i h)) y

      -- an entry that has a fault
      pub section_stop : (n : ℕ) → i < n → 0 < fault_in r → Sectioned (item_in w sec) (limit_of sec) n l k at r
      section_stop n b f = record { penned = along_stop x b here f; room = omega (arith, x.room, y.reach, entry_length (entry_item w sec i)) }

      pub section_next : fault_in r ≤ 0 → Along (item_in w sec) l k at (reach_of r) (i + 1)
      section_next f = along_next x (sound_in i) here f

    pub section_end : (n : ℕ) → i ≡ n → i ≤ limit_of sec → Sectioned (item_in w sec) (limit_of sec) n l m at (Ok p)
    section_end n a e = record { penned = along_end x a; room = omega (arith, x.room, e) }

    -- there is room for one entry more
    pub section_room : at + 14 * limit_of sec ≤ most_scratch → i < limit_of sec → (p + 14 ≤ most_scratch) × (i < 512)
    section_room h k = (omega (arith, x.room, h, k), omega (arith, limit_most sec, k))
